use Rattle.std.proofs.Common.{List, Result, Ok, Err, IfOk, ap, ◌≡◌, ◌∙◌}
use Rattle.desk_base.specs.Names.{Text}
use Rattle.desk_class.specs.Held.{held_in, each_once, ascending}
use Rattle.desk_class.proofs.Once.{once_ascending}
use Rattle.desk_class.proofs.class.ClassView.class_names.Goals as goal

-- names in byte order, of names that stand once
listed : {E : Type 0} (r : Result (List Text) E) (names ts : List Text) → IfOk r (λ list. list ≡ ascending names) → names ≡ each_once ts → IfOk r (λ list. list ≡ ascending ts)
listed (Ok list) names ts e once = e ∙ ap ascending once ∙ once_ascending ts
listed (Err x) names ts e once = tt

pub returns : goal.returns
returns c = record { held = listed c.in_order.result c.in_ok-names.names (held_in c.args.self.now) c.in_order.ensures c.in_ok-names.ensures.held }
