use Rattle.std.proofs.Common.{◌≡◌, ◌∙◌, ap, map}
use Rattle.std.proofs.lemmas.Result.{IfOk-weaker}
use Rattle.desk_properties.specs.Properties.{Entry}
use Rattle.desk_packages.specs.Keys.{RiseBy}
use Rattle.desk_rules.proofs.Ordered.{order_rises, rise_of_keys}
use Rattle.desk_rules.specs.RuleFiles.{in_order}
use Rattle.desk_rules.proofs.reading.read_all.Goals as goal

pub returns-clause-rising : goal.returns-clause-rising
returns-clause-rising g c =
    IfOk-weaker c.read_each.result (λ rules. map g.R.Keyed.key_of rules.items ≡ map (λ (e : Entry). e.0) c.in_ok-entries.entries.entries) (λ rules. RiseBy g.R.Keyed.key_of rules.items)
    (λ rules h. rise_of_keys g.R.Keyed.key_of rules.items (in_order c.in_ok-entries_in.field-0.entries) (h ∙ ap (map (λ (e : Entry). e.0)) c.in_ok-entries.ensures) (order_rises c.in_ok-entries_in.field-0.entries))
    c.read_each.ensures.keyed
