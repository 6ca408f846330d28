use Rattle.std.proofs.Common.{◌≡◌, None, sym, ◌∙◌}
use Rattle.std.proofs.lemmas.Map.Text.{btree_map_updates_str}
use Rattle.desk_base.proofs.Results.{never_copied}
use Rattle.desk_class.specs.Numbers.{number_at}
use Rattle.desk_class.proofs.Numbering.{put_keeps, put_comes}
use Rattle.desk_class.proofs.numbers.number_of_text.Goals as goal

pub returns-clause-keeps : goal.returns-clause-keeps
returns-clause-keeps c =
    let none : number_at c.args.by_text.now c.args.text.now ≡ None = sym c.get.ensures.value ∙ never_copied c.get.result c.in_default.not-Some in
    put_keeps c.args.by_text.now c.insert.new.self c.args.text.now c.args.index none (λ t. btree_map_updates_str c.args.text.now c.args.by_text.now c.insert.new.self _ c.in_ok-insert.ensures.updates t)

pub returns-clause-comes : goal.returns-clause-comes
returns-clause-comes c =
    put_comes c.args.by_text.now c.insert.new.self c.args.text.now c.args.index (λ t. btree_map_updates_str c.args.text.now c.args.by_text.now c.insert.new.self _ c.in_ok-insert.ensures.updates t)
