use Rattle.std.proofs.Common.{◌∙◌, ◌≤◌, ap, length}
use Rattle.std.specs.FinMap as map
use Rattle.std.specs.Ordering.{nat_cmp}
use Rattle.std.specs.Cmp.Lexicographic.{slice_cmp}
use Rattle.std.proofs.lemmas.Map.Views.{All-values-insert_entry}
use Rattle.desk_base.specs.Limits.{rule_size}
use Rattle.desk_base.proofs.TextEntries.{one_inserted}
use Rattle.desk_rules.specs.Files.{Files}
use Rattle.desk_rules.proofs.files.RuleFiles.add.Goals as goal

pub invariant_of-self-2 : goal.invariant_of-self-2
invariant_of-self-2 c =
    rw c.in_ok-insert.ensures.entries (All-values-insert_entry (slice_cmp nat_cmp) c.args.name c.args.content (λ content. length content ≤ rule_size) _ c.self.invariant c.requires.small)

pub returns-clause-ok : goal.returns-clause-ok
returns-clause-ok c =
    one_inserted c.self.inside.files.entries c.insert.new.self.entries c.args.name c.args.content c.in_ok-insert.ensures.updates.0
    ∙ ap (λ (m : Files). map.insert m c.args.name c.args.content) c.self.view_is
