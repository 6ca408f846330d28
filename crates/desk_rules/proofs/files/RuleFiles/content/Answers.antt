use Rattle.std.proofs.Common.{◌≡◌, ◌∙◌, ◌≤◌, ap, sym, subst, length, List, ℕ, Option, Some, rules}
use Rattle.std.specs.FinMap as map
use Rattle.std.specs.Ordering.{nat_cmp}
use Rattle.std.specs.Cmp.Lexicographic.{slice_cmp}
use Rattle.std.specs.BTreeMap.{is_at}
use Rattle.std.specs.Option.{IfSome}
use Rattle.std.proofs.lemmas.Map.Views.{IfSome-lookup_from_All}
use Rattle.desk_base.specs.Limits.{rule_size}
use Rattle.desk_base.proofs.TextEntries.{entry_at, get_text}
use Rattle.desk_rules.specs.Files.{Files}
use Rattle.desk_rules.proofs.files.RuleFiles.content.Goals as goal

pub returns-in-None-clause-answer : goal.returns-in-None-clause-answer
returns-in-None-clause-answer c = ap (λ (m : Files). map.get m c.args.name.now) (sym c.self.view_is) ∙ get_text c.self.inside.files.entries c.args.name.now ∙ search rules

pub returns-in-Some-clause-answer : goal.returns-in-Some-clause-answer
returns-in-Some-clause-answer c = ap (λ (m : Files). map.get m c.args.name.now) (sym c.self.view_is) ∙ get_text c.self.inside.files.entries c.args.name.now ∙ search rules

pub returns-in-Some-clause-small : goal.returns-in-Some-clause-small
returns-in-Some-clause-small c =
    let found : entry_at c.self.inside.files.entries c.args.name.now ≡ Some c.as_bytes.result.now = search rules in
    subst (λ (o : Option (List ℕ)). IfSome o (λ t. length t ≤ rule_size)) found
    (IfSome-lookup_from_All (λ t. length t ≤ rule_size) (is_at (slice_cmp nat_cmp c.args.name.now)) c.self.inside.files.entries c.self.invariant)
