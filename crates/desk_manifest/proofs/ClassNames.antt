-- The name of a class that stays.
use Rattle.std.proofs.Common.{◌≡◌, Bool, false, cond, sym, ap, ◌∙◌}
use Rattle.desk_base.specs.Names.{Text}
use Rattle.desk_lines.specs.Blanks.{trimmed}
use Rattle.desk_rules.specs.Rules.{Rules}
use Rattle.desk_rules.specs.Images.{dotted}
use Rattle.desk_clauses.specs.Grammar.{between_blanks}
use Rattle.desk_clauses.proofs.Between.{between_own}
use Rattle.desk_manifest.specs.Headers.{has_tab, class_value}

pub class_stays : (rules : Rules) (value name : Text) → has_tab value ≡ false → name ≡ trimmed value → dotted rules.renames name ≡ name → class_value rules value ≡ value
class_stays rules value name none name_is same =
    ap (λ (b : Bool). cond b value (between_blanks (dotted rules.renames (trimmed value)) value)) none
    ∙ ap (λ (t : Text). between_blanks t value) (ap (dotted rules.renames) (sym name_is) ∙ same ∙ name_is)
    ∙ between_own value
