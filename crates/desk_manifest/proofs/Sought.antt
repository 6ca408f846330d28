-- The first Bundle-SymbolicName, sought line by line.
use Rattle.std.proofs.Common.{◌≡◌, ◌≤◌, ◌+◌, ◌-◌, ℕ, Bool, true, false, ◌==◌, List, [], ◌∷◌, length, take, Option, Some, refl, sym, ap, ap₂, ◌∙◌, arith, length-append}
use Rattle.std.proofs.lemmas.List.{take_at}
use Rattle.std.proofs.lemmas.Bool.{eqb-true}
use Rattle.desk_base.specs.Names.{Text, is_empty}
use Rattle.desk_lines.specs.declared.lines.LineEnd.{LineEnd}
use Rattle.desk_lines.specs.Lines.{Line, lines, end_bytes, joined}
use Rattle.desk_rules.specs.Rules.{Rules}
use Rattle.desk_sections.specs.Sections.{Item, header, grouped, value_of}
use Rattle.desk_sections.specs.Reading.{IsContinued}
use Rattle.desk_manifest.specs.Manifests.{bundle_version}
use Rattle.desk_manifest.proofs.Grouped.{grouped_further}

abbrev pub sought : Rules → Text → Option Text
sought rules text = bundle_version rules (grouped (lines text)).items

-- the continuation lines with which a text begins
pub further_of : (text : Text) (before last : LineEnd) (rest : Text) → (k : IsContinued text before last rest) → (lines (take (length text - length rest) text) ≡ k.further) × ((grouped (lines text)).further ≡ k.further)
further_of text before last rest k =
    let size : length text ≡ length (joined k.further) + length rest = ap length k.whole ∙ length-append (joined k.further) rest in
    let count : length (joined k.further) ≡ length text - length rest = omega (arith, size) in (
      ap lines (ap (take (length text - length rest)) k.whole ∙ take_at (joined k.further) rest (length text - length rest) count) ∙ k.own,
      ap (λ (ls : List Line). (grouped ls).further) k.lines_are ∙ (grouped_further k.further (lines rest) k.all k.no_more).0,
    )

pub empty_by : (t : Text) (b : Bool) → (length t == 0) ≡ b → is_empty t ≡ b
empty_by [] b h = h
empty_by (x ∷ t) true h = absurd (let none : length (x ∷ t) ≡ 0 = eqb-true (length (x ∷ t)) 0 h in omega (arith, none))
empty_by (x ∷ t) false h = refl
