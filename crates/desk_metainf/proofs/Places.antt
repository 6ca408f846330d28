-- The place of a provider name in its line.
use Rattle.std.proofs.Common.{◌≡◌, ◌≤◌, ◌+◌, ℕ, length, drop, ap, ◌∙◌, arith}
use Rattle.desk_base.specs.Names.{Text}
use Rattle.desk_lines.specs.Cuts.{until, onward}
use Rattle.desk_lines.specs.Blanks.{not_blank, trimmed_end, leading_blanks}
use Rattle.desk_lines.proofs.Cuts.{drop_until, until_within}
use Rattle.desk_lines.proofs.Trimming.{trimmed_end_within}
use Rattle.desk_metainf.specs.Services.{is_hash, provider}
use Rattle.desk_metainf.specs.Reading.{IsProviderAt}

-- the place of what was cut before `#` and trimmed
pub place_of : (content code name : Text) (from to : ℕ) → code ≡ until is_hash content → from ≡ length (leading_blanks code) → name ≡ trimmed_end (drop from code) → to ≡ from + length name → IsProviderAt content from to
place_of content code name from to code_is from_is name_is to_is =
    let blanks : from ≡ length (leading_blanks (until is_hash content)) = from_is ∙ ap (λ (t : Text). length (leading_blanks t)) code_is in
    let inner : drop from code ≡ onward not_blank (until is_hash content) = ap (λ (n : ℕ). drop n code) from_is ∙ drop_until not_blank code ∙ ap (onward not_blank) code_is in
    let named : name ≡ provider content = name_is ∙ ap trimmed_end inner in
    let size : to ≡ from + length (provider content) = to_is ∙ ap (λ (t : Text). from + length t) named in
    record {
      from_is = blanks;
      to_is = size;
      in_order = omega arith;
      inside = omega (arith, trimmed_end_within (onward not_blank (until is_hash content)), until_within not_blank (until is_hash content), until_within is_hash content);
    }
