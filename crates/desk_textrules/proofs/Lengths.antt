-- The length of a text with each source exchanged, measured from one source to the next.
use Rattle.std.proofs.Common.{◌≡◌, ◌<◌, ◌≤◌, ◌+◌, ◌-◌, ℕ, List, [], ◌∷◌, ◌++◌, length, drop, ap, ◌∙◌, arith}
use Rattle.std.proofs.lemmas.List.{length-append}
use Rattle.desk_base.specs.Names.{Text}
use Rattle.desk_patterns.specs.TextRules.{TextRule}
use Rattle.desk_patterns.specs.Seen.{NoHits}
use Rattle.desk_textrules.specs.TextImages.{Piece, pieces, written, replaced}
use Rattle.desk_textrules.specs.TextImages.Piece.{exchanged}
use Rattle.desk_textrules.proofs.Pieces.{IsSourceAt, bytes_in, source_in, next_pieces, written_bytes, last_bytes, bytes_length}

-- how many bytes the rest of a text gives
abbrev pub rest_length : List TextRule → Text → ℕ → ℕ
rest_length rules text done = length (written (pieces rules (drop done text)))

-- how far a text is measured: so much room is left of the most bytes that it may have
pub record IsMeasuredTo (rules : List TextRule) (text : Text) (most done room : ℕ) : Type 0 where
  pub within : done ≤ length text
  pub room_is : length (replaced rules text) + room ≡ most + rest_length rules text done

pub next_length : (rules : List TextRule) (text : Text) (done at taken : ℕ) (target : Text) → done ≤ length text → IsSourceAt rules text done at taken target → rest_length rules text done ≡ (at - done) + (length target + rest_length rules text (at + taken))
next_length rules text done at taken target within is =
    let rest : List Piece = pieces rules (drop (at + taken) text) in
    let bytes : Text = bytes_in text done at in
    let whole : rest_length rules text done ≡ length (bytes ++ (target ++ written rest)) = ap (λ (ps : List Piece). length (written ps)) (next_pieces rules text done at taken target is) ∙ ap length (written_bytes bytes (exchanged (source_in text at taken) target ∷ rest)) in
    omega (arith, whole, length-append bytes (target ++ written rest), length-append target (written rest), bytes_length text done at is.low (omega (arith, is.inside)), is.low)

pub last_length : (rules : List TextRule) (text : Text) (done : ℕ) → done ≤ length text → NoHits rules text done (length text) → rest_length rules text done ≡ length text - done
last_length rules text done within none =
    let bytes : Text = bytes_in text done (length text) in
    let whole : rest_length rules text done ≡ length (bytes ++ []) = ap (λ (ps : List Piece). length (written ps)) (last_bytes rules text done within none) ∙ ap length (written_bytes bytes []) in
    omega (arith, whole, length-append bytes [], bytes_length text done (length text) within (omega arith))

pub measured_more : (rules : List TextRule) (text : Text) (most done room at taken next : ℕ) (target : Text) → IsMeasuredTo rules text most done room → IsSourceAt rules text done at taken target → next + ((at - done) + length target) ≡ room → IsMeasuredTo rules text most (at + taken) next
measured_more rules text most done room at taken next target so is e = record {
  within = is.inside;
  room_is = omega (arith, so.room_is, next_length rules text done at taken target so.within is);
}

-- where no room is left for what comes next, the text is too long
pub too_long : (rules : List TextRule) (text : Text) (most done room at taken : ℕ) (target : Text) → IsMeasuredTo rules text most done room → IsSourceAt rules text done at taken target → room < (at - done) + length target → length (replaced rules text) ≤ most → ⊥
too_long rules text most done room at taken target so is less fits = omega (arith, so.room_is, next_length rules text done at taken target so.within is)

pub end_too_long : (rules : List TextRule) (text : Text) (most done room : ℕ) → IsMeasuredTo rules text most done room → NoHits rules text done (length text) → room < length text - done → length (replaced rules text) ≤ most → ⊥
end_too_long rules text most done room so none less fits = omega (arith, so.room_is, last_length rules text done so.within none)

pub measured_whole : (rules : List TextRule) (text : Text) (most done room : ℕ) → IsMeasuredTo rules text most done room → NoHits rules text done (length text) → length (replaced rules text) + room ≡ most + (length text - done)
measured_whole rules text most done room so none = omega (arith, so.room_is, last_length rules text done so.within none)
