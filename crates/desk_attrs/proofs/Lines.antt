-- Rows of two numbers that are passed at once.
use Rattle.std.proofs.Common.{◌≡◌, ℕ, zero, suc, ◌+◌, ◌*◌, ◌≤◌, List, [], ◌∷◌, length, drop, Ok, refl, ap, ap₂, ◌∙◌, arith}
use Rattle.std.proofs.lemmas.List.{drop-drop, length-drop}
use Rattle.std.specs.Int.{w16}
use Rattle.desk_base.specs.Spot.{Spot, past}
use Rattle.desk_base.specs.Entries.{Pool}
use Rattle.desk_base.specs.declared.kinds.Used.{Used}
use Rattle.desk_format.specs.declared.attributes.Slot.TheVariants as slots
use Rattle.desk_format.specs.Layouts.{Layout, any}
use Rattle.desk_format.specs.Rows.{row_layout}
use Rattle.desk_format.specs.Reading.{read, times}
use Rattle.desk_format.specs.Walk.{walk, walk_at}
use Rattle.desk_format.proofs.Walks.{number_is, then_walks, walk-nothing}
use Rattle.desk_annos.proofs.Steps.{pair_walked}

-- two steps are one
past_past : (m n : ℕ) (spot : Spot) → past n (past m spot) ≡ past (m + n) spot
past_past m n spot = ap₂ (λ (at : ℕ) (left : List ℕ). record { at = at; left = left }) (omega arith) (drop-drop n m spot.left)

number_passed : (us : List Used) (pool : Pool) (spot : Spot) → 2 ≤ length spot.left → walk (read pool (Layout.number w16 any)) (walk_at us spot) ≡ Ok (walk_at us (past 2 spot))
unfolding read
number_passed us pool spot room = number_is w16 any (walk_at us spot) room refl

row_passed : (us : List Used) (pool : Pool) (spot : Spot) → 4 ≤ length spot.left → walk (read pool (row_layout (slots.Number ∷ slots.Number ∷ []))) (walk_at us spot) ≡ Ok (walk_at us (past 4 spot))
unfolding row_layout
row_passed us pool spot room =
    let more : 2 ≤ length (drop 2 spot.left) = omega (arith, length-drop 2 spot.left) in
    pair_walked us pool (Layout.number w16 any) (Layout.number w16 any) spot (past 2 spot) (past 4 spot)
    (number_passed us pool spot (omega arith))
    (number_passed us pool (past 2 spot) more ∙ ap (λ (s : Spot). Ok (walk_at us s)) (past_past 2 2 spot))

-- so many rows, which are all there
pub lines_passed : (us : List Used) (pool : Pool) (n : ℕ) (spot : Spot) → 4 * n ≤ length spot.left
    → walk (times n (read pool (row_layout (slots.Number ∷ slots.Number ∷ [])))) (walk_at us spot) ≡ Ok (walk_at us (past (4 * n) spot))
unfolding times
lines_passed us pool zero spot room = walk-nothing (walk_at us spot) ∙ ap (λ (n : ℕ). Ok (record { uses = us; at = n; left = spot.left })) (omega arith)
lines_passed us pool (suc n) spot room =
    let each = read pool (row_layout (slots.Number ∷ slots.Number ∷ [])) in
    let enough : 4 * n ≤ length (drop 4 spot.left) = omega (arith, length-drop 4 spot.left) in
    then_walks each (times n each) (walk_at us spot) (walk_at us (past 4 spot)) (row_passed us pool spot (omega arith))
    ∙ lines_passed us pool n (past 4 spot) enough
    ∙ ap (λ (s : Spot). Ok (walk_at us s)) (past_past 4 (4 * n) spot ∙ ap (λ (k : ℕ). past k spot) (omega arith))
