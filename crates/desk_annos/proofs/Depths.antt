-- Walking over element values of a depth.
use Rattle.std.proofs.Common.{◌≡◌, ℕ, suc, ◌+◌, ◌-◌, ◌<◌, ◌≤◌, List, Some, None, Result, Err, refl, append-nil, arith}
use Rattle.desk_base.specs.Spot.{Spot}
use Rattle.desk_base.specs.Entries.{Pool}
use Rattle.desk_base.specs.declared.kinds.Used.{Used}
use Rattle.desk_base.specs.declared.faults.FaultKind.TheVariants as faults
use Rattle.desk_base.specs.declared.faults.ReadFault.{ReadFault}
use Rattle.desk_format.specs.Layouts.{Layout, Check}
use Rattle.desk_format.specs.Rows.{tag_check, tag_branch}
use Rattle.desk_format.specs.Annotations.{element, element_cases}
use Rattle.desk_format.specs.Reading.{read}
use Rattle.desk_format.specs.Walk.{walk, walk_at, Walks, Stops}
use Rattle.desk_annos.specs.TagReads.{ReadsTag}

less : (d : ℕ) → d < 65 → 65 - d ≡ suc (65 - (d + 1))
less d h = omega arith

spent : (d : ℕ) → 65 ≤ d → 65 - d ≡ 0
spent d h = omega arith

-- an element value from depth 65 on
pub too_deep : (us : List Used) (pool : Pool) (spot : Spot) (d : ℕ) → 65 ≤ d → walk (read pool (element (65 - d))) (walk_at us spot) ≡ Err (record { fault = record { kind = faults.Depth; at = spot.at }; before = us })
unfolding element read walk
too_deep us pool spot d h = rw (spent d h, append-nil us) refl

-- one of a known tag, of a lower depth
pub element_selected : {T : Type 0} (result : Result T ReadFault) (spot : Spot) (us vs : List Used) (pool : Pool) (layout : Layout) (old new : Spot) (d tag : ℕ) → d < 65
    → ReadsTag old new tag → tag_check faults.ElementTag (element_cases (element (65 - (d + 1)))) tag ≡ None → tag_branch (element_cases (element (65 - (d + 1)))) tag ≡ layout
    → Walks result (walk (read pool layout) (walk_at vs new)) spot us → Walks result (walk (read pool (element (65 - d))) (walk_at vs old)) spot us
unfolding element
element_selected result spot us vs pool layout old new d tag h t ok is k =
    rw (less d h, t.selects vs pool (tag_check faults.ElementTag (element_cases (element (65 - (d + 1))))) (tag_branch (element_cases (element (65 - (d + 1))))) ok, is) k

pub element_refused : (us : List Used) (pool : Pool) (old new : Spot) (d tag : ℕ) → d < 65 → ReadsTag old new tag → tag_check faults.ElementTag (element_cases (element (65 - (d + 1)))) tag ≡ Some faults.ElementTag
    → walk (read pool (element (65 - d))) (walk_at us old) ≡ Err (record { fault = record { kind = faults.ElementTag; at = old.at }; before = us })
unfolding element
element_refused us pool old new d tag h t bad =
    rw (less d h) (t.refuses us pool (tag_check faults.ElementTag (element_cases (element (65 - (d + 1))))) (tag_branch (element_cases (element (65 - (d + 1))))) faults.ElementTag bad)

pub element_stopped : (e : ReadFault) (us : List Used) (pool : Pool) (old : Spot) (d : ℕ) → d < 65
    → ((vs : List Used) (entries : Pool) (check : Check) (branch : ℕ → Layout) → Stops e (walk (read entries (Layout.tagged check branch)) (walk_at vs old)) vs)
    → Stops e (walk (read pool (element (65 - d))) (walk_at us old)) us
unfolding element
element_stopped e us pool old d h k = rw (less d h) (k us pool _ _)
