-- Steps of walks, in the form that the tactics use.
use Rattle.std.proofs.Common.{◌≡◌, ℕ, zero, suc, ◌<◌, ◌≤◌, List, length, take, drop, get_or, None, Result, Ok, refl, sym, ap, ◌∙◌}
use Rattle.std.specs.Prelude.{replicate}
use Rattle.std.specs.Int.{Width, w8, byte_len, from_be_bytes}
use Rattle.desk_base.specs.Spot.{Spot, past}
use Rattle.desk_base.specs.Entries.{Pool}
use Rattle.desk_base.specs.declared.kinds.Used.{Used}
use Rattle.desk_base.specs.declared.faults.ReadFault.{ReadFault}
use Rattle.desk_format.specs.declared.attributes.Slot.{Slot}
use Rattle.desk_format.specs.declared.attributes.Slot.TheVariants as slot
use Rattle.desk_format.specs.Layouts.{Layout, Check, any}
use Rattle.desk_format.specs.Rows.{rows, slot_layout, row_layout}
use Rattle.desk_format.specs.Reading.{Failed, Reader, read, times, number_at, and_then, value_of}
use Rattle.desk_format.specs.Walk.{Walk, walk, walk_at, Walks, Stops}
use Rattle.desk_format.proofs.Walks.{stops, walk-nothing, row_walks, row_last, row_stops, number_walks, then_fails, tagged_walks, tagged_faults}
use Rattle.desk_annos.specs.TagReads.{ReadsTag}

-- the last of a row
pub last_walked : {T : Type 0} (result : Result T ReadFault) (spot : Spot) (us : List Used) (pool : Pool) (a : Layout) (w : Walk)
    → Walks result (walk (read pool a) w) spot us → Walks result (walk (read pool (Layout.row a Layout.nothing)) w) spot us
last_walked result spot us pool a w h = rw (row_last pool a w) h

-- two of a row
pub pair_walked : (us : List Used) (pool : Pool) (a b : Layout) (old mid new : Spot) → walk (read pool a) (walk_at us old) ≡ Ok (walk_at us mid) → walk (read pool b) (walk_at us mid) ≡ Ok (walk_at us new)
    → walk (read pool (Layout.row a (Layout.row b Layout.nothing))) (walk_at us old) ≡ Ok (walk_at us new)
pair_walked us pool a b old mid new h k = row_walks pool a (Layout.row b Layout.nothing) (walk_at us old) (walk_at us mid) h ∙ row_last pool b (walk_at us mid) ∙ k

pub pair_stopped : (e : ReadFault) (us : List Used) (pool : Pool) (a b : Layout) (old mid : Spot) → walk (read pool a) (walk_at us old) ≡ Ok (walk_at us mid) → Stops e (walk (read pool b) (walk_at us mid)) us
    → Stops e (walk (read pool (Layout.row a (Layout.row b Layout.nothing))) (walk_at us old)) us
pair_stopped e us pool a b old mid h k = stops e _ _ us k (λ f p. row_walks pool a (Layout.row b Layout.nothing) (walk_at us old) (walk_at us mid) h ∙ row_last pool b (walk_at us mid) ∙ p)

-- no bytes
pub nothing_walked : (us : List Used) (pool : Pool) (spot : Spot) → walk (read pool Layout.nothing) (walk_at us spot) ≡ Ok (walk_at us spot)
unfolding read
nothing_walked us pool spot = walk-nothing (walk_at us spot)

-- a slot of a row
pub slot_stopped : (e : ReadFault) (us : List Used) (pool : Pool) (slots : List Slot) (i : ℕ) (w : Walk) (total : Result Walk Failed) → i < length slots
    → walk (read pool (row_layout (drop i slots))) w ≡ total → Stops e (walk (read pool (slot_layout (get_or slots i slot.Number))) w) us → Stops e total us
slot_stopped e us pool slots i w total h so_far k = stops e _ _ us k (λ f p. row_stops pool slots i w total f h so_far p)

-- a table, behind a count of any width
pub sized_table_walked : {T : Type 0} (result : Result T ReadFault) (spot : Spot) (us : List Used) (pool : Pool) (width : Width) (each : Layout) (w w' : Walk) (n : ℕ)
    → walk (number_at width any) w ≡ Ok w' → n ≡ from_be_bytes width (take (byte_len width) w.left)
    → Walks result (walk (times n (read pool each)) w') spot us → Walks result (walk (read pool (Layout.table width each)) w) spot us
unfolding read
sized_table_walked result spot us pool width each w w' n h is k =
    rw (number_walks width any (λ t. times (value_of width t) (read pool each)) w w' h) (rw (sym is) k)

pub sized_table_stopped : (e : ReadFault) (us : List Used) (pool : Pool) (width : Width) (each : Layout) (w : Walk)
    → Stops e (walk (number_at width any) w) us → Stops e (walk (read pool (Layout.table width each)) w) us
unfolding read
sized_table_stopped e us pool width each w h = stops e _ _ us h (λ f k. then_fails (number_at width any) (λ t. times (value_of width t) (read pool each)) w f k)

-- copies of a layout, one behind the other
pub copies_are_times : (pool : Pool) (l : Layout) (n : ℕ) → read pool (rows (replicate n l)) ≡ times n (read pool l)
unfolding read times
copies_are_times pool l zero = refl
copies_are_times pool l (suc n) = ap (λ (r : Reader). and_then (read pool l) (λ _. r)) (copies_are_times pool l n)

pub copies_walked : {T : Type 0} (result : Result T ReadFault) (spot : Spot) (us : List Used) (pool : Pool) (l : Layout) (n : ℕ) (w : Walk)
    → Walks result (walk (times n (read pool l)) w) spot us → Walks result (walk (read pool (rows (replicate n l))) w) spot us
copies_walked result spot us pool l n w h = rw (copies_are_times pool l n) h

-- a tag, and what it selects
pub reads_tag : (old new : Spot) (tag : ℕ) → 1 ≤ length old.left → tag ≡ from_be_bytes w8 (take 1 old.left) → new ≡ past 1 old → ReadsTag old new tag
reads_tag old new tag room is moved = record {
  selects = λ us pool check branch ok.
      tagged_walks pool check branch (walk_at us old) tag room is ok ∙ ap (λ (s : Spot). walk (read pool (branch tag)) (walk_at us s)) (sym moved);
  refuses = λ us pool check branch kind bad. tagged_faults pool check branch (walk_at us old) tag kind room is bad;
}

pub nothing_selected : (us : List Used) (pool : Pool) (check : Check) (branch : ℕ → Layout) (old new : Spot) (tag : ℕ)
    → ReadsTag old new tag → check tag ≡ None → branch tag ≡ Layout.nothing
    → walk (read pool (Layout.tagged check branch)) (walk_at us old) ≡ Ok (walk_at us new)
nothing_selected us pool check branch old new tag t ok is = rw (t.selects us pool check branch ok, is) (nothing_walked us pool new)
