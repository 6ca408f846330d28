-- Walking by one reader and then by another.
use Rattle.std.proofs.Common.{◌≡◌, ℕ, zero, suc, ◌+◌, ◌-◌, ◌<◌, ◌≤◌, List, ◌∷◌, ◌++◌, length, take, drop, Some, None, Result, Ok, Err, refl, sym, ap, ◌∙◌, append_assoc, append-nil, arith, nat_eq, get_or, drop-cons, add-one, ap₂, ne_eqb, Bool, true, false, nat_lt}
use Rattle.std.specs.Int.{Width, w8, w16, w32, byte_len, from_be_bytes}
use Rattle.std.proofs.lemmas.Bool.{le-ltb, lt-ltb}
use Rattle.desk_base.specs.declared.faults.FaultKind.{FaultKind}
use Rattle.desk_base.specs.declared.faults.FaultKind.TheVariants as faults
use Rattle.desk_base.specs.declared.kinds.Used.{Used}
use Rattle.desk_format.specs.Trees.{Tree, Use, uses}
use Rattle.desk_format.specs.Layouts.{Layout, Check, any}
use Rattle.desk_format.specs.Reading.{Got, Failed, Reader, index_at, raw_at, code_at, attribute_at, name_of, behind, number_at, nothing_at, and_then, times, fenced, fence_fault, read, value_of}
use Rattle.desk_base.specs.Spot.{Spot}
use Rattle.desk_format.specs.Walk.{Walks, Walk, walked, walk, Stops}
use Rattle.desk_format.specs.Rows.{slot_layout, row_layout}
use Rattle.desk_base.specs.Entries.{Pool, text_at}
use Rattle.desk_base.specs.Misfits.{misfit}
use Rattle.desk_base.specs.declared.kinds.UseKind.TheVariants as kinds
use Rattle.desk_base.specs.declared.kinds.UseKind.{UseKind}
use Rattle.desk_format.proofs.Steps.{item_ok}
use Rattle.desk_base.specs.declared.faults.ReadFault.{ReadFault}
use Rattle.desk_base.specs.declared.faults.ReadFault.TheVariants as read_faults
use Rattle.desk_format.specs.declared.attributes.Slot.{Slot}
use Rattle.desk_format.specs.declared.attributes.Slot.TheVariants as slot
use Rattle.std.proofs.lemmas.List.{drop_all}

abbrev pub walking : List Used → Got → Walk
walking us got = record { uses = us ++ uses got.tree; at = got.at; left = got.left }

abbrev pub failing : List Used → Failed → Failed
failing us e = record { fault = e.fault; before = us ++ e.before }

behind-walked : (us : List Used) (a : Tree Use) (r : Result Got Failed) → walked us (behind a r) ≡ walked (us ++ uses a) r
behind-walked us a (Ok b) = ap (λ (vs : List Used). Ok (record { uses = vs; at = b.at; left = b.left })) (sym (append_assoc us (uses a) (uses b.tree)))
behind-walked us a (Err e) = ap (λ (vs : List Used). Err (record { fault = e.fault; before = vs })) (sym (append_assoc us (uses a) e.before))

-- behind what the first read
pub then_reads : (first : Reader) (second : Tree Use → Reader) (w : Walk) (a : Got) → first w.at w.left ≡ Ok a → walk (and_then first second) w ≡ walk (second a.tree) (walking w.uses a)
unfolding walk and_then
then_reads first second w a e = rw e (behind-walked w.uses a.tree (second a.tree a.at a.left))

pub then_stops : (first : Reader) (second : Tree Use → Reader) (w : Walk) (e : Failed) → first w.at w.left ≡ Err e → walk (and_then first second) w ≡ Err (failing w.uses e)
unfolding walk and_then
then_stops first second w e p = rw p refl

pub walk_ok : (us : List Used) (w' : Walk) (r : Result Got Failed) → walked us r ≡ Ok w' → (a : Got) × (r ≡ Ok a) × (walking us a ≡ w')
walk_ok us w' (Ok a) e = (a, refl, cc)
walk_ok us w' (Err f) e = absurd cc

pub walk_err : (us : List Used) (e : Failed) (r : Result Got Failed) → walked us r ≡ Err e → (f : Failed) × (r ≡ Err f) × (failing us f ≡ e)
walk_err us e (Ok a) p = absurd cc
walk_err us e (Err f) p = (f, refl, cc)

-- where the second does not look at what the first read
pub then_walks : (first second : Reader) (w w' : Walk) → walk first w ≡ Ok w' → walk (and_then first (λ _. second)) w ≡ walk second w'
unfolding walk
then_walks first second w w' e =
    let p = walk_ok w.uses w' (first w.at w.left) e in
    then_reads first (λ _. second) w p.0 p.1 ∙ ap (walk second) p.2

pub then_fails : (first : Reader) (second : Tree Use → Reader) (w : Walk) (e : Failed) → walk first w ≡ Err e → walk (and_then first second) w ≡ Err e
unfolding walk
then_fails first second w e h =
    let p = walk_err w.uses e (first w.at w.left) h in
    then_stops first second w p.0 p.1 ∙ ap (λ (x : Failed). Err x) p.2

-- no reader at all
pub walk-nothing : (w : Walk) → walk nothing_at w ≡ Ok w
unfolding walk nothing_at
walk-nothing w = ap (λ (us : List Used). Ok (record { uses = us; at = w.at; left = w.left })) (append-nil w.uses)

-- a fault of a part is one of the whole
pub stops : (e : ReadFault) (part whole : Result Walk Failed) (us : List Used) → Stops e part us → ((f : Failed) → part ≡ Err f → whole ≡ Err f) → Stops e whole us
stops (read_faults.Malformed f) part whole us h k = k _ h
stops read_faults.Memory part whole us h k = tt

-- ---- rows of slots

row_cons : (slots : List Slot) (i : ℕ) → i < length slots → drop i slots ≡ get_or slots i slot.Number ∷ drop (i + 1) slots
row_cons slots i h = drop-cons slots i slot.Number h ∙ rw add-one refl

pub row_on : (pool : Pool) (slots : List Slot) (i : ℕ) (w w' : Walk) (total : Result Walk Failed) → i < length slots → walk (read pool (slot_layout (get_or slots i slot.Number))) w ≡ Ok w'
    → walk (read pool (row_layout (drop i slots))) w ≡ total → walk (read pool (row_layout (drop (i + 1) slots))) w' ≡ total
unfolding read row_layout
row_on pool slots i w w' total h one so_far =
    sym (then_walks (read pool (slot_layout (get_or slots i slot.Number))) (read pool (row_layout (drop (i + 1) slots))) w w' one)
    ∙ ap (λ (ss : List Slot). walk (read pool (row_layout ss)) w) (sym (row_cons slots i h)) ∙ so_far

pub row_stops : (pool : Pool) (slots : List Slot) (i : ℕ) (w : Walk) (total : Result Walk Failed) (f : Failed) → i < length slots → walk (read pool (row_layout (drop i slots))) w ≡ total
    → walk (read pool (slot_layout (get_or slots i slot.Number))) w ≡ Err f → total ≡ Err f
unfolding read row_layout
row_stops pool slots i w total f h so_far one =
    sym so_far ∙ ap (λ (ss : List Slot). walk (read pool (row_layout ss)) w) (row_cons slots i h)
    ∙ then_fails (read pool (slot_layout (get_or slots i slot.Number))) (λ _. read pool (row_layout (drop (i + 1) slots))) w f one

pub row_done : (pool : Pool) (slots : List Slot) (i : ℕ) (w : Walk) (total : Result Walk Failed) → length slots ≤ i → walk (read pool (row_layout (drop i slots))) w ≡ total → total ≡ Ok w
unfolding read row_layout
row_done pool slots i w total h so_far = sym so_far ∙ ap (λ (ss : List Slot). walk (read pool (row_layout ss)) w) (drop_all i slots h) ∙ walk-nothing w

-- ---- a reader so many times

pub times_on : (reader : Reader) (n i : ℕ) (w w' : Walk) (total : Result Walk Failed) → i < n → walk reader w ≡ Ok w' → walk (times (n - i) reader) w ≡ total → walk (times (n - (i + 1)) reader) w' ≡ total
unfolding times
times_on reader n i w w' total h one so_far =
    let k : n - i ≡ suc (n - (i + 1)) = omega arith in
    sym (then_walks reader (times (n - (i + 1)) reader) w w' one) ∙ ap (λ (m : ℕ). walk (times m reader) w) (sym k) ∙ so_far

pub times_stops : (reader : Reader) (n i : ℕ) (w : Walk) (total : Result Walk Failed) (f : Failed) → i < n → walk (times (n - i) reader) w ≡ total → walk reader w ≡ Err f → total ≡ Err f
unfolding times
times_stops reader n i w total f h so_far one =
    let k : n - i ≡ suc (n - (i + 1)) = omega arith in
    sym so_far ∙ ap (λ (m : ℕ). walk (times m reader) w) k ∙ then_fails reader (λ _. times (n - (i + 1)) reader) w f one

pub times_done : (reader : Reader) (n i : ℕ) (w : Walk) (total : Result Walk Failed) → n ≤ i → walk (times (n - i) reader) w ≡ total → total ≡ Ok w
unfolding times
times_done reader n i w total h so_far =
    let k : n - i ≡ zero = omega arith in
    sym so_far ∙ ap (λ (m : ℕ). walk (times m reader) w) k ∙ walk-nothing w

-- ---- what goes by what was read

pub use_walks : (pool : Pool) (kind : UseKind) (k : Tree Use → Reader) (w w' : Walk) → walk (index_at pool kind) w ≡ Ok w'
    → walk (and_then (index_at pool kind) k) w ≡ walk (k (Tree.used (record { at = w.at; kind = kind; index = from_be_bytes w16 (take 2 w.left) }))) w'
unfolding walk index_at
use_walks pool kind k w w' e =
    let p = walk_ok w.uses w' (index_at pool kind w.at w.left) e in
    let o = item_ok 2 (λ bytes. misfit pool kind (from_be_bytes w16 bytes)) (λ at bytes. Tree.used (record { at = at; kind = kind; index = from_be_bytes w16 bytes })) w.at w.left p.0 p.1 in
    then_reads (index_at pool kind) k w p.0 p.1 ∙ ap₂ (λ (t : Tree Use) (x : Walk). walk (k t) x) (sym (ap (λ (got : Got). got.tree) o.is)) p.2

pub number_walks : (width : Width) (check : Check) (k : Tree Use → Reader) (w w' : Walk) → walk (number_at width check) w ≡ Ok w' → walk (and_then (number_at width check) k) w ≡ walk (k (Tree.number (take (byte_len width) w.left))) w'
unfolding walk number_at
number_walks width check k w w' e =
    let p = walk_ok w.uses w' (number_at width check w.at w.left) e in
    let o = item_ok (byte_len width) (λ bytes. check (from_be_bytes width bytes)) (λ at bytes. Tree.number bytes) w.at w.left p.0 p.1 in
    then_reads (number_at width check) k w p.0 p.1 ∙ ap₂ (λ (t : Tree Use) (x : Walk). walk (k t) x) (sym (ap (λ (got : Got). got.tree) o.is)) p.2

pub number_is : (width : Width) (check : Check) (w : Walk) → byte_len width ≤ length w.left → check (from_be_bytes width (take (byte_len width) w.left)) ≡ None
    → walk (number_at width check) w ≡ Ok (record { uses = w.uses; at = w.at + byte_len width; left = drop (byte_len width) w.left })
unfolding walk number_at
number_is width check w room ok = rw (le-ltb (length w.left) (byte_len width) room, ok, append-nil w.uses) refl

-- ---- a fence

pub fence_short : (n : ℕ) (body : Reader) (w : Walk) → length w.left < n → walk (fenced n body) w ≡ Err (record { fault = record { kind = faults.Truncated; at = w.at }; before = w.uses })
unfolding walk fenced
fence_short n body w h = rw (lt-ltb (length w.left) n h) (ap (λ (us : List Used). Err (record { fault = record { kind = faults.Truncated; at = w.at }; before = us })) (append-nil w.uses))

pub fence_stops : (n : ℕ) (body : Reader) (w : Walk) (e : Failed) → n ≤ length w.left → walk body (record { uses = w.uses; at = w.at; left = take n w.left }) ≡ Err e
    → walk (fenced n body) w ≡ Err (record { fault = fence_fault w.at e.fault; before = e.before })
unfolding walk fenced
fence_stops n body w e room h =
    let p = walk_err w.uses e (body w.at (take n w.left)) h in
    rw (le-ltb (length w.left) n room, p.1) (ap (λ (x : Failed). Err (record { fault = fence_fault w.at x.fault; before = x.before })) p.2)

pub fence_left : (n : ℕ) (body : Reader) (w w' : Walk) → n ≤ length w.left → walk body (record { uses = w.uses; at = w.at; left = take n w.left }) ≡ Ok w' → 0 < length w'.left
    → walk (fenced n body) w ≡ Err (record { fault = record { kind = faults.AttributeLength; at = w.at - 4 }; before = w'.uses })
unfolding walk fenced
fence_left n body w w' room h more =
    let p = walk_ok w.uses w' (body w.at (take n w.left)) h in
    let some : 0 < length p.0.left = rw (ap (λ (x : Walk). x.left) p.2) more in
    let no : nat_eq (length p.0.left) 0 ≡ false = ne_eqb (length p.0.left) 0 (λ z. omega arith) in
    rw (le-ltb (length w.left) n room, p.1, no) (ap (λ (x : Walk). Err (record { fault = record { kind = faults.AttributeLength; at = w.at - 4 }; before = x.uses })) p.2)

pub fence_walks : (n : ℕ) (body : Reader) (w w' : Walk) → n ≤ length w.left → walk body (record { uses = w.uses; at = w.at; left = take n w.left }) ≡ Ok w' → length w'.left ≡ 0
    → walk (fenced n body) w ≡ Ok (record { uses = w'.uses; at = w.at + n; left = drop n w.left })
unfolding walk fenced
fence_walks n body w w' room h none =
    let p = walk_ok w.uses w' (body w.at (take n w.left)) h in
    let all : length p.0.left ≡ 0 = rw (ap (λ (x : Walk). x.left) p.2) none in
    rw (le-ltb (length w.left) n room, p.1, all) (ap (λ (x : Walk). Ok (record { uses = x.uses; at = w.at + n; left = drop n w.left })) p.2)

-- a table, behind its count
pub table_walks : (pool : Pool) (each : Layout) (w w' : Walk) (n : ℕ) → walk (number_at w16 any) w ≡ Ok w' → n ≡ from_be_bytes w16 (take 2 w.left) → walk (read pool (Layout.table w16 each)) w ≡ walk (times n (read pool each)) w'
unfolding read
table_walks pool each w w' n h is =
    number_walks w16 any (λ t. times (value_of w16 t) (read pool each)) w w' h ∙ ap (λ (m : ℕ). walk (times m (read pool each)) w') (sym is)

pub table_stops : (pool : Pool) (each : Layout) (w : Walk) (e : Failed) → walk (number_at w16 any) w ≡ Err e → walk (read pool (Layout.table w16 each)) w ≡ Err e
unfolding read
table_stops pool each w e h = then_fails (number_at w16 any) (λ t. times (value_of w16 t) (read pool each)) w e h

-- ---- an attribute

pub attribute_walks : (pool : Pool) (body : ℕ → List ℕ → Reader) (w w' w'' : Walk) (i n : ℕ) → walk (index_at pool kinds.AttrName) w ≡ Ok w' → i ≡ from_be_bytes w16 (take 2 w.left)
    → walk (number_at w32 any) w' ≡ Ok w'' → n ≡ from_be_bytes w32 (take 4 w'.left) → walk (attribute_at pool body) w ≡ walk (fenced n (body n (text_at pool i))) w''
unfolding attribute_at
attribute_walks pool body w w' w'' i n named i_is sized n_is =
    use_walks pool kinds.AttrName (λ name. and_then (number_at w32 any) (λ t. fenced (value_of w32 t) (body (value_of w32 t) (name_of pool name)))) w w' named
    ∙ number_walks w32 any (λ t. fenced (value_of w32 t) (body (value_of w32 t) (text_at pool (from_be_bytes w16 (take 2 w.left))))) w' w'' sized
    ∙ ap₂ (λ (m j : ℕ). walk (fenced m (body m (text_at pool j))) w'') (sym n_is) (sym i_is)

pub name_stops : (pool : Pool) (body : ℕ → List ℕ → Reader) (w : Walk) (e : Failed) → walk (index_at pool kinds.AttrName) w ≡ Err e → walk (attribute_at pool body) w ≡ Err e
unfolding attribute_at
name_stops pool body w e h = then_fails (index_at pool kinds.AttrName) _ w e h

pub length_stops : (pool : Pool) (body : ℕ → List ℕ → Reader) (w w' : Walk) (e : Failed) → walk (index_at pool kinds.AttrName) w ≡ Ok w' → walk (number_at w32 any) w' ≡ Err e → walk (attribute_at pool body) w ≡ Err e
unfolding attribute_at
length_stops pool body w w' e named h =
    use_walks pool kinds.AttrName (λ name. and_then (number_at w32 any) (λ t. fenced (value_of w32 t) (body (value_of w32 t) (name_of pool name)))) w w' named
    ∙ then_fails (number_at w32 any) (λ t. fenced (value_of w32 t) (body (value_of w32 t) (text_at pool (from_be_bytes w16 (take 2 w.left))))) w' e h

-- ---- two layouts, one behind the other

pub row_walks : (pool : Pool) (a b : Layout) (w w' : Walk) → walk (read pool a) w ≡ Ok w' → walk (read pool (Layout.row a b)) w ≡ walk (read pool b) w'
unfolding read
row_walks pool a b w w' h = then_walks (read pool a) (read pool b) w w' h

pub row_fails : (pool : Pool) (a b : Layout) (w : Walk) (e : Failed) → walk (read pool a) w ≡ Err e → walk (read pool (Layout.row a b)) w ≡ Err e
unfolding read
row_fails pool a b w e h = then_fails (read pool a) (λ _. read pool b) w e h

-- ---- a choice by a tag

pub tagged_short : (pool : Pool) (check : Check) (branch : ℕ → Layout) (w : Walk) → length w.left < 1 → walk (read pool (Layout.tagged check branch)) w ≡ Err (record { fault = record { kind = faults.Truncated; at = w.at }; before = w.uses })
unfolding read walk and_then number_at
tagged_short pool check branch w h = rw (lt-ltb (length w.left) 1 h, append-nil w.uses) refl

pub tagged_walks : (pool : Pool) (check : Check) (branch : ℕ → Layout) (w : Walk) (tag : ℕ) → 1 ≤ length w.left → tag ≡ from_be_bytes w8 (take 1 w.left) → check tag ≡ None
    → walk (read pool (Layout.tagged check branch)) w ≡ walk (read pool (branch tag)) (record { uses = w.uses; at = w.at + 1; left = drop 1 w.left })
unfolding read
tagged_walks pool check branch w tag room is ok =
    let here : check (from_be_bytes w8 (take 1 w.left)) ≡ None = ap check (sym is) ∙ ok in
    number_walks w8 check (λ t. read pool (branch (value_of w8 t))) w (record { uses = w.uses; at = w.at + 1; left = drop 1 w.left }) (number_is w8 check w room here)
    ∙ ap (λ (n : ℕ). walk (read pool (branch n)) (record { uses = w.uses; at = w.at + 1; left = drop 1 w.left })) (sym is)

pub tagged_faults : (pool : Pool) (check : Check) (branch : ℕ → Layout) (w : Walk) (tag : ℕ) (kind : FaultKind) → 1 ≤ length w.left → tag ≡ from_be_bytes w8 (take 1 w.left) → check tag ≡ Some kind
    → walk (read pool (Layout.tagged check branch)) w ≡ Err (record { fault = record { kind = kind; at = w.at }; before = w.uses })
unfolding read walk and_then number_at
tagged_faults pool check branch w tag kind room is bad =
    let here : check (from_be_bytes w8 (take 1 w.left)) ≡ Some kind = ap check (sym is) ∙ bad in
    rw (le-ltb (length w.left) 1 room, here, append-nil w.uses) refl

-- nothing behind a layout
row_ends : (pool : Pool) (a : Layout) (w : Walk) (r : Result Walk Failed) → walk (read pool a) w ≡ r → walk (read pool (Layout.row a Layout.nothing)) w ≡ r
unfolding read
row_ends pool a w (Ok w') h = row_walks pool a Layout.nothing w w' h ∙ walk-nothing w'
row_ends pool a w (Err e) h = row_fails pool a Layout.nothing w e h

pub row_last : (pool : Pool) (a : Layout) (w : Walk) → walk (read pool (Layout.row a Layout.nothing)) w ≡ walk (read pool a) w
row_last pool a w = row_ends pool a w (walk (read pool a) w) refl

-- a code array hands over as much as raw bytes: nothing
code_item : (us : List Used) (at n : ℕ) (s : List ℕ) (short : Bool) → nat_lt (length s) n ≡ short → walked us (code_at n at s) ≡ walked us (raw_at n at s)
unfolding raw_at
code_item us at n s true h = rw h refl
code_item us at n s false h = rw h refl

pub code_walks : (n : ℕ) (w : Walk) → walk (code_at n) w ≡ walk (raw_at n) w
unfolding walk
code_walks n w = code_item w.uses w.at n w.left (nat_lt (length w.left) n) refl

-- raw bytes behind their length
pub sized_walks : (pool : Pool) (width : Width) (check : Check) (w w' : Walk) (n : ℕ) → walk (number_at width check) w ≡ Ok w' → n ≡ from_be_bytes width (take (byte_len width) w.left) → walk (read pool (Layout.sized width check)) w ≡ walk (read pool (Layout.raw n)) w'
unfolding read
sized_walks pool width check w w' n h is = number_walks width check (λ t. code_at (value_of width t)) w w' h ∙ code_walks _ w' ∙ ap (λ (m : ℕ). walk (raw_at m) w') (sym is)

pub sized_stops : (pool : Pool) (width : Width) (check : Check) (w : Walk) (e : Failed) → walk (number_at width check) w ≡ Err e → walk (read pool (Layout.sized width check)) w ≡ Err e
unfolding read
sized_stops pool width check w e h = then_fails (number_at width check) (λ t. code_at (value_of width t)) w e h

-- the attributes of a place, behind their count
pub attributes_walk : (pool : Pool) (body : ℕ → List ℕ → Layout) (w w' : Walk) (n : ℕ) → walk (number_at w16 any) w ≡ Ok w' → n ≡ from_be_bytes w16 (take 2 w.left)
    → walk (read pool (Layout.attributes body)) w ≡ walk (times n (attribute_at pool (λ size name. read pool (body size name)))) w'
unfolding read
attributes_walk pool body w w' n h is =
    number_walks w16 any (λ t. times (value_of w16 t) (attribute_at pool (λ size name. read pool (body size name)))) w w' h
    ∙ ap (λ (m : ℕ). walk (times m (attribute_at pool (λ size name. read pool (body size name)))) w') (sym is)

pub attributes_stop : (pool : Pool) (body : ℕ → List ℕ → Layout) (w : Walk) (e : Failed) → walk (number_at w16 any) w ≡ Err e → walk (read pool (Layout.attributes body)) w ≡ Err e
unfolding read
attributes_stop pool body w e h = then_fails (number_at w16 any) (λ t. times (value_of w16 t) (attribute_at pool (λ size name. read pool (body size name)))) w e h

-- ---- the same for the tactics: a walk goes on, or stops

pub row_walked : {T : Type 0} (result : Result T ReadFault) (spot : Spot) (us : List Used) (pool : Pool) (a b : Layout) (w w' : Walk) → walk (read pool a) w ≡ Ok w' → Walks result (walk (read pool b) w') spot us → Walks result (walk (read pool (Layout.row a b)) w) spot us
row_walked result spot us pool a b w w' h k = rw (row_walks pool a b w w' h) k

pub row_stopped : (e : ReadFault) (us : List Used) (pool : Pool) (a b : Layout) (w : Walk) → Stops e (walk (read pool a) w) us → Stops e (walk (read pool (Layout.row a b)) w) us
row_stopped e us pool a b w h = stops e _ _ us h (λ f k. row_fails pool a b w f k)

pub table_walked : {T : Type 0} (result : Result T ReadFault) (spot : Spot) (us : List Used) (pool : Pool) (each : Layout) (w w' : Walk) (n : ℕ) → walk (number_at w16 any) w ≡ Ok w' → n ≡ from_be_bytes w16 (take 2 w.left)
    → Walks result (walk (times n (read pool each)) w') spot us → Walks result (walk (read pool (Layout.table w16 each)) w) spot us
table_walked result spot us pool each w w' n h is k = rw (table_walks pool each w w' n h is) k

pub table_stopped : (e : ReadFault) (us : List Used) (pool : Pool) (each : Layout) (w : Walk) → Stops e (walk (number_at w16 any) w) us → Stops e (walk (read pool (Layout.table w16 each)) w) us
table_stopped e us pool each w h = stops e _ _ us h (λ f k. table_stops pool each w f k)

pub times_begin : (reader : Reader) (n : ℕ) (w : Walk) → walk (times (n - 0) reader) w ≡ walk (times n reader) w
times_begin reader n w = let z : n - 0 ≡ n = omega arith in ap (λ (m : ℕ). walk (times m reader) w) z

pub times_stopped : (e : ReadFault) (us : List Used) (reader : Reader) (n i : ℕ) (w : Walk) (total : Result Walk Failed) → i < n → walk (times (n - i) reader) w ≡ total → Stops e (walk reader w) us → Stops e total us
times_stopped e us reader n i w total h so_far k = stops e _ _ us k (λ f p. times_stops reader n i w total f h so_far p)

-- ---- a tag and what it selects, for the tactics

pub tagged_truncated : (pool : Pool) (check : Check) (branch : ℕ → Layout) (w : Walk) → length w.left < 1
    → Stops (read_faults.Malformed (record { kind = faults.Truncated; at = w.at })) (walk (read pool (Layout.tagged check branch)) w) w.uses
tagged_truncated pool check branch w short = tagged_short pool check branch w short
