-- Scanning by one reader and then by another.
use Rattle.std.proofs.Common.{◌≡◌, ℕ, zero, suc, take, drop, None, ◌+◌, ◌-◌, ◌<◌, ◌≤◌, List, ◌++◌, Result, Ok, Err, refl, sym, ap, ap₂, ◌∙◌, append_assoc, append-nil, arith}
use Rattle.std.specs.Int.{w16, from_be_bytes}
use Rattle.desk_base.specs.Spot.{Spot}
use Rattle.desk_base.specs.declared.faults.Malformed.{Malformed}
use Rattle.desk_base.specs.declared.faults.ReadFault.{ReadFault}
use Rattle.desk_base.specs.declared.faults.ReadFault.TheVariants as read_faults
use Rattle.desk_base.specs.declared.kinds.Used.{Used}
use Rattle.desk_base.specs.Entries.{Pool}
use Rattle.desk_format.specs.declared.members.Member.{Member}
use Rattle.desk_format.specs.Trees.{Tree, Use, uses}
use Rattle.desk_format.specs.Members.{members}
use Rattle.desk_format.specs.Layouts.{Layout, any}
use Rattle.desk_format.specs.Reading.{Got, Failed, Reader, behind, goes_on, nothing_at, number_at, and_then, times, read, value_of}
use Rattle.desk_format.specs.Walk.{Walk, walk, walk_at, Walks}
use Rattle.desk_format.specs.Walk.{Stops as WalkStops}
use Rattle.desk_format.proofs.Steps.{item_ok}
use Rattle.desk_format.proofs.Walks.{walk_ok, walk_err, walking}
use Rattle.desk_pool.specs.Seen.{Stops}
use Rattle.desk_class.specs.Scan.{Scan, scan, scan_at, scanned, Scans}
use Rattle.desk_class.proofs.Bare.{Bare, NoMembers, none_read}

abbrev pub onward : Result Scan Malformed → (Scan → Result Scan Malformed) → Result Scan Malformed
onward (Ok s) next = next s
onward (Err f) next = Err f

behind-scanned : (us : List Used) (ms : List Member) (a : Tree Use) (r : Result Got Failed) → scanned us ms (behind a r) ≡ scanned (us ++ uses a) (ms ++ members a) r
behind-scanned us ms a (Ok b) =
    ap₂ (λ (vs : List Used) (ns : List Member). Ok (record { uses = vs; members = ns; at = b.at; left = b.left })) (sym (append_assoc us (uses a) (uses b.tree))) (sym (append_assoc ms (members a) (members b.tree)))
behind-scanned us ms a (Err e) = refl

then_by : (us : List Used) (ms : List Member) (second : Reader) (r : Result Got Failed) → scanned us ms (goes_on (λ _. second) r) ≡ onward (scanned us ms r) (scan second)
unfolding scan
then_by us ms second (Ok a) = behind-scanned us ms a.tree (second a.at a.left)
then_by us ms second (Err e) = refl

pub then_scans : (first second : Reader) (s : Scan) → scan (and_then first (λ _. second)) s ≡ onward (scan first s) (scan second)
unfolding scan and_then
then_scans first second s = then_by s.uses s.members second (first s.at s.left)

scans_on : (first second : Reader) (s s' : Scan) → scan first s ≡ Ok s' → scan (and_then first (λ _. second)) s ≡ scan second s'
scans_on first second s s' h = then_scans first second s ∙ ap (λ (r : Result Scan Malformed). onward r (scan second)) h

scans_err : (first second : Reader) (s : Scan) (f : Malformed) → scan first s ≡ Err f → scan (and_then first (λ _. second)) s ≡ Err f
scans_err first second s f h = then_scans first second s ∙ ap (λ (r : Result Scan Malformed). onward r (scan second)) h

-- a fault of a part is one of the whole
pub part_stops : (e : ReadFault) (part whole : Result Scan Malformed) → Stops e part → ((f : Malformed) → part ≡ Err f → whole ≡ Err f) → Stops e whole
part_stops (read_faults.Malformed f) part whole h k = k f h
part_stops read_faults.Memory part whole h k = tt

pub row_scans : (pool : Pool) (a b : Layout) (s s' : Scan) → scan (read pool a) s ≡ Ok s' → scan (read pool (Layout.row a b)) s ≡ scan (read pool b) s'
unfolding read
row_scans pool a b s s' h = scans_on (read pool a) (read pool b) s s' h

pub row_scan_stopped : (e : ReadFault) (pool : Pool) (a b : Layout) (s : Scan) → Stops e (scan (read pool a) s) → Stops e (scan (read pool (Layout.row a b)) s)
unfolding read
row_scan_stopped e pool a b s h = part_stops e _ _ h (λ f k. scans_err (read pool a) (read pool b) s f k)

-- no reader at all
pub scan-nothing : (s : Scan) → scan nothing_at s ≡ Ok s
unfolding scan nothing_at
scan-nothing s = ap₂ (λ (vs : List Used) (ns : List Member). Ok (record { uses = vs; members = ns; at = s.at; left = s.left })) (append-nil s.uses) (append-nil s.members)

pub row_scan_last : (pool : Pool) (a : Layout) (s : Scan) → scan (read pool (Layout.row a Layout.nothing)) s ≡ scan (read pool a) s
unfolding read
row_scan_last pool a s = then_scans (read pool a) nothing_at s ∙ last (scan (read pool a) s)
  where
    last : (r : Result Scan Malformed) → onward r (scan nothing_at) ≡ r
    last (Ok s) = scan-nothing s
    last (Err f) = refl

-- ---- a reader so many times

pub times_scan_begin : (reader : Reader) (n : ℕ) (s : Scan) → scan (times (n - 0) reader) s ≡ scan (times n reader) s
times_scan_begin reader n s = let z : n - 0 ≡ n = omega arith in ap (λ (m : ℕ). scan (times m reader) s) z

pub times_scan_on : (reader : Reader) (n i : ℕ) (s s' : Scan) (total : Result Scan Malformed) → i < n → scan reader s ≡ Ok s' → scan (times (n - i) reader) s ≡ total → scan (times (n - (i + 1)) reader) s' ≡ total
unfolding times
times_scan_on reader n i s s' total h one so_far =
    let k : n - i ≡ suc (n - (i + 1)) = omega arith in
    sym (scans_on reader (times (n - (i + 1)) reader) s s' one) ∙ ap (λ (m : ℕ). scan (times m reader) s) (sym k) ∙ so_far

pub times_scan_stopped : (e : ReadFault) (reader : Reader) (n i : ℕ) (s : Scan) (total : Result Scan Malformed) → i < n → scan (times (n - i) reader) s ≡ total → Stops e (scan reader s) → Stops e total
unfolding times
times_scan_stopped e reader n i s total h so_far one =
    let k : n - i ≡ suc (n - (i + 1)) = omega arith in
    part_stops e _ _ one (λ f p. sym so_far ∙ ap (λ (m : ℕ). scan (times m reader) s) k ∙ scans_err reader (times (n - (i + 1)) reader) s f p)

pub times_scan_done : (reader : Reader) (n i : ℕ) (s : Scan) (total : Result Scan Malformed) → n ≤ i → scan (times (n - i) reader) s ≡ total → total ≡ Ok s
unfolding times
times_scan_done reader n i s total h so_far =
    let k : n - i ≡ zero = omega arith in
    sym so_far ∙ ap (λ (m : ℕ). scan (times m reader) s) k ∙ scan-nothing s

-- ---- a walk through what holds no member

bare_ok : (reader : Reader) → NoMembers reader → (us us' : List Used) (ms : List Member) (spot spot' : Spot) → walk reader (walk_at us spot) ≡ Ok (walk_at us' spot') → scan reader (scan_at us ms spot) ≡ Ok (scan_at us' ms spot')
unfolding walk scan
bare_ok reader p us us' ms spot spot' h =
    let o = walk_ok us (walk_at us' spot') (reader spot.at spot.left) h in
    let none : ms ++ members o.0.tree ≡ ms = ap (λ (ns : List Member). ms ++ ns) (p.none spot.at spot.left o.0 o.1) ∙ append-nil ms in
    ap (scanned us ms) o.1
    ∙ ap (λ (ns : List Member). Ok (record { uses = us ++ uses o.0.tree; members = ns; at = o.0.at; left = o.0.left })) none
    ∙ ap (λ (w : Walk). Ok (record { uses = w.uses; members = ms; at = w.at; left = w.left })) o.2

bare_stops : (e : ReadFault) (reader : Reader) (us us' : List Used) (ms : List Member) (spot : Spot) → WalkStops e (walk reader (walk_at us spot)) us' → Stops e (scan reader (scan_at us ms spot))
unfolding walk scan
bare_stops (read_faults.Malformed f) reader us us' ms spot h =
    let o = walk_err us (record { fault = f; before = us' }) (reader spot.at spot.left) h in
    ap (scanned us ms) o.1 ∙ ap (λ (x : Failed). Err x.fault) o.2
bare_stops read_faults.Memory reader us us' ms spot h = tt

pub bare_scans : {T : Type 0} (result : Result T ReadFault) (pool : Pool) (l : Layout) → Bare l → (us us' : List Used) (ms : List Member) (spot spot' : Spot)
    → Walks result (walk (read pool l) (walk_at us spot)) spot' us' → Scans result (scan (read pool l) (scan_at us ms spot)) spot' us' ms
bare_scans (Ok x) pool l b us us' ms spot spot' h = bare_ok (read pool l) (none_read pool l b) us us' ms spot spot' h
bare_scans (Err e) pool l b us us' ms spot spot' h = bare_stops e (read pool l) us us' ms spot h

-- ---- a table, behind its count

number_scans : (n : ℕ) (us : List Used) (ms : List Member) (spot spot' : Spot) (reader : ℕ → Reader) → n ≡ from_be_bytes w16 (take 2 spot.left) → walk (number_at w16 any) (walk_at us spot) ≡ Ok (walk_at us spot')
    → scan (and_then (number_at w16 any) (λ t. reader (value_of w16 t))) (scan_at us ms spot) ≡ scan (reader n) (scan_at us ms spot')
unfolding walk scan number_at and_then
number_scans n us ms spot spot' reader is h =
    let o = walk_ok us (walk_at us spot') (number_at w16 any spot.at spot.left) h in
    let i = item_ok 2 (λ bytes. None) (λ at bytes. Tree.number bytes) spot.at spot.left o.0 o.1 in
    let tree : o.0.tree ≡ Tree.number (take 2 spot.left) = ap (λ (g : Got). g.tree) (sym i.is) in
    ap (λ (r : Result Got Failed). scanned us ms (goes_on (λ t. reader (value_of w16 t)) r)) (o.1 ∙ ap (λ (g : Got). Ok g) (sym i.is))
    ∙ behind-scanned us ms (Tree.number (take 2 spot.left)) (reader (from_be_bytes w16 (take 2 spot.left)) (spot.at + 2) (drop 2 spot.left))
    ∙ ap₂ (λ (vs : List Used) (ns : List Member). scanned vs ns (reader (from_be_bytes w16 (take 2 spot.left)) (spot.at + 2) (drop 2 spot.left))) (append-nil us) (append-nil ms)
    ∙ ap (λ (m : ℕ). scanned us ms (reader m (spot.at + 2) (drop 2 spot.left))) (sym is)
    ∙ ap (λ (w : Walk). scanned us ms (reader n w.at w.left)) (ap (λ (g : Got). walking us g) i.is ∙ o.2)

pub table_scanned : {T : Type 0} (result : Result T ReadFault) (us us' : List Used) (ms ms' : List Member) (spot spot' spot'' : Spot) (pool : Pool) (each : Layout) (n : ℕ)
    → walk (number_at w16 any) (walk_at us spot) ≡ Ok (walk_at us spot') → n ≡ from_be_bytes w16 (take 2 spot.left)
    → Scans result (scan (times n (read pool each)) (scan_at us ms spot')) spot'' us' ms' → Scans result (scan (read pool (Layout.table w16 each)) (scan_at us ms spot)) spot'' us' ms'
unfolding read
table_scanned result us us' ms ms' spot spot' spot'' pool each n h is k = rw (number_scans n us ms spot spot' (λ m. times m (read pool each)) is h) k

pub table_scan_stopped : (e : ReadFault) (us : List Used) (ms : List Member) (spot : Spot) (pool : Pool) (each : Layout) → WalkStops e (walk (number_at w16 any) (walk_at us spot)) us → Stops e (scan (read pool (Layout.table w16 each)) (scan_at us ms spot))
unfolding walk scan read and_then
table_scan_stopped (read_faults.Malformed f) us ms spot pool each h =
    let o = walk_err us (record { fault = f; before = us }) (number_at w16 any spot.at spot.left) h in
    ap (λ (r : Result Got Failed). scanned us ms (goes_on (λ t. times (value_of w16 t) (read pool each)) r)) o.1 ∙ ap (λ (x : Failed). Err x.fault) o.2
table_scan_stopped read_faults.Memory us ms spot pool each h = tt
