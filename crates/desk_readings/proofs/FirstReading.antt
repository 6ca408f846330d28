-- The first reading, file by file.
use Rattle.std.proofs.Common.{◌≡◌, ◌≤◌, ◌+◌, ◌-◌, ℕ, suc, Bool, true, false, List, [], ◌∷◌, ◌++◌, length, map, Option, Some, None, refl, sym, ap, ◌∙◌, subst, append-nil, append_assoc, arith, length-append}
use Rattle.std.specs.FinMap as fin
use Rattle.std.specs.Prelude.{All, IfSome, IsSome, if◌then◌else◌}
use Rattle.std.proofs.lemmas.List.{length-map, map-append}
use Rattle.std.proofs.lemmas.List.Elements.{All-append, All-push, All-same}
use Rattle.desk_base.specs.Counts.{Rose-earlier}
use Rattle.desk_base.specs.Names.{Text}
use Rattle.desk_base.specs.Limits.{file_size}
use Rattle.desk_base.specs.Paths.{full}
use Rattle.std.specs.List.{sum_by}
use Rattle.std.proofs.lemmas.List.Sums.{sum_by_push}
use Rattle.desk_file.specs.declared.routes.Route.{Route}
use Rattle.desk_folders.specs.Contents.{Contents}
use Rattle.desk_format.specs.Laws.{IsBytes}
use Rattle.desk_graph.specs.declared.scanned.Scanned.{Scanned}
use Rattle.desk_base.proofs.Results.{at_some}
use Rattle.desk_readings.proofs.Fronts.{all_pushed, if_some}
use Rattle.desk_readings.proofs.Scans.{scans_more}
use Rattle.desk_rules.specs.Rules.{Rules}
use Rattle.desk_readings.specs.Slices.{IsRead, routes_in}
use Rattle.desk_readings.specs.Noting.{IsWithin, NoteFails, NotedTo, NotesOne}
use Rattle.desk_readings.specs.Readings.{bytes_here, first_large, is_large, kept_in, measured_at, measured_by, scanned_route, scans_at, scans_of, weight_in}
use Rattle.desk_readings.specs.declared.measured.MeasuredFile.{MeasuredFile}
use Rattle.desk_readings.specs.declared.faults.NoteFault.{NoteFault}
use Rattle.desk_readings.specs.declared.faults.NoteFault.TheVariants.{Memory, Folders, TooLarge}
use Rattle.desk_readings.specs.declared.pending.PendingFile.{PendingFile}

-- ---- all files

scans_behind : (from : Text) (m : Contents) (routes : List Route) (route : Route) → scans_at from m (routes ++ route ∷ []) ≡ scans_at from m routes ++ scanned_route route (bytes_here from m route)
scans_behind from m [] route = append-nil (scanned_route route (bytes_here from m route))
scans_behind from m (first ∷ routes) route =
    ap (λ (ss : List Scanned). scanned_route first (bytes_here from m first) ++ ss) (scans_behind from m routes route)
    ∙ sym (append_assoc (scanned_route first (bytes_here from m first)) (scans_at from m routes) (scanned_route route (bytes_here from m route)))

large_step : (over : Bool) (path : Text) (front all rest : Option Text) → (front ≡ None → all ≡ rest) → (if over then Some path else front) ≡ None → (if over then Some path else all) ≡ rest
large_step true path front all rest h e = absurd cc
large_step false path front all rest h e = h e

-- no file of a front is too large
large_behind : (from : Text) (m : Contents) (routes more : List Route) → first_large from m routes ≡ None → first_large from m (routes ++ more) ≡ first_large from m more
large_behind from m [] more e = refl
large_behind from m (first ∷ routes) more e =
    large_step (is_large from m first) first.path (first_large from m routes) (first_large from m (routes ++ more)) (first_large from m more) (large_behind from m routes more) e

-- one file more
pub noted_more : (rules : Rules) (from : Text) (m : Contents) (routes : List Route) (route : Route) (files new : List MeasuredFile) (classes now : List Scanned) (pending : PendingFile) → NotedTo rules from m routes files classes → NotesOne rules from m route pending
    → new ≡ files ++ measured_by rules pending ∷ [] → now ≡ classes ++ kept_in pending.route pending.read → NotedTo rules from m (routes ++ route ∷ []) new now
noted_more rules from m routes route files new classes now pending h one grown kept = record {
  files = grown ∙ ap (λ (fs : List MeasuredFile). fs ++ measured_by rules pending ∷ []) h.files ∙ ap (λ (f : MeasuredFile). map (measured_at rules from m) routes ++ f ∷ []) one.file ∙ sym (map-append (measured_at rules from m) routes (route ∷ []));
  scanned = kept ∙ ap (λ (ss : List Scanned). ss ++ kept_in pending.route pending.read) h.scanned ∙ ap (λ (ss : List Scanned). scans_at from m routes ++ ss) one.class ∙ sym (scans_behind from m routes route);
  bytes = All-push (λ (r : Route). IsBytes (bytes_here from m r)) routes route h.bytes one.bytes;
  fit = large_behind from m routes (route ∷ []) h.fit ∙ ap (λ (b : Bool). if b then Some route.path else None) one.fits;
}

-- ---- batch by batch

scans_after : (from : Text) (m : Contents) (routes more : List Route) → scans_at from m (routes ++ more) ≡ scans_at from m routes ++ scans_at from m more
scans_after from m [] more = refl
scans_after from m (first ∷ routes) more =
    ap (λ (ss : List Scanned). scanned_route first (bytes_here from m first) ++ ss) (scans_after from m routes more)
    ∙ sym (append_assoc (scanned_route first (bytes_here from m first)) (scans_at from m routes) (scans_at from m more))

-- one file more in a batch
pub batch_more : (rules : Rules) (from : Text) (m : Contents) (batch new : List PendingFile) (route : Route) (pending : PendingFile) → NotedTo rules from m (routes_in batch) (map (measured_by rules) batch) (scans_of batch) → NotesOne rules from m route pending
    → pending.route ≡ route → new ≡ batch ++ pending ∷ [] → NotedTo rules from m (routes_in new) (map (measured_by rules) new) (scans_of new)
batch_more rules from m batch new route pending h one is grown =
    let more = noted_more rules from m (routes_in batch) route (map (measured_by rules) batch) (map (measured_by rules) new) (scans_of batch) (scans_of new) pending h one
    (ap (map (measured_by rules)) grown ∙ map-append (measured_by rules) batch (pending ∷ []))
    (scans_more [] batch new pending grown) in
    subst (λ (rs : List Route). NotedTo rules from m rs (map (measured_by rules) new) (scans_of new))
    (ap (λ (r : Route). routes_in batch ++ r ∷ []) (sym is) ∙ sym (map-append (λ (w : PendingFile). w.route) batch (pending ∷ [])) ∙ ap routes_in (sym grown)) more

-- one batch more
pub noted_join : (rules : Rules) (from : Text) (m : Contents) (routes more : List Route) (files later : List MeasuredFile) (classes kept : List Scanned) → NotedTo rules from m routes files classes → NotedTo rules from m more later kept
    → NotedTo rules from m (routes ++ more) (files ++ later) (classes ++ kept)
noted_join rules from m routes more files later classes kept h k = record {
  files = ap (λ (fs : List MeasuredFile). fs ++ later) h.files ∙ ap (λ (fs : List MeasuredFile). map (measured_at rules from m) routes ++ fs) k.files ∙ sym (map-append (measured_at rules from m) routes more);
  scanned = ap (λ (ss : List Scanned). ss ++ kept) h.scanned ∙ ap (λ (ss : List Scanned). scans_at from m routes ++ ss) k.scanned ∙ sym (scans_after from m routes more);
  bytes = All-append (λ (route : Route). IsBytes (bytes_here from m route)) routes more h.bytes k.bytes;
  fit = large_behind from m routes more h.fit ∙ k.fit;
}

-- where the reading of the files behind some fails, that of all does
pub fails_behind : (from : Text) (told now : Option Contents) (gone all rest : List Route) (a b c : ℕ) (fault : NoteFault) → now ≡ told → a ≤ b → all ≡ gone ++ rest
    → ((m : Contents) → told ≡ Some m → first_large from m gone ≡ None) → NoteFails (λ m. first_large from m rest) now b c fault → NoteFails (λ m. first_large from m all) told a c fault
fails_behind from told now gone all rest a b c Memory same le split fit h = tt
fails_behind from told now gone all rest a b c Folders same le split fit h = Rose-earlier a b c le h
fails_behind from told now gone all rest a b c (TooLarge path) same le split fit h =
    if_some _ told (λ m e.
    ap (first_large from m) split ∙ large_behind from m gone rest (fit m e) ∙ at_some (λ m. first_large from m rest ≡ Some path) now m (same ∙ e) h)

-- what holds of all holds behind a front
pub all_behind : {X : Type 0} (P : X → Type 0) (gone rest : List X) → All P (gone ++ rest) → All P rest
all_behind P [] rest h = h
all_behind P (x ∷ gone) rest h = all_behind P gone rest (λ k d lt. h (suc k) d (omega arith))

-- files that are listed are there
pub there_behind : (from : Text) (told now : Option Contents) (gone all rest : List Route) → now ≡ told → all ≡ gone ++ rest → IfSome told (λ m. All (λ (r : Route). IsSome (fin.get m (full from r.path))) all)
    → IfSome now (λ m. All (λ (r : Route). IsSome (fin.get m (full from r.path))) rest)
there_behind from told now gone all rest same split h =
    if_some _ now (λ m e.
    all_behind (λ (r : Route). IsSome (fin.get m (full from r.path))) gone rest (All-same (λ (r : Route). IsSome (fin.get m (full from r.path))) (gone ++ rest) all (sym split)
    (at_some (λ m. All (λ (r : Route). IsSome (fin.get m (full from r.path))) all) told m (sym same ∙ e) h)))

-- ---- in a loop over them

-- and those behind the first
pub tail_there : (from : Text) (told : Option Contents) (all rest : List Route) (route : Route) → all ≡ route ∷ rest → IfSome told (λ m. All (λ (r : Route). IsSome (fin.get m (full from r.path))) all)
    → IfSome told (λ m. All (λ (r : Route). IsSome (fin.get m (full from r.path))) rest)
tail_there from told all rest route first h = there_behind from told told (route ∷ []) all rest refl first h

pub noted_next : (rules : Rules) (from : Text) (told : Option Contents) (m : Contents) (slice new : List PendingFile) (pending : PendingFile) → told ≡ Some m → NotedTo rules from m (routes_in slice) (map (measured_by rules) slice) (scans_of slice)
    → IsRead rules from told pending → new ≡ slice ++ pending ∷ [] → NotedTo rules from m (routes_in new) (map (measured_by rules) new) (scans_of new)
noted_next rules from told m slice new pending e h read grown = batch_more rules from m slice new pending.route pending h (at_some (λ m. NotesOne rules from m pending.route pending) told m e read.one) refl grown

pub light_more : (slice new : List PendingFile) (pending : PendingFile) (room size left : ℕ) → new ≡ slice ++ pending ∷ [] → size ≡ weight_in pending.read → size ≤ room → left ≡ room - size
    → room + sum_by (λ (w : PendingFile). weight_in w.read) slice ≡ file_size → left + sum_by (λ (w : PendingFile). weight_in w.read) new ≡ file_size
light_more slice new pending room size left grown is fits n e =
    let weigh : PendingFile → ℕ = λ w. weight_in w.read in
    let more = ap (sum_by weigh) grown ∙ sum_by_push weigh slice pending in
    omega (arith, more, is, fits, n, e)

pub split_more : (batch new : List PendingFile) (pending : PendingFile) (all rest more : List Route) (route : Route) → all ≡ routes_in batch ++ rest → rest ≡ route ∷ more → pending.route ≡ route → new ≡ batch ++ pending ∷ []
    → all ≡ routes_in new ++ more
split_more batch new pending all rest more route split first is grown =
    split ∙ ap (λ (rs : List Route). routes_in batch ++ rs) first ∙ ap (λ (r : Route). routes_in batch ++ r ∷ more) (sym is) ∙ sym (append_assoc (routes_in batch) (pending.route ∷ []) more)
    ∙ ap (λ (rs : List Route). rs ++ more) (sym (map-append (λ (w : PendingFile). w.route) batch (pending ∷ []))) ∙ ap (λ (ws : List PendingFile). routes_in ws ++ more) (sym grown)

pub pushed_some : {X : Type 0} (xs new : List X) (x : X) → new ≡ xs ++ x ∷ [] → new ≡ [] → ⊥
pushed_some [] new x grown e = cc
pushed_some (y ∷ xs) new x grown e = cc

pub within_more : (rules : Rules) (files new : List MeasuredFile) (pending : PendingFile) → All IsWithin files → IsWithin (measured_by rules pending) → new ≡ files ++ measured_by rules pending ∷ [] → All IsWithin new
within_more rules files new pending all one grown = all_pushed IsWithin files new (measured_by rules pending) all one grown

pub batch_within : (rules : Rules) (batch new : List PendingFile) (pending : PendingFile) → All IsWithin (map (measured_by rules) batch) → IsWithin (measured_by rules pending) → new ≡ batch ++ pending ∷ [] → All IsWithin (map (measured_by rules) new)
batch_within rules batch new pending all one grown = within_more rules (map (measured_by rules) batch) (map (measured_by rules) new) pending all one (ap (map (measured_by rules)) grown ∙ map-append (measured_by rules) batch (pending ∷ []))

pub within_next : (rules : Rules) (told : Option Contents) (from : Text) (slice new : List PendingFile) (pending : PendingFile) → All IsWithin (map (measured_by rules) slice) → IsRead rules from told pending → new ≡ slice ++ pending ∷ []
    → All IsWithin (map (measured_by rules) new)
within_next rules told from slice new pending all read grown = batch_within rules slice new pending all read.within grown

-- ---- in a loop over batches

routes_measured : (rules : Rules) (batch : List PendingFile) → map (λ (f : MeasuredFile). f.route) (map (measured_by rules) batch) ≡ routes_in batch
routes_measured rules [] = refl
routes_measured rules (pending ∷ batch) = ap (λ (rs : List Route). pending.route ∷ rs) (routes_measured rules batch)

files_routes : (rules : Rules) (files new : List MeasuredFile) (batch : List PendingFile) → new ≡ files ++ map (measured_by rules) batch → map (λ (f : MeasuredFile). f.route) new ≡ map (λ (f : MeasuredFile). f.route) files ++ routes_in batch
files_routes rules files new batch grown =
    ap (map (λ (f : MeasuredFile). f.route)) grown ∙ map-append (λ (f : MeasuredFile). f.route) files (map (measured_by rules) batch)
    ∙ ap (λ (rs : List Route). map (λ (f : MeasuredFile). f.route) files ++ rs) (routes_measured rules batch)

pub split_turned : (rules : Rules) (all left rest : List Route) (files new : List MeasuredFile) (batch next : List PendingFile) → all ≡ (map (λ (f : MeasuredFile). f.route) files ++ routes_in batch) ++ left → new ≡ files ++ map (measured_by rules) batch
    → left ≡ routes_in next ++ rest → all ≡ (map (λ (f : MeasuredFile). f.route) new ++ routes_in next) ++ rest
split_turned rules all left rest files new batch next split grown first =
    split ∙ ap (λ (rs : List Route). rs ++ left) (sym (files_routes rules files new batch grown)) ∙ ap (λ (rs : List Route). map (λ (f : MeasuredFile). f.route) new ++ rs) first
    ∙ sym (append_assoc (map (λ (f : MeasuredFile). f.route) new) (routes_in next) rest)

pub noted_turned : (rules : Rules) (from : Text) (m : Contents) (files new : List MeasuredFile) (classes now : List Scanned) (batch next : List PendingFile)
    → NotedTo rules from m (map (λ (f : MeasuredFile). f.route) files ++ routes_in batch) (files ++ map (measured_by rules) batch) (classes ++ scans_of batch) → NotedTo rules from m (routes_in next) (map (measured_by rules) next) (scans_of next)
    → new ≡ files ++ map (measured_by rules) batch → now ≡ classes ++ scans_of batch → NotedTo rules from m (map (λ (f : MeasuredFile). f.route) new ++ routes_in next) (new ++ map (measured_by rules) next) (now ++ scans_of next)
noted_turned rules from m files new classes now batch next h k grown kept =
    noted_join rules from m (map (λ (f : MeasuredFile). f.route) new) (routes_in next) new (map (measured_by rules) next) now (scans_of next)
    (subst (λ (rs : List Route). NotedTo rules from m rs new now) (sym (files_routes rules files new batch grown))
    (subst (λ (fs : List MeasuredFile). NotedTo rules from m (map (λ (f : MeasuredFile). f.route) files ++ routes_in batch) fs now) (sym grown)
    (subst (λ (ss : List Scanned). NotedTo rules from m (map (λ (f : MeasuredFile). f.route) files ++ routes_in batch) (files ++ map (measured_by rules) batch) ss) (sym kept) h))) k

pub within_turned : (rules : Rules) (files new : List MeasuredFile) (batch next : List PendingFile) → All IsWithin (files ++ map (measured_by rules) batch) → All IsWithin (map (measured_by rules) next) → new ≡ files ++ map (measured_by rules) batch
    → All IsWithin (new ++ map (measured_by rules) next)
within_turned rules files new batch next h k grown = All-append IsWithin new (map (measured_by rules) next) (All-same IsWithin new (files ++ map (measured_by rules) batch) grown h) k

pub few_turned : (rules : Rules) (files new : List MeasuredFile) (classes now : List Scanned) (batch : List PendingFile) → length classes ≤ length files → length now ≤ length classes + length batch → new ≡ files ++ map (measured_by rules) batch → length now ≤ length new
few_turned rules files new classes now batch h k grown =
    let longer = ap length grown ∙ length-append files (map (measured_by rules) batch) in
    let same = length-map batch (measured_by rules) in
    omega arith

files_end : (rules : Rules) (files : List MeasuredFile) (batch : List PendingFile) → batch ≡ [] → files ++ map (measured_by rules) batch ≡ files
files_end rules files batch none = ap (λ (ws : List PendingFile). files ++ map (measured_by rules) ws) none ∙ append-nil files

pub noted_end : (rules : Rules) (from : Text) (m : Contents) (all left : List Route) (files : List MeasuredFile) (classes : List Scanned) (batch : List PendingFile)
    → NotedTo rules from m (map (λ (f : MeasuredFile). f.route) files ++ routes_in batch) (files ++ map (measured_by rules) batch) (classes ++ scans_of batch) → all ≡ (map (λ (f : MeasuredFile). f.route) files ++ routes_in batch) ++ left
    → batch ≡ [] → left ≡ [] → NotedTo rules from m all files classes
noted_end rules from m all left files classes batch h split none over =
    subst (λ (rs : List Route). NotedTo rules from m rs files classes)
    (sym (split ∙ ap (λ (rs : List Route). (map (λ (f : MeasuredFile). f.route) files ++ routes_in batch) ++ rs) over ∙ append-nil (map (λ (f : MeasuredFile). f.route) files ++ routes_in batch)))
    (subst (λ (fs : List MeasuredFile). NotedTo rules from m (map (λ (f : MeasuredFile). f.route) files ++ routes_in batch) fs classes) (files_end rules files batch none)
    (subst (λ (ss : List Scanned). NotedTo rules from m (map (λ (f : MeasuredFile). f.route) files ++ routes_in batch) (files ++ map (measured_by rules) batch) ss)
    (ap (λ (ws : List PendingFile). classes ++ scans_of ws) none ∙ append-nil classes) h))

pub within_end : (rules : Rules) (files : List MeasuredFile) (batch : List PendingFile) → All IsWithin (files ++ map (measured_by rules) batch) → batch ≡ [] → All IsWithin files
within_end rules files batch h none = All-same IsWithin files (files ++ map (measured_by rules) batch) (sym (files_end rules files batch none)) h
