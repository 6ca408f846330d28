-- A run writes nothing below source and rule folder.
use Rattle.std.proofs.Common.{◌≡◌, ◌⊎◌, inl, inr, List, [], ◌∷◌, ◌++◌, Option, Bool, true, false, refl, sym, ap, ◌∙◌, subst, map, Result, Ok, Err, unwrap_or}
use Rattle.std.specs.Prelude.{ℕ, ◌&&◌, ◌||◌, is_some}
use Rattle.std.specs.List.{list_any, list_all, AllByRecursion}
use Rattle.std.specs.List.Sorted.{IsStrictlySortedBy}
use Rattle.std.specs.Ordering.{nat_cmp, ordering_reverse, is_eq}
use Rattle.std.specs.declared.cmp.Ordering.{Ordering}
use Rattle.std.specs.declared.cmp.Ordering.TheVariants.{Less, Equal, Greater}
use Rattle.std.specs.Cmp.Lexicographic.{slice_cmp}
use Rattle.std.proofs.lemmas.Cmp.{nat_list_cmp_total}
use Rattle.std.proofs.lemmas.Bool.{and_parts}
use Rattle.std.proofs.lemmas.List.{map-append}
use Rattle.std.specs.FinMap as fin
use Rattle.std.specs.FinMap.{slice_cmp-IsAntisymmetric, nat_cmp-IsAntisymmetric}
use Rattle.desk_base.specs.Names.{Text}
use Rattle.desk_base.specs.Paths.{full, is_relative_path}
use Rattle.desk_folders.specs.Contents.{Contents, File, file_at, paths_below, files_below}
use Rattle.desk_folders.proofs.Below.{paths_below-rise, paths_below-relative}
use Rattle.desk_folders.proofs.Members.{same_text, same_text-is, same_text-itself, any_path}
use Rattle.desk_ledger.specs.Ledger.{Ledger}
use Rattle.desk_report.specs.declared.status.Status.{Status}
use Rattle.desk_report.specs.declared.status.Status.TheVariants.{Done, Refusals, Memory, FolderFault, LedgerFault, OutputFault, Usage, NestedRoots, BadRules, Limit, PathClash, NameClash, Stranded, OtherRun, Moved, NotInvertible, Differs}
use Rattle.desk_words.specs.declared.roots.Roots.{Roots}
use Rattle.desk_words.specs.declared.roots.Order.{Order}
use Rattle.desk_words.specs.declared.roots.Order.TheVariants as order
use Rattle.desk_words.specs.declared.roots.RootsFault.{RootsFault}
use Rattle.desk_words.specs.Roots.{AreRoots, RootsApart, order_of_words}
use Rattle.desk_words.proofs.Rooted.{order_is_sound}
use Rattle.desk_intake.specs.declared.rules.DigestedRules.{DigestedRules}
use Rattle.desk_run.specs.Asked.{Asked}
use Rattle.desk_run.specs.Named.{asked_by, asked_of}
use Rattle.desk_run.specs.Runs.{Run, TargetsApart, AllRelative, targets_of}
use Rattle.desk_intake.specs.Rulings.{ruled}
use Rattle.desk_run.specs.Meaning.{run_by_rules, run_of_asked}
use Rattle.desk_run.specs.Stands.{Between, Within, Stands}
use Rattle.desk_run.specs.Endings.{Tells, IsDone, StandsAt, StandsAfter}
use Rattle.desk_run.specs.Resuming.{LeavesSources}
use Rattle.desk_run.proofs.Remaining.{remains_of}
use Rattle.desk_run.proofs.Splits.{relative_at}

-- ---- lists that rise are the same where they have the same members

abbrev Rise : List Text → Type 0
Rise = IsStrictlySortedBy (slice_cmp nat_cmp)

abbrev Behind : Text → List Text → Type 0
Behind k = AllByRecursion (λ y. slice_cmp nat_cmp k y ≡ Less)

-- a text isn't among those behind it
behind_misses : (k : Text) (ys : List Text) → Behind k ys → list_any (same_text k) ys ≡ false
behind_misses k [] h = refl
behind_misses k (y ∷ ys) h = ap (λ (o : Ordering). is_eq o || list_any (same_text k) ys) h.0 ∙ behind_misses k ys h.1

behind_all : (k y : Text) (ys : List Text) → slice_cmp nat_cmp k y ≡ Less → Behind y ys → Behind k ys
behind_all k y [] e h = tt
behind_all k y (z ∷ ys) e h = (nat_list_cmp_total.trans k y z e h.0, behind_all k y ys e h.1)

-- a text before the first of a list that rises isn't in it
early_misses : (k y : Text) (ys : List Text) → slice_cmp nat_cmp k y ≡ Less → Behind y ys → list_any (same_text k) (y ∷ ys) ≡ false
early_misses k y ys e h = behind_misses k (y ∷ ys) (e, behind_all k y ys e h)

there_first : (k : Text) (ys : List Text) → list_any (same_text k) (k ∷ ys) ≡ true
there_first k ys = ap (λ b. b || list_any (same_text k) ys) (same_text-itself k)

no_first : (x y : Text) (xs ys : List Text) → slice_cmp nat_cmp x y ≡ Less → Behind y ys → list_any (same_text x) (x ∷ xs) ≡ list_any (same_text x) (y ∷ ys) → ⊥
no_first x y xs ys e h same = let f : true ≡ false = sym (there_first x xs) ∙ same ∙ early_misses x y ys e h in cc

tail_same : (x : Text) (xs ys : List Text) → Behind x xs → Behind x ys → ((p : Text) → list_any (same_text p) (x ∷ xs) ≡ list_any (same_text p) (x ∷ ys)) → (p : Text) → list_any (same_text p) xs ≡ list_any (same_text p) ys
tail_same x xs ys h g same p = by (same_text p x) refl (same p) where
  by : (b : Bool) → same_text p x ≡ b → (b || list_any (same_text p) xs) ≡ (b || list_any (same_text p) ys) → list_any (same_text p) xs ≡ list_any (same_text p) ys
  by false e f = f
  by true e f =
      let is : x ≡ p = sym (same_text-is p x e) in
      subst (λ q. list_any (same_text q) xs ≡ list_any (same_text q) ys) is (behind_misses x xs h ∙ sym (behind_misses x ys g))

same_members : (xs ys : List Text) → Rise xs → Rise ys → ((p : Text) → list_any (same_text p) xs ≡ list_any (same_text p) ys) → xs ≡ ys
unfolding IsStrictlySortedBy
same_members [] [] f g h = refl
same_members [] (y ∷ ys) f g h = absurd (let e : false ≡ true = h y ∙ there_first y ys in cc)
same_members (x ∷ xs) [] f g h = absurd (let e : true ≡ false = sym (there_first x xs) ∙ h x in cc)
same_members (x ∷ xs) (y ∷ ys) f g h = by (slice_cmp nat_cmp x y) refl (same_members xs ys f.1 g.1) where
  by : (o : Ordering) → slice_cmp nat_cmp x y ≡ o → (((p : Text) → list_any (same_text p) xs ≡ list_any (same_text p) ys) → xs ≡ ys) → x ∷ xs ≡ y ∷ ys
  by Less e rest = absurd (no_first x y xs ys e g.0 (h x))
  by Greater e rest = absurd (no_first y x ys xs (nat_list_cmp_total.antisymm y x ∙ ap ordering_reverse e) f.0 (sym (h y)))
  by Equal e rest =
      let is : x ≡ y = slice_cmp-IsAntisymmetric nat_cmp-IsAntisymmetric x y e in
      let same : (p : Text) → list_any (same_text p) (x ∷ xs) ≡ list_any (same_text p) (x ∷ ys) = λ p. h p ∙ ap (λ z. list_any (same_text p) (z ∷ ys)) (sym is) in
      ap (λ z. z ∷ xs) is ∙ ap (λ zs. y ∷ zs) (rest (tail_same x xs ys f.0 (subst (λ z. Behind z ys) (sym is) g.0) same))

-- ---- the files below a root are those that its paths tell

-- below a root two folders tell the same
abbrev pub TellSame : Text → Contents → Contents → Type 0
TellSame root m0 m = (p : Text) → is_relative_path p ≡ true → fin.get m (full root p) ≡ fin.get m0 (full root p)

same_there : (root : Text) (m0 m : Contents) → TellSame root m0 m → (p : Text) → list_any (same_text p) (paths_below root m) ≡ list_any (same_text p) (paths_below root m0)
same_there root m0 m h p = any_path root p m ∙ by (is_relative_path p) refl ∙ sym (any_path root p m0) where
  by : (b : Bool) → is_relative_path p ≡ b → (b && is_some (fin.get m (full root p))) ≡ (b && is_some (fin.get m0 (full root p)))
  by true e = ap is_some (h p e)
  by false e = refl

same_paths : (root : Text) (m0 m : Contents) → TellSame root m0 m → paths_below root m ≡ paths_below root m0
same_paths root m0 m h = same_members (paths_below root m) (paths_below root m0) (paths_below-rise root m) (paths_below-rise root m0) (same_there root m0 m h)

same_at : (root : Text) (m0 m : Contents) → TellSame root m0 m → (ps : List Text) → list_all is_relative_path ps ≡ true → map (file_at root m) ps ≡ map (file_at root m0) ps
same_at root m0 m h [] r = refl
same_at root m0 m h (p ∷ ps) r =
    let both = and_parts (is_relative_path p) (list_all is_relative_path ps) r in
    let bytes = ap (λ (o : Option Text). unwrap_or o []) (h p both.0) in
    ap (λ (t : Text). record { path = p; bytes = t } ∷ map (file_at root m) ps) bytes ∙ ap (λ fs. file_at root m0 p ∷ fs) (same_at root m0 m h ps both.1)

same_files : (root : Text) (m0 m : Contents) → TellSame root m0 m → files_below root m ≡ files_below root m0
same_files root m0 m h =
    same_at root m0 m h (paths_below root m) (paths_below-relative root m) ∙ ap (map (file_at root m0)) (same_paths root m0 m h)

-- ---- what a run leaves

target_relative : (run : Run) (m0 : Contents) (a b : List File) (file : File) → TargetsApart run m0 → files_below run.from m0 ≡ a ++ file ∷ b → is_relative_path (run.target file.path) ≡ true
target_relative run m0 a b file apart e =
    relative_at (targets_of run a) (run.target file.path) (targets_of run b) (subst AllRelative (ap (targets_of run) e ∙ map-append (λ (f : File). run.target f.path) a (file ∷ b)) apart.relative)

pub spared : (run : Run) (m0 : Contents) (l0 : Ledger) (m : Contents) (l : Ledger) (done : ℕ) (root : Text) → TargetsApart run m0 → RootsApart root run.to → Stands run m0 l0 m l done → TellSame root m0 m
spared run m0 l0 m l done root apart roots s = λ p rel.
    (remains_of run m0 l0 m l done s).paths (full root p)
    (λ a b file e le fresh at. roots p (run.target file.path) rel (target_relative run m0 a b file apart e) (sym at))

-- the roots of a run of roots
pub record HasRoots (roots : Roots) (run : Run) : Type 0 where
  pub from : run.from ≡ roots.from
  pub to : run.to ≡ roots.to

pub has_roots : (roots : Roots) (m : Contents) (run : Run) → run_of_asked (Ok roots) m ≡ Ok run → HasRoots roots run
has_roots roots m run e = by (ruled roots.rules (files_below roots.rules m)) e where
  by : (r : Result DigestedRules Status) → run_by_rules m roots r ≡ Ok run → HasRoots roots run
  by (Err status) f = cc
  by (Ok r) f = record { from = cc; to = cc }

-- both roots are apart from the target
record Spares (roots : Roots) (m0 m : Contents) : Type 0 where
  source : TellSame roots.from m0 m
  rules : TellSame roots.rules m0 m

spares_begun : (roots : Roots) (m0 : Contents) (l0 : Ledger) (m : Contents) (l : Ledger) (done : ℕ) (run : Run) → AreRoots roots → run_of_asked (Ok roots) m0 ≡ Ok run → Between run m0 l0 m l done ⊎ Within run m0 l0 m l done → Spares roots m0 m
spares_begun roots m0 l0 m l done run are is s =
    let to = sym (has_roots roots m0 run is).to in
    record {
      source = spared run m0 l0 m l done roots.from (apart s) (subst (RootsApart roots.from) to are.apart) (inr s);
      rules = spared run m0 l0 m l done roots.rules (apart s) (subst (RootsApart roots.rules) to are.rules_apart) (inr s);
    } where
      apart : Between run m0 l0 m l done ⊎ Within run m0 l0 m l done → TargetsApart run m0
      apart (inl b) = b.apart
      apart (inr w) = w.apart

spares_unchanged : (roots : Roots) (m0 m : Contents) → m ≡ m0 → Spares roots m0 m
spares_unchanged roots m0 m e = record { source = λ p rel. ap (λ x. fin.get x (full roots.from p)) e; rules = λ p rel. ap (λ x. fin.get x (full roots.rules p)) e }

spares_at : (roots : Roots) (m0 : Contents) (l0 : Ledger) (m : Contents) (l : Ledger) (done : ℕ) → AreRoots roots → StandsAt (Ok roots) m0 l0 m l done → Spares roots m0 m
spares_at roots m0 l0 m l done are (inl u) = spares_unchanged roots m0 m u.folder
spares_at roots m0 l0 m l done are (inr b) = spares_begun roots m0 l0 m l done b.run are b.is b.stands

spares_done : (roots : Roots) (m0 : Contents) (l0 : Ledger) (m : Contents) (l : Ledger) → AreRoots roots → IsDone (Ok roots) m0 l0 m l → Spares roots m0 m
spares_done roots m0 l0 m l are d = spares_begun roots m0 l0 m l _ d.run are d.ready.is (inl d.stands)

spares : (roots : Roots) (m0 : Contents) (l0 : Ledger) (m : Contents) (l : Ledger) (status : Status) → AreRoots roots → StandsAfter (Ok roots) m0 l0 m l status → Spares roots m0 m
spares roots m0 l0 m l Done are s = spares_done roots m0 l0 m l are s
spares roots m0 l0 m l Refusals are s = spares_done roots m0 l0 m l are s
spares roots m0 l0 m l OutputFault are s = spares_done roots m0 l0 m l are s
spares roots m0 l0 m l Memory are s = spares_at roots m0 l0 m l s.done are s.stands
spares roots m0 l0 m l (Moved path one other) are s = spares_at roots m0 l0 m l s.done are s.stands
spares roots m0 l0 m l (NotInvertible fault) are s = spares_unchanged roots m0 m s.folder
spares roots m0 l0 m l (Differs path) are s = spares_unchanged roots m0 m s.folder
spares roots m0 l0 m l (FolderFault done) are s = spares_at roots m0 l0 m l done are s.stands
spares roots m0 l0 m l (LedgerFault done) are s = spares_at roots m0 l0 m l done are s
spares roots m0 l0 m l Usage are s = spares_unchanged roots m0 m s.folder
spares roots m0 l0 m l (NestedRoots first second) are s = spares_unchanged roots m0 m s.folder
spares roots m0 l0 m l (BadRules fault) are s = spares_unchanged roots m0 m s.folder
spares roots m0 l0 m l (OtherRun kept wanted) are s = spares_unchanged roots m0 m s.folder
spares roots m0 l0 m l (Limit kind path) are s = spares_unchanged roots m0 m s.folder
spares roots m0 l0 m l (PathClash first second) are s = spares_unchanged roots m0 m s.folder
spares roots m0 l0 m l (NameClash defined other image) are s = spares_unchanged roots m0 m s.folder
spares roots m0 l0 m l (Stranded path held) are s = spares_unchanged roots m0 m s.folder

-- the roots that words ask for are such
asked_are_roots : (words : List Text) (roots : Roots) → asked_of words ≡ Ok roots → AreRoots roots
asked_are_roots words roots e = by (order_of_words words) refl e where
  by : (o : Result Order RootsFault) → order_of_words words ≡ o → asked_by o ≡ Ok roots → AreRoots roots
  by (Ok (order.Run given workers)) f g =
      let is : given ≡ roots = cc in
      subst AreRoots is (order_is_sound words (order.Run given workers) f).0
  by (Ok (order.Generate count workers)) f g = cc
  by (Ok (order.GenerateSql count workers)) f g = cc
  by (Ok (order.Query asked)) f g = cc
  by (Err fault) f g = cc

leaves_by : (asked : Asked) (m0 : Contents) (l0 : Ledger) (m : Contents) (l : Ledger) (status : Status) → ((roots : Roots) → asked ≡ Ok roots → AreRoots roots) → StandsAfter asked m0 l0 m l status → LeavesSources asked m0 m
leaves_by (Ok roots) m0 l0 m l status are s =
    let kept = spares roots m0 l0 m l status (are roots refl) s in
    record { source = same_files roots.from m0 m kept.source; rules = same_files roots.rules m0 m kept.rules }
leaves_by (Err fault) m0 l0 m l status are s = tt

pub sources_clause : (words : List Text) (m0 : Contents) (l0 : Ledger) (f : Option Contents) (k : Option Ledger) (status : Status)
    → Tells f k (λ m l. StandsAfter (asked_of words) m0 l0 m l status) → Tells f k (λ m _. LeavesSources (asked_of words) m0 m)
sources_clause words m0 l0 f k status t = record { m = t.m; l = t.l; folders = t.folders; ledger = t.ledger; holds = leaves_by (asked_of words) m0 l0 t.m t.l status (asked_are_roots words) t.holds }
