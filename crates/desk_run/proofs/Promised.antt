-- The clauses of a run, from where it stands at its end.
use Rattle.std.proofs.Common.{All, ◌≡◌, ◌⊎◌, inl, inr, ℕ, ◌≤◌, List, [], ◌∷◌, ◌++◌, Option, Some, None, refl, sym, ap, ◌∙◌, subst, true, append-nil, length, Result, Ok, Err, OnOk, OnErr}
use Rattle.std.specs.Prelude.{IsOkAnd, MatchResult}
use Rattle.desk_base.specs.Names.{Text}
use Rattle.desk_base.specs.Counts.{Rose, Rose-earlier, Rose-later}
use Rattle.desk_folders.specs.Contents.{Contents, File, files_below}
use Rattle.desk_ledger.specs.Ledger.{Ledger, with_header}
use Rattle.desk_report.specs.declared.sink.SinkFault.{SinkFault}
use Rattle.desk_report.specs.declared.status.Status.{Status}
use Rattle.desk_report.specs.declared.status.Status.TheVariants.{Done, Refusals, Memory, FolderFault, LedgerFault, OutputFault, Usage, NestedRoots, BadRules, Limit, PathClash, NameClash, Stranded, OtherRun, Moved, NotInvertible, Differs}
use Rattle.desk_report.specs.Texts.{fault_text}
use Rattle.desk_report.specs.Written.{WritesFront, writing}
use Rattle.desk_kept_code.proofs.Whole.{kept_codes}
use Rattle.desk_run.specs.Asked.{Asked}
use Rattle.desk_intake.specs.declared.halts.Halt.{Halt}
use Rattle.std.proofs.lemmas.Bool.{and_parts}
use Rattle.std.proofs.lemmas.List.Elements.{All-head, All-tail}
use Rattle.desk_format.specs.Laws.{IsBytes}
use Rattle.desk_laws.proofs.Whole.{renamed_classes, unchanged_classes}
use Rattle.desk_follow.specs.RuleImages.{images_of}
use Rattle.desk_rewrite.proofs.Forms.{forms_kept, images_settled}
use Rattle.desk_paths.specs.Kinds.{kind_of}
use Rattle.desk_rules.specs.Rules.{Rules}
use Rattle.desk_rules.specs.RuleSets.{IsRuleSet}
use Rattle.desk_file.specs.Images.{image as image_at}
use Rattle.desk_file.specs.declared.images.Image.{Image}
use Rattle.desk_file.proofs.Alone.{HasAlone, has_alone}
use Rattle.desk_file.proofs.ClassImages.{class_made}
use Rattle.desk_follow.proofs.Follow.{follow}
use Rattle.desk_second.proofs.Classes.{class_kind}
use Rattle.desk_run.specs.Runs.{Run}
use Rattle.desk_run.specs.Works.{works_of}
use Rattle.desk_run.specs.Truth.{IsVerified, SoundLedger, TrueLedger}
use Rattle.desk_run.specs.Stops.{status_of_halt}
use Rattle.desk_run.specs.Stands.{Unchanged, Between, Stands, Remains}
use Rattle.desk_run.specs.Classes.{is_selected_class, HoldsNewClass, RenamesClasses, Classes}
use Rattle.desk_run.specs.Meaning.{Meant, defined_in, run_of, run_of_asked}
use Rattle.desk_run.specs.Endings.{WhereTold, Tells, HaltsEarly, ReportedOf, HasCauses, StandsAt, IsDone, StandsAfter, is_final, Named}
use Rattle.desk_run.specs.Clauses.{HoldsFiles, HoldsRows, Files, CompleteRows, TrueBehind, KeepsLedger, LedgerHolds, Output, Exact, RemainsAt, Left}
use Rattle.desk_run.specs.Generated.{TellsTotals, Generates, generated_totals}
use Rattle.desk_run.proofs.After.{header_after}
use Rattle.desk_run.proofs.Remaining.{remains_of, truth_of}
use Rattle.desk_run.proofs.Sounding.{sound_of, true_behind}
use Rattle.desk_run.proofs.Splits.{shorter_than}
use Rattle.desk_run.proofs.Ending.{early_stands}

holds_files : (run : Run) (m0 : Contents) (l0 : Ledger) (m : Contents) (l : Ledger) → Between run m0 l0 m l (length (files_below run.from m0)) → HoldsFiles run m0 l0 m
holds_files run m0 l0 m l b =
    let r = remains_of run m0 l0 m l (length (files_below run.from m0)) (inr (inl b)) in
    record {
      images = λ before rest file image e is truth. r.images before rest file image e (shorter_than (files_below run.from m0) before rest file e) is truth;
      paths = λ path h. r.paths path (λ before rest file e le. h before rest file e);
    }

pub holds_rows : (run : Run) (m0 : Contents) (l0 : Ledger) (m : Contents) (l : Ledger) → Between run m0 l0 m l (length (files_below run.from m0)) → HoldsRows run m0 l0 l
holds_rows run m0 l0 m l b =
    let r = remains_of run m0 l0 m l (length (files_below run.from m0)) (inr (inl b)) in
    record {
      header = ap (λ (x : Ledger). x.header) b.ledger ∙ header_after (works_of run l0.rows b.before) (with_header run.header l0);
      rows = λ before rest file image e is. r.rows before rest file image e (shorter_than (files_below run.from m0) before rest file e) is;
      others = λ target h. r.others target (λ before rest file e le. h before rest file e);
    }

pub ok_and : {T E : Type 0} (r : Result T E) (x : T) (P : T → Type 0) → r ≡ Ok x → P x → IsOkAnd r P
ok_and r x P e p = subst (λ r. IsOkAnd r P) (sym e) p

same_ok : {T E : Type 0} (r : Result T E) (x y : T) → r ≡ Ok x → r ≡ Ok y → x ≡ y
same_ok (Ok z) x y e f = cc
same_ok (Err z) x y e f = cc

pub files_clause : (asked : Asked) (m0 : Contents) (l0 : Ledger) (f : Option Contents) (k : Option Ledger) (status : Status)
    → Tells f k (λ m l. StandsAfter asked m0 l0 m l status) → Tells f k (λ m l. Files asked m0 l0 m status)
files_clause asked m0 l0 f k status t = record { m = t.m; l = t.l; folders = t.folders; ledger = t.ledger; holds = by status t.holds } where
  by : (status : Status) → StandsAfter asked m0 l0 t.m t.l status → Files asked m0 l0 t.m status
  by Done s = ok_and (run_of_asked asked m0) s.run (λ run. HoldsFiles run m0 l0 t.m) s.ready.is (holds_files s.run m0 l0 t.m t.l s.stands)
  by Refusals s = ok_and (run_of_asked asked m0) s.run (λ run. HoldsFiles run m0 l0 t.m) s.ready.is (holds_files s.run m0 l0 t.m t.l s.stands)
  by Memory s = tt
  by OutputFault s = tt
  by (FolderFault done) s = tt
  by (LedgerFault done) s = tt
  by Usage s = tt
  by (NestedRoots first second) s = tt
  by (BadRules fault) s = tt
  by (OtherRun kept wanted) s = tt
  by (Limit kind path) s = tt
  by (PathClash first second) s = tt
  by (NameClash defined other image) s = tt
  by (Stranded path held) s = tt
  by (Moved path one other) s = tt
  by (NotInvertible fault) s = tt
  by (Differs path) s = tt

-- ---- classes

class_of_run : (rules : Rules) (file : File) (image : Image) (held : Option Text) → IsRuleSet rules → IsBytes file.bytes → is_selected_class rules file.path ≡ true → HasAlone (image_at rules file.path file.bytes) image → held ≡ Some image.bytes
    → HoldsNewClass rules file.bytes held
class_of_run rules file image held settled bytes selected is there =
    let p = and_parts _ _ selected in
    let m = class_made rules file.path file.bytes is.alone p.0 (class_kind (kind_of file.path) p.1) is.is in
    let forms = forms_kept rules settled in
    let renamed = renamed_classes (images_of rules) file.bytes m.class forms bytes m.reads m.accepted in
    record {
      class = m.class;
      reads = m.reads;
      holds = there ∙ ap Some (is.bytes ∙ ap (λ (i : Image). i.bytes) m.is);
      renamed = renamed;
      names = follow rules file.bytes m.class settled bytes m.reads renamed;
      codes = kept_codes (images_of rules) file.bytes m.class forms bytes m.reads m.accepted;
      again = unchanged_classes (images_of rules) file.bytes m.class forms (images_settled rules settled) bytes m.reads m.accepted;
    }

all_among : (before rest : List File) (file : File) → All (λ (f : File). IsBytes f.bytes) (before ++ file ∷ rest) → IsBytes file.bytes
all_among [] rest file h = All-head (λ (f : File). IsBytes f.bytes) file rest h
all_among (f ∷ before) rest file h = all_among before rest file (All-tail (λ (g : File). IsBytes g.bytes) f (before ++ file ∷ rest) h)

renames_classes : (asked : Asked) (m0 : Contents) (l0 : Ledger) (m : Contents) (l : Ledger) → IsDone asked m0 l0 m l → RenamesClasses asked m0 l0 m
renames_classes asked m0 l0 m l d =
    let run = run_of d.runs.roots d.runs.ruled m0 in
    let holds : HoldsFiles run m0 l0 m = subst (λ (r : Run). HoldsFiles r m0 l0 m) d.runs.is (holds_files d.run m0 l0 m l d.stands) in
    let bytes : All (λ (f : File). IsBytes f.bytes) (files_below run.from m0) = subst (λ (r : Run). All (λ (f : File). IsBytes f.bytes) (files_below r.from m0)) d.runs.is d.runs.bytes in
    record {
      roots = d.runs.roots;
      ruled = d.runs.ruled;
      asks = d.runs.asks;
      rules = d.runs.rules;
      is = d.ready.is ∙ ap Ok d.runs.is;
      classes = λ before rest file image e selected is truth.
          class_of_run d.runs.ruled.rules file image _ d.runs.are.settled (all_among before rest file (subst (All (λ (f : File). IsBytes f.bytes)) e bytes)) selected
          (has_alone d.runs.ruled.rules (defined_in run.classes) file.path file.bytes image is) (holds.images before rest file image e is truth);
    }

pub classes_clause : (asked : Asked) (m0 : Contents) (l0 : Ledger) (f : Option Contents) (k : Option Ledger) (status : Status)
    → Tells f k (λ m l. StandsAfter asked m0 l0 m l status) → Tells f k (λ m l. Classes asked m0 l0 m status)
classes_clause asked m0 l0 f k status t = record { m = t.m; l = t.l; folders = t.folders; ledger = t.ledger; holds = by status t.holds } where
  by : (status : Status) → StandsAfter asked m0 l0 t.m t.l status → Classes asked m0 l0 t.m status
  by Done s = renames_classes asked m0 l0 t.m t.l s
  by Refusals s = renames_classes asked m0 l0 t.m t.l s
  by Memory s = tt
  by OutputFault s = tt
  by (FolderFault done) s = tt
  by (LedgerFault done) s = tt
  by Usage s = tt
  by (NestedRoots first second) s = tt
  by (BadRules fault) s = tt
  by (OtherRun kept wanted) s = tt
  by (Limit kind path) s = tt
  by (PathClash first second) s = tt
  by (NameClash defined other image) s = tt
  by (Stranded path held) s = tt
  by (Moved path one other) s = tt
  by (NotInvertible fault) s = tt
  by (Differs path) s = tt

keeps_ledger : (asked : Asked) (m0 : Contents) (l0 : Ledger) (m : Contents) (l : Ledger) (status : Status) → StandsAfter asked m0 l0 m l status → KeepsLedger asked m0 l0 m l status
keeps_ledger asked m0 l0 m l status s = record {
  stays = λ run is. stays TrueLedger (λ run done. truth_of run m0 l0 m l done) status s run is;
  sound = λ run is. stays SoundLedger (λ run done. sound_of run m0 l0 m l done) status s run is;
  complete = rows status s;
  verified = behind status s;
} where
  -- what holds of a ledger stays, wherever the run stands
  stays : (P : Run → Contents → Ledger → Type 0) → ((run : Run) (done : ℕ) → Stands run m0 l0 m l done → P run m0 l0 → P run m l) → (status : Status) → StandsAfter asked m0 l0 m l status → (run : Run) → run_of_asked asked m0 ≡ Ok run → P run m0 l0 → P run m l
  stays P keep status s run is = by status s where
    untouched : Unchanged m0 l0 m l 0 → P run m0 l0 → P run m l
    untouched u = keep run 0 (inl u)

    begun : (done : ℕ) → StandsAt asked m0 l0 m l done → P run m0 l0 → P run m l
    begun done (inl u) = keep run done (inl u)
    begun done (inr b) = subst (λ (r : Run). P r m0 l0 → P r m l) (same_ok (run_of_asked asked m0) b.run run b.is is) (keep b.run done (inr b.stands))

    all : IsDone asked m0 l0 m l → P run m0 l0 → P run m l
    all d = subst (λ (r : Run). P r m0 l0 → P r m l) (same_ok (run_of_asked asked m0) d.run run d.ready.is is) (keep d.run _ (inr (inl d.stands)))

    by : (status : Status) → StandsAfter asked m0 l0 m l status → P run m0 l0 → P run m l
    by Done s = all s
    by Refusals s = all s
    by OutputFault s = all s
    by Memory s = begun s.done s.stands
    by (FolderFault done) s = begun done s.stands
    by (LedgerFault done) s = begun done s
    by Usage s = untouched s
    by (NestedRoots first second) s = untouched s
    by (BadRules fault) s = untouched s
    by (OtherRun kept wanted) s = untouched s
    by (Limit kind path) s = untouched s
    by (PathClash first second) s = untouched s
    by (NameClash defined other image) s = untouched s
    by (Stranded path held) s = untouched s
    by (Moved path one other) s = begun s.done s.stands
    by (NotInvertible fault) s = untouched s
    by (Differs path) s = untouched s

  true_then : IsDone asked m0 l0 m l → IsOkAnd (run_of_asked asked m0) (λ run. IsVerified run m0 l0 → TrueLedger run m l)
  true_then d = ok_and (run_of_asked asked m0) d.run (λ run. IsVerified run m0 l0 → TrueLedger run m l) d.ready.is (true_behind d.run m0 l0 m l d.stands)

  behind : (status : Status) → StandsAfter asked m0 l0 m l status → TrueBehind asked m0 l0 m l status
  behind Done s = true_then s
  behind Refusals s = true_then s
  behind OutputFault s = true_then s
  behind Memory s = tt
  behind (FolderFault done) s = tt
  behind (LedgerFault done) s = tt
  behind Usage s = tt
  behind (NestedRoots first second) s = tt
  behind (BadRules fault) s = tt
  behind (OtherRun kept wanted) s = tt
  behind (Limit kind path) s = tt
  behind (PathClash first second) s = tt
  behind (NameClash defined other image) s = tt
  behind (Stranded path held) s = tt
  behind (Moved path one other) s = tt
  behind (NotInvertible fault) s = tt
  behind (Differs path) s = tt

  rows : (status : Status) → StandsAfter asked m0 l0 m l status → CompleteRows asked m0 l0 l status
  rows Done s = ok_and (run_of_asked asked m0) s.run (λ run. HoldsRows run m0 l0 l) s.ready.is (holds_rows s.run m0 l0 m l s.stands)
  rows Refusals s = ok_and (run_of_asked asked m0) s.run (λ run. HoldsRows run m0 l0 l) s.ready.is (holds_rows s.run m0 l0 m l s.stands)
  rows Memory s = tt
  rows OutputFault s = tt
  rows (FolderFault done) s = tt
  rows (LedgerFault done) s = tt
  rows Usage s = tt
  rows (NestedRoots first second) s = tt
  rows (BadRules fault) s = tt
  rows (OtherRun kept wanted) s = tt
  rows (Limit kind path) s = tt
  rows (PathClash first second) s = tt
  rows (NameClash defined other image) s = tt
  rows (Stranded path held) s = tt
  rows (Moved path one other) s = tt
  rows (NotInvertible fault) s = tt
  rows (Differs path) s = tt

pub ledger_clause : (asked : Asked) (f0 f : Option Contents) (k0 k : Option Ledger) (name0 name : Option Text) (status : Status)
    → WhereTold f0 k0 (λ m0 l0. Tells f k (λ m l. StandsAfter asked m0 l0 m l status)) → Named asked name0 name status → LedgerHolds asked f0 f k0 k name0 name status
ledger_clause asked f0 f k0 k name0 name status stands named = record {
  kept = λ m0 l0 ef ek.
      let t = stands m0 l0 ef ek in
      record { m = t.m; l = t.l; folders = t.folders; ledger = t.ledger; holds = keeps_ledger asked m0 l0 t.m t.l status t.holds };
  attached = named;
}

pub remains_at : (asked : Asked) (m0 : Contents) (l0 : Ledger) (m : Contents) (l : Ledger) (done : ℕ) → StandsAt asked m0 l0 m l done → RemainsAt asked m0 l0 m l done
remains_at asked m0 l0 m l done (inl u) = by (run_of_asked asked m0) where
  by : (r : Meant) → MatchResult r (λ run. Remains run m0 l0 m l done) (λ _. Unchanged m0 l0 m l done)
  by (Ok run) = remains_of run m0 l0 m l done (inl u)
  by (Err status) = u
remains_at asked m0 l0 m l done (inr b) = subst (λ r. MatchResult r (λ run. Remains run m0 l0 m l done) (λ _. Unchanged m0 l0 m l done)) (sym b.is) (remains_of b.run m0 l0 m l done (inr b.stands))

pub remains_clause : (asked : Asked) (m0 : Contents) (l0 : Ledger) (f : Option Contents) (k : Option Ledger) (status : Status)
    → Tells f k (λ m l. StandsAfter asked m0 l0 m l status) → Tells f k (λ m l. Left asked m0 l0 m l status)
remains_clause asked m0 l0 f k status t = record { m = t.m; l = t.l; folders = t.folders; ledger = t.ledger; holds = by status t.holds } where
  by : (status : Status) → StandsAfter asked m0 l0 t.m t.l status → Left asked m0 l0 t.m t.l status
  by Done s = tt
  by Refusals s = tt
  by OutputFault s = ok_and (run_of_asked asked m0) s.run (λ run. HoldsFiles run m0 l0 t.m × HoldsRows run m0 l0 t.l) s.ready.is (holds_files s.run m0 l0 t.m t.l s.stands, holds_rows s.run m0 l0 t.m t.l s.stands)
  by Memory s = record { done = s.done; remains = remains_at asked m0 l0 t.m t.l s.done s.stands }
  by (FolderFault done) s = record { remains = remains_at asked m0 l0 t.m t.l done s.stands; fresh = s.fresh }
  by (LedgerFault done) s = remains_at asked m0 l0 t.m t.l done s
  by Usage s = (s.folder, s.ledger)
  by (NestedRoots first second) s = (s.folder, s.ledger)
  by (BadRules fault) s = (s.folder, s.ledger)
  by (OtherRun kept wanted) s = (s.folder, s.ledger)
  by (Limit kind path) s = (s.folder, s.ledger)
  by (PathClash first second) s = (s.folder, s.ledger)
  by (NameClash defined other image) s = (s.folder, s.ledger)
  by (Stranded path held) s = (s.folder, s.ledger)
  by (Moved path one other) s = record { done = s.done; remains = remains_at asked m0 l0 t.m t.l s.done s.stands }
  by (NotInvertible fault) s = (s.folder, s.ledger)
  by (Differs path) s = (s.folder, s.ledger)

-- what is final is the first answer, and what else is quiet is want of memory
pub status_clause : (asked : Asked) (told : Option Contents) (m : Contents) (first status : Status) (f f' k k' o o' : ℕ) → told ≡ Some m → (is_final status ≡ true → status ≡ first) → HasCauses asked told status f f' k k' o o' → Exact first status f f' k k' o o'
status_clause asked told m first status f f' k k' o o' is h c = record { final = h; quiet = by status h c } where
  by : (status : Status) → (is_final status ≡ true → status ≡ first) → HasCauses asked told status f f' k k' o o' → ¬ Rose f f' → ¬ Rose k k' → ¬ Rose o o' → (status ≡ first) ⊎ (status ≡ Memory)
  by Done h c a b d = inl (h refl)
  by Refusals h c a b d = inl (h refl)
  by Memory h c a b d = inr refl
  by OutputFault h c a b d = absurd (d c)
  by (FolderFault done) h c a b d = absurd (a c)
  by (LedgerFault done) h c a b d = absurd (b c)
  by Usage h c a b d = inl (h refl)
  by (NestedRoots first second) h c a b d = inl (h refl)
  by (BadRules fault) h c a b d = inl (h refl)
  by (OtherRun kept wanted) h c a b d = inl (h refl)
  by (Limit kind path) h c a b d = inl (h refl)
  by (PathClash first second) h c a b d = inl (h refl)
  by (NameClash defined other image) h c a b d = inl (h refl)
  by (Stranded path held) h c a b d = inl (h refl)
  by (Moved path one other) h c a b d = let e : None ≡ Some m = sym c.1 ∙ is in cc
  by (NotInvertible fault) h c a b d = inl (h refl)
  by (Differs path) h c a b d = inl (h refl)

pub last_write : (line : Text) (old new : Option Text) (o o' : ℕ) (r : Result (Unit {0}) SinkFault) → OnOk r (new ≡ writing line old) → OnErr r (WritesFront line old new) → OnErr r (Rose o o')
    → (new ≡ writing line old) ⊎ (WritesFront line old new × Rose o o')
last_write line old new o o' (Ok x) a b c = inl a
last_write line old new o o' (Err e) a b c = inr (b, c)

writing_nothing : (old : Option Text) → writing [] old ≡ old
writing_nothing None = refl
writing_nothing (Some text) = ap Some (append-nil text)

nothing_in_front : (front rest : Text) → [] ≡ front ++ rest → front ≡ []
nothing_in_front [] rest e = refl
nothing_in_front (x ∷ front) rest e = cc

pub no_line : (old new : Option Text) (o o' : ℕ) → (new ≡ writing [] old) ⊎ (WritesFront [] old new × Rose o o') → new ≡ old
no_line old new o o' (inl e) = e ∙ writing_nothing old
no_line old new o o' (inr w) = w.0.is ∙ ap (λ t. writing t old) (nothing_in_front w.0.front w.0.rest w.0.all) ∙ writing_nothing old

pub front_of_line : (line : Text) (old new : Option Text) (o o' : ℕ) → (new ≡ writing line old) ⊎ (WritesFront line old new × Rose o o') → WritesFront line old new
front_of_line line old new o o' (inl e) = record { front = line; rest = []; all = sym (append-nil line); is = e }
front_of_line line old new o o' (inr w) = w.0

pub plain : (line : Text) (old mid new : Option Text) (o o1 o2 : ℕ) → o ≤ o1 → mid ≡ old → (new ≡ writing line mid) ⊎ (WritesFront line mid new × Rose o1 o2)
    → (new ≡ writing line old) ⊎ (WritesFront line old new × Rose o o2)
plain line old mid new o o1 o2 le e (inl w) = inl (w ∙ ap (writing line) e)
plain line old mid new o o1 o2 le e (inr w) = inr (subst (λ m. WritesFront line m new) e w.0, Rose-earlier o o1 o2 le w.1)

pub ok_map : {T E : Type 0} (r : Result T E) (P Q : T → Type 0) → ((x : T) → P x → Q x) → IsOkAnd r P → IsOkAnd r Q
ok_map (Ok x) P Q h p = h x p
ok_map (Err e) P Q h p = p

pub output_clause : (asked : Asked) (f0 : Option Contents) (k0 : Option Ledger) (status : Status) (old mid new : Option Text) (o o1 o2 : ℕ) → o ≤ o1 → ReportedOf asked f0 k0 old mid status
    → (new ≡ writing (fault_text status) mid) ⊎ (WritesFront (fault_text status) mid new × Rose o1 o2) → Output asked f0 k0 old new o o2 status
output_clause asked f0 k0 Done old mid new o o1 o2 le r w = λ m l ef ek. ok_map (run_of_asked asked m) _ _ (λ run e. no_line mid new o1 o2 w ∙ e) (r m l ef ek)
output_clause asked f0 k0 Refusals old mid new o o1 o2 le r w = λ m l ef ek. ok_map (run_of_asked asked m) _ _ (λ run e. no_line mid new o1 o2 w ∙ e) (r m l ef ek)
output_clause asked f0 k0 OutputFault old mid new o o1 o2 le r w = λ m l ef ek.
    ok_map (run_of_asked asked m) _ _ (λ run e. record { mid = mid; report = e; fault = front_of_line (fault_text OutputFault) mid new o1 o2 w }) (r m l ef ek)
output_clause asked f0 k0 Memory old mid new o o1 o2 le r w = plain (fault_text Memory) old mid new o o1 o2 le r w
output_clause asked f0 k0 (FolderFault done) old mid new o o1 o2 le r w = plain (fault_text (FolderFault done)) old mid new o o1 o2 le r w
output_clause asked f0 k0 (LedgerFault done) old mid new o o1 o2 le r w = plain (fault_text (LedgerFault done)) old mid new o o1 o2 le r w
output_clause asked f0 k0 Usage old mid new o o1 o2 le r w = plain (fault_text Usage) old mid new o o1 o2 le r w
output_clause asked f0 k0 (NestedRoots first second) old mid new o o1 o2 le r w = plain (fault_text (NestedRoots first second)) old mid new o o1 o2 le r w
output_clause asked f0 k0 (BadRules fault) old mid new o o1 o2 le r w = plain (fault_text (BadRules fault)) old mid new o o1 o2 le r w
output_clause asked f0 k0 (OtherRun kept wanted) old mid new o o1 o2 le r w = plain (fault_text (OtherRun kept wanted)) old mid new o o1 o2 le r w
output_clause asked f0 k0 (Limit kind path) old mid new o o1 o2 le r w = plain (fault_text (Limit kind path)) old mid new o o1 o2 le r w
output_clause asked f0 k0 (PathClash first second) old mid new o o1 o2 le r w = plain (fault_text (PathClash first second)) old mid new o o1 o2 le r w
output_clause asked f0 k0 (NameClash defined other image) old mid new o o1 o2 le r w = plain (fault_text (NameClash defined other image)) old mid new o o1 o2 le r w
output_clause asked f0 k0 (Stranded path held) old mid new o o1 o2 le r w = plain (fault_text (Stranded path held)) old mid new o o1 o2 le r w
output_clause asked f0 k0 (Moved path one other) old mid new o o1 o2 le r w = plain (fault_text (Moved path one other)) old mid new o o1 o2 le r w
output_clause asked f0 k0 (NotInvertible fault) old mid new o o1 o2 le r w = plain (fault_text (NotInvertible fault)) old mid new o o1 o2 le r w
output_clause asked f0 k0 (Differs path) old mid new o o1 o2 le r w = plain (fault_text (Differs path)) old mid new o o1 o2 le r w

pub causes_after : (asked : Asked) (told : Option Contents) (status : Status) (f f' k k' o o1 o2 : ℕ) → o1 ≤ o2 → HasCauses asked told status f f' k k' o o1 → HasCauses asked told status f f' k k' o o2
causes_after asked told OutputFault f f' k k' o o1 o2 le c = Rose-later o o1 o2 c le
causes_after asked told (FolderFault done) f f' k k' o o1 o2 le c = c
causes_after asked told (LedgerFault done) f f' k k' o o1 o2 le c = c
causes_after asked told Done f f' k k' o o1 o2 le c = c
causes_after asked told Refusals f f' k k' o o1 o2 le c = c
causes_after asked told Memory f f' k k' o o1 o2 le c = c
causes_after asked told Usage f f' k k' o o1 o2 le c = c
causes_after asked told (NestedRoots first second) f f' k k' o o1 o2 le c = c
causes_after asked told (BadRules fault) f f' k k' o o1 o2 le c = c
causes_after asked told (OtherRun kept wanted) f f' k k' o o1 o2 le c = c
causes_after asked told (Limit kind path) f f' k k' o o1 o2 le c = c
causes_after asked told (PathClash first second) f f' k k' o o1 o2 le c = c
causes_after asked told (NameClash defined other image) f f' k k' o o1 o2 le c = c
causes_after asked told (Stranded path held) f f' k k' o o1 o2 le c = c
causes_after asked told (Moved path one other) f f' k k' o o1 o2 le c = c
causes_after asked told (NotInvertible fault) f f' k k' o o1 o2 le c = c
causes_after asked told (Differs path) f f' k k' o o1 o2 le c = c

-- where a run stands that halts early
pub early_told : (asked : Asked) (f0 f' : Option Contents) (k0 k' : Option Ledger) (m : Contents) (l : Ledger) (a b c d : ℕ) (h : Halt) → f0 ≡ Some m → k0 ≡ Some l → f' ≡ f0
    → HaltsEarly asked f0 k0 k' a b c d h → Tells f' k' (λ m' l'. StandsAfter asked m l m' l' (status_of_halt h))
early_told asked f0 f' k0 k' m l a b c d h ef ek f s =
    early_stands asked m l f' k' a b c d h (f ∙ ef)
    (subst (λ x. HaltsEarly asked x (Some l) k' a b c d h) ef (subst (λ x. HaltsEarly asked f0 x k' a b c d h) ek s))

-- ---- generate

pub generates : (n : ℕ) (status : Status) (old mid new : Option Text) (o o1 o2 : ℕ) → o ≤ o1 → TellsTotals n old mid status
    → (new ≡ writing (fault_text status) mid) ⊎ (WritesFront (fault_text status) mid new × Rose o1 o2) → Generates n old new o o2 status
generates n Done old mid new o o1 o2 le t w = ok_map (generated_totals n) _ _ (λ totals e. no_line mid new o1 o2 w ∙ e) t
generates n OutputFault old mid new o o1 o2 le t w =
    ok_map (generated_totals n) _ _ (λ totals e. record { mid = mid; report = e; fault = front_of_line (fault_text OutputFault) mid new o1 o2 w }) t
generates n Memory old mid new o o1 o2 le t w = plain (fault_text Memory) old mid new o o1 o2 le t w
generates n Refusals old mid new o o1 o2 le t w = absurd t
generates n (FolderFault done) old mid new o o1 o2 le t w = absurd t
generates n (LedgerFault done) old mid new o o1 o2 le t w = absurd t
generates n Usage old mid new o o1 o2 le t w = absurd t
generates n (NestedRoots first second) old mid new o o1 o2 le t w = absurd t
generates n (BadRules fault) old mid new o o1 o2 le t w = absurd t
generates n (OtherRun kept wanted) old mid new o o1 o2 le t w = absurd t
generates n (Limit kind path) old mid new o o1 o2 le t w = absurd t
generates n (PathClash first second) old mid new o o1 o2 le t w = absurd t
generates n (NameClash defined other image) old mid new o o1 o2 le t w = absurd t
generates n (Stranded path held) old mid new o o1 o2 le t w = absurd t
generates n (Moved path one other) old mid new o o1 o2 le t w = absurd t
generates n (NotInvertible fault) old mid new o o1 o2 le t w = absurd t
generates n (Differs path) old mid new o o1 o2 le t w = absurd t
