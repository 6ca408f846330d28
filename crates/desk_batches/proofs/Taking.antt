-- The files of a batch, those of them that are read whole, and their images.
use Rattle.std.proofs.Common.{◌≡◌, ℕ, zero, ◌+◌, ◌≤◌, ◌<◌, List, [], ◌∷◌, ◌++◌, Option, Some, None, Bool, refl, sym, ap, ◌∙◌, subst, take, drop, length, true, false, suc, get_or, length-append, append_assoc, arith, ◌-◌, ◌≢◌, inl}
use Rattle.std.specs.Prelude.{IfSome, map, cond, Result, Err, unwrap_or, All, option_map}
use Rattle.std.proofs.Math.Seq.{get_or-append_seam, take-add}
use Rattle.std.proofs.lemmas.List.{map-append, length-map, take_more, get_or-drop, take-append-drop, drop_more}
use Rattle.std.proofs.Math.ListN.{get_or-map}
use Rattle.desk_ledger.specs.Ledger.{Ledger}
use Rattle.desk_batches.specs.Stops.{Broken, StoppedAt}
use Rattle.desk_batches.specs.Works.{files_after, ledger_after, logged, logged_plan, wrote, wrote_plan, Work}
use Rattle.desk_base.specs.Names.{Text}
use Rattle.desk_batches.specs.Notes.{IsImageNote, IsNoteOf, IsSound, BecomesAsNoted}
use Rattle.desk_batches.specs.declared.planned.Outcome.{Outcome}
use Rattle.desk_base.specs.Paths.{full, is_relative_path}
use Rattle.desk_file.proofs.Treating.{image_routed}
use Rattle.desk_file.specs.Linked.{image_in, with_links}
use Rattle.desk_file.specs.Treatments.{is_selected_class}
use Rattle.desk_file.specs.declared.treatments.Treatment.{Treatment}
use Rattle.desk_file.specs.Routes.{IsRouteBy, image_along}
use Rattle.desk_file.specs.declared.images.Image.{Image}
use Rattle.desk_rules.specs.Rules.{Rules}
use Rattle.desk_folders.specs.Contents.{Contents}
use Rattle.desk_report.specs.declared.lines.Reason.{Reason}
use Rattle.desk_report.specs.declared.lines.Reason.TheVariants.{BadLine}
use Rattle.desk_readings.proofs.Fronts.{split_at}
use Rattle.desk_batches.proofs.Staying.{OfSource}
use Rattle.desk_batches.proofs.Steps.{files_after-join, ledger_after-join, one_file_more, one_row_more, stopped_here}
use Rattle.std.proofs.lemmas.Grind.{common_steps}
use Rattle.std.proofs.lemmas.List.Sums.{sum_by_push}
use Rattle.std.specs.List.{sum_by, slice_range}
use Rattle.desk_batches.specs.Turns.{fitting, weight_of, DidWork, HasItsDigest, SourceStays, bytes_of, fate_of, image_here, image_noted, image_of_input, input_in, is_migrated, migrated, outcome_of, plan_by, work_by, work_in, work_with, works_in}
use Rattle.std.proofs.lemmas.List.Elements.{All-cons, All-drop, All-map, All-nil, All-tail, All-take, All-head}
use Rattle.std.specs.FinMap as fin
use Rattle.std.proofs.lemmas.Bool.{le-leb}
use Rattle.desk_base.proofs.Results.{at_some}
use Rattle.desk_batches.specs.Inputs.{WholeFile}
use Rattle.desk_batches.specs.declared.planned.ImageNote.{ImageNote}
use Rattle.desk_batches.specs.declared.planned.ImageNote.TheVariants.{Unknown, Unchanged, Links}
use Rattle.desk_batches.specs.declared.planned.PlannedFile.{PlannedFile}
use Rattle.desk_batches.specs.declared.planned.Action.{Action}
use Rattle.desk_batches.specs.declared.planned.Action.TheVariants.{Keep, Migrate, Copy}

pub migrated_append : (xs ys : List PlannedFile) → migrated (xs ++ ys) ≡ migrated xs ++ migrated ys
migrated_append [] ys = refl
migrated_append (x ∷ xs) ys = ap (λ zs. cond (is_migrated x.action) (x ∷ zs) zs) (migrated_append xs ys) ∙ joined (is_migrated x.action) x (migrated xs) (migrated ys) where
  joined : (b : Bool) (x : PlannedFile) (front back : List PlannedFile) → cond b (x ∷ (front ++ back)) (front ++ back) ≡ cond b (x ∷ front) front ++ back
  joined true x front back = refl
  joined false x front back = refl

pub migrated_more : (xs : List PlannedFile) (i : ℕ) (x : PlannedFile) → i < length xs → x ≡ get_or xs i x → migrated (take (i + 1) xs) ≡ migrated (take i xs) ++ migrated (x ∷ [])
migrated_more xs i x lt is = ap migrated (take_more xs i x lt ∙ ap (λ z. take i xs ++ z ∷ []) (sym is)) ∙ migrated_append (take i xs) (x ∷ [])

-- one file more was read where it is read whole
pub inputs_more : (from : List ℕ) (m : Contents) (xs : List PlannedFile) (i : ℕ) (x : PlannedFile) (old new : List WholeFile) → i < length xs → x ≡ get_or xs i x → old ≡ map (input_in from m) (migrated (take i xs))
    → new ≡ old ++ map (input_in from m) (migrated (x ∷ [])) → new ≡ map (input_in from m) (migrated (take (i + 1) xs))
inputs_more from m xs i x old new lt is e f =
    f ∙ ap (λ ys. ys ++ map (input_in from m) (migrated (x ∷ []))) e ∙ sym (map-append (input_in from m) (migrated (take i xs)) (migrated (x ∷ [])))
    ∙ ap (map (input_in from m)) (sym (migrated_more xs i x lt is))

pub files_more : (xs : List PlannedFile) (i : ℕ) (x : PlannedFile) (old new : List WholeFile) → i < length xs → x ≡ get_or xs i x → map (λ (input : WholeFile). input.file) old ≡ migrated (take i xs)
    → map (λ (input : WholeFile). input.file) new ≡ map (λ (input : WholeFile). input.file) old ++ migrated (x ∷ []) → map (λ (input : WholeFile). input.file) new ≡ migrated (take (i + 1) xs)
files_more xs i x old new lt is e f = f ∙ ap (λ ys. ys ++ migrated (x ∷ [])) e ∙ sym (migrated_more xs i x lt is)

pub count_more : (xs : List PlannedFile) (i : ℕ) (x : PlannedFile) (old new : ℕ) → i < length xs → x ≡ get_or xs i x → old ≡ length (migrated (take i xs)) → new ≡ old + length (migrated (x ∷ []))
    → new ≡ length (migrated (take (i + 1) xs))
count_more xs i x old new lt is e f =
    f ∙ ap (λ n. n + length (migrated (x ∷ []))) e ∙ sym (length-append (migrated (take i xs)) (migrated (x ∷ []))) ∙ ap length (sym (migrated_more xs i x lt is))

-- what holds of files holds of those that are read whole
pub all_migrated : (P : PlannedFile → Type 0) (xs : List PlannedFile) → All P xs → All P (migrated xs)
all_migrated P [] h = All-nil P
all_migrated P (x ∷ xs) h = one P (is_migrated x.action) x (migrated xs) (All-head P x xs h) (all_migrated P xs (All-tail P x xs h)) where
  one : (P : PlannedFile → Type 0) (b : Bool) (x : PlannedFile) (ys : List PlannedFile) → P x → All P ys → All P (cond b (x ∷ ys) ys)
  one P true x ys p h = All-cons P x ys p h
  one P false x ys p h = h

-- what a file becomes of whose image something was noted
noted_same : (bytes : Text) (treatment : Treatment) (note : ImageNote) (made here : Result Image Reason) → here ≡ made → IsImageNote note bytes here → image_noted bytes treatment note made ≡ here
noted_same bytes treatment Unknown made here e h = sym e
noted_same bytes treatment (Unchanged detail) made here e h = sym h
noted_same bytes treatment (Links links) made here e h = linked_same (is_selected_class treatment) links made here e h where
  linked_same : (selected : Bool) (links : ℕ) (made here : Result Image Reason) → here ≡ made → here ≡ with_links links here → cond selected (with_links links made) made ≡ here
  linked_same true links made here e h = ap (with_links links) (sym e) ∙ sym h
  linked_same false links made here e h = sym e

images_along : (rules : Rules) (defined : List Text) (from : List ℕ) (m : Contents) (xs : List PlannedFile) → All (λ (x : PlannedFile). IsRouteBy rules x.route) xs → All (BecomesAsNoted (image_in rules defined) from m) xs
    → map (image_of_input rules defined) (map (input_in from m) xs) ≡ map (image_here (image_in rules defined) from m) xs
images_along rules defined from m [] h k = refl
images_along rules defined from m (x ∷ xs) h k =
    let along = image_routed rules defined x.route (bytes_of from m x) (All-head (λ (x : PlannedFile). IsRouteBy rules x.route) x xs h) in
    let here = noted_same (bytes_of from m x) x.route.treatment x.image (image_along rules defined x.route (bytes_of from m x)) (image_here (image_in rules defined) from m x) along (All-head (BecomesAsNoted (image_in rules defined) from m) x xs k) in
    ap (λ y. y ∷ map (image_of_input rules defined) (map (input_in from m) xs)) here
    ∙ ap (λ ys. image_here (image_in rules defined) from m x ∷ ys)
    (images_along rules defined from m xs (All-tail (λ (x : PlannedFile). IsRouteBy rules x.route) x xs h) (All-tail (BecomesAsNoted (image_in rules defined) from m) x xs k))

-- the images of what was read
pub images_read : (rules : Rules) (defined : List Text) (from : List ℕ) (m : Contents) (xs : List PlannedFile) (inputs : List WholeFile) (images : List (Result Image Reason)) → All (λ (x : PlannedFile). IsRouteBy rules x.route) xs
    → All (BecomesAsNoted (image_in rules defined) from m) xs → inputs ≡ map (input_in from m) (migrated xs) → images ≡ map (image_of_input rules defined) inputs → images ≡ map (image_here (image_in rules defined) from m) (migrated xs)
images_read rules defined from m xs inputs images h k read made =
    made ∙ ap (map (image_of_input rules defined)) read
    ∙ images_along rules defined from m (migrated xs) (all_migrated (λ (x : PlannedFile). IsRouteBy rules x.route) xs h) (all_migrated (BecomesAsNoted (image_in rules defined) from m) xs k)

-- as many were read as are read whole
pub inputs_counted : (inputs : List WholeFile) (xs : List PlannedFile) → map (λ (input : WholeFile). input.file) inputs ≡ xs → length inputs ≡ length xs
inputs_counted inputs xs e = sym (length-map inputs (λ (input : WholeFile). input.file)) ∙ ap length e

-- what is read of files of which this was noted has the digest that was noted
pub digests_read : (from : List ℕ) (m : Contents) (xs : List PlannedFile) → All (IsNoteOf from m) xs → All HasItsDigest (map (input_in from m) (migrated xs))
digests_read from m xs h =
    All-map HasItsDigest (input_in from m) (migrated xs) (all_migrated (λ (x : PlannedFile). HasItsDigest (input_in from m x)) xs (λ k d lt. sym (h k d lt).digest))

-- no more files are read whole than there are
pub migrated_short : (xs : List PlannedFile) → length (migrated xs) ≤ length xs
migrated_short [] = omega arith
migrated_short (x ∷ xs) = let h = migrated_short xs in short (is_migrated x.action) x (migrated xs) (length xs) h where
  short : (b : Bool) (x : PlannedFile) (ys : List PlannedFile) (n : ℕ) → length ys ≤ n → length (cond b (x ∷ ys) ys) ≤ suc n
  short true x ys n h = omega arith
  short false x ys n h = omega arith

migrated_head : (x : PlannedFile) (xs : List PlannedFile) → is_migrated x.action ≡ true → migrated (x ∷ xs) ≡ x ∷ migrated xs
migrated_head x xs h = ap (λ b. cond b (x ∷ migrated xs) (migrated xs)) h

migrated_split : (xs : List PlannedFile) (i : ℕ) (x : PlannedFile) → i < length xs → x ≡ get_or xs i x → is_migrated x.action ≡ true → migrated xs ≡ migrated (take i xs) ++ x ∷ migrated (drop (suc i) xs)
migrated_split xs i x lt is h =
    ap migrated (split_at xs i x lt is) ∙ migrated_append (take i xs) (x ∷ drop (suc i) xs) ∙ ap (λ ys. migrated (take i xs) ++ ys) (migrated_head x (drop (suc i) xs) h)

-- a file that is read whole has its image at its place among these
pub image_found : {Y : Type 0} (f : PlannedFile → Y) (images : List Y) (xs : List PlannedFile) (i next : ℕ) (x : PlannedFile) (d : Y) → i < length xs → x ≡ get_or xs i x → next ≡ length (migrated (take i xs)) → images ≡ map f (migrated xs)
    → is_migrated x.action ≡ true → get_or images next d ≡ f x
image_found f images xs i next x d lt is at e h =
    ap (λ ys. get_or ys next d) (e ∙ ap (map f) (migrated_split xs i x lt is h) ∙ map-append f (migrated (take i xs)) (x ∷ migrated (drop (suc i) xs)))
    ∙ ap (λ n. get_or (map f (migrated (take i xs)) ++ f x ∷ map f (migrated (drop (suc i) xs))) n d) (at ∙ sym (length-map (migrated (take i xs)) f))
    ∙ get_or-append_seam (map f (migrated (take i xs))) (f x) (map f (migrated (drop (suc i) xs))) d

-- and there is one
pub image_there : (xs : List PlannedFile) (i next count : ℕ) (x : PlannedFile) → i < length xs → x ≡ get_or xs i x → next ≡ length (migrated (take i xs)) → count ≡ length (migrated xs) → is_migrated x.action ≡ true → next < count
image_there xs i next count x lt is at all h =
    let e = ap length (migrated_split xs i x lt is h) in
    let f = length-append (migrated (take i xs)) (x ∷ migrated (drop (suc i) xs)) in
    omega (arith, at, all, e, f)

-- so that is what is found there
pub fate_found : (f : PlannedFile → Result Image Reason) (images : List (Result Image Reason)) (xs : List PlannedFile) (i next : ℕ) (x : PlannedFile) (found : Option (Result Image Reason)) → i < length xs → x ≡ get_or xs i x
    → next ≡ length (migrated (take i xs)) → images ≡ map f (migrated xs) → ((d : Result Image Reason) → unwrap_or found d ≡ get_or images next d) → is_migrated x.action ≡ true → fate_of found ≡ f x
fate_found f images xs i next x found lt is at e got h = got (Err (BadLine 0)) ∙ image_found f images xs i next x (Err (BadLine 0)) lt is at e h

plan_same : (action : Action) (bytes : List ℕ) (a b : Result Image Reason) → (is_migrated action ≡ true → a ≡ b) → plan_by action bytes a ≡ plan_by action bytes b
plan_same Keep bytes a b h = refl
plan_same (Migrate found) bytes a b h = ap (plan_by (Migrate found) bytes) (h refl)
plan_same (Copy found) bytes a b h = refl

-- what is said of a work by what stands there now is said of it by what stood there before
pub work_here : (P : Work → Type 0) (image : Text → Text → Result Image Reason) (from : List ℕ) (f now : Option Contents) (m : Contents) (file : PlannedFile) (fate : Result Image Reason) → f ≡ Some m → SourceStays from f now
    → is_relative_path file.route.path ≡ true → (is_migrated file.action ≡ true → fate ≡ image_here image from m file) → IfSome now (λ n. P (work_by file (bytes_of from n file) fate)) → P (work_in image from m file)
work_here P image from f now m file fate e s relative same h =
    let later = s.told m e in
    let bytes : bytes_of from later.m' file ≡ bytes_of from m file = ap (λ o. unwrap_or o []) (later.same file.route.path relative) in
    let there = at_some (λ n. P (work_by file (bytes_of from n file) fate)) now later.m' later.is h in
    subst P (ap (λ b. work_by file b fate) bytes ∙ ap (work_with file) (plan_same file.action (bytes_of from m file) fate (image_here image from m file) same)) there

at_place : {X Y : Type 0} (f : X → Y) (xs : List X) (i : ℕ) (x : X) → x ≡ get_or xs i x → f x ≡ get_or (map f xs) i (f x)
at_place f xs i x is = ap f is ∙ sym (get_or-map f xs i x)

in_map : {X Y : Type 0} (f : X → Y) (xs : List X) (i : ℕ) → i < length xs → i < length (map f xs)
in_map f xs i lt = subst (λ n. i < n) (sym (length-map xs f)) lt

-- one file more is done to the folder
pub folder_more : (to : List ℕ) (image : Text → Text → Result Image Reason) (from : List ℕ) (m : Contents) (xs : List PlannedFile) (i : ℕ) (x : PlannedFile) (fate : Result Image Reason) (f now new : Option Contents) (k k' : Option Ledger)
    → f ≡ Some m → SourceStays from f now → is_relative_path x.route.path ≡ true → i < length xs → x ≡ get_or xs i x → (is_migrated x.action ≡ true → fate ≡ image_here image from m x)
    → now ≡ option_map (files_after to (take i (works_in image from m xs))) f → IfSome now (λ n. DidWork to (work_by x (bytes_of from n x) fate) now new k k')
    → new ≡ option_map (files_after to (take (i + 1) (works_in image from m xs))) f
folder_more to image from m xs i x fate f now new k k' e s relative lt is same before did =
    one_file_more to (works_in image from m xs) i (work_in image from m x) f now new (in_map (work_in image from m) xs i lt) (at_place (work_in image from m) xs i x is) before
    (work_here (λ work. new ≡ option_map (wrote to work) now) image from f now m x fate e s relative same (mapped now (λ n h. h.folders) did)) where
      mapped : {P Q : Contents → Type 0} (o : Option Contents) → ((n : Contents) → P n → Q n) → IfSome o P → IfSome o Q
      mapped None g h = tt
      mapped (Some n) g h = g n h

pub ledger_more : (to : List ℕ) (image : Text → Text → Result Image Reason) (from : List ℕ) (m : Contents) (xs : List PlannedFile) (i : ℕ) (x : PlannedFile) (fate : Result Image Reason) (f now new : Option Contents) (k know knew : Option Ledger)
    → f ≡ Some m → SourceStays from f now → is_relative_path x.route.path ≡ true → i < length xs → x ≡ get_or xs i x → (is_migrated x.action ≡ true → fate ≡ image_here image from m x)
    → know ≡ option_map (ledger_after (take i (works_in image from m xs))) k → IfSome now (λ n. DidWork to (work_by x (bytes_of from n x) fate) now new know knew)
    → knew ≡ option_map (ledger_after (take (i + 1) (works_in image from m xs))) k
ledger_more to image from m xs i x fate f now new k know knew e s relative lt is same before did =
    one_row_more (works_in image from m xs) i (work_in image from m x) k know knew (in_map (work_in image from m) xs i lt) (at_place (work_in image from m) xs i x is) before
    (work_here (λ work. knew ≡ option_map (logged work) know) image from f now m x fate e s relative same (mapped now (λ n h. h.ledger) did)) where
      mapped : {P Q : Contents → Type 0} (o : Option Contents) → ((n : Contents) → P n → Q n) → IfSome o P → IfSome o Q
      mapped None g h = tt
      mapped (Some n) g h = g n h

-- and is told
pub outcome_more : (image : Text → Text → Result Image Reason) (from : List ℕ) (m : Contents) (xs : List PlannedFile) (i : ℕ) (x : PlannedFile) (fate : Result Image Reason) (f now : Option Contents) (old new : List Outcome) (outcome : Outcome)
    → f ≡ Some m → SourceStays from f now → is_relative_path x.route.path ≡ true → i < length xs → x ≡ get_or xs i x → (is_migrated x.action ≡ true → fate ≡ image_here image from m x)
    → old ≡ map outcome_of (take i (works_in image from m xs)) → IfSome now (λ n. outcome ≡ outcome_of (work_by x (bytes_of from n x) fate)) → new ≡ old ++ outcome ∷ []
    → new ≡ map outcome_of (take (i + 1) (works_in image from m xs))
outcome_more image from m xs i x fate f now old new outcome e s relative lt is same before told grown =
    let work = work_in image from m x in
    let works = works_in image from m xs in
    grown ∙ ap (λ ys. ys ++ outcome ∷ []) before
    ∙ ap (λ y. map outcome_of (take i works) ++ y ∷ []) (work_here (λ work. outcome ≡ outcome_of work) image from f now m x fate e s relative same told)
    ∙ sym (map-append outcome_of (take i works) (work ∷ []))
    ∙ ap (map outcome_of) (ap (λ w. take i works ++ w ∷ []) (at_place (work_in image from m) xs i x is) ∙ sym (take_more works i work (in_map (work_in image from m) xs i lt)))

-- a stop at one file
pub stopped_file : (to : List ℕ) (image : Text → Text → Result Image Reason) (from : List ℕ) (m : Contents) (xs : List PlannedFile) (i : ℕ) (x : PlannedFile) (fate : Result Image Reason) (f now new : Option Contents) (k know knew : Option Ledger)
    → f ≡ Some m → SourceStays from f now → is_relative_path x.route.path ≡ true → i < length xs → x ≡ get_or xs i x → (is_migrated x.action ≡ true → fate ≡ image_here image from m x)
    → now ≡ option_map (files_after to (take i (works_in image from m xs))) f → know ≡ option_map (ledger_after (take i (works_in image from m xs))) k
    → IfSome now (λ n. Broken to (work_by x (bytes_of from n x) fate) now new know knew) → StoppedAt to (works_in image from m xs) i f new k knew
stopped_file to image from m xs i x fate f now new k know knew e s relative lt is same before rows broken =
    stopped_here to (works_in image from m xs) i (work_in image from m x) f now new k know knew (in_map (work_in image from m) xs i lt) (at_place (work_in image from m) xs i x is) before rows
    (work_here (λ work. Broken to work now new know knew) image from f now m x fate e s relative same broken)

-- what was noted of one of the files
pub note_of : (from : List ℕ) (f : Option Contents) (xs : List PlannedFile) (i : ℕ) (x : PlannedFile) → i < length xs → x ≡ get_or xs i x → IfSome f (λ m. All (IsNoteOf from m) xs) → IfSome f (λ m. IsNoteOf from m x)
note_of from None xs i x lt is h = tt
note_of from (Some m) xs i x lt is h = subst (IsNoteOf from m) (sym is) (h i x lt)

pub sound_of : (xs : List PlannedFile) (i : ℕ) (x : PlannedFile) → i < length xs → x ≡ get_or xs i x → All IsSound xs → IsSound x
sound_of xs i x lt is h = subst IsSound (sym is) (h i x lt)

pub no_file : (to : List ℕ) (o : Option Contents) → o ≡ option_map (files_after to []) o
no_file to None = refl
no_file to (Some m) = refl

pub no_row : (o : Option Ledger) → o ≡ option_map (ledger_after []) o
no_row None = refl
no_row (Some l) = refl

-- works are the same by what stands there now
pub works_same : (image : Text → Text → Result Image Reason) (from : List ℕ) (m n : Contents) (xs : List PlannedFile) → ((path : List ℕ) → is_relative_path path ≡ true → fin.get n (full from path) ≡ fin.get m (full from path)) → All IsSound xs
    → works_in image from n xs ≡ works_in image from m xs
works_same image from m n [] same h = refl
works_same image from m n (x ∷ xs) same h =
    ap (λ o. work_by x (unwrap_or o []) (image x.route.path (unwrap_or o [])) ∷ works_in image from n xs) (same x.route.path (All-head IsSound x xs h).path)
    ∙ ap (λ ws. work_in image from m x ∷ ws) (works_same image from m n xs same (All-tail IsSound x xs h))

-- what holds by what stands there now
pub by_now : (P : List Work → Type 0) (image : Text → Text → Result Image Reason) (from : List ℕ) (f now : Option Contents) (m : Contents) (xs : List PlannedFile) → f ≡ Some m → SourceStays from f now → All IsSound xs
    → IfSome now (λ n. P (works_in image from n xs)) → P (works_in image from m xs)
by_now P image from f now m xs e s sound h =
    let later = s.told m e in
    subst P (works_same image from m later.m' xs later.same sound) (at_some (λ n. P (works_in image from n xs)) now later.m' later.is h)

-- what was noted stays true
pub notes_now : (P : Text → Contents → PlannedFile → Type 0) (from : List ℕ) (f now : Option Contents) (xs : List PlannedFile) → OfSource P → SourceStays from f now → All IsSound xs → IfSome f (λ m. All (P from m) xs) → IfSome now (λ m. All (P from m) xs)
notes_now P from None now xs keeps s sound h = subst (λ o. IfSome o (λ m. All (P from m) xs)) (sym (s.untold refl)) tt
notes_now P from (Some m) now xs keeps s sound h =
    let later = s.told m refl in
    subst (λ o. IfSome o (λ m. All (P from m) xs)) (sym later.is) (λ k d lt. keeps from m later.m' (get_or xs k d) (later.same (get_or xs k d).route.path (sound k d lt).path) (h k d lt))

-- and of some of the files
pub notes_part : (P : Contents → PlannedFile → Type 0) (f : Option Contents) (xs : List PlannedFile) (a b : ℕ) → IfSome f (λ m. All (P m) xs) → IfSome f (λ m. All (P m) (slice_range xs a b))
notes_part P None xs a b h = tt
notes_part P (Some m) xs a b h = All-take (P m) (b - a) (drop a xs) (All-drop (P m) a xs h)

pub sound_part : (xs : List PlannedFile) (a b : ℕ) → All IsSound xs → All IsSound (slice_range xs a b)
sound_part xs a b h = All-take IsSound (b - a) (drop a xs) (All-drop IsSound a xs h)

-- a front and the batch behind it
pub front_and_batch : {X Y : Type 0} (f : X → Y) (xs : List X) (a b : ℕ) → a ≤ b → map f (take b xs) ≡ map f (take a xs) ++ map f (slice_range xs a b)
front_and_batch f xs a b le =
    let e : a + (b - a) ≡ b = omega arith in
    ap (λ n. map f (take n xs)) (sym e) ∙ ap (map f) (take-add a (b - a) xs) ∙ map-append f (take a xs) (slice_range xs a b)

-- one batch more is done
pub batch_files : (to : List ℕ) (first more : List Work) (f now new : Option Contents) → now ≡ option_map (files_after to first) f → new ≡ option_map (files_after to more) now → new ≡ option_map (files_after to (first ++ more)) f
batch_files to first more f now new e h = h ∙ ap (option_map (files_after to more)) e ∙ joined f where
  joined : (f : Option Contents) → option_map (files_after to more) (option_map (files_after to first) f) ≡ option_map (files_after to (first ++ more)) f
  joined None = refl
  joined (Some m) = ap Some (sym (files_after-join to first more m))

pub batch_rows : (first more : List Work) (k now new : Option Ledger) → now ≡ option_map (ledger_after first) k → new ≡ option_map (ledger_after more) now → new ≡ option_map (ledger_after (first ++ more)) k
batch_rows first more k now new e h = h ∙ ap (option_map (ledger_after more)) e ∙ joined k where
  joined : (k : Option Ledger) → option_map (ledger_after more) (option_map (ledger_after first) k) ≡ option_map (ledger_after (first ++ more)) k
  joined None = refl
  joined (Some l) = ap Some (sym (ledger_after-join first more l))

-- a stop in a batch is a stop in all
pub stopped_later : (to : List ℕ) (works first more last : List Work) (done : ℕ) (f now new : Option Contents) (k know knew : Option Ledger) → works ≡ first ++ (more ++ last) → now ≡ option_map (files_after to first) f
    → know ≡ option_map (ledger_after first) k → StoppedAt to more done now new know knew → StoppedAt to works (length first + done) f new k knew
stopped_later to works first more last done f now new k know knew e d h s = record {
  before = first ++ s.before;
  work = s.work;
  rest = s.rest ++ last;
  split = e ∙ ap (λ ys. first ++ (ys ++ last)) s.split ∙ ap (λ ys. first ++ ys) (append_assoc s.before (s.work ∷ s.rest) last) ∙ sym (append_assoc first s.before (s.work ∷ (s.rest ++ last)));
  count = length-append first s.before ∙ ap (λ n. length first + n) s.count;
  broken = subst (λ x. Broken to s.work x new (option_map (ledger_after (first ++ s.before)) k) knew) (batch_files to first s.before f now _ d refl)
      (subst (λ x. Broken to s.work (option_map (files_after to s.before) now) new x knew) (batch_rows first s.before k know _ h refl) s.broken);
}

-- a stop before the first of some files
pub stopped_first : (to : List ℕ) (image : Text → Text → Result Image Reason) (from : List ℕ) (m : Contents) (xs : List PlannedFile) (f f' : Option Contents) (k k' : Option Ledger) → 0 < length xs → f' ≡ f → k' ≡ k
    → StoppedAt to (works_in image from m xs) 0 f f' k k'
stopped_first to image from m [] f f' k k' lt e h = absurd (omega arith)
stopped_first to image from m (x ∷ xs) f f' k k' lt e h = record {
  before = [];
  work = work_in image from m x;
  rest = works_in image from m xs;
  split = refl;
  count = refl;
  broken = inl (record { folders = e ∙ no_file to f; ledger = h ∙ no_row k });
}

-- a part of a list, with the item behind it
pub range_more : {X : Type 0} (xs : List X) (a b : ℕ) (x : X) → a ≤ b → b < length xs → x ≡ get_or xs b x → slice_range xs a (b + 1) ≡ slice_range xs a b ++ x ∷ []
range_more xs a b x le lt is =
    let e : b + 1 - a ≡ b - a + 1 = omega arith in
    let l : a + (b - a) ≡ b = omega arith in
    ap (λ n. take n (drop a xs)) e ∙ take_more (drop a xs) (b - a) x (behind xs a b le lt)
    ∙ ap (λ y. slice_range xs a b ++ y ∷ []) (get_or-drop a xs (b - a) x ∙ ap (λ n. get_or xs n x) l ∙ sym is) where
      behind : {X : Type 0} (xs : List X) (a b : ℕ) → a ≤ b → b < length xs → b - a < length (drop a xs)
      behind xs a b le lt = grind (arith, common_steps)

pub weighs_more : (xs : List PlannedFile) (a b sum weight : ℕ) (x : PlannedFile) → a ≤ b → b < length xs → x ≡ get_or xs b x → sum ≡ sum_by weight_of (slice_range xs a b) → weight ≡ weight_of x
    → sum + weight ≡ sum_by weight_of (slice_range xs a (b + 1))
weighs_more xs a b sum weight x le lt is e w =
    ap (λ n. n + weight) e ∙ ap (λ n. sum_by weight_of (slice_range xs a b) + n) w ∙ sym (sum_by_push weight_of (slice_range xs a b) x) ∙ ap (sum_by weight_of) (sym (range_more xs a b x le lt is))

pub weighs_none : (xs : List PlannedFile) (a : ℕ) → 0 ≡ sum_by weight_of (slice_range xs a a)
weighs_none xs a = let e : a - a ≡ 0 = omega arith in ap (λ n. sum_by weight_of (take n (drop a xs))) (sym e)

-- the whole is a front, a batch behind it, and the rest
pub front_batch_rest : {X Y : Type 0} (f : X → Y) (xs : List X) (a b : ℕ) → a ≤ b → map f xs ≡ map f (take a xs) ++ (map f (slice_range xs a b) ++ map f (drop b xs))
front_batch_rest f xs a b le =
    ap (map f) (sym (take-append-drop b xs)) ∙ map-append f (take b xs) (drop b xs) ∙ ap (λ ys. ys ++ map f (drop b xs)) (front_and_batch f xs a b le)
    ∙ append_assoc (map f (take a xs)) (map f (slice_range xs a b)) (map f (drop b xs))

pub length_front : {X Y : Type 0} (f : X → Y) (xs : List X) (a : ℕ) → a ≤ length xs → length (map f (take a xs)) ≡ a
length_front f xs a le = length-map (take a xs) f ∙ taken xs a le where
  taken : {X : Type 0} (xs : List X) (a : ℕ) → a ≤ length xs → length (take a xs) ≡ a
  taken xs a le = grind (arith, common_steps)

pub some_left : (n : ℕ) → n ≢ 0 → 0 < n
some_left n h = grind arith

-- what is left of a batch's room, with one file more
pub room_more : (xs : List PlannedFile) (all a b room weight new : ℕ) (x : PlannedFile) → a ≤ b → b < length xs → x ≡ get_or xs b x → room + sum_by weight_of (slice_range xs a b) ≡ all → weight ≡ weight_of x
    → weight ≤ room → new ≡ room - weight → new + sum_by weight_of (slice_range xs a (b + 1)) ≡ all
room_more xs all a b room weight new x le lt is e w fits n =
    let more = weighs_more xs a b (sum_by weight_of (slice_range xs a b)) weight x le lt is refl w in
    omega (arith, more, e, fits, n)

pub room_first : (xs : List PlannedFile) (a all : ℕ) → all + sum_by weight_of (slice_range xs a a) ≡ all
room_first xs a all = let none = weighs_none xs a in omega (arith, none)

fitting_on : (room : ℕ) (x : PlannedFile) (xs : List PlannedFile) → weight_of x ≤ room → fitting room (x ∷ xs) ≡ fitting (room - weight_of x) xs + 1
fitting_on room x xs fits = ap (λ b. cond b (fitting (room - weight_of x) xs + 1) 0) (le-leb (weight_of x) room fits)

dropped_at : (xs : List PlannedFile) (i : ℕ) (x : PlannedFile) → i < length xs → x ≡ get_or xs i x → drop i xs ≡ x ∷ drop (i + 1) xs
dropped_at xs i x lt is = drop_more xs i x lt ∙ ap (λ y. y ∷ drop (i + 1) xs) (sym is)

-- one file more fits
pub fits_more : (xs : List PlannedFile) (i room weight new : ℕ) (x : PlannedFile) (all : ℕ) → i < length xs → x ≡ get_or xs i x → weight ≡ weight_of x → weight ≤ room → new ≡ room - weight
    → i + fitting room (drop i xs) ≡ all → (i + 1) + fitting new (drop (i + 1) xs) ≡ all
fits_more xs i room weight new x all lt is w fits n e =
    let here = ap (fitting room) (dropped_at xs i x lt is) ∙ fitting_on room x (drop (i + 1) xs) (omega (arith, w, fits)) in
    let same : fitting (room - weight_of x) (drop (i + 1) xs) ≡ fitting new (drop (i + 1) xs) = ap (λ k. fitting k (drop (i + 1) xs)) (omega (arith, n, w)) in
    omega (arith, here, same, e)

keep_file : (to : List ℕ) (image : Text → Text → Result Image Reason) (from : List ℕ) (m n : Contents) (x : PlannedFile) → x.action ≡ Keep → wrote to (work_in image from m x) n ≡ n
keep_file to image from m n x e = ap (λ w. wrote_plan (full to x.route.target) (plan_by w (bytes_of from m x) (image_here image from m x)) n) e

keep_row : (image : Text → Text → Result Image Reason) (from : List ℕ) (m : Contents) (l : Ledger) (x : PlannedFile) → x.action ≡ Keep → logged (work_in image from m x) l ≡ l
keep_row image from m l x e = ap (λ w. logged_plan x.route.target x.route.path x.digest (plan_by w (bytes_of from m x) (image_here image from m x)) l) e

pass_files : (to : List ℕ) (image : Text → Text → Result Image Reason) (from : List ℕ) (m : Contents) (x : PlannedFile) (before : List Work) (f : Option Contents) → x.action ≡ Keep
    → option_map (files_after to before) f ≡ option_map (files_after to (work_in image from m x ∷ before)) f
pass_files to image from m x before None e = refl
pass_files to image from m x before (Some n) e = ap (λ o. Some (files_after to before o)) (sym (keep_file to image from m n x e))

pass_rows : (image : Text → Text → Result Image Reason) (from : List ℕ) (m : Contents) (x : PlannedFile) (before : List Work) (k : Option Ledger) → x.action ≡ Keep
    → option_map (ledger_after before) k ≡ option_map (ledger_after (work_in image from m x ∷ before)) k
pass_rows image from m x before None e = refl
pass_rows image from m x before (Some l) e = ap (λ o. Some (ledger_after before o)) (sym (keep_row image from m l x e))

-- a stop behind files that are kept
pub stopped_kept : (to : List ℕ) (image : Text → Text → Result Image Reason) (from : List ℕ) (m : Contents) (xs : List PlannedFile) (i : ℕ) (f f' : Option Contents) (k k' : Option Ledger) → i < length xs
    → All (λ (x : PlannedFile). x.action ≡ Keep) (take i xs) → f' ≡ f → k' ≡ k → StoppedAt to (works_in image from m xs) i f f' k k'
stopped_kept to image from m [] i f f' k k' lt kept e h = absurd (omega arith)
stopped_kept to image from m (x ∷ xs) zero f f' k k' lt kept e h = stopped_first to image from m (x ∷ xs) f f' k k' (omega arith) e h
stopped_kept to image from m (x ∷ xs) (suc i) f f' k k' lt kept e h =
    let s = stopped_kept to image from m xs i f f' k k' (omega arith) (All-tail (λ (x : PlannedFile). x.action ≡ Keep) x (take i xs) kept) e h in
    let here = All-head (λ (x : PlannedFile). x.action ≡ Keep) x (take i xs) kept in
    record {
      before = work_in image from m x ∷ s.before;
      work = s.work;
      rest = s.rest;
      split = ap (λ ws. work_in image from m x ∷ ws) s.split;
      count = ap suc s.count;
      broken = subst (λ o. Broken to s.work o f' (option_map (ledger_after (work_in image from m x ∷ s.before)) k) k') (pass_files to image from m x s.before f here)
          (subst (λ o. Broken to s.work (option_map (files_after to s.before) f) f' o k') (pass_rows image from m x s.before k here) s.broken);
    }
