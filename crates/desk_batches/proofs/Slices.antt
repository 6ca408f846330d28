-- The slices of a batch: what was read of one is migrated while the next is read.
use Rattle.std.proofs.Common.{◌≡◌, ℕ, ◌+◌, ◌≤◌, List, ◌++◌, Option, Some, None, refl, sym, ap, ◌∙◌, subst, take, drop, length, length-append, append_assoc, arith}
use Rattle.std.specs.Prelude.{All, IfOk, IfSome, IsOk, Result, Ok, Err, map}
use Rattle.std.specs.List.{IsSplitAt}
use Rattle.std.proofs.lemmas.List.{length-map, map-append, take-append-drop}
use Rattle.std.proofs.lemmas.List.Elements.{All-drop, All-take}
use Rattle.desk_base.specs.Names.{Text}
use Rattle.desk_file.specs.Linked.{image_in}
use Rattle.desk_file.specs.Routes.{IsRouteBy}
use Rattle.desk_file.specs.declared.images.Image.{Image}
use Rattle.desk_folders.specs.Contents.{Contents}
use Rattle.desk_report.specs.declared.lines.Reason.{Reason}
use Rattle.desk_rules.specs.Rules.{Rules}
use Rattle.desk_batches.specs.Notes.{IsNoteOf, BecomesAsNoted}
use Rattle.desk_batches.specs.Turns.{HasItsDigest, image_here, image_of_input, input_in, migrated}
use Rattle.desk_batches.specs.Inputs.{WholeFile}
use Rattle.desk_batches.specs.declared.planned.PlannedFile.{PlannedFile}
use Rattle.desk_base.proofs.Results.{at_some}
use Rattle.desk_batches.proofs.Taking.{digests_read, images_read, inputs_counted, migrated_append, migrated_short}

-- ---- a list and its two parts

pub all_front : {X : Type 0} (P : X → Type 0) (xs front back : List X) (n : ℕ) → IsSplitAt xs n front back → All P xs → All P front
all_front P xs front back n split h = subst (All P) (sym split.1) (All-take P n xs h)

pub all_back : {X : Type 0} (P : X → Type 0) (xs front back : List X) (n : ℕ) → IsSplitAt xs n front back → All P xs → All P back
all_back P xs front back n split h = subst (All P) (sym split.2) (All-drop P n xs h)

migrated_parts : (xs front back : List PlannedFile) (n : ℕ) → IsSplitAt xs n front back → migrated xs ≡ migrated front ++ migrated back
migrated_parts xs front back n split =
    ap migrated (sym (take-append-drop n xs)) ∙ migrated_append (take n xs) (drop n xs) ∙ ap (λ ys. migrated ys ++ migrated (drop n xs)) (sym split.1) ∙ ap (λ ys. migrated front ++ migrated ys) (sym split.2)

pub count_parts : (xs front back : List PlannedFile) (n : ℕ) → IsSplitAt xs n front back → length (migrated xs) ≡ length (migrated front) + length (migrated back)
count_parts xs front back n split = ap length (migrated_parts xs front back n split) ∙ length-append (migrated front) (migrated back)

-- ---- images of files from here on, of which the first slice was read

abbrev made_of : Rules → List Text → List WholeFile → List (Result Image Reason)
made_of rules defined = map (image_of_input rules defined)

abbrev here_of : Rules → List Text → Text → Contents → List PlannedFile → List (Result Image Reason)
here_of rules defined from m files = map (image_here (image_in rules defined) from m) (migrated files)

pub slice_read : (rules : Rules) (defined : List Text) (from : Text) (m : Contents) (files front back : List PlannedFile) (n : ℕ) (inputs : List WholeFile) → All (λ (x : PlannedFile). IsRouteBy rules x.route) files → All (BecomesAsNoted (image_in rules defined) from m) files
    → IsSplitAt files n front back → inputs ≡ map (input_in from m) (migrated front) → here_of rules defined from m files ≡ made_of rules defined inputs ++ here_of rules defined from m back
slice_read rules defined from m files front back n inputs routes stays split read =
    let f = image_here (image_in rules defined) from m in
    ap (map f) (migrated_parts files front back n split) ∙ map-append f (migrated front) (migrated back)
    ∙ ap (λ ys. ys ++ here_of rules defined from m back)
    (sym (images_read rules defined from m front inputs (made_of rules defined inputs) (all_front (λ (x : PlannedFile). IsRouteBy rules x.route) files front back n split routes)
    (all_front (BecomesAsNoted (image_in rules defined) from m) files front back n split stays) read refl))

-- a slice was migrated while the next was read
pub slice_more : (rules : Rules) (defined : List Text) (from : Text) (m : Contents) (batch rest next behind : List PlannedFile) (n : ℕ) (inputs ahead : List WholeFile) (images made new : List (Result Image Reason))
    → All (λ (x : PlannedFile). IsRouteBy rules x.route) rest → All (BecomesAsNoted (image_in rules defined) from m) rest → IsSplitAt rest n next behind → here_of rules defined from m batch ≡ images ++ (made_of rules defined inputs ++ here_of rules defined from m rest)
    → made ≡ made_of rules defined inputs → new ≡ images ++ made → ahead ≡ map (input_in from m) (migrated next)
    → here_of rules defined from m batch ≡ new ++ (made_of rules defined ahead ++ here_of rules defined from m behind)
slice_more rules defined from m batch rest next behind n inputs ahead images made new routes stays split all is grown read =
    let later = made_of rules defined ahead ++ here_of rules defined from m behind in
    all ∙ ap (λ ys. images ++ (ys ++ here_of rules defined from m rest)) (sym is) ∙ ap (λ ys. images ++ (made ++ ys)) (slice_read rules defined from m rest next behind n ahead routes stays split read)
    ∙ sym (append_assoc images made later) ∙ ap (λ ys. ys ++ later) (sym grown)

-- ---- how many they are

read_count : (xs : List PlannedFile) (inputs : List WholeFile) → map (λ (input : WholeFile). input.file) inputs ≡ migrated xs → length inputs ≡ length (migrated xs)
read_count xs inputs e = inputs_counted inputs (migrated xs) e

pub count_first : (files front back : List PlannedFile) (n : ℕ) (inputs : List WholeFile) → IsSplitAt files n front back → map (λ (input : WholeFile). input.file) inputs ≡ migrated front
    → length (migrated files) ≡ length inputs + length (migrated back)
count_first files front back n inputs split e = let parts = count_parts files front back n split in let read = read_count front inputs e in omega (arith, parts, read)

pub count_next : (rules : Rules) (defined : List Text) (batch rest next behind : List PlannedFile) (n : ℕ) (inputs ahead : List WholeFile) (images made new : List (Result Image Reason)) → IsSplitAt rest n next behind
    → length (migrated batch) ≡ length images + (length inputs + length (migrated rest)) → made ≡ made_of rules defined inputs → new ≡ images ++ made
    → map (λ (input : WholeFile). input.file) ahead ≡ migrated next → length (migrated batch) ≡ length new + (length ahead + length (migrated behind))
count_next rules defined batch rest next behind n inputs ahead images made new split all is grown e =
    let rests = count_first rest next behind n ahead split e in
    let two = ap length grown ∙ length-append images made in
    let one = ap length is ∙ length-map inputs (image_of_input rules defined) in
    omega (arith, all, rests, two, one)

-- a slice has no more files than its batch
pub few_inputs : (batch rest : List PlannedFile) (images inputs left : ℕ) → length (migrated batch) ≡ images + (inputs + left) → inputs ≤ length batch
few_inputs batch rest images inputs left all = let short = migrated_short batch in omega (arith, all, short)

-- ---- notes of a part

pub notes_front : (from : Text) (told : Option Contents) (xs front back : List PlannedFile) (n : ℕ) → IsSplitAt xs n front back → IfSome told (λ m. All (IsNoteOf from m) xs) → IfSome told (λ m. All (IsNoteOf from m) front)
notes_front from None xs front back n split h = tt
notes_front from (Some m) xs front back n split h = all_front (IsNoteOf from m) xs front back n split h

pub notes_later : (from : Text) (told now : Option Contents) (xs : List PlannedFile) → now ≡ told → ((m : Contents) → told ≡ Some m → All (IsNoteOf from m) xs) → IfSome now (λ m. All (IsNoteOf from m) xs)
notes_later from told None xs same h = tt
notes_later from told (Some m) xs same h = h m (sym same)

-- what two clauses say of an answer that is there
pub both_ok : {A E G : Type 0} {P Q : A → Type 0} (r : Result A E) → IsOk r → IfOk r P → IfOk r Q → ((x : A) → P x → Q x → G) → G
both_ok (Ok x) is p q k = k x p q
both_ok (Err e) is p q k = absurd cc

-- ---- why there are none

pub digests_known : (from : Text) (told : Option Contents) (m : Contents) (files : List PlannedFile) (inputs : List WholeFile) → told ≡ Some m → IfSome told (λ m. All (IsNoteOf from m) files)
    → IfSome told (λ m. inputs ≡ map (input_in from m) (migrated files)) → All HasItsDigest inputs
digests_known from told m files inputs e notes read =
    subst (All HasItsDigest) (sym (at_some (λ m. inputs ≡ map (input_in from m) (migrated files)) told m e read)) (digests_read from m files (at_some (λ m. All (IsNoteOf from m) files) told m e notes))
