-- What is noted of files before any is migrated.
use Rattle.std.proofs.Common.{◌≡◌, ◌≤◌, ◌||◌, Bool, true, false, ℕ, List, [], ◌∷◌, ◌++◌, length, Option, Some, None, Result, Ok, Err, IfOk, IfSome, All, refl, sym, ap, ap₂, ◌∙◌, subst, lit≤, append-nil, map}
use Rattle.std.specs.Prelude.{IsOkAnd, is_some, is_err, nat_lt, if◌then◌else◌}
use Rattle.std.specs.BTreeMap.{insert_entry}
use Rattle.std.specs.Cmp.Lexicographic.{slice_cmp}
use Rattle.std.specs.Ordering.{nat_cmp}
use Rattle.std.proofs.lemmas.Bool.{le-ltb}
use Rattle.std.proofs.lemmas.List.Elements.{All-cons, All-head, All-nil, All-tail}
use Rattle.desk_base.specs.Limits.{file_size}
use Rattle.desk_base.specs.Names.{Text}
use Rattle.desk_base.specs.declared.faults.Malformed.{Malformed}
use Rattle.desk_format.specs.Classes.{Class, read_class}
use Rattle.desk_file.specs.Classes.{class_image}
use Rattle.desk_file.specs.ClassScans.{odd_as, odd_in, scanned_as, scanned_in, unchanged_image}
use Rattle.desk_file.specs.Images.{target}
use Rattle.desk_file.specs.Linked.{image_in}
use Rattle.desk_file.specs.Routes.{image_along}
use Rattle.desk_file.specs.Treatments.{image_as, is_class, is_selected_class}
use Rattle.desk_file.specs.declared.images.Image.{Image}
use Rattle.desk_file.specs.declared.routes.Route.{Route}
use Rattle.desk_file.specs.declared.scans.NotedClass.{NotedClass}
use Rattle.desk_file.specs.declared.treatments.Treatment.{Treatment}
use Rattle.desk_file.specs.declared.treatments.Treatment.TheVariants as treatments
use Rattle.desk_file.proofs.Noting.{linked_itself}
use Rattle.desk_file.proofs.Treating.{image_routed}
use Rattle.desk_patterns.specs.PatternTexts.{texts_for}
use Rattle.desk_readings.specs.Readings.{scanned_route}
use Rattle.desk_report.specs.declared.lines.Reason.{Reason}
use Rattle.desk_rules.specs.Rules.{Rules}
use Rattle.desk_comparison.specs.Files.{IsRouted, KeepsBytes, file_of}
use Rattle.desk_comparison.specs.Images.{is_too_large, refusal, with_image}
use Rattle.desk_comparison.specs.Makings.{MakesOne}
use Rattle.desk_comparison.specs.declared.made.Made.{Made}
use Rattle.desk_comparison.specs.declared.reading.SourceFile.{SourceFile}

-- ---- what is found of one file

pub at_most_one : (found : Option NotedClass) → length (scanned_in found) ≤ 1
at_most_one None = lit≤ tt
at_most_one (Some noted) = lit≤ tt

pub found_scanned : {E : Type 0} (route : Route) (class selected : Bool) (bytes content : Text) (result : Result (Option NotedClass) E) → class ≡ true → class ≡ is_class route.treatment → selected ≡ is_selected_class route.treatment → bytes ≡ content
    → IfOk result (λ found. scanned_in found ≡ scanned_as route.path selected (read_class bytes)) → IfOk result (λ found. scanned_in found ≡ scanned_route route content)
found_scanned route class selected bytes content (Err e) sure is how same h = tt
found_scanned route class selected bytes content (Ok found) sure is how same h =
    h ∙ ap₂ (λ (b : Bool) (t : Text). scanned_as route.path b (read_class t)) how same
    ∙ sym (ap (λ (b : Bool). if b then scanned_as route.path (is_selected_class route.treatment) (read_class content) else []) (sym is ∙ sure))

selected_class : (how : Treatment) → is_selected_class how ≡ true → how ≡ treatments.Class
selected_class treatments.Class e = refl
selected_class _ e = absurd cc

-- only of a selected class odd texts are counted
counted_selected : (rules : Rules) (selected : Bool) (read : Result Class Malformed) (odd : ℕ) → Some odd ≡ odd_as rules selected read → selected ≡ true
counted_selected rules true read odd e = refl
counted_selected rules false (Ok c) odd e = absurd cc
counted_selected rules false (Err fault) odd e = absurd cc

kept_along : (rules : Rules) (route : Route) (content : Text) (odd : ℕ) → route.treatment ≡ treatments.Class → class_image rules content ≡ Ok (unchanged_image odd content)
    → (defined : List Text) → IsOkAnd (image_along rules defined route content) (λ image. image.bytes ≡ content)
kept_along rules route content odd how h defined =
    subst (λ (made : Result Image Reason). IsOkAnd made (λ (image : Image). image.bytes ≡ content))
    (sym (ap (image_as rules defined (texts_for rules.texts route.path route.target) content) how ∙ linked_itself rules defined content odd h)) refl

kept_by : (rules : Rules) (file : SourceFile) (selected : Bool) (odd : Option ℕ) → selected ≡ is_selected_class file.route.treatment → odd ≡ odd_as rules selected (read_class file.content)
    → IfSome odd (λ odd. class_image rules file.content ≡ Ok (unchanged_image odd file.content)) → is_some odd ≡ true → KeepsBytes rules file
kept_by rules file selected None how is image e = absurd cc
kept_by rules file selected (Some odd) how is image e =
    kept_along rules file.route file.content odd (selected_class file.route.treatment (sym how ∙ counted_selected rules selected (read_class file.content) odd is)) image

-- a class in which nothing changes keeps its bytes
pub found_kept : {E : Type 0} (rules : Rules) (file : SourceFile) (selected : Bool) (bytes : Text) (result : Result (Option NotedClass) E) → selected ≡ is_selected_class file.route.treatment → bytes ≡ file.content
    → IfOk result (λ found. odd_in found ≡ odd_as rules selected (read_class bytes)) → IfOk result (λ found. IfSome (odd_in found) (λ odd. class_image rules bytes ≡ Ok (unchanged_image odd bytes)))
    → IfOk result (λ found. is_some (odd_in found) ≡ true → KeepsBytes rules file)
found_kept rules file selected bytes (Err e) how same is image = tt
found_kept rules file selected bytes (Ok found) how same is image =
    kept_by rules file selected (odd_in found) how (is ∙ ap (λ (t : Text). odd_as rules selected (read_class t)) same)
    (subst (λ (t : Text). IfSome (odd_in found) (λ odd. class_image rules t ≡ Ok (unchanged_image odd t))) same image)

-- ---- what it becomes

or_not : (b : Bool) → (b || false) ≡ b
or_not true = refl
or_not false = refl

-- a file that keeps its bytes is its own image
pub makes_kept : (rules : Rules) (defined : List Text) (file : SourceFile) (old new : Made) → IsRouted rules file → KeepsBytes rules file → length file.content ≤ file_size
    → new.images.entries ≡ insert_entry (slice_cmp nat_cmp) old.images.entries file.route.target file.content → new.lines ≡ old.lines → new.refused ≡ old.refused → MakesOne rules defined (file_of file) old new
makes_kept rules defined file old new routed keeps small images lines refused =
    by (image_in rules defined file.route.path file.content) refl
    (subst (λ (made : Result Image Reason). IsOkAnd made (λ (image : Image). image.bytes ≡ file.content)) (sym (image_routed rules defined file.route file.content routed)) (keeps defined)) where
      by : (made : Result Image Reason) → image_in rules defined file.route.path file.content ≡ made → IsOkAnd made (λ (image : Image). image.bytes ≡ file.content) → MakesOne rules defined (file_of file) old new
      by (Err reason) e h = absurd h
      by (Ok image) e h = record {
        images = images ∙ ap₂ (λ (t b : Text). insert_entry (slice_cmp nat_cmp) old.images.entries t b) (ap (λ (r : Route). r.target) routed) (sym h)
            ∙ sym (ap (λ (r : Result Image Reason). with_image (target rules file.route.path) r old.images.entries) e);
        lines = lines ∙ sym (append-nil old.lines) ∙ sym (ap (λ (r : Result Image Reason). old.lines ++ refusal file.route.path r) e);
        refused = refused ∙ sym (or_not old.refused) ∙ sym (ap (λ (r : Result Image Reason). old.refused || is_err r) e);
        fits = ap is_too_large e ∙ ap (λ (t : Text). nat_lt file_size (length t)) h ∙ le-ltb file_size (length file.content) small;
      }

-- ---- all of them

pub all_mapped : {X Y : Type 0} (P : Y → Type 0) (f : X → Y) (xs : List X) → All P (map f xs) → All (λ (x : X). P (f x)) xs
all_mapped {X = X} P f [] h = All-nil (λ (x : X). P (f x))
all_mapped {X = X} P f (x ∷ xs) h = All-cons (λ (y : X). P (f y)) x xs (All-head P (f x) (map f xs) h) (all_mapped P f xs (All-tail P (f x) (map f xs) h))
