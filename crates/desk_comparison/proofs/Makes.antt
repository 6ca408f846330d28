-- What files become, one after another.
use Rattle.std.proofs.Common.{All, ◌≡◌, ◌≤◌, Bool, true, false, ◌||◌, List, [], ◌∷◌, ◌++◌, length, map, Option, Some, None, Result, Ok, Err, refl, sym, ap, ◌∙◌, subst, append-nil, append_assoc}
use Rattle.std.specs.Prelude.{if◌then◌else◌}
use Rattle.std.specs.BTreeMap.{insert_entry}
use Rattle.std.specs.Map.{keys_of}
use Rattle.std.specs.Prelude.{OnErr, OnOk}
use Rattle.std.specs.Cmp.Lexicographic.{slice_cmp}
use Rattle.std.specs.Ordering.{nat_cmp}
use Rattle.std.specs.declared.cmp.Ordering.{Ordering}
use Rattle.std.specs.declared.cmp.Ordering.TheVariants.{Less, Equal, Greater}
use Rattle.std.proofs.lemmas.List.Elements.{All-cons, All-head, All-nil, All-tail}
use Rattle.desk_base.specs.Limits.{file_size}
use Rattle.desk_compare.specs.Verdicts.{IsShort, paths_of}
use Rattle.std.proofs.lemmas.List.{map-append}
use Rattle.desk_base.specs.Names.{Text}
use Rattle.desk_file.specs.Images.{target}
use Rattle.desk_file.specs.Linked.{image_in}
use Rattle.desk_file.specs.declared.routes.Route.{Route}
use Rattle.desk_folders.specs.Contents.{File}
use Rattle.desk_graph.specs.declared.scanned.Scanned.{Scanned}
use Rattle.desk_intake.proofs.Listed.{scanned_routed}
use Rattle.desk_intake.specs.declared.halts.Halt.{Halt}
use Rattle.desk_intake.specs.declared.halts.Halt.TheVariants as halt
use Rattle.desk_readings.specs.Readings.{scanned_route}
use Rattle.desk_report.specs.declared.status.LimitKind.TheVariants.{FileSize}
use Rattle.desk_report.specs.declared.status.Status.{Status}
use Rattle.desk_report.specs.declared.status.Status.TheVariants.{Limit}
use Rattle.desk_rules.specs.Rules.{Rules}
use Rattle.desk_second.specs.Applications.{classes_of, scanned_file}
use Rattle.desk_comparison.specs.Files.{IsRouted, file_of, files_of, scans_of, source_of}
use Rattle.desk_comparison.specs.Halts.{HaltsMaking}
use Rattle.desk_comparison.specs.Images.{Images, Imaging, as_file, image_answer, is_refused, is_too_large, refusal_of, refusals, some_refused, with_image, with_images}
use Rattle.desk_comparison.specs.Makings.{MadeBy, MakesOne}
use Rattle.desk_comparison.specs.declared.made.Made.{Made}
use Rattle.desk_comparison.specs.declared.noting.NotedFile.{NotedFile}
use Rattle.desk_comparison.specs.declared.reading.SourceFile.{SourceFile}

-- ---- classes

-- what is kept of the classes of files, by their paths
pub scans_same : (rules : Rules) (files : List SourceFile) → All (IsRouted rules) files → scans_of files ≡ classes_of rules (files_of files)
scans_same rules [] h = refl
scans_same rules (file ∷ files) h =
    ap (λ (ss : List Scanned). ss ++ scans_of files)
    (ap (λ (r : Route). scanned_route r file.content) (All-head (IsRouted rules) file files h) ∙ scanned_routed rules file.route.path file.content)
    ∙ ap (λ (ss : List Scanned). scanned_file rules (file_of file) ++ ss) (scans_same rules files (All-tail (IsRouted rules) file files h))

pub scans_behind : (files : List SourceFile) (file : SourceFile) → scans_of (files ++ file ∷ []) ≡ scans_of files ++ scanned_route file.route file.content
scans_behind [] file = append-nil (scanned_route file.route file.content)
scans_behind (first ∷ files) file =
    ap (λ (ss : List Scanned). scanned_route first.route first.content ++ ss) (scans_behind files file)
    ∙ sym (append_assoc (scanned_route first.route first.content) (scans_of files) (scanned_route file.route file.content))

-- ---- images

images_behind : (target : Text → Text) (image : Imaging) (files : List File) (file : File) (images : Images)
    → with_images target image (files ++ file ∷ []) images ≡ with_image (target file.path) (image file.path file.bytes) (with_images target image files images)
images_behind target image [] file images = refl
images_behind target image (first ∷ files) file images = images_behind target image files file (with_image (target first.path) (image first.path first.bytes) images)

refusals_behind : (image : Imaging) (files : List File) (file : File) → refusals image (files ++ file ∷ []) ≡ refusals image files ++ refusal_of image file
refusals_behind image [] file = append-nil (refusal_of image file)
refusals_behind image (first ∷ files) file =
    ap (λ (t : Text). refusal_of image first ++ t) (refusals_behind image files file) ∙ sym (append_assoc (refusal_of image first) (refusals image files) (refusal_of image file))

or_false : (b : Bool) → (b || false) ≡ b
or_false true = refl
or_false false = refl

or_assoc : (a b c : Bool) → (a || (b || c)) ≡ ((a || b) || c)
or_assoc true b c = refl
or_assoc false b c = refl

refused_behind : (image : Imaging) (files : List File) (file : File) → some_refused image (files ++ file ∷ []) ≡ (some_refused image files || is_refused image file)
refused_behind image [] file = or_false (is_refused image file)
refused_behind image (first ∷ files) file =
    ap (λ (b : Bool). is_refused image first || b) (refused_behind image files file) ∙ or_assoc (is_refused image first) (some_refused image files) (is_refused image file)

image_step : (large : Bool) (path : Text) (front all rest : Option Status) → (front ≡ None → all ≡ rest) → (if large then Some (Limit FileSize path) else front) ≡ None → (if large then Some (Limit FileSize path) else all) ≡ rest
image_step true path front all rest h e = absurd cc
image_step false path front all rest h e = h e

image_behind : (image : Imaging) (files more : List File) → image_answer image files ≡ None → image_answer image (files ++ more) ≡ image_answer image more
image_behind image [] more e = refl
image_behind image (first ∷ files) more e =
    image_step (is_too_large (image first.path first.bytes)) first.path (image_answer image files) (image_answer image (files ++ more)) (image_answer image more) (image_behind image files more) e

-- of no files
pub made_none : (rules : Rules) (defined : List Text) (made : Made) → made.images.entries ≡ [] → made.lines ≡ [] → made.refused ≡ false → MadeBy rules defined [] made
made_none rules defined made a b c = record { images = a; lines = b; refused = c; fit = refl }

-- one file more
pub made_more : (rules : Rules) (defined : List Text) (files : List File) (file : File) (old new : Made) → MadeBy rules defined files old → MakesOne rules defined file old new → MadeBy rules defined (files ++ file ∷ []) new
made_more rules defined files file old new h one =
    let image = image_in rules defined in
    record {
      images = one.images ∙ ap (with_image (target rules file.path) (image file.path file.bytes)) h.images ∙ sym (images_behind (target rules) image files file []);
      lines = one.lines ∙ ap (λ (t : Text). t ++ refusal_of image file) h.lines ∙ sym (refusals_behind image files file);
      refused = one.refused ∙ ap (λ (b : Bool). b || is_refused image file) h.refused ∙ sym (refused_behind image files file);
      fit = image_behind image files (file ∷ []) h.fit ∙ ap (λ (b : Bool). if b then Some (Limit FileSize file.path) else None) one.fits;
    }

-- where one image is too large, the making of all halts
pub making_later : (image : Imaging) (gone rest : List File) (file : File) (all : List File) (h : Halt) → all ≡ gone ++ file ∷ rest → image_answer image gone ≡ None → HaltsMaking (image_answer image (file ∷ [])) h → HaltsMaking (image_answer image all) h
making_later image gone rest file all halt.Memory split fit g = tt
making_later image gone rest file all halt.Folders split fit g = absurd g
making_later image gone rest file all halt.Ledger split fit g = absurd g
making_later image gone rest file all (halt.Answer status) split fit g =
    (g.0, ap (image_answer image) split ∙ image_behind image gone (file ∷ rest) fit ∙ here (is_too_large (image file.path file.bytes)) g.1) where
      here : (large : Bool) → (if large then Some (Limit FileSize file.path) else None) ≡ Some status → (if large then Some (Limit FileSize file.path) else image_answer image rest) ≡ Some status
      here true e = e
      here false e = absurd cc

pub files_split : (all gone rest : List NotedFile) (file : NotedFile) → all ≡ gone ++ file ∷ rest → files_of (map source_of all) ≡ files_of (map source_of gone) ++ file_of file.file ∷ files_of (map source_of rest)
files_split all gone rest file e = ap (λ (fs : List NotedFile). files_of (map source_of fs)) e ∙ ap files_of (map-append source_of gone (file ∷ rest)) ∙ map-append file_of (map source_of gone) (file.file ∷ map source_of rest)

pub files_more : (files : List NotedFile) (file : NotedFile) → files_of (map source_of (files ++ file ∷ [])) ≡ files_of (map source_of files) ++ file_of file.file ∷ []
files_more files file = ap files_of (map-append source_of files (file ∷ [])) ∙ map-append file_of (map source_of files) (file.file ∷ [])

-- ---- images in order

abbrev IsWithin : Text × Text → Type 0
IsWithin image = length image.1 ≤ file_size

pub inserted : (cmp : Text → Text → Ordering) (images : Images) (place bytes : Text) → All IsWithin images → length bytes ≤ file_size → All IsWithin (insert_entry cmp images place bytes)
inserted cmp [] place bytes h fits = All-cons IsWithin (place, bytes) [] fits h
inserted cmp (image ∷ images) place bytes h fits = by (All-tail IsWithin image images h) (inserted cmp images place bytes (All-tail IsWithin image images h) fits) (cmp place image.0) refl where
  by : All IsWithin images → All IsWithin (insert_entry cmp images place bytes) → (o : Ordering) → cmp place image.0 ≡ o → All IsWithin (insert_entry cmp (image ∷ images) place bytes)
  by tail rest Less e = rw e (All-cons IsWithin (place, bytes) (image ∷ images) fits h)
  by tail rest Equal e = rw e (All-cons IsWithin (image.0, bytes) images fits tail)
  by tail rest Greater e = rw e (All-cons IsWithin image (insert_entry cmp images place bytes) (All-head IsWithin image images h) rest)

-- one image more, or none where memory lacks
pub within_more : {T E : Type 0} (result : Result T E) (old new : Images) (place bytes : Text) → All IsWithin old → length bytes ≤ file_size → OnOk result (new ≡ insert_entry (slice_cmp nat_cmp) old place bytes) → OnErr result (new ≡ old) → All IsWithin new
within_more (Ok x) old new place bytes h fits ok err = subst (All IsWithin) (sym ok) (inserted (slice_cmp nat_cmp) old place bytes h fits)
within_more (Err x) old new place bytes h fits ok err = subst (All IsWithin) (sym err) h

pub paths_listed : (images : Images) → paths_of (map as_file images) ≡ keys_of images
paths_listed [] = refl
paths_listed (image ∷ images) = ap (λ (ps : List Text). image.0 ∷ ps) (paths_listed images)

pub short_listed : (images : Images) → All IsWithin images → All IsShort (map as_file images)
short_listed [] h = All-nil IsShort
short_listed (image ∷ images) h = All-cons IsShort (as_file image) (map as_file images) (All-head IsWithin image images h) (short_listed images (All-tail IsWithin image images h))
