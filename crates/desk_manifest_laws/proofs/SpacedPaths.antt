-- A blank before a path that begins with no character stays before its image.
use Rattle.std.proofs.Common.{inl, inr, ◌≡◌, ◌-◌, ℕ, zero, suc, Bool, true, false, cond, not, ◌&&◌, ◌||◌, ◌==◌, List, [], ◌∷◌, ◌++◌, take, drop, length, codes, Option, Some, None, refl, ap, ap₂, sym, ◌∙◌, take-append-drop}
use Rattle.std.specs.List.{list_all, slice_split, onto_first, ends_with}
use Rattle.std.specs.Str.{bytes_eq}
use Rattle.std.proofs.lemmas.Bool.{cases_Bool, and_parts, and_from, and_right, or_from, both_ways, false_from_ne_true, not-true, not-false}
use Rattle.std.proofs.lemmas.List.Folds.{list_all-append}
use Rattle.std.proofs.lemmas.List.Splits.{join_with_byte-slice_split}
use Rattle.std.proofs.lemmas.Slice.Eq.{bytes_eq-Decides, ends_is}
use Rattle.std.proofs.lemmas.Bool.Decides.{Decides-eqb}
use Rattle.desk_base.specs.Names.{Text, Package, written, slash, front, simple, is_empty, is_identifier, is_identifier_byte, is_dotted}
use Rattle.desk_base.proofs.Lists.{all_weaker}
use Rattle.desk_base.proofs.Separated.{split_filled}
use Rattle.desk_base.proofs.Bools.{same_answer}
use Rattle.desk_lines.specs.Lines.{rest, is_one_line}
use Rattle.desk_sections.specs.Folding.{is_inner, begins_character}
use Rattle.desk_packages.specs.Renames.{Renaming, pkg, pick, renamed_by, in_scope, is_rename}
use Rattle.desk_packages.proofs.Same.{covers_is}
use Rattle.desk_packages.proofs.Picks.{Found, pick_Some, all_In}
use Rattle.desk_packages.proofs.Cuts.{front_simple}
use Rattle.desk_rules.specs.Rules.{Rules}
use Rattle.desk_rules.specs.RuleSets.{IsRuleSet}
use Rattle.desk_rules.specs.Images.{dotted}
use Rattle.desk_rules.proofs.Laws.{packages_stay, dotted_stay, dotted_keep_form}
use Rattle.desk_rules.proofs.Forms.{pkg_all, front_all}
use Rattle.desk_paths.specs.Paths.{parts, folders, is_archive, has_classes, is_number, ends_root, root_count, root_length, Cut, cut, path_of, is_service, moved, renamed_path}
use Rattle.desk_paths.proofs.Stays.{renamed_stays}
use Rattle.desk_manifest_laws.proofs.Plain.{is_plain, no_byte, identifier_plain}
use Rattle.desk_manifest_laws.proofs.PathImages.{dotted_plain}
use Rattle.desk_manifest_laws.proofs.Flat.{is_flat, flat_both, plain_flat}

-- the image of a path is its own image
pub path_again : (rules : Rules) → IsRuleSet rules → (path : Text) → renamed_path rules.renames (renamed_path rules.renames path) ≡ renamed_path rules.renames path
path_again rules is path = (renamed_stays rules.renames (record { formed = is.formed; packages = packages_stay rules is; dotted = dotted_stay rules is; form = dotted_keep_form rules is }) path).again

-- ---- line ends

onto_flat : (b : ℕ) (ps : List Text) → is_flat b ≡ true → list_all is_one_line ps ≡ true → list_all is_one_line (onto_first b ps) ≡ true
onto_flat b [] h g = and_from _ _ (and_from _ _ h refl) refl
onto_flat b (p ∷ ps) h g = and_from _ _ (and_from _ _ h (and_parts _ _ g).0) (and_parts _ _ g).1

split_flat : (t : Text) → is_one_line t ≡ true → list_all is_one_line (slice_split (λ b. b == 47) t) ≡ true
split_flat [] h = refl
split_flat (b ∷ t) h = elim (b == 47) as (λ (c : Bool). list_all is_one_line (cond c ([] ∷ slice_split (λ b. b == 47) t) (onto_first b (slice_split (λ b. b == 47) t))) ≡ true) [
  | true ↦ split_flat t (and_parts _ _ h).1
  | false ↦ onto_flat b (slice_split (λ b. b == 47) t) (and_parts _ _ h).0 (split_flat t (and_parts _ _ h).1)
]

written_flat : (ps : List Text) → list_all is_one_line ps ≡ true → is_one_line (written slash ps) ≡ true
written_flat [] h = refl
written_flat (p ∷ []) h = (and_parts _ _ h).0
written_flat (p ∷ q ∷ ps) h = flat_both p (slash ∷ written slash (q ∷ ps)) (and_parts _ _ h).0 (written_flat (q ∷ ps) (and_parts _ _ h).1)

all_both : (xs ys : List Text) → list_all is_one_line xs ≡ true → list_all is_one_line ys ≡ true → list_all is_one_line (xs ++ ys) ≡ true
all_both xs ys h g = list_all-append is_one_line xs ys ∙ and_from _ _ h g

all_parts : (n : ℕ) (xs : List Text) → list_all is_one_line xs ≡ true → (list_all is_one_line (take n xs) ≡ true) × (list_all is_one_line (drop n xs) ≡ true)
all_parts n xs h = and_parts _ _ (sym (list_all-append is_one_line (take n xs) (drop n xs)) ∙ ap (list_all is_one_line) (take-append-drop n xs) ∙ h)

identifier_flat : (t : Text) → is_identifier t ≡ true → is_one_line t ≡ true
identifier_flat [] h = refl
identifier_flat (b ∷ t) h = plain_flat (b ∷ t) (all_weaker is_identifier_byte is_plain identifier_plain (b ∷ t) (and_parts _ _ h).1)

pub dotted_flat : (rules : Rules) → IsRuleSet rules → (t : Text) → is_one_line t ≡ true → is_one_line (dotted rules.renames t) ≡ true
dotted_flat rules is t h = elim (cases_Bool (is_dotted t)) [
  | inl named ↦ plain_flat (dotted rules.renames t) (dotted_plain (dotted rules.renames t) (dotted_keep_form rules is t named).named)
  | inr other ↦ rw other h
]

moved_flat : (rules : Rules) → IsRuleSet rules → (c : Cut) → list_all is_one_line c.root ≡ true → list_all is_one_line c.rest ≡ true → is_one_line c.file ≡ true → is_one_line (path_of (moved rules.renames c)) ≡ true
moved_flat rules is c root more file = elim (is_service c) as (λ (b : Bool). is_one_line (path_of (cond b (record { root = c.root; rest = c.rest; file = dotted rules.renames c.file }) (record { root = c.root; rest = pkg rules.renames c.rest; file = c.file }))) ≡ true) [
  | true ↦ written_flat (c.root ++ (c.rest ++ dotted rules.renames c.file ∷ [])) (all_both c.root (c.rest ++ dotted rules.renames c.file ∷ []) root (all_both c.rest (dotted rules.renames c.file ∷ []) more (and_from _ _ (dotted_flat rules is c.file file) refl)))
  | false ↦ written_flat (c.root ++ (pkg rules.renames c.rest ++ c.file ∷ [])) (all_both c.root (pkg rules.renames c.rest ++ c.file ∷ []) root
      (all_both (pkg rules.renames c.rest) (c.file ∷ []) (pkg_all is_one_line identifier_flat rules.renames is.formed c.rest more) (and_from _ _ file refl)))
]

-- the image of a path in one line is in one line
pub path_flat : (rules : Rules) → IsRuleSet rules → (path : Text) → is_one_line path ≡ true → is_one_line (renamed_path rules.renames path) ≡ true
unfolding renamed_path cut
path_flat rules is path h =
    let cuts = front_all is_one_line (parts path) (split_filled 47 path) (split_flat path h) in
    let two = all_parts (root_length (folders path)) (folders path) cuts.0 in
    moved_flat rules is (cut path) two.0 two.1 cuts.1

-- ---- a blank

other_head : (p : ℕ → Bool) (b : ℕ) (x : Text) (c : ℕ) (cs : Text) → p b ≡ true → p c ≡ false → bytes_eq (b ∷ x) (c ∷ cs) ≡ false
other_head p b x c cs h g = false_from_ne_true (bytes_eq (b ∷ x) (c ∷ cs)) (λ (e : bytes_eq (b ∷ x) (c ∷ cs) ≡ true).
    let same_text : b ∷ x ≡ c ∷ cs = (bytes_eq-Decides (b ∷ x) (c ∷ cs)).0 e in
    let first : b ≡ c = cc in
    both_ways (p c) g (ap p (sym first) ∙ h))

-- a folder that has no part in a class root but as its end
record Quiet (folder : Text) : Type 0 where
  classes : has_classes folder ≡ false
  versions : bytes_eq folder (codes "versions") ≡ false
  meta : bytes_eq folder (codes "META-INF") ≡ false

quiet_by : (p : ℕ → Bool) (b : ℕ) (x : Text) → p b ≡ true → p 87 ≡ false → p 66 ≡ false → p 65 ≡ false → p 118 ≡ false → p 77 ≡ false → Quiet (b ∷ x)
quiet_by p b x h w bo a v m = record {
  classes = or_from (bytes_eq (b ∷ x) (codes "WEB-INF") || bytes_eq (b ∷ x) (codes "BOOT-INF")) (bytes_eq (b ∷ x) (codes "APP-INF"))
      (or_from (bytes_eq (b ∷ x) (codes "WEB-INF")) (bytes_eq (b ∷ x) (codes "BOOT-INF")) (other_head p b x 87 (codes "EB-INF") h w) (other_head p b x 66 (codes "OOT-INF") h bo))
      (other_head p b x 65 (codes "PP-INF") h a);
  versions = other_head p b x 118 (codes "ersions") h v;
  meta = other_head p b x 77 (codes "ETA-INF") h m;
}

abbrev is_space : ℕ → Bool
is_space b = b == 32

space_quiet : (x : Text) → Quiet (32 ∷ x)
space_quiet x = quiet_by is_space 32 x refl refl refl refl refl refl

inner_quiet : (b : ℕ) (x : Text) → is_inner b ≡ true → Quiet (b ∷ x)
inner_quiet b x h = quiet_by is_inner b x h refl refl refl refl refl

abbrev count_by : ℕ → Bool → ℕ
count_by n t = elim n as (λ (k : ℕ). ℕ) [ zero ↦ cond t 1 0 | suc m ↦ suc (suc m) ]

-- such folders can take each other's place
later_same : (b d f : Text) (gs : List Text) → Quiet b → Quiet d → root_count b f gs ≡ root_count d f gs
later_same b d f [] q r = refl
later_same b d f (g ∷ gs) q r =
    ap (λ (m : Bool). count_by (root_count f g gs) (is_archive g || (bytes_eq g (codes "classes") && has_classes f) || (is_number g && bytes_eq f (codes "versions") && m))) (q.meta ∙ sym r.meta)

count_same : (b d : Text) (fs : List Text) → Quiet b → Quiet d → root_count [] b fs ≡ root_count [] d fs
count_same b d [] q r = refl
count_same b d (f ∷ fs) q r =
    ap₂ count_by (later_same b d f fs q r)
    (ap₂ (λ (m n : Bool). is_archive f || (bytes_eq f (codes "classes") && m) || (is_number f && n && bytes_eq [] (codes "META-INF"))) (q.classes ∙ sym r.classes) (q.versions ∙ sym r.versions))

spaced_end : (x : Text) (c : ℕ) (s : Text) → (c == 32) ≡ false → ends_with ◌==◌ (32 ∷ x) (c ∷ s) ≡ ends_with ◌==◌ x (c ∷ s)
spaced_end x c s odd = same_answer (ends_with ◌==◌ (32 ∷ x) (c ∷ s)) (ends_with ◌==◌ x (c ∷ s)) there back
  where
    shorter : (front : Text) → 32 ∷ x ≡ front ++ c ∷ s → ends_with ◌==◌ x (c ∷ s) ≡ true
    shorter [] e = let first : 32 ≡ c = cc in absurd (both_ways (c == 32) odd (ap (λ (k : ℕ). k == 32) (sym first)))
    shorter (b ∷ front) e = (ends_is Decides-eqb x (c ∷ s) (ends_with ◌==◌ x (c ∷ s)) refl).1 front (ap rest e)

    there : ends_with ◌==◌ (32 ∷ x) (c ∷ s) ≡ true → ends_with ◌==◌ x (c ∷ s) ≡ true
    there h = shorter (take (length (32 ∷ x) - length (c ∷ s)) (32 ∷ x)) ((ends_is Decides-eqb (32 ∷ x) (c ∷ s) (ends_with ◌==◌ (32 ∷ x) (c ∷ s)) refl).0 h)

    back : ends_with ◌==◌ x (c ∷ s) ≡ true → ends_with ◌==◌ (32 ∷ x) (c ∷ s) ≡ true
    back h = (ends_is Decides-eqb (32 ∷ x) (c ∷ s) (ends_with ◌==◌ (32 ∷ x) (c ∷ s)) refl).1 (32 ∷ take (length x - length (c ∷ s)) x) (ap (λ (t : Text). 32 ∷ t) ((ends_is Decides-eqb x (c ∷ s) (ends_with ◌==◌ x (c ∷ s)) refl).0 h))

archive_spaced : (x : Text) → is_archive (32 ∷ x) ≡ is_archive x
archive_spaced x =
    ap₂ (λ (u v : Bool). u || v)
    (ap₂ (λ (u v : Bool). u || v) (ap₂ (λ (u v : Bool). u || v) (spaced_end x 46 (codes "jar") refl) (spaced_end x 46 (codes "war") refl)) (spaced_end x 46 (codes "ear") refl))
    (spaced_end x 46 (codes "rar") refl)

-- the first folder ends a class root where it is an archive
first_end : (x : Text) → ends_root [] [] x ≡ is_archive x
first_end x =
    ap₂ (λ (u v : Bool). (is_archive x || u) || v) (and_right (bytes_eq x (codes "classes")) false refl) (and_right (is_number x && false) false refl)
    ∙ or_two (is_archive x)
  where
    or_two : (u : Bool) → ((u || false) || false) ≡ u
    or_two true = refl
    or_two false = refl

root_spaced : (b : ℕ) (x : Text) (fs : List Text) → is_inner b ≡ true → root_length ((32 ∷ b ∷ x) ∷ fs) ≡ root_length ((b ∷ x) ∷ fs)
root_spaced b x fs h =
    ap₂ count_by (count_same (32 ∷ b ∷ x) (b ∷ x) fs (space_quiet (b ∷ x)) (inner_quiet b x h))
    (first_end (32 ∷ b ∷ x) ∙ archive_spaced (b ∷ x) ∙ sym (first_end (b ∷ x)))

-- no rename fits a package whose first segment is no identifier, or that has none
abbrev is_odd : Package → Bool
is_odd [] = true
is_odd (x ∷ xs) = not (is_identifier x)

no_start : (start tail p : Package) → not (is_empty start) ≡ true → list_all is_identifier start ≡ true → start ++ tail ≡ p → is_odd p ≡ true → ⊥
no_start [] tail p filled all e odd = absurd cc
no_start (s ∷ start) tail [] filled all e odd = absurd cc
no_start (s ∷ start) tail (x ∷ xs) filled all e odd =
    let first : s ≡ x = cc in
    both_ways (is_identifier x) (not-true (is_identifier x) odd) (ap is_identifier (sym first) ∙ (and_parts _ _ all).0)

pkg_odd : (rs : List Renaming) → list_all is_rename rs ≡ true → (p : Package) → is_odd p ≡ true → pkg rs p ≡ p
pkg_odd rs formed p odd = elim (pick rs p) as (λ (o : Option Renaming). pick rs p ≡ o → renamed_by o p ≡ p) [
  | None ↦ λ q. refl
  | Some r ↦ λ q.
      let f : Found (λ (r : Renaming). in_scope r p) rs r = pick_Some rs p r q in
      let fine = and_parts _ _ (and_parts _ _ (all_In is_rename rs r formed f.there)).0 in
      absurd (no_start r.source (drop (length r.source) p) p fine.0 fine.1 (sym (covers_is r.below r.source p f.passes)) odd)
] refl

odd_moved : (rs : List Renaming) → list_all is_rename rs ≡ true → (root : List Text) (p : Package) (file : Text) → is_odd p ≡ true → is_service (record { root = root; rest = p; file = file }) ≡ false → moved rs (record { root = root; rest = p; file = file }) ≡ record { root = root; rest = p; file = file }
odd_moved rs formed root p file odd other =
    ap (λ (c : Bool). cond c (record { root = root; rest = p; file = dotted rs file }) (record { root = root; rest = pkg rs p; file = file })) other
    ∙ ap (λ (q : Package). record { root = root; rest = q; file = file }) (pkg_odd rs formed p odd)

-- ---- whole paths

-- a path by its first segment, and those behind it
module _ (rs : List Renaming) (formed : list_all is_rename rs ≡ true) (b : ℕ) (x : Text) (inner : is_inner b ≡ true) where
  first_odd : (fs : List Text) → is_odd ((32 ∷ b ∷ x) ∷ fs) ≡ true
  first_odd fs = refl

  not_meta : (fs : List Text) (file : Text) (root : List Text) → is_service (record { root = root; rest = (32 ∷ b ∷ x) ∷ fs; file = file }) ≡ false
  not_meta fs file root = refl

  -- one folder or more stand before the file name
  abbrev cut_by : ℕ → Text → List Text → Text → Cut
  cut_by n first fs file = record { root = take n (first ∷ fs); rest = drop n (first ∷ fs); file = file }

  written_onto : (qs : List Text) → written slash ((32 ∷ b ∷ x) ∷ qs) ≡ 32 ∷ written slash ((b ∷ x) ∷ qs)
  written_onto [] = refl
  written_onto (q ∷ qs) = refl

  abbrev moved_by : Bool → ℕ → List Text → Text → Text → Cut
  moved_by c n fs file first = cond c (record { root = take (suc n) (first ∷ fs); rest = drop n fs; file = dotted rs file }) (record { root = take (suc n) (first ∷ fs); rest = pkg rs (drop n fs); file = file })

  behind : (c : Bool) (n : ℕ) (fs : List Text) (file : Text) → path_of (moved_by c n fs file (32 ∷ b ∷ x)) ≡ 32 ∷ path_of (moved_by c n fs file (b ∷ x))
  behind true n fs file = written_onto (take n fs ++ (drop n fs ++ dotted rs file ∷ []))
  behind false n fs file = written_onto (take n fs ++ (pkg rs (drop n fs) ++ file ∷ []))

  pub spaced_cut : (n : ℕ) (fs : List Text) (file : Text) → path_of (moved rs (cut_by n (b ∷ x) fs file)) ≡ written slash ((b ∷ x) ∷ (fs ++ file ∷ [])) → path_of (moved rs (cut_by n (32 ∷ b ∷ x) fs file)) ≡ 32 ∷ written slash ((b ∷ x) ∷ (fs ++ file ∷ []))
  spaced_cut zero fs file h = ap path_of (odd_moved rs formed [] ((32 ∷ b ∷ x) ∷ fs) file (first_odd fs) (not_meta fs file [])) ∙ written_onto (fs ++ file ∷ [])
  spaced_cut (suc n) fs file h = behind (is_service (cut_by (suc n) (b ∷ x) fs file)) n fs file ∙ ap (λ (t : Text). 32 ∷ t) h

-- the parts of a path behind a blank
abbrev onto_parts : List Text → List Text
onto_parts = onto_first 32

path_parts : (path : Text) → written slash (parts path) ≡ path
path_parts path = join_with_byte-slice_split 47 path

first_byte : (b : ℕ) (t : Text) → is_inner b ≡ true → (x : Text) × (xs : List Text) × (parts (b ∷ t) ≡ (b ∷ x) ∷ xs)
first_byte b t h =
    let other : (b == 47) ≡ false = not-true (b == 47) (no_byte is_inner 47 refl b h) in
    let more = split_first t in
    (more.0, more.1, ap (λ (c : Bool). cond c ([] ∷ slice_split (λ b. b == 47) t) (onto_first b (slice_split (λ b. b == 47) t))) other ∙ ap (onto_first b) more.2)
  where
    split_first : (t : Text) → (x : Text) × (xs : List Text) × (slice_split (λ b. b == 47) t ≡ x ∷ xs)
    split_first t = filled (slice_split (λ b. b == 47) t) (split_filled 47 t)
      where
        filled : (ps : List Text) → not (is_empty ps) ≡ true → (x : Text) × (xs : List Text) × (ps ≡ x ∷ xs)
        filled [] k = absurd cc
        filled (x ∷ xs) k = (x, xs, refl)

-- the image of a path by its parts
abbrev image_by : List Renaming → List Text → Text
image_by rs ps = path_of (moved rs (record { root = take (root_length (front ps)) (front ps); rest = drop (root_length (front ps)) (front ps); file = simple ps }))

by_parts : (rs : List Renaming) (path : Text) → renamed_path rs path ≡ image_by rs (parts path)
unfolding renamed_path cut
by_parts rs path = refl

module _ (rs : List Renaming) (formed : list_all is_rename rs ≡ true) where
  spaced_parts : (b : ℕ) (x : Text) (xs : List Text) → is_inner b ≡ true → image_by rs ((b ∷ x) ∷ xs) ≡ written slash ((b ∷ x) ∷ xs) → image_by rs ((32 ∷ b ∷ x) ∷ xs) ≡ 32 ∷ written slash ((b ∷ x) ∷ xs)
  spaced_parts b x [] h e = ap path_of (odd_moved rs formed [] [] (32 ∷ b ∷ x) refl refl)
  spaced_parts b x (y ∷ ys) h e =
      let whole : front (y ∷ ys) ++ simple (y ∷ ys) ∷ [] ≡ y ∷ ys = front_simple (y ∷ ys) refl in
      let old : image_by rs ((b ∷ x) ∷ y ∷ ys) ≡ written slash ((b ∷ x) ∷ (front (y ∷ ys) ++ simple (y ∷ ys) ∷ [])) = e ∙ ap (λ (qs : List Text). written slash ((b ∷ x) ∷ qs)) (sym whole) in
      ap (λ (n : ℕ). path_of (moved rs (record { root = take n ((32 ∷ b ∷ x) ∷ front (y ∷ ys)); rest = drop n ((32 ∷ b ∷ x) ∷ front (y ∷ ys)); file = simple (y ∷ ys) }))) (root_spaced b x (front (y ∷ ys)) h)
      ∙ spaced_cut rs formed b x h (root_length ((b ∷ x) ∷ front (y ∷ ys))) (front (y ∷ ys)) (simple (y ∷ ys)) old
      ∙ ap (λ (qs : List Text). 32 ∷ written slash ((b ∷ x) ∷ qs)) whole

  -- a path that begins with no character and is its own image, behind a blank
  pub path_spaced : (path : Text) → begins_character path ≡ false → renamed_path rs path ≡ path → renamed_path rs (32 ∷ path) ≡ 32 ∷ path
  path_spaced [] h e = by_parts rs (32 ∷ []) ∙ ap path_of (odd_moved rs formed [] [] (32 ∷ []) refl refl)
  path_spaced (b ∷ t) h e =
      let inner : is_inner b ≡ true = not-false (is_inner b) h in
      let f = first_byte b t inner in
      let own : written slash ((b ∷ f.0) ∷ f.1) ≡ b ∷ t = ap (written slash) (sym f.2) ∙ path_parts (b ∷ t) in
      by_parts rs (32 ∷ b ∷ t) ∙ ap (λ (ps : List Text). image_by rs (onto_parts ps)) f.2
      ∙ spaced_parts b f.0 f.1 inner (ap (image_by rs) (sym f.2) ∙ sym (by_parts rs (b ∷ t)) ∙ e ∙ sym own)
      ∙ ap (λ (s : Text). 32 ∷ s) own
