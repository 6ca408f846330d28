-- The file of renames is read back.
use Rattle.std.proofs.Common.{◌≡◌, ◌⊎◌, ℕ, zero, suc, ◌-◌, Bool, true, false, cond, not, ◌||◌, ◌==◌, List, [], ◌∷◌, ◌++◌, map, take, length, Result, Ok, Err, refl, sym, ap, ap₂, ◌∙◌, inl, inr, arith, length-append, get_or}
use Rattle.std.specs.List.{list_all}
use Rattle.std.specs.Cmp.Lexicographic.{slice_cmp, pointwise}
use Rattle.std.specs.Ordering.{nat_cmp}
use Rattle.std.specs.declared.cmp.Ordering.TheVariants.{Less, Equal}
use Rattle.std.specs.Str.{is_utf8}
use Rattle.std.proofs.lemmas.Bool.{and_parts, and_from, cases_Bool, both_ways, false_from_ne_true, or_left, eqb-true}
use Rattle.std.proofs.lemmas.Bool.Decides.{Decides-eqb}
use Rattle.std.proofs.lemmas.Cmp.{nat_list_cmp_total, tied_itself}
use Rattle.std.proofs.lemmas.List.{append_assoc, append-nil, take_at}
use Rattle.std.proofs.lemmas.List.Folds.{list_all-append}
use Rattle.std.proofs.lemmas.Slice.Eq.{slice_eq-Decides, ends_is}
use Rattle.indexmap.specs.IndexMap.{insert_all, insert_entry}
use Rattle.desk_base.specs.Names.{Text, Package, is_empty, is_identifier, is_identifier_byte, is_package, segments, written, dot}
use Rattle.desk_properties.specs.Lines.{placed, Line, natural_lines, logical_lines}
use Rattle.desk_properties.specs.Properties.{Entry, entries_of, entries_from, gathered, properties}
use Rattle.desk_lines.specs.Blanks.{trimmed_end, is_blank}
use Rattle.desk_entries.specs.Forms.{is_below, source_text, is_written_package}
use Rattle.desk_entries.specs.Entries.{rename_between}
use Rattle.desk_entries.specs.declared.faults.EntryFault.TheVariants.{Key, Value}
use Rattle.desk_packages.specs.declared.Reach.{Reach}
use Rattle.desk_packages.specs.declared.Reach.TheVariants.{Exact, Below}
use Rattle.desk_packages.specs.Renames.{Renaming, key_of, is_rename}
use Rattle.desk_packages.specs.Keys.{RiseBy, renaming, goes_below, wanted_tail}
use Rattle.desk_packages.proofs.Picks.{In}
use Rattle.desk_packages.proofs.Searched.{in_at}
use Rattle.desk_base.proofs.Lists.{all_weaker}
use Rattle.desk_chains.proofs.Chains.{package_named}
use Rattle.desk_rules.specs.RuleFiles.{each, with_first, rename_entry, renaming_from}
use Rattle.desk_rules.specs.Files.{renames_name}
use Rattle.desk_rules.specs.RuleSets.{AreWritten}
use Rattle.desk_invert.specs.Files.{line_of, file_of}
use Rattle.desk_invert.proofs.Plain.{is_bare, pair, after, natural, is_within, logical, is_said, entry_read}

-- ---- a line

said_all : (key value : Text) → list_all is_bare key ≡ true → list_all is_bare value ≡ true → list_all is_said (pair key value) ≡ true
said_all key value h k =
    list_all-append is_said key (61 ∷ value)
    ∙ and_from _ _ (all_weaker is_bare is_said (λ b e. or_left _ _ e) key h) (all_weaker is_bare is_said (λ b e. or_left _ _ e) value k)

said_within : (b : ℕ) → is_said b ≡ true → is_within b ≡ true
said_within b h = elim (cases_Bool (is_within b)) [
  | inl e ↦ e
  | inr e ↦ elim (cases_Bool (b == 10)) [
    | inl lf ↦ absurd (both_ways (is_said 10) refl (ap is_said (sym (eqb-true b 10 lf)) ∙ h))
    | inr other ↦ elim (cases_Bool (b == 13)) [
      | inl cr ↦ absurd (both_ways (is_said 13) refl (ap is_said (sym (eqb-true b 13 cr)) ∙ h))
      | inr another ↦ absurd (both_ways (is_within b) e (rw (other, another) refl))
    ]
  ]
]

abbrev read_at : ℕ → Text → Result (List Entry) ℕ
read_at at t = entries_of (logical_lines false (natural_lines (placed at t)))

-- what is read of a line, and of what stands behind it
line_read : (at : ℕ) (key value rest : Text) → not (is_empty key) ≡ true → list_all is_bare key ≡ true → list_all is_bare value ≡ true → read_at at (pair key value ++ 10 ∷ rest) ≡ entries_from (Ok (key, value)) (read_at (after at (pair key value)) rest)
line_read at [] value rest some h k = absurd cc
line_read at (b ∷ key) value rest some h k =
    let all : list_all is_said (pair (b ∷ key) value) ≡ true = said_all (b ∷ key) value h k in
    let lines : List Line = natural_lines (placed (after at (pair (b ∷ key) value)) rest) in
    ap (λ (ls : List Line). entries_of (logical_lines false ls)) (natural at (pair (b ∷ key) value) rest (all_weaker is_said is_within said_within (pair (b ∷ key) value) all))
    ∙ ap entries_of (logical at b (pair key value) lines (and_parts _ _ h).0 all)
    ∙ ap (λ (e : Result Entry ℕ). entries_from e (entries_of (logical_lines false lines))) (entry_read at (b ∷ key) value h k)

-- ---- the bytes of keys and packages

abbrev pub is_inner : ℕ → Bool
is_inner b = is_identifier_byte b || b == 46

identifier_inner : (t : Text) → is_identifier t ≡ true → list_all is_inner t ≡ true
identifier_inner [] h = refl
identifier_inner (b ∷ t) h = all_weaker is_identifier_byte is_inner (λ c e. or_left _ _ e) (b ∷ t) (and_parts _ _ h).1

pub written_inner : (p : Package) → list_all is_identifier p ≡ true → list_all is_inner (written dot p) ≡ true
written_inner [] h = refl
written_inner (x ∷ []) h = identifier_inner x (and_parts _ _ h).0
written_inner (x ∷ y ∷ p) h = list_all-append is_inner x (46 ∷ written dot (y ∷ p)) ∙ and_from _ _ (identifier_inner x (and_parts _ _ h).0) (written_inner (y ∷ p) (and_parts _ _ h).1)

bare_from : (t : Text) → list_all is_inner t ≡ true → list_all is_bare t ≡ true
bare_from t h = all_weaker is_inner is_bare (λ b e. or_left _ _ e) t h

written_some : (p : Package) → not (is_empty p) ≡ true → list_all is_identifier p ≡ true → (more : Text) → not (is_empty (written dot p ++ more)) ≡ true
written_some [] some h more = absurd cc
written_some ([] ∷ p) some h more = absurd cc
written_some ((b ∷ x) ∷ []) some h more = refl
written_some ((b ∷ x) ∷ y ∷ p) some h more = refl

tail_bare : (below : Bool) → list_all is_bare (wanted_tail below) ≡ true
tail_bare true = refl
tail_bare false = refl

-- ---- the file

abbrev pub entry_for : Renaming → Entry
entry_for r = (key_of r, written dot r.target)

line_is : (r : Renaming) (rest : Text) → line_of r ++ rest ≡ pair (key_of r) (written dot r.target) ++ 10 ∷ rest
line_is r rest =
    append_assoc (key_of r) (61 ∷ (written dot r.target ++ 10 ∷ [])) rest
    ∙ ap (λ (t : Text). key_of r ++ 61 ∷ t) (append_assoc (written dot r.target) (10 ∷ []) rest)
    ∙ sym (append_assoc (key_of r) (61 ∷ written dot r.target) (10 ∷ rest))

pub file_read : (at : ℕ) (rs : List Renaming) → list_all is_rename rs ≡ true → read_at at (file_of rs) ≡ Ok (map entry_for rs)
file_read at [] h = refl
file_read at (r ∷ rs) h =
    let fine = and_parts (is_package r.source) (is_package r.target) (and_parts _ _ h).0 in
    let source = and_parts _ _ fine.0 in
    let target = and_parts _ _ fine.1 in
    ap (read_at at) (line_is r (file_of rs))
    ∙ line_read at (key_of r) (written dot r.target) (file_of rs)
    (written_some r.source source.0 source.1 (wanted_tail r.below))
    (list_all-append is_bare (written dot r.source) (wanted_tail r.below) ∙ and_from _ _ (bare_from (written dot r.source) (written_inner r.source source.1)) (tail_bare r.below))
    (bare_from (written dot r.target) (written_inner r.target target.1))
    ∙ ap (entries_from (Ok (entry_for r))) (file_read (after at (pair (key_of r) (written dot r.target))) rs (and_parts _ _ h).1)

-- ---- entries of which each key is new

abbrev key_eq : Text → Text → Bool
key_eq = pointwise ◌==◌

insert_new : (done : List Entry) (e : Entry) → ((d : Entry) → In done d → key_eq e.0 d.0 ≡ false) → insert_entry key_eq done e.0 e.1 ≡ done ++ e ∷ []
insert_new [] e new = refl
insert_new (d ∷ done) e new =
    ap (λ (b : Bool). cond b ((d.0, e.1) ∷ done) (d ∷ insert_entry key_eq done e.0 e.1)) (new d (inl refl))
    ∙ ap (λ (ds : List Entry). d ∷ ds) (insert_new done e (λ x is. new x (inr is)))

in_push : (done : List Entry) (e d : Entry) → In (done ++ e ∷ []) d → In done d ⊎ (e ≡ d)
in_push [] e d (inl same) = inr same
in_push [] e d (inr none) = absurd none
in_push (x ∷ done) e d (inl same) = inl (inl same)
in_push (x ∷ done) e d (inr later) = elim (in_push done e d later) [ inl is ↦ inl (inr is) | inr same ↦ inr same ]

abbrev Apart : List Entry → Type 0
Apart [] = Unit {0}
Apart (e ∷ es) = ((x : Entry) → In es x → key_eq x.0 e.0 ≡ false) × Apart es

insert_each : (done es : List Entry) → ((d x : Entry) → In done d → In es x → key_eq x.0 d.0 ≡ false) → Apart es → insert_all key_eq done es ≡ done ++ es
insert_each done [] new apart = sym (append-nil done)
insert_each done (e ∷ es) new apart =
    ap (λ (ds : List Entry). insert_all key_eq ds es) (insert_new done e (λ d is. new d e is (inl refl)))
    ∙ insert_each (done ++ e ∷ []) es (λ d x is js. elim (in_push done e d is) [
      | inl old ↦ new d x old (inr js)
      | inr same ↦ ap (λ (y : Entry). key_eq x.0 y.0) (sym same) ∙ apart.0 x js
    ]) apart.1
    ∙ append_assoc done (e ∷ []) es

rise_apart : (es : List Entry) → RiseBy (λ (e : Entry). e.0) es → Apart es
rise_apart [] rise = tt
rise_apart (e ∷ es) rise = (
  λ x is. false_from_ne_true (key_eq x.0 e.0) (λ h.
      let at = in_at es x is in
      let less : slice_cmp nat_cmp e.0 (get_or es at.0 x).0 ≡ Less = rise zero (suc at.0) x (omega arith) (omega (arith, at.1)) in
      let same : (get_or es at.0 x).0 ≡ e.0 = ap (λ (y : Entry). y.0) (at.2 x) ∙ (slice_eq-Decides Decides-eqb x.0 e.0 (key_eq x.0 e.0) refl).0 h in
      let tied : slice_cmp nat_cmp e.0 (get_or es at.0 x).0 ≡ Equal = ap (slice_cmp nat_cmp e.0) same ∙ tied_itself nat_list_cmp_total e.0 in
      absurd (cc (tied, less))),
  rise_apart es (λ i j d lt within. rise (suc i) (suc j) d (omega arith) (omega arith)),
)

pub file_entries : (rs : List Renaming) → list_all is_rename rs ≡ true → RiseBy (λ (e : Entry). e.0) (map entry_for rs) → is_utf8 (file_of rs) ≡ true → properties (file_of rs) ≡ Ok (map entry_for rs)
file_entries rs h rise utf8 =
    rw (utf8, properties) (ap (gathered []) (file_read 0 rs h) ∙ ap (λ (es : List Entry). Ok es) (insert_each [] (map entry_for rs) (λ d x is js. absurd is) (rise_apart (map entry_for rs) rise)))

-- ---- an entry

inner_star : is_inner 42 ≡ false
inner_star = refl

pub below_is : (w : Text) → list_all is_inner w ≡ true → (below : Bool) → is_below (w ++ wanted_tail below) ≡ below
below_is w h true = (ends_is Decides-eqb (w ++ 46 ∷ 42 ∷ []) (46 ∷ 42 ∷ []) (is_below (w ++ 46 ∷ 42 ∷ [])) refl).1 w refl
below_is w h false = false_from_ne_true (is_below (w ++ [])) (λ e.
    let ends : w ++ [] ≡ take (length (w ++ []) - 2) (w ++ []) ++ 46 ∷ 42 ∷ [] = (ends_is Decides-eqb (w ++ []) (46 ∷ 42 ∷ []) (is_below (w ++ [])) refl).0 e in
    let all : list_all is_inner (take (length (w ++ []) - 2) (w ++ []) ++ 46 ∷ 42 ∷ []) ≡ true = ap (list_all is_inner) (sym ends ∙ append-nil w) ∙ h in
    let tail = and_parts _ _ (sym (list_all-append is_inner (take (length (w ++ []) - 2) (w ++ [])) (46 ∷ 42 ∷ [])) ∙ all) in
    both_ways false refl tail.1)

pub source_is : (w : Text) → list_all is_inner w ≡ true → (below : Bool) → source_text (w ++ wanted_tail below) ≡ w
source_is w h true =
    ap (λ (b : Bool). cond b (take (length (w ++ 46 ∷ 42 ∷ []) - 2) (w ++ 46 ∷ 42 ∷ [])) (w ++ 46 ∷ 42 ∷ [])) (below_is w h true)
    ∙ take_at w (46 ∷ 42 ∷ []) (length (w ++ 46 ∷ 42 ∷ []) - 2) (omega (arith, length-append w (46 ∷ 42 ∷ [])))
source_is w h false = ap (λ (b : Bool). cond b (take (length (w ++ []) - 2) (w ++ [])) (w ++ [])) (below_is w h false) ∙ append-nil w

inner_blank : (b : ℕ) → is_inner b ≡ true → is_blank b ≡ false
inner_blank b h = false_from_ne_true (is_blank b) (λ e. elim (cases_Bool (b == 32)) [
  | inl space ↦ both_ways (is_inner 32) refl (ap is_inner (sym (eqb-true b 32 space)) ∙ h)
  | inr other ↦ elim (cases_Bool (b == 9)) [
    | inl tab ↦ both_ways (is_inner 9) refl (ap is_inner (sym (eqb-true b 9 tab)) ∙ h)
    | inr another ↦ both_ways (is_blank b) (rw (other, another) refl) e
  ]
])

trimmed_is : (t : Text) → list_all is_inner t ≡ true → trimmed_end t ≡ t
trimmed_is [] h = refl
trimmed_is (b ∷ t) h = rw (inner_blank b (and_parts _ _ h).0) (ap (λ (u : Text). b ∷ u) (trimmed_is t (and_parts _ _ h).1))

below_told : (below : Bool) → goes_below (cond below Below Exact) ≡ below
below_told true = refl
below_told false = refl

pub rename_read : (r : Renaming) → is_rename r ≡ true → is_written_package (written dot r.source) ≡ true → is_written_package (written dot r.target) ≡ true → rename_entry (key_of r) (written dot r.target) ≡ Ok r
rename_read r h from to =
    let fine = and_parts (is_package r.source) (is_package r.target) h in
    let inner : list_all is_inner (written dot r.source) ≡ true = written_inner r.source (and_parts _ _ fine.0).1 in
    let plain : list_all is_inner (written dot r.target) ≡ true = written_inner r.target (and_parts _ _ fine.1).1 in
    let reach : Reach = cond r.below Below Exact in
    ap (λ (x : Reach). renaming_from (rename_between x (source_text (key_of r)) (trimmed_end (written dot r.target)))) (ap (λ (b : Bool). cond b Below Exact) (below_is (written dot r.source) inner r.below))
    ∙ ap (λ (s : Text). renaming_from (rename_between reach s (trimmed_end (written dot r.target)))) (source_is (written dot r.source) inner r.below)
    ∙ ap (λ (s : Text). renaming_from (rename_between reach (written dot r.source) s)) (trimmed_is (written dot r.target) plain)
    ∙ tested (is_written_package (written dot r.source)) (is_written_package (written dot r.target)) from to
    ∙ ap (λ (p : Package). Ok (renaming p (segments dot (written dot r.target)) (goes_below reach))) (package_named r.source fine.0).1
    ∙ ap (λ (p : Package). Ok (renaming r.source p (goes_below reach))) (package_named r.target fine.1).1
    ∙ ap (λ (b : Bool). Ok (renaming r.source r.target b)) (below_told r.below)
  where
    tested : (a b : Bool) → a ≡ true → b ≡ true
        → renaming_from (cond (not a) (Err Key) (cond (not b) (Err Value) (Ok (record { source = segments dot (written dot r.source); target = segments dot (written dot r.target); reach = cond r.below Below Exact }))))
        ≡ Ok (renaming (segments dot (written dot r.source)) (segments dot (written dot r.target)) (goes_below (cond r.below Below Exact)))
    tested true true s t = refl
    tested true false s t = absurd cc
    tested false b s t = absurd cc

pub each_read : (rs : List Renaming) → list_all is_rename rs ≡ true → AreWritten rs → each renames_name rename_entry (map entry_for rs) ≡ Ok rs
each_read [] h told = refl
each_read (r ∷ rs) h told =
    ap₂ (with_first renames_name (key_of r)) (rename_read r (and_parts _ _ h).0 told.0.0 told.0.1) (each_read rs (and_parts _ _ h).1 told.1)
