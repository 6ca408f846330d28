-- Renames and their inverse: what it holds.
use Rattle.std.proofs.Common.{◌≡◌, Bool, true, false, cond, List, [], ◌∷◌, ◌++◌, map, None, refl, sym, ap, subst, ◌∙◌, inl, inr}
use Rattle.std.specs.List.{list_all, filter, Contains}
use Rattle.std.proofs.lemmas.Bool.{cases_Bool, and_parts, and_from, or_left, both_ways, not_from_false, not-true, false_from_ne_true}
use Rattle.std.proofs.lemmas.List.{append-nil, append_assoc}
use Rattle.std.proofs.lemmas.Slice.Eq.{bytes_eq-Decides}
use Rattle.std.specs.Str.{bytes_eq}
use Rattle.desk_base.specs.Names.{Text, same, written, segments, dot, is_package}
use Rattle.desk_entries.specs.Forms.{is_below, source_text}
use Rattle.desk_packages.specs.Renames.{Renaming, changes, key_of, is_rename}
use Rattle.desk_packages.specs.Keys.{IsTable}
use Rattle.desk_packages.proofs.Same.{same_is, same_from}
use Rattle.desk_packages.proofs.Picks.{In}
use Rattle.desk_packages.proofs.Searched.{one_key}
use Rattle.desk_chains.proofs.Chains.{package_named}
use Rattle.desk_rules.proofs.Twice.{first_pair_None}
use Rattle.desk_invert.specs.Inverse.{flipped, overlap, first_overlap}
use Rattle.desk_invert.specs.Files.{file_of, line_of}
use Rattle.desk_invert.proofs.Written.{written_inner, source_is, below_is}

-- The changing renames, each with source and target exchanged, in byte order of their keys, each key once. A rename that doesn't
-- change has no part in it.
pub record IsInverse (renames inverse : List Renaming) : Type 0 where
  pub table : IsTable inverse
  pub all : (r : Renaming) → Contains renames r → changes r ≡ true → Contains inverse (flipped r)
  pub alone : (s : Renaming) → Contains inverse s → Contains renames (flipped s)
  pub moves : (s : Renaming) → Contains inverse s → changes s ≡ true

-- renames with an inverse that undoes them: a table of which no two overlap
pub record Undoes (renames inverse : List Renaming) : Type 0 where
  pub table : IsTable renames
  pub inverse_is : IsInverse renames inverse
  pub apart : first_overlap renames ≡ None

pub file_push : (rs : List Renaming) (r : Renaming) → file_of (rs ++ r ∷ []) ≡ file_of rs ++ line_of r
file_push [] r = append-nil (line_of r)
file_push (s ∷ rs) r = ap (λ (t : Text). line_of s ++ t) (file_push rs r) ∙ sym (append_assoc (line_of s) (file_of rs) (line_of r))

-- an exchanged rename changes as the rename does
pub flip_changes : (r : Renaming) → changes r ≡ true → changes (flipped r) ≡ true
flip_changes r h = not_from_false _ (false_from_ne_true (same r.target r.source) (λ e. both_ways (same r.source r.target) (not-true _ h) (same_from r.source r.target (sym (same_is r.target r.source e)))))

-- ---- members

pub in_filter : {A : Type 0} (test : A → Bool) (xs : List A) (x : A) → In xs x → test x ≡ true → In (filter test xs) x
in_filter test [] x is h = is
in_filter {A} test (y ∷ ys) x is h = elim (cases_Bool (test y)) [
  | inl passes ↦ subst (λ (b : Bool). In (cond b (y ∷ filter test ys) (filter test ys)) x) (sym passes) (elim is [ inl e ↦ inl e | inr later ↦ inr (in_filter test ys x later h) ])
  | inr fails ↦ subst (λ (b : Bool). In (cond b (y ∷ filter test ys) (filter test ys)) x) (sym fails) (elim is [ inl e ↦ absurd (both_ways (test y) fails (ap test e ∙ h)) | inr later ↦ in_filter test ys x later h ])
]

pub from_filter : {A : Type 0} (test : A → Bool) (xs : List A) (x : A) → In (filter test xs) x → In xs x × (test x ≡ true)
from_filter test [] x is = absurd is
from_filter {A} test (y ∷ ys) x is = by (λ later. from_filter test ys x later) (test y) refl is
  where
    by : (In (filter test ys) x → In ys x × (test x ≡ true)) → (b : Bool) → test y ≡ b → In (cond b (y ∷ filter test ys) (filter test ys)) x → In (y ∷ ys) x × (test x ≡ true)
    by rest true q (inl e) = (inl e, ap test (sym e) ∙ q)
    by rest true q (inr later) = let f = rest later in (inr f.0, f.1)
    by rest false q later = let f = rest later in (inr f.0, f.1)

pub in_map : {A B : Type 0} (f : A → B) (xs : List A) (x : A) → In xs x → In (map f xs) (f x)
in_map f [] x h = h
in_map f (y ∷ ys) x (inl e) = inl (ap f e)
in_map f (y ∷ ys) x (inr h) = inr (in_map f ys x h)

pub record From {A B : Type 0} (f : A → B) (xs : List A) (y : B) : Type 0 where
  pub x : A
  pub there : In xs x
  pub is : f x ≡ y

pub from_map : {A B : Type 0} (f : A → B) (xs : List A) (y : B) → In (map f xs) y → From f xs y
from_map f [] y h = absurd h
from_map f (x ∷ xs) y (inl e) = record { x = x; there = inl refl; is = e }
from_map f (x ∷ xs) y (inr h) = let g = from_map f xs y h in record { x = g.x; there = inr g.there; is = g.is }

pub all_true : {A : Type 0} (test : A → Bool) (xs : List A) → ((x : A) → In xs x → test x ≡ true) → list_all test xs ≡ true
all_true test [] h = refl
all_true test (x ∷ xs) h = and_from _ _ (h x (inl refl)) (all_true test xs (λ y is. h y (inr is)))

-- one of the exchanged changing renames
pub in_flips : (rs : List Renaming) (r : Renaming) → In rs r → changes r ≡ true → In (map flipped (filter changes rs)) (flipped r)
in_flips rs r is moves = in_map flipped (filter changes rs) r (in_filter changes rs r is moves)

pub from_flips : (rs : List Renaming) (t : Renaming) → In (map flipped (filter changes rs)) t → In rs (flipped t) × (changes t ≡ true)
from_flips rs t is =
    let f = from_map flipped (filter changes rs) t is in
    let g = from_filter changes rs f.x f.there in
    (subst (In rs) (ap flipped f.is) g.0, ap changes (sym f.is) ∙ flip_changes f.x g.1)

-- ---- keys

-- renames of one key have one source, and both are below renames or neither is
pub one_source : (a b : Renaming) → is_rename a ≡ true → is_rename b ≡ true → key_of a ≡ key_of b → (a.source ≡ b.source) × (a.below ≡ b.below)
one_source a b h k e =
    let p = and_parts (is_package a.source) (is_package a.target) h in
    let q = and_parts (is_package b.source) (is_package b.target) k in
    let inner = written_inner a.source (and_parts _ _ p.0).1 in
    let inner' = written_inner b.source (and_parts _ _ q.0).1 in
    let text : written dot a.source ≡ written dot b.source = sym (source_is (written dot a.source) inner a.below) ∙ ap source_text e ∙ source_is (written dot b.source) inner' b.below in (
      sym (package_named a.source p.0).1 ∙ ap (segments dot) text ∙ (package_named b.source q.0).1,
      sym (below_is (written dot a.source) inner a.below) ∙ ap is_below e ∙ below_is (written dot b.source) inner' b.below,
    )

-- changing renames of one target, of which no two overlap, are one
pub one_target : (rs : List Renaming) → IsTable rs → first_overlap rs ≡ None → (r s : Renaming) → In rs r → In rs s → changes r ≡ true → changes s ≡ true → r.target ≡ s.target → r ≡ s
one_target rs table apart r s is js moves also e =
    let none : overlap r s ≡ false = first_pair_None overlap rs rs r s apart is js in
    elim (cases_Bool (bytes_eq (key_of r) (key_of s))) [
      | inl alike ↦ one_key key_of rs table.rising r s is js ((bytes_eq-Decides (key_of r) (key_of s)).0 alike)
      | inr other ↦ absurd (both_ways _ none (and_from _ _ (and_from _ _ (and_from _ _ moves also) (not_from_false _ other)) (or_left _ _ (or_left _ _ (or_left _ _ (same_from r.target s.target e))))))
    ]
