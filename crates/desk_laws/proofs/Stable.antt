-- A pool whose used texts are their own images stays as it is.
use Rattle.std.proofs.Common.{◌≡◌, ℕ, zero, suc, Bool, true, false, cond, List, [], ◌∷◌, ◌++◌, map, get_or, Option, Some, None, option_map, nat_eq, refl, ap, ap₂, sym, subst, ◌∙◌, append-nil, arith, eqb-true, inl, inr}
use Rattle.std.specs.List.{AllByRecursion}
use Rattle.std.proofs.lemmas.List.{ext_get_or}
use Rattle.std.proofs.lemmas.Slice.Eq.{bytes_eq-Decides}
use Rattle.std.proofs.lemmas.Bool.{or_right}
use Rattle.desk_base.specs.declared.kinds.Role.{Role}
use Rattle.desk_base.specs.declared.kinds.Used.{Used}
use Rattle.desk_base.specs.Entries.{Entry, utf8, class, string, name_and_type, method_type, module_named, package_named}
use Rattle.desk_base.specs.Entries.{Pool, entry_at, text_at, text_in}
use Rattle.desk_base.specs.declared.referents.Referent.{Referent}
use Rattle.desk_base.specs.declared.referents.Referent.TheVariants as referents
use Rattle.desk_base.specs.Referents.{Link, links}
use Rattle.desk_laws.specs.Sound.{EachLink}
use Rattle.desk_format.specs.Resolved.{Images, image}
use Rattle.desk_format.specs.Split.{Want, wanted, holds, keep, kept_entry, kept, is_text, has_text, missing, entry_of}
use Rattle.desk_format.specs.NewPool.{Choice, want_in_role, wants, with_texts, new_texts, choice, new_pool, added}
use Rattle.desk_laws.proofs.Slots.{kept-at, length-kept}
use Rattle.desk_laws.proofs.Passes.{each_map}
use Rattle.desk_laws.proofs.Linked.{HasUse, IsUsed, LinkUsed, is_want}
use Rattle.desk_laws.proofs.Split.{IsWant}

-- A use of a text is named, and its image is the text.
pub record Own (pool : Pool) (w : Want) : Type 0 where
  pub names : entry_at pool w.index ≡ Some (utf8 w.text)

if_same : {A : Type 0} (x : Bool) (a b : A) → b ≡ a → cond x a b ≡ a
if_same true a b h = refl
if_same false a b h = h

some_same : (o : Option Entry) (s t : List ℕ) → o ≡ Some (utf8 s) → o ≡ Some (utf8 t) → s ≡ t
some_same o s t p q = ap text_in (sym p ∙ q)

wanted_cons : (pool : Pool) (i : ℕ) (own : List ℕ) (w : Want) (rest : List (List ℕ)) (x : Bool) → nat_eq w.index i ≡ x → entry_at pool i ≡ Some (utf8 own) → Own pool w → AllByRecursion (λ (t : List ℕ). t ≡ own) rest → AllByRecursion (λ (t : List ℕ). t ≡ own) (cond x (w.text ∷ rest) rest)
wanted_cons pool i own w rest true p is o h =
    let at_i : entry_at pool i ≡ Some (utf8 w.text) = subst (λ (j : ℕ). entry_at pool j ≡ Some (utf8 w.text)) (eqb-true w.index i p) o.names in
    (some_same (entry_at pool i) w.text own at_i is, h)
wanted_cons pool i own w rest false p is o h = h

wanted_own : (pool : Pool) (i : ℕ) (own : List ℕ) (ws : List Want) → entry_at pool i ≡ Some (utf8 own) → AllByRecursion (Own pool) ws → AllByRecursion (λ (t : List ℕ). t ≡ own) (wanted i ws)
wanted_own pool i own [] is h = tt
wanted_own pool i own (w ∷ ws) is h = wanted_cons pool i own w (wanted i ws) (nat_eq w.index i) refl is h.0 (wanted_own pool i own ws is h.1)

keep_own : (own : List ℕ) (ts : List (List ℕ)) → AllByRecursion (λ (t : List ℕ). t ≡ own) ts → keep own ts ≡ own
keep_own own [] h = refl
keep_own own (t ∷ ts) h = if_same (holds (t ∷ ts) own) own t h.0

kept_same : (pool : Pool) (i : ℕ) (ws : List Want) (o : Option Entry) → entry_at pool i ≡ o → AllByRecursion (Own pool) ws → option_map (kept_entry ws i) o ≡ o
kept_same pool i ws None is h = refl
kept_same pool i ws (Some (utf8 own)) is h = ap (λ (t : List ℕ). Some (utf8 t)) (keep_own own (wanted i ws) (wanted_own pool i own ws is h))
kept_same pool i ws (Some _) is h = refl

kept_all : (ws : List Want) (pool : Pool) → AllByRecursion (Own pool) ws → kept ws 1 pool ≡ pool
kept_all ws pool h =
    ext_get_or None (kept ws 1 pool) pool (length-kept ws 1 pool)
    (λ j lt. kept-at ws 1 pool j ∙ ap (λ (i : ℕ). option_map (kept_entry ws i) (get_or pool j None)) (omega arith) ∙ kept_same pool (suc j) ws (get_or pool j None) refl h)

-- ---- nothing is missing

has_at : (t : List ℕ) (pool : Pool) (j : ℕ) → get_or pool j None ≡ Some (utf8 t) → has_text t pool ≡ true
has_at t [] j h = absurd cc
has_at t (slot ∷ slots) zero h = rw (h, (bytes_eq-Decides t t).1 refl) refl
has_at t (slot ∷ slots) (suc j) h = or_right (is_text t slot) (has_text t slots) (has_at t slots j h)

-- a text that an entry has is in the pool
pub has_named : (t : List ℕ) (pool : Pool) (i : ℕ) → entry_at pool i ≡ Some (utf8 t) → has_text t pool ≡ true
has_named t pool zero h = absurd cc
has_named t pool (suc j) h = has_at t pool j h

missing_none : (pool : Pool) (ws : List Want) → AllByRecursion (Own pool) ws → missing pool ws ≡ []
missing_none pool [] h = refl
missing_none pool (w ∷ ws) h = rw (has_named w.text pool w.index h.0.names) (missing_none pool ws h.1)

pub own_at : (pool : Pool) (ws : List Want) (w : Want) → AllByRecursion (Own pool) ws → IsWant ws w → Own pool w
own_at pool [] w h is = absurd is
own_at pool (v ∷ vs) w h is = elim is [ inl e ↦ subst (Own pool) e h.0 | inr k ↦ own_at pool vs w h.1 k ]

-- ---- no index is exchanged

abbrev pub Stays : Choice → Referent → ℕ → Type 0
Stays g (referents.Text role form) i = g role i ≡ i
Stays g _ i = Unit {0}

with_same : (g : Choice) (e : Entry) → AllByRecursion (λ (l : Link). Stays g l.referent l.index) (links e) → with_texts g e ≡ e
with_same g (class i) h = ap class h.0
with_same g (string i) h = ap string h.0
with_same g (name_and_type n d) h = ap₂ name_and_type h.0 h.1.0
with_same g (method_type d) h = ap method_type h.0
with_same g (module_named i) h = ap module_named h.0
with_same g (package_named i) h = ap package_named h.0
with_same g _ h = refl

slots_same : (g : Choice) (pool : Pool) → EachLink (λ (l : Link). Stays g l.referent l.index) pool → map (option_map (with_texts g)) pool ≡ pool
slots_same g [] h = refl
slots_same g (None ∷ slots) h = ap (λ (rest : Pool). None ∷ rest) (slots_same g slots h)
slots_same g (Some e ∷ slots) h = ap₂ (λ (f : Entry) (rest : Pool). Some f ∷ rest) (with_same g e h.0) (slots_same g slots h.1)

module _ (im : Images) (pool : Pool) (us : List Used) (own : AllByRecursion (Own pool) (wants im pool us)) where
  pub added_none : added im pool us ≡ []
  added_none = ap (λ (p : Pool). missing p (wants im pool us)) (kept_all (wants im pool us) pool own) ∙ missing_none pool (wants im pool us) own

  pub texts_same : new_texts im pool us ≡ pool
  texts_same = ap₂ (λ (p : Pool) (ts : List (List ℕ)). p ++ map entry_of ts) (kept_all (wants im pool us) pool own) added_none ∙ append-nil pool

  pub choice_stays : (role : Role) (i : ℕ) → HasUse us role i → choice im pool us role i ≡ i
  choice_stays role i h =
      let w : Want = want_in_role im pool role i in
      let o : Own pool (want_in_role im pool role i) = own_at pool (wants im pool us) (want_in_role im pool role i) own (is_want im pool us role i h) in
      let same : text_at (new_texts im pool us) i ≡ image im role (text_at pool i) = ap (λ (p : Pool). text_at p i) texts_same ∙ ap text_in o.names in
      rw ((bytes_eq-Decides (text_at (new_texts im pool us) i) (image im role (text_at pool i))).1 same) refl

  pub referent_stays : (t : Referent) (i : ℕ) → IsUsed us t i → Stays (choice im pool us) t i
  referent_stays (referents.Text role form) i l = choice_stays role i l
  referent_stays (referents.Class form) i l = tt
  referent_stays (referents.NameAndType form) i l = tt
  referent_stays (referents.Entry entries) i l = tt

  pub pool_same : EachLink (LinkUsed us) pool → new_pool im pool us ≡ pool
  pool_same used =
      ap (map (option_map (with_texts (choice im pool us)))) texts_same
      ∙ slots_same (choice im pool us) pool (each_map (LinkUsed us) (λ (l : Link). Stays (choice im pool us) l.referent l.index) pool (λ l u. referent_stays l.referent l.index u) used)
