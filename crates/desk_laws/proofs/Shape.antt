-- The new pool is well-formed.
use Rattle.std.proofs.Common.{◌≡◌, ℕ, suc, Bool, true, false, cond, List, [], ◌∷◌, ◌++◌, map, length, Some, None, option_map, nat_eq, bytes_eq, refl, sym, subst}
use Rattle.std.specs.List.{AllByRecursion}
use Rattle.std.specs.Ordering.{nat_cmp, is_lt}
use Rattle.std.specs.Cmp.Lexicographic.{slice_cmp}
use Rattle.desk_base.specs.Utf8.{bad_form}
use Rattle.desk_base.specs.Entries.{Entry, utf8, class, string, fieldref, methodref, interface_methodref, name_and_type, method_handle, method_type, dynamic, invoke_dynamic, module_named, package_named, tag_of, is_wide}
use Rattle.desk_base.specs.Entries.{Pool}
use Rattle.desk_base.specs.declared.referents.Referent.{Referent}
use Rattle.desk_base.specs.declared.referents.Referent.TheVariants as referents
use Rattle.desk_base.specs.Referents.{Link, link, links, handled}
use Rattle.desk_laws.specs.Sound.{IsTwoBytes, IsSound, IsShaped, EachLink}
use Rattle.desk_format.specs.Split.{Want, wanted, holds, keep, kept_entry, kept, has_text, add, missing, entry_of}
use Rattle.desk_format.specs.NewPool.{Choice, with_texts}
use Rattle.desk_laws.proofs.Indices.{reindexed}
use Rattle.desk_laws.proofs.Moved.{handled_all}

-- a text that an entry may hold
pub record Holdable (t : List ℕ) : Type 0 where
  pub small : IsTwoBytes (length t)
  pub good : bad_form t ≡ None

abbrev pub WantHoldable : Want → Type 0
WantHoldable w = Holdable w.text

if_either : {A : Type 0} (P : A → Type 0) (x : Bool) (a b : A) → P a → P b → P (cond x a b)
if_either P true a b h k = h
if_either P false a b h k = k

all_wanted : (i : ℕ) (ws : List Want) → AllByRecursion WantHoldable ws → AllByRecursion Holdable (wanted i ws)
all_wanted i [] h = tt
all_wanted i (w ∷ ws) h = let rest : AllByRecursion Holdable (wanted i ws) = all_wanted i ws h.1 in if_either (AllByRecursion Holdable) (nat_eq w.index i) (w.text ∷ wanted i ws) (wanted i ws) (h.0, rest) rest

keep_holdable : (own : List ℕ) (ts : List (List ℕ)) → Holdable own → AllByRecursion Holdable ts → Holdable (keep own ts)
keep_holdable own [] o h = o
keep_holdable own (t ∷ ts) o h = if_either Holdable (holds (t ∷ ts) own) own t o h.0

add_holdable : (t : List ℕ) (ss : List (List ℕ)) → Holdable t → AllByRecursion Holdable ss → AllByRecursion Holdable (add t ss)
add_holdable t [] o h = (o, tt)
add_holdable t (s ∷ ss) o h =
    let less : Bool = is_lt (slice_cmp nat_cmp t s) in
    if_either (AllByRecursion Holdable) (bytes_eq s t) (s ∷ ss) (cond less (t ∷ (s ∷ ss)) (s ∷ add t ss)) h (if_either (AllByRecursion Holdable) less (t ∷ (s ∷ ss)) (s ∷ add t ss) (o, h) (h.0, add_holdable t ss o h.1))

pub missing_holdable : (pool : Pool) (ws : List Want) → AllByRecursion WantHoldable ws → AllByRecursion Holdable (missing pool ws)
missing_holdable pool [] h = tt
missing_holdable pool (w ∷ ws) h =
    let rest : AllByRecursion Holdable (missing pool ws) = missing_holdable pool ws h.1 in
    if_either (AllByRecursion Holdable) (has_text w.text pool) (missing pool ws) (add w.text (missing pool ws)) rest (add_holdable w.text (missing pool ws) h.0 rest)

-- the new index of a text is small
abbrev pub NewSmall : Choice → Referent → ℕ → Type 0
NewSmall g (referents.Text role form) i = IsTwoBytes (g role i)
NewSmall g _ i = Unit {0}

abbrev pub LinkSmall : Choice → Link → Type 0
LinkSmall g l = NewSmall g l.referent l.index

module _ (g : Choice) (ws : List Want) (wants : AllByRecursion WantHoldable ws) where
  sound_new : (k : ℕ) (e : Entry) → IsSound e → AllByRecursion (LinkSmall g) (links e) → IsSound (with_texts g (kept_entry ws k e))
  sound_new k (utf8 t) s h = let o : Holdable (keep t (wanted k ws)) = keep_holdable t (wanted k ws) (record { small = s.0; good = s.1 }) (all_wanted k ws wants) in (o.small, o.good)
  sound_new k (class i) s h = h.0
  sound_new k (string i) s h = h.0
  sound_new k (name_and_type n d) s h = (h.0, h.1.0)
  sound_new k (method_type d) s h = h.0
  sound_new k (module_named i) s h = h.0
  sound_new k (package_named i) s h = h.0
  sound_new k _ s h = s

  same_wide : (k : ℕ) (e : Entry) → is_wide (tag_of (with_texts g (kept_entry ws k e))) ≡ is_wide (tag_of e)
  same_wide k (utf8 t) = refl
  same_wide k (class i) = refl
  same_wide k _ = refl

  shaped_texts : (ts : List (List ℕ)) → AllByRecursion Holdable ts → IsShaped false (map (option_map (with_texts g)) (map entry_of ts))
  shaped_texts [] h = tt
  shaped_texts (t ∷ ts) h = ((h.0.small, h.0.good), shaped_texts ts h.1)

  pub shaped_new : (k : ℕ) (second : Bool) (slots : Pool) (ts : List (List ℕ)) → IsShaped second slots → EachLink (LinkSmall g) slots → AllByRecursion Holdable ts → IsShaped second (map (option_map (with_texts g)) (kept ws k slots ++ map entry_of ts))
  shaped_new k false [] ts s h o = shaped_texts ts o
  shaped_new k true [] ts s h o = absurd s
  shaped_new k true (None ∷ slots) ts s h o = shaped_new (suc k) false slots ts s h o
  shaped_new k true (Some e ∷ slots) ts s h o = absurd s
  shaped_new k false (None ∷ slots) ts s h o = absurd s
  shaped_new k false (Some e ∷ slots) ts s h o =
      (sound_new k e s.0 h.0, subst (λ (x : Bool). IsShaped x (map (option_map (with_texts g)) (kept ws (suc k) slots ++ map entry_of ts))) (sym (same_wide k e)) (shaped_new (suc k) (is_wide (tag_of e)) slots ts s.1 h.1 o))

  -- ---- links

  abbrev pub relink : Link → Link
  relink l = record l { index = reindexed g l.referent l.index }

  pub handled_stays : (kind i : ℕ) → reindexed g (handled kind) i ≡ i
  handled_stays kind i = handled_all (λ (t : Referent). reindexed g t i ≡ i) refl refl refl refl kind

  links_new : (P Q : Link → Type 0) → ((l : Link) → Q l → P (relink l)) → (k : ℕ) (e : Entry) → AllByRecursion Q (links e) → AllByRecursion P (links (with_texts g (kept_entry ws k e)))
  links_new P Q f k (class i) h = (f _ h.0, tt)
  links_new P Q f k (string i) h = (f _ h.0, tt)
  links_new P Q f k (fieldref c n) h = (f _ h.0, (f _ h.1.0, tt))
  links_new P Q f k (methodref c n) h = (f _ h.0, (f _ h.1.0, tt))
  links_new P Q f k (interface_methodref c n) h = (f _ h.0, (f _ h.1.0, tt))
  links_new P Q f k (name_and_type n d) h = (f _ h.0, (f _ h.1.0, tt))
  links_new P Q f k (method_handle kind i) h = (subst (λ (j : ℕ). P (link 2 (handled kind) j)) (handled_stays kind i) (f _ h.0), tt)
  links_new P Q f k (method_type d) h = (f _ h.0, tt)
  links_new P Q f k (dynamic n i) h = (f _ h.0, tt)
  links_new P Q f k (invoke_dynamic n i) h = (f _ h.0, tt)
  links_new P Q f k (module_named i) h = (f _ h.0, tt)
  links_new P Q f k (package_named i) h = (f _ h.0, tt)
  links_new P Q f k (utf8 t) h = tt
  links_new P Q f k _ h = tt

  linked_texts : (P : Link → Type 0) (ts : List (List ℕ)) → EachLink P (map (option_map (with_texts g)) (map entry_of ts))
  linked_texts P [] = tt
  linked_texts P (t ∷ ts) = (tt, linked_texts P ts)

  pub linked_new : (P Q : Link → Type 0) → ((l : Link) → Q l → P (relink l)) → (k : ℕ) (slots : Pool) (ts : List (List ℕ)) → EachLink Q slots → EachLink P (map (option_map (with_texts g)) (kept ws k slots ++ map entry_of ts))
  linked_new P Q f k [] ts h = linked_texts P ts
  linked_new P Q f k (None ∷ slots) ts h = linked_new P Q f (suc k) slots ts h
  linked_new P Q f k (Some e ∷ slots) ts h = (links_new P Q f k e h.0, linked_new P Q f (suc k) slots ts h.1)
