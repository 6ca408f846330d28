-- A new pool is well-formed, and the uses of the body lead into it.
use Rattle.std.proofs.Common.{◌≡◌, ℕ, zero, suc, ◌+◌, Bool, true, false, cond, ◌&&◌, List, [], ◌∷◌, ◌++◌, length, Option, Some, None, nat_eq, refl, ap, sym, subst, ◌∙◌, arith, inl}
use Rattle.std.specs.List.{AllByRecursion}
use Rattle.std.proofs.lemmas.Bool.Decides.{nat_tests}
use Rattle.std.proofs.lemmas.Bool.{and_right}
use Rattle.desk_base.specs.declared.kinds.Role.{Role}
use Rattle.desk_base.specs.declared.kinds.Role.TheVariants as roles
use Rattle.desk_base.specs.declared.kinds.Used.{Used}
use Rattle.desk_base.specs.declared.kinds.UseKind.{UseKind}
use Rattle.desk_base.specs.declared.kinds.UseKind.TheVariants as kinds
use Rattle.desk_base.specs.Utf8.{bad_form}
use Rattle.desk_base.specs.declared.referents.Form.TheVariants as forms
use Rattle.desk_base.specs.Entries.{Entry, utf8, is_wide, tag_of}
use Rattle.desk_format.specs.PoolBytes.{size}
use Rattle.desk_base.specs.Entries.{Pool, entry_at, tag_at, text_at, text_in}
use Rattle.desk_base.specs.declared.referents.Referent.{Referent}
use Rattle.desk_base.specs.declared.referents.Referent.TheVariants as referents
use Rattle.desk_base.specs.Referents.{fits, Link, links, referent_of, may_be_none}
use Rattle.desk_base.specs.Misfits.{wrong_entry, wrong_text, or_else, misfit}
use Rattle.desk_format.specs.PoolBytes.{uses_among, pool_uses}
use Rattle.desk_laws.proofs.Indices.{uses_as, reindexed, indices, text_uses, uses-indices, each_index, all_indices, by_choice, new_index-is}
use Rattle.desk_format.specs.Trees.{Tree, Use, Each, uses, uses_of, text_use, text_in_role}
use Rattle.desk_laws.specs.Sound.{IsTwoBytes, IsSound, IsShaped, EachLink, Links, IsWellFormed}
use Rattle.desk_format.specs.Values.{value_as, value_of_kind}
use Rattle.desk_format.specs.Values.{text_as}
use Rattle.desk_laws.proofs.Passes.{Neither, neither, or_else-none, each_map, each_both}
use Rattle.desk_format.specs.Reading.{name_under}
use Rattle.desk_format.specs.Exchange.{Fits, new_index}
use Rattle.desk_format.specs.Resolved.{Images, renamed_value}
use Rattle.desk_format.specs.Laws.{Renames}
use Rattle.desk_format.specs.Split.{Want, kept}
use Rattle.desk_format.specs.NewPool.{wants, choice, new_pool, added, change_by}
use Rattle.desk_laws.specs.NewPools.{KeepsForms, IsAccepted, NewPools, all_uses}
use Rattle.desk_laws.proofs.Slots.{same_tag, length-new, appended_is}
use Rattle.desk_laws.proofs.Linked.{HasUse, has_left, has_right, IsUsed, LinkUsed, Within, pool_used, Led}
use Rattle.desk_laws.proofs.Moved.{Other, Kept, LinkKept, table, any_text, as_text, is_utf8, names_fitting, Fitting, led_text, moved, leads_to}
use Rattle.desk_laws.proofs.Shape.{WantHoldable, missing_holdable, NewSmall, LinkSmall, shaped_new, linked_new}
use Rattle.desk_laws.proofs.Values.{values, follows}

-- ---- each use of a text names one

abbrev pub NamesText : Pool → Used → Type 0
NamesText old u = fits any_text (tag_at old u.index) ≡ true

pub all_append : {A : Type 0} (P : A → Type 0) (xs ys : List A) → AllByRecursion P xs → AllByRecursion P ys → AllByRecursion P (xs ++ ys)
all_append P [] ys h k = k
all_append P (x ∷ xs) ys h k = (h.0, all_append P xs ys h.1 k)

named_as : (old : Pool) (t : Referent) (at i : ℕ) → fits t (tag_at old i) ≡ true → AllByRecursion (NamesText old) (uses_as t at i)
named_as old (referents.Text role form) at i h = (as_text role form (tag_at old i) h, tt)
named_as old (referents.Class form) at i h = tt
named_as old (referents.NameAndType form) at i h = tt
named_as old (referents.Entry entries) at i h = tt

named_among : (old : Pool) (at : ℕ) (ls : List Link) → AllByRecursion (Links old) ls → AllByRecursion (NamesText old) (uses_among at ls)
named_among old at [] h = tt
named_among old at (l ∷ ls) h = all_append (NamesText old) (uses_as l.referent _ l.index) (uses_among at ls) (named_as old l.referent _ l.index (names_fitting old l.referent l.index h.0.names)) (named_among old at ls h.1)

pub named_in_pool : (old : Pool) (at : ℕ) (slots : Pool) → EachLink (Links old) slots → AllByRecursion (NamesText old) (pool_uses at slots)
named_in_pool old at [] h = tt
named_in_pool old at (None ∷ slots) h = named_in_pool old at slots h
named_in_pool old at (Some e ∷ slots) h = all_append (NamesText old) (uses_among at (links e)) (pool_uses (at + size e) slots) (named_among old at (links e) h.0) (named_in_pool old (at + size e) slots h.1)

-- what a fitting use of a body says: it is index 0 and may be, or it names a fitting entry
pub record Says (old : Pool) (u : Use) : Type 0 where
  pub fitting : (may_be_none u.kind && nat_eq u.index 0) ≡ false → Fitting old (referent_of u.kind) u.index

says_by : (old : Pool) (u : Use) (x : Bool) → (may_be_none u.kind && nat_eq u.index 0) ≡ x → cond x None (or_else (wrong_entry old (referent_of u.kind) u.index) (wrong_text old (referent_of u.kind) u.index)) ≡ None → Says old u
says_by old u true p h = record { fitting = λ q. absurd cc }
says_by old u false p h =
    let n : Neither (wrong_entry old (referent_of u.kind) u.index) (wrong_text old (referent_of u.kind) u.index) = neither (wrong_entry old (referent_of u.kind) u.index) (wrong_text old (referent_of u.kind) u.index) h in
    record { fitting = λ q. record { names = n.first; leads = n.second } }

says : (old : Pool) (u : Use) → Fits old u → Says old u
unfolding misfit
says old u f = says_by old u (may_be_none u.kind && nat_eq u.index 0) refl f.fits

text_named : (old : Pool) (u : Use) (x : Bool) → (may_be_none u.kind && nat_eq u.index 0) ≡ x → Says old u → AllByRecursion (NamesText old) (uses_of (cond x None (text_in_role (referent_of u.kind) u.at u.index)))
text_named old u true p h = tt
text_named old u false p h = let f : Fitting old (referent_of u.kind) u.index = h.fitting p in named_as old (referent_of u.kind) u.at u.index (names_fitting old (referent_of u.kind) u.index f.names)

pub named_in_body : (old : Pool) (us : List Use) → AllByRecursion (Fits old) us → AllByRecursion (NamesText old) (text_uses us)
named_in_body old [] h = tt
named_in_body old (u ∷ us) h = all_append (NamesText old) (uses_of (text_use u)) (text_uses us) (text_named old u (may_be_none u.kind && nat_eq u.index 0) refl (says old u h.0)) (named_in_body old us h.1)

-- ---- sound entries

pub sound_at : (second : Bool) (pool : Pool) (i : ℕ) (e : Entry) → IsShaped second pool → entry_at pool i ≡ Some e → IsSound e
sound_at second pool zero e s is = absurd cc
sound_at second [] (suc j) e s is = absurd cc
sound_at false (None ∷ slots) (suc j) e s is = absurd s
sound_at true (Some f ∷ slots) (suc j) e s is = absurd s
sound_at true (None ∷ slots) (suc zero) e s is = absurd cc
sound_at true (None ∷ slots) (suc (suc j)) e s is = sound_at false slots (suc j) e s is
sound_at false (Some f ∷ slots) (suc zero) e s is = let same : f ≡ e = cc in subst IsSound same s.0
sound_at false (Some f ∷ slots) (suc (suc j)) e s is = sound_at (is_wide (tag_of f)) slots (suc j) e s.1 is

good_text : (old : Pool) (i : ℕ) → IsShaped false old → fits any_text (tag_at old i) ≡ true → bad_form (text_at old i) ≡ None
good_text old i s h =
    let p = is_utf8 (entry_at old i) h in
    let sound : IsTwoBytes (length p.0) × (bad_form p.0 ≡ None) = sound_at false old i (utf8 p.0) s p.1 in
    ap (λ (o : Option Entry). bad_form (text_in o)) p.1 ∙ sound.1

wants_holdable : (im : Images) (old : Pool) (us : List Used) → KeepsForms im → IsShaped false old → AllByRecursion (NamesText old) us → AllByRecursion (λ (w : Want). IsTwoBytes (length w.text)) (wants im old us) → AllByRecursion WantHoldable (wants im old us)
wants_holdable im old [] k s h small = tt
wants_holdable im old (u ∷ us) k s h small =
    (record { small = small.0; good = k.utf8 u.role (text_at old u.index) (good_text old u.index s h.0) }, wants_holdable im old us k s h.1 small.1)

each_of_table : (pool : Pool) → EachLink LinkKept pool
each_of_table [] = tt
each_of_table (None ∷ slots) = each_of_table slots
each_of_table (Some e ∷ slots) = (table e, each_of_table slots)

pub record OldLink (old : Pool) (us : List Used) (l : Link) : Type 0 where
  pub fits : Links old l
  pub used : LinkUsed us l
  pub kept : LinkKept l

pub record Half (old : Pool) (us : List Used) (l : Link) : Type 0 where
  pub fits : Links old l
  pub used : LinkUsed us l

module _ (im : Images) (old : Pool) (us : List Used) (k : KeepsForms im) (w : IsWellFormed old) (used : EachLink (LinkUsed us) old) (named : AllByRecursion (NamesText old) us) (accepted : IsAccepted im old us) where
  old_links : EachLink (OldLink old us) old
  old_links =
      each_both (Half old us) LinkKept (OldLink old us) old (λ l a b. record { fits = a.fits; used = a.used; kept = b })
      (each_both (Links old) (LinkUsed us) (Half old us) old (λ l a b. record { fits = a; used = b }) w.linked used) (each_of_table old)

  choice_small : (role : Role) (i : ℕ) → Led im old us role i → IsTwoBytes (choice im old us role i)
  choice_small role i l = let room : IsTwoBytes (suc (length old) + length (added im old us)) = accepted.room in omega (arith, l.within)

  referent_small : (t : Referent) (i : ℕ) → fits t (tag_at old i) ≡ true → IsUsed us t i → NewSmall (choice im old us) t i
  referent_small (referents.Text role form) i h u = choice_small role i (led_text im old us w.linked used role form i h u)
  referent_small (referents.Class form) i h u = tt
  referent_small (referents.NameAndType form) i h u = tt
  referent_small (referents.Entry entries) i h u = tt

  pub holdable : AllByRecursion WantHoldable (wants im old us)
  holdable = wants_holdable im old us k w.shaped named accepted.short

  -- a fact of each index of the new pool
  pub each_new : (P : Link → Type 0) → ((l : Link) → OldLink old us l → P (record l { index = reindexed (choice im old us) l.referent l.index })) → EachLink P (new_pool im old us)
  each_new P f = linked_new (choice im old us) (wants im old us) holdable P (OldLink old us) f 1 old (added im old us) old_links

  new_fitting : (l : Link) → OldLink old us l → Links (new_pool im old us) (record l { index = reindexed (choice im old us) l.referent l.index })
  new_fitting l o =
      let f : Fitting (new_pool im old us) l.referent (reindexed (choice im old us) l.referent l.index) = moved im old us w.linked used k l.referent l.index (record { names = o.fits.names; leads = o.fits.leads }) o.used o.kept.goes in
      record { names = f.names; leads = f.leads }

  pub well_formed_new : IsWellFormed (new_pool im old us)
  well_formed_new =
      let room : IsTwoBytes (suc (length old) + length (added im old us)) = accepted.room in
      record {
        shaped = shaped_new (choice im old us) (wants im old us) holdable 1 false old (added im old us) w.shaped
            (each_map (OldLink old us) (LinkSmall (choice im old us)) old (λ l o. referent_small l.referent l.index (names_fitting old l.referent l.index o.fits.names) o.used) old_links)
            (missing_holdable (kept (wants im old us) 1 old) (wants im old us) holdable);
        small = omega (arith, length-new im old us);
        linked = each_new (Links (new_pool im old us)) new_fitting;
      }

  -- ---- the uses of the body

  old_value : (t : Referent) (i : ℕ) → fits t (tag_at old i) ≡ true → IsUsed us t i → Other t → value_as t (new_pool im old us) (reindexed (choice im old us) t i) ≡ renamed_value im (value_as t old i)
  old_value (referents.Text role form) i h u o = ap (text_as role) (leads_to im old us w.linked used (referents.Text role form) i h u)
  old_value (referents.Class form) i h u o = follows im old us w.linked used 3 (values im old us w.linked used 3) (referents.Class form) i h u o
  old_value (referents.NameAndType form) i h u o = follows im old us w.linked used 3 (values im old us w.linked used 3) (referents.NameAndType form) i h u o
  old_value (referents.Entry entries) i h u o = follows im old us w.linked used 3 (values im old us w.linked used 3) (referents.Entry entries) i h u o

  stays_small : (t : Referent) (i : ℕ) → IsTwoBytes i → NewSmall (choice im old us) t i → IsTwoBytes (reindexed (choice im old us) t i)
  stays_small (referents.Text role form) i h s = s
  stays_small (referents.Class form) i h s = h
  stays_small (referents.NameAndType form) i h s = h
  stays_small (referents.Entry entries) i h s = h

-- the table of use kinds
kinds_kept : (kind : UseKind) → Kept (referent_of kind)
kinds_kept kinds.Plain = record { goes = refl; other = tt }
kinds_kept kinds.PlainOrNone = record { goes = refl; other = tt }
kinds_kept kinds.AttrName = record { goes = refl; other = tt }
kinds_kept kinds.FieldDescriptor = record { goes = refl; other = tt }
kinds_kept kinds.MethodDescriptor = record { goes = refl; other = tt }
kinds_kept kinds.ReturnDescriptor = record { goes = refl; other = tt }
kinds_kept kinds.ClassSig = record { goes = refl; other = tt }
kinds_kept kinds.MethodSig = record { goes = refl; other = tt }
kinds_kept kinds.FieldSig = record { goes = refl; other = tt }
kinds_kept kinds.Str = record { goes = refl; other = tt }
kinds_kept _ = record { goes = refl; other = refl }

not_zero : (t : Referent) (pool : Pool) (i : ℕ) → fits t (tag_at pool i) ≡ true → nat_eq i 0 ≡ false
not_zero t pool zero h = absurd cc
not_zero t pool (suc i) h = grind (arith, nat_tests)

-- where index 0 stands for nothing, it stays
none_suits : (old new : Pool) (kind : UseKind) (i i' : ℕ) → (may_be_none kind && nat_eq i 0) ≡ true → i' ≡ i → name_under new kind i' ≡ name_under old kind i
none_suits old new kinds.AttrName i i' p h = absurd cc
none_suits old new _ i i' p h = refl

module _ (im : Images) (old : Pool) (us : List Used) (k : KeepsForms im) (w : IsWellFormed old) (used : EachLink (LinkUsed us) old) (named : AllByRecursion (NamesText old) us) (accepted : IsAccepted im old us) where
  abbrev New : Pool
  New = new_pool im old us

  abbrev index_by : UseKind → ℕ → Bool → ℕ
  index_by kind i x = cond x i (reindexed (choice im old us) (referent_of kind) i)

  name_stays : (kind : UseKind) (i : ℕ) → fits (referent_of kind) (tag_at old i) ≡ true → IsUsed us (referent_of kind) i → name_under New kind (reindexed (choice im old us) (referent_of kind) i) ≡ name_under old kind i
  name_stays kinds.AttrName i h u = leads_to im old us w.linked used (referents.Text roles.AttrName forms.Any) i h u
  name_stays _ i h u = refl

  -- what a use of a body owes
  pub record Leading (kind : UseKind) (i i' : ℕ) : Type 0 where
    pub small : IsTwoBytes i'
    pub fits : misfit New kind i' ≡ None
    pub name : name_under New kind i' ≡ name_under old kind i
    pub value : value_of_kind New kind i' ≡ renamed_value im (value_of_kind old kind i)

  leading : (kind : UseKind) (i : ℕ) (x : Bool) → (may_be_none kind && nat_eq i 0) ≡ x → IsTwoBytes i → (x ≡ false → Fitting old (referent_of kind) i) → (x ≡ false → IsUsed us (referent_of kind) i) → Leading kind i (index_by kind i x)
  unfolding misfit
  leading kind i true p small f u = record { small = small; fits = rw p refl; name = none_suits old New kind i i p refl; value = rw p refl }
  leading kind i false p small f u =
      let t : Referent = referent_of kind in
      let i' : ℕ = reindexed (choice im old us) (referent_of kind) i in
      let fit : Fitting old (referent_of kind) i = f refl in
      let names : fits (referent_of kind) (tag_at old i) ≡ true = names_fitting old (referent_of kind) i fit.names in
      let new : Fitting New (referent_of kind) (reindexed (choice im old us) (referent_of kind) i) = moved im old us w.linked used k (referent_of kind) i fit (u refl) (kinds_kept kind).goes in
      let named' : fits (referent_of kind) (tag_at New (reindexed (choice im old us) (referent_of kind) i)) ≡ true = names_fitting New (referent_of kind) (reindexed (choice im old us) (referent_of kind) i) new.names in
      let p' : (may_be_none kind && nat_eq (reindexed (choice im old us) (referent_of kind) i) 0) ≡ false = and_right (may_be_none kind) _ (not_zero (referent_of kind) New (reindexed (choice im old us) (referent_of kind) i) named') in
      record {
        small = stays_small im old us k w used named accepted (referent_of kind) i small (referent_small im old us k w used named accepted (referent_of kind) i names (u refl));
        fits = rw p' (or_else-none (wrong_entry New (referent_of kind) i') (wrong_text New (referent_of kind) i') new.names new.leads);
        name = name_stays kind i names (u refl);
        value = rw (p', p) (old_value im old us k w used named accepted (referent_of kind) i names (u refl) (kinds_kept kind).other);
      }

  renames_one : (u : Use) → Fits old u → ((may_be_none u.kind && nat_eq u.index 0) ≡ false → IsUsed us (referent_of u.kind) u.index) → (from to : ℕ) → Renames im old New (change_by (choice im old us) from to) u
  renames_one u f is from to =
      let s : Says old u = says old u f in
      let l : Leading u.kind u.index (new_index (by_choice (choice im old us)) u)
      = subst (Leading u.kind u.index) (sym (new_index-is (choice im old us) u)) (leading u.kind u.index (may_be_none u.kind && nat_eq u.index 0) refl f.small s.fitting is) in
      record { suits = record { small = l.small; fits = l.fits; name = l.name }; leads = l.value }

  body_used : (t : Referent) (at i : ℕ) (more : List Used) → Within (uses_as t at i ++ more) us → IsUsed us t i
  body_used (referents.Text role form) at i more h = h.has role i (inl (refl, refl))
  body_used (referents.Class form) at i more h = tt
  body_used (referents.NameAndType form) at i more h = tt
  body_used (referents.Entry entries) at i more h = tt

  pub use_used : (u : Use) (more : List Used) (x : Bool) → (may_be_none u.kind && nat_eq u.index 0) ≡ x → Within (uses_of (cond x None (text_in_role (referent_of u.kind) u.at u.index)) ++ more) us → (may_be_none u.kind && nat_eq u.index 0) ≡ false → IsUsed us (referent_of u.kind) u.index
  use_used u more true p h q = absurd cc
  use_used u more false p h q = body_used (referent_of u.kind) u.at u.index more h

  pub renames_all : (body : List Use) → AllByRecursion (Fits old) body → Within (text_uses body) us → (from to : ℕ) → AllByRecursion (Renames im old New (change_by (choice im old us) from to)) body
  renames_all [] f h from to = tt
  renames_all (u ∷ body) f h from to = (
    renames_one u f.0 (use_used u (text_uses body) (may_be_none u.kind && nat_eq u.index 0) refl h) from to,
    renames_all body f.1 (record { has = λ role i v. h.has role i (has_right (uses_of (text_use u)) (text_uses body) role i v) }) from to,
  )

-- ---- the new pool of a class

module _ (at : ℕ) (old : Pool) (body : Tree Use) where
  abbrev Uses : List Used
  Uses = all_uses at old body

  pub uses_are : all_uses at old body ≡ pool_uses at old ++ text_uses (indices body)
  uses_are = ap (λ (us : List Used). pool_uses at old ++ us) (uses-indices body)

  pub pool_within : EachLink (LinkUsed (all_uses at old body)) old
  pool_within = pool_used (all_uses at old body) at old (record { has = λ role i h. has_left (pool_uses at old) (uses body) role i h })

  pub body_within : Within (text_uses (indices body)) (all_uses at old body)
  body_within = record { has = λ role i h. has_right (pool_uses at old) (uses body) role i (subst (λ (us : List Used). HasUse us role i) (sym (uses-indices body)) h) }

  pub all_named : EachLink (Links old) old → Each (Fits old) body → AllByRecursion (NamesText old) (all_uses at old body)
  all_named linked fits =
      subst (AllByRecursion (NamesText old)) (sym uses_are)
      (all_append (NamesText old) (pool_uses at old) (text_uses (indices body)) (named_in_pool old at old linked) (named_in_body old (indices body) (all_indices (Fits old) body fits)))

pub new_pools : NewPools
new_pools im at old body k w fits accepted =
    let us : List Used = all_uses at old body in
    let used : EachLink (LinkUsed (all_uses at old body)) old = pool_within at old body in
    let named : AllByRecursion (NamesText old) (all_uses at old body) = all_named at old body w.linked fits in
    record {
      pool = record {
        well_formed = well_formed_new im old us k w used named accepted;
        count = length-new im old us;
        appended = appended_is im old us;
        same_tags = same_tag im old us;
        same_values = values im old us w.linked used 3;
      };
      body = λ from to.
          each_index (Renames im old (new_pool im old us) (change_by (choice im old us) from to)) body
          (renames_all im old us k w used named accepted (indices body) (all_indices (Fits old) body fits) (body_within at old body) from to);
    }
