-- The uses of a text that a class has, and what the choice leads them to.
use Rattle.std.proofs.Common.{◌≡◌, ℕ, zero, suc, ◌+◌, ◌≤◌, ◌⊎◌, List, [], ◌∷◌, ◌++◌, length, Some, None, refl, ap, subst, ◌∙◌, inl, inr, arith}
use Rattle.std.specs.List.{AllByRecursion}
use Rattle.desk_base.specs.declared.kinds.Role.{Role}
use Rattle.desk_base.specs.declared.kinds.Used.{Used}
use Rattle.desk_base.specs.Entries.{Entry, utf8}
use Rattle.desk_format.specs.PoolBytes.{size}
use Rattle.desk_base.specs.Entries.{Pool, entry_at, text_at}
use Rattle.desk_base.specs.declared.referents.Referent.{Referent}
use Rattle.desk_base.specs.declared.referents.Referent.TheVariants as referents
use Rattle.desk_base.specs.Referents.{Link, links}
use Rattle.desk_format.specs.PoolBytes.{uses_among, pool_uses}
use Rattle.desk_laws.proofs.Indices.{uses_as}
use Rattle.desk_laws.specs.Sound.{EachLink}
use Rattle.desk_format.specs.Resolved.{Images, image}
use Rattle.desk_format.specs.NewPool.{want_in_role, wants, new_texts, choice, new_pool, added}
use Rattle.desk_laws.proofs.Split.{IsWant, Leads, chosen_leads}
use Rattle.desk_laws.proofs.Slots.{in_range, text_stays, text_kept, length-texts}

-- a use of an index in a role, wherever it stands
abbrev pub HasUse : List Used → Role → ℕ → Type 0
HasUse [] role i = ⊥
HasUse (u ∷ us) role i = ((u.role ≡ role) × (u.index ≡ i)) ⊎ HasUse us role i

pub has_left : (us vs : List Used) (role : Role) (i : ℕ) → HasUse us role i → HasUse (us ++ vs) role i
has_left [] vs role i h = absurd h
has_left (u ∷ us) vs role i (inl e) = inl e
has_left (u ∷ us) vs role i (inr h) = inr (has_left us vs role i h)

pub has_right : (us vs : List Used) (role : Role) (i : ℕ) → HasUse vs role i → HasUse (us ++ vs) role i
has_right [] vs role i h = h
has_right (u ∷ us) vs role i h = inr (has_right us vs role i h)

-- A link to a text is among the uses.
abbrev pub IsUsed : List Used → Referent → ℕ → Type 0
IsUsed us (referents.Text role form) i = HasUse us role i
IsUsed us _ i = Unit {0}

abbrev pub LinkUsed : List Used → Link → Type 0
LinkUsed us l = IsUsed us l.referent l.index

-- whatever is in the one list is in the other
pub record Within (us vs : List Used) : Type 0 where
  pub has : (role : Role) (i : ℕ) → HasUse us role i → HasUse vs role i

used_as : (vs : List Used) (t : Referent) (at i : ℕ) (us : List Used) → Within (uses_as t at i ++ us) vs → IsUsed vs t i
used_as vs (referents.Text role form) at i us w = w.has role i (inl (refl, refl))
used_as vs (referents.Class form) at i us w = tt
used_as vs (referents.NameAndType form) at i us w = tt
used_as vs (referents.Entry entries) at i us w = tt

within_right : (us us' vs : List Used) → Within (us ++ us') vs → Within us' vs
within_right us us' vs w = record { has = λ role i h. w.has role i (has_right us us' role i h) }

within_left : (us us' vs : List Used) → Within (us ++ us') vs → Within us vs
within_left us us' vs w = record { has = λ role i h. w.has role i (has_left us us' role i h) }

used_among : (vs : List Used) (at : ℕ) (ls : List Link) → Within (uses_among at ls) vs → AllByRecursion (LinkUsed vs) ls
used_among vs at [] w = tt
used_among vs at (l ∷ ls) w = (used_as vs l.referent (at + l.behind) l.index (uses_among at ls) w, used_among vs at ls (within_right (uses_as l.referent (at + l.behind) l.index) (uses_among at ls) vs w))

pub pool_used : (vs : List Used) (at : ℕ) (pool : Pool) → Within (pool_uses at pool) vs → EachLink (LinkUsed vs) pool
pool_used vs at [] w = tt
pool_used vs at (None ∷ slots) w = pool_used vs at slots w
pool_used vs at (Some e ∷ slots) w =
    (used_among vs at (links e) (within_left (uses_among at (links e)) (pool_uses (at + size e) slots) vs w), pool_used vs (at + size e) slots (within_right (uses_among at (links e)) (pool_uses (at + size e) slots) vs w))

-- the indices of the entry at an index
pub each_at : (P : Link → Type 0) (pool : Pool) (i : ℕ) (e : Entry) → EachLink P pool → entry_at pool i ≡ Some e → AllByRecursion P (links e)
each_at P pool zero e h is = absurd cc
each_at P [] (suc j) e h is = absurd cc
each_at P (None ∷ slots) (suc zero) e h is = absurd cc
each_at P (Some f ∷ slots) (suc zero) e h is = let same : f ≡ e = cc in subst (λ (x : Entry). AllByRecursion P (links x)) same h.0
each_at P (None ∷ slots) (suc (suc j)) e h is = each_at P slots (suc j) e h is
each_at P (Some f ∷ slots) (suc (suc j)) e h is = each_at P slots (suc j) e h.1 is

pub is_want : (im : Images) (pool : Pool) (us : List Used) (role : Role) (i : ℕ) → HasUse us role i → IsWant (wants im pool us) (want_in_role im pool role i)
is_want im pool [] role i h = absurd h
is_want im pool (u ∷ us) role i (inl e) = inl (ap (λ (r : Role). want_in_role im pool r u.index) e.0 ∙ ap (λ (k : ℕ). want_in_role im pool role k) e.1)
is_want im pool (u ∷ us) role i (inr h) = inr (is_want im pool us role i h)

module _ (im : Images) (old : Pool) (us : List Used) where
  -- The choice for a text leads to its image.
  pub record Led (role : Role) (i : ℕ) : Type 0 where
    pub names : entry_at (new_pool im old us) (choice im old us role i) ≡ Some (utf8 (image im role (text_at old i)))
    pub within : choice im old us role i ≤ length old + length (added im old us)

  pub led : (role : Role) (i : ℕ) (t : List ℕ) → HasUse us role i → entry_at old i ≡ Some (utf8 t) → Led role i
  led role i t h is =
      let own = text_kept im old us i t is in
      let low : i ≤ length (new_texts im old us) = omega (arith, in_range old i (utf8 t) is, length-texts im old us) in
      let l : Leads (new_texts im old us) (choice im old us role i) (image im role (text_at old i)) = chosen_leads (wants im old us) old (want_in_role im old role i) own.0 (is_want im old us role i h) own.1 low in
      record {
        names = text_stays im old us (choice im old us role i) (image im role (text_at old i)) l.names;
        within = omega (arith, l.within, length-texts im old us);
      }
