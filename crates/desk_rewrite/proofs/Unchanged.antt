-- A class whose used texts are their own images stays as it is.
use Rattle.std.proofs.Common.{◌≡◌, ℕ, suc, ◌+◌, List, [], ◌∷◌, ◌++◌, length, take, drop, None, refl, ap, ap₂, sym, ◌∙◌, subst, false, arith, inl, inr}
use Rattle.std.specs.List.{AllByRecursion}
use Rattle.desk_base.specs.Names.{Text}
use Rattle.desk_base.specs.declared.kinds.Role.TheVariants as roles
use Rattle.desk_base.specs.declared.kinds.Used.{Used}
use Rattle.desk_base.specs.Entries.{utf8, Pool, text_in, text_at}
use Rattle.desk_base.specs.Misfits.{or_else}
use Rattle.desk_base.specs.Utf8.{bad_form}
use Rattle.desk_format.specs.declared.members.Member.{Member}
use Rattle.desk_format.specs.Classes.{Class, class_uses, entries_at}
use Rattle.desk_format.specs.Exchange.{patch}
use Rattle.desk_format.specs.Members.{first_twins, named_in, members}
use Rattle.desk_format.specs.NewClass.{new_bytes, pool_of, change_of, renamed_in, twins_refusal, refusal, overlong_in, full_in, twins_of}
use Rattle.desk_format.specs.NewPool.{want_in_role, wants, choice, added}
use Rattle.desk_format.specs.PoolBytes.{print_pool, pool_uses}
use Rattle.desk_format.specs.Resolved.{Images}
use Rattle.desk_format.specs.Split.{Want}
use Rattle.desk_format.specs.Trees.{uses}
use Rattle.desk_laws.specs.Sound.{IsTwoBytes, IsShaped}
use Rattle.desk_laws.proofs.Bodies.{sound_at, pool_within}
use Rattle.desk_laws.proofs.Linked.{HasUse, Within, has_right, is_want}
use Rattle.desk_laws.proofs.Pairs.{Alike, no_twins}
use Rattle.desk_laws.proofs.Passes.{or_else-none}
use Rattle.desk_laws.proofs.Refused.{none_overlong, not_full}
use Rattle.desk_laws.proofs.Stable.{Own, added_none, choice_stays, pool_same, own_at}
use Rattle.desk_rewrite.proofs.Parts.{IsFound, front_is, body_is, body_stands, patch_same}
use Rattle.desk_rewrite.proofs.Described.{Described, class_described}

short_own : (pool : Pool) → IsShaped false pool → (ws : List Want) → AllByRecursion (Own pool) ws → AllByRecursion (λ (w : Want). IsTwoBytes (length w.text)) ws
short_own pool s [] h = tt
short_own pool s (w ∷ ws) h =
    let sound : IsTwoBytes (length w.text) × (bad_form w.text ≡ None) = sound_at false pool w.index (utf8 w.text) s h.0.names in
    (sound.0, short_own pool s ws (h.1))

module _ (im : Images) (bytes : List ℕ) (c : Class) (f : IsFound bytes c) (own : AllByRecursion (Own c.pool) (wants im c.pool (class_uses c))) where
  pub no_added : added im c.pool (class_uses c) ≡ []
  no_added = added_none im c.pool (class_uses c) own

  stays_among : (us : List Used) → Within us (class_uses c) → AllByRecursion (λ (u : Used). choice im c.pool (class_uses c) u.role u.index ≡ u.index) us
  stays_among [] w = tt
  stays_among (u ∷ us) w = (
    choice_stays im c.pool (class_uses c) own u.role u.index (w.has u.role u.index (inl (refl, refl))),
    stays_among us (record { has = λ role i h. w.has role i (inr h) }),
  )

  same_body : patch (change_of im c).index c.body_at (uses c.body) (drop c.body_at bytes) ≡ drop c.body_at bytes
  same_body = patch_same (change_of im c).index c.body_at (drop c.body_at bytes) (uses c.body) (body_stands bytes c f.printed)
      (stays_among (uses c.body) (record { has = λ role i h. has_right (pool_uses entries_at c.pool) (uses c.body) role i h }))

  same_pool : pool_of im c ≡ c.pool
  same_pool = pool_same im c.pool (class_uses c) own (pool_within entries_at c.pool c.body)

  pub same_bytes : new_bytes im bytes c ≡ bytes
  same_bytes =
      ap₂ (λ (x : Pool) (y : List ℕ). (take 8 bytes ++ print_pool x) ++ y) same_pool same_body
      ∙ ap₂ (λ (x y : List ℕ). (x ++ print_pool c.pool) ++ y) (front_is bytes c f.printed) (body_is bytes c f.printed)
      ∙ sym f.printed.prints

  -- ---- no refusal stands

  same_descriptor : (i : ℕ) → HasUse (class_uses c) roles.Descriptor i → im.desc (text_at c.pool i) ≡ text_at c.pool i
  same_descriptor i h =
      let o : Own c.pool (want_in_role im c.pool roles.Descriptor i) = own_at c.pool (wants im c.pool (class_uses c)) (want_in_role im c.pool roles.Descriptor i) own (is_want im c.pool (class_uses c) roles.Descriptor i h) in
      sym (ap text_in o.names)

  same_members : (ms : List Member) → AllByRecursion (Described (class_uses c)) ms → Alike (named_in c.pool) (renamed_in im c.pool) ms ms
  same_members [] h = tt
  same_members (m ∷ ms) h = (
    record { method = refl; texts = ap (λ (t : Text). record { name = text_at c.pool m.name; descriptor = t }) (same_descriptor m.descriptor (h.0)) },
    same_members ms (h.1),
  )

  pub not_refused : refusal im c ≡ None
  not_refused =
      let long : overlong_in im c ≡ None = none_overlong (wants im c.pool (class_uses c)) 1 c.pool (short_own c.pool f.printed.pool.shaped (wants im c.pool (class_uses c)) own) in
      let few : IsTwoBytes (suc (length c.pool) + length (added im c.pool (class_uses c))) = subst (λ (ts : List Text). IsTwoBytes (suc (length c.pool) + length ts)) (sym no_added) (let k : IsTwoBytes (suc (length c.pool)) = f.few in omega arith) in
      let full : full_in im c ≡ None = not_full (suc (length c.pool)) (length (added im c.pool (class_uses c))) few in
      let pairs : first_twins (renamed_in im c.pool) (members c.body) ≡ None = no_twins (named_in c.pool) (renamed_in im c.pool) (members c.body) (members c.body) (same_members (members c.body) (class_described c)) f.no_twins in
      or_else-none (overlong_in im c) (or_else (full_in im c) (twins_of im c)) long (or_else-none (full_in im c) (twins_of im c) full (ap twins_refusal pairs))
