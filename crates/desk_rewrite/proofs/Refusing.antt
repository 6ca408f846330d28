-- Why a class isn't rewritten: the first refusal that stands.
use Rattle.std.proofs.Common.{◌≡◌, Option, Some, None, option_map, refl, ap, ◌∙◌}
use Rattle.desk_base.specs.Misfits.{or_else}
use Rattle.desk_format.specs.Members.{Twins, first_twins, members}
use Rattle.desk_format.specs.Classes.{Class, class_uses}
use Rattle.desk_format.specs.NewClass.{Refusal, overlong_in, full_in, renamed_in, twins_refusal, twins_of, refusal}
use Rattle.desk_format.specs.NewPool.{wants}
use Rattle.desk_format.specs.Resolved.{Images}
use Rattle.desk_new_pool.specs.Refusals.{Refuses, pool_refusal}
use Rattle.desk_new_pool.specs.Twins.{places_of}
use Rattle.desk_new_pool.specs.declared.new_texts.NewPoolFault.{NewPoolFault}
use Rattle.desk_new_pool.specs.declared.new_texts.NewPoolFault.TheVariants as pool_faults
use Rattle.desk_new_pool.specs.declared.twins.TwinPlaces.{TwinPlaces}
use Rattle.desk_rewrite.specs.Refused.{fault_of}
use Rattle.desk_rewrite.specs.Refused.{Refuses as Stands}

-- ---- of three, the first two

first_two : {A : Type 0} (a b t : Option A) (r : A) → or_else a b ≡ Some r → or_else a (or_else b t) ≡ Some r
first_two None None t r h = absurd cc
first_two None (Some x) t r h = h
first_two (Some x) b t r h = h

third : {A : Type 0} (a b t : Option A) → or_else a b ≡ None → or_else a (or_else b t) ≡ t
third None None t h = refl
third None (Some x) t h = absurd cc
third (Some x) b t h = absurd cc

-- ---- refusals of the texts

fault_stands : (fault : NewPoolFault) (a b t : Option Refusal) → Refuses fault (or_else a b) → Stands (fault_of fault) (or_else a (or_else b t))
fault_stands (pool_faults.Overlong index length) a b t h = first_two a b t (Refusal.overlong index length) h
fault_stands (pool_faults.PoolFull count needed) a b t h = first_two a b t (Refusal.pool_full count needed) h
fault_stands pool_faults.Memory a b t h = tt

pub split_stands : (im : Images) (c : Class) (fault : NewPoolFault) → Refuses fault (pool_refusal c.pool (wants im c.pool (class_uses c))) → Stands (fault_of fault) (refusal im c)
split_stands im c fault h = fault_stands fault (overlong_in im c) (full_in im c) (twins_of im c) h

-- ---- twins

twins_some : (o : Option Twins) (p : TwinPlaces) → Some p ≡ option_map places_of o → twins_refusal o ≡ Some (Refusal.twins p.first p.second)
twins_some None p h = absurd cc
twins_some (Some t) p h = let same : places_of t ≡ p = cc in ap (λ (q : TwinPlaces). Some (Refusal.twins q.first q.second)) same

twins_none : (o : Option Twins) → None ≡ option_map places_of o → twins_refusal o ≡ None
twins_none None h = refl
twins_none (Some t) h = absurd cc

pub twins_stand : (im : Images) (c : Class) (p : TwinPlaces) → pool_refusal c.pool (wants im c.pool (class_uses c)) ≡ None → Some p ≡ option_map places_of (first_twins (renamed_in im c.pool) (members c.body)) → refusal im c ≡ Some (Refusal.twins p.first p.second)
twins_stand im c p none h = third (overlong_in im c) (full_in im c) (twins_of im c) none ∙ twins_some (first_twins (renamed_in im c.pool) (members c.body)) p h

pub none_stands : (im : Images) (c : Class) → pool_refusal c.pool (wants im c.pool (class_uses c)) ≡ None → None ≡ option_map places_of (first_twins (renamed_in im c.pool) (members c.body)) → refusal im c ≡ None
none_stands im c none h = third (overlong_in im c) (full_in im c) (twins_of im c) none ∙ twins_none (first_twins (renamed_in im c.pool) (members c.body)) h

pub none_or : {A : Type 0} (o : Option A) → ((x : A) → o ≡ Some x → ⊥) → o ≡ None
none_or None h = refl
none_or (Some x) h = absurd (h x refl)
