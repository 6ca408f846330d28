-- Faults, and values, of one result that follows another.
use Rattle.std.proofs.Common.{◌≡◌, Result, Ok, IfOk, sym, ap, subst, ◌∙◌}
use Rattle.std.specs.Prelude.{IfErr}
use Rattle.desk_rules.specs.Builds.{IsFaultOf}
use Rattle.desk_rules.specs.RuleFiles.{◌>>=◌}
use Rattle.desk_rules.specs.declared.RuleFault.{RuleFault}
use Rattle.desk_rules.specs.declared.BuildFault.{BuildFault}
use Rattle.desk_rules.specs.declared.BuildFault.TheVariants.{Rules, Memory}

pub fault_first : {A B : Type 0} (r : Result A RuleFault) (f : A → Result B RuleFault) (e : BuildFault) → IsFaultOf r e → IsFaultOf (r >>= f) e
fault_first {A = A} r f (Rules fault) h = ap (λ (x : Result A RuleFault). x >>= f) h
fault_first r f Memory h = tt

pub fault_next : {A B : Type 0} (r : Result A RuleFault) (a : A) (f : A → Result B RuleFault) (e : BuildFault) → r ≡ Ok a → IsFaultOf (f a) e → IsFaultOf (r >>= f) e
fault_next {A = A} r a f (Rules fault) is h = ap (λ (x : Result A RuleFault). x >>= f) is ∙ h
fault_next r a f Memory is h = tt

pub ok_next : {A B : Type 0} (r : Result A RuleFault) (a : A) (f : A → Result B RuleFault) → r ≡ Ok a → (r >>= f) ≡ f a
ok_next {A = A} r a f is = ap (λ (x : Result A RuleFault). x >>= f) is

-- what is said of a result is said of one that equals it
pub read_whole : {A B : Type 0} (whole part : Result A RuleFault) (value : B → A) (res : Result B BuildFault) → whole ≡ part → IfOk res (λ b. part ≡ Ok (value b)) → IfOk res (λ b. whole ≡ Ok (value b))
read_whole {A = A} whole part value res is h = subst (λ (r : Result A RuleFault). IfOk res (λ b. r ≡ Ok (value b))) (sym is) h

pub refused_whole : {A B : Type 0} (whole part : Result A RuleFault) (res : Result B BuildFault) → whole ≡ part → IfErr res (IsFaultOf part) → IfErr res (IsFaultOf whole)
refused_whole {A = A} whole part res is h = subst (λ (r : Result A RuleFault). IfErr res (IsFaultOf r)) (sym is) h
