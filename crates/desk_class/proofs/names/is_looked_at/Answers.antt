use Rattle.std.proofs.Common.{◌≡◌, ◌⊎◌, inl, inr, refl, sym, subst}
use Rattle.desk_base.specs.declared.kinds.Role.{Role}
use Rattle.desk_base.specs.declared.kinds.Role.TheVariants as roles
use Rattle.desk_class.specs.Held.{names_of}
use Rattle.desk_class.specs.Noted.{HoldsNone}
use Rattle.desk_class.proofs.names.is_looked_at.Goals as goal

nameless : (role : Role) → (role ≡ roles.Package) ⊎ ((role ≡ roles.Module) ⊎ ((role ≡ roles.Str) ⊎ ((role ≡ roles.Plain) ⊎ (role ≡ roles.AttrName)))) → HoldsNone role
unfolding names_of
nameless role (inl e) = subst HoldsNone (sym e) (λ text. refl)
nameless role (inr (inl e)) = subst HoldsNone (sym e) (λ text. refl)
nameless role (inr (inr (inl e))) = subst HoldsNone (sym e) (λ text. refl)
nameless role (inr (inr (inr (inl e)))) = subst HoldsNone (sym e) (λ text. refl)
nameless role (inr (inr (inr (inr e)))) = subst HoldsNone (sym e) (λ text. refl)

pub returns-in-Package-clause-again : goal.returns-in-Package-clause-again
returns-in-Package-clause-again c = λ none. inr (nameless c.args.used.now.role c.in-Package.is)
