-- What becomes of a header, told in other words.
use Rattle.std.proofs.Common.{◌≡◌, Bool, Option, subst}
use Rattle.desk_base.specs.Names.{Text}
use Rattle.desk_rules.specs.Rules.{Rules}
use Rattle.desk_lines.specs.declared.lines.LineEnd.{LineEnd}
use Rattle.desk_manifest.specs.Reading.{IsHeaderImage}

pub told_by : (rules : Rules) (main : Bool) (v w : Option Text) (n m a b : Text) (fold end last : LineEnd) (answer : Option Text) → v ≡ w → n ≡ m → a ≡ b → fold ≡ end → IsHeaderImage rules v main n a fold last answer → IsHeaderImage rules w main m b end last answer
told_by rules main v w n m a b fold end last answer p q r s h =
    subst (λ (e : LineEnd). IsHeaderImage rules w main m b e last answer) s
    (subst (λ (t : Text). IsHeaderImage rules w main m t fold last answer) r
    (subst (λ (t : Text). IsHeaderImage rules w main t a fold last answer) q
    (subst (λ (o : Option Text). IsHeaderImage rules o main n a fold last answer) p h)))
