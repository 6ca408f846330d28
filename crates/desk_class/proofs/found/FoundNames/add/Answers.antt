use Rattle.std.proofs.Common.{◌≡◌, ◌∙◌, sym, ap, List, ℕ, ◌∷◌, [], arith}
use denote.Ref.{Bor}
use Rattle.desk_base.specs.Names.{Text}
use Rattle.desk_class.specs.Found.{texts}
use Rattle.desk_class.specs.Held.{found_all}
use Rattle.desk_class.proofs.Once.{found_at}
use Rattle.desk_class.proofs.Packing.{length_map}
use Rattle.desk_class.proofs.found.FoundNames.add.Goals as goal

pub returns-then-stands_at-clause-ok : goal.returns-then-stands_at-clause-ok
returns-then-stands_at-clause-ok c =
    let names : List Text = texts c.as_slice.result.now in
    let at = c.stands_at.ensures.0 c.if-stands_at.true in
    let same : names ≡ c.args.self.now = ap texts c.as_slice.ensures.value ∙ c.self.view_is in
    let stays : found_all names (c.args.name.now ∷ []) ≡ names = found_at names c.args.name.now _ (omega (arith, at.0, length_map (λ (n : Bor (List ℕ)). n.now) c.as_slice.result.now)) at.1 in
    sym same ∙ sym stays ∙ ap (λ (ns : List Text). found_all ns (c.args.name.now ∷ [])) same
