use Rattle.std.proofs.Common.{◌≡◌, ◌==◌, ◌∙◌, ◌∷◌, [], sym, subst, refl, drop}
use Rattle.std.specs.List.{starts_with}
use Rattle.std.proofs.lemmas.Bool.{both_ways}
use Rattle.std.proofs.lemmas.Bool.Decides.{Decides-eqb}
use Rattle.std.proofs.lemmas.Slice.Eq.{starts_is}
use Rattle.desk_base.specs.Names.{Text}
use Rattle.desk_base.specs.Descriptors.{DescriptorKind, is_descriptor}
use Rattle.desk_rename.specs.Images.{is_any_descriptor}
use Rattle.desk_rename.proofs.AnyDescriptor.{any_method, any_return, no_method, read_by}
use Rattle.desk_rename.proofs.descriptors.read_any_descriptor.Goals as goal

pub returns-then-starts_with : goal.returns-then-starts_with
returns-then-starts_with c =
    let begins : c.args.text.now ≡ 40 ∷ drop 1 c.args.text.now =
    (starts_is Decides-eqb c.args.text.now (40 ∷ []) (starts_with ◌==◌ c.args.text.now (40 ∷ [])) refl).0 (sym c.starts_with.ensures.value ∙ c.if-starts_with.true) in
    let P : Text → Type 0 = λ t. is_any_descriptor t ≡ is_descriptor DescriptorKind.method t in
    read_by c.args.text.now DescriptorKind.method c.read_descriptor.result (subst P (sym begins) (any_method (drop 1 c.args.text.now)))
    c.read_descriptor.ensures.read c.read_descriptor.ensures.parts c.read_descriptor.ensures.joined c.read_descriptor.ensures.cut

pub returns-else-starts_with : goal.returns-else-starts_with
returns-else-starts_with c =
    let r = c.read_descriptor-else-starts_with.ensures in
    read_by c.args.text.now DescriptorKind.return c.read_descriptor-else-starts_with.result
    (any_return c.args.text.now (no_method c.args.text.now (λ rest e.
    both_ways (starts_with ◌==◌ c.args.text.now (40 ∷ [])) (sym c.starts_with.ensures.value ∙ c.if-starts_with.false)
    ((starts_is Decides-eqb c.args.text.now (40 ∷ []) (starts_with ◌==◌ c.args.text.now (40 ∷ [])) refl).1 rest e))))
    r.read r.parts r.joined r.cut
