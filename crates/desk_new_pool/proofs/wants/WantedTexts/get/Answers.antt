use Rattle.std.proofs.Common.{◌≡◌, ◌<◌, List, length, ap, ◌∙◌, arith}
use denote.Ref.{Bor}
use Rattle.desk_base.specs.Names.{Text}
use Rattle.desk_base.specs.declared.kinds.Role.TheVariants.{Class}
use Rattle.desk_base.specs.declared.kinds.Used.{Used}
use Rattle.desk_new_pool.specs.Wants.{numbered}
use Rattle.desk_new_pool.proofs.Listed.{length-listed, listed_at}
use Rattle.desk_new_pool.proofs.wants.WantedTexts.get.Goals as goal

abbrev default : Used
default = record { at = 0; index = 0; role = Class }

pub offset_bounds-uses-place : goal.offset_bounds-uses-place
offset_bounds-uses-place c =
    let long : length c.args.self.now ≡ length c.self.inside.uses.now = length-listed c.self.inside.images.items c.self.inside.uses.now c.self.inside.numbers.items c.args.self.now c.self.invariant c.self.view_is in
    record { fits = omega (arith, c.requires, c.self.told) }

pub bounds-uses-place : goal.bounds-uses-place
bounds-uses-place c =
    let long : length c.args.self.now ≡ length c.self.inside.uses.now = length-listed c.self.inside.images.items c.self.inside.uses.now c.self.inside.numbers.items c.args.self.now c.self.invariant c.self.view_is in
    omega (arith, c.requires)

pub index-requires : goal.index-requires
index-requires c =
    let long : length c.args.self.now ≡ length c.self.inside.uses.now = length-listed c.self.inside.images.items c.self.inside.uses.now c.self.inside.numbers.items c.args.self.now c.self.invariant c.self.view_is in
    omega (arith, c.requires, c.self.invariant)

pub returns : goal.returns
returns c =
    let long : length c.args.self.now ≡ length c.self.inside.uses.now = length-listed c.self.inside.images.items c.self.inside.uses.now c.self.inside.numbers.items c.args.self.now c.self.invariant c.self.view_is in
    let lt : c.args.place < length c.self.inside.uses.now = omega (arith, c.requires) in
    listed_at c.self.inside.images.items c.self.inside.uses.now c.self.inside.numbers.items c.args.self.now c.args.place c.index.result.now default c.numbered-image.result c.self.invariant c.self.view_is lt c.index.ensures
    (c.numbered-image.ensures ∙ ap (λ (l : List (Bor Text)). numbered l c.index.result.now) c.as_slice.ensures.value)
