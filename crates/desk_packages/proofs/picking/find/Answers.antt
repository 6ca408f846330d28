use Rattle.std.proofs.Common.{sym, ◌∙◌, arith}
use Rattle.desk_packages.specs.Renames.{key_of}
use Rattle.desk_packages.specs.Keys.{byte_of, goes_below, wanted}
use Rattle.desk_packages.proofs.Searched.{lower_still, higher_still, at_place}
use Rattle.desk_packages.proofs.Sources.{source_found, source_of_other, source_ruled_out}
use Rattle.desk_packages.proofs.picking.find.Goals as goal

pub loop-low-preserved-in-Less : goal.loop-low-preserved-in-Less
loop-low-preserved-in-Less c =
    let key = wanted (byte_of c.args.separator) c.args.path.now (goes_below c.args.reach) in
    let at = at_place key_of c.args.renames.now key _ _ _ _ c.index-renames-middle.is c.key.ensures (rw c.byte.ensures at c.in-Less.ensures) in
    record {
      order = omega arith;
      within = c.loop-low.invariant.within;
      lower = lower_still key_of c.args.renames.now c.requires.rising key _ _ (omega arith) at;
      higher = c.loop-low.invariant.higher;
    }

pub loop-low-preserved : goal.loop-low-preserved
loop-low-preserved c =
    let key = wanted (byte_of c.args.separator) c.args.path.now (goes_below c.args.reach) in
    let at = at_place key_of c.args.renames.now key _ _ _ _ c.index-renames-middle.is c.key.ensures (rw c.byte.ensures at c.in-Greater.ensures) in
    record {
      order = omega arith;
      within = omega arith;
      lower = c.loop-low.invariant.lower;
      higher = higher_still key_of c.args.renames.now c.requires.rising key _ _ at;
    }

pub returns-in-Equal : goal.returns-in-Equal
returns-in-Equal c =
    let key = wanted (byte_of c.args.separator) c.args.path.now (goes_below c.args.reach) in
    let at = at_place key_of c.args.renames.now key _ _ _ _ c.index-renames-middle.is c.key.ensures (rw c.byte.ensures at c.in-Equal.ensures) in
    source_found c.args.renames.now c.requires c.args.separator c.args.path.now (goes_below c.args.reach) _ c.index-renames-middle.result (omega arith) c.index-renames-middle.is
    (rw (← c.index-renames-middle.is) at at) (sym c.has.ensures ∙ c.if-has.true)

pub returns-in-Equal-2 : goal.returns-in-Equal-2
returns-in-Equal-2 c =
    let key = wanted (byte_of c.args.separator) c.args.path.now (goes_below c.args.reach) in
    let at = at_place key_of c.args.renames.now key _ _ _ _ c.index-renames-middle.is c.key.ensures (rw c.byte.ensures at c.in-Equal-2.ensures) in
    source_of_other c.args.renames.now c.requires c.args.separator c.args.path.now (goes_below c.args.reach) _ c.index-renames-middle.result (omega arith) c.index-renames-middle.is
    (rw (← c.index-renames-middle.is) at at) (sym c.has.ensures ∙ c.if-has.false)

pub returns : goal.returns
returns c = source_ruled_out c.args.renames.now c.requires c.args.separator c.args.path.now (goes_below c.args.reach) _ _ c.loop-low.invariant (omega arith)
