use Rattle.std.proofs.Common.{ap, arith}
use Rattle.std.specs.Ordering.{is_lt}
use Rattle.desk_packages.proofs.Searched.{at_place}
use Rattle.desk_packages.proofs.Ranges.{before_still, behind_still}
use Rattle.desk_packages.proofs.keyed.count_before.Goals as goal

pub loop-low-preserved-in-Less : goal.loop-low-preserved-in-Less
loop-low-preserved-in-Less g c =
    let at = at_place g.R.Keyed.key_of c.args.rules.now c.args.text.now _ _ _ _ c.index-rules-middle.is c.key.ensures c.in-Less.ensures in
    record {
      order = omega arith;
      within = c.loop-low.invariant.within;
      before = before_still g.R.Keyed.key_of c.args.rules.now c.requires c.args.text.now _ _ (omega arith) (ap is_lt at);
      behind = c.loop-low.invariant.behind;
    }

pub loop-low-preserved-in-Equal : goal.loop-low-preserved-in-Equal
loop-low-preserved-in-Equal g c =
    let at = at_place g.R.Keyed.key_of c.args.rules.now c.args.text.now _ _ _ _ c.index-rules-middle.is c.key.ensures c.in-Equal.ensures in
    record {
      order = omega arith;
      within = omega arith;
      before = c.loop-low.invariant.before;
      behind = behind_still g.R.Keyed.key_of c.args.rules.now c.requires c.args.text.now _ _ (omega arith) (ap is_lt at);
    }

pub loop-low-preserved : goal.loop-low-preserved
loop-low-preserved g c =
    let at = at_place g.R.Keyed.key_of c.args.rules.now c.args.text.now _ _ _ _ c.index-rules-middle.is c.key.ensures c.in-Greater.ensures in
    record {
      order = omega arith;
      within = omega arith;
      before = c.loop-low.invariant.before;
      behind = behind_still g.R.Keyed.key_of c.args.rules.now c.requires c.args.text.now _ _ (omega arith) (ap is_lt at);
    }
