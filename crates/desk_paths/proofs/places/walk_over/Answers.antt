use Rattle.std.proofs.Common.{◌+◌, sym, subst, refl}
use Rattle.desk_paths.specs.declared.places.Walk.{Walk}
use Rattle.desk_paths.proofs.Walked.{IsWalked, walked_on, walked_more, walked_all}
use Rattle.desk_paths.proofs.places.walk_over.Goals as goal
use Rattle.desk_paths.proofs.places.walk_over.Goals.{then-byte-eq47, else-byte-eq47}

pub loop-i-preserved : goal.loop-i-preserved
loop-i-preserved c =
    let P : Walk → Type 0 = λ w. IsWalked c.args.path.now w (c.loop-i.i + 1) in
    elim c.if-byte-eq47.branch [
      | then-byte-eq47 w ↦
          subst P (sym w.walk-is)
          (walked_more c.args.path.now c.loop-i.walk w.behind-walk.result c.loop-i.i _ c.loop-i.invariant c.loop-i-test.true w.if-byte-eq47.true refl w.behind-walk.ensures)
      | else-byte-eq47 w ↦
          subst P (sym w.walk-is) (walked_on c.args.path.now c.loop-i.walk c.loop-i.i c.loop-i.invariant c.loop-i-test.true w.if-byte-eq47.false)
    ]

pub returns : goal.returns
returns c = walked_all c.args.path.now c.loop-i.walk c.loop-i.i c.loop-i.invariant c.loop-i-test.false
