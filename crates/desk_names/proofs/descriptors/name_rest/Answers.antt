use Rattle.std.proofs.Common.{◌+◌, Bool, drop, sym, ap, ◌∙◌, arith}
use Rattle.desk_base.specs.Descriptors.{Awaited, run}
use Rattle.desk_names.proofs.NameRests.{plain_passed, slash_passed}
use Rattle.desk_names.proofs.descriptors.name_rest.Goals as goal
use Rattle.desk_names.proofs.descriptors.name_rest.Goals.{then-not-is_reserved, else-not-is_reserved+then-inside+then-byte-eq47}

pub loop-at-preserved : goal.loop-at-preserved
loop-at-preserved c = (
  omega arith,
  omega arith,
  λ place. elim c.if-not-is_reserved.branch [
    | then-not-is_reserved w ↦
        ap (λ (i : Bool). run (Awaited.name_rest place i) (drop (c.loop-at.at + 1) c.args.text.now)) w.inside-is
        ∙ plain_passed place c.loop-at.inside c.args.text.now c.loop-at.at c.loop-at-test.true (sym c.is_reserved.ensures ∙ w.if-not-is_reserved.true)
        ∙ c.loop-at.invariant.2 place
    | else-not-is_reserved+then-inside+then-byte-eq47 w ↦
        ap (λ (i : Bool). run (Awaited.name_rest place i) (drop (c.loop-at.at + 1) c.args.text.now)) w.inside-is
        ∙ slash_passed place c.args.text.now c.loop-at.at c.loop-at-test.true w.if-byte-eq47.true
        ∙ ap (λ (i : Bool). run (Awaited.name_rest place i) (drop c.loop-at.at c.args.text.now)) (sym w.if-inside.true)
        ∙ c.loop-at.invariant.2 place
  ],
)
