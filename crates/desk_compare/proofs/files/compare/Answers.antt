use Rattle.std.proofs.Common.{subst, sym}
use Rattle.desk_compare.specs.Ahead.{AreFound}
use Rattle.desk_compare.proofs.Merge.{start, as_same, as_missing_last, as_extra_last, as_missing, as_extra, as_other, as_step, found_behind, are_short}
use Rattle.desk_compare.proofs.Verdicts.{verdict_only}
use Rattle.desk_compare.proofs.files.compare.Goals as goal

pub returns-in-None-split_first : goal.returns-in-None-split_first
returns-in-None-split_first g c =
    let x = as_same c.args.left.now c.args.right.now c.loop-a.one.now c.loop-a.other.now c.loop-a.invariant.ahead c.in_default.ensures.cases c.in-None-split_first.ensures.cases in
    record { same = x.same; differs = x.differs; exact = verdict_only c.args.left.now c.args.right.now _ x }

pub returns-in-None : goal.returns-in-None
returns-in-None g c =
    let x = as_missing_last c.args.left.now c.args.right.now c.loop-a.one.now c.loop-a.other.now c.loop-a.invariant.ahead c.differs.result c.in-Some.a.now c.in-Some.ones.now c.in-Some.ensures.cases.0 c.in-None.ensures.cases c.differs.ensures in
    record { same = x.same; differs = x.differs; exact = x.exact }

pub returns-in-Less : goal.returns-in-Less
returns-in-Less g c =
    let x = as_missing c.args.left.now c.args.right.now c.loop-a.one.now c.loop-a.other.now c.loop-a.invariant.ahead c.differs-in-Less.result c.in-Some.a.now c.in-Some-split_first.both.0.now c.in-Some.ones.now c.in-Some-split_first.both.1.now c.in-Some.ensures.cases.0 c.in-Some-split_first.ensures.cases.0 c.in-Less.ensures c.differs-in-Less.ensures in
    record { same = x.same; differs = x.differs; exact = x.exact }

pub returns-in-Greater : goal.returns-in-Greater
returns-in-Greater g c =
    let x = as_extra c.args.left.now c.args.right.now c.loop-a.one.now c.loop-a.other.now c.loop-a.invariant.ahead c.differs-in-Greater.result c.in-Some.a.now c.in-Some-split_first.both.0.now c.in-Some.ones.now c.in-Some-split_first.both.1.now c.in-Some.ensures.cases.0 c.in-Some-split_first.ensures.cases.0 c.in-Greater.ensures c.differs-in-Greater.ensures in
    record { same = x.same; differs = x.differs; exact = x.exact }

pub returns-in-Some-2 : goal.returns-in-Some-2
returns-in-Some-2 g c =
    let x = as_other c.args.left.now c.args.right.now c.loop-a.one.now c.loop-a.other.now c.loop-a.invariant.ahead c.differs-in-Some-2.result c.in-Some.a.now c.in-Some-split_first.both.0.now c.in-Some.ones.now c.in-Some-split_first.both.1.now c.in-Some.ensures.cases.0 c.in-Some-split_first.ensures.cases.0 c.in-Equal.ensures c.in_ok-what.field-0 c.in-Some-2.what c.in-Some-2.is c.in_ok-what.ensures.head c.differs-in-Some-2.ensures in
    record { same = x.same; differs = x.differs; exact = x.exact }

pub loop-a-preserved : goal.loop-a-preserved
loop-a-preserved g c = record {
  ahead = as_step c.args.left.now c.args.right.now c.loop-a.one.now c.loop-a.other.now c.loop-a.invariant.ahead c.in-Some.a.now c.in-Some-split_first.both.0.now c.in-Some.ones.now c.in-Some-split_first.both.1.now c.in-Some.ensures.cases.0 c.in-Some-split_first.ensures.cases.0 c.in-Equal.ensures c.in_ok-what.field-0 c.in_default-2.is c.in_ok-what.ensures.head;
  found = found_behind c.args.left.now c.args.right.now c.loop-a.one.now c.loop-a.other.now c.loop-a.invariant.ahead c.in-Some.a.now c.in-Some-split_first.both.0.now c.in-Some.ones.now c.in-Some-split_first.both.1.now c.in-Some.ensures.cases.0 c.in-Some-split_first.ensures.cases.0 _ c.in_ok-what.ensures.rest;
}

pub loop-a-init : goal.loop-a-init
loop-a-init g c = record {
  ahead = start c.args.left.now c.args.right.now c.requires.left_paths c.requires.left_sizes c.requires.right_paths c.requires.right_sizes;
  found = subst (AreFound c.args.left.now c.args.right.now) (sym c.new-ahead.ensures) tt;
}

pub next-requires-clause-left : goal.next-requires-clause-left
next-requires-clause-left g c = λ κs w. are_short c.loop-a.one.now c.loop-a.invariant.ahead.left_files

pub next-requires-clause-right : goal.next-requires-clause-right
next-requires-clause-right g c = λ κs w. are_short c.loop-a.other.now c.loop-a.invariant.ahead.right_files

pub returns-clause-same : goal.returns-clause-same
returns-clause-same g c =
    (as_extra_last c.args.left.now c.args.right.now c.loop-a.one.now c.loop-a.other.now c.loop-a.invariant.ahead c.differs-in-Some-split_first-2.result c.in-Some-split_first-2.b.now _ c.in_default.ensures.cases c.in-Some-split_first-2.ensures.cases.0 c.differs-in-Some-split_first-2.ensures).same

pub returns-clause-differs : goal.returns-clause-differs
returns-clause-differs g c =
    (as_extra_last c.args.left.now c.args.right.now c.loop-a.one.now c.loop-a.other.now c.loop-a.invariant.ahead c.differs-in-Some-split_first-2.result c.in-Some-split_first-2.b.now _ c.in_default.ensures.cases c.in-Some-split_first-2.ensures.cases.0 c.differs-in-Some-split_first-2.ensures).differs

pub returns-clause-exact : goal.returns-clause-exact
returns-clause-exact g c =
    (as_extra_last c.args.left.now c.args.right.now c.loop-a.one.now c.loop-a.other.now c.loop-a.invariant.ahead c.differs-in-Some-split_first-2.result c.in-Some-split_first-2.b.now _ c.in_default.ensures.cases c.in-Some-split_first-2.ensures.cases.0 c.differs-in-Some-split_first-2.ensures).exact
