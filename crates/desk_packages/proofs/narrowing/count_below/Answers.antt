use Rattle.std.proofs.Common.{true, false, [], ◌∷◌, ◌++◌, sym, ◌∙◌, arith}
use Rattle.desk_packages.specs.Renames.{key_of}
use Rattle.desk_packages.proofs.Ranges.{before_still, behind_still}
use Rattle.desk_packages.proofs.Narrowed.{stands_below}
use Rattle.desk_packages.proofs.narrowing.count_below.Goals as goal

pub loop-low-preserved-then-is_below : goal.loop-low-preserved-then-is_below
loop-low-preserved-then-is_below c = record {
  order = omega arith;
  within = c.loop-low.invariant.within;
  cut = λ start here all.
      let known = c.loop-low.invariant.cut start here all in
      record {
        order = omega arith;
        within = known.within;
        before = before_still key_of c.args.renames.now c.requires (start ++ c.args.limit ∷ []) _ _ (omega arith)
            (stands_below key_of c.args.renames.now start c.args.limit _ _ _ c.args.place c.index-renames-middle.is c.key.ensures (omega arith) here all true (sym c.if-is_below.true ∙ c.is_below.ensures));
        behind = known.behind;
      };
}

pub loop-low-preserved : goal.loop-low-preserved
loop-low-preserved c = record {
  order = omega arith;
  within = omega arith;
  cut = λ start here all.
      let known = c.loop-low.invariant.cut start here all in
      record {
        order = omega arith;
        within = omega arith;
        before = known.before;
        behind = behind_still key_of c.args.renames.now c.requires (start ++ c.args.limit ∷ []) _ _ (omega arith)
            (stands_below key_of c.args.renames.now start c.args.limit _ _ _ c.args.place c.index-renames-middle.is c.key.ensures (omega arith) here all false (sym c.if-is_below.false ∙ c.is_below.ensures));
      };
}
