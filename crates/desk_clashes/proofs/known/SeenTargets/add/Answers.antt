use mathlib.Core.Bool.{not-not, true≢false}
use Rattle.std.proofs.Common.{not, sym, ap, ◌∙◌}
use Rattle.desk_clashes.proofs.Seen.{folders_held, seen_more}
use Rattle.desk_clashes.proofs.known.SeenTargets.add.Goals as goal
use Rattle.desk_clashes.proofs.known.SeenTargets.add.Goals.{then-self, else-self}

pub returns-clause-seen : goal.returns-clause-seen
returns-clause-seen c = λ seen known.
    let old = c.args.self.now in
    seen_more old.names old.folders c.put.new.set c.put_folders.new.set old.apart c.if-self.self c.args.target.now seen known c.in_ok-put.ensures.added
    (c.in_ok-put_folders.ensures (folders_held old.names old.folders old.apart seen known))
    (λ still.
    elim c.if-self.branch [
      | then-self w ↦ (w.if-self.true, sym (c.meets-meets.ensures seen known) ∙ sym (not-not c.meets-meets.result) ∙ ap not (sym w.self-is ∙ still))
      | else-self w ↦ absurd (true≢false (sym still ∙ w.self-is ∙ w.if-self.false))
    ])
