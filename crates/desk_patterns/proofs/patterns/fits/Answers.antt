use Rattle.std.proofs.Common.{sym, ap, ◌∙◌, ◌==◌, drop, arith}
use Rattle.std.proofs.lemmas.List.{take_all, length-drop}
use Rattle.std.specs.List.{list_all}
use Rattle.desk_patterns.proofs.Trying.{try_none, try_end}
use Rattle.desk_patterns.proofs.patterns.fits.Goals as goal

pub loop-at-init : goal.loop-at-init
loop-at-init c = try_none c.args.pattern.now c.args.path.now

pub returns : goal.returns
returns c = c.is_stars.ensures ∙ ap (list_all (λ b. b == 42)) (take_all _ (drop c.loop-at.at.pattern c.args.pattern.now) (omega (arith, length-drop c.loop-at.at.pattern c.args.pattern.now))) ∙ sym (try_end c.args.pattern.now c.args.path.now c.loop-at.at c.loop-at.invariant c.loop-at-test.false)
