use Rattle.std.proofs.Common.{ap, ◌∙◌}
use Rattle.desk_rewrite.specs.Counts.{is_odd}
use Rattle.desk_rewrite.proofs.Odd.{odd_kept}
use Rattle.desk_rewrite.proofs.counts.is_odd_signature.Goals as goal

pub returns-clause-answers : goal.returns-clause-answers
returns-clause-answers c =
    odd_kept c.args.pool.now.entries c.args.used.now c.is_odd-odd.result c.args.answers.now c.keep.new.self (c.is_odd-odd.ensures ∙ ap (is_odd c.args.used.now.role) c.text_at.ensures) c.requires c.keep.ensures
