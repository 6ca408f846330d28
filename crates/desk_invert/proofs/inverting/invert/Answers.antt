use Rattle.desk_invert.proofs.Answered.{is_settled, builds, takes_back, again}
use Rattle.desk_invert.proofs.Faults.{on_ok, if_ok}
use Rattle.desk_invert.proofs.inverting.invert.Goals as goal

pub returns-clause-settled : goal.returns-clause-settled
returns-clause-settled c = on_ok _ _ c.invert_renames.result c.invert_renames.ensures.inverted (is_settled c.args.rules.now c.recall_settled.ensures.settled c.renames.result.now c.renames.ensures.table c.renames.ensures.all)

pub returns-clause-builds : goal.returns-clause-builds
returns-clause-builds c = if_ok _ _ c.invert_renames.result c.invert_renames.ensures.inverted (builds c.args.rules.now c.recall_settled.ensures.settled c.renames.result.now c.renames.ensures.table c.renames.ensures.all)

pub returns-clause-packages : goal.returns-clause-packages
returns-clause-packages c = on_ok _ _ c.invert_renames.result c.invert_renames.ensures.inverted (takes_back c.args.rules.now c.recall_settled.ensures.settled c.renames.result.now c.renames.ensures.table c.renames.ensures.all)

pub returns-clause-again : goal.returns-clause-again
returns-clause-again c = on_ok _ _ c.invert_renames.result c.invert_renames.ensures.inverted (again c.args.rules.now c.recall_settled.ensures.settled c.renames.result.now c.renames.ensures.table c.renames.ensures.all)
