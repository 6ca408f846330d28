use Rattle.std.proofs.Common.{sym, ◌∙◌}
use Rattle.desk_clashes.proofs.Seen.{meets_name, meets_folder, meets_below}
use Rattle.desk_clashes.proofs.known.SeenTargets.meets.Goals as goal

pub returns-then-holds : goal.returns-then-holds
returns-then-holds c = λ seen known. meets_name c.args.self.now.names c.args.self.now.folders c.args.self.now.apart c.args.target.now seen known (sym c.holds.ensures ∙ c.if-holds.true)

pub returns-then-holds-2 : goal.returns-then-holds-2
returns-then-holds-2 c = λ seen known.
    meets_folder c.args.self.now.names c.args.self.now.folders c.args.self.now.apart c.args.target.now seen known (sym c.holds.ensures ∙ c.if-holds.false) (sym c.holds-2.ensures ∙ c.if-holds-2.true)

pub returns : goal.returns
returns c = λ seen known.
    c.has_folder_of.ensures seen known
    ∙ meets_below c.args.self.now.names c.args.self.now.folders c.args.self.now.apart c.args.target.now seen known (sym c.holds.ensures ∙ c.if-holds.false) (sym c.holds-2.ensures ∙ c.if-holds-2.false)
