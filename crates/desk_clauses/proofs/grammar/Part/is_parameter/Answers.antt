use Rattle.desk_clauses.proofs.Firsts.{stands_behind}
use Rattle.desk_clauses.proofs.grammar.Part.is_parameter.Goals as goal

pub returns : goal.returns
returns c = stands_behind c.args.self.now.text.now _ c.args.self.now.mark c.args.self.now.marked.from
