-- Where a reader of a clause stands, by the parts before it.
use Rattle.std.specs.Prelude.{cond, Option, Some, None}
use Rattle.desk_base.specs.Names.{Text, is_empty}
use Rattle.desk_lines.specs.Blanks.{trimmed}
use Rattle.desk_clauses.specs.Grammar.{is_parameter}
use Rattle.desk_clauses.specs.declared.grammar.ClausePlace.{ClausePlace}
use Rattle.desk_clauses.specs.declared.grammar.ClausePlace.TheVariants.{Start, BehindPath, BehindParameter}

-- behind one more part; none where no clause of the grammar has it here: a parameter stands behind a path, a path has a name,
-- and none stands behind a parameter
abbrev pub place_behind : ClausePlace → Text → Option ClausePlace
place_behind Start part = cond (is_parameter part) None (cond (is_empty (trimmed part)) None (Some BehindPath))
place_behind BehindPath part = cond (is_parameter part) (Some BehindParameter) (cond (is_empty (trimmed part)) None (Some BehindPath))
place_behind BehindParameter part = cond (is_parameter part) (Some BehindParameter) None
