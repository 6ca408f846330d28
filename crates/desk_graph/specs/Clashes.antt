-- A clash of names as it is found.
use Rattle.desk_graph.specs.Application.{Pair}
use Rattle.desk_graph.specs.declared.clashes.NameClash.{NameClash}

abbrev pub clash_pair : NameClash → Pair
clash_pair c = (c.defined.now.0, c.other.now.0)
