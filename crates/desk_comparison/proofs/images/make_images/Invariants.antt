use Rattle.std.proofs.Common.{map}
use Rattle.desk_comparison.specs.Files.{files_of, source_of}
use Rattle.desk_comparison.specs.Makings.{MadeBy}
use Rattle.desk_comparison.proofs.images.make_images.Given as goal

abbrev pub invariant-loop-file : goal.invariant-loop-file
invariant-loop-file l = MadeBy l.graph.rules l.graph.defined (files_of (map source_of l.yielded)) l.made
