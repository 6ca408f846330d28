-- What is found of the class files that were read.
use Rattle.std.specs.Prelude.{List, ◌++◌, map}
use Rattle.desk_base.specs.Names.{Package}
use Rattle.desk_sites.specs.declared.class.ClassSites.{ClassSites}
use Rattle.desk_calls.specs.Files.{sites_in}
use Rattle.desk_calls.specs.declared.batches.Finding.{Finding}

-- what is found of the classes that were looked at, and of those that wait
abbrev pub all_found : Package → Finding → List ClassSites
all_found scope finding = finding.found.items ++ map (sites_in scope) finding.batch.items
