-- The rule files of the two rules of a chain.
use Rattle.std.specs.Prelude.{codes}
use Rattle.desk_base.specs.Names.{Text}
use Rattle.desk_chains.specs.declared.ChainKind.{ChainKind}
use Rattle.desk_chains.specs.declared.ChainKind.TheVariants as chain

-- the file of the first
abbrev pub first_file : ChainKind → Text
first_file chain.RenameThenRename = codes "renames.properties"
first_file chain.RenameThenDirect = codes "renames.properties"
first_file chain.DirectThenDirect = codes "direct.properties"
first_file chain.DirectThenRename = codes "direct.properties"
first_file chain.BundleThenBundle = codes "bundles.properties"
first_file chain.PackageThenName = codes "renames.properties"
first_file chain.NameThenPackage = codes "renames.properties"
first_file chain.PackageThenDirect = codes "renames.properties"
first_file chain.DirectThenPackage = codes "direct.properties"

-- the file of the second
abbrev pub second_file : ChainKind → Text
second_file chain.RenameThenRename = codes "renames.properties"
second_file chain.RenameThenDirect = codes "direct.properties"
second_file chain.DirectThenDirect = codes "direct.properties"
second_file chain.DirectThenRename = codes "renames.properties"
second_file chain.BundleThenBundle = codes "bundles.properties"
second_file chain.PackageThenName = codes "renames.properties"
second_file chain.NameThenPackage = codes "renames.properties"
second_file chain.PackageThenDirect = codes "direct.properties"
second_file chain.DirectThenPackage = codes "renames.properties"
