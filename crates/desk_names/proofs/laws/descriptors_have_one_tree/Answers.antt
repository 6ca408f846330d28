use Rattle.desk_names.proofs.Scanned.{tree_of}
use Rattle.desk_names.proofs.Takes.{taken}
use Rattle.desk_names.proofs.Unique.{one_tree}
use Rattle.desk_names.proofs.laws.descriptors_have_one_tree.Goals as goal

pub returns : goal.returns
returns c = record { taken = taken; tree = tree_of; one = one_tree }
