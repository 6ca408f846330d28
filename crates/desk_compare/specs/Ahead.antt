-- What is found of the files at the same places of two lists.
use Rattle.std.specs.Prelude.{◌≡◌, List, [], ◌∷◌, Option}
use Rattle.desk_folders.specs.declared.folders.GenFile.{GenFile}
use Rattle.desk_compare.specs.Deciding.{what_between}
use Rattle.desk_compare.specs.Verdicts.{holds_class}
use Rattle.desk_compare.specs.declared.pairs.FilePair.{FilePair}
use Rattle.desk_compare.specs.declared.files.What.{What}

-- how the contents of two files differ, as those of files at the left one's path
abbrev pub difference : GenFile → GenFile → Option What
difference left right = what_between (holds_class left.path left.content) left.content right.content

abbrev pub difference_in : FilePair → Option What
difference_in pair = difference pair.left.now pair.right.now

-- so the files at the first places of two lists differ, a finding for each place
abbrev pub AreFound : List GenFile → List GenFile → List (Option What) → Type 0
AreFound lefts rights [] = Unit {0}
AreFound (left ∷ lefts) (right ∷ rights) (found ∷ findings) = (found ≡ difference left right) × AreFound lefts rights findings
AreFound _ _ (found ∷ findings) = ⊥
