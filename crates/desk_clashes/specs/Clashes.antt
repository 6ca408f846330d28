-- Targets of files that clash: on a disk, two files can't have one path, and a file is no folder.
use Rattle.std.specs.Prelude.{ℕ, Bool, ◌+◌, ◌||◌, ◌==◌, List, [], ◌∷◌, ◌++◌, Option, Some, None}
use Rattle.std.specs.List.{starts_with, position_from}
use Rattle.std.specs.Option.{option_map_or}
use Rattle.std.specs.Str.{bytes_eq}
use Rattle.desk_base.specs.Names.{Text, slash}
use Rattle.desk_clashes.specs.declared.Clash.{Clash}

-- whether a target is a folder of another, as `a` is of `a/b`: with `/` behind it, it is a front of the other
abbrev pub is_folder : Text → Text → Bool
is_folder folder path = starts_with ◌==◌ path (folder ++ slash ∷ [])

-- whether two targets are equal, or one is a folder of the other
abbrev pub clashes : Text → Text → Bool
clashes one other = bytes_eq one other || (is_folder one other || is_folder other one)

-- of targets from a place on, the first that clashes with a later one, and the first later one with which it does
abbrev pub clash_from : ℕ → List Text → Option Clash
clash_from place [] = None
clash_from place (target ∷ targets) =
    option_map_or (λ second. Some (record { first = place; second = second })) (position_from (clashes target) (place + 1) targets) (clash_from (place + 1) targets)

-- the pair of places that clash with the least first, and then the least second
abbrev pub first_clash : List Text → Option Clash
first_clash = clash_from 0
