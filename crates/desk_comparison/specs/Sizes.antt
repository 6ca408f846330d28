-- What stands against files that are kept in memory, by their bytes.
use Rattle.std.specs.Prelude.{ℕ, ◌-◌, nat_lt, List, [], ◌∷◌, length, Option, Some, None, if◌then◌else◌}
use Rattle.desk_base.specs.Limits.{file_size}
use Rattle.desk_folders.specs.Contents.{File}
use Rattle.desk_intake.specs.Standing.{first_of}
use Rattle.desk_report.specs.declared.status.LimitKind.TheVariants.{FileSize, Both}
use Rattle.desk_report.specs.declared.status.Status.{Status}
use Rattle.desk_report.specs.declared.status.Status.TheVariants.{Limit}

-- how many bytes two applications have together at most
abbrev pub most_both : ℕ
most_both = 1073741824

-- what files leave of a room for so many bytes
abbrev pub room_behind : ℕ → List File → ℕ
room_behind room [] = room
room_behind room (file ∷ files) = room_behind (room - length file.bytes) files

-- what stands against one file: that it has too many bytes, and else that the room has none for them
abbrev pub one_answer : ℕ → File → Option Status
one_answer room file =
    if nat_lt file_size (length file.bytes) then Some (Limit FileSize file.path)
    else if nat_lt room (length file.bytes) then Some (Limit Both file.path) else None

-- the first that stands against files in their order, each in the room that those before it leave
abbrev pub room_answer : ℕ → List File → Option Status
room_answer room [] = None
room_answer room (file ∷ files) = first_of (one_answer room file) (room_answer (room - length file.bytes) files)
