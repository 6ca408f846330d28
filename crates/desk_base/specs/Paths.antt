-- Paths of files and roots of folders, as texts with `/` between their segments.
use Rattle.std.specs.Prelude.{Bool, true, false, not, ◌&&◌, ◌||◌, ◌==◌, List, [], ◌∷◌, ◌++◌, if◌then◌else◌}
use Rattle.std.specs.List.{slice_split, list_all}
use Rattle.std.specs.Str.{bytes_eq}
use Rattle.desk_base.specs.Names.{Text, is_empty, slash, written}

-- `.`, the root that is relative and has no segments
abbrev pub here : Text
here = 46 ∷ []

-- `/`, the root that is absolute and has no segments
abbrev pub top : Text
top = 47 ∷ []

-- a name of a file or folder: not empty, not `.`, not `..`
abbrev pub is_segment : Text → Bool
is_segment s = not (is_empty s) && (not (bytes_eq s here) && not (bytes_eq s (46 ∷ 46 ∷ [])))

-- one or more such names joined by `/`
abbrev pub is_relative_path : Text → Bool
is_relative_path path = list_all is_segment (slice_split (λ b. b == slash) path)

-- such a path, or `/` and such a path
abbrev pub is_full_path : Text → Bool
is_full_path [] = false
is_full_path (first ∷ rest) = is_relative_path (first ∷ rest) || (first == slash && is_relative_path rest)

-- a root as it is written: `.`, `/`, or a full path
abbrev pub is_root : Text → Bool
is_root text = bytes_eq text here || (bytes_eq text top || is_full_path text)

-- the segments of a root as a text: `.` where it is relative and has none
abbrev pub written_segments : List Text → Text
written_segments [] = here
written_segments (s ∷ ss) = written slash (s ∷ ss)

abbrev pub written_root : Bool → List Text → Text
written_root true segments = slash ∷ written slash segments
written_root false segments = written_segments segments

-- what stands before a relative path below a root: nothing under `.`, `/` under `/`
abbrev pub folder : Text → Text
folder root = if bytes_eq root here then [] else if bytes_eq root top then top else root ++ (slash ∷ [])

-- the full path of a relative path below a root
abbrev pub full : Text → Text → Text
full root path = folder root ++ path
