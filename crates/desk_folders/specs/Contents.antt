-- What folders tell of their contents, how one path of them changes, and what stands below a root.
use Rattle.std.specs.Prelude.{◌≡◌, ◌⊎◌, ℕ, ◌+◌, ◌<◌, ◌≤◌, ◌==◌, ◌++◌, List, [], ◌∷◌, length, Option, Some, None, cond, option_map, option_and_then, unwrap_or, map, take, drop, All, Contains, if◌then◌else◌}
use Rattle.std.specs.List.{filter_map}
use Rattle.std.specs.Ordering.{nat_cmp}
use Rattle.std.specs.Cmp.Lexicographic.{slice_cmp}
use Rattle.std.specs.FinMap as fin
use Rattle.std.specs.FinMap.{FinMap}
use Rattle.desk_base.specs.Names.{Text}
use Rattle.desk_base.specs.Paths.{folder, full, is_relative_path}

-- from full paths to bytes
abbrev pub Contents : Type 0
Contents = FinMap (slice_cmp nat_cmp) Text

-- with this left at a path, or nothing
abbrev pub setting : Text → Option Text → Contents → Contents
setting path None m = fin.remove m path
setting path (Some bytes) m = fin.insert m path bytes

-- with these bytes at the path
abbrev pub holding : Text → Text → Option Contents → Option Contents
holding path bytes = option_map (setting path (Some bytes))

-- the bytes at a path, none where it is missing
abbrev pub bytes_at : Contents → Text → Text
bytes_at m path = unwrap_or (fin.get m path) []

-- how many bytes stand at a path, none where it is missing
abbrev pub size_at : Contents → Text → Option ℕ
size_at m path = option_map (λ (bytes : Text). length bytes) (fin.get m path)

-- with these bytes added at the path's end
abbrev pub adding : Text → Text → Option Contents → Option Contents
adding path bytes = option_map (λ m. setting path (Some (bytes_at m path ++ bytes)) m)

-- the path may be missing or hold anything, and every other path is as before
pub record ChangesOnly (path : Text) (old new : Option Contents) : Type 0 where
  pub left : Option Text
  pub is : new ≡ option_map (setting path left) old

-- what a text has behind a front
abbrev pub behind : Text → Text → Option Text
behind [] text = Some text
behind (b ∷ front) [] = None
behind (b ∷ front) (c ∷ text) = cond (b == c) (behind front text) None

-- a text that is a relative path
abbrev pub relative : Text → Option Text
relative path = if is_relative_path path then Some path else None

-- the relative path below a root that a full path is
abbrev pub below : Text → Text → Option Text
below root path = option_and_then relative (behind (folder root) path)

-- the relative paths below a root, in byte order
abbrev pub paths_below : Text → Contents → List Text
paths_below root m = filter_map (below root) (fin.keys m)

-- a file below a root, by its relative path
pub record File : Type 0 where
  pub path : Text
  pub bytes : Text

abbrev pub file_at : Text → Contents → Text → File
file_at root m path = record { path = path; bytes = bytes_at m (full root path) }

-- the files below a root, in byte order of their paths
abbrev pub files_below : Text → Contents → List File
files_below root m = map (file_at root m) (paths_below root m)

-- all of them where there are no more than `most`, else some `most + 1` of them
abbrev pub IsListing : ℕ → List Text → List Text → Type 0
IsListing most all got =
    ((length all ≤ most) × (got ≡ all)) ⊎ ((most < length all) × (length got ≡ most + 1) × All (Contains all) got)

-- a front of what stands from a place on, and nothing only at the end
pub record IsPart (bytes : Text) (at : ℕ) (part : Text) : Type 0 where
  pub front : part ≡ take (length part) (drop at bytes)
  pub end : length part ≡ 0 → length bytes ≤ at
