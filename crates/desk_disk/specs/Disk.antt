-- What the adapter over a disk does with paths and with what a listing finds.
use Rattle.std.specs.Prelude.{◌≡◌, ◌⊎◌, ℕ, ◌+◌, List, [], ◌∷◌, ◌++◌, length, take, refl, if◌then◌else◌}
use Rattle.std.specs.Coded.{Coded, code_by, coded×, coded_list, coded_ℕ}
use Rattle.std.specs.List.Sorted.{IsPermutation, IsSorted}
use Rattle.std.specs.Ordering.{nat_cmp}
use Rattle.std.specs.Cmp.Lexicographic.{slice_cmp}
use Rattle.desk_base.specs.Names.{Text, is_empty, slash}
use Rattle.desk_base.specs.Paths.{full}
use Rattle.desk_disk.specs.declared.walk.Entry.{Entry}
use Rattle.desk_disk.specs.declared.walk.Entry.TheVariants.{File, Folder}

-- how many entries a listing looks at, folders included
abbrev pub entries : ℕ
entries = 1000000

-- the path of an entry by the path of its folder, both relative to the root, whose own path is empty
abbrev pub entry_path : Text → Text → Text
entry_path folder name = if is_empty folder then name else folder ++ slash ∷ [] ++ name

-- the path of a folder by its path relative to the root
abbrev pub folder_path : Text → Text → Text
folder_path root folder = if is_empty folder then root else full root folder

-- the files that a listing found, the folders that it has yet to enter, and how many entries it looked at
pub record Looked : Type 0 where
  pub found : List Text
  pub folders : List Text
  pub count : ℕ

abbrev pub looked_code : Coded Looked
looked_code =
    code_by (List Text × (List Text × ℕ)) (coded× (coded_list (coded_list coded_ℕ)) (coded× (coded_list (coded_list coded_ℕ)) coded_ℕ)) (λ l. (l.found, (l.folders, l.count))) (λ p. record { found = p.0; folders = p.1.0; count = p.1.1 }) (λ _. refl)

-- with an entry more: a file is found, a folder is yet to be entered
abbrev pub taken : Text → Entry → Looked → Looked
taken path File l = record { found = l.found ++ path ∷ []; folders = l.folders; count = l.count + 1 }
taken path Folder l = record { found = l.found; folders = l.folders ++ path ∷ []; count = l.count + 1 }

-- the entry of this path was taken for one of the two
pub record IsLooked (path : Text) (old new : Looked) : Type 0 where
  pub entry : Entry
  pub is : new ≡ taken path entry old

-- what was found and left stays, and each entry that was looked at since is one of the two
pub record IsLonger (old new : Looked) : Type 0 where
  pub files : List Text
  pub more : List Text
  pub found : new.found ≡ old.found ++ files
  pub folders : new.folders ≡ old.folders ++ more
  pub count : new.count ≡ old.count + (length files + length more)

-- the first so many of what was found, in byte order
pub record IsFirst (count : ℕ) (found first : List Text) : Type 0 where
  pub all : List Text
  pub same : IsPermutation found all
  pub ordered : IsSorted (slice_cmp nat_cmp) all
  pub is : first ≡ take count all

-- a folder is above a path: the path goes on behind the folder's with `/`
pub record IsAbove (folder path : Text) : Type 0 where
  pub rest : Text
  pub is : path ≡ folder ++ slash ∷ rest

-- a folder is on the way to one that was found: it is that folder, or above it
abbrev pub IsOnTheWay : Text → Text → Type 0
IsOnTheWay folder found = (found ≡ folder) ⊎ IsAbove folder found
