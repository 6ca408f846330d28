-- What becomes of a header's value that is a list of clauses: packages with their versions and `uses`, or bundles with theirs.
use Rattle.std.specs.Prelude.{ℕ, Bool, true, false, cond, ◌&&◌, ◌==◌, List, [], ◌∷◌, ◌++◌, map, length, take, drop, Option, Some, None, codes, ◌-◌}
use Rattle.std.specs.List.{slice_split, ends_with}
use Rattle.std.specs.Str.{bytes_eq}
use Rattle.desk_base.specs.Names.{Text, dot, is_dotted}
use Rattle.desk_lines.specs.Blanks.{trimmed}
use Rattle.desk_packages.specs.Renames.{Renaming}
use Rattle.desk_rules.specs.Rules.{Rules, Update}
use Rattle.desk_rules.specs.RuleSets.{version_of, changing_update}
use Rattle.desk_rules.specs.Images.{package_written}
use Rattle.desk_clauses.specs.Quotes.{with_marks}
use Rattle.desk_clauses.specs.Grammar.{clauses, value_text, is_parameter, argument, is_attribute, is_directive, between_blanks, with_argument, is_in_grammar, first_path, is_quoted, unquoted, quoted}
use Rattle.desk_listings.specs.declared.listings.Listing.{Listing}
use Rattle.desk_listings.specs.declared.listings.Listing.TheVariants.{Imports, Exports, Identity, Bundles}

-- ---- packages

-- a package that is written with dots
abbrev pub package_image : List Renaming → Text → Text
package_image = package_written dot

-- how many bytes of a path are its package: a dotted name is one, and so is what stands before `.*` where that is a dotted name
abbrev pub package_length : Text → Option ℕ
package_length path =
    cond (is_dotted path) (Some (length path))
    (cond (ends_with ◌==◌ path (codes ".*") && is_dotted (take (length path - 2) path)) (Some (length path - 2)) None)

abbrev pub package_path_by : List Renaming → Text → Option ℕ → Text
package_path_by renames path None = path
package_path_by renames path (Some n) = package_image renames (take n path) ++ drop n path

-- a path with its package exchanged
abbrev pub package_path : List Renaming → Text → Text
package_path renames path = package_path_by renames path (package_length path)

-- the version of the new package where the package changes
abbrev pub changed_version : Rules → Bool → Text → Option Text
changed_version rules exporting name =
    cond (bytes_eq (package_image rules.renames name) name) None (version_of rules.versions (package_image rules.renames name) exporting)

abbrev pub package_version_by : Rules → Bool → Text → Option ℕ → Option Text
package_version_by rules exporting path None = None
package_version_by rules exporting path (Some n) = changed_version rules exporting (take n path)

abbrev pub package_version : Rules → Bool → Text → Option Text
package_version rules exporting path = package_version_by rules exporting path (package_length path)

-- an item of a list of packages, with its blanks; one that is no dotted name stays
abbrev pub item_image : List Renaming → Text → Text
item_image renames item = between_blanks (cond (is_dotted (trimmed item)) (package_image renames (trimmed item)) (trimmed item)) item

-- a list of packages, separated by `,`
abbrev pub list_image : List Renaming → Text → Text
list_image renames list = with_marks 44 (map (item_image renames) (slice_split (λ b. b == 44) list))

-- a list with or without quotes around it
abbrev pub uses_image : List Renaming → Text → Text
uses_image renames list = cond (is_quoted list) (quoted (list_image renames (unquoted list))) (list_image renames list)

-- ---- bundles

abbrev pub updated_name : Text → Option Update → Text
updated_name name None = name
updated_name name (Some u) = u.name

abbrev pub updated_version : Option Update → Option Text
updated_version None = None
updated_version (Some u) = u.version

-- ---- by header

-- whether a header lists packages
abbrev pub lists_packages : Listing → Bool
lists_packages Imports = true
lists_packages Exports = true
lists_packages Identity = false
lists_packages Bundles = false

abbrev pub is_export : Listing → Bool
is_export Imports = false
is_export Exports = true
is_export Identity = false
is_export Bundles = false

-- the image of a path
abbrev pub path_image : Rules → Listing → Text → Text
path_image rules listing path =
    cond (lists_packages listing) (package_path rules.renames path) (updated_name path (changing_update rules.bundles path))

-- the version that comes with a path that changes; the symbolic name of the bundle itself has none among its attributes
abbrev pub path_version : Rules → Listing → Text → Option Text
path_version rules Imports path = package_version rules false path
path_version rules Exports path = package_version rules true path
path_version rules Identity path = None
path_version rules Bundles path = updated_version (changing_update rules.bundles path)

-- the first of two
abbrev pub or_version : Option Text → Option Text → Option Text
or_version None v = v
or_version (Some u) v = Some u

-- the version of the first path of a clause that brings one
abbrev pub clause_version : Rules → Listing → List Text → Option Text
clause_version rules listing [] = None
clause_version rules listing (p ∷ ps) =
    cond (is_parameter p) (clause_version rules listing ps) (or_version (path_version rules listing (trimmed p)) (clause_version rules listing ps))

-- the version that a clause has brought behind one more part
abbrev pub version_behind : Rules → Listing → Option Text → Text → Option Text
version_behind rules listing version part = cond (is_parameter part) version (or_version version (path_version rules listing (trimmed part)))

-- the attribute that takes the version
abbrev pub version_name : Listing → Text
version_name Imports = codes "version"
version_name Exports = codes "version"
version_name Identity = codes "bundle-version"
version_name Bundles = codes "bundle-version"

-- a parameter with this version in quotes as its argument
abbrev pub versioned : Option Text → Text → Text
versioned None part = part
versioned (Some version) part = with_argument (between_blanks (quoted version) (argument part)) part

abbrev pub is_uses : Listing → Text → Bool
is_uses listing part = is_export listing && is_directive (codes "uses") part

abbrev pub parameter_image : Rules → Listing → Option Text → Text → Text
parameter_image rules listing version part =
    cond (is_attribute (version_name listing) part) (versioned version part)
    (cond (is_uses listing part) (with_argument (between_blanks (uses_image rules.renames (trimmed (argument part))) (argument part)) part) part)

abbrev pub part_image : Rules → Listing → Option Text → Text → Text
part_image rules listing version part =
    cond (is_parameter part) (parameter_image rules listing version part) (between_blanks (path_image rules listing (trimmed part)) part)

abbrev pub clause_image : Rules → Listing → List Text → List Text
clause_image rules listing clause = map (part_image rules listing (clause_version rules listing clause)) clause

-- the image of a value; a value outside the grammar stays
abbrev pub listing_image : Rules → Listing → Text → Text
listing_image rules listing value =
    cond (is_in_grammar value) (value_text (map (clause_image rules listing) (clauses value))) value

-- the new version of the bundle that a Bundle-SymbolicName of this value names
abbrev pub identity_version : Rules → Text → Option Text
identity_version rules value = cond (is_in_grammar value) (updated_version (changing_update rules.bundles (first_path value))) None
