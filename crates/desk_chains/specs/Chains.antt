-- Chains of rules, of which the second changes what the first gives: nine kinds, and the first chain.
use Rattle.std.specs.Prelude.{ℕ, Bool, ◌&&◌, ◌||◌, List, [], ◌∷◌, Option, Some, None}
use Rattle.std.specs.List.{find}
use Rattle.std.specs.Str.{bytes_eq}
use Rattle.desk_base.specs.Names.{Text, same, begins_with, segments, written, dot, is_dotted, front}
use Rattle.desk_packages.specs.Renames.{Renaming, changes, in_scope, in_reach, key_of}
use Rattle.desk_entries.specs.Exchanges.{Exchange, BundleUpdate, alters, renames_bundle, old_text, old_name}
use Rattle.desk_chains.specs.declared.ChainKind.{ChainKind}
use Rattle.desk_chains.specs.declared.ChainKind.TheVariants.{RenameThenRename, RenameThenDirect, DirectThenDirect, DirectThenRename, BundleThenBundle, PackageThenName, NameThenPackage, PackageThenDirect, DirectThenPackage}

-- whether a package lies in the reach of the first and in the scope of the second
abbrev pub meets : Renaming → Renaming → Bool
meets r s = same r.target s.source || (s.below && begins_with r.target s.source) || (r.below && begins_with s.source r.target)

-- whether a text is a dotted name whose front lies in the reach of a rename, or in its scope
abbrev pub front_in_reach : Renaming → Text → Bool
front_in_reach r text = is_dotted text && in_reach r (front (segments dot text))

abbrev pub front_in_scope : Renaming → Text → Bool
front_in_scope r text = is_dotted text && in_scope r (front (segments dot text))

-- kind 1: a changing rename gives what a changing rename changes
abbrev pub rename_then_rename : Renaming → Renaming → Bool
rename_then_rename r s = changes r && changes s && meets r s

-- kind 2: a changing rename gives what a changing direct rule changes
abbrev pub rename_then_direct : Renaming → Exchange → Bool
rename_then_direct r e = changes r && alters e && front_in_reach r e.0

-- kind 3: a changing direct rule gives what a changing direct rule changes
abbrev pub one_then_another : Exchange → Exchange → Bool
one_then_another d e = alters d && alters e && bytes_eq d.1 e.0

-- kind 4: a changing direct rule gives what a changing rename changes
abbrev pub direct_then_rename : Exchange → Renaming → Bool
direct_then_rename e r = alters e && changes r && front_in_scope r e.1

-- kind 5: a changing bundle update gives the old name of a changing bundle update
abbrev pub update_then_update : BundleUpdate → BundleUpdate → Bool
update_then_update u v = renames_bundle u && renames_bundle v && bytes_eq u.1.name v.0

-- A string that is the source of a rename changes as a package, and is looked at as a dotted name or as a direct source then.

-- kind 6: a changing rename gives a package that, as a dotted name, a changing rename changes
abbrev pub package_then_name : Renaming → Renaming → Bool
package_then_name r s = changes r && changes s && in_scope s (front r.target)

-- kind 7: a changing rename gives a dotted name that is the source of a changing rename
abbrev pub name_then_package : Renaming → Renaming → Bool
name_then_package r s = changes r && changes s && in_reach r (front s.source)

-- kind 8: a changing rename gives a package that, written with dots, a changing direct rule changes
abbrev pub package_then_direct : Renaming → Exchange → Bool
package_then_direct r e = changes r && alters e && bytes_eq (written dot r.target) e.0

-- kind 9: a changing direct rule gives the source of a changing rename, written with dots
abbrev pub direct_then_package : Exchange → Renaming → Bool
direct_then_package e r = alters e && changes r && bytes_eq e.1 (written dot r.source)

-- the first pair of which a relation holds: by the place of its first part, then of its second
abbrev pub first_pair : {A B : Type 0} → (A → B → Bool) → List A → List B → Option (A × B)
first_pair R [] ys = None
first_pair R (x ∷ xs) ys = elim (find (R x) ys) [ Some y ↦ Some (x, y) | None ↦ first_pair R xs ys ]

-- two rules, by their keys, of which the second changes what the first gives
pub record Chain : Type 0 where
  pub kind : ChainKind
  pub first : Text
  pub second : Text

abbrev pub chain_of : {A B : Type 0} → ChainKind → (A → Text) → (B → Text) → Option (A × B) → Option Chain
chain_of kind first second None = None
chain_of kind first second (Some pair) = Some (record { kind = kind; first = first pair.0; second = second pair.1 })

abbrev pub or_chain : Option Chain → Option Chain → Option Chain
or_chain None other = other
or_chain (Some chain) other = Some chain

-- the number of a kind
abbrev pub chain_number : ChainKind → ℕ
chain_number RenameThenRename = 1
chain_number RenameThenDirect = 2
chain_number DirectThenDirect = 3
chain_number DirectThenRename = 4
chain_number BundleThenBundle = 5
chain_number PackageThenName = 6
chain_number NameThenPackage = 7
chain_number PackageThenDirect = 8
chain_number DirectThenPackage = 9

-- the first chain of a kind: by the first key, then by the second
abbrev pub first_chain_of : ChainKind → List Renaming → List Exchange → List BundleUpdate → Option Chain
first_chain_of RenameThenRename renames direct bundles = chain_of RenameThenRename key_of key_of (first_pair rename_then_rename renames renames)
first_chain_of RenameThenDirect renames direct bundles = chain_of RenameThenDirect key_of old_text (first_pair rename_then_direct renames direct)
first_chain_of DirectThenDirect renames direct bundles = chain_of DirectThenDirect old_text old_text (first_pair one_then_another direct direct)
first_chain_of DirectThenRename renames direct bundles = chain_of DirectThenRename old_text key_of (first_pair direct_then_rename direct renames)
first_chain_of BundleThenBundle renames direct bundles = chain_of BundleThenBundle old_name old_name (first_pair update_then_update bundles bundles)
first_chain_of PackageThenName renames direct bundles = chain_of PackageThenName key_of key_of (first_pair package_then_name renames renames)
first_chain_of NameThenPackage renames direct bundles = chain_of NameThenPackage key_of key_of (first_pair name_then_package renames renames)
first_chain_of PackageThenDirect renames direct bundles = chain_of PackageThenDirect key_of old_text (first_pair package_then_direct renames direct)
first_chain_of DirectThenPackage renames direct bundles = chain_of DirectThenPackage old_text key_of (first_pair direct_then_package direct renames)

-- the first chain of the kinds in which a string is a package
abbrev pub first_package_chain : List Renaming → List Exchange → List BundleUpdate → Option Chain
first_package_chain renames direct bundles =
    or_chain (first_chain_of PackageThenName renames direct bundles)
    (or_chain (first_chain_of NameThenPackage renames direct bundles)
    (or_chain (first_chain_of PackageThenDirect renames direct bundles)
    (first_chain_of DirectThenPackage renames direct bundles)))

-- the first chain among renames, direct rules and bundle updates: by its kind, then by the first key, then by the second
abbrev pub first_chain_in : List Renaming → List Exchange → List BundleUpdate → Option Chain
first_chain_in renames direct bundles =
    or_chain (first_chain_of RenameThenRename renames direct bundles)
    (or_chain (first_chain_of RenameThenDirect renames direct bundles)
    (or_chain (first_chain_of DirectThenDirect renames direct bundles)
    (or_chain (first_chain_of DirectThenRename renames direct bundles)
    (or_chain (first_chain_of BundleThenBundle renames direct bundles)
    (first_package_chain renames direct bundles)))))

abbrev pub chain_at : ChainKind → Text → Text → Chain
chain_at kind first second = record { kind = kind; first = first; second = second }
