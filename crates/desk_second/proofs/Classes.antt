-- The classes of files, and what they hold.
use Rattle.std.proofs.Common.{◌≡◌, ◌⊎◌, inl, inr, Bool, true, false, cond, List, [], ◌∷◌, map, Result, Ok, Err, refl, sym, ap, subst, ◌∙◌}
use Rattle.desk_base.specs.Names.{Text}
use Rattle.desk_base.specs.declared.faults.Malformed.{Malformed}
use Rattle.desk_class.specs.Held.{Holds, held_in, held_names}
use Rattle.desk_class.proofs.Named.{held_is}
use Rattle.desk_folders.specs.Contents.{File}
use Rattle.desk_format.specs.Classes.{Class, read_class}
use Rattle.desk_graph.specs.Application.{defined_names, names_in, names}
use Rattle.desk_graph.specs.declared.scanned.Scanned.{Scanned}
use Rattle.desk_class.proofs.Ascending.{from_contains, to_contains, in_front, in_back, in_either}
use Rattle.desk_paths.specs.declared.Kind.{Kind}
use Rattle.desk_paths.specs.declared.Kind.TheVariants as kinds
use Rattle.desk_paths.specs.Kinds.{kind_of}
use Rattle.desk_packages.proofs.Picks.{In}
use Rattle.desk_rules.specs.Rules.{Rules}
use Rattle.desk_file.specs.ClassScans.{is_class_kind, scanned_class, scanned_read}
use Rattle.desk_second.specs.Applications.{scanned_file, classes_of}

-- ---- lists

pub in_map : {A B : Type 0} (f : A → B) (xs : List A) (x : A) → In xs x → In (map f xs) (f x)
in_map f [] x h = h
in_map f (y ∷ ys) x (inl e) = inl (ap f e)
in_map f (y ∷ ys) x (inr h) = inr (in_map f ys x h)

pub record From {A B : Type 0} (f : A → B) (xs : List A) (y : B) : Type 0 where
  pub x : A
  pub there : In xs x
  pub is : f x ≡ y

pub from_map : {A B : Type 0} (f : A → B) (xs : List A) (y : B) → In (map f xs) y → From f xs y
from_map f [] y h = absurd h
from_map f (x ∷ xs) y (inl e) = record { x = x; there = inl refl; is = e }
from_map f (x ∷ xs) y (inr h) = let g = from_map f xs y h in record { x = g.x; there = inr g.there; is = g.is }

-- ---- what bytes hold

pub holds_from : (bytes : Text) (c : Class) (m : Text) → read_class bytes ≡ Ok c → In (held_names c) m → Holds bytes m
holds_from bytes c m reads h = to_contains (held_in bytes) m (subst (λ (ns : List Text). In ns m) (sym (held_is bytes c reads)) h)

pub holds_in : (bytes : Text) (c : Class) (m : Text) → read_class bytes ≡ Ok c → Holds bytes m → In (held_names c) m
holds_in bytes c m reads h = subst (λ (ns : List Text). In ns m) (held_is bytes c reads) (from_contains (held_in bytes) m h)

-- ---- the classes of files

pub class_kind : (kind : Kind) → is_class_kind kind ≡ true → kind ≡ kinds.Class
class_kind kinds.Class h = refl
class_kind kinds.Service h = absurd cc
class_kind kinds.Manifest h = absurd cc
class_kind kinds.Other h = absurd cc

-- a class is scanned
pub scanned_there : (rules : Rules) (files : List File) (file : File) (c : Class) → In files file → kind_of file.path ≡ kinds.Class → read_class file.bytes ≡ Ok c → In (classes_of rules files) (scanned_class rules file.path c)
scanned_there rules [] file c h kind reads = absurd h
scanned_there rules (x ∷ files) file c (inl e) kind reads =
    let here : scanned_file rules file ≡ scanned_class rules file.path c ∷ [] =
    ap (λ (k : Kind). cond (is_class_kind k) (scanned_read rules file.path (read_class file.bytes)) []) kind ∙ ap (scanned_read rules file.path) reads in
    in_front (scanned_file rules x) (classes_of rules files) (scanned_class rules file.path c)
    (subst (λ (ss : List Scanned). In ss (scanned_class rules file.path c)) (sym (ap (scanned_file rules) e ∙ here)) (inl refl))
scanned_there rules (x ∷ files) file c (inr h) kind reads = in_back (scanned_file rules x) (classes_of rules files) (scanned_class rules file.path c) (scanned_there rules files file c h kind reads)

-- what is scanned is a class of a file
pub record ScannedFrom (rules : Rules) (files : List File) (s : Scanned) : Type 0 where
  pub file : File
  pub there : In files file
  pub kind : kind_of file.path ≡ kinds.Class
  pub class : Class
  pub reads : read_class file.bytes ≡ Ok class
  pub is : s ≡ scanned_class rules file.path class

from_file : (rules : Rules) (files : List File) (file : File) (s : Scanned) → In files file → In (scanned_file rules file) s → ScannedFrom rules files s
from_file rules files file s there h = by (is_class_kind (kind_of file.path)) refl h
  where
    read : (r : Result Class Malformed) → read_class file.bytes ≡ r → is_class_kind (kind_of file.path) ≡ true → In (scanned_read rules file.path r) s → ScannedFrom rules files s
    read (Ok c) e k (inl same) = record { file = file; there = there; kind = class_kind (kind_of file.path) k; class = c; reads = e; is = sym same }
    read (Ok c) e k (inr none) = absurd none
    read (Err f) e k h = absurd h

    by : (b : Bool) → is_class_kind (kind_of file.path) ≡ b → In (cond b (scanned_read rules file.path (read_class file.bytes)) []) s → ScannedFrom rules files s
    by true k h = read (read_class file.bytes) refl k h
    by false k h = absurd h

scanned_among : (rules : Rules) (all files : List File) (s : Scanned) → ((file : File) → In files file → In all file) → In (classes_of rules files) s → ScannedFrom rules all s
scanned_among rules all [] s sub h = absurd h
scanned_among rules all (file ∷ files) s sub h = elim (in_either (scanned_file rules file) (classes_of rules files) s h) [
  | inl here ↦ from_file rules all file s (sub file (inl refl)) here
  | inr later ↦ scanned_among rules all files s (λ f k. sub f (inr k)) later
]

pub scanned_from : (rules : Rules) (files : List File) (s : Scanned) → In (classes_of rules files) s → ScannedFrom rules files s
scanned_from rules files s h = scanned_among rules files files s (λ file k. k) h

-- ---- their names

pub defined_there : (ss : List Scanned) (s : Scanned) → In ss s → In (defined_names ss) s.name
defined_there [] s h = absurd h
defined_there (x ∷ ss) s (inl e) = inl (ap (λ (y : Scanned). y.name) e)
defined_there (x ∷ ss) s (inr h) = inr (defined_there ss s h)

pub defined_from : (ss : List Scanned) (n : Text) → In (defined_names ss) n → From (λ (s : Scanned). s.name) ss n
defined_from [] n h = absurd h
defined_from (x ∷ ss) n (inl e) = record { x = x; there = inl refl; is = e }
defined_from (x ∷ ss) n (inr h) = let g = defined_from ss n h in record { x = g.x; there = inr g.there; is = g.is }

pub names_there : (ss : List Scanned) (s : Scanned) (n : Text) → In ss s → In (names_in s) n → In (names ss) n
names_there [] s n h k = absurd h
names_there (x ∷ ss) s n (inl e) k = in_front (names_in x) (names ss) n (subst (λ (y : Scanned). In (names_in y) n) (sym e) k)
names_there (x ∷ ss) s n (inr h) k = in_back (names_in x) (names ss) n (names_there ss s n h k)

-- a name of an application is that of a class, or a selected class holds it
pub record Named (ss : List Scanned) (n : Text) : Type 0 where
  pub class : Scanned
  pub there : In ss class
  pub names : (class.name ≡ n) ⊎ ((class.selected ≡ true) × In class.held n)

pub named_from : (ss : List Scanned) (n : Text) → In (names ss) n → Named ss n
named_from [] n h = absurd h
named_from (x ∷ ss) n h = elim (in_either (names_in x) (names ss) n h) [
  | inl here ↦ elim here [
    | inl e ↦ record { class = x; there = inl refl; names = inl e }
    | inr held ↦ record { class = x; there = inl refl; names = inr (by x.selected refl held) }
  ]
  | inr later ↦ let m = named_from ss n later in record { class = m.class; there = inr m.there; names = m.names }
]
  where
    by : (b : Bool) → x.selected ≡ b → In (cond b x.held []) n → (x.selected ≡ true) × In x.held n
    by true e h = (e, h)
    by false e h = absurd h
