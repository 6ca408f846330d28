-- References follow, and a second migration changes nothing.
use Rattle.std.proofs.Common.{◌≡◌, inl, inr, Bool, true, false, cond, List, [], map, None, Ok, sym, ap, subst, ◌∙◌}
use Rattle.std.specs.List.{Contains}
use Rattle.std.proofs.lemmas.Bool.{cases_Bool}
use Rattle.desk_base.specs.Names.{Text}
use Rattle.desk_class.proofs.Named.{name_is}
use Rattle.desk_class.specs.Parts.{class_name, name_in}
use Rattle.desk_clashes.specs.Clashes.{first_clash}
use Rattle.desk_clashes.specs.ClashLaws.{none_clash}
use Rattle.desk_file.specs.Images.{target}
use Rattle.desk_file.specs.Images.{image as image_at}
use Rattle.desk_file.specs.declared.images.Image.{Image}
use Rattle.desk_folders.specs.Contents.{File}
use Rattle.desk_class.specs.Held.{held_names}
use Rattle.desk_follow.specs.Follow.{HasImagesOfNames}
use Rattle.desk_follow.proofs.Follow.{follow, own_held}
use Rattle.desk_format.specs.Classes.{Class, read_class}
use Rattle.desk_format.specs.Laws.{IsBytes}
use Rattle.desk_format.specs.NewClass.{new_class}
use Rattle.desk_class.specs.Held.{each_once}
use Rattle.desk_graph.specs.Application.{defined_names, names, stranded, OneImage, NoneStranded}
use Rattle.desk_graph.specs.declared.scanned.Scanned.{Scanned}
use Rattle.desk_class.proofs.Ascending.{from_contains, to_contains}
use Rattle.desk_class.proofs.Once.{in_once, from_once}
use Rattle.desk_graph.proofs.Laws.{one_image, none_stranded, no_clash, none_left}
use Rattle.desk_follow.specs.RuleImages.{images_of}
use Rattle.desk_paths.specs.declared.Kind.TheVariants as kinds
use Rattle.desk_paths.specs.Kinds.{kind_of}
use Rattle.desk_patterns.specs.Selections.{selects}
use Rattle.desk_rename.specs.Images.{cls}
use Rattle.desk_rename.specs.Laws.{IsSettledRenames}
use Rattle.desk_rename.proofs.ImageLaws.{class_laws}
use Rattle.desk_rules.proofs.Laws.{packages_stay}
use Rattle.desk_packages.proofs.Picks.{In}
use Rattle.desk_rules.specs.Rules.{Rules}
use Rattle.desk_rules.specs.RuleSets.{IsRuleSet}
use Rattle.desk_file.specs.ClassScans.{scanned_class}
use Rattle.desk_second.specs.Applications.{classes_of, targets_of, AreBytes}
use Rattle.desk_second.specs.Second.{TextsHaveSources, DefinitionsFollow, ReferencesFollow, IsImageOf, AreImages, IsOwnFile, IsMigrated, SecondMigration}
use Rattle.desk_second.proofs.Classes.{in_map, From, from_map, holds_from, holds_in, scanned_there, ScannedFrom, scanned_from, defined_there, defined_from, names_there, Named, named_from}
use Rattle.desk_second.proofs.Files.{NewClass, new_class_of, Own, own, target_again, kind_again, unselected_target, unselected_bytes}
use Rattle.desk_second.proofs.Targets.{all_apart_again}

-- ---- references follow

-- a name that a selected class holds is a name of the application
held_named : (rules : Rules) (files : List File) (file : File) (c : Class) (m : Text) → In files file → selects rules.selection file.path ≡ true → kind_of file.path ≡ kinds.Class → read_class file.bytes ≡ Ok c → In (held_names c) m
    → In (names (classes_of rules files)) m
held_named rules files file c m there selected kind reads h =
    let s = scanned_class rules file.path c in
    let held : In (cond true (each_once (held_names c)) []) m = in_once (held_names c) m h in
    names_there (classes_of rules files) (scanned_class rules file.path c) m (scanned_there rules files file c there kind reads)
    (inr (subst (λ (b : Bool). In (cond b (each_once (held_names c)) []) m) (sym selected) held))

-- the new class of a selected class defines the image of its name
selected_name : (rules : Rules) → IsRuleSet rules → (file : File) (image : Image) → IsBytes file.bytes → selects rules.selection file.path ≡ true → kind_of file.path ≡ kinds.Class → image_at rules file.path file.bytes ≡ Ok image
    → name_in image.bytes ≡ cls rules.renames (name_in file.bytes)
selected_name rules is file image b selected kind accepted =
    let n : NewClass rules file.bytes image = new_class_of rules is file.path file.bytes image b selected kind accepted in
    let h : HasImagesOfNames rules.renames n.class (new_class (images_of rules) n.class) = follow rules file.bytes n.class is b n.reads n.renamed in
    let reads : read_class image.bytes ≡ Ok (new_class (images_of rules) n.class) = ap read_class n.bytes_are ∙ n.renamed.reads in
    name_is image.bytes (new_class (images_of rules) n.class) reads ∙ h.name ∙ ap (cls rules.renames) (sym (name_is file.bytes n.class n.reads))

pub references : ReferencesFollow
references rules files is bytes none file image there selected kind accepted =
    let b : IsBytes file.bytes = bytes file there in
    let n : NewClass rules file.bytes image = new_class_of rules is file.path file.bytes image b selected kind accepted in
    let h : HasImagesOfNames rules.renames n.class (new_class (images_of rules) n.class) = follow rules file.bytes n.class is b n.reads n.renamed in
    let reads : read_class image.bytes ≡ Ok (new_class (images_of rules) n.class) = ap read_class n.bytes_are ∙ n.renamed.reads in
    let one : OneImage (cls rules.renames) (classes_of rules files) = one_image (cls rules.renames) (classes_of rules files) none in
    record {
      defines = selected_name rules is file image b selected kind accepted;
      holds = λ m is_defined. (
        λ holds. holds_from image.bytes (new_class (images_of rules) n.class) (cls rules.renames m) reads
            (subst (λ (ns : List Text). In ns (cls rules.renames m)) (sym h.held) (in_map (cls rules.renames) (held_names n.class) m (holds_in file.bytes n.class m n.reads holds))),
        λ holds.
            let back : From (cls rules.renames) (held_names n.class) (cls rules.renames m) = from_map (cls rules.renames) (held_names n.class) (cls rules.renames m)
            (subst (λ (ns : List Text). In ns (cls rules.renames m)) h.held (holds_in image.bytes (new_class (images_of rules) n.class) (cls rules.renames m) reads holds)) in
            let named : In (names (classes_of rules files)) back.x = held_named rules files file n.class back.x (from_contains files file there) selected kind n.reads back.there in
            let same : m ≡ back.x = one m back.x is_defined (to_contains (names (classes_of rules files)) back.x named) (sym back.is) in
            holds_from file.bytes n.class m n.reads (subst (In (held_names n.class)) (sym same) back.there),
      );
    }

-- ---- definitions follow

-- an unselected class holds its own name, which is its own image where the class isn't stranded
unselected_name : (rules : Rules) (files : List File) → NoneStranded (cls rules.renames) (classes_of rules files) → (file : File) (c : Class) → Contains files file → IsBytes file.bytes → selects rules.selection file.path ≡ false → kind_of file.path ≡ kinds.Class
    → read_class file.bytes ≡ Ok c → cls rules.renames (class_name c) ≡ class_name c
unselected_name rules files stays file c inside b other kind reads =
    let there : In (classes_of rules files) (scanned_class rules file.path c) = scanned_there rules files file c (from_contains files file inside) kind reads in
    let own_name : Contains (held_names c) (class_name c) = own_held (images_of rules) file.bytes c b reads in
    let own_there : In (each_once (held_names c)) (class_name c) = in_once (held_names c) (class_name c) (from_contains (held_names c) (class_name c) own_name) in
    stays (scanned_class rules file.path c) (class_name c) (to_contains (classes_of rules files) (scanned_class rules file.path c) there) other
    (to_contains (each_once (held_names c)) (class_name c) own_there)
    (to_contains (defined_names (classes_of rules files)) (class_name c) (defined_there (classes_of rules files) (scanned_class rules file.path c) there))

pub definitions : DefinitionsFollow
definitions rules files is bytes none file image c inside kind reads accepted = elim (cases_Bool (selects rules.selection file.path)) [
  | inl selected ↦ selected_name rules is file image (bytes file inside) selected kind accepted
  | inr other ↦
      let same : image.bytes ≡ file.bytes = unselected_bytes rules file.path file.bytes image other accepted in
      let stay : cls rules.renames (class_name c) ≡ class_name c
      = unselected_name rules files (none_stranded (cls rules.renames) (classes_of rules files) none) file c inside (bytes file inside) other kind reads in
      ap name_in same ∙ name_is file.bytes c reads ∙ sym stay ∙ ap (cls rules.renames) (sym (name_is file.bytes c reads))
]

-- ---- a second migration

module _ (rules : Rules) (files images : List File) (is : IsRuleSet rules) (sources : TextsHaveSources rules) (bytes : AreBytes files) (apart : first_clash (targets_of rules files) ≡ None) (none : stranded (cls rules.renames) (classes_of rules files) ≡ None) (are : AreImages rules files images) where
  f : Text → Text
  f = cls rules.renames

  again : (t : Text) → cls rules.renames (cls rules.renames t) ≡ cls rules.renames t
  again t = let s : IsSettledRenames rules.renames = record { formed = is.formed; packages = packages_stay rules is } in (class_laws rules.renames s).again t

  -- an image is its own image
  image_stays : (image name : Text) → image ≡ cls rules.renames name → cls rules.renames image ≡ image
  image_stays image name e = ap (cls rules.renames) e ∙ again name ∙ sym e

  stays : NoneStranded (cls rules.renames) (classes_of rules files)
  stays = none_stranded (cls rules.renames) (classes_of rules files) none

  -- a class of the images: its own name is its own image, and so are the names that it holds where it is selected
  record Kept (s : Scanned) : Type 0 where
    name : cls rules.renames s.name ≡ s.name
    held : s.selected ≡ true → (m : Text) → In s.held m → cls rules.renames m ≡ m

  renamed_kept : (s : Scanned) (o : ScannedFrom rules images s) (i : IsImageOf rules files o.file) → selects rules.selection i.file.path ≡ true → Kept s
  renamed_kept s o i selected =
      let b : IsBytes i.file.bytes = bytes i.file i.there in
      let kind : kind_of i.file.path ≡ kinds.Class = sym (kind_again rules is i.file.path) ∙ ap kind_of (sym i.path) ∙ o.kind in
      let n : NewClass rules i.file.bytes i.image = new_class_of rules is i.file.path i.file.bytes i.image b selected kind i.accepted in
      let h : HasImagesOfNames rules.renames n.class (new_class (images_of rules) n.class) = follow rules i.file.bytes n.class is b n.reads n.renamed in
      let reads : read_class o.file.bytes ≡ Ok (new_class (images_of rules) n.class) = ap read_class (i.bytes ∙ n.bytes_are) ∙ n.renamed.reads in
      let both : Ok o.class ≡ Ok (new_class (images_of rules) n.class) = sym o.reads ∙ reads in
      let same : o.class ≡ new_class (images_of rules) n.class = cc in
      let name : s.name ≡ cls rules.renames (class_name n.class) = ap (λ (x : Scanned). x.name) o.is ∙ ap class_name same ∙ h.name in
      record {
        name = image_stays s.name (class_name n.class) name;
        held = λ e m k.
            let there : In (each_once (held_names o.class)) m = subst (λ (x : Scanned). In x.held m) o.is k in
            let inside : In (map (cls rules.renames) (held_names n.class)) m = subst (λ (ns : List Text). In ns m) (ap held_names same ∙ h.held) (from_once (held_names o.class) m there) in
            let g : From (cls rules.renames) (held_names n.class) m = from_map (cls rules.renames) (held_names n.class) m inside in
            image_stays m g.x (sym g.is);
      }

  copied_kept : (s : Scanned) (o : ScannedFrom rules images s) (i : IsImageOf rules files o.file) → selects rules.selection i.file.path ≡ false → Kept s
  copied_kept s o i other =
      let b : IsBytes i.file.bytes = bytes i.file i.there in
      let path : o.file.path ≡ i.file.path = i.path ∙ unselected_target rules i.file.path other in
      let content : o.file.bytes ≡ i.file.bytes = i.bytes ∙ unselected_bytes rules i.file.path i.file.bytes i.image other i.accepted in
      let reads : read_class i.file.bytes ≡ Ok o.class = ap read_class (sym content) ∙ o.reads in
      let kind : kind_of i.file.path ≡ kinds.Class = ap kind_of (sym path) ∙ o.kind in
      let stay : cls rules.renames (class_name o.class) ≡ class_name o.class = unselected_name rules files stays i.file o.class i.there b other kind reads in
      let name : s.name ≡ class_name o.class = ap (λ (x : Scanned). x.name) o.is in
      record {
        name = ap (cls rules.renames) name ∙ stay ∙ sym name;
        held = λ e m k.
            let unselected : s.selected ≡ false = ap (λ (x : Scanned). x.selected) o.is ∙ ap (selects rules.selection) path ∙ other in
            absurd cc;
      }

  kept : (s : Scanned) → In (classes_of rules images) s → Kept s
  kept s h =
      let o : ScannedFrom rules images s = scanned_from rules images s h in
      let i : IsImageOf rules files o.file = are.each o.file (to_contains images o.file o.there) in
      elim (cases_Bool (selects rules.selection i.file.path)) [
        | inl selected ↦ renamed_kept s o i selected
        | inr other ↦ copied_kept s o i other
      ]

  -- each defined name, and each name, is its own image
  defined_stays : (n : Text) → In (defined_names (classes_of rules images)) n → cls rules.renames n ≡ n
  defined_stays n h =
      let g : From (λ (s : Scanned). s.name) (classes_of rules images) n = defined_from (classes_of rules images) n h in
      ap (cls rules.renames) (sym g.is) ∙ (kept g.x g.there).name ∙ g.is

  name_stays : (n : Text) → In (names (classes_of rules images)) n → cls rules.renames n ≡ n
  name_stays n h =
      let g : Named (classes_of rules images) n = named_from (classes_of rules images) n h in
      elim g.names [
        | inl e ↦ ap (cls rules.renames) (sym e) ∙ (kept g.class g.there).name ∙ e
        | inr held ↦ (kept g.class g.there).held held.0 n held.1
      ]

  one_again : OneImage (cls rules.renames) (classes_of rules images)
  one_again d n is_defined is_name e =
      sym (defined_stays d (from_contains (defined_names (classes_of rules images)) d is_defined)) ∙ e ∙ name_stays n (from_contains (names (classes_of rules images)) n is_name)

  none_again : NoneStranded (cls rules.renames) (classes_of rules images)
  none_again s m there other held is_defined = defined_stays m (from_contains (defined_names (classes_of rules images)) m is_defined)

  own_file : (file : File) → Contains images file → IsOwnFile rules file
  own_file file there =
      let i : IsImageOf rules files file = are.each file there in
      let o : Own rules (target rules i.file.path) i.image.bytes = own rules is sources i.file.path i.file.bytes i.image (bytes i.file i.there) i.accepted in
      record {
        image = o.image;
        accepted = ap (λ (p : Text). image_at rules p file.bytes) i.path ∙ ap (image_at rules (target rules i.file.path)) i.bytes ∙ o.accepted;
        bytes = o.bytes_are ∙ sym i.bytes;
        path = ap (target rules) i.path ∙ target_again rules is i.file.path ∙ sym i.path;
      }

  pub migrated : IsMigrated rules images
  migrated = record {
    each = own_file;
    targets = none_clash (targets_of rules images) (all_apart_again rules is files apart images (λ y h. are.each y (to_contains images y h)) are.rise);
    names = no_clash (cls rules.renames) (classes_of rules images) one_again;
    classes = none_left (cls rules.renames) (classes_of rules images) none_again;
  }

pub second : SecondMigration
second rules files images rules_are bytes apart none are = migrated rules files images rules_are.settled rules_are.sources bytes apart none are
