-- What is known of the targets that were seen.
use mathlib.Core.Bool.{true≢false}
use Rattle.std.proofs.Common.{◌≡◌, Bool, true, false, ◌||◌, List, ◌∷◌, refl, sym, ap, ◌∙◌, subst}
use Rattle.std.specs.List.{list_any}
use Rattle.std.specs.Str.{bytes_eq}
use Rattle.std.specs.BTreeSet.{BTreeSet}
use Rattle.std.proofs.lemmas.Bool.{false_from_ne_true, or_from, or_parts}
use Rattle.std.proofs.lemmas.Slice.Eq.{bytes_eq-Decides}
use Rattle.desk_base.specs.Names.{Text}
use Rattle.desk_clashes.specs.Clashes.{clashes, is_folder}
use Rattle.desk_clashes.specs.Known.{holds, folders_of, HoldsFolders, Knows}
use Rattle.desk_clashes.proofs.Folders.{any_clash, any_swapped, any_weaker, folder_fails, folder_of_folder, folder_shorter, list_any-same, no_folder}
use Rattle.desk_clashes.proofs.Sets.{shorter_differs}

-- what is looked up of a target says whether it clashes with one that was seen
pub meets_all : (names folders : BTreeSet Text) (apart : Bool) (t : Text) (seen : List Text) → Knows names folders apart seen
    → (holds names t || (holds folders t || list_any (holds names) (folders_of t))) ≡ list_any (clashes t) seen
meets_all names folders apart t seen k =
    ap (λ v. v || (holds folders t || list_any (holds names) (folders_of t))) (k.named t)
    ∙ ap (λ v. list_any (bytes_eq t) seen || (v || list_any (holds names) (folders_of t))) (k.nested t)
    ∙ ap (λ v. list_any (bytes_eq t) seen || (list_any (is_folder t) seen || v)) (list_any-same (holds names) (λ folder. list_any (bytes_eq folder) seen) (folders_of t) (λ folder. k.named folder) ∙ any_swapped seen t)
    ∙ any_clash t seen

-- an answer that is known before all is looked up
pub meets_name : (names folders : BTreeSet Text) (apart : Bool) (t : Text) (seen : List Text) → Knows names folders apart seen → holds names t ≡ true → true ≡ list_any (clashes t) seen
meets_name names folders apart t seen k e = sym (ap (λ v. v || (holds folders t || list_any (holds names) (folders_of t))) e) ∙ meets_all names folders apart t seen k

pub meets_folder : (names folders : BTreeSet Text) (apart : Bool) (t : Text) (seen : List Text) → Knows names folders apart seen → holds names t ≡ false → holds folders t ≡ true → true ≡ list_any (clashes t) seen
meets_folder names folders apart t seen k e f =
    sym (ap (λ v. v || (holds folders t || list_any (holds names) (folders_of t))) e ∙ ap (λ v. v || list_any (holds names) (folders_of t)) f) ∙ meets_all names folders apart t seen k

pub meets_below : (names folders : BTreeSet Text) (apart : Bool) (t : Text) (seen : List Text) → Knows names folders apart seen → holds names t ≡ false → holds folders t ≡ false
    → list_any (holds names) (folders_of t) ≡ list_any (clashes t) seen
meets_below names folders apart t seen k e f =
    sym (ap (λ v. v || (holds folders t || list_any (holds names) (folders_of t))) e ∙ ap (λ v. v || list_any (holds names) (folders_of t)) f) ∙ meets_all names folders apart t seen k

-- the folders of targets have their folders among them
pub folders_held : (names folders : BTreeSet Text) (apart : Bool) (seen : List Text) → Knows names folders apart seen → HoldsFolders folders
folders_held names folders apart seen k text folder held inside =
    k.nested folder ∙ any_weaker (is_folder text) (is_folder folder) seen (λ u e. folder_of_folder folder text u inside e) (sym (k.nested text) ∙ held)

-- where the targets lie apart, none of them is a folder of their folder
pub none_above : (names folders : BTreeSet Text) (apart : Bool) (seen : List Text) → Knows names folders apart seen → apart ≡ true
    → (folder : Text) → holds folders folder ≡ true → list_any (holds names) (folders_of folder) ≡ false
none_above names folders apart seen k e folder held = no_folder (holds names) folder (λ q inside. k.apart e q (folders_held names folders apart seen k folder q held inside))

-- one target more was seen, and those before lay apart from it and from one another
still_apart : (names folders : BTreeSet Text) (t : Text) (seen : List Text) → Knows names folders true seen → list_any (clashes t) seen ≡ false
    → (q : Text) → (is_folder q t || holds folders q) ≡ true → (bytes_eq q t || holds names q) ≡ false
still_apart names folders t seen k none q e = by (is_folder q t) refl e where
  unseen : (holds folders t ≡ false) × (list_any (holds names) (folders_of t) ≡ false)
  unseen =
      let above : Bool = list_any (holds names) (folders_of t) in
      or_parts (holds folders t) above ((or_parts (holds names t) (holds folders t || above) (meets_all names folders true t seen k ∙ none)).1)

  by : (b : Bool) → is_folder q t ≡ b → (b || holds folders q) ≡ true → (bytes_eq q t || holds names q) ≡ false
  by true inside held = or_from (bytes_eq q t) (holds names q) (shorter_differs q t (folder_shorter q t inside)) (folder_fails (holds names) t q unseen.1 inside)
  by false apart held =
      or_from (bytes_eq q t) (holds names q) (false_from_ne_true (bytes_eq q t) (λ same. true≢false (sym held ∙ ap (holds folders) ((bytes_eq-Decides q t).0 same) ∙ unseen.0))) (k.apart refl q held)

-- one target more was seen
pub seen_more : (names folders more nested : BTreeSet Text) (apart still : Bool) (t : Text) (seen : List Text) → Knows names folders apart seen
    → ((q : Text) → holds more q ≡ (bytes_eq q t || holds names q)) → ((q : Text) → holds nested q ≡ (is_folder q t || holds folders q))
    → (still ≡ true → (apart ≡ true) × (list_any (clashes t) seen ≡ false)) → Knows more nested still (t ∷ seen)
seen_more names folders more nested apart still t seen known put put_folders clear = record {
  named = λ q. put q ∙ ap (λ b. bytes_eq q t || b) (known.named q);
  nested = λ q. put_folders q ∙ ap (λ b. is_folder q t || b) (known.nested q);
  apart = λ e q held.
      put q ∙ still_apart names folders t seen (subst (λ (b : Bool). Knows names folders b seen) (clear e).0 known) (clear e).1 q (sym (put_folders q) ∙ held);
}
