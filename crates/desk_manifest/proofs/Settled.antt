-- A manifest's image is its own image, and nothing of it is changed.
use Rattle.std.proofs.Common.{◌≡◌, ℕ, ◌+◌, ◌≤◌, Bool, true, false, cond, not, ◌&&◌, List, [], ◌∷◌, ◌++◌, length, take, drop, Option, None, refl, ap, ap₂, sym, subst, ◌∙◌, ◌⊎◌, inl, inr, take-append-drop}
use Rattle.std.specs.List.{list_all}
use Rattle.std.specs.Str.{bytes_eq}
use Rattle.std.proofs.lemmas.Slice.Eq.{bytes_eq-Decides}
use Rattle.std.proofs.lemmas.Bool.{and_parts, and_from}
use Rattle.desk_base.specs.Names.{Text, is_empty}
use Rattle.desk_lines.specs.declared.lines.LineEnd.{LineEnd}
use Rattle.desk_lines.specs.declared.lines.LineEnd.TheVariants as ends
use Rattle.desk_lines.specs.Lines.{Line, joined, lines, is_one_line, is_lf, begins_lf, ends_well, are_well_ended}
use Rattle.desk_lines.specs.Cuts.{until, onward}
use Rattle.desk_lines.proofs.Cuts.{fails, until-onward, fails-until}
use Rattle.desk_lines.proofs.LineLaws.{formed-lines, lines-joined}
use Rattle.desk_sections.specs.Folding.{begins_character, pieces, folded_lines}
use Rattle.desk_sections.specs.Sections.{is_colon, is_colon_and_space, is_header_line, Item, section_end, header, Grouped, grouped, item_lines, first_bad_line, name_of, unfolded, value_of, last_end}
use Rattle.desk_manifest_laws.proofs.Folding.{is_header, is_proper, Read, read-folded, pieces_flat, is_ended, ends_other, formed_folded}
use Rattle.desk_manifest_laws.proofs.Grouping.{is_good, GroupedWell, grouped_well, filled_header, grouped-items, good_none}
use Rattle.desk_manifest_laws.proofs.Flat.{flat_parts, flat_both}
use Rattle.desk_manifest.specs.Manifests.{or_cr_lf, fold_end, Images, is_changed, refolded, header_image, images, count_changed, migrated}

-- images that later images keep
pub record IsSettled (image later : Images) : Type 0 where
  pub flat : (main : Bool) (name value : Text) → is_one_line value ≡ true → is_one_line (image main name value) ≡ true
  pub short : (main : Bool) (name value : Text) → bytes_eq (image main name value) value ≡ false → length name ≤ 70
  pub again : (main : Bool) (name value : Text) → later main name (image main name value) ≡ image main name value
  pub spaced : (main : Bool) (name value : Text) → begins_character (image main name value) ≡ false → later main name (32 ∷ image main name value) ≡ 32 ∷ image main name value

abbrev lines_flat : List Line → Bool
lines_flat = list_all (λ l. is_one_line l.content)

flat_lines : (ls more : List Line) → are_well_ended (ls ++ more) ≡ true → lines_flat ls ≡ true
flat_lines [] more h = refl
flat_lines (l ∷ ls) more h = and_from _ _ (and_parts _ _ h).0 (flat_lines ls more (and_parts _ _ (and_parts _ _ h).1).1)

flat_drop : (k : ℕ) (t : Text) → is_one_line t ≡ true → is_one_line (drop k t) ≡ true
flat_drop k t h = (flat_parts (take k t) (drop k t) (ap is_one_line (take-append-drop k t) ∙ h)).1

flat_unfolded : (ls : List Line) → lines_flat ls ≡ true → is_one_line (unfolded ls) ≡ true
flat_unfolded [] h = refl
flat_unfolded (l ∷ ls) h = flat_both (drop 1 l.content) (unfolded ls) (flat_drop 1 l.content (and_parts _ _ h).0) (flat_unfolded ls (and_parts _ _ h).1)

flat_name : (ls : List Line) → lines_flat ls ≡ true → is_one_line (name_of ls) ≡ true
flat_name [] h = refl
flat_name (l ∷ ls) h = (flat_parts (until is_colon l.content) (onward is_colon l.content) (ap is_one_line (until-onward is_colon l.content) ∙ (and_parts _ _ h).0)).0

flat_value : (ls : List Line) → lines_flat ls ≡ true → is_one_line (value_of ls) ≡ true
flat_value [] h = refl
flat_value (l ∷ ls) h =
    flat_both (drop 2 (onward is_colon l.content)) (unfolded ls)
    (flat_drop 2 (onward is_colon l.content) (flat_parts (until is_colon l.content) (onward is_colon l.content) (ap is_one_line (until-onward is_colon l.content) ∙ (and_parts _ _ h).0)).1)
    (flat_unfolded ls (and_parts _ _ h).1)

formed_rest : (ls more : List Line) → are_well_ended (ls ++ more) ≡ true → are_well_ended more ≡ true
formed_rest [] more h = h
formed_rest (l ∷ ls) more h = formed_rest ls more (and_parts _ _ (and_parts _ _ h).1).1

last_along : (l : Line) (ls more : List Line) → are_well_ended (l ∷ (ls ++ more)) ≡ true → ends_well (32 ∷ []) (last_end (l ∷ ls)) more ≡ true
last_along l [] more h = ends_other l.content (32 ∷ []) l.end more more refl refl refl (and_parts _ _ (and_parts _ _ h).1).0
last_along l (m ∷ ls) more h = last_along m ls more (and_parts _ _ (and_parts _ _ h).1).1

last_well : (ls more : List Line) → is_header ls ≡ true → are_well_ended (ls ++ more) ≡ true → ends_well (32 ∷ []) (last_end ls) more ≡ true
last_well [] more g h = absurd cc
last_well (l ∷ ls) more g h = last_along l ls more h

proper_name : (content : Text) → is_header_line content ≡ true → is_proper (until is_colon content) ≡ true
proper_name [] h = absurd cc
proper_name (b ∷ t) h =
    elim (is_colon b) as (λ (c : Bool). is_colon b ≡ c → (not (is_empty (cond c [] (b ∷ until is_colon t))) && is_colon_and_space (onward is_colon (b ∷ t))) ≡ true → fails is_colon (cond c [] (b ∷ until is_colon t)) ≡ true → is_proper (cond c [] (b ∷ until is_colon t)) ≡ true) [
      | true ↦ λ e g f. absurd cc
      | false ↦ λ e g f. and_from _ _ (and_parts _ _ h).0 f
    ] refl (and_parts _ _ h).1 (fails-until is_colon (b ∷ t))

proper_header : (ls : List Line) → is_header ls ≡ true → is_proper (name_of ls) ≡ true
proper_header [] h = absurd cc
proper_header (l ∷ ls) h = proper_name l.content (and_parts _ _ h).0

header_filled : (ls more : List Line) → is_header ls ≡ true → (is_empty (ls ++ more) ≡ false) × (begins_lf (ls ++ more) ≡ false)
header_filled [] more h = absurd cc
header_filled (l ∷ ls) more h = (refl, ap (λ (t : Bool). t && is_lf l.end) (filled_header l.content (and_parts _ _ h).0))

first_filled : (between last : LineEnd) (p : Text) (ps : List Text) → is_header (folded_lines between last (p ∷ ps)) ≡ true → is_empty p ≡ false
first_filled between last p [] h = filled_header p (and_parts _ _ h).0
first_filled between last p (q ∷ ps) h = filled_header p (and_parts _ _ h).0

formed_pieces : (between last : LineEnd) (ps : List Text) (more : List Line) → is_header (folded_lines between last ps) ≡ true → is_ended between ≡ true → list_all is_one_line ps ≡ true → ends_well (32 ∷ []) last more ≡ true → are_well_ended more ≡ true → are_well_ended (folded_lines between last ps ++ more) ≡ true
formed_pieces between last [] more h b f e m = absurd cc
formed_pieces between last (p ∷ ps) more h b f e m = formed_folded between last p ps more (first_filled between last p ps h) b f e m

ends_same : (content : Text) (end : LineEnd) (before after : List Line) → begins_lf after ≡ begins_lf before → is_empty after ≡ is_empty before → ends_well content end before ≡ true → ends_well content end after ≡ true
ends_same content ends.EndOfText before after b n h = ap (λ (t : Bool). not (is_empty content) && t) n ∙ h
ends_same content ends.Lf before after b n h = refl
ends_same content ends.Cr before after b n h = ap not b ∙ h
ends_same content ends.CrLf before after b n h = refl

-- lines, and others behind which something else stands
formed_behind : (ls before after : List Line) → begins_lf after ≡ begins_lf before → is_empty after ≡ is_empty before → are_well_ended after ≡ true → are_well_ended (ls ++ before) ≡ true → are_well_ended (ls ++ after) ≡ true
formed_behind [] before after b n f h = f
formed_behind (l ∷ []) before after b n f h = and_from _ _ (and_parts _ _ h).0 (and_from _ _ (ends_same l.content l.end before after b n (and_parts _ _ (and_parts _ _ h).1).0) f)
formed_behind (l ∷ m ∷ ls) before after b n f h =
    and_from _ _ (and_parts _ _ h).0 (and_from _ _ (ends_same l.content l.end (m ∷ (ls ++ before)) (m ∷ (ls ++ after)) refl refl (and_parts _ _ (and_parts _ _ h).1).0) (formed_behind (m ∷ ls) before after b n f (and_parts _ _ (and_parts _ _ h).1).1))

-- what is to be shown of a header's lines and those of its image
record HeaderKept (later : Images) (main : Bool) (name value : Text) (new after : List Line) : Type 0 where
  headed : is_header new ≡ true
  formed : are_well_ended (new ++ after) ≡ true
  stays : is_changed later main new ≡ false
  named : name_of new ≡ name
  valued : (value_of new ≡ value) ⊎ (value_of new ≡ 32 ∷ value)

same_value : (later : Images) (main : Bool) (n v : Text) (ls : List Line) → name_of ls ≡ n → value_of ls ≡ v → later main n v ≡ v → is_changed later main ls ≡ false
same_value later main n v ls e f g =
    ap₂ (λ (x y : Text). not (bytes_eq (later main x y) y)) e f ∙ ap not ((bytes_eq-Decides (later main n v) v).1 g)

header_kept : (image later : Images) (between : LineEnd) (main : Bool) (ls before after : List Line) → IsSettled image later → is_ended between ≡ true → is_header ls ≡ true → are_well_ended (ls ++ before) ≡ true → begins_lf after ≡ begins_lf before → is_empty after ≡ is_empty before → are_well_ended after ≡ true → HeaderKept later main (name_of ls) (image main (name_of ls) (value_of ls)) (header_image image between main ls) after
header_kept image later between main ls before after i b h f begins empties g =
    elim (bytes_eq (image main (name_of ls) (value_of ls)) (value_of ls)) as (λ (t : Bool). bytes_eq (image main (name_of ls) (value_of ls)) (value_of ls) ≡ t → HeaderKept later main (name_of ls) (image main (name_of ls) (value_of ls)) (cond (not t) (refolded between (image main (name_of ls) (value_of ls)) ls) ls) after) [
      | true ↦ λ e.
          let same : image main (name_of ls) (value_of ls) ≡ value_of ls = (bytes_eq-Decides (image main (name_of ls) (value_of ls)) (value_of ls)).0 e in
          record {
            headed = h;
            formed = formed_behind ls before after begins empties g f;
            stays = same_value later main (name_of ls) (value_of ls) ls refl refl (subst (λ (v : Text). later main (name_of ls) v ≡ v) same (i.again main (name_of ls) (value_of ls)));
            named = refl;
            valued = inl (sym same);
          }
      | false ↦ λ e.
          let new : Text = image main (name_of ls) (value_of ls) in
          let flat : lines_flat ls ≡ true = flat_lines ls before f in
          let read : Read (name_of ls) new (refolded between new ls) = read-folded between (last_end ls) (name_of ls) new (proper_header ls h) (i.short main (name_of ls) (value_of ls) e) in
          record {
            headed = read.headed;
            formed = formed_pieces between (last_end ls) (pieces (length (name_of ls ++ (58 ∷ 32 ∷ new))) 72 (name_of ls ++ (58 ∷ 32 ∷ new))) after read.headed b
                (pieces_flat (length (name_of ls ++ (58 ∷ 32 ∷ new))) 72 (name_of ls ++ (58 ∷ 32 ∷ new))
                (flat_both (name_of ls) (58 ∷ 32 ∷ new) (flat_name ls flat) (and_from _ _ refl (and_from _ _ refl (i.flat main (name_of ls) (value_of ls) (flat_value ls flat))))))
                (ends_same (32 ∷ []) (last_end ls) before after begins empties (last_well ls before h f)) g;
            stays = elim read.valued [
              | inl v ↦ same_value later main (name_of ls) new (refolded between new ls) read.named v (i.again main (name_of ls) (value_of ls))
              | inr v ↦ same_value later main (name_of ls) (32 ∷ new) (refolded between new ls) read.named v.0 (i.spaced main (name_of ls) (value_of ls) v.1)
            ];
            named = read.named;
            valued = elim read.valued [ inl v ↦ inl v | inr v ↦ inr v.0 ];
          }
    ] refl

-- what is read of the first header of the main section whose name passes
abbrev pub first_read : (Text → Bool) → (Text → Option Text) → List Item → Option Text
first_read test read [] = None
first_read test read (section_end end ∷ items) = None
first_read test read (header ls ∷ items) = cond (test (name_of ls)) (read (value_of ls)) (first_read test read items)

-- nothing is read of the image of such a header, with or without a blank before it
abbrev pub IsQuiet : Images → (Text → Bool) → (Text → Option Text) → Type 0
IsQuiet image test read = (name value : Text) → test name ≡ true → (read (image true name value) ≡ None) × (read (32 ∷ image true name value) ≡ None)

quiet_header : (image : Images) (test : Text → Bool) (read : Text → Option Text) (name value : Text) (new : List Line) (rest : Option Text) → IsQuiet image test read → name_of new ≡ name → (value_of new ≡ image true name value) ⊎ (value_of new ≡ 32 ∷ image true name value) → rest ≡ None → cond (test (name_of new)) (read (value_of new)) rest ≡ None
quiet_header image test read name value new rest q e f r = elim (test (name_of new)) as (λ (c : Bool). test (name_of new) ≡ c → cond c (read (value_of new)) rest ≡ None) [
  | true ↦ λ k. elim f [
    | inl v ↦ ap read v ∙ (q name value (ap test (sym e) ∙ k)).0
    | inr v ↦ ap read v ∙ (q name value (ap test (sym e) ∙ k)).1
  ]
  | false ↦ λ k. r
] refl

-- what later images keep of items
record Kept (image later : Images) (main : Bool) (items new : List Item) : Type 0 where
  good : is_good new ≡ true
  formed : are_well_ended (item_lines new) ≡ true
  begins : begins_lf (item_lines new) ≡ begins_lf (item_lines items)
  empties : is_empty (item_lines new) ≡ is_empty (item_lines items)
  stays : (end : LineEnd) → images later end main new ≡ new
  uncounted : count_changed later main new ≡ 0
  quiet : (test : Text → Bool) (read : Text → Option Text) → main ≡ true → IsQuiet image test read → first_read test read new ≡ None

kept : (image later : Images) (between : LineEnd) (main : Bool) (items : List Item) → IsSettled image later → is_ended between ≡ true → is_good items ≡ true → are_well_ended (item_lines items) ≡ true → Kept image later main items (images image between main items)
kept image later between main [] i b h f = record { good = refl; formed = refl; begins = refl; empties = refl; stays = λ end. refl; uncounted = refl; quiet = λ test read m q. refl }
kept image later between main (section_end end ∷ items) i b h f =
    let k : Kept image later false items (images image between false items) = kept image later between false items i b h (and_parts _ _ f).1 in
    record {
      good = k.good;
      formed = and_from _ _ (ends_same [] end (item_lines items) (item_lines (images image between false items)) k.begins k.empties (and_parts _ _ f).0) k.formed;
      begins = refl;
      empties = refl;
      stays = λ e. ap (λ (r : List Item). section_end end ∷ r) (k.stays e);
      uncounted = k.uncounted;
      quiet = λ test read m q. refl;
    }
kept image later between main (header ls ∷ items) i b h f =
    let k : Kept image later main items (images image between main items) = kept image later between main items i b (and_parts _ _ h).1 (formed_rest ls (item_lines items) f) in
    let n : HeaderKept later main (name_of ls) (image main (name_of ls) (value_of ls)) (header_image image between main ls) (item_lines (images image between main items)) =
    header_kept image later between main ls (item_lines items) (item_lines (images image between main items)) i b (and_parts _ _ h).0 f k.begins k.empties k.formed in
    let old : _ = header_filled ls (item_lines items) (and_parts _ _ h).0 in
    let new : _ = header_filled (header_image image between main ls) (item_lines (images image between main items)) n.headed in
    record {
      good = and_from _ _ n.headed k.good;
      formed = n.formed;
      begins = new.1 ∙ sym old.1;
      empties = new.0 ∙ sym old.0;
      stays = λ e. ap₂ (λ (c : Bool) (r : List Item). header (cond c (refolded e (later main (name_of (header_image image between main ls)) (value_of (header_image image between main ls))) (header_image image between main ls)) (header_image image between main ls)) ∷ r) n.stays (k.stays e);
      uncounted = ap₂ (λ (c : Bool) (m : ℕ). cond c 1 0 + m) n.stays k.uncounted;
      quiet = λ test read m q.
          quiet_header image test read (name_of ls) (value_of ls) (header_image image between main ls) (first_read test read (images image between main items)) q n.named
          (subst (λ (c : Bool). (value_of (header_image image between main ls) ≡ image c (name_of ls) (value_of ls)) ⊎ (value_of (header_image image between main ls) ≡ 32 ∷ image c (name_of ls) (value_of ls))) m n.valued)
          (k.quiet test read m q);
    }

or_ended : (end : LineEnd) → is_ended (or_cr_lf end) ≡ true
or_ended ends.EndOfText = refl
or_ended ends.Lf = refl
or_ended ends.Cr = refl
or_ended ends.CrLf = refl

fold_ended : (ls : List Line) → is_ended (fold_end ls) ≡ true
fold_ended [] = refl
fold_ended (l ∷ ls) = or_ended l.end

-- the items of a text's lines, none of which is bad
abbrev pub items_of : Text → List Item
items_of t = (grouped (lines t)).items

-- the image of a manifest, read again
pub record Again (image later : Images) (t : Text) : Type 0 where
  pub back : lines (migrated image (fold_end (lines t)) (items_of t)).bytes ≡ item_lines (images image (fold_end (lines t)) true (items_of t))
  pub items : items_of (migrated image (fold_end (lines t)) (items_of t)).bytes ≡ images image (fold_end (lines t)) true (items_of t)
  pub good : first_bad_line false 0 (lines (migrated image (fold_end (lines t)) (items_of t)).bytes) ≡ None
  pub stays : (end : LineEnd) → migrated later end (images image (fold_end (lines t)) true (items_of t)) ≡ record { bytes = (migrated image (fold_end (lines t)) (items_of t)).bytes; changed = 0 }
  pub quiet : (test : Text → Bool) (read : Text → Option Text) → IsQuiet image test read → first_read test read (images image (fold_end (lines t)) true (items_of t)) ≡ None

-- under later images that keep the first ones nothing of it is changed
pub image_again : (image later : Images) → IsSettled image later → (t : Text) → first_bad_line false 0 (lines t) ≡ None → Again image later t
image_again image later i t e =
    let w : GroupedWell false (lines t) (grouped (lines t)) = grouped_well false 0 (lines t) e in
    let whole : item_lines (items_of t) ≡ lines t = ap (λ (f : List Line). f ++ item_lines (items_of t)) (sym (w.outside refl)) ∙ w.same in
    let is : List Item = images image (fold_end (lines t)) true (items_of t) in
    let k : Kept image later true (items_of t) is = kept image later (fold_end (lines t)) true (items_of t) i (fold_ended (lines t)) w.good (ap are_well_ended whole ∙ formed-lines t) in
    let back : lines (joined (item_lines is)) ≡ item_lines is = lines-joined (item_lines is) k.formed in
    record {
      back = back;
      items = ap (λ (ls : List Line). (grouped ls).items) back ∙ ap (λ (g : Grouped). g.items) (grouped-items is k.good);
      good = ap (first_bad_line false 0) back ∙ good_none false 0 is k.good;
      stays = λ end. ap₂ (λ (r : List Item) (n : ℕ). record { bytes = joined (item_lines r); changed = n }) (k.stays end) k.uncounted;
      quiet = λ test read q. k.quiet test read refl q;
    }
