-- How far a manifest is migrated, header by header.
use Rattle.std.proofs.Common.{◌≡◌, ◌<◌, ◌≤◌, ◌+◌, ◌-◌, ℕ, Bool, true, false, cond, not, ◌&&◌, List, [], ◌∷◌, ◌++◌, length, take, drop, Option, Some, None, Result, Ok, Err, refl, sym, ap, ap₂, ◌∙◌, arith, append_assoc, append-nil, length-append}
use Rattle.std.specs.Str.{bytes_eq}
use Rattle.std.proofs.lemmas.Slice.Eq.{bytes_eq-Decides}
use Rattle.std.proofs.lemmas.List.{take_at, drop_at, drop-drop}
use Rattle.std.proofs.lemmas.Bool.{and_parts, not-true, false_from_ne_true}
use Rattle.desk_base.specs.Names.{Text, is_empty}
use Rattle.desk_base.specs.declared.Changed.{Changed}
use Rattle.desk_base.proofs.Lists.{empty_is, added_on}
use Rattle.desk_rules.specs.Rules.{Rules}
use Rattle.desk_lines.specs.declared.lines.LineEnd.{LineEnd}
use Rattle.desk_lines.specs.Lines.{Line, line, lines, end_bytes, joined}
use Rattle.desk_lines.specs.Cuts.{until, onward}
use Rattle.desk_clauses.specs.Edits.{edited, between, IsEdited}
use Rattle.desk_clauses.specs.declared.edits.Edits.{Edits}
use Rattle.desk_clauses.proofs.Edited.{kept}
use Rattle.desk_sections.specs.Sections.{is_colon, is_continuation, is_header_line, Item, section_end, header, Grouped, put, grouped, item_lines, first_bad_line, unfolded, name_of, value_of, last_end}
use Rattle.desk_sections.specs.Folding.{folded_lines}
use Rattle.desk_sections.specs.Reading.{begins_anew, end_behind, IsContinued}
use Rattle.desk_sections.proofs.Headed.{joined_append}
use Rattle.desk_manifest_laws.proofs.Grouping.{filled_header}
use Rattle.desk_manifest.specs.Manifests.{bundle_version, fold_end, Images, images_of, is_changed, header_image, refolded, images, count_changed, migrated, manifest_by, manifest}
use Rattle.desk_manifest.specs.Reading.{header_bytes}
use Rattle.desk_manifest.proofs.Grouped.{put_empty, put_header, grouped_further, bad_further, bad_anew, bad_header, bad_empty, bad_other, last_is, joined_folded}

abbrev pub items_of : Text → List Item
items_of text = (grouped (lines text)).items

abbrev pub image_bytes : Images → LineEnd → Bool → List Item → Text
image_bytes image fold main items = joined (item_lines (images image fold main items))

-- the lines before the rest of a text are migrated
pub record IsMigratedTo (image : Images) (fold : LineEnd) (text rest : Text) (edits : Edits) (changed : ℕ) (main : Bool) : Type 0 where
  pub inside : length rest ≤ length text
  pub ahead : drop (length text - length rest) text ≡ rest
  pub copied : edits.copied ≤ length text - length rest
  pub few : changed + length rest ≤ length text
  pub bytes_are : edited text edits (length text - length rest) ++ image_bytes image fold main (items_of rest) ≡ image_bytes image fold true (items_of text)
  pub changed_are : changed + count_changed image main (items_of rest) ≡ count_changed image true (items_of text)
  pub good : first_bad_line false (length text - length rest) (lines rest) ≡ first_bad_line false 0 (lines text)

pub migrated_none : (image : Images) (fold : LineEnd) (text : Text) (edits : Edits) → edits.copied ≡ 0 → edits.image ≡ [] → IsMigratedTo image fold text text edits 0 true
migrated_none image fold text edits copied none =
    let start : length text - length text ≡ 0 = omega arith in
    record {
      inside = omega arith;
      ahead = ap (λ (n : ℕ). drop n text) start;
      copied = omega (arith, copied);
      few = omega arith;
      bytes_are = ap (λ (t : Text). (t ++ take ((length text - length text) - edits.copied) (drop edits.copied text)) ++ image_bytes image fold true (items_of text)) none
          ∙ ap (λ (n : ℕ). take n (drop edits.copied text) ++ image_bytes image fold true (items_of text)) (nothing (length text) edits.copied);
      changed_are = omega arith;
      good = ap (λ (n : ℕ). first_bad_line false n (lines text)) start;
    }
  where
    nothing : (n k : ℕ) → (n - n) - k ≡ 0
    nothing n k = omega arith

-- some bytes at the front of the rest were gone over
record Passed (text rest front more : Text) : Type 0 where
  at_is : (length text - length rest) + length front ≡ length text - length more
  inside : length more ≤ length text
  front_is : between (length text - length rest) (length text - length more) text ≡ front
  ahead : drop (length text - length more) text ≡ more
  less : length rest ≡ length front + length more

passed : (text rest front more : Text) → length rest ≤ length text → drop (length text - length rest) text ≡ rest → rest ≡ front ++ more → Passed text rest front more
passed text rest front more inside ahead whole =
    let size : length rest ≡ length front + length more = ap length whole ∙ length-append front more in
    let at_is : (length text - length rest) + length front ≡ length text - length more = omega (arith, inside, size) in
    let width : length front ≡ (length text - length more) - (length text - length rest) = omega (arith, inside, size) in
    record {
      at_is = at_is;
      inside = omega (arith, inside, size);
      front_is = ap (take ((length text - length more) - (length text - length rest))) (ahead ∙ whole) ∙ take_at front more _ width;
      ahead = ap (λ (n : ℕ). drop n text) (sym at_is ∙ plus (length text - length rest) (length front)) ∙ sym (drop-drop (length front) (length text - length rest) text) ∙ ap (drop (length front)) (ahead ∙ whole) ∙ drop_at front more (length front) refl;
      less = size;
    }
  where
    plus : (a b : ℕ) → a + b ≡ a + b
    plus a b = refl

-- an empty line
pub empty_line : (image : Images) (fold : LineEnd) (text rest : Text) (edits : Edits) (changed : ℕ) (main : Bool) → IsMigratedTo image fold text rest edits changed main
    → (content : Text) (end : LineEnd) (more : Text) → lines rest ≡ line content end ∷ lines more → rest ≡ content ++ (end_bytes end ++ more) → is_empty content ≡ true → IsMigratedTo image fold text more edits changed false
empty_line image fold text rest edits changed main k content end more same whole none =
    let no : content ≡ [] = empty_is content none in
    let p = passed text rest (end_bytes end) more k.inside k.ahead (whole ∙ ap (λ (t : Text). t ++ (end_bytes end ++ more)) no) in
    let items : items_of rest ≡ section_end end ∷ items_of more = ap (λ (ls : List Line). (grouped ls).items) same ∙ ap (λ (g : Grouped). g.items) (put_empty (line content end) (grouped (lines more)) none) in
    let stay = kept text edits (length text - length rest) (length text - length more) k.copied (omega (arith, p.at_is)) in
    let at = length text - length rest in
    record {
      inside = p.inside;
      ahead = p.ahead;
      copied = stay.order;
      few = omega (arith, k.few, p.less);
      bytes_are = ap (λ (t : Text). t ++ image_bytes image fold false (items_of more)) (stay.stands ∙ ap (λ (t : Text). edited text edits at ++ t) p.front_is)
          ∙ append_assoc (edited text edits at) (end_bytes end) (image_bytes image fold false (items_of more))
          ∙ ap (λ (is : List Item). edited text edits at ++ image_bytes image fold main is) (sym items)
          ∙ k.bytes_are;
      changed_are = ap (λ (is : List Item). changed + count_changed image main is) (sym items) ∙ k.changed_are;
      good =
          let size : length (content ++ end_bytes end) ≡ length (end_bytes end) = ap (λ (t : Text). length (t ++ end_bytes end)) no in
          let next : at + length (content ++ end_bytes end) ≡ length text - length more = omega (arith, size, p.at_is) in
          sym (ap (first_bad_line false at) same ∙ bad_empty at (line content end) (lines more) none ∙ ap (λ (n : ℕ). first_bad_line false n (lines more)) next) ∙ k.good;
    }

-- a header's lines, at the front of the rest
pub record AtHeader (rest content : Text) (end : LineEnd) (more : Text) (last : LineEnd) (behind : Text) : Type 0 where
  pub same : lines rest ≡ line content end ∷ lines more
  pub whole : rest ≡ content ++ (end_bytes end ++ more)
  pub is_header : is_header_line content ≡ true
  pub continued : IsContinued more end last behind

record HeaderFront (text rest content : Text) (end : LineEnd) (more : Text) (last : LineEnd) (behind : Text) (k : AtHeader rest content end more last behind) : Type 0 where
  front : Passed text rest (joined (line content end ∷ k.continued.further)) behind
  items : items_of rest ≡ header (line content end ∷ k.continued.further) ∷ items_of behind
  good : first_bad_line false (length text - length rest) (lines rest) ≡ first_bad_line false (length text - length behind) (lines behind)

header_front : (text rest content : Text) (end : LineEnd) (more : Text) (last : LineEnd) (behind : Text) → length rest ≤ length text → drop (length text - length rest) text ≡ rest → (k : AtHeader rest content end more last behind) → HeaderFront text rest content end more last behind k
header_front text rest content end more last behind inside ahead k =
    let f = k.continued.further in
    let l = line content end in
    let at = length text - length rest in
    let whole : rest ≡ joined (l ∷ f) ++ behind =
    k.whole ∙ ap (λ (t : Text). content ++ (end_bytes end ++ t)) k.continued.whole
    ∙ ap (λ (t : Text). content ++ t) (sym (append_assoc (end_bytes end) (joined f) behind)) ∙ sym (append_assoc content (end_bytes end ++ joined f) behind) in
    let p = passed text rest (joined (l ∷ f)) behind inside ahead whole in
    let g = grouped_further f (lines behind) k.continued.all k.continued.no_more in
    let more_items : (grouped (lines more)).items ≡ items_of behind = ap (λ (ls : List Line). (grouped ls).items) k.continued.lines_are ∙ g.1 in
    let more_further : (grouped (lines more)).further ≡ f = ap (λ (ls : List Line). (grouped ls).further) k.continued.lines_are ∙ g.0 in
    let size : length (joined (l ∷ f)) ≡ length (content ++ end_bytes end) + length (joined f) = ap length (sym (append_assoc content (end_bytes end) (joined f))) ∙ length-append (content ++ end_bytes end) (joined f) in
    let next : (at + length (content ++ end_bytes end)) + length (joined f) ≡ length text - length behind = omega (arith, size, p.at_is) in
    record {
      front = p;
      items = ap (λ (ls : List Line). (grouped ls).items) k.same
          ∙ ap (λ (r : Grouped). r.items) (put_header l (grouped (lines more)) (filled_header content k.is_header) (no_further k.is_header))
          ∙ ap₂ (λ (x : List Line) (y : List Item). header (l ∷ x) ∷ y) more_further more_items;
      good = ap (first_bad_line false at) k.same ∙ bad_header at l (lines more) k.is_header
          ∙ ap (first_bad_line true (at + length (content ++ end_bytes end))) k.continued.lines_are
          ∙ bad_further (at + length (content ++ end_bytes end)) f (lines behind) k.continued.all
          ∙ ap (λ (n : ℕ). first_bad_line true n (lines behind)) next
          ∙ bad_anew (length text - length behind) (lines behind) k.continued.no_more;
    }
  where
    no_further : is_header_line content ≡ true → is_continuation content ≡ false
    no_further h = not-true _ (and_parts _ _ h).0

abbrev pub value_in : Text → List Line → Text
value_in content f = drop 2 (onward is_colon content) ++ unfolded f

one_header : (image : Images) (fold : LineEnd) (text rest : Text) (edits : Edits) (changed : ℕ) (main : Bool) → IsMigratedTo image fold text rest edits changed main
    → (content : Text) (end : LineEnd) (more : Text) (last : LineEnd) (behind : Text) (k : AtHeader rest content end more last behind)
    → (new : Edits) (bytes : Text) (n count : ℕ) → IsEdited text edits new (length text - length rest) (length text - length behind) bytes
    → bytes ≡ joined (header_image image fold main (line content end ∷ k.continued.further))
    → n ≡ cond (is_changed image main (line content end ∷ k.continued.further)) 1 0 → n ≤ 1 → count ≡ changed + n
    → IsMigratedTo image fold text behind new count main
one_header image fold text rest edits changed main so_far content end more last behind k new bytes n count e bytes_is n_is few count_is =
    let ls = line content end ∷ k.continued.further in
    let at = length text - length rest in
    let h = header_front text rest content end more last behind so_far.inside so_far.ahead k in
    let p = h.front in
    let some : 1 ≤ length content = some_bytes content (filled_header content k.is_header) in
    let size : length (joined ls) ≡ length content + length (end_bytes end ++ joined k.continued.further) = length-append content (end_bytes end ++ joined k.continued.further) in
    let items_tail = item_lines (images image fold main (items_of behind)) in
    record {
      inside = p.inside;
      ahead = p.ahead;
      copied = e.order;
      few = omega (arith, so_far.few, p.less, some, size, few, count_is);
      bytes_are = ap (λ (t : Text). t ++ image_bytes image fold main (items_of behind)) (e.stands ∙ ap (λ (t : Text). edited text edits at ++ t) bytes_is)
          ∙ append_assoc (edited text edits at) (joined (header_image image fold main ls)) (image_bytes image fold main (items_of behind))
          ∙ ap (λ (t : Text). edited text edits at ++ t) (sym (joined_append (header_image image fold main ls) items_tail))
          ∙ ap (λ (is : List Item). edited text edits at ++ image_bytes image fold main is) (sym h.items)
          ∙ so_far.bytes_are;
      changed_are =
          added_on changed n (count_changed image main (items_of behind)) count (count_changed image main (items_of rest)) (count_changed image true (items_of text)) count_is
          (ap (count_changed image main) h.items ∙ ap (λ (m : ℕ). m + count_changed image main (items_of behind)) (sym n_is)) so_far.changed_are;
      good = sym h.good ∙ so_far.good;
    }
  where
    some_bytes : (t : Text) → is_empty t ≡ false → 1 ≤ length t
    some_bytes [] h = absurd cc
    some_bytes (b ∷ t) h = omega arith

-- a header whose value stays
pub header_stays : (image : Images) (fold : LineEnd) (text rest : Text) (edits : Edits) (changed : ℕ) (main : Bool) → IsMigratedTo image fold text rest edits changed main
    → (content : Text) (end : LineEnd) (more : Text) (last : LineEnd) (behind : Text) (k : AtHeader rest content end more last behind)
    → image main (until is_colon content) (value_in content k.continued.further) ≡ value_in content k.continued.further
    → IsMigratedTo image fold text behind edits changed main
header_stays image fold text rest edits changed main so_far content end more last behind k same =
    let ls = line content end ∷ k.continued.further in
    let value = value_in content k.continued.further in
    let no : is_changed image main ls ≡ false = ap not ((bytes_eq-Decides (image main (until is_colon content) value) value).1 same) in
    let h = header_front text rest content end more last behind so_far.inside so_far.ahead k in
    let p = h.front in
    one_header image fold text rest edits changed main so_far content end more last behind k edits _ 0 changed
    (kept text edits (length text - length rest) (length text - length behind) so_far.copied (omega (arith, p.at_is)))
    (p.front_is ∙ sym (ap (λ (b : Bool). joined (cond b (refolded fold (image main (until is_colon content) value) ls) ls)) no))
    (sym (ap (λ (b : Bool). cond b 1 0) no)) (omega arith) (omega arith)

-- a header whose value has another image
pub header_changes : (image : Images) (fold : LineEnd) (text rest : Text) (edits : Edits) (changed : ℕ) (main : Bool) → IsMigratedTo image fold text rest edits changed main
    → (content : Text) (end : LineEnd) (more : Text) (last : LineEnd) (behind : Text) (k : AtHeader rest content end more last behind)
    → (image main (until is_colon content) (value_in content k.continued.further) ≡ value_in content k.continued.further → ⊥)
    → (new : Edits) (bytes : Text) (count : ℕ) → IsEdited text edits new (length text - length rest) (length text - length behind) bytes
    → bytes ≡ header_bytes (until is_colon content) (image main (until is_colon content) (value_in content k.continued.further)) fold last
    → count ≡ changed + 1
    → IsMigratedTo image fold text behind new count main
header_changes image fold text rest edits changed main so_far content end more last behind k differs new bytes count e bytes_is count_is =
    let ls = line content end ∷ k.continued.further in
    let value = value_in content k.continued.further in
    let it = image main (until is_colon content) value in
    let yes : is_changed image main ls ≡ true = ap not (false_from_ne_true _ (λ h. differs ((bytes_eq-Decides it value).0 h))) in
    let ends : last ≡ last_end ls = k.continued.last_is ∙ sym (last_is (line content end) k.continued.further) in
    one_header image fold text rest edits changed main so_far content end more last behind k new bytes 1 count e
    (bytes_is ∙ ap (header_bytes (until is_colon content) it fold) ends
    ∙ sym (joined_folded fold (last_end ls) _)
    ∙ sym (ap (λ (b : Bool). joined (cond b (refolded fold it ls) ls)) yes))
    (sym (ap (λ (b : Bool). cond b 1 0) yes)) (omega arith) count_is

-- a line that hasn't the form
pub bad_here : (rules : Rules) (text rest : Text) (edits : Edits) (changed : ℕ) (main : Bool) → IsMigratedTo (images_of rules (bundle_version rules (items_of text))) (fold_end (lines text)) text rest edits changed main
    → (content : Text) (end : LineEnd) (more : Text) → lines rest ≡ line content end ∷ lines more → is_empty content ≡ false → is_header_line content ≡ false → manifest rules text ≡ Err (length text - length rest)
bad_here rules text rest edits changed main k content end more same some other =
    let at = length text - length rest in
    let here : first_bad_line false at (lines rest) ≡ Some at = ap (first_bad_line false at) same ∙ bad_other at (line content end) (lines more) some other in
    ap (manifest_by (images_of rules (bundle_version rules (items_of text))) (fold_end (lines text)) (items_of text)) (sym k.good ∙ here)

-- all lines are migrated
pub all_migrated : (rules : Rules) (text rest : Text) (edits : Edits) (changed : ℕ) (main : Bool) → IsMigratedTo (images_of rules (bundle_version rules (items_of text))) (fold_end (lines text)) text rest edits changed main
    → rest ≡ [] → (bytes : Text) → bytes ≡ edited text edits (length text) → manifest rules text ≡ Ok (record { bytes = bytes; changed = changed })
all_migrated rules text rest edits changed main k none bytes bytes_is =
    let image = images_of rules (bundle_version rules (items_of text)) in
    let fold = fold_end (lines text) in
    let end : length text - length rest ≡ length text = let zero : length rest ≡ 0 = ap length none in omega (arith, zero) in
    let clear : first_bad_line false 0 (lines text) ≡ None = sym k.good ∙ ap (λ (t : Text). first_bad_line false (length text - length rest) (lines t)) none in
    let all : bytes ≡ image_bytes image fold true (items_of text) =
    bytes_is ∙ ap (edited text edits) (sym end) ∙ sym (append-nil (edited text edits (length text - length rest)))
    ∙ ap (λ (t : Text). edited text edits (length text - length rest) ++ image_bytes image fold main (items_of t)) (sym none) ∙ k.bytes_are in
    let count : changed ≡ count_changed image true (items_of text) = omega (arith, ap (λ (t : Text). changed + count_changed image main (items_of t)) (sym none) ∙ k.changed_are) in
    ap (manifest_by image fold (items_of text)) clear
    ∙ ap (λ (t : Text). Ok (record { bytes = t; changed = count_changed image true (items_of text) })) (sym all)
    ∙ ap (λ (n : ℕ). Ok (record { bytes = bytes; changed = n })) (sym count)
