-- How far a service file is migrated, line by line.
use Rattle.std.proofs.Common.{◌≡◌, ◌<◌, ◌≤◌, ◌+◌, ◌-◌, ℕ, Bool, true, false, cond, not, List, [], ◌∷◌, ◌++◌, length, take, drop, Some, None, Result, Ok, Err, ◌==◌, ◌||◌, refl, sym, ap, ◌∙◌, inl, inr, arith, append_assoc, append-nil, length-append}
use Rattle.std.specs.List.{list_all, list_any}
use Rattle.std.proofs.lemmas.Bool.{and_from, eqb-true, both_ways, cases_Bool, not_from_false, not-true, false_from_ne_true, cases_lt}
use Rattle.desk_base.specs.Names.{Text, is_dotted, is_identifier_byte}
use Rattle.desk_base.specs.declared.Changed.{Changed}
use Rattle.desk_base.proofs.Lists.{added_on}
use Rattle.desk_rules.specs.Rules.{Rules}
use Rattle.desk_rules.specs.Images.{dotted}
use Rattle.desk_rules.specs.RuleSets.{IsRuleSet}
use Rattle.desk_rules.proofs.Laws.{dotted_stay, dotted_keep_form}
use Rattle.desk_rules.proofs.DottedBytes.{dotted_bytes, dotted_filled}
use Rattle.desk_lines.specs.declared.lines.LineEnd.{LineEnd}
use Rattle.desk_lines.specs.Lines.{Line, line, end_bytes, joined, lines}
use Rattle.desk_lines.specs.Blanks.{is_blank, not_blank}
use Rattle.desk_lines.proofs.Trimming.{any_blank}
use Rattle.desk_metainf.specs.Services.{provider, line_image, is_bad, first_bad, is_changed, count_changed, on_contents, service_by, service, ServiceStays, is_name_byte, is_provider_name}
use Rattle.desk_metainf.specs.Reading.{IsProviderAt, exchanged, is_exchanged}
use Rattle.desk_metainf.proofs.ServiceLaws.{IsImage, service-twice}
use Rattle.desk_metainf.proofs.Exchanged.{line_cut, exchanged_line, exchanged_changed}

no_bytes : (t : Text) → length t ≤ 0 → t ≡ []
no_bytes [] h = refl
no_bytes (b ∷ t) h = absurd (omega arith)

abbrev bytes_of : Result Changed ℕ → Text
bytes_of (Ok new) = new.bytes
bytes_of (Err at) = []

-- a byte of an identifier is none of the bytes that end or part names
other_than : (n : ℕ) → is_identifier_byte n ≡ false → (b : ℕ) → is_identifier_byte b ≡ true → not (b == n) ≡ true
other_than n none b h = not_from_false _ (false_from_ne_true (b == n) (λ e. both_ways (is_identifier_byte n) none (ap is_identifier_byte (sym (eqb-true b n e)) ∙ h)))

blank_apart : (b : ℕ) → is_identifier_byte b ≡ true → not_blank b ≡ true
blank_apart b h = neither (b == 32) (b == 9) (not-true _ (other_than 32 refl b h)) (not-true _ (other_than 9 refl b h)) where
  neither : (x y : Bool) → x ≡ false → y ≡ false → not (x || y) ≡ true
  neither true y h k = absurd cc
  neither false y h k = ap not k

name_byte : (b : ℕ) → is_identifier_byte b ≡ true → is_name_byte b ≡ true
name_byte b h = and_from _ _ (blank_apart b h) (and_from _ _ (other_than 35 refl b h) (and_from _ _ (other_than 10 refl b h) (other_than 13 refl b h)))

dotted_name : (t : Text) → is_dotted t ≡ true → is_provider_name t ≡ true
dotted_name t named = and_from _ _ (not_from_false _ (dotted_filled t named)) (dotted_bytes is_name_byte refl name_byte t named)

-- under a rule set the image of a name is a name, and its own image
pub image_of_names : (rules : Rules) → IsRuleSet rules → IsImage (dotted rules.renames)
image_of_names rules is = record {
  named = λ t h. elim (cases_Bool (is_dotted t)) [
    | inl named ↦ dotted_name (dotted rules.renames t) (dotted_keep_form rules is t named).named
    | inr other ↦ rw other h
  ];
  again = λ t h. dotted_stay rules is t;
}

-- the lines before the rest of a text are migrated: their bytes, and how many of their names changed
pub record IsMigratedTo (rules : Rules) (text rest bytes : Text) (changed : ℕ) : Type 0 where
  pub inside : length rest ≤ length text
  pub few : changed + length rest ≤ length text
  pub bytes_are : bytes ++ joined (on_contents (line_image (dotted rules.renames)) (lines rest)) ≡ joined (on_contents (line_image (dotted rules.renames)) (lines text))
  pub changed_are : changed + count_changed (dotted rules.renames) (lines rest) ≡ count_changed (dotted rules.renames) (lines text)
  pub good : first_bad (length text - length rest) (lines rest) ≡ first_bad 0 (lines text)
  pub settled : length rest < length text → IsRuleSet rules

pub migrated_none : (rules : Rules) (text : Text) → IsMigratedTo rules text text [] 0
migrated_none rules text =
    let start : length text - length text ≡ 0 = omega arith in
    record {
      inside = omega arith;
      few = omega arith;
      bytes_are = refl;
      changed_are = omega arith;
      good = ap (λ (n : ℕ). first_bad n (lines text)) start;
      settled = λ h. absurd (omega arith);
    }

-- a first line whose provider name is found
pub record Reads (rest content more : Text) (end : LineEnd) (from to : ℕ) : Type 0 where
  pub same : lines rest ≡ line content end ∷ lines more
  pub whole : rest ≡ content ++ (end_bytes end ++ more)
  pub shorter : length more < length rest
  pub place : IsProviderAt content from to

-- whether the name is bad
bad_is : (content : Text) (from to : ℕ) → IsProviderAt content from to → list_any is_blank (take (to - from) (drop from content)) ≡ is_bad content
bad_is content from to place = any_blank (take (to - from) (drop from content)) ∙ ap (λ (t : Text). not (list_all not_blank t)) (line_cut content from to place).name_is

pub bad_here : (rules : Rules) (text rest bytes : Text) (changed : ℕ) → IsMigratedTo rules text rest bytes changed → (content more : Text) (end : LineEnd) (from to : ℕ) → Reads rest content more end from to
    → list_any is_blank (take (to - from) (drop from content)) ≡ true → service rules text ≡ Err (length text - length rest)
bad_here rules text rest bytes changed so_far content more end from to reads bad =
    let at = length text - length rest in
    let is : is_bad content ≡ true = sym (bad_is content from to reads.place) ∙ bad in
    let here : first_bad at (lines rest) ≡ Some at = ap (first_bad at) reads.same ∙ ap (λ (b : Bool). cond b (Some at) (first_bad (at + length (content ++ end_bytes end)) (lines more))) is in
    ap (service_by (dotted rules.renames) (lines text)) (sym so_far.good ∙ here)

pub one_line : (rules : Rules) (text rest bytes : Text) (changed : ℕ) → IsMigratedTo rules text rest bytes changed → (content more : Text) (end : LineEnd) (from to : ℕ) → Reads rest content more end from to
    → list_any is_blank (take (to - from) (drop from content)) ≡ false → IsRuleSet rules → (new : Text) → new ≡ bytes ++ (exchanged (dotted rules.renames) from to content ++ end_bytes end)
    → (count : ℕ) → count ≡ changed + cond (is_exchanged (dotted rules.renames) from to content) 1 0 → IsMigratedTo rules text more new count
one_line rules text rest bytes changed so_far content more end from to reads clear settled new new_is count count_is =
    let image = dotted rules.renames in
    let at = length text - length rest in
    let line_is : exchanged image from to content ≡ line_image image content = exchanged_line image refl content from to reads.place in
    let flag_is : is_exchanged image from to content ≡ is_changed image content = exchanged_changed image refl content from to reads.place in
    let good : is_bad content ≡ false = sym (bad_is content from to reads.place) ∙ clear in
    let size : length (content ++ end_bytes end) + length more ≡ length rest =
    sym (length-append (content ++ end_bytes end) more) ∙ ap length (append_assoc content (end_bytes end) more ∙ sym reads.whole) in
    let next : at + length (content ++ end_bytes end) ≡ length text - length more = omega (arith, so_far.inside, size) in
    let tail = joined (on_contents (line_image image) (lines more)) in
    record {
      inside = omega (arith, so_far.inside, reads.shorter);
      few = omega (arith, so_far.few, reads.shorter, count_is, at_most_one (is_exchanged image from to content));
      bytes_are = ap (λ (t : Text). t ++ tail) (new_is ∙ ap (λ (t : Text). bytes ++ (t ++ end_bytes end)) line_is)
          ∙ append_assoc bytes (line_image image content ++ end_bytes end) tail
          ∙ ap (λ (t : Text). bytes ++ t) (append_assoc (line_image image content) (end_bytes end) tail)
          ∙ ap (λ (ls : List Line). bytes ++ joined (on_contents (line_image image) ls)) (sym reads.same)
          ∙ so_far.bytes_are;
      changed_are =
          let one : count ≡ changed + cond (is_changed image content) 1 0 = count_is ∙ ap (λ (b : Bool). changed + cond b 1 0) flag_is in
          added_on changed (cond (is_changed image content) 1 0) (count_changed image (lines more)) count (count_changed image (lines rest)) (count_changed image (lines text)) one (ap (count_changed image) reads.same) so_far.changed_are;
      good = sym (ap (first_bad at) reads.same
          ∙ ap (λ (b : Bool). cond b (Some at) (first_bad (at + length (content ++ end_bytes end)) (lines more))) good
          ∙ ap (λ (n : ℕ). first_bad n (lines more)) next)
          ∙ so_far.good;
      settled = λ h. settled;
    }
  where
    at_most_one : (b : Bool) → cond b 1 0 ≤ 1
    at_most_one true = omega arith
    at_most_one false = omega arith

pub all_migrated : (rules : Rules) (text rest bytes : Text) (changed : ℕ) → IsMigratedTo rules text rest bytes changed → rest ≡ [] → service rules text ≡ Ok (record { bytes = bytes; changed = changed })
all_migrated rules text rest bytes changed so_far none =
    let image = dotted rules.renames in
    let clear : first_bad 0 (lines text) ≡ None = sym so_far.good ∙ ap (λ (t : Text). first_bad (length text - length rest) (lines t)) none in
    let bytes_is : bytes ≡ joined (on_contents (line_image image) (lines text)) =
    sym (append-nil bytes) ∙ ap (λ (t : Text). bytes ++ joined (on_contents (line_image image) (lines t))) (sym none) ∙ so_far.bytes_are in
    let changed_is : changed ≡ count_changed image (lines text) =
    omega (arith, ap (λ (t : Text). changed + count_changed image (lines t)) (sym none) ∙ so_far.changed_are) in
    ap (service_by image (lines text)) clear
    ∙ ap (λ (t : Text). Ok (record { bytes = t; changed = count_changed image (lines text) })) (sym bytes_is)
    ∙ ap (λ (n : ℕ). Ok (record { bytes = bytes; changed = n })) (sym changed_is)

-- the image of a service file stays
pub image_stays : (rules : Rules) (text rest bytes : Text) (changed : ℕ) → IsMigratedTo rules text rest bytes changed → rest ≡ [] → ServiceStays rules bytes
image_stays rules text rest bytes changed so_far none = elim (cases_lt 0 (length text)) [
  | inl some ↦ service-twice (dotted rules.renames) (image_of_names rules (so_far.settled (omega (arith, ap length none)))) text (record { bytes = bytes; changed = changed }) (all_migrated rules text rest bytes changed so_far none)
  | inr few ↦
      let nothing : text ≡ [] = no_bytes text (omega arith) in
      let same : Ok (record { bytes = bytes; changed = changed }) ≡ Ok (record { bytes = []; changed = 0 }) = sym (all_migrated rules text rest bytes changed so_far none) ∙ ap (service rules) nothing in
      let bytes_is : bytes ≡ [] = ap bytes_of same in
      ap (λ (t : Text). service rules t) bytes_is ∙ ap (λ (t : Text). Ok (record { bytes = t; changed = 0 })) (sym bytes_is)
]
