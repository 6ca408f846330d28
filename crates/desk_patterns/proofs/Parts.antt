-- Rules whose texts stand one behind the other.
use Rattle.std.proofs.Common.{◌≡◌, ◌<◌, ◌≤◌, ◌+◌, ◌-◌, ℕ, zero, suc, List, [], ◌∷◌, ◌++◌, map, length, take, drop, get_or, slice_index, refl, sym, ap, subst, ◌∙◌, inl, inr, arith, append_assoc}
use Rattle.std.proofs.lemmas.Bool.{cases_lt}
use Rattle.std.proofs.lemmas.List.{length-append, length-drop, map_push, take-append-le, drop-append-le}
use Rattle.std.proofs.Math.Seq.{take-append_seam, drop-append_seam, take-length}
use Rattle.desk_base.specs.Names.{Text}
use Rattle.desk_patterns.specs.TextRules.{source_at}
use Rattle.desk_patterns.specs.Tables.{target_at}
use Rattle.desk_patterns.specs.Seen.{KeptRule, rules_seen, shorter_seen}
use Rattle.desk_patterns.specs.Parts.{text_between, rule_seen, kept_seen, IsPart, AreParts}
use Rattle.desk_patterns.specs.declared.kept_rules.Part.{Part}
use Rattle.desk_patterns.proofs.Lists.{seen_there, map_length, length_more, index_kept, index_added}

pub parts_length : (texts : Text) (parts : List Part) → length (kept_seen texts parts) ≡ length parts
parts_length texts parts = map_length (rule_seen texts) parts

pub part_source : (texts : Text) (parts : List Part) (n : ℕ) (x : Part) → n < length parts → x ≡ get_or parts n x → source_at (rules_seen (kept_seen texts parts)) n ≡ text_between texts x.start x.middle
part_source texts [] n x h e = absurd (omega arith)
part_source texts (y ∷ parts) zero x h e = ap (λ (p : Part). text_between texts p.start p.middle) (sym e)
part_source texts (y ∷ parts) (suc n) x h e = part_source texts parts n x (omega arith) e

pub part_target : (texts : Text) (parts : List Part) (n : ℕ) (x : Part) → n < length parts → x ≡ get_or parts n x → target_at (rules_seen (kept_seen texts parts)) n ≡ text_between texts x.middle x.end
unfolding target_at
part_target texts [] n x h e = absurd (omega arith)
part_target texts (y ∷ parts) zero x h e = ap (λ (p : Part). text_between texts p.middle p.end) (sym e)
part_target texts (y ∷ parts) (suc n) x h e = part_target texts parts n x (omega arith) e

pub part_shorter : (texts : Text) (parts : List Part) (n : ℕ) (x : Part) → n < length parts → x ≡ get_or parts n x → slice_index (shorter_seen (kept_seen texts parts)) n ≡ x.shorter
part_shorter texts [] n x h e = absurd (omega arith)
part_shorter texts (y ∷ parts) zero x h e = ap (λ (p : Part). p.shorter) (sym e)
part_shorter texts (y ∷ parts) (suc n) x h e = part_shorter texts parts n x (omega arith) e

pub part_there : (texts : Text) (parts : List Part) (n : ℕ) (x : Part) → AreParts texts parts → n < length parts → x ≡ get_or parts n x → IsPart texts x.start x.middle x.end
part_there texts parts n x are h e =
    let start : slice_index (map (λ (p : Part). p.start) parts) n ≡ x.start = seen_there (λ (p : Part). p.start) parts n x 0 h e in
    let middle : slice_index (map (λ (p : Part). p.middle) parts) n ≡ x.middle = seen_there (λ (p : Part). p.middle) parts n x 0 h e in
    let end : slice_index (map (λ (p : Part). p.end) parts) n ≡ x.end = seen_there (λ (p : Part). p.end) parts n x 0 h e in
    let is : IsPart texts (slice_index (map (λ (p : Part). p.start) parts) n) (slice_index (map (λ (p : Part). p.middle) parts) n) (slice_index (map (λ (p : Part). p.end) parts) n) = are n h in
    record { source = omega (arith, is.source, start, middle); target = omega (arith, is.target, middle, end); within = omega (arith, is.within, end) }

-- bytes behind the texts change no rule

between_kept : (texts more : Text) (from to : ℕ) → from ≤ to → to ≤ length texts → text_between (texts ++ more) from to ≡ text_between texts from to
between_kept texts more from to h k =
    ap (take (to - from)) (drop-append-le from texts more (omega arith))
    ∙ take-append-le (to - from) (drop from texts) more (omega (arith, length-drop from texts))

abbrev pub with_texts : ℕ → Text → Text → KeptRule
with_texts shorter source target = record { source = source; target = target; shorter = shorter }

rule_kept : (texts more : Text) (part : Part) → IsPart texts part.start part.middle part.end → rule_seen (texts ++ more) part ≡ rule_seen texts part
rule_kept texts more part is =
    ap (λ (s : Text). with_texts part.shorter s (text_between (texts ++ more) part.middle part.end)) (between_kept texts more part.start part.middle is.source (omega (arith, is.target, is.within)))
    ∙ ap (λ (t : Text). with_texts part.shorter (text_between texts part.start part.middle) t) (between_kept texts more part.middle part.end is.target is.within)

pub kept_same : (texts more : Text) (parts : List Part) → AreParts texts parts → kept_seen (texts ++ more) parts ≡ kept_seen texts parts
kept_same texts more [] are = refl
kept_same texts more (p ∷ parts) are =
    let here : rule_seen (texts ++ more) p ≡ rule_seen texts p = rule_kept texts more p (are 0 (omega arith)) in
    ap (λ (r : KeptRule). r ∷ kept_seen (texts ++ more) parts) here ∙ ap (λ (rs : List KeptRule). rule_seen texts p ∷ rs) (kept_same texts more parts (λ k l. are (suc k) (omega arith)))

pub parts_stay : (texts more : Text) (parts : List Part) → AreParts texts parts → AreParts (texts ++ more) parts
parts_stay texts more parts are place h =
    let is : IsPart texts (slice_index (map (λ (p : Part). p.start) parts) place) (slice_index (map (λ (p : Part). p.middle) parts) place) (slice_index (map (λ (p : Part). p.end) parts) place) = are place h in
    record { source = is.source; target = is.target; within = omega (arith, is.within, length-append texts more) }

-- a rule is added behind the others

abbrev pub new_part : ℕ → ℕ → ℕ → ℕ → Part
new_part start source target shorter = record { start = start; middle = start + source; end = start + source + target; shorter = shorter }

source_read : (texts source target : Text) → text_between ((texts ++ source) ++ target) (length texts) (length texts + length source) ≡ source
source_read texts source target =
    let taken : length texts + length source - length texts ≡ length source = omega arith in
    ap (λ (t : Text). take (length texts + length source - length texts) (drop (length texts) t)) (append_assoc texts source target)
    ∙ ap (take (length texts + length source - length texts)) (drop-append_seam texts (source ++ target))
    ∙ ap (λ (n : ℕ). take n (source ++ target)) taken
    ∙ take-append_seam source target

target_read : (texts source target : Text) → text_between ((texts ++ source) ++ target) (length texts + length source) (length texts + length source + length target) ≡ target
target_read texts source target =
    let taken : length texts + length source + length target - (length texts + length source) ≡ length target = omega arith in
    let front : length texts + length source ≡ length (texts ++ source) = sym (length-append texts source) in
    ap (λ (n : ℕ). take n (drop (length texts + length source) ((texts ++ source) ++ target))) taken
    ∙ ap (λ (n : ℕ). take (length target) (drop n ((texts ++ source) ++ target))) front
    ∙ ap (take (length target)) (drop-append_seam (texts ++ source) target)
    ∙ take-length target

rule_added : (texts source target : Text) (shorter : ℕ) → rule_seen ((texts ++ source) ++ target) (new_part (length texts) (length source) (length target) shorter) ≡ with_texts shorter source target
rule_added texts source target shorter =
    ap (λ (s : Text). with_texts shorter s (text_between ((texts ++ source) ++ target) (length texts + length source) (length texts + length source + length target))) (source_read texts source target)
    ∙ ap (with_texts shorter source) (target_read texts source target)

pub kept_added : (texts source target next : Text) (parts new : List Part) (shorter : ℕ) (part : Part) → AreParts texts parts → part ≡ new_part (length texts) (length source) (length target) shorter → next ≡ (texts ++ source) ++ target → new ≡ parts ++ part ∷ [] → kept_seen next new ≡ kept_seen texts parts ++ with_texts shorter source target ∷ []
kept_added texts source target next parts new shorter part are e grown added =
    let whole : Text = (texts ++ source) ++ target in
    ap (λ (t : Text). kept_seen t new) grown
    ∙ ap (kept_seen whole) added
    ∙ map_push (rule_seen whole) parts part
    ∙ ap (λ (rs : List KeptRule). rs ++ rule_seen whole part ∷ []) (kept_same (texts ++ source) target parts (parts_stay texts source parts are) ∙ kept_same texts source parts are)
    ∙ ap (λ (r : KeptRule). kept_seen texts parts ++ r ∷ []) (ap (rule_seen whole) e ∙ rule_added texts source target shorter)

map_kept : (f : Part → ℕ) (parts : List Part) (part : Part) (n : ℕ) → n < length parts → slice_index (map f (parts ++ part ∷ [])) n ≡ slice_index (map f parts) n
map_kept f parts part n h = ap (λ (ns : List ℕ). slice_index ns n) (map_push f parts part) ∙ index_kept (map f parts) (f part) n (omega (arith, map_length f parts))

map_added : (f : Part → ℕ) (parts : List Part) (part : Part) (n : ℕ) → n ≡ length parts → slice_index (map f (parts ++ part ∷ [])) n ≡ f part
map_added f parts part n e =
    ap (λ (ns : List ℕ). slice_index ns n) (map_push f parts part)
    ∙ ap (slice_index (map f parts ++ f part ∷ [])) (e ∙ sym (map_length f parts))
    ∙ index_added (map f parts) (f part)

parts_more : (texts source target : Text) (parts : List Part) (shorter : ℕ) → AreParts texts parts → AreParts ((texts ++ source) ++ target) (parts ++ new_part (length texts) (length source) (length target) shorter ∷ [])
parts_more texts source target parts shorter are place h =
    let part : Part = new_part (length texts) (length source) (length target) shorter in
    elim (cases_lt place (length parts)) [
      | inl lt ↦
          let is : IsPart texts (slice_index (map (λ (p : Part). p.start) parts) place) (slice_index (map (λ (p : Part). p.middle) parts) place) (slice_index (map (λ (p : Part). p.end) parts) place) = are place lt in
          let start = map_kept (λ (p : Part). p.start) parts part place lt in
          let middle = map_kept (λ (p : Part). p.middle) parts part place lt in
          let end = map_kept (λ (p : Part). p.end) parts part place lt in
          record {
            source = omega (arith, is.source, start, middle);
            target = omega (arith, is.target, middle, end);
            within = omega (arith, is.within, end, length-append (texts ++ source) target, length-append texts source);
          }
      | inr ge ↦
          let at : place ≡ length parts = omega (arith, h, length_more parts part) in
          let start = map_added (λ (p : Part). p.start) parts part place at in
          let middle = map_added (λ (p : Part). p.middle) parts part place at in
          let end = map_added (λ (p : Part). p.end) parts part place at in
          record {
            source = omega (arith, start, middle);
            target = omega (arith, middle, end);
            within = omega (arith, end, length-append (texts ++ source) target, length-append texts source);
          }
    ]

pub parts_added : (texts source target next : Text) (parts new : List Part) (shorter : ℕ) (part : Part) → AreParts texts parts → part ≡ new_part (length texts) (length source) (length target) shorter → next ≡ (texts ++ source) ++ target → new ≡ parts ++ part ∷ [] → AreParts next new
parts_added texts source target next parts new shorter part are e grown added =
    subst (λ (t : Text). AreParts t new) (sym grown)
    (subst (AreParts ((texts ++ source) ++ target)) (sym added)
    (subst (λ (p : Part). AreParts ((texts ++ source) ++ target) (parts ++ p ∷ [])) (sym e) (parts_more texts source target parts shorter are)))
