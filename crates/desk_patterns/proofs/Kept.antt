-- Text rules as they are kept.
use Rattle.std.proofs.Common.{◌≡◌, ◌≢◌, ◌<◌, ◌+◌, ℕ, zero, suc, Bool, true, false, List, [], ◌∷◌, ◌++◌, length, drop, get_or, set, slice_index, None, refl, sym, ap, subst, ◌∙◌, inl, inr, arith}
use Rattle.std.specs.declared.cmp.Ordering.{Ordering}
use Rattle.std.specs.Ordering.{nat_cmp, is_gt}
use Rattle.std.specs.Cmp.Lexicographic.{slice_cmp}
use Rattle.std.proofs.lemmas.Bool.{both_ways, cases_Bool, cases_lt}
use Rattle.std.proofs.lemmas.List.{get_or-drop, length-set, map_push}
use Rattle.desk_base.specs.Names.{Text}
use Rattle.desk_patterns.specs.TextRules.{TextRule, longest, source_at, StandsBehind}
use Rattle.desk_patterns.specs.Tables.{starts, is_behind, target_at, last_start, first_byte, IsTable, IsTextTable}
use Rattle.desk_patterns.specs.Seen.{KeptRule, rules_seen, shorter_seen, NoHits}
use Rattle.desk_patterns.specs.FirstBytes.{is_first, NoneFirst}
use Rattle.desk_patterns.proofs.Lists.{seen_there, map_length, length_more}
use Rattle.desk_patterns.proofs.Starts.{start_byte}
use Rattle.desk_patterns.proofs.Tables.{last_skips, longest_none, table_more, source_kept, source_added}
use Rattle.desk_patterns.proofs.FirstBytes.{first_kept}

pub seen_length : (items : List KeptRule) → length (rules_seen items) ≡ length items
seen_length items = map_length (λ (r : KeptRule). (r.source, r.target)) items

pub kept_source : (items : List KeptRule) (n : ℕ) (x : KeptRule) → n < length items → x ≡ get_or items n x → source_at (rules_seen items) n ≡ x.source
kept_source [] n x h e = absurd (omega arith)
kept_source (y ∷ items) zero x h e = ap (λ (r : KeptRule). r.source) (sym e)
kept_source (y ∷ items) (suc n) x h e = kept_source items n x (omega arith) e

pub kept_target : (items : List KeptRule) (n : ℕ) (x : KeptRule) → n < length items → x ≡ get_or items n x → target_at (rules_seen items) n ≡ x.target
unfolding target_at
kept_target [] n x h e = absurd (omega arith)
kept_target (y ∷ items) zero x h e = ap (λ (r : KeptRule). r.target) (sym e)
kept_target (y ∷ items) (suc n) x h e = kept_target items n x (omega arith) e

pub kept_shorter : (items : List KeptRule) (n : ℕ) (x : KeptRule) → n < length items → x ≡ get_or items n x → x.shorter ≡ slice_index (shorter_seen items) n
kept_shorter items n x h e = sym (seen_there (λ (r : KeptRule). r.shorter) items n x 0 h e)

-- what a comparison of a source that was read says of it
pub compared : (items : List KeptRule) (text key : Text) (n : ℕ) (x : KeptRule) (o : Ordering) → n < length items → x ≡ get_or items n x → key ≡ (get_or items n x).source → o ≡ slice_cmp nat_cmp key text → is_behind text (source_at (rules_seen items) n) ≡ is_gt o
compared items text key n x o h e is tie =
    ap (is_behind text) (kept_source items n x h e ∙ ap (λ (r : KeptRule). r.source) e ∙ sym is) ∙ ap is_gt (sym tie)

-- where no source begins with a byte, none stands at it
pub no_hit : (rules : List TextRule) (shorter : List ℕ) (firsts : List Bool) (text : Text) (k : ℕ) → IsTextTable rules shorter firsts → is_first firsts (slice_index text k) ≡ false → longest rules (drop k text) ≡ None
no_hit rules shorter firsts text k so gone =
    longest_none (drop k text) rules (last_skips (drop k text) rules 0 (length rules) (omega arith) (λ j l r. elim (cases_Bool (starts (drop k text) (source_at rules j))) [
      | inl is ↦
          let place : k + 0 ≡ k = omega arith in
          let byte : first_byte (source_at rules j) ≡ slice_index text k = start_byte (source_at rules j) (drop k text) (so.table.sources j r) is ∙ get_or-drop k text 0 0 ∙ ap (slice_index text) place in
          absurd (both_ways _ gone (sym (ap (is_first firsts) byte) ∙ so.firsts_are j r))
      | inr isnt ↦ isnt
    ]))

pub no_hits : (rules : List TextRule) (shorter : List ℕ) (firsts : List Bool) (text : Text) (from to : ℕ) → IsTextTable rules shorter firsts → NoneFirst firsts text from to → NoHits rules text from to
no_hits rules shorter firsts text from to so none k l r = no_hit rules shorter firsts text k so (none k l r)

front_byte : (t : Text) → t ≢ [] → slice_index t 0 ≡ first_byte t
front_byte [] h = absurd (h refl)
front_byte (b ∷ t) h = refl

-- a rule is added to those that are kept
pub kept_more : (items new : List KeptRule) (firsts next : List Bool) (source target : Text) (shorter first count : ℕ) → IsTextTable (rules_seen items) (shorter_seen items) firsts → source ≢ [] → StandsBehind (rules_seen items) source → count ≡ length items → shorter ≡ last_start source (rules_seen items) count → first ≡ slice_index source 0 → next ≡ set firsts first true → is_first next first ≡ true → new ≡ items ++ record { source = source; target = target; shorter = shorter } ∷ [] → IsTextTable (rules_seen new) (shorter_seen new) next
kept_more items new firsts next source target shorter first count so some behind counted last begins marked there added =
    let rule : KeptRule = record { source = source; target = target; shorter = shorter } in
    let rules : List TextRule = rules_seen items in
    let more : List TextRule = rules ++ (source, target) ∷ [] in
    let size : count ≡ length rules = omega (arith, counted, seen_length items) in
    let table : IsTable more (shorter_seen items ++ shorter ∷ []) = table_more rules (shorter_seen items) source target shorter so.table some behind (last ∙ ap (last_start source rules) size) in
    let seen : rules_seen new ≡ more = ap rules_seen added ∙ map_push (λ (r : KeptRule). (r.source, r.target)) items rule in
    let places : shorter_seen new ≡ shorter_seen items ++ shorter ∷ [] = ap shorter_seen added ∙ map_push (λ (r : KeptRule). r.shorter) items rule in
    let byte : first ≡ first_byte source = begins ∙ front_byte source some in
    let there_set : is_first (set firsts first true) first ≡ true = sym (ap (λ (t : List Bool). is_first t first) marked) ∙ there in
    subst (λ (kept : List TextRule). IsTextTable kept (shorter_seen new) next) (sym seen)
    (subst (λ (ns : List ℕ). IsTextTable more ns next) (sym places)
    record {
      table = table;
      firsts_count = ap length marked ∙ length-set firsts first true ∙ so.firsts_count;
      firsts_are = λ place h. elim (cases_lt place (length rules)) [
        | inl lt ↦
            ap (λ (t : List Bool). is_first t (first_byte (source_at more place))) marked
            ∙ ap (λ (s : Text). is_first (set firsts first true) (first_byte s)) (source_kept rules (source, target) place lt)
            ∙ first_kept firsts first (first_byte (source_at rules place)) there_set (so.firsts_are place lt)
        | inr ge ↦
            let at : place ≡ length rules = omega (arith, h, length_more rules (source, target)) in
            ap (λ (n : ℕ). is_first next (first_byte (source_at more n))) at
            ∙ ap (λ (s : Text). is_first next (first_byte s)) (source_added rules (source, target))
            ∙ ap (is_first next) (sym byte)
            ∙ there
      ];
    })
