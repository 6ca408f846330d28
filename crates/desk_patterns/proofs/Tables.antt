-- Which source of a table of text rules starts a text.
use Rattle.std.proofs.Common.{◌≡◌, ◌≢◌, ◌<◌, ◌≤◌, ◌+◌, ◌-◌, ℕ, zero, suc, Bool, true, false, cond, List, [], ◌∷◌, ◌++◌, length, drop, slice_index, Option, Some, None, refl, sym, ap, subst, ◌∙◌, inl, inr, arith}
use Rattle.std.specs.declared.cmp.Ordering.TheVariants.{Less}
use Rattle.std.specs.Ordering.{nat_cmp, is_gt}
use Rattle.std.specs.Cmp.Lexicographic.{slice_cmp}
use Rattle.std.proofs.lemmas.Bool.{both_ways, cases_Bool, cases_lt, lt-ltb}
use Rattle.std.proofs.lemmas.List.{drop_all}
use Rattle.std.proofs.lemmas.Cmp.{nat_list_cmp_total, upto}
use Rattle.desk_base.specs.Names.{Text, is_empty}
use Rattle.desk_patterns.specs.TextRules.{TextRule, Hit, hit_of, longer, longest, source_at, StandsBehind}
use Rattle.desk_patterns.specs.Tables.{Rise, starts, is_behind, NotBehind, IsCut, shared, target_at, last_start, IsTable}
use Rattle.desk_patterns.proofs.Starts.{starts_through, start_shorter, start_not_behind, start_between, shared_starts, shared_stops}
use Rattle.desk_patterns.proofs.Lists.{length_more, index_kept, index_added}

-- the last source that starts a text, among so many

pub last_within : (text : Text) (rules : List TextRule) (n : ℕ) → last_start text rules n ≤ n
last_within text rules zero = omega arith
last_within text rules (suc n) = elim (starts text (source_at rules n)) as (λ (x : Bool). cond x (suc n) (last_start text rules n) ≤ suc n) [ true ↦ omega arith | false ↦ omega (arith, last_within text rules n) ]

pub last_starts : (text : Text) (rules : List TextRule) (n : ℕ) → 0 < last_start text rules n → starts text (source_at rules (last_start text rules n - 1)) ≡ true
last_starts text rules zero h = absurd (omega arith)
last_starts text rules (suc n) h = elim (starts text (source_at rules n)) as (λ (x : Bool). starts text (source_at rules n) ≡ x → 0 < cond x (suc n) (last_start text rules n) → starts text (source_at rules (cond x (suc n) (last_start text rules n) - 1)) ≡ true) [
  | true ↦ λ e _. ap (λ (m : ℕ). starts text (source_at rules m)) (omega arith) ∙ e
  | false ↦ λ _ k. last_starts text rules n k
] refl h

pub last_same : (text : Text) (rules : List TextRule) (n : ℕ) → starts text (source_at rules n) ≡ false → last_start text rules (suc n) ≡ last_start text rules n
last_same text rules n h = ap (λ (x : Bool). cond x (suc n) (last_start text rules n)) h

pub last_here : (text : Text) (rules : List TextRule) (n : ℕ) → starts text (source_at rules n) ≡ true → last_start text rules (suc n) ≡ suc n
last_here text rules n h = ap (λ (x : Bool). cond x (suc n) (last_start text rules n)) h

-- where none from a place on starts the text, it is one before
pub last_skips : (text : Text) (rules : List TextRule) (m n : ℕ) → m ≤ n → ((k : ℕ) → m ≤ k → k < n → starts text (source_at rules k) ≡ false) → last_start text rules n ≡ last_start text rules m
last_skips text rules m zero h none = let same : 0 ≡ m = omega arith in ap (last_start text rules) same
last_skips text rules m (suc n) h none = elim (cases_lt n m) [
  | inl lt ↦ let same : suc n ≡ m = omega arith in ap (last_start text rules) same
  | inr ge ↦ last_same text rules n (none n ge (omega arith)) ∙ last_skips text rules m n ge (λ k l r. none k l (omega arith))
]

pub none_behind_last : (text : Text) (rules : List TextRule) (n k : ℕ) → last_start text rules n ≤ k → k < n → starts text (source_at rules k) ≡ false
none_behind_last text rules zero k h l = absurd (omega arith)
none_behind_last text rules (suc n) k h l = elim (starts text (source_at rules n)) as (λ (x : Bool). starts text (source_at rules n) ≡ x → cond x (suc n) (last_start text rules n) ≤ k → starts text (source_at rules k) ≡ false) [
  | true ↦ λ e g. absurd (omega arith)
  | false ↦ λ e g. elim (cases_lt k n) [
    | inl lt ↦ none_behind_last text rules n k g lt
    | inr ge ↦ let same : k ≡ n = omega arith in ap (λ (m : ℕ). starts text (source_at rules m)) same ∙ e
  ]
] refl h

-- a comparison with one source narrows where the sources that don't stand behind a text end

not_gt : (a b : Text) → slice_cmp nat_cmp a b ≡ Less → is_gt (slice_cmp nat_cmp a b) ≡ false
not_gt a b h = ap is_gt h

below_not_behind : (rules : List TextRule) (text : Text) (middle k : ℕ) → Rise rules → middle < length rules → is_behind text (source_at rules middle) ≡ false → k ≤ middle → is_behind text (source_at rules k) ≡ false
below_not_behind rules text middle k rising within h l = elim (cases_lt k middle) [
  | inl lt ↦ upto nat_list_cmp_total (source_at rules k) (source_at rules middle) text (not_gt (source_at rules k) (source_at rules middle) (rising k middle lt within)) h
  | inr ge ↦ let same : k ≡ middle = omega arith in ap (λ (n : ℕ). is_behind text (source_at rules n)) same ∙ h
]

pub cut_up : (rules : List TextRule) (text : Text) (low high middle : ℕ) → Rise rules → IsCut rules text low high → middle < high → is_behind text (source_at rules middle) ≡ false → IsCut rules text (middle + 1) high
cut_up rules text low high middle rising cut below h = record {
  order = omega arith;
  within = cut.within;
  before = λ k l. below_not_behind rules text middle k rising (omega (arith, cut.within)) h (omega arith);
  behind = cut.behind;
}

pub cut_down : (rules : List TextRule) (text : Text) (low high middle : ℕ) → Rise rules → IsCut rules text low high → low ≤ middle → middle < high → is_behind text (source_at rules middle) ≡ true → IsCut rules text low middle
cut_down rules text low high middle rising cut above below h = record {
  order = above;
  within = omega (arith, cut.within);
  before = cut.before;
  behind = λ k l r. elim (cases_Bool (is_behind text (source_at rules k))) [
    | inl is ↦ is
    | inr isnt ↦ absurd (both_ways _ (below_not_behind rules text k middle rising r isnt l) h)
  ];
}

-- sources behind a text don't start it
pub last_of_cut : (text : Text) (rules : List TextRule) (n : ℕ) → IsCut rules text n n → last_start text rules (length rules) ≡ last_start text rules n
last_of_cut text rules n cut = last_skips text rules n (length rules) cut.within (λ k l r. elim (cases_Bool (starts text (source_at rules k))) [
  | inl is ↦ absurd (both_ways _ (start_not_behind (source_at rules k) text is) (cut.behind k l r))
  | inr isnt ↦ isnt
])

-- a walk from one source to the longest that starts it, and on, until one starts the text
pub record IsWalk (rules : List TextRule) (text : Text) (from place : ℕ) : Type 0 where
  pub within : place ≤ from
  pub same : last_start text rules place ≡ last_start text rules from
  pub inner : 0 < place → starts (source_at rules (from - 1)) (source_at rules (place - 1)) ≡ true

pub walk_ends : (rules : List TextRule) (text : Text) (from place : ℕ) → IsWalk rules text from place → 0 < place → length (source_at rules (place - 1)) ≤ shared (source_at rules (from - 1)) text → place ≡ last_start text rules from
walk_ends rules text from place walk h short =
    let back : suc (place - 1) ≡ place = omega arith in
    sym (sym walk.same ∙ ap (last_start text rules) (sym back) ∙ last_here text rules (place - 1) (shared_starts (source_at rules (place - 1)) (source_at rules (from - 1)) text (walk.inner h) short) ∙ back)

pub walk_more : (rules : List TextRule) (shorter : List ℕ) (text : Text) (from place next : ℕ) → IsTable rules shorter → from ≤ length rules → NotBehind rules text from → IsWalk rules text from place → 0 < place → shared (source_at rules (from - 1)) text < length (source_at rules (place - 1)) → next ≡ slice_index shorter (place - 1) → IsWalk rules text from next
walk_more rules shorter text from place next table within not_behind walk h long e =
    let back : suc (place - 1) ≡ place = omega arith in
    let here : Text = source_at rules (place - 1) in
    let below : place - 1 < length rules = omega (arith, walk.within) in
    let last : next ≡ last_start here rules (place - 1) = e ∙ table.shorter_are (place - 1) below in
    let stops : starts text here ≡ false = shared_stops here (source_at rules (from - 1)) text (walk.inner h) long in
    let skipped : last_start text rules (place - 1) ≡ last_start text rules (last_start here rules (place - 1)) =
    last_skips text rules (last_start here rules (place - 1)) (place - 1) (last_within here rules (place - 1)) (λ k l r. elim (cases_Bool (starts text (source_at rules k))) [
      | inl is ↦ absurd (both_ways _ (none_behind_last here rules (place - 1) k l r) (start_between (source_at rules k) here text is (not_behind (place - 1) (omega (arith, walk.within))) (table.rising k (place - 1) r below)))
      | inr isnt ↦ isnt
    ]) in
    record {
      within = omega (arith, walk.within, last, last_within here rules (place - 1));
      same = ap (last_start text rules) last ∙ sym skipped ∙ sym (last_same text rules (place - 1) stops) ∙ ap (last_start text rules) back ∙ walk.same;
      inner = λ some.
          let found : 0 < last_start here rules (place - 1) = omega (arith, last) in
          starts_through (source_at rules (next - 1)) here (source_at rules (from - 1))
          (subst (λ (m : ℕ). starts here (source_at rules (m - 1)) ≡ true) (sym last) (last_starts here rules (place - 1) found))
          (walk.inner h);
    }

pub walk_falls : (rules : List TextRule) (shorter : List ℕ) (place next : ℕ) → IsTable rules shorter → place ≤ length rules → 0 < place → next ≡ slice_index shorter (place - 1) → next < place
walk_falls rules shorter place next table within h e = omega (arith, e, table.shorter_are (place - 1) (omega arith), last_within (source_at rules (place - 1)) rules (place - 1))

-- the longest source at the front of a text is the last that starts it

rule_there : (rules : List TextRule) (n : ℕ) → n < length rules → drop n rules ≡ (source_at rules n, target_at rules n) ∷ drop (suc n) rules
unfolding target_at
rule_there [] n h = absurd (omega arith)
rule_there (r ∷ rules) zero h = refl
rule_there (r ∷ rules) (suc n) h = rule_there rules n (omega arith)

not_hit : (text source target : Text) → starts text source ≡ false → hit_of (source, target) text ≡ None
not_hit text source target h = ap (λ (x : Bool). cond x (Some (record { taken = length source; target = target })) None) h

unfoldable pub hit_with : Text → Text → Option Hit
hit_with source target = Some (record { taken = length source; target = target })

is_hit : (text source target : Text) → starts text source ≡ true → hit_of (source, target) text ≡ hit_with source target
unfolding hit_with
is_hit text source target h = ap (λ (x : Bool). cond x (Some (record { taken = length source; target = target })) None) h

hit_alone : (t source target : Text) → starts t source ≡ true → longer (hit_of (source, target) t) None ≡ hit_with source target
unfolding hit_with
hit_alone t source target is = ap (λ (o : Option Hit). longer o None) (is_hit t source target is)

-- sources that don't start the text are passed over from behind
passed_over : (text : Text) (rules : List TextRule) (n : ℕ) → n ≤ length rules → ((k : ℕ) → n ≤ k → k < length rules → starts text (source_at rules k) ≡ false) → (m : ℕ) → n + m ≡ length rules → longest (drop n rules) text ≡ None
passed_over text rules n h none zero e = ap (λ (rs : List TextRule). longest rs text) (drop_all n rules (omega arith))
passed_over text rules n h none (suc m) e =
    ap (λ (rs : List TextRule). longest rs text) (rule_there rules n (omega arith))
    ∙ ap (λ (o : Option Hit). longer o (longest (drop (suc n) rules) text)) (not_hit text (source_at rules n) (target_at rules n) (none n (omega arith) (omega arith)))
    ∙ passed_over text rules (suc n) (omega arith) (λ k l r. none k (omega arith) r) m (omega arith)

-- and shorter ones before a longer one give way to it
longer_stays : (text : Text) (rules : List TextRule) (source target : Text) (n : ℕ) → n ≤ length rules → ((k : ℕ) → k < n → starts text (source_at rules k) ≡ true → length (source_at rules k) < length source) → longest (drop n rules) text ≡ hit_with source target → longest rules text ≡ hit_with source target
unfolding hit_with
longer_stays text rules source target zero h less e = e
longer_stays text rules source target (suc n) h less e =
    longer_stays text rules source target n (omega arith) (λ k l. less k (omega arith))
    (ap (λ (rs : List TextRule). longest rs text) (rule_there rules n h)
    ∙ ap (λ (o : Option Hit). longer (hit_of (source_at rules n, target_at rules n) text) o) e
    ∙ elim (cases_Bool (starts text (source_at rules n))) [
      | inl is ↦
          ap (λ (o : Option Hit). longer o (Some (record { taken = length source; target = target }))) (is_hit text (source_at rules n) (target_at rules n) is)
          ∙ ap (λ (x : Bool). cond x (Some (record { taken = length source; target = target })) (Some (record { taken = length (source_at rules n); target = target_at rules n }))) (lt-ltb (length (source_at rules n)) (length source) (less n (omega arith) is))
      | inr isnt ↦ ap (λ (o : Option Hit). longer o (Some (record { taken = length source; target = target }))) (not_hit text (source_at rules n) (target_at rules n) isnt)
    ])

pub longest_none : (text : Text) (rules : List TextRule) → last_start text rules (length rules) ≡ 0 → longest rules text ≡ None
longest_none text rules e = passed_over text rules 0 (omega arith) (λ k l r. none_behind_last text rules (length rules) k (omega (arith, e)) r) (length rules) (omega arith)

pub longest_is : (text : Text) (rules : List TextRule) (place : ℕ) → Rise rules → place ≡ last_start text rules (length rules) → 0 < place → longest rules text ≡ hit_with (source_at rules (place - 1)) (target_at rules (place - 1))
longest_is text rules place rising e h =
    let q : ℕ = place - 1 in
    let within : place ≤ length rules = omega (arith, e, last_within text rules (length rules)) in
    let there : starts text (source_at rules q) ≡ true = subst (λ (m : ℕ). starts text (source_at rules (m - 1)) ≡ true) (sym e) (last_starts text rules (length rules) (omega (arith, e))) in
    let behind : longest (drop (suc q) rules) text ≡ None = passed_over text rules (suc q) (omega arith) (λ k l r. none_behind_last text rules (length rules) k (omega (arith, e)) r) (length rules - suc q) (omega arith) in
    longer_stays text rules (source_at rules q) (target_at rules q) q (omega arith)
    (λ k l is. start_shorter (source_at rules k) (source_at rules q) text is there (rising k q l (omega arith)))
    (ap (λ (rs : List TextRule). longest rs text) (rule_there rules q (omega arith))
    ∙ ap (longer (hit_of (source_at rules q, target_at rules q) text)) behind
    ∙ hit_alone text (source_at rules q) (target_at rules q) there)

-- a rule is added behind the others

pub source_kept : (rules : List TextRule) (last : TextRule) (n : ℕ) → n < length rules → source_at (rules ++ last ∷ []) n ≡ source_at rules n
source_kept [] last n h = absurd (omega arith)
source_kept (r ∷ rules) last zero h = refl
source_kept (r ∷ rules) last (suc n) h = source_kept rules last n (omega arith)

pub source_added : (rules : List TextRule) (last : TextRule) → source_at (rules ++ last ∷ []) (length rules) ≡ last.0
source_added [] last = refl
source_added (r ∷ rules) last = source_added rules last

last_kept : (text : Text) (rules : List TextRule) (last : TextRule) (n : ℕ) → n ≤ length rules → last_start text (rules ++ last ∷ []) n ≡ last_start text rules n
last_kept text rules last zero h = refl
last_kept text rules last (suc n) h =
    ap (λ (s : Text). cond (starts text s) (suc n) (last_start text (rules ++ last ∷ []) n)) (source_kept rules last n h)
    ∙ ap (λ (m : ℕ). cond (starts text (source_at rules n)) (suc n) m) (last_kept text rules last n (omega arith))

filled : (s : Text) → s ≢ [] → is_empty s ≡ false
filled [] h = absurd (h refl)
filled (b ∷ s) h = refl

pub table_more : (rules : List TextRule) (shorter : List ℕ) (source target : Text) (last : ℕ) → IsTable rules shorter → source ≢ [] → StandsBehind rules source → last ≡ last_start source rules (length rules) → IsTable (rules ++ (source, target) ∷ []) (shorter ++ last ∷ [])
table_more rules shorter source target last table some behind e =
    let more : List TextRule = rules ++ (source, target) ∷ [] in
    let size : length more ≡ suc (length rules) = length_more rules (source, target) in
    let new : source_at more (length rules) ≡ source = source_added rules (source, target) in
    record {
      sources = λ place h. elim (cases_lt place (length rules)) [
        | inl lt ↦ ap is_empty (source_kept rules (source, target) place lt) ∙ table.sources place lt
        | inr ge ↦ let at : place ≡ length rules = omega arith in ap (λ (n : ℕ). is_empty (source_at more n)) at ∙ ap is_empty new ∙ filled source some
      ];
      rising = λ i j h k. elim (cases_lt j (length rules)) [
        | inl lt ↦
            ap (λ (s : Text). slice_cmp nat_cmp s (source_at more j)) (source_kept rules (source, target) i (omega arith))
            ∙ ap (slice_cmp nat_cmp (source_at rules i)) (source_kept rules (source, target) j lt)
            ∙ table.rising i j h lt
        | inr ge ↦
            let at : j ≡ length rules = omega arith in
            ap (λ (s : Text). slice_cmp nat_cmp s (source_at more j)) (source_kept rules (source, target) i (omega arith))
            ∙ ap (λ (n : ℕ). slice_cmp nat_cmp (source_at rules i) (source_at more n)) at
            ∙ ap (slice_cmp nat_cmp (source_at rules i)) new
            ∙ behind i (omega arith)
      ];
      shorter_count = length_more shorter last ∙ ap (λ (n : ℕ). suc n) table.shorter_count ∙ sym size;
      shorter_are = λ place h. elim (cases_lt place (length rules)) [
        | inl lt ↦
            index_kept shorter last place (omega (arith, table.shorter_count))
            ∙ table.shorter_are place lt
            ∙ ap (λ (s : Text). last_start s rules place) (sym (source_kept rules (source, target) place lt))
            ∙ sym (last_kept (source_at more place) rules (source, target) place (omega arith))
        | inr ge ↦
            let at : place ≡ length rules = omega arith in
            subst (λ (n : ℕ). slice_index (shorter ++ last ∷ []) n ≡ last_start (source_at more n) more n) (sym at)
            (ap (λ (n : ℕ). slice_index (shorter ++ last ∷ []) n) (sym table.shorter_count) ∙ index_added shorter last ∙ e
            ∙ ap (λ (s : Text). last_start s rules (length rules)) (sym new)
            ∙ sym (last_kept (source_at more (length rules)) rules (source, target) (length rules) (omega arith)))
      ];
    }
