-- Two lists of files, walked in lock step.
use Rattle.std.proofs.Common.{◌≡◌, ◌≤◌, All, true, false, List, [], ◌∷◌, length, Option, Some, None, bytes_eq, drop, refl, sym, ap, subst, ◌∙◌, ◌↔◌, ◌⊎◌, inl, inr, Result, Ok, Err, IfOk, arith}
use Rattle.std.specs.Ordering.{nat_cmp}
use Rattle.std.specs.Cmp.Lexicographic.{slice_cmp}
use Rattle.std.specs.declared.cmp.Ordering.TheVariants.{Less, Equal, Greater}
use Rattle.std.proofs.lemmas.Bool.{cases_Bool}
use Rattle.std.proofs.lemmas.Slice.Eq.{bytes_eq-Decides}
use Rattle.desk_base.specs.Names.{Text}
use Rattle.desk_folders.specs.declared.folders.GenFile.{GenFile}
use Rattle.desk_compare.specs.declared.files.What.{What}
use Rattle.desk_compare.specs.declared.files.What.TheVariants as whats
use Rattle.desk_compare.specs.declared.files.Verdict.{Verdict}
use Rattle.desk_compare.specs.declared.files.Verdict.TheVariants as verdicts
use Rattle.desk_base.specs.Limits.{file_size}
use Rattle.std.specs.List.{AllByRecursion}
use Rattle.std.specs.List.Sorted.{IsStrictlySortedBy}
use Rattle.std.proofs.lemmas.List.Elements.{All-cons, All-head, All-nil, All-tail}
use Rattle.desk_compare.specs.Verdicts.{paths_of, IsShort, IsLess, content_at, holds_class, SameContents, SameAt, DifferentContents, FindsDifference, DifferentAt, AreSame, IsLeastDifference, IfDiffers}
use Rattle.desk_compare.specs.Ahead.{AreFound}
use Rattle.desk_compare.specs.Deciding.{verdict_of}
use Rattle.desk_compare.proofs.Verdicts.{between, not_less, less_on, turned, equal, nothing_differs, IsVerdict, verdict_same, verdict_differs, verdict_only}

-- ---- files in order

abbrev pub IsBefore : Text → List GenFile → Type 0
IsBefore p = AllByRecursion (λ (f : GenFile). IsLess p f.path)

-- files in byte order of their paths, each path once, none longer than a file may be
abbrev pub AreFiles : List GenFile → Type 0
AreFiles [] = Unit {0}
AreFiles (f ∷ fs) = (length f.content ≤ file_size) × IsBefore f.path fs × AreFiles fs

before_all : (p : Text) (fs : List GenFile) → AllByRecursion (λ (q : Text). IsLess p q) (paths_of fs) → IsBefore p fs
before_all p [] h = tt
before_all p (f ∷ fs) h = (h.0, before_all p fs h.1)

pub are_files : (fs : List GenFile) → IsStrictlySortedBy (slice_cmp nat_cmp) (paths_of fs) → All IsShort fs → AreFiles fs
unfolding IsStrictlySortedBy
are_files [] h k = tt
are_files (f ∷ fs) h k = (All-head IsShort f fs k, before_all f.path fs h.0, are_files fs h.1 (All-tail IsShort f fs k))

-- ---- order

other_path : (p q : Text) → IsLess q p → bytes_eq p q ≡ false
other_path p q h =
    elim (cases_Bool (bytes_eq p q)) [
      | inl e ↦ absurd (not_less q (subst (IsLess q) ((bytes_eq-Decides p q).0 e) h))
      | inr e ↦ e
    ]

all_on : (p q : Text) (fs : List GenFile) → IsLess p q → IsBefore q fs → IsBefore p fs
all_on p q [] h k = tt
all_on p q (f ∷ fs) h k = (less_on p q f.path h k.0, all_on p q fs h k.1)

-- ---- contents

none_among : (p : Text) (fs : List GenFile) → IsBefore p fs → content_at fs p ≡ None
none_among p [] h = refl
none_among p (f ∷ fs) h = rw (other_path f.path p h.0) (none_among p fs h.1)

below_all : (q : Text) (f : GenFile) (fs : List GenFile) → AreFiles (f ∷ fs) → IsLess q f.path → content_at (f ∷ fs) q ≡ None
below_all q f fs h lt = none_among q (f ∷ fs) (lt, all_on q f.path fs lt h.1)

at_head : (f : GenFile) (fs : List GenFile) (p : Text) → f.path ≡ p → content_at (f ∷ fs) p ≡ Some f.content
at_head f fs p e = let same : bytes_eq f.path p ≡ true = (bytes_eq-Decides f.path p).1 e in rw same refl

at_tail : (f : GenFile) (fs : List GenFile) (p : Text) → bytes_eq f.path p ≡ false → content_at (f ∷ fs) p ≡ content_at fs p
at_tail f fs p e = rw e refl

-- ---- what is left of both

-- each path was passed and they agree there, or what is left has what the lists have there
abbrev Passed : List GenFile → List GenFile → List GenFile → List GenFile → Text → Type 0
Passed left right one other q =
    (SameAt q (content_at left q) (content_at right q) × (content_at one q ≡ None) × (content_at other q ≡ None))
    ⊎ ((content_at left q ≡ content_at one q) × (content_at right q ≡ content_at other q))

pub record IsAhead (left right one other : List GenFile) : Type 0 where
  pub passed : (q : Text) → Passed left right one other q
  pub left_files : AreFiles one
  pub right_files : AreFiles other

module _ (left right : List GenFile) where
  pub start : IsStrictlySortedBy (slice_cmp nat_cmp) (paths_of left) → All IsShort left → IsStrictlySortedBy (slice_cmp nat_cmp) (paths_of right) → All IsShort right → IsAhead left right left right
  start a b c d = record { passed = λ q. inr (refl, refl); left_files = are_files left a b; right_files = are_files right c d }

  finish : IsAhead left right [] [] → IsVerdict left right verdicts.Same
  finish h = verdict_same left right (λ p.
      elim (h.passed p) [
        | inl x ↦ x.0
        | inr x ↦ subst (λ (o : Option Text). SameAt p o (content_at right p)) (sym x.0) (subst (SameAt p None) (sym x.1) tt)
      ])

  least : (one other : List GenFile) (p : Text) (what : What) → IsAhead left right one other → ((q : Text) → IsLess q p → (content_at one q ≡ None) × (content_at other q ≡ None))
      → DifferentAt p (content_at one p) (content_at other p) what → IsVerdict left right (verdicts.Differs p what)
  least one other p what h below there = verdict_differs left right p what (record { different = here; before = before }) where
    here : DifferentAt p (content_at left p) (content_at right p) what
    here =
        elim (h.passed p) [
          | inl x ↦
              absurd (nothing_differs p what (subst (λ (o : Option Text). DifferentAt p None o what) x.2 (subst (λ (o : Option Text). DifferentAt p o (content_at other p) what) x.1 there)))
          | inr x ↦
              subst (λ (o : Option Text). DifferentAt p o (content_at right p) what) (sym x.0) (subst (λ (o : Option Text). DifferentAt p (content_at one p) o what) (sym x.1) there)
        ]

    before : (q : Text) → IsLess q p → SameAt q (content_at left q) (content_at right q)
    before q lt =
        elim (h.passed q) [
          | inl x ↦ x.0
          | inr x ↦
              let b = below q lt in
              subst (λ (o : Option Text). SameAt q o (content_at right q)) (sym (x.0 ∙ b.0)) (subst (SameAt q None) (sym (x.1 ∙ b.1)) tt)
        ]

  pub missing_last : (a : GenFile) (as' : List GenFile) → IsAhead left right (a ∷ as') [] → IsVerdict left right (verdicts.Differs a.path whats.Missing)
  missing_last a as' h =
      least (a ∷ as') [] a.path whats.Missing h (λ q lt. (below_all q a as' h.left_files lt, refl))
      (subst (λ (o : Option Text). DifferentAt a.path o None whats.Missing) (sym (at_head a as' a.path refl)) tt)

  pub extra_last : (b : GenFile) (bs : List GenFile) → IsAhead left right [] (b ∷ bs) → IsVerdict left right (verdicts.Differs b.path whats.Extra)
  extra_last b bs h =
      least [] (b ∷ bs) b.path whats.Extra h (λ q lt. (refl, below_all q b bs h.right_files lt))
      (subst (λ (o : Option Text). DifferentAt b.path None o whats.Extra) (sym (at_head b bs b.path refl)) tt)

  module _ (a b : GenFile) (as' bs : List GenFile) (h : IsAhead left right (a ∷ as') (b ∷ bs)) where
    pub missing : IsLess a.path b.path → IsVerdict left right (verdicts.Differs a.path whats.Missing)
    missing lt =
        least (a ∷ as') (b ∷ bs) a.path whats.Missing h (λ q k. (below_all q a as' h.left_files k, below_all q b bs h.right_files (less_on q a.path b.path k lt)))
        (subst (λ (o : Option Text). DifferentAt a.path (content_at (a ∷ as') a.path) o whats.Missing) (sym (below_all a.path b bs h.right_files lt))
        (subst (λ (o : Option Text). DifferentAt a.path o None whats.Missing) (sym (at_head a as' a.path refl)) tt))

    pub extra : IsLess b.path a.path → IsVerdict left right (verdicts.Differs b.path whats.Extra)
    extra lt =
        least (a ∷ as') (b ∷ bs) b.path whats.Extra h (λ q k. (below_all q a as' h.left_files (less_on q b.path a.path k lt), below_all q b bs h.right_files k))
        (subst (λ (o : Option Text). DifferentAt b.path o (content_at (b ∷ bs) b.path) whats.Extra) (sym (below_all b.path a as' h.left_files lt))
        (subst (λ (o : Option Text). DifferentAt b.path None o whats.Extra) (sym (at_head b bs b.path refl)) tt))

    module _ (same : a.path ≡ b.path) where
      pub other_content : (what : What) → DifferentContents (holds_class a.path a.content) a.content b.content what → IsVerdict left right (verdicts.Differs a.path what)
      other_content what d =
          least (a ∷ as') (b ∷ bs) a.path what h (λ q k. (below_all q a as' h.left_files k, below_all q b bs h.right_files (subst (IsLess q) same k)))
          (subst (λ (o : Option Text). DifferentAt a.path (content_at (a ∷ as') a.path) o what) (sym (at_head b bs a.path (sym same)))
          (subst (λ (o : Option Text). DifferentAt a.path o (Some b.content) what) (sym (at_head a as' a.path refl)) (both what d)))
        where
          both : (what : What) → DifferentContents (holds_class a.path a.content) a.content b.content what → DifferentAt a.path (Some a.content) (Some b.content) what
          both whats.Missing d = d
          both whats.Extra d = d
          both whats.Bytes d = d
          both whats.Malformed d = d
          both whats.Tree d = d

      pub step : SameContents (holds_class a.path a.content) a.content b.content → IsAhead left right as' bs
      step agree = record { passed = on; left_files = h.left_files.2; right_files = h.right_files.2 } where
        gone : (q : Text) → bytes_eq a.path q ≡ true → Passed left right as' bs q
        gone q e =
            let is : a.path ≡ q = (bytes_eq-Decides a.path q).0 e in
            let p : content_at (a ∷ as') q ≡ Some a.content = at_head a as' q is in
            let r : content_at (b ∷ bs) q ≡ Some b.content = at_head b bs q (sym same ∙ is) in
            elim (h.passed q) [
              | inl x ↦ absurd (cc (p, x.1))
              | inr x ↦ inl (
                subst (λ (o : Option Text). SameAt q o (content_at right q)) (sym (x.0 ∙ p))
                    (subst (SameAt q (Some a.content)) (sym (x.1 ∙ r)) (subst (λ (z : Text). SameContents (holds_class z a.content) a.content b.content) is agree)),
                subst (λ (z : Text). content_at as' z ≡ None) is (none_among a.path as' h.left_files.1),
                subst (λ (z : Text). content_at bs z ≡ None) (sym same ∙ is) (none_among b.path bs h.right_files.1),
              )
            ]

        kept : (q : Text) → bytes_eq a.path q ≡ false → Passed left right as' bs q
        kept q e =
            let p : content_at (a ∷ as') q ≡ content_at as' q = at_tail a as' q e in
            let r : content_at (b ∷ bs) q ≡ content_at bs q = at_tail b bs q (ap (λ (z : Text). bytes_eq z q) (sym same) ∙ e) in
            elim (h.passed q) [
              | inl x ↦ inl (x.0, sym p ∙ x.1, sym r ∙ x.2)
              | inr x ↦ inr (x.0 ∙ p, x.1 ∙ r)
            ]

        on : (q : Text) → Passed left right as' bs q
        on q = elim (cases_Bool (bytes_eq a.path q)) [ inl e ↦ gone q e | inr e ↦ kept q e ]

-- ---- as the code has them

empty : {A : Type 0} (xs : List A) → length xs ≡ 0 → xs ≡ []
empty [] h = refl
empty (x ∷ xs) h = absurd (omega arith)

-- a finding at the head of two lists
finding : (a b : GenFile) (as' bs : List GenFile) (o : Option What) → AreFound (a ∷ as') (b ∷ bs) (o ∷ []) → FindsDifference (holds_class a.path a.content) a.content b.content o
finding a b as' bs o d = subst (FindsDifference (holds_class a.path a.content) a.content b.content) (sym d.0) (between (holds_class a.path a.content) a.content b.content)

pub are_short : (fs : List GenFile) → AreFiles fs → All IsShort fs
are_short [] h = All-nil IsShort
are_short (f ∷ fs) h = All-cons IsShort f fs h.0 (are_short fs h.2)

-- all clauses on a result
pub record IsExact (left right : List GenFile) {E : Type 0} (result : Result Verdict E) : Type 0 where
  pub same : IfOk result (λ (v : Verdict). (v ≡ verdicts.Same) ↔ AreSame left right)
  pub differs : IfOk result (λ (v : Verdict). IfDiffers v (IsLeastDifference left right))
  pub exact : IfOk result (λ (v : Verdict). v ≡ verdict_of left right)

pub told : {E : Type 0} (result : Result Verdict E) (v : Verdict) (left right : List GenFile) → IfOk result (λ x. x ≡ v) → IsVerdict left right v → IsExact left right result
told (Ok x) v left right e h = let k = subst (IsVerdict left right) (sym e) h in record { same = k.same; differs = k.differs; exact = verdict_only left right x k }
told (Err e) v left right k h = record { same = tt; differs = tt; exact = tt }

ahead_at : (left right one other one' other' : List GenFile) → IsAhead left right one other → one ≡ one' → other ≡ other' → IsAhead left right one' other'
ahead_at left right one other one' other' h p q = subst (λ (x : List GenFile). IsAhead left right x other') p (subst (IsAhead left right one) q h)

pub as_same : (left right one other : List GenFile) → IsAhead left right one other → length one ≡ 0 → length other ≡ 0 → IsVerdict left right verdicts.Same
as_same left right one other h p q = finish left right (ahead_at left right one other [] [] h (empty one p) (empty other q))

module _ (left right one other : List GenFile) (h : IsAhead left right one other) {E : Type 0} (result : Result Verdict E) where
  pub as_missing_last : (a : GenFile) (as' : List GenFile) → one ≡ a ∷ as' → length other ≡ 0 → IfOk result (λ x. x ≡ verdicts.Differs a.path whats.Missing) → IsExact left right result
  as_missing_last a as' p q e = told result (verdicts.Differs a.path whats.Missing) left right e (missing_last left right a as' (ahead_at left right one other (a ∷ as') [] h p (empty other q)))

  pub as_extra_last : (b : GenFile) (bs : List GenFile) → length one ≡ 0 → other ≡ b ∷ bs → IfOk result (λ x. x ≡ verdicts.Differs b.path whats.Extra) → IsExact left right result
  as_extra_last b bs p q e = told result (verdicts.Differs b.path whats.Extra) left right e (extra_last left right b bs (ahead_at left right one other [] (b ∷ bs) h (empty one p) q))

  module _ (a b : GenFile) (as' bs : List GenFile) (p : one ≡ a ∷ as') (q : other ≡ b ∷ bs) where
    both_ahead : IsAhead left right (a ∷ as') (b ∷ bs)
    both_ahead = ahead_at left right one other (a ∷ as') (b ∷ bs) h p q

    pub as_missing : Less ≡ slice_cmp nat_cmp a.path b.path → IfOk result (λ x. x ≡ verdicts.Differs a.path whats.Missing) → IsExact left right result
    as_missing lt e = told result (verdicts.Differs a.path whats.Missing) left right e (missing left right a b as' bs both_ahead (sym lt))

    pub as_extra : Greater ≡ slice_cmp nat_cmp a.path b.path → IfOk result (λ x. x ≡ verdicts.Differs b.path whats.Extra) → IsExact left right result
    as_extra gt e = told result (verdicts.Differs b.path whats.Extra) left right e (extra left right a b as' bs both_ahead (turned a.path b.path (sym gt)))

    -- what was found at the head of both lists
    at_head_of : (o : Option What) → AreFound one other (o ∷ []) → FindsDifference (holds_class a.path a.content) a.content b.content o
    at_head_of o d = finding a b as' bs o (subst (λ (x : List GenFile). AreFound x (b ∷ bs) (o ∷ [])) p (subst (λ (x : List GenFile). AreFound one x (o ∷ [])) q d))

    pub as_other : Equal ≡ slice_cmp nat_cmp a.path b.path → (o : Option What) (what : What) → o ≡ Some what → AreFound one other (o ∷ [])
        → IfOk result (λ x. x ≡ verdicts.Differs a.path what) → IsExact left right result
    as_other same o what is d e =
        told result (verdicts.Differs a.path what) left right e
        (other_content left right a b as' bs both_ahead (equal a.path b.path (sym same)) what (subst (FindsDifference (holds_class a.path a.content) a.content b.content) is (at_head_of o d)))

module _ (left right one other : List GenFile) (h : IsAhead left right one other) (a b : GenFile) (as' bs : List GenFile) (p : one ≡ a ∷ as') (q : other ≡ b ∷ bs) where
  pub as_step : Equal ≡ slice_cmp nat_cmp a.path b.path → (o : Option What) → o ≡ None → AreFound one other (o ∷ []) → IsAhead left right as' bs
  as_step same o is d =
      step left right a b as' bs (ahead_at left right one other (a ∷ as') (b ∷ bs) h p q) (equal a.path b.path (sym same))
      (subst (FindsDifference (holds_class a.path a.content) a.content b.content) is (finding a b as' bs o (subst (λ (x : List GenFile). AreFound x (b ∷ bs) (o ∷ [])) p (subst (λ (x : List GenFile). AreFound one x (o ∷ [])) q d))))

  pub found_behind : (findings : List (Option What)) → AreFound (drop 1 one) (drop 1 other) findings → AreFound as' bs findings
  found_behind findings d = subst (λ (x : List GenFile). AreFound x bs findings) (ap (drop 1) p) (subst (λ (x : List GenFile). AreFound (drop 1 one) x findings) (ap (drop 1) q) d)
