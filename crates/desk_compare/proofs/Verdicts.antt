-- Verdicts on two lists of files: no two say what the lists are to each other, and the one that is a function of both says it.
use Rattle.std.proofs.Common.{◌≡◌, Bool, true, false, cond, List, [], ◌∷◌, ◌++◌, Option, Some, None, Decides, bytes_eq, refl, sym, ap, subst, ◌∙◌, ◌↔◌, ◌⊎◌, inl, inr}
use Rattle.std.specs.Ordering.{nat_cmp, ordering_reverse}
use Rattle.std.specs.Cmp.Lexicographic.{slice_cmp}
use Rattle.std.specs.declared.cmp.Ordering.{Ordering}
use Rattle.std.specs.declared.cmp.Ordering.TheVariants.{Less, Equal, Greater}
use Rattle.std.proofs.lemmas.Cmp.{nat_list_cmp_total}
use Rattle.std.proofs.lemmas.Bool.{cases_Bool, false≢true}
use Rattle.std.proofs.lemmas.Map.Text.{is_eq-slice_cmp}
use Rattle.std.proofs.lemmas.Slice.Eq.{bytes_eq-Decides}
use Rattle.desk_base.specs.Names.{Text}
use Rattle.desk_base.specs.declared.faults.Malformed.{Malformed}
use Rattle.desk_format.specs.Classes.{class_fault}
use Rattle.desk_folders.specs.declared.folders.GenFile.{GenFile}
use Rattle.desk_compare.specs.declared.files.What.{What}
use Rattle.desk_compare.specs.declared.files.What.TheVariants as whats
use Rattle.desk_compare.specs.declared.files.Verdict.{Verdict}
use Rattle.desk_compare.specs.declared.files.Verdict.TheVariants as verdicts
use Rattle.desk_compare.specs.Free.{free_in}
use Rattle.desk_compare.specs.Verdicts.{paths_of, IsLess, content_at, is_sound, holds_class, SameContents, SameAt, DifferentContents, FindsDifference, DifferentAt, AreSame, IsLeastDifference, IfDiffers}
use Rattle.desk_compare.specs.Deciding.{what_between, what_at, verdict_at, by_order, lesser, verdict_among, verdict_of}
use Rattle.desk_compare.proofs.Deciding.{same_free-Decides}

-- ---- order

pub not_less : (p : Text) → IsLess p p → ⊥
not_less p h = let e : slice_cmp nat_cmp p p ≡ ordering_reverse (slice_cmp nat_cmp p p) = nat_list_cmp_total.antisymm p p in apart (slice_cmp nat_cmp p p) h e where
  apart : (o : Ordering) → o ≡ Less → o ≡ ordering_reverse o → ⊥
  apart Less h e = absurd cc
  apart Equal h e = absurd cc
  apart Greater h e = absurd cc

pub less_on : (p q r : Text) → IsLess p q → IsLess q r → IsLess p r
less_on p q r h k = nat_list_cmp_total.trans p q r h k

pub turned : (p q : Text) → slice_cmp nat_cmp p q ≡ Greater → IsLess q p
turned p q h = nat_list_cmp_total.antisymm q p ∙ ap ordering_reverse h

pub equal : (p q : Text) → slice_cmp nat_cmp p q ≡ Equal → p ≡ q
equal p q h = (bytes_eq-Decides p q).0 (sym (is_eq-slice_cmp p q) ∙ rw h refl)

-- ---- two contents at a path

pub nothing_differs : (p : Text) (what : What) → DifferentAt p None None what → ⊥
nothing_differs p whats.Missing h = h
nothing_differs p whats.Extra h = h
nothing_differs p whats.Bytes h = h
nothing_differs p whats.Malformed h = h
nothing_differs p whats.Tree h = h

pub of_contents : (form : Bool) (a b : Text) (what : What) → DifferentContents form a b what → SameContents form a b → ⊥
of_contents true a b whats.Malformed d g = d g.0
of_contents true a b whats.Tree d g = d.1 g.1
of_contents true a b whats.Missing d g = d
of_contents true a b whats.Extra d g = d
of_contents true a b whats.Bytes d g = d
of_contents false a b whats.Bytes d g = d g
of_contents false a b whats.Malformed d g = d
of_contents false a b whats.Tree d g = d
of_contents false a b whats.Missing d g = d
of_contents false a b whats.Extra d g = d

of_both : (p a b : Text) (what : What) → DifferentAt p (Some a) (Some b) what → DifferentContents (holds_class p a) a b what
of_both p a b whats.Missing h = h
of_both p a b whats.Extra h = h
of_both p a b whats.Bytes h = h
of_both p a b whats.Malformed h = h
of_both p a b whats.Tree h = h

-- nothing both differs and is the same
apart_at : (p : Text) (l r : Option Text) (what : What) → DifferentAt p l r what → SameAt p l r → ⊥
apart_at p None None what d g = nothing_differs p what d
apart_at p (Some a) None what d g = g
apart_at p None (Some b) what d g = g
apart_at p (Some a) (Some b) what d g = of_contents (holds_class p a) a b what (of_both p a b what d) g

-- they differ in one way
pub contents_one : (form : Bool) (a b : Text) (v w : What) → DifferentContents form a b v → DifferentContents form a b w → v ≡ w
contents_one true a b whats.Malformed whats.Malformed d e = refl
contents_one true a b whats.Malformed whats.Tree d e = absurd (d e.0)
contents_one true a b whats.Malformed _ d e = absurd e
contents_one true a b whats.Tree whats.Tree d e = refl
contents_one true a b whats.Tree whats.Malformed d e = absurd (e d.0)
contents_one true a b whats.Tree _ d e = absurd e
contents_one false a b whats.Bytes whats.Bytes d e = refl
contents_one false a b whats.Bytes _ d e = absurd e
contents_one _ a b _ w d e = absurd d

what_one : (p : Text) (l r : Option Text) (v w : What) → DifferentAt p l r v → DifferentAt p l r w → v ≡ w
what_one p None None v w d e = absurd (nothing_differs p v d)
what_one p (Some a) None whats.Missing whats.Missing d e = refl
what_one p (Some a) None whats.Missing _ d e = absurd e
what_one p (Some a) None _ w d e = absurd d
what_one p None (Some b) whats.Extra whats.Extra d e = refl
what_one p None (Some b) whats.Extra _ d e = absurd e
what_one p None (Some b) _ w d e = absurd d
what_one p (Some a) (Some b) v w d e = contents_one (holds_class p a) a b v w (of_both p a b v d) (of_both p a b w e)

-- ---- verdicts

-- a verdict that says exactly what two lists are to each other
pub record IsVerdict (left right : List GenFile) (verdict : Verdict) : Type 0 where
  pub same : (verdict ≡ verdicts.Same) ↔ AreSame left right
  pub differs : IfDiffers verdict (IsLeastDifference left right)

pub verdict_same : (left right : List GenFile) → AreSame left right → IsVerdict left right verdicts.Same
verdict_same left right h = record { same = ((λ e. h), (λ g. refl)); differs = tt }

pub verdict_differs : (left right : List GenFile) (p : Text) (what : What) → IsLeastDifference left right p what → IsVerdict left right (verdicts.Differs p what)
verdict_differs left right p what d = record {
  same = ((λ e. absurd cc), (λ g. absurd (apart_at p (content_at left p) (content_at right p) what d.different (g p))));
  differs = d;
}

-- no two verdicts say what two lists are to each other
pub verdict_one : (left right : List GenFile) (v w : Verdict) → IsVerdict left right v → IsVerdict left right w → v ≡ w
verdict_one left right verdicts.Same w h k = sym (k.same.1 (h.same.0 refl))
verdict_one left right (verdicts.Differs p a) verdicts.Same h k = h.same.1 (k.same.0 refl)
verdict_one left right (verdicts.Differs p a) (verdicts.Differs q b) h k = by (slice_cmp nat_cmp p q) refl where
  by : (o : Ordering) → slice_cmp nat_cmp p q ≡ o → verdicts.Differs p a ≡ verdicts.Differs q b
  by Less e = absurd (apart_at p (content_at left p) (content_at right p) a h.differs.different (k.differs.before p e))
  by Equal e =
      let path = equal p q e in
      let there : DifferentAt p (content_at left p) (content_at right p) b = subst (λ (z : Text). DifferentAt z (content_at left z) (content_at right z) b) (sym path) k.differs.different in
      let what = what_one p (content_at left p) (content_at right p) a b h.differs.different there in
      λ i. verdicts.Differs (path i) (what i)
  by Greater e = absurd (apart_at q (content_at left q) (content_at right q) b k.differs.different (h.differs.before q (turned p q e)))

-- ---- what differs at a path, as a function

sound_Decides : (f : Option Malformed) → Decides (is_sound f) (f ≡ None)
sound_Decides None = (λ h. refl, λ e. refl)
sound_Decides (Some f) = (λ h. absurd (false≢true h), λ e. absurd cc)

class_found : (a b : Text) (sound same : Bool) → Decides sound (class_fault b ≡ None) → Decides same (free_in a ≡ free_in b)
    → FindsDifference true a b (cond sound (cond same None (Some whats.Tree)) (Some whats.Malformed))
class_found a b true true d e = (d.0 refl, e.0 refl)
class_found a b true false d e = (d.0 refl, λ k. false≢true (e.1 k))
class_found a b false same d e = λ k. false≢true (d.1 k)

bytes_found : (a b : Text) (same : Bool) → Decides same (a ≡ b) → FindsDifference false a b (cond same None (Some whats.Bytes))
bytes_found a b true d = d.0 refl
bytes_found a b false d = λ k. false≢true (d.1 k)

pub between : (form : Bool) (a b : Text) → FindsDifference form a b (what_between form a b)
between true a b = class_found a b _ _ (sound_Decides (class_fault b)) (same_free-Decides (free_in a) (free_in b))
between false a b = bytes_found a b _ (bytes_eq-Decides a b)

-- what was found of what two lists have at a path
abbrev FindsAt : Text → Option Text → Option Text → Option What → Type 0
FindsAt p l r None = SameAt p l r
FindsAt p l r (Some what) = DifferentAt p l r what

at_both : (p a b : Text) (o : Option What) → FindsDifference (holds_class p a) a b o → FindsAt p (Some a) (Some b) o
at_both p a b None h = h
at_both p a b (Some whats.Missing) h = h
at_both p a b (Some whats.Extra) h = h
at_both p a b (Some whats.Bytes) h = h
at_both p a b (Some whats.Malformed) h = h
at_both p a b (Some whats.Tree) h = h

at_path : (p : Text) (l r : Option Text) → FindsAt p l r (what_at p l r)
unfolding what_at
at_path p None None = tt
at_path p (Some a) None = tt
at_path p None (Some b) = tt
at_path p (Some a) (Some b) = at_both p a b (what_between (holds_class p a) a b) (between (holds_class p a) a b)

-- ---- paths

-- a path is one of some
abbrev Among : Text → List Text → Type 0
Among q [] = ⊥
Among q (p ∷ ps) = (p ≡ q) ⊎ Among q ps

among_first : (q : Text) (ps qs : List Text) → Among q ps → Among q (ps ++ qs)
among_first q [] qs m = absurd m
among_first q (p ∷ ps) qs (inl e) = inl e
among_first q (p ∷ ps) qs (inr m) = inr (among_first q ps qs m)

among_second : (q : Text) (ps qs : List Text) → Among q qs → Among q (ps ++ qs)
among_second q [] qs m = m
among_second q (p ∷ ps) qs m = inr (among_second q ps qs m)

among_or_none : (q : Text) (fs : List GenFile) → Among q (paths_of fs) ⊎ (content_at fs q ≡ None)
among_or_none q [] = inr refl
among_or_none q (f ∷ fs) =
    elim (cases_Bool (bytes_eq f.path q)) [
      | inl e ↦ inl (inl ((bytes_eq-Decides f.path q).0 e))
      | inr e ↦ elim (among_or_none q fs) [ inl m ↦ inl (inr m) | inr n ↦ inr (rw e n) ]
    ]

-- ---- the verdict as a function

module _ (left right : List GenFile) where
  -- the lists have the same at a path
  abbrev Agree : Text → Type 0
  Agree q = SameAt q (content_at left q) (content_at right q)

  -- so they do at any path, if they do at each that is among those of one
  at_any : (q : Text) → (Among q (paths_of left ++ paths_of right) → Agree q) → Agree q
  at_any q h =
      elim (among_or_none q left) [
        | inl m ↦ h (among_first q (paths_of left) (paths_of right) m)
        | inr a ↦
            elim (among_or_none q right) [
              | inl m ↦ h (among_second q (paths_of left) (paths_of right) m)
              | inr b ↦ subst (λ (o : Option Text). SameAt q o (content_at right q)) (sym a) (subst (SameAt q None) (sym b) tt)
            ]
      ]

  -- a verdict says what the lists are to each other at some paths
  abbrev Tells : List Text → Verdict → Type 0
  Tells ps verdicts.Same = (q : Text) → Among q ps → Agree q
  Tells ps (verdicts.Differs p what) = DifferentAt p (content_at left p) (content_at right p) what × ((q : Text) → IsLess q p → Among q ps → Agree q)

  with_path : (p : Text) (o : Option What) → FindsAt p (content_at left p) (content_at right p) o → (ps : List Text) (v : Verdict) → Tells ps v → Tells (p ∷ ps) (lesser (verdict_at p o) v)
  with_path p None g ps verdicts.Same h = λ q m. elim m [ inl e ↦ subst Agree e g | inr k ↦ h q k ]
  with_path p None g ps (verdicts.Differs r what) h = (h.0, λ q lt m. elim m [ inl e ↦ subst Agree e g | inr k ↦ h.1 q lt k ])
  with_path p (Some what) g ps verdicts.Same h = (g, λ q lt m. elim m [ inl e ↦ absurd (not_less p (subst (λ (z : Text). IsLess z p) (sym e) lt)) | inr k ↦ h q k ])
  with_path p (Some what) g ps (verdicts.Differs r other) h = by (slice_cmp nat_cmp p r) refl where
    by : (o : Ordering) → slice_cmp nat_cmp p r ≡ o → Tells (p ∷ ps) (by_order o (verdicts.Differs p what) (verdicts.Differs r other))
    by Less e = (g, λ q lt m. elim m [ inl k ↦ absurd (not_less p (subst (λ (z : Text). IsLess z p) (sym k) lt)) | inr k ↦ h.1 q (less_on q p r lt e) k ])
    by Equal e = (h.0, λ q lt m. elim m [ inl k ↦ absurd (not_less q (subst (IsLess q) (sym (equal p r e) ∙ k) lt)) | inr k ↦ h.1 q lt k ])
    by Greater e = (h.0, λ q lt m. elim m [ inl k ↦ absurd (not_less q (subst (IsLess q) k (less_on q r p lt (turned p r e)))) | inr k ↦ h.1 q lt k ])

  among_tells : (ps : List Text) → Tells ps (verdict_among left right ps)
  among_tells [] = λ q m. absurd m
  among_tells (p ∷ ps) =
      with_path p (what_at p (content_at left p) (content_at right p)) (at_path p (content_at left p) (content_at right p)) ps (verdict_among left right ps) (among_tells ps)

  of_all : (v : Verdict) → Tells (paths_of left ++ paths_of right) v → IsVerdict left right v
  of_all verdicts.Same h = verdict_same left right (λ q. at_any q (h q))
  of_all (verdicts.Differs p what) h = verdict_differs left right p what (record { different = h.0; before = λ q lt. at_any q (h.1 q lt) })

  pub verdict_is : IsVerdict left right (verdict_of left right)
  unfolding verdict_of
  verdict_is = of_all (verdict_among left right (paths_of left ++ paths_of right)) (among_tells (paths_of left ++ paths_of right))

  -- any verdict that says what the lists are to each other is that one
  pub verdict_only : (v : Verdict) → IsVerdict left right v → v ≡ verdict_of left right
  verdict_only v h = verdict_one left right v (verdict_of left right) h verdict_is
