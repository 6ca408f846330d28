-- What a search for clashes finds.
use Rattle.std.proofs.Common.{◌≡◌, ℕ, zero, suc, ◌+◌, ◌<◌, ◌≤◌, true, false, List, [], ◌∷◌, map, length, drop, get_or, Option, Some, None, option_map, is_some, refl, sym, ap, ap₂, ◌∙◌, arith, add-one}
use Rattle.std.specs.List.{find}
use Rattle.std.proofs.Math.Seq.{drop-cons}
use Rattle.std.proofs.lemmas.List.{get_or_default}
use Rattle.desk_base.specs.Names.{Text}
use Rattle.desk_graph.specs.Application.{Pair, with_image, meets, with_other, clash_among}
use Rattle.desk_graph.specs.Tables.{IsKnownBy, meets_known}
use Rattle.desk_graph.specs.Clashes.{clash_pair}
use Rattle.desk_graph.specs.declared.clashes.NameClash.{NameClash}
use Rattle.desk_graph.proofs.Sets.{meets_mapped}
use Rattle.desk_graph.specs.Nodes.{defined_of}
use Rattle.desk_graph.proofs.Numbering.{first_at, firsts_long}
use Rattle.desk_graph.proofs.Building.{image_at}

some_mapped : (o : Option NameClash) → is_some (option_map clash_pair o) ≡ is_some o
some_mapped None = refl
some_mapped (Some c) = refl

-- the names of these
abbrev named : List Pair → List Text
named known = map (λ (k : Pair). k.0) known

module _ (f : Text → Text) (known : List Pair) (is : IsKnownBy f known) (one : Pair) (image : one ≡ with_image f one.0) (rest : List Text)
    (c : Option NameClash) (pair : option_map clash_pair c ≡ with_other one.0 (option_map (λ (k : Pair). k.0) (find (meets_known one) known)) None) where
  step : option_map clash_pair c ≡ with_other one.0 (find (meets f one.0) (named known)) None
  step =
      pair
      ∙ ap (λ (p : Pair). with_other one.0 (option_map (λ (k : Pair). k.0) (find (meets_known p) known)) None) image
      ∙ ap (λ (o : Option Text). with_other one.0 o None) (meets_mapped f one.0 known is)

  pub found : is_some c ≡ true → option_map clash_pair c ≡ clash_among f (named known) (one.0 ∷ rest)
  found some = by (find (meets f one.0) (named known)) step
    where
      by : (o : Option Text) → option_map clash_pair c ≡ with_other one.0 o None → option_map clash_pair c ≡ with_other one.0 o (clash_among f (named known) rest)
      by None e = let k : is_some (option_map clash_pair c) ≡ false = ap is_some e in let j : is_some (option_map clash_pair c) ≡ true = some_mapped c ∙ some in absurd cc
      by (Some o) e = e

  pub not_found : is_some c ≡ false → clash_among f (named known) rest ≡ clash_among f (named known) (one.0 ∷ rest)
  not_found none = by (find (meets f one.0) (named known)) step
    where
      by : (o : Option Text) → option_map clash_pair c ≡ with_other one.0 o None → clash_among f (named known) rest ≡ with_other one.0 o (clash_among f (named known) rest)
      by None e = refl
      by (Some o) e = let k : is_some (option_map clash_pair c) ≡ true = ap is_some e in let j : is_some (option_map clash_pair c) ≡ false = some_mapped c ∙ none in absurd cc

-- ---- a place in turn

-- what is to be searched from a place on
abbrev pub left : (Text → Text) → List Pair → List (Option ℕ) → ℕ → Option Pair
left f known nodes i = clash_among f (named known) (defined_of (drop i (named known)) (drop i nodes))

past : (ns : List Text) (i : ℕ) → length ns ≤ i → drop i ns ≡ []
past [] zero h = refl
past [] (suc i) h = refl
past (n ∷ ns) zero h = absurd (omega arith)
past (n ∷ ns) (suc i) h = past ns i (omega arith)

-- behind the last name nothing is left
pub none_left : (f : Text → Text) (known : List Pair) (nodes : List (Option ℕ)) (i : ℕ) → length known ≤ i → None ≡ left f known nodes i
none_left f known nodes i h = sym (ap (λ (ns : List Text). clash_among f (named known) (defined_of ns (drop i nodes))) (past (named known) i (omega (arith, firsts_long known, h))))

module _ (f : Text → Text) (known : List Pair) (nodes : List (Option ℕ)) (i : ℕ) (h : i < length known) (k : i < length nodes) where
  names_cut : drop i (named known) ≡ (get_or known i ([], [])).0 ∷ drop (i + 1) (named known)
  names_cut =
      drop-cons (named known) i [] (omega (arith, firsts_long known, h))
      ∙ ap (λ (t : Text). t ∷ drop (suc i) (named known)) (first_at known i ([], []))
      ∙ ap (λ (n : ℕ). (get_or known i ([], [])).0 ∷ drop n (named known)) (sym (add-one i))

  nodes_cut : drop i nodes ≡ get_or nodes i None ∷ drop (i + 1) nodes
  nodes_cut = drop-cons nodes i None k ∙ ap (λ (n : ℕ). get_or nodes i None ∷ drop n nodes) (sym (add-one i))

  both_cut : defined_of (drop i (named known)) (drop i nodes) ≡ defined_of ((get_or known i ([], [])).0 ∷ drop (i + 1) (named known)) (get_or nodes i None ∷ drop (i + 1) nodes)
  both_cut = ap₂ (λ (ns : List Text) (os : List (Option ℕ)). defined_of ns os) names_cut nodes_cut

  -- a name without a node
  pub passed : is_some (get_or nodes i None) ≡ false → left f known nodes (i + 1) ≡ left f known nodes i
  passed none = ap (clash_among f (named known)) (by (get_or nodes i None) none) ∙ ap (clash_among f (named known)) (sym both_cut)
    where
      by : (o : Option ℕ) → is_some o ≡ false → defined_of (drop (i + 1) (named known)) (drop (i + 1) nodes) ≡ defined_of ((get_or known i ([], [])).0 ∷ drop (i + 1) (named known)) (o ∷ drop (i + 1) nodes)
      by None e = refl
      by (Some n) e = absurd cc

  -- a name with a node
  pub searched : is_some (get_or nodes i None) ≡ true → left f known nodes i ≡ clash_among f (named known) ((get_or known i ([], [])).0 ∷ defined_of (drop (i + 1) (named known)) (drop (i + 1) nodes))
  searched some = ap (clash_among f (named known)) (both_cut ∙ by (get_or nodes i None) some)
    where
      by : (o : Option ℕ) → is_some o ≡ true → defined_of ((get_or known i ([], [])).0 ∷ drop (i + 1) (named known)) (o ∷ drop (i + 1) nodes) ≡ (get_or known i ([], [])).0 ∷ defined_of (drop (i + 1) (named known)) (drop (i + 1) nodes)
      by None e = absurd cc
      by (Some n) e = refl

-- a name with a node, and what was found for it
module _ (f : Text → Text) (known : List Pair) (is : IsKnownBy f known) (nodes : List (Option ℕ)) (i : ℕ) (h : i < length known) (k : i < length nodes) (one : Pair) (at : one ≡ get_or known i one) (numbered : is_some (get_or nodes i None) ≡ true)
    (c : Option NameClash) (pair : option_map clash_pair c ≡ with_other one.0 (option_map (λ (k : Pair). k.0) (find (meets_known one) known)) None) where
  its_image : one ≡ with_image f one.0
  its_image = ap (λ (t : Text). (one.0, t)) (image_at f known i one one.0 is h at refl)

  opened : left f known nodes i ≡ clash_among f (named known) (one.0 ∷ defined_of (drop (i + 1) (named known)) (drop (i + 1) nodes))
  opened =
      searched f known nodes i h k numbered
      ∙ ap (λ (p : Pair). clash_among f (named known) (p.0 ∷ defined_of (drop (i + 1) (named known)) (drop (i + 1) nodes))) (get_or_default known i ([], []) one h ∙ sym at)

  pub found_here : is_some c ≡ true → option_map clash_pair c ≡ left f known nodes i
  found_here some = found f known is one its_image (defined_of (drop (i + 1) (named known)) (drop (i + 1) nodes)) c pair some ∙ sym opened

  pub not_found_here : is_some c ≡ false → left f known nodes (i + 1) ≡ left f known nodes i
  not_found_here none = not_found f known is one its_image (defined_of (drop (i + 1) (named known)) (drop (i + 1) nodes)) c pair none ∙ sym opened
