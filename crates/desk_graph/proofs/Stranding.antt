-- What a search for stranded classes finds.
use Rattle.std.proofs.Common.{◌≡◌, ℕ, suc, ◌+◌, ◌<◌, Bool, true, false, cond, not, ◌&&◌, List, [], ◌∷◌, ◌++◌, length, drop, get_or, Option, Some, None, is_some, MatchOption, refl, sym, ap, ap₂, ◌∙◌, add-one}
use Rattle.std.specs.List.{list_any}
use Rattle.std.specs.Str.{bytes_eq}
use Rattle.std.proofs.Math.Seq.{drop-cons}
use Rattle.std.proofs.lemmas.List.Folds.{list_any_none, list_any_at}
use Rattle.std.proofs.lemmas.Bool.{false_from_ne_true}
use Rattle.std.proofs.lemmas.Slice.Eq.{bytes_eq-Decides}
use Rattle.desk_base.specs.Names.{Text}
use Rattle.desk_packages.specs.Keys.{IsNowhere, IsPlaceOf}
use Rattle.desk_graph.specs.Application.{Pair, strands, stranded_at, stranded_among, least_onto, earlier}
use Rattle.desk_graph.specs.Tables.{IsKnownBy, as_is}
use Rattle.desk_graph.specs.Nodes.{firsts, defined_of, IsTable}
use Rattle.desk_graph.proofs.Numbering.{node_is, unknown}
use Rattle.desk_graph.proofs.Building.{image_at}
use Rattle.desk_graph.specs.declared.scanned.Scanned.{Scanned}

-- whether a name is in a table
pub is_among : (o : Option ℕ) (defined : List Text) (name : Text) → MatchOption o (IsNowhere as_is defined name) (IsPlaceOf as_is defined name) → list_any (bytes_eq name) defined ≡ is_some o
is_among None defined name h = list_any_none (bytes_eq name) defined (λ k d l. false_from_ne_true (bytes_eq name (get_or defined k d)) (λ e. h k d l (sym ((bytes_eq-Decides name (get_or defined k d)).0 e))))
is_among (Some i) defined name h = list_any_at (bytes_eq name) defined i [] h.0 ((bytes_eq-Decides name (get_or defined i [])).1 (sym (h.1 [])))

-- what a table tells of a name
pub known_changes : (f : Text → Text) (known : List Pair) (place : ℕ) (one : Pair) (name : Text) → IsKnownBy f known → IsPlaceOf (λ (k : Pair). k.0) known name place → one ≡ get_or known place one → not (bytes_eq one.1 one.0) ≡ not (bytes_eq (f name) name)
known_changes f known place one name by at is =
    let first : one.0 ≡ name = ap (λ (p : Pair). p.0) is ∙ at.1 one in
    ap₂ (λ (x y : Text). not (bytes_eq x y)) (image_at f known place one name by at.0 is first) first

-- whether a name of a table is defined and changes
pub strands_known : (f : Text → Text) (known : List Pair) (nodes : List (Option ℕ)) (place : ℕ) (one : Pair) (name : Text) → IsTable known nodes → IsKnownBy f known → IsPlaceOf (λ (k : Pair). k.0) known name place → one ≡ get_or known place one
    → (is_some (get_or nodes place None) && not (bytes_eq one.1 one.0)) ≡ strands f (defined_of (firsts known) nodes) name
strands_known f known nodes place one name table by at is =
    ap₂ (λ (x y : Bool). x && y) (sym (is_among (get_or nodes place None) (defined_of (firsts known) nodes) name (node_is known nodes table name place at (get_or nodes place None) refl))) (known_changes f known place one name by at is)

-- another name isn't defined
pub strands_unknown : (f : Text → Text) (known : List Pair) (nodes : List (Option ℕ)) (name : Text) → IsTable known nodes → IsNowhere (λ (k : Pair). k.0) known name → false ≡ strands f (defined_of (firsts known) nodes) name
strands_unknown f known nodes name table none =
    sym (ap (λ (x : Bool). x && not (bytes_eq (f name) name)) (is_among None (defined_of (firsts known) nodes) name (unknown known nodes table name none)))

pub least_append : (best : Option Pair) (ps qs : List Pair) → least_onto best (ps ++ qs) ≡ least_onto (least_onto best ps) qs
least_append best [] qs = refl
least_append best (p ∷ ps) qs = least_append (earlier best p) ps qs

module _ (f : Text → Text) (defined : List Text) (path : Text) (held : List Text) (i : ℕ) (name : Text) (h : i < length held) (at : get_or held i [] ≡ name) (best best' r : Option Pair)
    (before : least_onto best (stranded_at f defined path (drop i held)) ≡ r) where
  held_cut : drop i held ≡ name ∷ drop (i + 1) held
  held_cut = drop-cons held i [] h ∙ ap (λ (t : Text). t ∷ drop (suc i) held) at ∙ ap (λ (n : ℕ). name ∷ drop n held) (sym (add-one i))

  opened : (b : Bool) → strands f defined name ≡ b → least_onto best (cond b ((path, name) ∷ stranded_at f defined path (drop (i + 1) held)) (stranded_at f defined path (drop (i + 1) held))) ≡ r
  opened b e =
      ap (λ (x : Bool). least_onto best (cond x ((path, name) ∷ stranded_at f defined path (drop (i + 1) held)) (stranded_at f defined path (drop (i + 1) held)))) (sym e)
      ∙ ap (λ (ms : List Text). least_onto best (stranded_at f defined path ms)) (sym held_cut)
      ∙ before

  pub held_strands : strands f defined name ≡ true → best' ≡ earlier best (path, name) → least_onto best' (stranded_at f defined path (drop (i + 1) held)) ≡ r
  held_strands e same = ap (λ (b : Option Pair). least_onto b (stranded_at f defined path (drop (i + 1) held))) same ∙ opened true e

  pub held_stays : strands f defined name ≡ false → best' ≡ best → least_onto best' (stranded_at f defined path (drop (i + 1) held)) ≡ r
  held_stays e same = ap (λ (b : Option Pair). least_onto b (stranded_at f defined path (drop (i + 1) held))) same ∙ opened false e

module _ (f : Text → Text) (defined : List Text) (classes : List Scanned) (i : ℕ) (item : Scanned) (h : i < length classes) (at : item ≡ get_or classes i item) (best best' r : Option Pair)
    (before : least_onto best (stranded_among f defined (drop i classes)) ≡ r) where
  cut : drop i classes ≡ item ∷ drop (suc i) classes
  cut = drop-cons classes i item h ∙ ap (λ (s : Scanned). s ∷ drop (suc i) classes) (sym at)

  whole : (b : Bool) → item.selected ≡ b → least_onto (least_onto best (cond b [] (stranded_at f defined item.path item.held))) (stranded_among f defined (drop (suc i) classes)) ≡ r
  whole b e =
      sym (least_append best (cond b [] (stranded_at f defined item.path item.held)) (stranded_among f defined (drop (suc i) classes)))
      ∙ ap (λ (x : Bool). least_onto best (cond x [] (stranded_at f defined item.path item.held) ++ stranded_among f defined (drop (suc i) classes))) (sym e)
      ∙ ap (λ (xs : List Scanned). least_onto best (stranded_among f defined xs)) (sym cut)
      ∙ before

  pub selected_step : item.selected ≡ true → best' ≡ best → least_onto best' (stranded_among f defined (drop (i + 1) classes)) ≡ r
  selected_step e same =
      ap (λ (n : ℕ). least_onto best' (stranded_among f defined (drop n classes))) (add-one i)
      ∙ ap (λ (b : Option Pair). least_onto b (stranded_among f defined (drop (suc i) classes))) same
      ∙ whole true e

  pub unselected_step : item.selected ≡ false → best' ≡ least_onto best (stranded_at f defined item.path item.held) → least_onto best' (stranded_among f defined (drop (i + 1) classes)) ≡ r
  unselected_step e same =
      ap (λ (n : ℕ). least_onto best' (stranded_among f defined (drop n classes))) (add-one i)
      ∙ ap (λ (b : Option Pair). least_onto b (stranded_among f defined (drop (suc i) classes))) same
      ∙ whole false e
