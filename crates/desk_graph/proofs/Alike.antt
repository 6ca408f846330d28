-- Applications that are told alike.
use Rattle.std.proofs.Common.{◌≡◌, ℕ, zero, suc, ◌<◌, true, List, [], ◌∷◌, ◌++◌, map, length, get_or, if◌then◌else◌, sym, ap, ap₂, ◌∙◌, arith}
use Rattle.std.proofs.Math.ListN.{set}
use Rattle.desk_base.specs.Names.{Text}
use Rattle.desk_graph.specs.Application.{Pair, defined_names, names_in, names, stranded_at, stranded_among}
use Rattle.desk_graph.specs.Alike.{AreAlike}
use Rattle.desk_graph.specs.declared.scanned.Scanned.{Scanned}

pub joined : (xs ys zs : List Scanned) → AreAlike xs ys → AreAlike ys zs → AreAlike xs zs
joined xs ys zs a b = record {
  names = a.names ∙ b.names;
  defined = a.defined ∙ b.defined;
  stranded = λ f defined. a.stranded f defined ∙ b.stranded f defined;
  held = a.held ∙ b.held;
}

-- a class in front of classes that are alike
behind : (x : Scanned) (xs ys : List Scanned) → AreAlike xs ys → AreAlike (x ∷ xs) (x ∷ ys)
behind x xs ys a = record {
  names = ap (λ (ns : List Text). names_in x ++ ns) a.names;
  defined = ap (λ (ns : List Text). x.name ∷ ns) a.defined;
  stranded = λ f defined. ap (λ (ps : List Pair). (if x.selected then [] else stranded_at f defined x.path x.held) ++ ps) (a.stranded f defined);
  held = ap (λ (hs : List (List Text)). x.held ∷ hs) a.held;
}

-- a selected class in front, with another path
in_front : (x y : Scanned) (xs : List Scanned) → x.name ≡ y.name → x.held ≡ y.held → x.selected ≡ y.selected → y.selected ≡ true → AreAlike (x ∷ xs) (y ∷ xs)
in_front x y xs name held selected is = record {
  names = ap₂ (λ (n : Text) (ns : List Text). (n ∷ ns) ++ names xs) name (ap₂ (λ b (ns : List Text). if b then ns else []) selected held);
  defined = ap (λ (n : Text). n ∷ defined_names xs) name;
  stranded = λ f defined.
      ap (λ b. (if b then [] else stranded_at f defined x.path x.held) ++ stranded_among f defined xs) (selected ∙ is)
      ∙ ap (λ b. (if b then [] else stranded_at f defined y.path y.held) ++ stranded_among f defined xs) (sym is);
  held = ap (λ (h : List Text). h ∷ map (λ (s : Scanned). s.held) xs) held;
}

-- a selected class whose path is another
pub path_set : (xs : List Scanned) (i : ℕ) (x y : Scanned) → i < length xs → y ≡ get_or xs i y → x.name ≡ y.name → x.held ≡ y.held → x.selected ≡ y.selected → y.selected ≡ true → AreAlike (set xs i x) xs
path_set [] i x y h at name held selected is = absurd (omega arith)
path_set (z ∷ xs) zero x y h at name held selected is =
    in_front x z xs (name ∙ ap (λ (s : Scanned). s.name) at) (held ∙ ap (λ (s : Scanned). s.held) at) (selected ∙ ap (λ (s : Scanned). s.selected) at) (sym (ap (λ (s : Scanned). s.selected) at) ∙ is)
path_set (z ∷ xs) (suc i) x y h at name held selected is = behind z (set xs i x) xs (path_set xs i x y (omega arith) at name held selected is)
