-- Which rows of a table a query shows, and what `=` on bytes and on numbers is.
use Rattle.std.proofs.Common.{◌≡◌, inl, inr, ℕ, List, [], ◌∷◌, map, filter, flat_map, Bool, true, false, ◌&&◌, cond, Some, IsTrue, refl, ap, ◌∙◌, is_eq}
use Rattle.std.proofs.lemmas.Bool.{cases_Bool}
use Rattle.std.proofs.lemmas.Cmp.{nat_list_cmp_total}
use Rattle.std.proofs.lemmas.List.Sorted.{IsPermutation-map, length_permutation}
use Rattle.std.specs.List.{list_all}
use Rattle.std.specs.List.Sorted.{IsPermutation}
use Rattle.std.specs.Ordering.{nat_cmp}
use Rattle.std.specs.Cmp.{eq_by_cmp_equiv}
use Rattle.std.specs.Cmp.Lexicographic.{slice_cmp}
use Rattle.std.specs.BTreeMap.{is_at}
use Rattle.sqlite.specs.declared.types.Value.{Value}
use Rattle.sqlite.specs.declared.types.Value.TheVariants.{Null, Int, Real, Text as Words, Blob}
use Rattle.sqlite_value.specs.declared.keys.Collation.TheVariants.{Binary}
use Rattle.sqlite.specs.Order.{Row, value_cmp, bytes}
use Rattle.sqlite_value.proofs.OrderLemmas.{value_cmp-Blob}
use Rattle.sqlite.specs.Term.{Term, Env, eval_all, holds}
use Rattle.sqlite.specs.Ops.{binary, is_true, from_truth}
use Rattle.sqlite.specs.Query.{IsAnswer, IsSureAnswer, Output, output}
use Rattle.sqlite.specs.Program.{overlay}
use Rattle.sqlite.specs.Tree.{Trees}
use Rattle.sqlite_schema.specs.Rules.{equal}
use Rattle.desk_base.specs.Names.{Text}
use Rattle.desk_ledger_tables.specs.Rows.{is_bytes}
use Rattle.desk_ledger_tables.specs.Statements.{query_of}

abbrev pub passes : List Term → Row → Row → Bool
passes fs params r = list_all (holds (params ∷ r ∷ [])) fs

abbrev pub shows : List Term → Row → Row → Row
shows project params r = eval_all project (params ∷ r ∷ [])

module _ (tree : ℕ) (fs project : List Term) (params : Row) where
  abbrev env_at : Row → Env
  env_at r = params ∷ r ∷ []

  abbrev env_if : Row → List Env
  env_if r = cond (passes fs params r) (env_at r ∷ []) []

  selected : (rows : List Row) → map (λ (o : Output). o.1) (map (output (query_of tree fs project)) (flat_map env_if rows)) ≡ map (shows project params) (filter (passes fs params) rows)
  selected [] = refl
  selected (r ∷ rows) = elim (cases_Bool (passes fs params r)) [
    | inl stays ↦ rw stays (ap (λ l. shows project params r ∷ l) (selected rows))
    | inr goes ↦ rw goes (selected rows)
  ]

  -- the rows that pass, in some order
  pub answered : (db : Trees) (rows : List Row) → overlay db [] tree ≡ db tree → IsSureAnswer (query_of tree fs project) (overlay db []) params rows
      → IsPermutation (map (shows project params) (filter (passes fs params) (db tree))) rows
  answered db rows same h =
      let a : IsAnswer (query_of tree fs project) (overlay db []) params rows = h Null in
      let staged : a.staged ≡ flat_map env_if (db tree) = a.grouped ∙ ap (flat_map env_if) same in
      let kept : a.kept ≡ map (output (query_of tree fs project)) (flat_map env_if (db tree)) = a.distinct ∙ ap (map (output (query_of tree fs project))) staged in
      let first : map (λ (o : Output). o.1) a.kept ≡ map (shows project params) (filter (passes fs params) (db tree)) = ap (map (λ (o : Output). o.1)) kept ∙ selected (db tree) in
      let last : rows ≡ map (λ (o : Output). o.1) a.ordered = a.shown in
      rw (← first, last) (IsPermutation-map (λ (o : Output). o.1) a.kept a.ordered a.same)

pub and_true : (b : Bool) → (b && true) ≡ b
and_true true = refl
and_true false = refl

truth_of : (b : Bool) → is_true (from_truth (Some b)) ≡ b
truth_of true = refl
truth_of false = refl

-- SQL's = on bytes is equality of texts
pub equal_blob : (v : Value) (t : Text) → IsTrue (is_bytes v) → equal Binary v (Blob t) ≡ is_at (slice_cmp nat_cmp t) (bytes v)
unfolding binary
equal_blob (Blob b) t h = truth_of _ ∙ ap is_eq (value_cmp-Blob b t) ∙ (eq_by_cmp_equiv nat_list_cmp_total).symm b t
equal_blob Null t h = absurd (let e = h in cc)
equal_blob (Int n) t h = absurd (let e = h in cc)
equal_blob (Real x) t h = absurd (let e = h in cc)
equal_blob (Words w) t h = absurd (let e = h in cc)

pub equal_int : (v : Value) (n m : _) → v ≡ Int n → equal Binary v (Int m) ≡ is_eq (value_cmp v (Int m))
unfolding binary
equal_int v n m is = rw is (truth_of _)

-- ---- what follows of a permutation of images with one element at most

pub no_permutation : {X : Type 0} (xs : List X) → IsPermutation xs [] → xs ≡ []
no_permutation [] h = refl
no_permutation (x ∷ xs) h = absurd (let same = length_permutation (x ∷ xs) [] h in cc)

pub no_image : {X Y : Type 0} (f : X → Y) (xs : List X) → map f xs ≡ [] → xs ≡ []
no_image f [] h = refl
no_image f (x ∷ xs) h = absurd cc

pub one_image : {X Y : Type 0} (f : X → Y) (xs : List X) (y : Y) → map f xs ≡ y ∷ [] → (x : X) × (xs ≡ x ∷ []) × (f x ≡ y)
one_image f [] y h = absurd cc
one_image f (x ∷ []) y h = (x, refl, cc)
one_image f (x ∷ z ∷ xs) y h = absurd cc
