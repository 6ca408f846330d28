-- Reading in turn, name by name and pattern by pattern.
use Rattle.std.proofs.Common.{◌≡◌, ◌<◌, ◌≤◌, ◌+◌, ℕ, Bool, true, false, cond, List, [], ◌∷◌, ◌++◌, length, map, drop, get_or, Option, Some, None, Result, Ok, Err, refl, sym, ap, ◌∙◌}
use Rattle.std.specs.Prelude.{slice_get}
use Rattle.std.specs.Map.{lookup}
use Rattle.std.specs.Str.{bytes_eq}
use Rattle.std.specs.Ordering.{nat_cmp}
use Rattle.std.specs.Cmp.Lexicographic.{slice_cmp}
use Rattle.std.specs.FinMap as finite
use Rattle.std.specs.FinMap.{get-from_entries, same_map, slice_cmp-IsAntisymmetric, nat_cmp-IsAntisymmetric}
use Rattle.std.proofs.lemmas.Cmp.{nat_list_cmp_total, nat_list_eq_equiv}
use Rattle.std.proofs.lemmas.List.{append-nil, append_assoc, drop_more, drop_all}
use Rattle.std.proofs.lemmas.Option.{slice_get_within, get_or_from_slice_get, slice_get-get_or}
use Rattle.desk_base.specs.Names.{Text}
use Rattle.desk_properties.specs.Properties.{Entry}
use Rattle.desk_patterns.specs.TextRules.{TextRule}
use Rattle.desk_rules.specs.Files.{Files}
use Rattle.desk_rules.specs.RuleFiles.{◌>>=◌, in_order}
use Rattle.desk_rules.specs.TextFiles.{one_more, collect, as_entries, HoldsNames, by_name, rule_texts, checked_texts, IsNamed, named_all, named_entry}
use Rattle.desk_rules.specs.Builds.{IsFaultOf}
use Rattle.desk_rules.specs.declared.RuleFault.{RuleFault}
use Rattle.desk_rules.specs.declared.BuildFault.{BuildFault}
use Rattle.desk_rules.specs.declared.BuildFault.TheVariants.{Rules, Memory}
use Rattle.desk_rules.proofs.InTurn.{after}
use Rattle.desk_rules.proofs.Ordered.{found_is}

module _ {A X : Type 0} (f : A → Result X RuleFault) (items : List A) where
  -- what comes of the items from a place on, behind what came before
  pub record IsCollectedTo (i : ℕ) (xs : List X) : Type 0 where
    pub rest : after xs (collect f (drop i items)) ≡ collect f items

  nothing_before : (r : Result (List X) RuleFault) → after [] r ≡ r
  nothing_before (Ok ys) = refl
  nothing_before (Err fault) = refl

  pub collect_start : IsCollectedTo 0 []
  collect_start = record { rest = nothing_before (collect f items) }

  here : (i : ℕ) (a : A) → slice_get items i ≡ Some a → drop i items ≡ a ∷ drop (i + 1) items
  here i a h = drop_more items i a (slice_get_within items i a h) ∙ ap (λ (x : A). x ∷ drop (i + 1) items) (get_or_from_slice_get items i a a h)

  one_after : (xs : List X) (x : X) (rest : Result (List X) RuleFault) → after (xs ++ x ∷ []) rest ≡ after xs (one_more (Ok x) rest)
  one_after xs x (Ok ys) = ap (λ (zs : List X). Ok zs) (append_assoc xs (x ∷ []) ys)
  one_after xs x (Err fault) = refl

  pub collect_more : (i : ℕ) (xs ys : List X) (a : A) (x : X) → IsCollectedTo i xs → slice_get items i ≡ Some a → f a ≡ Ok x → ys ≡ xs ++ x ∷ [] → IsCollectedTo (i + 1) ys
  collect_more i xs ys a x so_far there is more = record {
    rest = ap (λ (zs : List X). after zs (collect f (drop (i + 1) items))) more ∙ one_after xs x (collect f (drop (i + 1) items))
        ∙ ap (λ (r : Result X RuleFault). after xs (one_more r (collect f (drop (i + 1) items)))) (sym is)
        ∙ ap (λ (l : List A). after xs (collect f l)) (sym (here i a there))
        ∙ so_far.rest;
  }

  pub collect_fault : (i : ℕ) (xs : List X) (a : A) (b : BuildFault) → IsCollectedTo i xs → slice_get items i ≡ Some a → IsFaultOf (f a) b → IsFaultOf (collect f items) b
  collect_fault i xs a Memory so_far there is = tt
  collect_fault i xs a (Rules fault) so_far there is =
      sym so_far.rest
      ∙ ap (λ (l : List A). after xs (collect f l)) (here i a there)
      ∙ ap (λ (r : Result X RuleFault). after xs (one_more r (collect f (drop (i + 1) items)))) is

  pub collect_end : (i : ℕ) (xs : List X) → IsCollectedTo i xs → length items ≤ i → collect f items ≡ Ok xs
  collect_end i xs so_far done =
      sym so_far.rest ∙ ap (λ (l : List A). after xs (collect f l)) (drop_all i items done) ∙ ap (λ (zs : List X). Ok zs) (append-nil xs)

  pub item_there : (d : A) (i : ℕ) → slice_get items i ≡ None → i < length items → ⊥
  item_there d i none within = let some : slice_get items i ≡ Some (get_or items i d) = slice_get-get_or items i d within in absurd (cc (none, some))

either : {V : Type 0} (a b : Bool) (v w : V) → cond a v (cond b v w) ≡ cond b v (cond a v w)
either true true v w = refl
either true false v w = refl
either false true v w = refl
either false false v w = refl

lookup_push : (ns : List Text) (n q : Text) → lookup (bytes_eq q) (as_entries (ns ++ n ∷ [])) ≡ cond (bytes_eq n q) (Some []) (lookup (bytes_eq q) (as_entries ns))
lookup_push [] n q = ap (λ (b : Bool). cond b (Some []) None) (nat_list_eq_equiv.symm q n)
lookup_push (m ∷ ns) n q =
    ap (λ (o : Option Text). cond (bytes_eq q m) (Some []) o) (lookup_push ns n q)
    ∙ either (bytes_eq q m) (bytes_eq n q) (Some []) (lookup (bytes_eq q) (as_entries ns))

-- how far names were read into a map
pub record IsNamedTo (files : Files) (es : List Entry) (i : ℕ) (entries : List Entry) : Type 0 where
  pub names : List Text
  pub turn : IsCollectedTo (named_entry files) es i names
  pub held : HoldsNames entries names

pub named_start : (files : Files) (es entries : List Entry) → entries ≡ [] → IsNamedTo files es 0 entries
named_start files es entries none = record { names = []; turn = collect_start (named_entry files) es; held = λ q. ap (lookup (bytes_eq q)) none }

pub named_more : (files : Files) (es : List Entry) (i : ℕ) (old new : List Entry) (e : Entry) (name value : Text) → IsNamedTo files es i old → slice_get es i ≡ Some e → named_entry files e ≡ Ok name → value ≡ [] → ((q : Text) → lookup (bytes_eq q) new ≡ cond (bytes_eq name q) (Some value) (lookup (bytes_eq q) old)) → IsNamedTo files es (i + 1) new
named_more files es i old new e name value so_far there is empty added = record {
  names = so_far.names ++ name ∷ [];
  turn = collect_more (named_entry files) es i so_far.names (so_far.names ++ name ∷ []) e name so_far.turn there is refl;
  held = λ q. added q
      ∙ ap (λ (v : Text). cond (bytes_eq name q) (Some v) (lookup (bytes_eq q) old)) empty
      ∙ ap (λ (o : Option Text). cond (bytes_eq name q) (Some []) o) (so_far.held q)
      ∙ sym (lookup_push so_far.names name q);
}

pub named_fault : (files : Files) (es : List Entry) (i : ℕ) (entries : List Entry) (e : Entry) (b : BuildFault) → IsNamedTo files es i entries → slice_get es i ≡ Some e → IsFaultOf (named_entry files e) b → IsFaultOf (named_all files es) b
named_fault files es i entries e b so_far there is = collect_fault (named_entry files) es i so_far.names e b so_far.turn there is

pub named_end : (files : Files) (es : List Entry) (i : ℕ) (entries : List Entry) → IsNamedTo files es i entries → length es ≤ i → IsNamed files es entries
named_end files es i entries so_far done = record { names = so_far.names; read = collect_end (named_entry files) es i so_far.names so_far.turn done; held = so_far.held }

-- the names of a map in order
pub names_in_order : (entries sorted : List Entry) (names : List Text) → HoldsNames entries names → sorted ≡ in_order entries → map (λ e. e.0) sorted ≡ by_name names
names_in_order entries sorted names held is =
    let maps : finite.from_entries {R = slice_cmp nat_cmp} entries ≡ finite.from_entries (as_entries names) =
    same_map nat_list_cmp_total (slice_cmp-IsAntisymmetric nat_cmp-IsAntisymmetric) _ _ (λ q.
    get-from_entries nat_list_cmp_total entries q ∙ found_is entries q ∙ held q ∙ sym (found_is (as_entries names) q) ∙ sym (get-from_entries nat_list_cmp_total (as_entries names) q)) in
    ap (map (λ (e : Entry). e.0)) (is ∙ ap finite.entries maps)

module _ (files : Files) (es : List Entry) where
  -- how far files of rules were read for their faults
  pub record IsCheckedTo (i : ℕ) : Type 0 where
    pub rest : checked_texts files (map (λ e. e.0) (drop i es)) ≡ checked_texts files (map (λ e. e.0) es)

  pub checked_start : IsCheckedTo 0
  checked_start = record { rest = refl }

  step : (i : ℕ) (e : Entry) → slice_get es i ≡ Some e → checked_texts files (map (λ e. e.0) (drop i es)) ≡ (rule_texts files e.0 >>= (λ _. checked_texts files (map (λ e. e.0) (drop (i + 1) es))))
  step i e h = ap (λ (l : List Entry). checked_texts files (map (λ (e : Entry). e.0) l)) (here (λ (e : Entry). rule_texts files e.0) es i e h)

  pub checked_more : (i : ℕ) (e : Entry) (rules : List TextRule) → IsCheckedTo i → slice_get es i ≡ Some e → rule_texts files e.0 ≡ Ok rules → IsCheckedTo (i + 1)
  checked_more i e rules so_far there is = record {
    rest = ap (λ (r : Result (List TextRule) RuleFault). r >>= (λ _. checked_texts files (map (λ (e : Entry). e.0) (drop (i + 1) es)))) (sym is) ∙ sym (step i e there) ∙ so_far.rest;
  }

  pub checked_fault : (i : ℕ) (e : Entry) (b : BuildFault) → IsCheckedTo i → slice_get es i ≡ Some e → IsFaultOf (rule_texts files e.0) b → IsFaultOf (checked_texts files (map (λ e. e.0) es)) b
  checked_fault i e Memory so_far there is = tt
  checked_fault i e (Rules fault) so_far there is =
      sym so_far.rest ∙ step i e there ∙ ap (λ (r : Result (List TextRule) RuleFault). r >>= (λ _. checked_texts files (map (λ (e : Entry). e.0) (drop (i + 1) es)))) is

  pub checked_end : (i : ℕ) → IsCheckedTo i → length es ≤ i → checked_texts files (map (λ e. e.0) es) ≡ Ok tt
  checked_end i so_far done = sym so_far.rest ∙ ap (λ (l : List Entry). checked_texts files (map (λ (e : Entry). e.0) l)) (drop_all i es done)
