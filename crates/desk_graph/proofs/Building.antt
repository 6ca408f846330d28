-- What a graph is built of.
use Rattle.std.proofs.Common.{◌≡◌, ℕ, zero, suc, ◌+◌, ◌<◌, ◌≤◌, ◌^◌, Bool, true, false, cond, List, [], ◌∷◌, map, length, get_or, Option, Some, None, option_map, refl, sym, ap, ap₂, subst, ◌∙◌, arith, inl, inr}
use Rattle.std.specs.List.{filter, list_any, Contains, count_by}
use Rattle.std.specs.Str.{bytes_eq}
use Rattle.std.proofs.lemmas.Cmp.{nat_list_cmp_total}
use Rattle.std.proofs.lemmas.List.Kept.{IsStrictlySortedBy-filter}
use Rattle.std.proofs.lemmas.List.Sums.{sum_by-cons}
use Rattle.std.specs.declared.cmp.Ordering.{Ordering}
use Rattle.std.specs.declared.cmp.Ordering.TheVariants.{Less, Equal, Greater}
use Rattle.std.specs.Ordering.{nat_cmp, match_ordering}
use Rattle.std.specs.Cmp.Lexicographic.{slice_cmp}
use Rattle.std.specs.BTreeSet.{BTreeSet, insert_key}
use Rattle.desk_base.specs.Names.{Text}
use Rattle.desk_packages.specs.Keys.{RiseBy}
use Rattle.desk_packages.specs.Renames.{Renaming}
use Rattle.desk_rules.specs.Rules.{Rules}
use Rattle.desk_rename.specs.Images.{cls}
use Rattle.desk_packages.proofs.Picks.{In}
use Rattle.desk_class.specs.Held.{put_all, ascending}
use Rattle.desk_graph.specs.Application.{Pair, defined_names, names, link_count, link_counts, with_image, clash_among, name_clash, least_onto, stranded_among, stranded}
use Rattle.desk_graph.specs.Tables.{IsKnownBy, as_is, is_defined, texts, holds}
use Rattle.desk_graph.specs.Nodes.{firsts, nodes_from, defined_of, AreNodes, IsTable}
use Rattle.desk_graph.proofs.Numbering.{nodes_are, nodes_alike, defined_pass, first_at, firsts_long}
use Rattle.desk_graph.specs.Alike.{AreAlike}
use Rattle.desk_graph.specs.Clashes.{clash_pair}
use Rattle.desk_graph.specs.Graphs.{IsGraph, graph_of}
use Rattle.desk_graph.specs.declared.scanned.Scanned.{Scanned}
use Rattle.desk_graph.specs.declared.clashes.NameClash.{NameClash}
use Rattle.desk_graph.specs.declared.stranded.Stranding.{Stranding}
use Rattle.desk_graph.specs.Strandings.{stranding_pair}
use Rattle.desk_class.proofs.Ascending.{same_sorted, in_ascending, from_ascending, ascending_sorted}
use Rattle.desk_graph.proofs.Orders.{rises, defined_named, tested, from_tested}
use Rattle.desk_graph.proofs.Sets.{holds_is}

firsts_of : (f : Text → Text) (ns : List Text) → firsts (map (with_image f) ns) ≡ ns
firsts_of f [] = refl
firsts_of f (n ∷ ns) = ap (λ (ms : List Text). n ∷ ms) (firsts_of f ns)

-- ---- how many

put_long : (ks : List Text) (k : Text) → length (insert_key (slice_cmp nat_cmp) ks k) ≤ suc (length ks)
put_long [] k = omega arith
put_long (x ∷ xs) k = elim (slice_cmp nat_cmp k x) as (λ (o : Ordering). length (match_ordering o (k ∷ x ∷ xs) (x ∷ xs) (x ∷ insert_key (slice_cmp nat_cmp) xs k)) ≤ suc (suc (length xs))) [
  | Less ↦ omega arith
  | Equal ↦ omega arith
  | Greater ↦ let h : length (insert_key (slice_cmp nat_cmp) xs k) ≤ suc (length xs) = put_long xs k in omega arith
]

puts_long : (ks ts : List Text) → length (put_all ks ts) ≤ length ks + length ts
puts_long ks [] = omega arith
puts_long ks (t ∷ ts) =
    let h : length (insert_key (slice_cmp nat_cmp) ks t) ≤ suc (length ks) = put_long ks t in
    let k : length (put_all (insert_key (slice_cmp nat_cmp) ks t) ts) ≤ length (insert_key (slice_cmp nat_cmp) ks t) + length ts = puts_long (insert_key (slice_cmp nat_cmp) ks t) ts in
    omega arith

defined_long : (ss : List Scanned) → length (defined_names ss) ≡ length ss
defined_long [] = refl
defined_long (s ∷ ss) = ap suc (defined_long ss)

-- ---- the defined names

pub from_filter : (p : Text → Bool) (xs : List Text) (q : Text) → In (filter p xs) q → (p q ≡ true) × In xs q
from_filter p [] q h = absurd h
from_filter p (x ∷ xs) q h = elim (p x) as (λ (b : Bool). p x ≡ b → In (cond b (x ∷ filter p xs) (filter p xs)) q → (p q ≡ true) × In (x ∷ xs) q) [
  | true ↦ λ e k. elim k [ inl same ↦ (ap p (sym same) ∙ e, inl same) | inr later ↦ let r = from_filter p xs q later in (r.0, inr r.1) ]
  | false ↦ λ e k. let r = from_filter p xs q k in (r.0, inr r.1)
] refl h

pub to_filter : (p : Text → Bool) (xs : List Text) (q : Text) → p q ≡ true → In xs q → In (filter p xs) q
to_filter p [] q e h = absurd h
to_filter p (x ∷ xs) q e (inl same) =
    let here : p x ≡ true = ap p same ∙ e in
    let P : Bool → Type 0 = λ b. In (cond b (x ∷ filter p xs) (filter p xs)) q in
    subst P (sym here) (inl same)
to_filter p (x ∷ xs) q e (inr h) =
    let later : In (filter p xs) q = to_filter p xs q e h in
    elim (p x) as (λ (b : Bool). In (cond b (x ∷ filter p xs) (filter p xs)) q) [ true ↦ inr later | false ↦ later ]

-- the names of an application that are defined
filtered : (ss : List Scanned) → filter (is_defined ss) (ascending (names ss)) ≡ ascending (defined_names ss)
filtered ss =
    same_sorted (slice_cmp nat_cmp) nat_list_cmp_total (filter (is_defined ss) (ascending (names ss))) (ascending (defined_names ss))
    (IsStrictlySortedBy-filter (slice_cmp nat_cmp) (is_defined ss) (ascending (names ss)) (ascending_sorted (names ss))) (ascending_sorted (defined_names ss))
    (λ q h. from_tested (ascending (defined_names ss)) q (from_filter (is_defined ss) (ascending (names ss)) q h).0)
    (λ q h. to_filter (is_defined ss) (ascending (names ss)) q (tested (ascending (defined_names ss)) q h)
    (in_ascending (names ss) q (defined_named ss q (from_ascending (defined_names ss) q h))))

-- ---- the tables

module _ (f : Text → Text) (ss : List Scanned) (keys : List Text) (known : List Pair) (nodes : List (Option ℕ)) (keys_are : keys ≡ ascending (names ss)) (known_is : known ≡ map (with_image f) keys) (nodes_is : nodes ≡ nodes_from (is_defined ss) 0 keys) where
  keys_named : firsts known ≡ keys
  keys_named = ap firsts known_is ∙ firsts_of f keys

  pub names_are : firsts known ≡ ascending (names ss)
  names_are = keys_named ∙ keys_are

  pub known_by : IsKnownBy f known
  known_by = known_is ∙ ap (map (with_image f)) (sym keys_named)

  numbered_are : nodes ≡ nodes_from (is_defined ss) 0 (firsts known)
  numbered_are = nodes_is ∙ ap (nodes_from (is_defined ss) 0) (sym keys_named)

  pub numbers : AreNodes 0 (firsts known) nodes
  numbers = subst (AreNodes 0 (firsts known)) (sym numbered_are) (nodes_are (is_defined ss) 0 (firsts known))

  pub defined_is : defined_of (firsts known) nodes ≡ ascending (defined_names ss)
  defined_is = ap (defined_of (firsts known)) numbered_are ∙ defined_pass (is_defined ss) 0 (firsts known) ∙ ap (filter (is_defined ss)) names_are ∙ filtered ss

  names_rise : RiseBy as_is (firsts known)
  names_rise = subst (RiseBy as_is) (sym names_are) (rises (ascending (names ss)) (ascending_sorted (names ss)))

  known_rise : RiseBy (λ (k : Pair). k.0) known
  known_rise i j d lt h =
      ap₂ (slice_cmp nat_cmp) (sym (first_at known i d)) (sym (first_at known j d)) ∙ names_rise i j d.0 lt (omega (arith, firsts_long known))

  pub table : IsTable known nodes
  table = record { rise = known_rise; numbered = numbers }

-- what the two tables are
pub record IsBuilt (f : Text → Text) (ss : List Scanned) (known : List Pair) (nodes : List (Option ℕ)) : Type 0 where
  pub names : firsts known ≡ ascending (names ss)
  pub defined : defined_of (firsts known) nodes ≡ ascending (defined_names ss)
  pub images : IsKnownBy f known
  pub table : IsTable known nodes

-- the test of the set of the defined names
defined_test : (set : BTreeSet Text) (classes : List Scanned) → texts set ≡ ascending (defined_names classes) → (t : Text) → holds set t ≡ is_defined classes t
defined_test set classes defined t = holds_is set t ∙ ap (list_any (bytes_eq t)) defined

pub built : (f : Text → Text) (ss classes : List Scanned) (set : BTreeSet Text) (keys keys' : List Text) (known : List Pair) (nodes : List (Option ℕ)) → AreAlike classes ss → texts set ≡ ascending (defined_names classes)
    → keys ≡ ascending (names classes) → known ≡ map (with_image f) keys → keys' ≡ keys → nodes ≡ nodes_from (holds set) 0 keys' → IsBuilt f ss known nodes
built f ss classes set keys keys' known nodes alike defined k n same_keys o =
    let k' = k ∙ ap ascending alike.names in
    let o' = o ∙ nodes_alike (holds set) (is_defined classes) 0 keys' (defined_test set classes defined) ∙ ap₂ (λ (ds ts : List Text). nodes_from (λ t. list_any (bytes_eq t) (ascending ds)) 0 ts) alike.defined same_keys in
    record {
      names = names_are f ss keys known nodes k' n o';
      defined = defined_is f ss keys known nodes k' n o';
      images = known_by f ss keys known nodes k' n o';
      table = table f ss keys known nodes k' n o';
    }

pub graph_made : (renames : List Renaming) (ss : List Scanned) (known : List Pair) (nodes : List (Option ℕ)) → IsBuilt (cls renames) ss known nodes → length ss < 2 ^ 32 → IsGraph renames known nodes
graph_made renames ss known nodes b h =
    let a : length (defined_of (firsts known) nodes) ≡ length (ascending (defined_names ss)) = ap length b.defined in
    let l : length (ascending (defined_names ss)) ≤ 0 + length (defined_names ss) = puts_long [] (defined_names ss) in
    record {
      images = b.images;
      table = b.table;
      defined_rise = subst (RiseBy as_is) (sym b.defined) (rises (ascending (defined_names ss)) (ascending_sorted (defined_names ss)));
      few = omega (arith, defined_long ss);
    }

-- two tests that agree count alike
pub same_count : (p q : Text → Bool) (ts : List Text) → ((t : Text) → p t ≡ q t) → count_by p ts ≡ count_by q ts
same_count p q [] same = refl
same_count p q (t ∷ ts) same =
    sum_by-cons (λ x. cond (p x) 1 0) t ts
    ∙ ap₂ (λ (b : Bool) (n : ℕ). cond b 1 0 + n) (same t) (same_count p q ts same)
    ∙ sym (sum_by-cons (λ x. cond (q x) 1 0) t ts)

-- two tests that agree count alike in each class
same_counts : (p q : Text → Bool) (ss : List Scanned) → ((t : Text) → p t ≡ q t) → map (λ (s : Scanned). count_by p s.held) ss ≡ map (λ (s : Scanned). count_by q s.held) ss
same_counts p q [] same = refl
same_counts p q (s ∷ ss) same = ap₂ (λ (n : ℕ) (ns : List ℕ). n ∷ ns) (same_count p q s.held same) (same_counts p q ss same)

-- what is counted depends on the held names alone
held_counts : (p : Text → Bool) (ss : List Scanned) → map (λ (s : Scanned). count_by p s.held) ss ≡ map (count_by p) (map (λ (s : Scanned). s.held) ss)
held_counts p [] = refl
held_counts p (s ∷ ss) = ap (λ (ns : List ℕ). count_by p s.held ∷ ns) (held_counts p ss)

pub counts_are : (ss classes : List Scanned) (set : BTreeSet Text) (counts : List ℕ) → AreAlike classes ss → texts set ≡ ascending (defined_names classes)
    → counts ≡ map (λ (s : Scanned). count_by (holds set) s.held) classes → counts ≡ link_counts ss
counts_are ss classes set counts alike defined is =
    is
    ∙ same_counts (holds set) (is_defined classes) classes (defined_test set classes defined)
    ∙ held_counts (is_defined classes) classes
    ∙ ap (map (count_by (is_defined classes))) alike.held
    ∙ sym (held_counts (is_defined classes) ss)
    ∙ ap (λ (ds : List Text). map (link_count (ascending ds)) ss) alike.defined

pub graph_is : (rules : Rules) (ss : List Scanned) (known : List Pair) (nodes : List (Option ℕ)) (counts : List ℕ) → IsBuilt (cls rules.renames) ss known nodes → counts ≡ link_counts ss
    → record { rules = rules; defined = defined_of (firsts known) nodes; names = firsts known; link_counts = counts } ≡ graph_of rules ss
graph_is rules ss known nodes counts b c =
    ap₂ (λ (ds ns : List Text). record { rules = rules; defined = ds; names = ns; link_counts = counts }) b.defined b.names
    ∙ ap (λ (cs : List ℕ). record { rules = rules; defined = ascending (defined_names ss); names = ascending (names ss); link_counts = cs }) c

-- ---- what was found

-- what was searched is the application
pub clash_told : (f : Text → Text) (ss : List Scanned) (known known' : List Pair) (nodes nodes' : List (Option ℕ)) (o : Option NameClash) → IsBuilt f ss known nodes → known' ≡ known → nodes' ≡ nodes
    → ((g : Text → Text) → IsKnownBy g known' → option_map clash_pair o ≡ clash_among g (firsts known') (defined_of (firsts known') nodes')) → option_map clash_pair o ≡ name_clash f ss
clash_told f ss known known' nodes nodes' o b k n told =
    told f (subst (IsKnownBy f) (sym k) b.images)
    ∙ ap₂ (λ (ks : List Pair) (os : List (Option ℕ)). clash_among f (firsts ks) (defined_of (firsts ks) os)) k n
    ∙ ap₂ (clash_among f) b.names b.defined

pub stranding_told : (f : Text → Text) (ss classes : List Scanned) (known known' : List Pair) (nodes nodes' : List (Option ℕ)) (o : Option Stranding) → IsBuilt f ss known nodes → AreAlike classes ss → known' ≡ known → nodes' ≡ nodes
    → ((g : Text → Text) → IsKnownBy g known' → option_map stranding_pair o ≡ least_onto None (stranded_among g (defined_of (firsts known') nodes') classes)) → option_map stranding_pair o ≡ stranded f ss
stranding_told f ss classes known known' nodes nodes' o b alike k n told =
    told f (subst (IsKnownBy f) (sym k) b.images)
    ∙ ap (least_onto None) (alike.stranded f (defined_of (firsts known') nodes'))
    ∙ ap₂ (λ (ks : List Pair) (os : List (Option ℕ)). least_onto None (stranded_among f (defined_of (firsts ks) os) ss)) k n
    ∙ ap (λ (xs : List Text). least_onto None (stranded_among f xs ss)) b.defined

pub clash_found : (f : Text → Text) (ss : List Scanned) (o : Option NameClash) (c : NameClash) (defined other image : Text) → o ≡ Some c → option_map clash_pair o ≡ name_clash f ss → c.defined.now.1 ≡ f c.defined.now.0
    → defined ≡ c.defined.now.0 → other ≡ c.other.now.0 → image ≡ c.defined.now.1 → (name_clash f ss ≡ Some (defined, other)) × (image ≡ f defined)
clash_found f ss o c defined other image is pair same d e i =
    (sym pair ∙ ap (option_map clash_pair) is ∙ ap₂ (λ (x y : Text). Some (x, y)) (sym d) (sym e), i ∙ same ∙ ap f (sym d))

pub stranding_found : (f : Text → Text) (ss : List Scanned) (o : Option Stranding) (s : Stranding) (path name : Text) → o ≡ Some s → option_map stranding_pair o ≡ stranded f ss → name_clash f ss ≡ None → path ≡ s.path.now → name ≡ s.name.now
    → (name_clash f ss ≡ None) × (stranded f ss ≡ Some (path, name))
stranding_found f ss o s path name is pair none p n = (none, sym pair ∙ ap (option_map stranding_pair) is ∙ ap₂ (λ (x y : Text). Some (x, y)) (sym p) (sym n))

-- ---- look-ups

pub image_at : (f : Text → Text) (known : List Pair) (i : ℕ) (one : Pair) (name : Text) → IsKnownBy f known → i < length known → one ≡ get_or known i one → one.0 ≡ name → one.1 ≡ f name
image_at f [] i one name by h at same = absurd (omega arith)
image_at f (k ∷ ks) zero one name by h at same =
    let here : k ≡ with_image f k.0 = cc in
    let e : one ≡ k = at in
    ap (λ (p : Pair). p.1) (e ∙ here) ∙ ap f (ap (λ (p : Pair). p.0) (sym e) ∙ same)
image_at f (k ∷ ks) (suc i) one name by h at same =
    let behind : ks ≡ map (with_image f) (firsts ks) = cc in
    image_at f ks i one name behind (omega arith) at same

-- one of a table has its image
pub known_image : (f : Text → Text) (known : List Pair) (one : Pair) → IsKnownBy f known → Contains known one → one.1 ≡ f one.0
known_image f known one by there = image_at f known there.0 one one.0 by there.1 (sym there.2) refl
