-- The parts of a class that was read, by its bytes.
use Rattle.std.proofs.Common.{◌≡◌, ℕ, zero, suc, ◌+◌, ◌*◌, ◌<◌, ◌≤◌, ◌^◌, false, List, [], ◌∷◌, ◌++◌, length, take, drop, Option, Some, None, Result, Ok, Err, refl, ap, ap₂, sym, ◌∙◌, subst, append-nil, lit≤, arith}
use Rattle.std.specs.List.{AllByRecursion}
use Rattle.std.proofs.lemmas.List.{length-append, drop_at}
use Rattle.desk_base.specs.Limits.{file_size}
use Rattle.desk_base.specs.declared.faults.Malformed.{Malformed}
use Rattle.desk_base.specs.declared.kinds.Used.{Used}
use Rattle.desk_base.specs.Entries.{Entry, Pool}
use Rattle.desk_base.specs.Misfits.{or_else}
use Rattle.desk_base.specs.Referents.{Link, links}
use Rattle.desk_format.specs.Classes.{Class, magic, read_class, class_fault, fault_in, class_uses, entries_at, twins_in}
use Rattle.desk_format.specs.Exchange.{patch}
use Rattle.desk_format.specs.Laws.{IsBytes}
use Rattle.desk_format.specs.PoolBytes.{two, size, print_slots, print_pool, uses_among, pool_uses}
use Rattle.desk_format.specs.PoolReading.{Got, number_read, counted, checked, unless, read_slots, read_pool, first_fault, names_wrong, leads_wrong}
use Rattle.desk_format.specs.Classes.{list_in, uses_in}
use Rattle.desk_format.specs.Trees.{print, uses, uses_of, text_in_role}
use Rattle.desk_format.proofs.Exact.{IsBytes-drop}
use Rattle.desk_laws.specs.Classes.{IsPrintedClass}
use Rattle.desk_laws.specs.Sound.{IsTwoBytes, IsShaped}
use Rattle.desk_laws.proofs.Bodies.{NamesText, all_named}
use Rattle.desk_laws.proofs.Header.{ClassParts, class_ok, AfterThen, then_ok}
use Rattle.desk_laws.proofs.Inverse.{Gives, Ensures, Slots, Awaits, index_ensures, slots_ensure}
use Rattle.desk_laws.proofs.Whole.{printed_classes}
use Rattle.desk_class.specs.Parts.{pool_in, body_at_of, body_at_in}
use Rattle.desk_new_pool.specs.Printing.{Stands}
use Rattle.desk_new_pool.proofs.Bodies.{Ahead, ahead, stand_tree}

-- ---- the class of bytes without a fault

class_is : (r : Result Class Malformed) → fault_in r ≡ None → (c : Class) × (r ≡ Ok c)
class_is (Ok c) h = (c, refl)
class_is (Err f) h = absurd cc

pub record IsFound (bytes : List ℕ) (c : Class) : Type 0 where
  pub printed : IsPrintedClass bytes c
  pub no_twins : twins_in c ≡ None
  pub few : IsTwoBytes (suc (length c.pool))

-- how many slots a pool has that was read
checked_few : (at n : ℕ) (r : Result (Got Pool) Malformed) (g : Got Pool) → Ensures (Slots n false) r → checked at r ≡ Ok g → length g.value ≡ n
checked_few at n (Err f) g s h = absurd cc
checked_few at n (Ok all) g s h = passed (or_else (first_fault (names_wrong all.value) at all.value) (first_fault (leads_wrong all.value) at all.value)) all g (s.runs all refl) h
  where
    passed : (o : Option Malformed) (all g : Got Pool) → Gives (Slots n false) all → unless o all ≡ Ok g → length g.value ≡ n
    passed None all g s h = let same : all ≡ g = cc in subst (λ (p : Got Pool). length p.value ≡ n) same (s.fact.many)
    passed (Some f) all g s h = absurd cc

counted_few : (count place at : ℕ) (s : List ℕ) (g : Got Pool) → IsTwoBytes count → IsBytes s → counted count place at s ≡ Ok g → IsTwoBytes (suc (length g.value))
counted_few zero place at s g small b h = absurd cc
counted_few (suc n) place at s g small b h = let many : length g.value ≡ n = checked_few at n (read_slots n false at s) g (slots_ensure n false (calm n) at s b) h in omega arith
  where
    calm : (n : ℕ) → Awaits n false
    calm zero = tt
    calm (suc n) = tt

pool_few : (at : ℕ) (s : List ℕ) (g : Got Pool) → IsBytes s → read_pool at s ≡ Ok g → IsTwoBytes (suc (length g.value))
unfolding read_pool
pool_few at s g b h =
    let a : AfterThen (number_read at s) (λ count. counted count at) g = then_ok (number_read at s) (λ count. counted count at) g h in
    let n : Gives IsTwoBytes a.a = (index_ensures at s b).runs a.a a.first in
    counted_few a.a.value at a.a.at a.a.left g n.fact n.left a.second

pub found : (bytes : List ℕ) (c : Class) → IsBytes bytes → read_class bytes ≡ Ok c → IsFound bytes c
found bytes c b h =
    let p : ClassParts bytes c = class_ok bytes c b h in
    record {
      printed = printed_classes bytes c b h;
      no_twins = p.no_twins;
      few = subst (λ (d : Class). IsTwoBytes (suc (length d.pool))) p.is (pool_few 8 (drop 8 bytes) p.pool (IsBytes-drop 8 bytes b) p.pool_ok);
    }

pub class_of : (bytes : List ℕ) → class_fault bytes ≡ None → (c : Class) × (read_class bytes ≡ Ok c)
class_of bytes h = class_is (read_class bytes) h

-- ---- its bytes

-- magic and version
abbrev pub front : Class → List ℕ
front c = (magic ++ two c.minor) ++ two c.major

-- and the count of the pool
abbrev pub counted_front : Class → List ℕ
counted_front c = front c ++ two (suc (length c.pool))

module _ (bytes : List ℕ) (c : Class) (p : IsPrintedClass bytes c) where
  whole : bytes ≡ counted_front c ++ (print_slots c.pool ++ print c.body)
  whole = p.prints

  pub front_is : take 8 bytes ≡ front c
  front_is = ap (take 8) p.prints

  pub entries_are : drop 10 bytes ≡ print_slots c.pool ++ print c.body
  entries_are = ap (drop 10) whole ∙ drop_at (counted_front c) (print_slots c.pool ++ print c.body) 10 refl

  pub body_is : drop c.body_at bytes ≡ print c.body
  body_is = ap (drop c.body_at) p.prints ∙ drop_at (front c ++ print_pool c.pool) (print c.body) c.body_at (length-append (front c) (print_pool c.pool) ∙ sym p.behind)

  pub long : 10 ≤ length bytes
  long =
      let e : length bytes ≡ 10 + length (print_slots c.pool ++ print c.body) = ap length whole ∙ length-append (counted_front c) (print_slots c.pool ++ print c.body) in
      omega arith

  pub body_within : c.body_at ≤ length bytes
  body_within =
      let e : length bytes ≡ length (front c ++ print_pool c.pool) + length (print c.body) = ap length p.prints ∙ length-append (front c ++ print_pool c.pool) (print c.body) in
      let f : length (front c ++ print_pool c.pool) ≡ 8 + length (print_pool c.pool) = length-append (front c) (print_pool c.pool) in
      omega (arith, p.behind)

  pub body_stands : Stands c.body_at (drop c.body_at bytes) (uses c.body)
  body_stands =
      let it : Stands c.body_at (print c.body ++ []) (uses c.body ++ []) = stand_tree c.body c.body_at [] [] p.places tt in
      subst (λ (l : List ℕ). Stands c.body_at l (uses c.body)) (append-nil (print c.body) ∙ sym body_is)
      (subst (Stands c.body_at (print c.body ++ [])) (append-nil (uses c.body)) it)

pub body_uses : (c : Class) → drop (length (pool_uses entries_at c.pool)) (class_uses c) ≡ uses c.body
body_uses c = drop_at (pool_uses entries_at c.pool) (uses c.body) (length (pool_uses entries_at c.pool)) refl

-- ---- how many uses

stands_few : (at : ℕ) (bytes : List ℕ) (us : List Used) → Stands at bytes us → length us ≤ length bytes
stands_few at bytes [] h = omega arith
stands_few at bytes (u ∷ us) h =
    let whole : length bytes ≡ length h.0 + length (two u.index ++ h.1.0) = ap length h.1.1.0 ∙ length-append h.0 (two u.index ++ h.1.0) in
    let tail : length (two u.index ++ h.1.0) ≡ 2 + length h.1.0 = length-append (two u.index) h.1.0 in
    let rest : length us ≤ length h.1.0 = stands_few (at + length h.0 + 2) h.1.0 us h.1.1.1.1 in
    omega arith

one_use : (o : Option Used) → length (uses_of o) ≤ 1
one_use None = lit≤ tt
one_use (Some u) = lit≤ tt

among_few : (at : ℕ) (ls : List Link) → length (uses_among at ls) ≤ length ls
among_few at [] = lit≤ tt
among_few at (l ∷ ls) =
    let o : Option Used = text_in_role l.referent (at + l.behind) l.index in
    let whole : length (uses_of (text_in_role l.referent (at + l.behind) l.index) ++ uses_among at ls) ≡ length (uses_of (text_in_role l.referent (at + l.behind) l.index)) + length (uses_among at ls)
    = length-append (uses_of (text_in_role l.referent (at + l.behind) l.index)) (uses_among at ls) in
    omega (arith, one_use (text_in_role l.referent (at + l.behind) l.index), among_few at ls)

links_few : (e : Entry) → length (links e) ≤ 2
links_few (Entry.utf8 t) = lit≤ tt
links_few _ = lit≤ tt

uses_few : (at : ℕ) (pool : Pool) → length (pool_uses at pool) ≤ 2 * length pool
uses_few at [] = omega arith
uses_few at (None ∷ slots) = omega (arith, uses_few at slots)
uses_few at (Some e ∷ slots) =
    let whole : length (uses_among at (links e) ++ pool_uses (at + size e) slots) ≡ length (uses_among at (links e)) + length (pool_uses (at + size e) slots) = length-append (uses_among at (links e)) (pool_uses (at + size e) slots) in
    omega (arith, among_few at (links e), links_few e, uses_few (at + size e) slots)

pub class_few : (bytes : List ℕ) (c : Class) → IsPrintedClass bytes c → length bytes ≤ file_size → length (class_uses c) < 2 ^ 32
class_few bytes c p short =
    let whole : length (pool_uses entries_at c.pool ++ uses c.body) ≡ length (pool_uses entries_at c.pool) + length (uses c.body) = length-append (pool_uses entries_at c.pool) (uses c.body) in
    let pool : length (pool_uses entries_at c.pool) ≤ 2 * length c.pool = uses_few entries_at c.pool in
    let body : length (uses c.body) ≤ length (print c.body) = stands_few c.body_at (print c.body) (uses c.body) (subst (λ (l : List ℕ). Stands c.body_at l (uses c.body)) (body_is bytes c p) (body_stands bytes c p)) in
    let inside : length bytes ≡ length (front c ++ print_pool c.pool) + length (print c.body) = ap length p.prints ∙ length-append (front c ++ print_pool c.pool) (print c.body) in
    let small : IsTwoBytes (length c.pool) = p.pool.small in
    omega arith

-- ---- bytes whose uses keep their indices

pub patch_same : (g : Used → ℕ) (at : ℕ) (bytes : List ℕ) (us : List Used) → Stands at bytes us → AllByRecursion (λ (u : Used). g u ≡ u.index) us → patch g at us bytes ≡ bytes
patch_same g at bytes [] h k = refl
patch_same g at bytes (u ∷ us) h k = let a : Ahead at bytes (u ∷ us) 0 u = ahead at bytes (u ∷ us) 0 u (omega arith) h in a.kept g (k.0) ∙ patch_same g at bytes us a.same (k.1)

-- ---- the same by the bytes alone

pub record IsKnown (bytes : List ℕ) : Type 0 where
  pub shaped : IsShaped false (pool_in bytes)
  pub long : 10 ≤ length bytes
  pub within : body_at_in bytes ≤ length bytes
  pub entries : (more : List ℕ) × (drop 10 bytes ≡ print_slots (pool_in bytes) ++ more)
  pub stands : Stands (body_at_in bytes) (drop (body_at_in bytes) bytes) (drop (length (pool_uses entries_at (pool_in bytes))) (uses_in bytes))
  pub named : AllByRecursion (NamesText (pool_in bytes)) (uses_in bytes)
  pub few : length bytes ≤ file_size → length (uses_in bytes) < 2 ^ 32

known_by : (bytes : List ℕ) (c : Class) → read_class bytes ≡ Ok c → IsPrintedClass bytes c → IsKnown bytes
known_by bytes c e p =
    let pool : pool_in bytes ≡ c.pool = ap (list_in (λ (d : Class). d.pool)) e in
    let us : uses_in bytes ≡ class_uses c = ap (list_in class_uses) e in
    let at : body_at_in bytes ≡ c.body_at = ap body_at_of e in
    let behind : drop (length (pool_uses entries_at (pool_in bytes))) (uses_in bytes) ≡ uses c.body = ap₂ (λ (q : Pool) (vs : List Used). drop (length (pool_uses entries_at q)) vs) pool us ∙ body_uses c in
    record {
      shaped = subst (IsShaped false) (sym pool) p.pool.shaped;
      long = long bytes c p;
      within = subst (λ (n : ℕ). n ≤ length bytes) (sym at) (body_within bytes c p);
      entries = (print c.body, entries_are bytes c p ∙ ap (λ (q : Pool). print_slots q ++ print c.body) (sym pool));
      stands = subst (λ (n : ℕ). Stands n (drop n bytes) (drop (length (pool_uses entries_at (pool_in bytes))) (uses_in bytes))) (sym at)
          (subst (Stands c.body_at (drop c.body_at bytes)) (sym behind) (body_stands bytes c p));
      named = subst (λ (q : Pool). AllByRecursion (NamesText q) (uses_in bytes)) (sym pool)
          (subst (AllByRecursion (NamesText c.pool)) (sym us) (all_named entries_at c.pool c.body p.pool.linked p.fits));
      few = λ short. subst (λ (vs : List Used). length vs < 2 ^ 32) (sym us) (class_few bytes c p short);
    }

pub known : (bytes : List ℕ) → IsBytes bytes → class_fault bytes ≡ None → IsKnown bytes
known bytes b h = let k = class_of bytes h in known_by bytes k.0 k.1 (printed_classes bytes k.0 b k.1)

pub stands_same : (at n : ℕ) (l m : List ℕ) (us vs : List Used) → at ≡ n → l ≡ m → us ≡ vs → Stands n m vs → Stands at l us
stands_same at n l m us vs p q r h =
    subst (λ (k : ℕ). Stands k l us) (sym p) (subst (λ (k : List ℕ). Stands n k us) (sym q) (subst (Stands n m) (sym r) h))
