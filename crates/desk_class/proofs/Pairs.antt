-- Twins among members that are looked at one after the other.
use mathlib.Core.Bool.{and_assoc, or-false, or_assoc}
use Rattle.std.proofs.Common.{◌≡◌, ◌<◌, ◌+◌, length, take, drop, get_or, add-one, drop-cons, Bool, true, false, cond, ◌&&◌, ◌||◌, not, List, [], ◌∷◌, ◌++◌, ℕ, Option, Some, None, option_map, refl, sym, ap, ap₂, ◌∙◌, bytes_eq, nat_eq, arith}
use Rattle.std.specs.List.{find, list_any}
use Rattle.std.specs.Ordering.{nat_cmp, is_eq, ordering_then, bool_cmp}
use Rattle.std.specs.declared.cmp.Ordering.{Ordering}
use Rattle.std.specs.BTreeSet.{BTreeSet, contains, Updates}
use Rattle.std.proofs.Math.Seq.{take-suc}
use Rattle.std.proofs.lemmas.Bool.Decides.{nat_tests}
use Rattle.std.proofs.lemmas.Slice.Eq.{bytes_eq-Decides}
use Rattle.desk_base.specs.Names.{Text}
use Rattle.desk_base.specs.Entries.{Pool, text_at}
use Rattle.desk_base.proofs.Orderings.{is_eq-then, is_eq-nat_cmp}
use Rattle.desk_format.specs.declared.members.Member.{Member}
use Rattle.desk_format.specs.Members.{Named, named_in, Twins, same_kind, are_twins, twins_or, twins_behind, first_twins}
use Rattle.desk_format.proofs.MemberKinds.{is_eq-bool_cmp}
use Rattle.desk_class.specs.declared.numbers.TextNumbers.{TextNumbers}
use Rattle.desk_class.specs.Numbers.{IsNumbering, Keeps, number_in}

-- ---- keys

-- whether it is a method, and the numbers of name and descriptor
abbrev pub Key : Type 0
Key = Bool × ℕ × ℕ

abbrev pub key_order : Key → Key → Ordering
key_order x y = ordering_then (ordering_then (bool_cmp x.0 y.0) (nat_cmp x.1 y.1)) (nat_cmp x.2 y.2)

key_cmp : (a b : Bool) (n m d e : ℕ) → is_eq (ordering_then (ordering_then (bool_cmp a b) (nat_cmp n m)) (nat_cmp d e)) ≡ (same_kind a b && (nat_eq n m && nat_eq d e))
key_cmp a b n m d e =
    is_eq-then (ordering_then (bool_cmp a b) (nat_cmp n m)) (nat_cmp d e)
    ∙ ap₂ (λ (x y : Bool). x && y) (is_eq-then (bool_cmp a b) (nat_cmp n m) ∙ ap₂ (λ (x y : Bool). x && y) (is_eq-bool_cmp a b) (is_eq-nat_cmp n m)) (is_eq-nat_cmp d e)
    ∙ and_assoc (same_kind a b) (nat_eq n m) (nat_eq d e)

-- ---- the first twin

found_by : (p : Member → Bool) (x : Bool) (a : Member) (xs : List Member) → p a ≡ x → ((list_any p xs ≡ true) → (b : Member) × (find p xs ≡ Some b)) → (x || list_any p xs) ≡ true → (b : Member) × (cond x (Some a) (find p xs) ≡ Some b)
found_by p true a xs e h any = (a, refl)
found_by p false a xs e h any = h any

found : (p : Member → Bool) (xs : List Member) → list_any p xs ≡ true → (b : Member) × (find p xs ≡ Some b)
found p [] any = absurd cc
found p (a ∷ xs) any = found_by p (p a) a xs refl (found p xs) any

lost_by : (p : Member → Bool) (x : Bool) (a : Member) (xs : List Member) → ((list_any p xs ≡ false) → find p xs ≡ None) → (x || list_any p xs) ≡ false → cond x (Some a) (find p xs) ≡ None
lost_by p true a xs h any = absurd cc
lost_by p false a xs h any = h any

lost : (p : Member → Bool) (xs : List Member) → list_any p xs ≡ false → find p xs ≡ None
lost p [] any = refl
lost p (a ∷ xs) any = lost_by p (p a) a xs (lost p xs) any

abbrev pub second_of : Option Twins → Option Member
second_of = option_map (λ twins. twins.second)

pub twin_here : (named : Member → Named) (before rest : List Member) (m : Member) (total : Option Twins) → list_any (λ b. are_twins named b m) before ≡ true → twins_behind named before (m ∷ rest) ≡ total → second_of total ≡ Some m
twin_here named before rest m total any so_far =
    let f = found (λ b. are_twins named b m) before any in
    ap second_of (sym so_far) ∙ ap (λ (o : Option Member). second_of (twins_or o m (twins_behind named (before ++ m ∷ []) rest))) f.1

pub none_here : (named : Member → Named) (before rest : List Member) (m : Member) (total : Option Twins) → list_any (λ b. are_twins named b m) before ≡ false → twins_behind named before (m ∷ rest) ≡ total → twins_behind named (before ++ m ∷ []) rest ≡ total
none_here named before rest m total any so_far =
    ap (λ (o : Option Member). twins_or o m (twins_behind named (before ++ m ∷ []) rest)) (sym (lost (λ b. are_twins named b m) before any)) ∙ so_far

any-push : (p : Member → Bool) (xs : List Member) (m : Member) → list_any p (xs ++ m ∷ []) ≡ (list_any p xs || p m)
any-push p [] m = or-false (p m)
any-push p (x ∷ xs) m = ap (λ (b : Bool). p x || b) (any-push p xs m) ∙ sym (or_assoc (p x) (list_any p xs) (p m))

pub any_more : (p : Member → Bool) (xs : List Member) (m : Member) (x : Bool) → x ≡ p m → cond x true (list_any p xs) ≡ list_any p (xs ++ m ∷ [])
any_more p xs m x e = ap (λ (b : Bool). cond b true (list_any p xs)) e ∙ swap (p m) (list_any p xs) ∙ sym (any-push p xs m)
  where
    swap : (a b : Bool) → cond a true b ≡ (b || a)
    swap true true = refl
    swap true false = refl
    swap false true = refl
    swap false false = refl

-- ---- members whose texts have numbers

abbrev is_number : Option ℕ → ℕ → Bool
is_number None n = false
is_number (Some m) n = nat_eq m n

-- a member has a key
abbrev pub has_key : Pool → TextNumbers → Key → Member → Bool
has_key entries x q b = same_kind b.method q.0 && (is_number (number_in x (text_at entries b.name)) q.1 && is_number (number_in x (text_at entries b.descriptor)) q.2)

pub record Known (entries : Pool) (x : TextNumbers) (b : Member) : Type 0 where
  pub name : (n : ℕ) × (number_in x (text_at entries b.name) ≡ Some n)
  pub descriptor : (n : ℕ) × (number_in x (text_at entries b.descriptor) ≡ Some n)

abbrev pub AllKnown : Pool → TextNumbers → List Member → Type 0
AllKnown entries x [] = Unit {0}
AllKnown entries x (b ∷ bs) = Known entries x b × AllKnown entries x bs

known_kept : (entries : Pool) (x y : TextNumbers) (bs : List Member) → Keeps x y → AllKnown entries x bs → AllKnown entries y bs
known_kept entries x y [] k h = tt
known_kept entries x y (b ∷ bs) k h =
    (record { name = (h.0.name.0, k.numbers _ _ h.0.name.1); descriptor = (h.0.descriptor.0, k.numbers _ _ h.0.descriptor.1) }, known_kept entries x y bs k h.1)

known_more : (entries : Pool) (x : TextNumbers) (bs : List Member) (m : Member) → AllKnown entries x bs → Known entries x m → AllKnown entries x (bs ++ m ∷ [])
known_more entries x [] m h k = (k, tt)
known_more entries x (b ∷ bs) m h k = (h.0, known_more entries x bs m h.1 k)

-- a number that a text has stays
has_key_stays : (entries : Pool) (x y : TextNumbers) (q : Key) (b : Member) → Keeps x y → Known entries x b → has_key entries y q b ≡ has_key entries x q b
has_key_stays entries x y q b k h =
    let n : number_in y (text_at entries b.name) ≡ number_in x (text_at entries b.name) = k.numbers _ _ h.name.1 ∙ sym h.name.1 in
    let d : number_in y (text_at entries b.descriptor) ≡ number_in x (text_at entries b.descriptor) = k.numbers _ _ h.descriptor.1 ∙ sym h.descriptor.1 in
    ap₂ (λ (m e : Option ℕ). same_kind b.method q.0 && (is_number m q.1 && is_number e q.2)) n d

keys_stay : (entries : Pool) (x y : TextNumbers) (q : Key) (bs : List Member) → Keeps x y → AllKnown entries x bs → list_any (has_key entries y q) bs ≡ list_any (has_key entries x q) bs
keys_stay entries x y q [] k h = refl
keys_stay entries x y q (b ∷ bs) k h = ap₂ (λ (u v : Bool). u || v) (has_key_stays entries x y q b k h.0) (keys_stay entries x y q bs k h.1)

-- numbers are equal where the texts are
numbers_by : (entries : Pool) (x : TextNumbers) (t u : Text) (k n : ℕ) (a b : Bool) → IsNumbering (text_at entries) x → number_in x t ≡ Some k → number_in x u ≡ Some n → nat_eq k n ≡ a → bytes_eq t u ≡ b → a ≡ b
numbers_by entries x t u k n true true h p q r s = refl
numbers_by entries x t u k n false false h p q r s = refl
numbers_by entries x t u k n true false h p q r s =
    let same : k ≡ n = grind (arith, nat_tests) in
    let is : t ≡ u = sym (h.texts t k p) ∙ ap (text_at entries) same ∙ h.texts u n q in
    let yes : bytes_eq t u ≡ true = (bytes_eq-Decides t u).1 is in
    absurd cc
numbers_by entries x t u k n false true h p q r s =
    let is : t ≡ u = (bytes_eq-Decides t u).0 s in
    let some : Some k ≡ Some n = sym p ∙ ap (number_in x) is ∙ q in
    let same : k ≡ n = cc in
    let yes : nat_eq k n ≡ true = grind (arith, nat_tests) in
    absurd cc

-- what a key of a member finds
has_key_is : (entries : Pool) (x : TextNumbers) (n d : ℕ) (b m : Member) → IsNumbering (text_at entries) x → Known entries x b → number_in x (text_at entries m.name) ≡ Some n → number_in x (text_at entries m.descriptor) ≡ Some d
    → has_key entries x (m.method, n, d) b ≡ are_twins (named_in entries) b m
has_key_is entries x n d b m h k p q =
    rw (k.name.1, k.descriptor.1)
    (ap₂ (λ (u v : Bool). same_kind b.method m.method && (u && v))
    (numbers_by entries x _ _ k.name.0 n (nat_eq k.name.0 n) (bytes_eq (text_at entries b.name) (text_at entries m.name)) h k.name.1 p refl refl)
    (numbers_by entries x _ _ k.descriptor.0 d (nat_eq k.descriptor.0 d) (bytes_eq (text_at entries b.descriptor) (text_at entries m.descriptor)) h k.descriptor.1 q refl refl))

keys_are : (entries : Pool) (x : TextNumbers) (n d : ℕ) (bs : List Member) (m : Member) → IsNumbering (text_at entries) x → AllKnown entries x bs → number_in x (text_at entries m.name) ≡ Some n → number_in x (text_at entries m.descriptor) ≡ Some d
    → list_any (has_key entries x (m.method, n, d)) bs ≡ list_any (λ b. are_twins (named_in entries) b m) bs
keys_are entries x n d [] m h k p q = refl
keys_are entries x n d (b ∷ bs) m h k p q = ap₂ (λ (u v : Bool). u || v) (has_key_is entries x n d b m h k.0 p q) (keys_are entries x n d bs m h k.1 p q)

-- the key of a member is equal to those that it has
own_key : (entries : Pool) (x : TextNumbers) (n d : ℕ) (q : Key) (m : Member) → number_in x (text_at entries m.name) ≡ Some n → number_in x (text_at entries m.descriptor) ≡ Some d
    → is_eq (key_order (m.method, n, d) q) ≡ has_key entries x q m
own_key entries x n d q m h k = key_cmp m.method q.0 n q.1 d q.2 ∙ sym (ap₂ (λ (a b : Option ℕ). same_kind m.method q.0 && (is_number a q.1 && is_number b q.2)) h k)

-- ---- members that were looked at

-- A set has the keys of the first members, of which no two are twins.
pub record Seen (entries : Pool) (ms : List Member) (i : ℕ) (x : TextNumbers) (s : BTreeSet Key) : Type 0 where
  pub numbering : IsNumbering (text_at entries) x
  pub known : AllKnown entries x (take i ms)
  pub keys : (q : Key) → contains key_order s q ≡ list_any (has_key entries x q) (take i ms)
  pub rest : twins_behind (named_in entries) (take i ms) (drop i ms) ≡ first_twins (named_in entries) ms

drop_next : (ms : List Member) (i : ℕ) (d : Member) → i < length ms → drop i ms ≡ get_or ms i d ∷ drop (i + 1) ms
drop_next ms i d h = drop-cons ms i d h ∙ rw add-one refl

take_next : (ms : List Member) (i : ℕ) (d : Member) → i < length ms → take (i + 1) ms ≡ take i ms ++ get_or ms i d ∷ []
take_next ms i d h = rw add-one (take-suc ms i d h)

was_there : (x b : Bool) → x ≡ not b → x ≡ false → b ≡ true
was_there x true h k = refl
was_there x false h k = absurd cc

was_new : (x b : Bool) → x ≡ not b → x ≡ true → b ≡ false
was_new x true h k = absurd cc
was_new x false h k = refl

pub keeps_both : (x y z : TextNumbers) → Keeps x y → Keeps y z → Keeps x z
keeps_both x y z h k = record { numbers = λ t n p. k.numbers t n (h.numbers t n p) }

-- the next member, with the numbers of its texts
pub record Numbered (entries : Pool) (x y : TextNumbers) (m : Member) (n d : ℕ) : Type 0 where
  pub keeps : Keeps x y
  pub stays : IsNumbering (text_at entries) y
  pub name : number_in y (text_at entries m.name) ≡ Some n
  pub descriptor : number_in y (text_at entries m.descriptor) ≡ Some d

-- what is said of a text that gets a number
abbrev Gives : TextNumbers → TextNumbers → Text → ℕ → ℕ → Type 0
Gives x y t i n = (texts : ℕ → Text) → IsNumbering texts x → t ≡ texts i → number_in y t ≡ Some n

abbrev Stays : TextNumbers → TextNumbers → Text → ℕ → Type 0
Stays x y t i = (texts : ℕ → Text) → IsNumbering texts x → t ≡ texts i → IsNumbering texts y

pub numbered : (entries : Pool) (x y z : TextNumbers) (m : Member) (s t : Text) (n d : ℕ) → IsNumbering (text_at entries) x → s ≡ text_at entries m.name → t ≡ text_at entries m.descriptor
    → Gives x y s m.name n → Keeps x y → Stays x y s m.name → Gives y z t m.descriptor d → Keeps y z → Stays y z t m.descriptor → Numbered entries x z m n d
numbered entries x y z m s t n d h is there name keeps stays descriptor keeps' stays' =
    let i : IsNumbering (text_at entries) y = stays (text_at entries) h is in
    record {
      keeps = keeps_both x y z keeps keeps';
      stays = stays' (text_at entries) i there;
      name = keeps'.numbers _ _ (ap (number_in y) (sym is) ∙ name (text_at entries) h is);
      descriptor = ap (number_in z) (sym there) ∙ descriptor (text_at entries) i there;
    }

module _ (entries : Pool) (ms : List Member) (i : ℕ) (e : Member) (x y : TextNumbers) (s : BTreeSet Key) (n d : ℕ) (new : Bool) (lt : i < length ms) (it : Numbered entries x y (get_or ms i e) n d) (seen : Seen entries ms i x s) (added : new ≡ not (contains key_order s ((get_or ms i e).method, n, d))) where
  so_far : twins_behind (named_in entries) (take i ms) (get_or ms i e ∷ drop (i + 1) ms) ≡ first_twins (named_in entries) ms
  so_far = ap (twins_behind (named_in entries) (take i ms)) (sym (drop_next ms i e lt)) ∙ seen.rest

  found_is : contains key_order s ((get_or ms i e).method, n, d) ≡ list_any (λ b. are_twins (named_in entries) b (get_or ms i e)) (take i ms)
  found_is =
      seen.keys ((get_or ms i e).method, n, d)
      ∙ sym (keys_stay entries x y ((get_or ms i e).method, n, d) (take i ms) it.keeps seen.known)
      ∙ keys_are entries y n d (take i ms) (get_or ms i e) it.stays (known_kept entries x y (take i ms) it.keeps seen.known) it.name it.descriptor

  pub twin_found : new ≡ false → Some (get_or ms i e) ≡ second_of (first_twins (named_in entries) ms)
  twin_found old = sym (twin_here (named_in entries) (take i ms) (drop (i + 1) ms) (get_or ms i e) (first_twins (named_in entries) ms) (sym found_is ∙ was_there new _ added old) so_far)

  pub seen_more : (r : BTreeSet Key) → new ≡ true → Updates key_order s r ((get_or ms i e).method, n, d) true → Seen entries ms (i + 1) y r
  seen_more r fresh u =
      let more = take_next ms i e lt in
      record {
        numbering = it.stays;
        known = rw more (known_more entries y (take i ms) (get_or ms i e) (known_kept entries x y (take i ms) it.keeps seen.known) (record { name = (n, it.name); descriptor = (d, it.descriptor) }));
        keys = λ q.
            u.0 q ∙ ap (λ (b : Bool). cond (is_eq (key_order ((get_or ms i e).method, n, d) q)) true b) (seen.keys q ∙ sym (keys_stay entries x y q (take i ms) it.keeps seen.known))
            ∙ any_more (has_key entries y q) (take i ms) (get_or ms i e) (is_eq (key_order ((get_or ms i e).method, n, d) q)) (own_key entries y n d q (get_or ms i e) it.name it.descriptor)
            ∙ ap (list_any (has_key entries y q)) (sym more);
        rest =
            ap (λ (before : List Member). twins_behind (named_in entries) before (drop (i + 1) ms)) more
            ∙ none_here (named_in entries) (take i ms) (drop (i + 1) ms) (get_or ms i e) (first_twins (named_in entries) ms) (sym found_is ∙ was_new new _ added fresh) so_far;
      }
