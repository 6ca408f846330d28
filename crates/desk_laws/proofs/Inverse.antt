-- What was read is sound.
use Rattle.std.proofs.Common.{◌≡◌, ℕ, zero, suc, ◌+◌, ◌≤◌, Bool, true, false, cond, ◌||◌, List, ◌∷◌, length, take, drop, Option, Some, None, Result, Ok, Err, refl, sym, ap, subst, arith, length-take-le, nat_lt, nat_eq}
use Rattle.std.specs.Int.{w8, w16, from_be_bytes}
use Rattle.std.proofs.lemmas.Bool.{ltb-false}
use Rattle.std.proofs.lemmas.Bool.Decides.{nat_tests}
use Rattle.desk_base.specs.declared.kinds.Tag.{Tag}
use Rattle.desk_base.specs.declared.kinds.Tag.TheVariants as tags
use Rattle.desk_base.specs.declared.faults.Malformed.{Malformed}
use Rattle.desk_base.specs.Utf8.{bad_form}
use Rattle.desk_base.specs.Entries.{Entry, utf8, integer, float, long, double, class, string, fieldref, methodref, interface_methodref, name_and_type, method_handle, method_type, dynamic, invoke_dynamic, module_named, package_named, is_wide, tag_of}
use Rattle.desk_base.specs.Entries.{Pool}
use Rattle.desk_base.specs.Misfits.{or_else}
use Rattle.desk_format.specs.PoolReading.{Got, got, Reader, item, then_read, done, body, with_bytes, with_index, with_two, number_read, well_formed_text, text_read, kind_read, tag_numbered, has_room, more, goes_on, entry_tagged, entry_read, read_slots, names_wrong, leads_wrong, first_fault, unless, checked, counted, read_pool}
use Rattle.desk_laws.specs.Sound.{IsTwoBytes, IsSound, IsShaped, Links, IsWellFormed}
use Rattle.desk_format.specs.Laws.{IsBytes}
use Rattle.desk_format.proofs.Exact.{IsBytes-drop, IsBytes-take}
use Rattle.desk_format.proofs.PoolSteps.{ok_is}
use Rattle.desk_laws.proofs.Passes.{neither, all_pass, each_both, Passes}

-- What a reader gives has a fact, and bytes are left.
pub record Gives {A : Type 0} (P : A → Type 0) (g : Got A) : Type 0 where
  pub fact : P g.value
  pub left : IsBytes g.left

pub record Ensures {A : Type 0} (P : A → Type 0) (r : Result (Got A) Malformed) : Type 0 where
  pub runs : (g : Got A) → r ≡ Ok g → Gives P g

pub ensures_ok : {A : Type 0} (P : A → Type 0) (g : Got A) → Gives P g → Ensures P (Ok g)
ensures_ok {A = A} P g h = record { runs = λ g' e. subst (λ (x : Got A). Gives P x) (ok_is g g' e) h }

pub ensures_err : {A : Type 0} (P : A → Type 0) (f : Malformed) → Ensures P (Err f)
ensures_err P f = record { runs = λ g e. absurd cc }

-- bytes of an item
pub record Bytes (n : ℕ) (b : List ℕ) : Type 0 where
  pub long : length b ≡ n
  pub bytes : IsBytes b

item_by : (n at : ℕ) (s : List ℕ) → IsBytes s → (short : Bool) → nat_lt (length s) n ≡ short → (f : Malformed) → Ensures (Bytes n) (cond short (Err f) (Ok (got (take n s) (at + n) (drop n s))))
item_by n at s b true p f = ensures_err (Bytes n) f
item_by n at s b false p f = ensures_ok (Bytes n) _ (record { fact = record { long = length-take-le n s (ltb-false (length s) n p); bytes = IsBytes-take n s b }; left = IsBytes-drop n s b })

pub item_ensures : (n at : ℕ) (s : List ℕ) → IsBytes s → Ensures (Bytes n) (item n at s)
item_ensures n at s b = item_by n at s b (nat_lt (length s) n) refl _

pub then_ensures : {A B : Type 0} (P : A → Type 0) (Q : B → Type 0) (r : Result (Got A) Malformed) (next : A → Reader B) → Ensures P r → ((a : A) (at : ℕ) (s : List ℕ) → P a → IsBytes s → Ensures Q (next a at s)) → Ensures Q (then_read r next)
then_ensures P Q (Ok g) next h k = let one : Gives P g = h.runs g refl in k g.value g.at g.left one.fact one.left
then_ensures P Q (Err f) next h k = ensures_err Q f

two_small : (b : List ℕ) → Bytes 2 b → IsTwoBytes (from_be_bytes w16 b)
two_small b h = omega (arith, h.bytes 0, h.bytes 1)

pub index_ensures : (at : ℕ) (s : List ℕ) → IsBytes s → Ensures IsTwoBytes (number_read at s)
index_ensures at s b = then_ensures (Bytes 2) IsTwoBytes (item 2 at s) _ (item_ensures 2 at s b) (λ bytes at' s' k b'. ensures_ok IsTwoBytes _ (record { fact = two_small bytes k; left = b' }))

-- a text that an entry may be
pub record Text (t : List ℕ) : Type 0 where
  pub small : IsTwoBytes (length t)
  pub good : bad_form t ≡ None

text_good : (o : Option ℕ) (t : List ℕ) → bad_form t ≡ o → IsTwoBytes (length t) → (start at : ℕ) (s : List ℕ) → IsBytes s → Ensures Text (well_formed_text o t start at s)
text_good None t p small start at s b = ensures_ok Text _ (record { fact = record { small = small; good = p }; left = b })
text_good (Some offset) t p small start at s b = ensures_err Text _

text_ensures : (at : ℕ) (s : List ℕ) → IsBytes s → Ensures Text (text_read at s)
text_ensures at s b =
    then_ensures IsTwoBytes Text (number_read at s) _ (index_ensures at s b)
    (λ n at' s' k b'. then_ensures (Bytes n) Text (item n at' s') _ (item_ensures n at' s' b')
    (λ t at'' s'' j b''. let fits : IsTwoBytes (length t) = subst IsTwoBytes (sym j.long) k in text_good (bad_form t) t refl fits at' at'' s'' b''))

pub record Kind (k : ℕ) : Type 0 where
  pub low : 1 ≤ k
  pub high : k ≤ 9

kind_by : (x : Bool) (kind : ℕ) → (nat_eq kind 0 || nat_lt 9 kind) ≡ x → (f : Malformed) (at : ℕ) (s : List ℕ) → IsBytes s → Ensures Kind (cond {A = Reader ℕ} x (λ at s. Err f) (done kind) at s)
kind_by true kind p f at s b = ensures_err Kind f
kind_by false kind p f at s b =
    let low : 1 ≤ kind = grind (arith, nat_tests) in
    let high : kind ≤ 9 = grind (arith, nat_tests) in
    ensures_ok Kind _ (record { fact = record { low = low; high = high }; left = b })

kind_ensures : (at : ℕ) (s : List ℕ) → IsBytes s → Ensures Kind (kind_read at s)
kind_ensures at s b = then_ensures (Bytes 1) Kind (item 1 at s) _ (item_ensures 1 at s b) (λ kind at' s' k b'. kind_by (nat_eq (from_be_bytes w8 kind) 0 || nat_lt 9 (from_be_bytes w8 kind)) (from_be_bytes w8 kind) refl _ at' s' b')

-- an entry of a tag that is sound
pub record Tagged (tag : Tag) (e : Entry) : Type 0 where
  pub tag_is : tag_of e ≡ tag
  pub sound : IsSound e

module _ (tag : Tag) where
  bytes_tagged : (n : ℕ) (make : List ℕ → Entry) (at : ℕ) (s : List ℕ) → IsBytes s → ((b : List ℕ) → length b ≡ n → Tagged tag (make b)) → Ensures (Tagged tag) (with_bytes n make at s)
  bytes_tagged n make at s b h = then_ensures (Bytes n) (Tagged tag) (item n at s) _ (item_ensures n at s b) (λ bytes at' s' k b'. ensures_ok (Tagged tag) _ (record { fact = h bytes k.long; left = b' }))

  index_tagged : (make : ℕ → Entry) (at : ℕ) (s : List ℕ) → IsBytes s → ((i : ℕ) → IsTwoBytes i → Tagged tag (make i)) → Ensures (Tagged tag) (with_index make at s)
  index_tagged make at s b h = then_ensures IsTwoBytes (Tagged tag) (number_read at s) _ (index_ensures at s b) (λ i at' s' k b'. ensures_ok (Tagged tag) _ (record { fact = h i k; left = b' }))

  two_tagged : (make : ℕ → ℕ → Entry) (at : ℕ) (s : List ℕ) → IsBytes s → ((i j : ℕ) → IsTwoBytes i → IsTwoBytes j → Tagged tag (make i j)) → Ensures (Tagged tag) (with_two make at s)
  two_tagged make at s b h = then_ensures IsTwoBytes (Tagged tag) (number_read at s) _ (index_ensures at s b) (λ i at' s' k b'. index_tagged (make i) at' s' b' (λ j small. h i j k small))

  text_tagged : (at : ℕ) (s : List ℕ) → IsBytes s → ((u : List ℕ) → Text u → Tagged tag (utf8 u)) → Ensures (Tagged tag) (then_read (text_read at s) (λ t. done (utf8 t)))
  text_tagged at s b h = then_ensures Text (Tagged tag) (text_read at s) _ (text_ensures at s b) (λ t at' s' k b'. ensures_ok (Tagged tag) _ (record { fact = h t k; left = b' }))

  handle_tagged : (at : ℕ) (s : List ℕ) → IsBytes s → ((k i : ℕ) → Kind k → IsTwoBytes i → Tagged tag (method_handle k i)) → Ensures (Tagged tag) (then_read (kind_read at s) (λ kind. with_index (method_handle kind)))
  handle_tagged at s b h = then_ensures Kind (Tagged tag) (kind_read at s) _ (kind_ensures at s b) (λ kind at' s' k b'. index_tagged (method_handle kind) at' s' b' (λ i small. h kind i k small))

body_ensures : (tag : Tag) (at : ℕ) (s : List ℕ) → IsBytes s → Ensures (Tagged tag) (body tag at s)
unfolding body
body_ensures tags.Utf8 at s b = text_tagged tags.Utf8 at s b (λ t k. record { tag_is = refl; sound = (k.small, k.good) })
body_ensures tags.Integer at s b = bytes_tagged tags.Integer 4 integer at s b (λ bytes long. record { tag_is = refl; sound = long })
body_ensures tags.Float at s b = bytes_tagged tags.Float 4 float at s b (λ bytes long. record { tag_is = refl; sound = long })
body_ensures tags.Long at s b = bytes_tagged tags.Long 8 long at s b (λ bytes l. record { tag_is = refl; sound = l })
body_ensures tags.Double at s b = bytes_tagged tags.Double 8 double at s b (λ bytes l. record { tag_is = refl; sound = l })
body_ensures tags.Class at s b = index_tagged tags.Class class at s b (λ i small. record { tag_is = refl; sound = small })
body_ensures tags.String at s b = index_tagged tags.String string at s b (λ i small. record { tag_is = refl; sound = small })
body_ensures tags.Fieldref at s b = two_tagged tags.Fieldref fieldref at s b (λ i j p q. record { tag_is = refl; sound = (p, q) })
body_ensures tags.Methodref at s b = two_tagged tags.Methodref methodref at s b (λ i j p q. record { tag_is = refl; sound = (p, q) })
body_ensures tags.InterfaceMethodref at s b = two_tagged tags.InterfaceMethodref interface_methodref at s b (λ i j p q. record { tag_is = refl; sound = (p, q) })
body_ensures tags.NameAndType at s b = two_tagged tags.NameAndType name_and_type at s b (λ i j p q. record { tag_is = refl; sound = (p, q) })
body_ensures tags.MethodHandle at s b = handle_tagged tags.MethodHandle at s b (λ k i known small. record { tag_is = refl; sound = (known.low, known.high, small) })
body_ensures tags.MethodType at s b = index_tagged tags.MethodType method_type at s b (λ i small. record { tag_is = refl; sound = small })
body_ensures tags.Dynamic at s b = two_tagged tags.Dynamic dynamic at s b (λ i j p q. record { tag_is = refl; sound = (p, q) })
body_ensures tags.InvokeDynamic at s b = two_tagged tags.InvokeDynamic invoke_dynamic at s b (λ i j p q. record { tag_is = refl; sound = (p, q) })
body_ensures tags.Module at s b = index_tagged tags.Module module_named at s b (λ i small. record { tag_is = refl; sound = small })
body_ensures tags.Package at s b = index_tagged tags.Package package_named at s b (λ i small. record { tag_is = refl; sound = small })

-- so many slots
pub record Slots (n : ℕ) (second : Bool) (pool : Pool) : Type 0 where
  pub many : length pool ≡ n
  pub shaped : IsShaped second pool

-- a second slot is to come only where one is left
abbrev pub Awaits : ℕ → Bool → Type 0
Awaits zero true = ⊥
Awaits _ _ = Unit {0}

pub awaits : (tag : Tag) (n : ℕ) → has_room tag n ≡ true → Awaits n (is_wide tag)
awaits tag (suc n) h = tt
awaits tags.Long zero h = absurd cc
awaits tags.Double zero h = absurd cc
awaits _ zero h = tt

more_ensures : (slot : Option Entry) (n : ℕ) (second before : Bool) (r : Result (Got Pool) Malformed) → Ensures (Slots n second) r → ((pool : Pool) → IsShaped second pool → IsShaped before (slot ∷ pool)) → Ensures (Slots (suc n) before) (more slot r)
more_ensures slot n second before (Ok g) h k =
    let one : Gives (Slots n second) g = h.runs g refl in
    ensures_ok (Slots (suc n) before) _ (record { fact = record { many = ap suc one.fact.many; shaped = k g.value one.fact.shaped }; left = one.left })
more_ensures slot n second before (Err f) h k = ensures_err (Slots (suc n) before) f

-- an entry, with its second slot to come where it is wide
pub record IsPlaced (n : ℕ) (e : Entry) : Type 0 where
  pub sound : IsSound e
  pub awaits : Awaits n (is_wide (tag_of e))

on_ensures : (n : ℕ) (r : Result (Got Entry) Malformed) (rest : Entry → Reader Pool) → Ensures (IsPlaced n) r → ((e : Entry) → Awaits n (is_wide (tag_of e)) → (at : ℕ) (s : List ℕ) → IsBytes s → Ensures (Slots n (is_wide (tag_of e))) (rest e at s)) → Ensures (Slots (suc n) false) (goes_on r rest)
on_ensures n (Ok e) rest h k =
    let one : Gives (IsPlaced n) e = h.runs e refl in
    more_ensures (Some e.value) n (is_wide (tag_of e.value)) false (rest e.value e.at e.left) (k e.value one.fact.awaits e.at e.left one.left) (λ pool shaped. (one.fact.sound, shaped))
on_ensures n (Err f) rest h k = ensures_err (Slots (suc n) false) f

weaker : {A : Type 0} (P Q : A → Type 0) (r : Result (Got A) Malformed) → ((a : A) → P a → Q a) → Ensures P r → Ensures Q r
weaker P Q r f h = record { runs = λ g e. let one : Gives P g = h.runs g e in record { fact = f g.value one.fact; left = one.left } }

room_by : (x : Bool) (tag : Tag) (n : ℕ) (f : Malformed) (at : ℕ) (s : List ℕ) → IsBytes s → has_room tag n ≡ x → Ensures (IsPlaced n) (cond x (body tag at s) (Err f))
room_by true tag n f at s b p = weaker (Tagged tag) (IsPlaced n) (body tag at s) (λ e t. record { sound = t.sound; awaits = subst (λ (u : Tag). Awaits n (is_wide u)) (sym t.tag_is) (awaits tag n p) }) (body_ensures tag at s b)
room_by false tag n f at s b p = ensures_err (IsPlaced n) f

tagged_ensures : (o : Option Tag) (n place at : ℕ) (s : List ℕ) → IsBytes s → Ensures (IsPlaced n) (entry_tagged o n place at s)
tagged_ensures None n place at s b = ensures_err (IsPlaced n) _
tagged_ensures (Some tag) n place at s b = room_by (has_room tag n) tag n _ at s b refl

entry_ensures : (n at : ℕ) (s : List ℕ) → IsBytes s → Ensures (IsPlaced n) (entry_read n at s)
unfolding entry_read
entry_ensures n at s b = then_ensures (Bytes 1) (IsPlaced n) (item 1 at s) _ (item_ensures 1 at s b) (λ tag at' s' k b'. tagged_ensures (tag_numbered (from_be_bytes w8 tag)) n at at' s' b')

pub slots_ensure : (n : ℕ) (second : Bool) → Awaits n second → (at : ℕ) (s : List ℕ) → IsBytes s → Ensures (Slots n second) (read_slots n second at s)
unfolding read_slots
slots_ensure zero true a at s b = absurd a
slots_ensure zero false a at s b = ensures_ok (Slots zero false) _ (record { fact = record { many = refl; shaped = tt }; left = b })
slots_ensure (suc n) true a at s b = more_ensures None n false true (read_slots n false at s) (slots_ensure n false (calm n) at s b) (λ pool shaped. shaped)
  where
    calm : (n : ℕ) → Awaits n false
    calm zero = tt
    calm (suc n) = tt
slots_ensure (suc n) false a at s b = on_ensures n (entry_read n at s) _ (entry_ensures n at s b) (λ e w at' s' b'. slots_ensure n (is_wide (tag_of e)) w at' s' b')

-- ---- the pool

check_by : (at : ℕ) (all : Got Pool) (o : Option Malformed) → or_else (first_fault (names_wrong all.value) at all.value) (first_fault (leads_wrong all.value) at all.value) ≡ o → IsTwoBytes (length all.value) → Gives (Slots (length all.value) false) all → Ensures IsWellFormed (unless o all)
check_by at all None p small h =
    let n = neither (first_fault (names_wrong all.value) at all.value) (first_fault (leads_wrong all.value) at all.value) p in
    ensures_ok IsWellFormed all (record {
      fact = record {
        shaped = h.fact.shaped;
        small = small;
        linked = each_both (Passes (names_wrong all.value)) (Passes (leads_wrong all.value)) (Links all.value) all.value (λ l a b. record { names = a; leads = b }) (all_pass (names_wrong all.value) at all.value n.first) (all_pass (leads_wrong all.value) at all.value n.second);
      };
      left = h.left;
    })
check_by at all (Some f) p small h = ensures_err IsWellFormed f

checked_ensures : (at n : ℕ) (r : Result (Got Pool) Malformed) → IsTwoBytes n → Ensures (Slots n false) r → Ensures IsWellFormed (checked at r)
checked_ensures at n (Ok all) small h =
    let one : Gives (Slots n false) all = h.runs all refl in
    let few : IsTwoBytes (length all.value) = subst IsTwoBytes (sym one.fact.many) small in
    check_by at all _ refl few (record { fact = record { many = refl; shaped = one.fact.shaped }; left = one.left })
checked_ensures at n (Err f) small h = ensures_err IsWellFormed f

counted_ensures : (count place at : ℕ) (s : List ℕ) → IsTwoBytes count → IsBytes s → Ensures IsWellFormed (counted count place at s)
counted_ensures zero place at s small b = ensures_err IsWellFormed _
counted_ensures (suc n) place at s small b = let fewer : IsTwoBytes n = omega arith in checked_ensures at n (read_slots n false at s) fewer (slots_ensure n false (calm n) at s b)
  where
    calm : (n : ℕ) → Awaits n false
    calm zero = tt
    calm (suc n) = tt

pub pool_ensures : (at : ℕ) (s : List ℕ) → IsBytes s → Ensures IsWellFormed (read_pool at s)
unfolding read_pool
pool_ensures at s b = then_ensures IsTwoBytes IsWellFormed (number_read at s) _ (index_ensures at s b) (λ count at' s' k b'. counted_ensures count at at' s' k b')
