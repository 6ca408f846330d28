-- What is read of a pool prints to the bytes that were read.
use Rattle.std.proofs.Common.{◌≡◌, ℕ, zero, suc, ◌+◌, ◌<◌, Bool, true, false, cond, ◌||◌, List, [], ◌∷◌, ◌++◌, length, take, drop, Option, Some, None, Result, Ok, Err, refl, sym, ap, subst, ◌∙◌, append_assoc, append-nil, arith, length-append, length-take-le, nat_lt, nat_eq}
use Rattle.std.specs.Int.{w8, w16, from_be_bytes}
use Rattle.std.proofs.lemmas.Bool.{ltb-false, eqb-true}
use Rattle.std.proofs.lemmas.List.{take-append-drop}
use Rattle.std.proofs.lemmas.Nat.{be_bytes_2}
use Rattle.desk_base.specs.declared.kinds.Tag.{Tag}
use Rattle.desk_base.specs.declared.kinds.Tag.TheVariants as tags
use Rattle.desk_base.specs.declared.faults.Malformed.{Malformed}
use Rattle.desk_base.specs.Utf8.{bad_form}
use Rattle.desk_base.specs.Entries.{Pool, Entry, utf8, integer, float, long, double, class, string, fieldref, methodref, interface_methodref, name_and_type, method_handle, method_type, dynamic, invoke_dynamic, module_named, package_named, is_wide, tag_of, number_of}
use Rattle.desk_base.specs.Misfits.{or_else}
use Rattle.desk_format.specs.PoolBytes.{two, print_entry, print_slots, print_pool}
use Rattle.desk_format.specs.PoolReading.{Got, got, Reader, item, then_read, done, body, with_bytes, with_index, with_two, number_read, well_formed_text, text_read, kind_read, tag_numbered, has_room, more, goes_on, entry_tagged, entry_read, read_slots, unless, checked, counted, read_pool, first_fault, names_wrong, leads_wrong}
use Rattle.desk_format.specs.Laws.{IsBytes}
use Rattle.desk_format.proofs.Exact.{IsBytes-drop, IsBytes-take}
use Rattle.desk_format.proofs.PoolSteps.{ok_is}
use Rattle.desk_format.proofs.TagLemmas.{at_each, all_below}
use Rattle.desk_laws.proofs.Inverse.{Awaits, slots_ensure}

-- What was read since some bytes in front is printed, and bytes are left.
pub record Spelled {A : Type 0} (front : List ℕ) (print : A → List ℕ) (at : ℕ) (s : List ℕ) (g : Got A) : Type 0 where
  pub parts : front ++ s ≡ print g.value ++ g.left
  pub place : g.at + length front ≡ at + length (print g.value)
  pub left : IsBytes g.left

pub record Spells {A : Type 0} (front : List ℕ) (print : A → List ℕ) (at : ℕ) (s : List ℕ) (r : Result (Got A) Malformed) : Type 0 where
  pub runs : (g : Got A) → r ≡ Ok g → Spelled front print at s g

pub spells_ok : {A : Type 0} (front : List ℕ) (print : A → List ℕ) (at : ℕ) (s : List ℕ) (g : Got A) → Spelled front print at s g → Spells front print at s (Ok g)
spells_ok {A = A} front print at s g h = record { runs = λ g' e. subst (λ (x : Got A). Spelled front print at s x) (ok_is g g' e) h }

pub spells_err : {A : Type 0} (front : List ℕ) (print : A → List ℕ) (at : ℕ) (s : List ℕ) (f : Malformed) → Spells front print at s (Err f)
spells_err front print at s f = record { runs = λ g e. absurd cc }

pub spells_done : {A : Type 0} (front : List ℕ) (print : A → List ℕ) (at : ℕ) (s : List ℕ) (v : A) → IsBytes s → front ≡ print v → Spells front print at s (done v at s)
spells_done front print at s v b h = spells_ok front print at s (got v at s) (record { parts = ap (λ (x : List ℕ). x ++ s) h; place = ap (λ (x : List ℕ). at + length x) h; left = b })

-- an item of so many bytes
pub record Item (n : ℕ) (b : List ℕ) : Type 0 where
  pub long : length b ≡ n
  pub bytes : IsBytes b

item_by : {B : Type 0} (front : List ℕ) (print : B → List ℕ) (n at : ℕ) (s : List ℕ) (next : List ℕ → Reader B) → IsBytes s
    → ((b : List ℕ) (at : ℕ) (s : List ℕ) → Item n b → IsBytes s → Spells (front ++ b) print at s (next b at s))
    → (short : Bool) → nat_lt (length s) n ≡ short → (f : Malformed) → Spells front print at s (then_read (cond short (Err f) (Ok (got (take n s) (at + n) (drop n s)))) next)
item_by front print n at s next b k true p f = spells_err front print at s f
item_by front print n at s next b k false p f =
    let long : length (take n s) ≡ n = length-take-le n s (ltb-false (length s) n p) in
    let later : Spells (front ++ take n s) print (at + n) (drop n s) (next (take n s) (at + n) (drop n s)) = k (take n s) (at + n) (drop n s) (record { long = long; bytes = IsBytes-take n s b }) (IsBytes-drop n s b) in
    record {
      runs = λ g e.
          let o : Spelled (front ++ take n s) print (at + n) (drop n s) g = later.runs g e in
          record {
            parts = ap (λ (x : List ℕ). front ++ x) (sym (take-append-drop n s)) ∙ sym (append_assoc front (take n s) (drop n s)) ∙ o.parts;
            place = omega (arith, o.place, length-append front (take n s), long);
            left = o.left;
          };
    }

-- an item, and what is read behind it
pub spells_item : {B : Type 0} (front : List ℕ) (print : B → List ℕ) (n at : ℕ) (s : List ℕ) (next : List ℕ → Reader B) → IsBytes s
    → ((b : List ℕ) (at : ℕ) (s : List ℕ) → Item n b → IsBytes s → Spells (front ++ b) print at s (next b at s)) → Spells front print at s (then_read (item n at s) next)
spells_item front print n at s next b k = item_by front print n at s next b k (nat_lt (length s) n) refl _

then_twice : {A B C : Type 0} (r : Result (Got A) Malformed) (f : A → Reader B) (g : B → Reader C) → then_read (then_read r f) g ≡ then_read r (λ a. λ at s. then_read (f a at s) g)
then_twice (Ok a) f g = refl
then_twice (Err e) f g = refl

-- a two-byte number, and what is read behind it
pub spells_number : {B : Type 0} (front : List ℕ) (print : B → List ℕ) (at : ℕ) (s : List ℕ) (next : ℕ → Reader B) → IsBytes s
    → ((i : ℕ) (at : ℕ) (s : List ℕ) → IsBytes s → Spells (front ++ two i) print at s (next i at s)) → Spells front print at s (then_read (number_read at s) next)
spells_number front print at s next b k =
    subst (Spells front print at s) (sym (then_twice (item 2 at s) (λ bytes. done (from_be_bytes w16 bytes)) next))
    (spells_item front print 2 at s (λ bytes. λ at s. next (from_be_bytes w16 bytes) at s) b
    (λ bytes at' s' i b'. subst (λ (x : List ℕ). Spells (front ++ x) print at' s' (next (from_be_bytes w16 bytes) at' s')) (be_bytes_2 bytes _ i.long i.bytes refl) (k (from_be_bytes w16 bytes) at' s' b')))

-- ---- entries, behind some bytes and the tag

-- the bytes of an entry behind some bytes
abbrev pub entry_behind : List ℕ → Entry → List ℕ
entry_behind f e = f ++ print_entry e

behind_tag : (f : List ℕ) (n : ℕ) (bytes : List ℕ) → (f ++ n ∷ []) ++ bytes ≡ f ++ (n ∷ bytes)
behind_tag f n bytes = append_assoc f (n ∷ []) bytes

module _ (f : List ℕ) (n : ℕ) where
  abbrev Tagged : List ℕ
  Tagged = f ++ n ∷ []

  bytes_spelled : (size : ℕ) (make : List ℕ → Entry) (at : ℕ) (s : List ℕ) → IsBytes s → ((b : List ℕ) → print_entry (make b) ≡ n ∷ b) → Spells (f ++ n ∷ []) (entry_behind f) at s (with_bytes size make at s)
  bytes_spelled size make at s b h =
      spells_item (f ++ n ∷ []) (entry_behind f) size at s (λ bytes. done (make bytes)) b
      (λ bytes at' s' i b'. spells_done _ (entry_behind f) at' s' (make bytes) b' (behind_tag f n bytes ∙ ap (λ (x : List ℕ). f ++ x) (sym (h bytes))))

  index_spelled : (front : List ℕ) (make : ℕ → Entry) (at : ℕ) (s : List ℕ) → IsBytes s → ((i : ℕ) → front ++ two i ≡ entry_behind f (make i)) → Spells front (entry_behind f) at s (with_index make at s)
  index_spelled front make at s b h =
      spells_number front (entry_behind f) at s (λ i. done (make i)) b (λ i at' s' b'. spells_done _ (entry_behind f) at' s' (make i) b' (h i))

  one_spelled : (make : ℕ → Entry) (at : ℕ) (s : List ℕ) → IsBytes s → ((i : ℕ) → print_entry (make i) ≡ n ∷ two i) → Spells (f ++ n ∷ []) (entry_behind f) at s (with_index make at s)
  one_spelled make at s b h = index_spelled (f ++ n ∷ []) make at s b (λ i. behind_tag f n (two i) ∙ ap (λ (x : List ℕ). f ++ x) (sym (h i)))

  two_spelled : (make : ℕ → ℕ → Entry) (at : ℕ) (s : List ℕ) → IsBytes s → ((i j : ℕ) → print_entry (make i j) ≡ n ∷ (two i ++ two j)) → Spells (f ++ n ∷ []) (entry_behind f) at s (with_two make at s)
  two_spelled make at s b h =
      spells_number (f ++ n ∷ []) (entry_behind f) at s (λ i. with_index (make i)) b
      (λ i at' s' b'. index_spelled ((f ++ n ∷ []) ++ two i) (make i) at' s' b'
      (λ j. append_assoc (f ++ n ∷ []) (two i) (two j) ∙ behind_tag f n (two i ++ two j) ∙ ap (λ (x : List ℕ). f ++ x) (sym (h i j))))

text_by : (o : Option ℕ) (front f : List ℕ) (t : List ℕ) (start at : ℕ) (s : List ℕ) → IsBytes s → front ≡ entry_behind f (utf8 t) → Spells front (entry_behind f) at s (then_read (well_formed_text o t start at s) (λ u. done (utf8 u)))
text_by None front f t start at s b h = spells_done front (entry_behind f) at s (utf8 t) b h
text_by (Some offset) front f t start at s b h = spells_err front (entry_behind f) at s _

text_spelled : (f : List ℕ) (at : ℕ) (s : List ℕ) → IsBytes s → Spells (f ++ 1 ∷ []) (entry_behind f) at s (then_read (text_read at s) (λ t. done (utf8 t)))
text_spelled f at s b =
    subst (Spells (f ++ 1 ∷ []) (entry_behind f) at s) (sym (then_twice (number_read at s) (λ n. λ at s. then_read (item n at s) (λ t. well_formed_text (bad_form t) t at)) (λ t. done (utf8 t))))
    (spells_number (f ++ 1 ∷ []) (entry_behind f) at s (λ n. λ at s. then_read (then_read (item n at s) (λ t. well_formed_text (bad_form t) t at)) (λ t. done (utf8 t))) b
    (λ n at' s' b'. subst (Spells ((f ++ 1 ∷ []) ++ two n) (entry_behind f) at' s') (sym (then_twice (item n at' s') (λ t. well_formed_text (bad_form t) t at') (λ t. done (utf8 t))))
    (spells_item ((f ++ 1 ∷ []) ++ two n) (entry_behind f) n at' s' (λ t. λ at s. then_read (well_formed_text (bad_form t) t at' at s) (λ u. done (utf8 u))) b'
    (λ t at'' s'' i b''. text_by (bad_form t) _ f t at' at'' s'' b''
    (append_assoc (f ++ 1 ∷ []) (two n) t ∙ behind_tag f 1 (two n ++ t) ∙ ap (λ (m : ℕ). f ++ (1 ∷ (two m ++ t))) (sym i.long))))))

one_byte : (b : List ℕ) → Item 1 b → b ≡ from_be_bytes w8 b ∷ []
one_byte [] i = absurd (omega (arith, i.long))
one_byte (x ∷ []) i = let small : x < 256 = i.bytes 0 in ap (λ (y : ℕ). y ∷ []) (omega arith)
one_byte (x ∷ (y ∷ b)) i = absurd (omega (arith, i.long))

kind_by : (x : Bool) (kind : ℕ) (front f : List ℕ) (at : ℕ) (s : List ℕ) (e : Malformed) → IsBytes s → front ≡ f ++ (15 ∷ (kind ∷ [])) → Spells front (entry_behind f) at s (then_read (cond {A = Reader ℕ} x (λ at s. Err e) (done kind) at s) (λ k. with_index (method_handle k)))
kind_by true kind front f at s e b h = spells_err front (entry_behind f) at s e
kind_by false kind front f at s e b h =
    index_spelled f 15 front (method_handle kind) at s b (λ i. ap (λ (x : List ℕ). x ++ two i) h ∙ append_assoc f (15 ∷ (kind ∷ [])) (two i))

handle_spelled : (f : List ℕ) (at : ℕ) (s : List ℕ) → IsBytes s → Spells (f ++ 15 ∷ []) (entry_behind f) at s (then_read (kind_read at s) (λ kind. with_index (method_handle kind)))
handle_spelled f at s b =
    subst (Spells (f ++ 15 ∷ []) (entry_behind f) at s) (sym (then_twice (item 1 at s) _ (λ kind. with_index (method_handle kind))))
    (spells_item (f ++ 15 ∷ []) (entry_behind f) 1 at s _ b
    (λ bytes at' s' i b'. kind_by (nat_eq (from_be_bytes w8 bytes) 0 || nat_lt 9 (from_be_bytes w8 bytes)) (from_be_bytes w8 bytes) _ f at' s' _ b'
    (behind_tag f 15 bytes ∙ ap (λ (x : List ℕ). f ++ (15 ∷ x)) (one_byte bytes i))))

body_spelled : (tag : Tag) (f : List ℕ) (at : ℕ) (s : List ℕ) → IsBytes s → Spells (f ++ number_of tag ∷ []) (entry_behind f) at s (body tag at s)
unfolding body
body_spelled tags.Utf8 f at s b = text_spelled f at s b
body_spelled tags.Integer f at s b = bytes_spelled f 3 4 integer at s b (λ bytes. refl)
body_spelled tags.Float f at s b = bytes_spelled f 4 4 float at s b (λ bytes. refl)
body_spelled tags.Long f at s b = bytes_spelled f 5 8 long at s b (λ bytes. refl)
body_spelled tags.Double f at s b = bytes_spelled f 6 8 double at s b (λ bytes. refl)
body_spelled tags.Class f at s b = one_spelled f 7 class at s b (λ i. refl)
body_spelled tags.String f at s b = one_spelled f 8 string at s b (λ i. refl)
body_spelled tags.Fieldref f at s b = two_spelled f 9 fieldref at s b (λ i j. refl)
body_spelled tags.Methodref f at s b = two_spelled f 10 methodref at s b (λ i j. refl)
body_spelled tags.InterfaceMethodref f at s b = two_spelled f 11 interface_methodref at s b (λ i j. refl)
body_spelled tags.NameAndType f at s b = two_spelled f 12 name_and_type at s b (λ i j. refl)
body_spelled tags.MethodHandle f at s b = handle_spelled f at s b
body_spelled tags.MethodType f at s b = one_spelled f 16 method_type at s b (λ i. refl)
body_spelled tags.Dynamic f at s b = two_spelled f 17 dynamic at s b (λ i j. refl)
body_spelled tags.InvokeDynamic f at s b = two_spelled f 18 invoke_dynamic at s b (λ i j. refl)
body_spelled tags.Module f at s b = one_spelled f 19 module_named at s b (λ i. refl)
body_spelled tags.Package f at s b = one_spelled f 20 package_named at s b (λ i. refl)

-- ---- tags

abbrev agrees : Option Tag → ℕ → Bool
agrees None n = true
agrees (Some tag) n = nat_eq (number_of tag) n

all_agree : all_below (λ n. agrees (tag_numbered n) n) 256 ≡ true
unfolding tag_numbered
all_agree = refl

agreeing : (o : Option Tag) (tag : Tag) (n : ℕ) → agrees o n ≡ true → o ≡ Some tag → number_of tag ≡ n
agreeing None tag n h e = absurd cc
agreeing (Some t) tag n h e = let same : t ≡ tag = cc in ap number_of (sym same) ∙ eqb-true (number_of t) n h

number_is : (n : ℕ) (tag : Tag) → n < 256 → tag_numbered n ≡ Some tag → number_of tag ≡ n
number_is n tag lt e = agreeing (tag_numbered n) tag n (at_each (λ m. agrees (tag_numbered m) m) 256 all_agree n lt) e

-- ---- entries

room_by : (x : Bool) (tag : Tag) (f front : List ℕ) (at : ℕ) (s : List ℕ) (e : Malformed) → IsBytes s → front ≡ f ++ number_of tag ∷ [] → Spells front (entry_behind f) at s (cond x (body tag at s) (Err e))
room_by true tag f front at s e b h = subst (λ (x : List ℕ). Spells x (entry_behind f) at s (body tag at s)) (sym h) (body_spelled tag f at s b)
room_by false tag f front at s e b h = spells_err front (entry_behind f) at s e

tagged_spelled : (o : Option Tag) (n place number : ℕ) (f front : List ℕ) (at : ℕ) (s : List ℕ) → IsBytes s → number < 256 → tag_numbered number ≡ o → front ≡ f ++ number ∷ [] → Spells front (entry_behind f) at s (entry_tagged o n place at s)
tagged_spelled None n place number f front at s b lt p h = spells_err front (entry_behind f) at s _
tagged_spelled (Some tag) n place number f front at s b lt p h =
    room_by (has_room tag n) tag f front at s _ b (h ∙ ap (λ (m : ℕ). f ++ m ∷ []) (sym (number_is number tag lt p)))

byte_small : (b : List ℕ) → Item 1 b → from_be_bytes w8 b < 256
byte_small b i = omega (arith, i.bytes 0)

entry_spelled : (n : ℕ) (f : List ℕ) (at : ℕ) (s : List ℕ) → IsBytes s → Spells f (entry_behind f) at s (entry_read n at s)
unfolding entry_read
entry_spelled n f at s b =
    spells_item f (entry_behind f) 1 at s _ b
    (λ bytes at' s' i b'. tagged_spelled (tag_numbered (from_be_bytes w8 bytes)) n at (from_be_bytes w8 bytes) f _ at' s' b' (byte_small bytes i) refl (ap (λ (x : List ℕ). f ++ x) (one_byte bytes i)))

-- ---- the pool

abbrev pub slots_behind : List ℕ → Pool → List ℕ
slots_behind f pool = f ++ print_slots pool

more_spelled : (slot : Option Entry) (f front : List ℕ) (at : ℕ) (s : List ℕ) (r : Result (Got Pool) Malformed) → Spells front (slots_behind front) at s r → ((pool : Pool) → slots_behind front pool ≡ slots_behind f (slot ∷ pool)) → Spells front (slots_behind f) at s (more slot r)
more_spelled slot f front at s (Ok g) h k =
    let o : Spelled front (slots_behind front) at s g = h.runs g refl in
    spells_ok front (slots_behind f) at s _ (record { parts = o.parts ∙ ap (λ (x : List ℕ). x ++ g.left) (k g.value); place = o.place ∙ ap (λ (x : List ℕ). at + length x) (k g.value); left = o.left })
more_spelled slot f front at s (Err e) h k = spells_err front (slots_behind f) at s e

-- bytes that were in front before
forward : {A : Type 0} (f front : List ℕ) (print : A → List ℕ) (at at' : ℕ) (s s' : List ℕ) (r : Result (Got A) Malformed) → f ++ s ≡ front ++ s' → at' + length f ≡ at + length front → Spells front print at' s' r → Spells f print at s r
forward f front print at at' s s' r p q h = record { runs = λ g e. let o : Spelled front print at' s' g = h.runs g e in record { parts = p ∙ o.parts; place = omega (arith, o.place); left = o.left } }

goes_spelled : (f : List ℕ) (at : ℕ) (s : List ℕ) (r : Result (Got Entry) Malformed) (rest : Entry → Reader Pool) → Spells f (entry_behind f) at s r
    → ((e : Entry) (at : ℕ) (s : List ℕ) → IsBytes s → Spells (entry_behind f e) (slots_behind (entry_behind f e)) at s (rest e at s)) → Spells f (slots_behind f) at s (goes_on r rest)
goes_spelled f at s (Ok e) rest h k =
    let o : Spelled f (entry_behind f) at s e = h.runs e refl in
    forward f (entry_behind f e.value) (slots_behind f) at e.at s e.left _ o.parts o.place
    (more_spelled (Some e.value) f (entry_behind f e.value) e.at e.left (rest e.value e.at e.left) (k e.value e.at e.left o.left) (λ pool. append_assoc f (print_entry e.value) (print_slots pool)))
goes_spelled f at s (Err x) rest h k = spells_err f (slots_behind f) at s x

slots_spelled : (n : ℕ) (second : Bool) (f : List ℕ) (at : ℕ) (s : List ℕ) → IsBytes s → Spells f (slots_behind f) at s (read_slots n second at s)
unfolding read_slots
slots_spelled zero second f at s b = spells_ok f (slots_behind f) at s (got [] at s) (record { parts = ap (λ (x : List ℕ). x ++ s) (sym (append-nil f)); place = ap (λ (x : List ℕ). at + length x) (sym (append-nil f)); left = b })
slots_spelled (suc n) true f at s b = more_spelled None f f at s (read_slots n false at s) (slots_spelled n false f at s b) (λ pool. refl)
slots_spelled (suc n) false f at s b = goes_spelled f at s (entry_read n at s) _ (entry_spelled n f at s b) (λ e at' s' b'. slots_spelled n (is_wide (tag_of e)) (entry_behind f e) at' s' b')

unless_spelled : (o : Option Malformed) (f : List ℕ) (print : Pool → List ℕ) (at : ℕ) (s : List ℕ) (g : Got Pool) → Spelled f print at s g → Spells f print at s (unless o g)
unless_spelled None f print at s g h = spells_ok f print at s g h
unless_spelled (Some x) f print at s g h = spells_err f print at s x

calm : (n : ℕ) → Awaits n false
calm zero = tt
calm (suc n) = tt

checked_spelled : (n at : ℕ) (s : List ℕ) (r : Result (Got Pool) Malformed) → r ≡ read_slots n false at s → IsBytes s → Spells (two (suc n)) (slots_behind (two (suc n))) at s r → Spells (two (suc n)) print_pool at s (checked at r)
checked_spelled n at s (Err f) e b h = spells_err (two (suc n)) print_pool at s f
checked_spelled n at s (Ok all) e b h =
    let o : Spelled (two (suc n)) (slots_behind (two (suc n))) at s all = h.runs all refl in
    let many : length all.value ≡ n = ((slots_ensure n false (calm n) at s b).runs all (sym e)).fact.many in
    let same : slots_behind (two (suc n)) all.value ≡ print_pool all.value = ap (λ (m : ℕ). two (suc m) ++ print_slots all.value) (sym many) in
    unless_spelled (or_else (first_fault (names_wrong all.value) at all.value) (first_fault (leads_wrong all.value) at all.value)) (two (suc n)) print_pool at s all
    (record { parts = o.parts ∙ ap (λ (x : List ℕ). x ++ all.left) same; place = o.place ∙ ap (λ (x : List ℕ). at + length x) same; left = o.left })

counted_spelled : (count place at : ℕ) (s : List ℕ) → IsBytes s → Spells (two count) print_pool at s (counted count place at s)
counted_spelled zero place at s b = spells_err (two 0) print_pool at s _
counted_spelled (suc n) place at s b = checked_spelled n at s (read_slots n false at s) refl b (slots_spelled n false (two (suc n)) at s b)

pub pool_spelled : (at : ℕ) (s : List ℕ) → IsBytes s → Spells [] print_pool at s (read_pool at s)
unfolding read_pool
pool_spelled at s b = spells_number [] print_pool at s (λ count. counted count at) b (λ count at' s' b'. counted_spelled count at at' s' b')
