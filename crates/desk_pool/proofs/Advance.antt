-- Reading goes on by the printed size.
use Rattle.std.proofs.Common.{◌≡◌, ℕ, zero, suc, ◌+◌, Bool, true, false, cond, ◌||◌, List, [], ◌∷◌, length, take, drop, Option, Some, None, Result, Ok, Err, nat_lt, nat_eq, refl, sym, ap, subst, ◌∙◌, arith, length-append, length-take-le}
use Rattle.std.specs.Int.{w8, from_be_bytes}
use Rattle.std.proofs.lemmas.Bool.{ltb-false}
use Rattle.desk_base.specs.declared.kinds.Tag.{Tag}
use Rattle.desk_base.specs.declared.kinds.Tag.TheVariants as tags
use Rattle.desk_base.specs.declared.faults.Malformed.{Malformed}
use Rattle.desk_base.specs.Utf8.{bad_form}
use Rattle.desk_base.specs.Entries.{Pool, Entry, integer, float, long, double, class, string, fieldref, methodref, interface_methodref, name_and_type, method_handle, method_type, dynamic, invoke_dynamic, module_named, package_named, is_wide, tag_of}
use Rattle.desk_format.specs.PoolBytes.{two, print_body, print_entry, print_slots}
use Rattle.desk_format.specs.PoolReading.{Got, got, Reader, item, then_read, done, body, with_bytes, with_index, with_two, number_read, well_formed_text, text_read, kind_read, tag_numbered, has_room, more, goes_on, entry_tagged, entry_read, read_slots}
use Rattle.desk_format.proofs.PoolSteps.{ok_is}

-- a fact of what was read and the place behind it
pub record Gets {A : Type 0} (P : A → ℕ → Type 0) (r : Result (Got A) Malformed) : Type 0 where
  pub runs : (g : Got A) → r ≡ Ok g → P g.value g.at

gets_ok : {A : Type 0} (P : A → ℕ → Type 0) (g : Got A) → P g.value g.at → Gets P (Ok g)
gets_ok {A = A} P g h = record { runs = λ g' e. subst (λ (x : Got A). P x.value x.at) (ok_is g g' e) h }

gets_err : {A : Type 0} (P : A → ℕ → Type 0) (f : Malformed) → Gets P (Err f)
gets_err P f = record { runs = λ g e. absurd cc }

gets_then : {A B : Type 0} (P : A → ℕ → Type 0) (Q : B → ℕ → Type 0) (r : Result (Got A) Malformed) (next : A → Reader B) → Gets P r → ((a : A) (at : ℕ) (s : List ℕ) → P a at → Gets Q (next a at s)) → Gets Q (then_read r next)
gets_then P Q (Ok g) next h k = k g.value g.at g.left (h.runs g refl)
gets_then P Q (Err f) next h k = gets_err Q f

-- bytes that were read from a place
pub record Bytes (at n : ℕ) (b : List ℕ) (behind : ℕ) : Type 0 where
  pub at_is : behind ≡ at + n
  pub long : length b ≡ n

item_by : (n at : ℕ) (s : List ℕ) (short : Bool) → nat_lt (length s) n ≡ short → (f : Malformed) → Gets (Bytes at n) (cond short (Err f) (Ok (got (take n s) (at + n) (drop n s))))
item_by n at s true p f = gets_err (Bytes at n) f
item_by n at s false p f = gets_ok (Bytes at n) _ (record { at_is = refl; long = length-take-le n s (ltb-false (length s) n p) })

item_gets : (n at : ℕ) (s : List ℕ) → Gets (Bytes at n) (item n at s)
item_gets n at s = item_by n at s (nat_lt (length s) n) refl _

abbrev Behind : {A : Type 0} → ℕ → A → ℕ → Type 0
Behind n a behind = behind ≡ n

index_gets : (at : ℕ) (s : List ℕ) → Gets (Behind (at + 2)) (number_read at s)
index_gets at s = gets_then (Bytes at 2) (Behind (at + 2)) (item 2 at s) _ (item_gets 2 at s) (λ b at' s' h. gets_ok (Behind (at + 2)) _ h.at_is)

-- the place behind an entry whose body begins at a place
abbrev BehindBody : ℕ → Entry → ℕ → Type 0
BehindBody at e behind = behind ≡ at + length (print_body e)

bytes_get : (n : ℕ) (make : List ℕ → Entry) (at : ℕ) (s : List ℕ) → ((b : List ℕ) → length (print_body (make b)) ≡ length b) → Gets (BehindBody at) (with_bytes n make at s)
bytes_get n make at s h = gets_then (Bytes at n) (BehindBody at) (item n at s) _ (item_gets n at s) (λ b at' s' k. gets_ok (BehindBody at) _ (omega (arith, h b, k.at_is, k.long)))

index_get : (start : ℕ) (make : ℕ → Entry) (at : ℕ) (s : List ℕ) → ((i : ℕ) → at + 2 ≡ start + length (print_body (make i))) → Gets (BehindBody start) (with_index make at s)
index_get start make at s h = gets_then (Behind (at + 2)) (BehindBody start) (number_read at s) _ (index_gets at s) (λ i at' s' k. gets_ok (BehindBody start) _ (k ∙ h i))

two_get : (make : ℕ → ℕ → Entry) (at : ℕ) (s : List ℕ) → ((i j : ℕ) → length (print_body (make i j)) ≡ 4) → Gets (BehindBody at) (with_two make at s)
two_get make at s h = gets_then (Behind (at + 2)) (BehindBody at) (number_read at s) _ (index_gets at s) (λ i at' s' k. index_get at (make i) at' s' (λ j. omega (arith, h i j, k)))

text_by : (o : Option ℕ) (t : List ℕ) (start at : ℕ) (s : List ℕ) → Gets (λ (u : List ℕ) (p : ℕ). (p ≡ at) × (u ≡ t)) (well_formed_text o t start at s)
text_by None t start at s = gets_ok _ _ (refl, refl)
text_by (Some k) t start at s = gets_err _ _

text_get : (at : ℕ) (s : List ℕ) → Gets (λ (t : List ℕ) (p : ℕ). p ≡ at + 2 + length t) (text_read at s)
text_get at s =
    gets_then (Behind (at + 2)) (λ (t : List ℕ) (p : ℕ). p ≡ at + 2 + length t) (number_read at s) _ (index_gets at s)
    (λ n at' s' k. gets_then (Bytes at' n) (λ (t : List ℕ) (p : ℕ). p ≡ at + 2 + length t) (item n at' s') _ (item_gets n at' s')
    (λ t at'' s'' j. record { runs = λ g e. let r = (text_by (bad_form t) t at' at'' s'').runs g e in omega (arith, r.0, ap length r.1, j.at_is, j.long, k) }))

kind_by : (x : Bool) (kind : ℕ) (f : Malformed) (at : ℕ) (s : List ℕ) → Gets (Behind at) (cond {A = Reader ℕ} x (λ at s. Err f) (done kind) at s)
kind_by true kind f at s = gets_err _ _
kind_by false kind f at s = gets_ok _ _ refl

kind_get : (at : ℕ) (s : List ℕ) → Gets (Behind (at + 1)) (kind_read at s)
kind_get at s =
    gets_then (Bytes at 1) (Behind (at + 1)) (item 1 at s) _ (item_gets 1 at s)
    (λ kind at' s' k. record { runs = λ g e. (kind_by (nat_eq (from_be_bytes w8 kind) 0 || nat_lt 9 (from_be_bytes w8 kind)) (from_be_bytes w8 kind) _ at' s').runs g e ∙ k.at_is })

body_gets : (tag : Tag) (at : ℕ) (s : List ℕ) → Gets (BehindBody at) (body tag at s)
unfolding body
body_gets tags.Utf8 at s = gets_then (λ (t : List ℕ) (p : ℕ). p ≡ at + 2 + length t) (BehindBody at) (text_read at s) _ (text_get at s) (λ t at' s' k. gets_ok (BehindBody at) _ (omega (arith, k, length-append (two (length t)) t)))
body_gets tags.Integer at s = bytes_get 4 integer at s (λ b. refl)
body_gets tags.Float at s = bytes_get 4 float at s (λ b. refl)
body_gets tags.Long at s = bytes_get 8 long at s (λ b. refl)
body_gets tags.Double at s = bytes_get 8 double at s (λ b. refl)
body_gets tags.Class at s = index_get at class at s (λ i. refl)
body_gets tags.String at s = index_get at string at s (λ i. refl)
body_gets tags.Fieldref at s = two_get fieldref at s (λ i j. refl)
body_gets tags.Methodref at s = two_get methodref at s (λ i j. refl)
body_gets tags.InterfaceMethodref at s = two_get interface_methodref at s (λ i j. refl)
body_gets tags.NameAndType at s = two_get name_and_type at s (λ i j. refl)
body_gets tags.MethodHandle at s = gets_then (Behind (at + 1)) (BehindBody at) (kind_read at s) _ (kind_get at s) (λ kind at' s' k. index_get at (method_handle kind) at' s' (λ i. omega (arith, k)))
body_gets tags.MethodType at s = index_get at method_type at s (λ i. refl)
body_gets tags.Dynamic at s = two_get dynamic at s (λ i j. refl)
body_gets tags.InvokeDynamic at s = two_get invoke_dynamic at s (λ i j. refl)
body_gets tags.Module at s = index_get at module_named at s (λ i. refl)
body_gets tags.Package at s = index_get at package_named at s (λ i. refl)

abbrev BehindEntry : ℕ → Entry → ℕ → Type 0
BehindEntry at e behind = behind ≡ at + length (print_entry e)

room_by : (x : Bool) (tag : Tag) (f : Malformed) (start at : ℕ) (s : List ℕ) → at ≡ start + 1 → Gets (BehindEntry start) (cond x (body tag at s) (Err f))
room_by true tag f start at s k = record { runs = λ g e. omega (arith, (body_gets tag at s).runs g e, k) }
room_by false tag f start at s k = gets_err _ _

tagged_by : (o : Option Tag) (n place start at : ℕ) (s : List ℕ) → at ≡ start + 1 → Gets (BehindEntry start) (entry_tagged o n place at s)
tagged_by None n place start at s k = gets_err _ _
tagged_by (Some tag) n place start at s k = room_by (has_room tag n) tag _ start at s k

pub entry_gets : (n at : ℕ) (s : List ℕ) → Gets (BehindEntry at) (entry_read n at s)
unfolding entry_read
entry_gets n at s = gets_then (Bytes at 1) (BehindEntry at) (item 1 at s) _ (item_gets 1 at s) (λ tag at' s' k. tagged_by (tag_numbered (from_be_bytes w8 tag)) n at at at' s' k.at_is)

abbrev pub BehindSlots : ℕ → Pool → ℕ → Type 0
BehindSlots at pool behind = behind ≡ at + length (print_slots pool)

more_gets : (start at : ℕ) (slot : Option Entry) (r : Result (Got Pool) Malformed) → at + 0 ≡ start + length (print_slots (slot ∷ [])) → Gets (BehindSlots at) r → Gets (BehindSlots start) (more slot r)
more_gets start at None (Ok g) p h = gets_ok _ _ (omega (arith, h.runs g refl, p))
more_gets start at (Some e) (Ok g) p h = gets_ok _ _ (omega (arith, h.runs g refl, p, length-append (print_entry e) (print_slots g.value), length-append (print_entry e) []))
more_gets start at slot (Err f) p h = gets_err _ _

on_gets : (at : ℕ) (r : Result (Got Entry) Malformed) (rest : Entry → Reader Pool) → Gets (BehindEntry at) r → ((e : Entry) (at : ℕ) (s : List ℕ) → Gets (BehindSlots at) (rest e at s)) → Gets (BehindSlots at) (goes_on r rest)
on_gets at (Ok e) rest h k = more_gets at e.at (Some e.value) (rest e.value e.at e.left) (omega (arith, h.runs e refl, length-append (print_entry e.value) [])) (k e.value e.at e.left)
on_gets at (Err f) rest h k = gets_err _ _

-- the place behind slots that were read
pub slots_get : (n : ℕ) (second : Bool) (at : ℕ) (s : List ℕ) → Gets (BehindSlots at) (read_slots n second at s)
unfolding read_slots
slots_get zero second at s = gets_ok _ _ (omega arith)
slots_get (suc n) true at s = more_gets at at None (read_slots n false at s) refl (slots_get n false at s)
slots_get (suc n) false at s = on_gets at (entry_read n at s) _ (entry_gets n at s) (λ e at' s'. slots_get n (is_wide (tag_of e)) at' s')

-- the size of the slots that were read
pub slots_size : (n : ℕ) (second : Bool) (at : ℕ) (s : List ℕ) (pool : Pool) (at' : ℕ) (s' : List ℕ) → read_slots n second at s ≡ Ok (got pool at' s') → at + length (print_slots pool) ≡ at'
slots_size n second at s pool at' s' h = sym ((slots_get n second at s).runs (got pool at' s') h)
