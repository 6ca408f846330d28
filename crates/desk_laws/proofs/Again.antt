-- Printed entries are read again.
use Rattle.std.proofs.Common.{◌≡◌, ℕ, suc, ◌+◌, ◌≤◌, Bool, true, false, not, List, [], ◌∷◌, ◌++◌, length, Some, None, Result, Ok, refl, ap, ◌∙◌, append_assoc, arith, length-append, nat_lt, nat_eq}
use Rattle.std.specs.Int.{w8, from_be_bytes}
use Rattle.std.proofs.lemmas.List.{take_at, drop_at}
use Rattle.std.proofs.lemmas.Bool.{le-ltb}
use Rattle.std.proofs.lemmas.Bool.Decides.{nat_tests}
use Rattle.std.proofs.lemmas.Nat.{from_be_bytes-to_be_bytes_2}
use Rattle.desk_base.specs.declared.kinds.Tag.{Tag}
use Rattle.desk_base.specs.declared.kinds.Tag.TheVariants as tags
use Rattle.desk_base.specs.declared.faults.Malformed.{Malformed}
use Rattle.desk_base.specs.Utf8.{bad_form}
use Rattle.desk_base.specs.Entries.{Entry, utf8, integer, float, long, double, class, string, fieldref, methodref, interface_methodref, name_and_type, method_handle, method_type, dynamic, invoke_dynamic, module_named, package_named, is_wide, tag_of, number_of}
use Rattle.desk_format.specs.PoolBytes.{two, print_body, print_entry}
use Rattle.desk_base.specs.Entries.{Pool}
use Rattle.desk_format.specs.PoolBytes.{print_slots, print_pool}
use Rattle.desk_format.specs.PoolReading.{Got, got, item, then_read, body, with_bytes, with_index, with_two, text_read, kind_read, done, tag_numbered, has_room, entry_read, read_slots, names_wrong, leads_wrong, read_pool}
use Rattle.desk_laws.specs.Sound.{IsTwoBytes, IsSound, IsShaped, Links, IsWellFormed}
use Rattle.desk_laws.proofs.Passes.{no_fault, each_map, Passes}

pub item_is : (n at : ℕ) (bytes behind : List ℕ) → length bytes ≡ n → item n at (bytes ++ behind) ≡ Ok (got bytes (at + n) behind)
item_is n at bytes behind len =
    rw (le-ltb (length (bytes ++ behind)) n (omega (arith, length-append bytes behind)), take_at bytes behind n len, drop_at bytes behind n len) refl

index_is : (make : ℕ → Entry) (at i : ℕ) (behind : List ℕ) → IsTwoBytes i → with_index make at (two i ++ behind) ≡ Ok (got (make i) (at + 2) behind)
index_is make at i behind small = rw (item_is 2 at (two i) behind refl, from_be_bytes-to_be_bytes_2 i small) refl

two_are : (make : ℕ → ℕ → Entry) (at i j : ℕ) (behind : List ℕ) → IsTwoBytes i → IsTwoBytes j → with_two make at ((two i ++ two j) ++ behind) ≡ Ok (got (make i j) (at + 4) behind)
two_are make at i j behind a b =
    rw (item_is 2 at (two i) (two j ++ behind) refl, from_be_bytes-to_be_bytes_2 i a, index_is (make i) (at + 2) j behind b)
    (ap (λ (p : ℕ). Ok (got (make i j) p behind)) (omega arith))

bytes_are : (n : ℕ) (make : List ℕ → Entry) (at : ℕ) (b behind : List ℕ) → length b ≡ n → with_bytes n make at (b ++ behind) ≡ Ok (got (make b) (at + length b) behind)
bytes_are n make at b behind len = rw (item_is n at b behind len, len) refl

abbrev text_body : ℕ → List ℕ → Result (Got Entry) Malformed
text_body at s = then_read (text_read at s) (λ t. done (utf8 t))

abbrev handle_body : ℕ → List ℕ → Result (Got Entry) Malformed
handle_body at s = then_read (kind_read at s) (λ kind. with_index (method_handle kind))

text_is : (at : ℕ) (t behind : List ℕ) → IsTwoBytes (length t) → bad_form t ≡ None → text_body at ((two (length t) ++ t) ++ behind) ≡ Ok (got (utf8 t) (at + length (two (length t) ++ t)) behind)
text_is at t behind small good =
    rw (item_is 2 at (two (length t)) (t ++ behind) refl, from_be_bytes-to_be_bytes_2 (length t) small, item_is (length t) (at + 2) t behind refl, good)
    (ap (λ (p : ℕ). Ok (got (utf8 t) p behind)) (omega (arith, length-append (two (length t)) t)))

byte_is : (k : ℕ) → from_be_bytes w8 (k ∷ []) ≡ k
byte_is k = omega arith

handle_is : (at k i : ℕ) (behind : List ℕ) → 1 ≤ k → k ≤ 9 → IsTwoBytes i → handle_body at ((k ∷ two i) ++ behind) ≡ Ok (got (method_handle k i) (at + 3) behind)
handle_is at k i behind low high small =
    let zero_not : nat_eq k 0 ≡ false = grind (arith, nat_tests) in
    let nine_not : nat_lt 9 k ≡ false = le-ltb 9 k high in
    rw (item_is 1 at (k ∷ []) (two i ++ behind) refl, byte_is k, zero_not, nine_not, index_is (method_handle k) (at + 1) i behind small)
    (ap (λ (p : ℕ). Ok (got (method_handle k i) p behind)) (omega arith))

body_again : (e : Entry) (at : ℕ) (behind : List ℕ) → IsSound e → body (tag_of e) at (print_body e ++ behind) ≡ Ok (got e (at + length (print_body e)) behind)
unfolding body
body_again (utf8 t) at behind h = text_is at t behind h.0 h.1
body_again (integer b) at behind h = bytes_are 4 integer at b behind h
body_again (float b) at behind h = bytes_are 4 float at b behind h
body_again (long b) at behind h = bytes_are 8 long at b behind h
body_again (double b) at behind h = bytes_are 8 double at b behind h
body_again (class i) at behind h = index_is class at i behind h
body_again (string i) at behind h = index_is string at i behind h
body_again (fieldref c n) at behind h = two_are fieldref at c n behind h.0 h.1
body_again (methodref c n) at behind h = two_are methodref at c n behind h.0 h.1
body_again (interface_methodref c n) at behind h = two_are interface_methodref at c n behind h.0 h.1
body_again (name_and_type n d) at behind h = two_are name_and_type at n d behind h.0 h.1
body_again (method_handle k i) at behind h = handle_is at k i behind h.0 h.1 h.2
body_again (method_type d) at behind h = index_is method_type at d behind h
body_again (dynamic n i) at behind h = two_are dynamic at n i behind h.0 h.1
body_again (invoke_dynamic n i) at behind h = two_are invoke_dynamic at n i behind h.0 h.1
body_again (module_named i) at behind h = index_is module_named at i behind h
body_again (package_named i) at behind h = index_is package_named at i behind h

tag_again : (tag : Tag) → tag_numbered (number_of tag) ≡ Some tag
unfolding tag_numbered
tag_again tags.Utf8 = refl
tag_again _ = refl

room_by : (wide : Bool) → IsShaped wide [] → not wide ≡ true
room_by false h = refl
room_by true h = absurd h

room : (tag : Tag) (slots : Pool) → IsShaped (is_wide tag) slots → has_room tag (length slots) ≡ true
room tag [] h = room_by (is_wide tag) h
room tag (slot ∷ slots) h = let later : nat_eq (suc (length slots)) 0 ≡ false = grind (arith, nat_tests) in rw later refl

entry_again : (e : Entry) (n at : ℕ) (behind : List ℕ) → IsSound e → has_room (tag_of e) n ≡ true → entry_read n at (print_entry e ++ behind) ≡ Ok (got e (at + length (print_entry e)) behind)
unfolding entry_read
entry_again e n at behind h r =
    rw (item_is 1 at (number_of (tag_of e) ∷ []) (print_body e ++ behind) refl, byte_is (number_of (tag_of e)), tag_again (tag_of e), r, body_again e (at + 1) behind h)
    (ap (λ (p : ℕ). Ok (got e p behind)) (omega arith))

slots_again : (second : Bool) (slots : Pool) (at : ℕ) (behind : List ℕ) → IsShaped second slots → read_slots (length slots) second at (print_slots slots ++ behind) ≡ Ok (got slots (at + length (print_slots slots)) behind)
unfolding read_slots
slots_again false [] at behind h = ap (λ (p : ℕ). Ok (got [] p behind)) (omega arith)
slots_again true [] at behind h = absurd h
slots_again false (None ∷ slots) at behind h = absurd h
slots_again true (Some e ∷ slots) at behind h = absurd h
slots_again true (None ∷ slots) at behind h = rw (slots_again false slots at behind h) refl
slots_again false (Some e ∷ slots) at behind h =
    let rest : List ℕ = print_slots slots ++ behind in
    ap (λ (s : List ℕ). read_slots (suc (length slots)) false at s) (append_assoc (print_entry e) (print_slots slots) behind)
    ∙ rw (entry_again e (length slots) at rest h.0 (room (tag_of e) slots h.1), slots_again (is_wide (tag_of e)) slots (at + length (print_entry e)) behind h.1)
    (ap (λ (p : ℕ). Ok (got (Some e ∷ slots) p behind)) (omega (arith, length-append (print_entry e) (print_slots slots))))

pub pool_again : (at : ℕ) (pool : Pool) (behind : List ℕ) → IsWellFormed pool → IsTwoBytes (suc (length pool)) → read_pool at (print_pool pool ++ behind) ≡ Ok (got pool (at + length (print_pool pool)) behind)
unfolding read_pool
pool_again at pool behind w small =
    rw (
      item_is 2 at (two (suc (length pool))) (print_slots pool ++ behind) refl,
      from_be_bytes-to_be_bytes_2 (suc (length pool)) small,
      slots_again false pool (at + 2) behind w.shaped,
      no_fault (names_wrong pool) (at + 2) pool (each_map (Links pool) (Passes (names_wrong pool)) pool (λ l k. k.names) w.linked),
      no_fault (leads_wrong pool) (at + 2) pool (each_map (Links pool) (Passes (leads_wrong pool)) pool (λ l k. k.leads) w.linked),
    )
    (ap (λ (p : ℕ). Ok (got pool p behind)) (omega (arith, length-append (two (suc (length pool))) (print_slots pool))))
