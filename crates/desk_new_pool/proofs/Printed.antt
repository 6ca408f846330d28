-- A new pool's bytes, entry by entry.
use Rattle.std.proofs.Common.{◌≡◌, ℕ, zero, suc, ◌+◌, ◌<◌, ◌≤◌, ◌^◌, true, false, List, [], ◌∷◌, ◌++◌, length, get_or, take, drop, Option, Some, None, option_map, refl, ap, sym, ◌∙◌, subst, arith}
use denote.Ref.{Bor}
use Rattle.std.specs.Option.{is_some, option_copied}
use Rattle.std.proofs.lemmas.List.{drop_more, take_at, drop_at, append_assoc, length-append}
use Rattle.desk_base.specs.declared.kinds.Tag.{Tag}
use Rattle.desk_base.specs.Names.{Text}
use Rattle.desk_base.specs.Entries.{Entry, utf8, integer, float, long, double, class, string, fieldref, methodref, interface_methodref, name_and_type, method_handle, method_type, dynamic, invoke_dynamic, module_named, package_named, tag_of, Pool, entry_at, tag_at, utf8_in, text_at, text_in}
use Rattle.desk_format.specs.PoolBytes.{two, print_entry, print_slots}
use Rattle.desk_laws.specs.Sound.{IsSound, IsShaped}
use Rattle.desk_laws.proofs.Bodies.{sound_at}
use Rattle.desk_new_pool.specs.Printing.{named_texts, entry_size, put_entry, renewed, all_named, renewed_bytes, SameTexts}

-- ---- an entry by its tag

pub record Found (pool : Pool) (i : ℕ) (tag : Tag) : Type 0 where
  pub entry : Entry
  pub is : entry_at pool i ≡ Some entry
  pub tagged : tag_of entry ≡ tag

tagged_by : (pool : Pool) (i : ℕ) (o : Option Entry) (tag : Tag) → entry_at pool i ≡ o → option_map tag_of o ≡ Some tag → Found pool i tag
tagged_by pool i None tag e h = absurd cc
tagged_by pool i (Some e) tag is h = record { entry = e; is = is; tagged = cc }

pub found : (pool : Pool) (i : ℕ) (tag : Tag) → Some tag ≡ tag_at pool i → Found pool i tag
found pool i tag h = tagged_by pool i (entry_at pool i) tag refl (sym h)

untagged : (o : Option Entry) → option_map tag_of o ≡ None → o ≡ None
untagged None h = refl
untagged (Some e) h = absurd cc

pub no_entry : (pool : Pool) (i : ℕ) → tag_at pool i ≡ None → entry_at pool i ≡ None
no_entry pool i h = untagged (entry_at pool i) h

slot_at : (pool : Pool) (i : ℕ) → get_or (None ∷ pool) i None ≡ entry_at pool i
slot_at pool zero = refl
slot_at pool (suc i) = refl

pub rest_at : (pool : Pool) (i : ℕ) (o : Option Entry) → i < suc (length pool) → entry_at pool i ≡ o → drop i (None ∷ pool) ≡ o ∷ drop (i + 1) (None ∷ pool)
rest_at pool i o lt h = drop_more (None ∷ pool) i None lt ∙ ap (λ (x : Option Entry). x ∷ drop (i + 1) (None ∷ pool)) (slot_at pool i ∙ h)

-- ---- its bytes

size_of : (e : Entry) → IsSound e → entry_size (tag_of e) (length (text_in (Some e))) ≡ length (print_entry e)
size_of (utf8 t) h = omega arith
size_of (integer b) h = omega arith
size_of (float b) h = omega arith
size_of (long b) h = omega arith
size_of (double b) h = omega arith
size_of (class i) h = refl
size_of (string i) h = refl
size_of (fieldref c n) h = refl
size_of (methodref c n) h = refl
size_of (interface_methodref c n) h = refl
size_of (name_and_type n d) h = refl
size_of (method_handle k i) h = refl
size_of (method_type i) h = refl
size_of (dynamic n i) h = refl
size_of (invoke_dynamic n i) h = refl
size_of (module_named i) h = refl
size_of (package_named i) h = refl

pub size_at : (pool : Pool) (i : ℕ) (tag : Tag) (own : Text) (f : Found pool i tag) → IsShaped false pool → text_at pool i ≡ own → entry_size tag (length own) ≡ length (print_entry f.entry)
size_at pool i tag own f shaped is =
    ap (λ (g : Tag). entry_size g (length own)) (sym f.tagged) ∙ ap (λ (t : Text). entry_size (tag_of f.entry) (length t)) (sym is ∙ ap text_in f.is) ∙ size_of f.entry (sound_at false pool i f.entry shaped f.is)

short_in : (o : Option Entry) → ((e : Entry) → o ≡ Some e → IsSound e) → length (text_in o) < 2 ^ 16
short_in None h = omega arith
short_in (Some (utf8 t)) h = (h (utf8 t) refl).0
short_in (Some _) h = omega arith

pub short_at : (pool : Pool) (i : ℕ) → IsShaped false pool → length (text_at pool i) < 2 ^ 16
short_at pool i shaped = short_in (entry_at pool i) (λ e h. sound_at false pool i e shaped h)

pub left_at : (pool : Pool) (i : ℕ) (e : Entry) (left more : List ℕ) → i < suc (length pool) → entry_at pool i ≡ Some e → left ≡ print_slots (drop i (None ∷ pool)) ++ more → left ≡ print_entry e ++ (print_slots (drop (i + 1) (None ∷ pool)) ++ more)
left_at pool i e left more lt is h = h ∙ ap (λ (l : Pool). print_slots l ++ more) (rest_at pool i (Some e) lt is) ∙ append_assoc (print_entry e) (print_slots (drop (i + 1) (None ∷ pool))) more

pub left_past : (pool : Pool) (i : ℕ) (left more : List ℕ) → i < suc (length pool) → entry_at pool i ≡ None → left ≡ print_slots (drop i (None ∷ pool)) ++ more → left ≡ print_slots (drop (i + 1) (None ∷ pool)) ++ more
left_past pool i left more lt is h = h ∙ ap (λ (l : Pool). print_slots l ++ more) (rest_at pool i None lt is)

-- an entry cut from the bytes that are left
pub record Cut (pool : Pool) (i : ℕ) (tag : Tag) (f : Found pool i tag) (left more : List ℕ) (n : ℕ) : Type 0 where
  pub within : n ≤ length left
  pub front : take n left ≡ print_entry f.entry
  pub back : drop n left ≡ print_slots (drop (i + 1) (None ∷ pool)) ++ more

pub cut : (pool : Pool) (i : ℕ) (tag : Tag) (f : Found pool i tag) (left more own : List ℕ) (n : ℕ) → i < suc (length pool) → IsShaped false pool → text_at pool i ≡ own → left ≡ print_slots (drop i (None ∷ pool)) ++ more
    → n ≡ entry_size tag (length own) → Cut pool i tag f left more n
cut pool i tag f left more own n lt shaped is bytes size =
    let here : left ≡ print_entry f.entry ++ (print_slots (drop (i + 1) (None ∷ pool)) ++ more) = left_at pool i f.entry left more lt f.is bytes in
    let same : length (print_entry f.entry) ≡ n = sym (size ∙ size_at pool i tag own f shaped is) in
    let total : length left ≡ length (print_entry f.entry) + length (print_slots (drop (i + 1) (None ∷ pool)) ++ more) = ap length here ∙ length-append (print_entry f.entry) (print_slots (drop (i + 1) (None ∷ pool)) ++ more) in
    record {
      within = omega arith;
      front = ap (take n) here ∙ take_at (print_entry f.entry) (print_slots (drop (i + 1) (None ∷ pool)) ++ more) n same;
      back = ap (drop n) here ∙ drop_at (print_entry f.entry) (print_slots (drop (i + 1) (None ∷ pool)) ++ more) n same;
    }

-- ---- its new bytes

others : (e : Entry) (o : Option Text) → is_some o ≡ is_some (utf8_in (Some e)) → utf8_in (Some e) ≡ None → o ≡ None
others e None h none = refl
others e (Some t) h none = absurd (let x : is_some (utf8_in (Some e)) ≡ false = ap is_some none in cc)

renewed_one : (k n : ℕ) (bytes : List ℕ) (ns : List ℕ) → 1 ≤ length ns → k ∷ two (get_or ns 0 n) ≡ renewed_bytes (k ∷ bytes) None (take 1 ns)
renewed_one k n bytes [] h = absurd (omega arith)
renewed_one k n bytes (m ∷ ns) h = refl

renewed_two : (k n d : ℕ) (bytes : List ℕ) (ns : List ℕ) → 2 ≤ length ns → k ∷ (two (get_or ns 0 n) ++ two (get_or ns 1 d)) ≡ renewed_bytes (k ∷ bytes) None (take 2 ns)
renewed_two k n d bytes [] h = absurd (omega arith)
renewed_two k n d bytes (m ∷ []) h = absurd (omega arith)
renewed_two k n d bytes (m ∷ (p ∷ ns)) h = refl

new_text : (own : Text) (o : Option Text) (ns : List ℕ) → is_some o ≡ true → print_entry (put_entry o ns (utf8 own)) ≡ renewed_bytes (print_entry (utf8 own)) o (take 0 ns)
new_text own None ns h = absurd cc
new_text own (Some t) ns h = refl

with_none : (e : Entry) (o : Option Text) (ns : List ℕ) → o ≡ None → print_entry (put_entry None ns e) ≡ renewed_bytes (print_entry e) None (take (named_texts (tag_of e)) ns) → print_entry (put_entry o ns e) ≡ renewed_bytes (print_entry e) o (take (named_texts (tag_of e)) ns)
with_none e o ns is h = rw is h

new_entry : (e : Entry) (o : Option Text) (ns : List ℕ) → is_some o ≡ is_some (utf8_in (Some e)) → named_texts (tag_of e) ≤ length ns → print_entry (put_entry o ns e) ≡ renewed_bytes (print_entry e) o (take (named_texts (tag_of e)) ns)
new_entry (utf8 own) o ns h le = new_text own o ns h
new_entry (integer b) o ns h le = with_none (integer b) o ns (others (integer b) o h refl) refl
new_entry (float b) o ns h le = with_none (float b) o ns (others (float b) o h refl) refl
new_entry (long b) o ns h le = with_none (long b) o ns (others (long b) o h refl) refl
new_entry (double b) o ns h le = with_none (double b) o ns (others (double b) o h refl) refl
new_entry (class i) o ns h le = with_none (class i) o ns (others (class i) o h refl) (renewed_one 7 i (two i) ns le)
new_entry (string i) o ns h le = with_none (string i) o ns (others (string i) o h refl) (renewed_one 8 i (two i) ns le)
new_entry (fieldref c n) o ns h le = with_none (fieldref c n) o ns (others (fieldref c n) o h refl) refl
new_entry (methodref c n) o ns h le = with_none (methodref c n) o ns (others (methodref c n) o h refl) refl
new_entry (interface_methodref c n) o ns h le = with_none (interface_methodref c n) o ns (others (interface_methodref c n) o h refl) refl
new_entry (name_and_type n d) o ns h le = with_none (name_and_type n d) o ns (others (name_and_type n d) o h refl) (renewed_two 12 n d (two n ++ two d) ns le)
new_entry (method_handle k i) o ns h le = with_none (method_handle k i) o ns (others (method_handle k i) o h refl) refl
new_entry (method_type i) o ns h le = with_none (method_type i) o ns (others (method_type i) o h refl) (renewed_one 16 i (two i) ns le)
new_entry (dynamic n i) o ns h le = with_none (dynamic n i) o ns (others (dynamic n i) o h refl) refl
new_entry (invoke_dynamic n i) o ns h le = with_none (invoke_dynamic n i) o ns (others (invoke_dynamic n i) o h refl) refl
new_entry (module_named i) o ns h le = with_none (module_named i) o ns (others (module_named i) o h refl) (renewed_one 19 i (two i) ns le)
new_entry (package_named i) o ns h le = with_none (package_named i) o ns (others (package_named i) o h refl) (renewed_one 20 i (two i) ns le)

-- ---- one entry written

renewed_at : (texts : List (Option (Bor Text))) (later : List ℕ) (pool : Pool) (i : ℕ) (e : Entry) → i < length texts → i < suc (length pool) → entry_at pool i ≡ Some e
    → renewed (drop i texts) later (drop i (None ∷ pool)) ≡ Some (put_entry (option_copied (get_or texts i None)) later e) ∷ renewed (drop (i + 1) texts) (drop (named_texts (tag_of e)) later) (drop (i + 1) (None ∷ pool))
renewed_at texts later pool i e lt small is =
    ap (λ (l : List (Option (Bor Text))). renewed l later (drop i (None ∷ pool))) (drop_more texts i None lt)
    ∙ ap (λ (l : Pool). renewed (get_or texts i None ∷ drop (i + 1) texts) later l) (rest_at pool i (Some e) small is)

renewed_past : (texts : List (Option (Bor Text))) (later : List ℕ) (pool : Pool) (i : ℕ) → i < length texts → i < suc (length pool) → entry_at pool i ≡ None
    → renewed (drop i texts) later (drop i (None ∷ pool)) ≡ None ∷ renewed (drop (i + 1) texts) later (drop (i + 1) (None ∷ pool))
renewed_past texts later pool i lt small is =
    ap (λ (l : List (Option (Bor Text))). renewed l later (drop i (None ∷ pool))) (drop_more texts i None lt)
    ∙ ap (λ (l : Pool). renewed (get_or texts i None ∷ drop (i + 1) texts) later l) (rest_at pool i None small is)

pub written_some : (texts : List (Option (Bor Text))) (later : List ℕ) (pool : Pool) (i : ℕ) (tag : Tag) (f : Found pool i tag) (entry : List ℕ) (out new whole : List ℕ) → i < length texts → length texts ≡ suc (length pool)
    → SameTexts pool texts → named_texts tag ≤ length later → entry ≡ print_entry f.entry → new ≡ out ++ renewed_bytes entry (option_copied (get_or texts i None)) (take (named_texts tag) later)
    → out ++ print_slots (renewed (drop i texts) later (drop i (None ∷ pool))) ≡ whole
    → new ++ print_slots (renewed (drop (i + 1) texts) (drop (named_texts tag) later) (drop (i + 1) (None ∷ pool))) ≡ whole
written_some texts later pool i tag f entry out new whole lt count same le bytes is h =
    let e : Entry = f.entry in
    let rest : List ℕ = print_slots (renewed (drop (i + 1) texts) (drop (named_texts tag) later) (drop (i + 1) (None ∷ pool))) in
    let text : is_some (option_copied (get_or texts i None)) ≡ is_some (utf8_in (Some e)) = copied (get_or texts i None) ∙ same i (omega arith) ∙ ap (λ (o : Option Entry). is_some (utf8_in o)) f.is in
    let room : named_texts (tag_of e) ≤ length later = subst (λ (g : Tag). named_texts g ≤ length later) (sym f.tagged) le in
    ap (λ (l : List ℕ). l ++ rest) (is ∙ ap (λ (b : List ℕ). out ++ renewed_bytes b (option_copied (get_or texts i None)) (take (named_texts tag) later)) bytes
    ∙ ap (λ (g : Tag). out ++ renewed_bytes (print_entry e) (option_copied (get_or texts i None)) (take (named_texts g) later)) (sym f.tagged)
    ∙ ap (λ (b : List ℕ). out ++ b) (sym (new_entry e (option_copied (get_or texts i None)) later text room)))
    ∙ append_assoc out (print_entry (put_entry (option_copied (get_or texts i None)) later e)) rest
    ∙ ap (λ (g : Tag). out ++ (print_entry (put_entry (option_copied (get_or texts i None)) later e) ++ print_slots (renewed (drop (i + 1) texts) (drop (named_texts g) later) (drop (i + 1) (None ∷ pool))))) (sym f.tagged)
    ∙ ap (λ (l : Pool). out ++ print_slots l) (sym (renewed_at texts later pool i e lt (omega arith) f.is)) ∙ h where
      copied : (o : Option (Bor Text)) → is_some (option_copied o) ≡ is_some o
      copied None = refl
      copied (Some t) = refl

pub written_none : (texts : List (Option (Bor Text))) (later : List ℕ) (pool : Pool) (i : ℕ) (out whole : List ℕ) → i < length texts → length texts ≡ suc (length pool) → entry_at pool i ≡ None
    → out ++ print_slots (renewed (drop i texts) later (drop i (None ∷ pool))) ≡ whole → out ++ print_slots (renewed (drop (i + 1) texts) later (drop (i + 1) (None ∷ pool))) ≡ whole
written_none texts later pool i out whole lt count is h = ap (λ (l : Pool). out ++ print_slots l) (sym (renewed_past texts later pool i lt (omega arith) is)) ∙ h

pub enough_some : (pool : Pool) (i n : ℕ) (tag : Tag) (f : Found pool i tag) → i < suc (length pool) → all_named (drop i (None ∷ pool)) ≤ n → named_texts tag + all_named (drop (i + 1) (None ∷ pool)) ≤ n
enough_some pool i n tag f lt h = subst (λ (g : Tag). named_texts g + all_named (drop (i + 1) (None ∷ pool)) ≤ n) f.tagged (subst (λ (l : Pool). all_named l ≤ n) (rest_at pool i (Some f.entry) lt f.is) h)

pub enough_none : (pool : Pool) (i n : ℕ) → i < suc (length pool) → entry_at pool i ≡ None → all_named (drop i (None ∷ pool)) ≤ n → all_named (drop (i + 1) (None ∷ pool)) ≤ n
enough_none pool i n lt is h = subst (λ (l : Pool). all_named l ≤ n) (rest_at pool i None lt is) h
