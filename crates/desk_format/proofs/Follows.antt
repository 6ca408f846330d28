-- A layout read over a body with exchanged index numbers gives the same tree but for these numbers.
use Rattle.std.proofs.Common.{◌≡◌, ℕ, zero, suc, ◌+◌, ◌<◌, ◌≤◌, ◌^◌, List, [], ◌++◌, length, take, Option, None, Ok, refl, sym, ap, subst, ap₂, ◌∙◌, append_assoc, append-nil, arith, length-append, length-take-le, length-drop}
use Rattle.std.specs.Int.{Width, w8, w16, w32, byte_len, from_be_bytes}
use Rattle.std.proofs.lemmas.Nat.{from_be_bytes-to_be_bytes_2}
use Rattle.desk_base.specs.declared.kinds.UseKind.{UseKind}
use Rattle.desk_base.specs.declared.kinds.UseKind.TheVariants as kinds
use Rattle.desk_base.specs.declared.faults.FaultKind.{FaultKind}
use Rattle.desk_base.specs.Entries.{Pool}
use Rattle.desk_base.specs.Misfits.{misfit}
use Rattle.desk_format.specs.Trees.{Tree, Use, Each, print}
use Rattle.desk_format.specs.Layouts.{Layout, Check, any}
use Rattle.desk_format.specs.Reading.{member_at, Got, Reader, item, number_at, raw_at, code_at, index_at, nothing_at, and_then, times, value_of, name_of, fenced, attribute_at, read}
use Rattle.desk_format.specs.Exchange.{Change, new_index, moved, exchange, Suits}
use Rattle.desk_format.proofs.Steps.{member_ok, got_of, ok_is, then_ok, item_ok, item_is, fenced_ok, fenced_is}

-- exchanging keeps the number of bytes
pub length-print : (g : Change) (t : Tree Use) → length (print (exchange g t)) ≡ length (print t)
length-print g Tree.nothing = refl
length-print g (Tree.number bytes) = refl
length-print g (Tree.raw bytes) = refl
length-print g (Tree.code bytes) = refl
length-print g (Tree.used u) = refl
length-print g (Tree.member a) = length-print g a
length-print g (Tree.both a b) = omega (arith, length-append (print (exchange g a)) (print (exchange g b)), length-append (print a) (print b), length-print g a, length-print g b)

-- What was read is read again, where it has moved to, from the bytes of the exchanged tree, whatever follows them.
pub record Again (g : Change) (reader' : Reader) (at : ℕ) (s : List ℕ) (got : Got) : Type 0 where
  pub size : length s ≡ length (print got.tree) + length got.left
  pub past : at ≤ got.at
  pub again : (more : List ℕ) → reader' (moved g at) (print (exchange g got.tree) ++ more) ≡ Ok (got_of (exchange g got.tree) (moved g got.at) more)

-- The second reader follows the first.
pub record Follows (old new : Pool) (g : Change) (reader reader' : Reader) : Type 0 where
  pub runs : (at : ℕ) (s : List ℕ) (got : Got) → reader at s ≡ Ok got → g.from ≤ at → Each (Suits old new g) got.tree → Again g reader' at s got

-- a leaf of n bytes, read again with its new index
pub record LeafFollows (old new : Pool) (g : Change) (n : ℕ) (check check' : List ℕ → Option FaultKind) (leaf leaf' : ℕ → List ℕ → Tree Use) : Type 0 where
  pub size : (at : ℕ) (bytes : List ℕ) → length bytes ≡ n → length (print (leaf at bytes)) ≡ n
  pub fits : (at : ℕ) (bytes : List ℕ) → check bytes ≡ None → Each (Suits old new g) (leaf at bytes) → check' (print (exchange g (leaf at bytes))) ≡ None
  pub same : (at : ℕ) (bytes : List ℕ) → Each (Suits old new g) (leaf at bytes) → leaf' (moved g at) (print (exchange g (leaf at bytes))) ≡ exchange g (leaf at bytes)

module _ (old new : Pool) (g : Change) where
  pub follows_item : (n : ℕ) (check check' : List ℕ → Option FaultKind) (leaf leaf' : ℕ → List ℕ → Tree Use) → LeafFollows old new g n check check' leaf leaf' → Follows old new g (item n check leaf) (item n check' leaf')
  follows_item n check check' leaf leaf' h = record {
    runs = λ at s got e low each.
        let p = item_ok n check leaf at s got e in
        let len : length (take n s) ≡ n = length-take-le n s p.room in
        let t : Tree Use = leaf at (take n s) in
        let one : length (print t) ≡ n = h.size at (take n s) len in
        let size : length (print (exchange g t)) ≡ n = length-print g t ∙ one in
        subst (λ (x : Got). Each (Suits old new g) x.tree → Again g (item n check' leaf') at s x) p.is
        (λ here. record {
          size = omega (arith, one, length-drop n s, p.room);
          past = omega arith;
          again = λ more. item_is n check' leaf' (moved g at) (print (exchange g t)) more size (h.fits at (take n s) p.checked here) ∙ ap₂ (λ (t' : Tree Use) (place : ℕ). Ok (got_of t' place more)) (h.same at (take n s) here) (omega arith);
        }) each;
  }

  pub follows_then : (first first' : Reader) (second second' : Tree Use → Reader) → Follows old new g first first'
      → ((t : Tree Use) → Each (Suits old new g) t → Follows old new g (second t) (second' (exchange g t)))
      → Follows old new g (and_then first second) (and_then first' second')
  unfolding and_then
  follows_then first first' second second' p q = record {
    runs = λ at s got e low each.
        let o = then_ok first second at s got e in
        subst (λ (x : Got). Each (Suits old new g) x.tree → Again g (and_then first' second') at s x) o.is
        (λ here.
        let one : Again g first' at s o.a = p.runs at s o.a o.first_ok low here.0 in
        let two : Again g (second' (exchange g o.a.tree)) o.a.at o.a.left o.b = (q o.a.tree here.0).runs o.a.at o.a.left o.b o.second_ok (omega (arith, one.past)) here.1 in
        record {
          size = omega (arith, one.size, two.size, length-append (print o.a.tree) (print o.b.tree));
          past = omega (arith, one.past, two.past);
          again = λ more. rw (append_assoc, one.again (print (exchange g o.b.tree) ++ more), two.again more) refl;
        }) each;
  }

  pub follows_nothing : Follows old new g nothing_at nothing_at
  unfolding nothing_at
  follows_nothing = record {
    runs = λ at s got e low each.
        subst (λ (x : Got). Again g nothing_at at s x) (ok_is _ _ e) (record { size = sym (omega arith); past = omega arith; again = λ more. refl });
  }

  pub follows_member : (reader reader' : Reader) → Follows old new g reader reader' → Follows old new g (member_at reader) (member_at reader')
  unfolding member_at
  follows_member reader reader' p = record {
    runs = λ at s got e low each.
        let o = member_ok reader at s got e in
        subst (λ (x : Got). Each (Suits old new g) x.tree → Again g (member_at reader') at s x) o.is
        (λ here. let one : Again g reader' at s o.a = p.runs at s o.a o.first_ok low here in record { size = one.size; past = one.past; again = λ more. rw (one.again more) refl }) each;
  }

  pub follows_times : (n : ℕ) (reader reader' : Reader) → Follows old new g reader reader' → Follows old new g (times n reader) (times n reader')
  unfolding times
  follows_times zero reader reader' p = follows_nothing
  follows_times (suc n) reader reader' p = follows_then reader reader' _ _ p (λ t each. follows_times n reader reader' p)

  value_of-exchange : (w : Width) (t : Tree Use) → value_of w (exchange g t) ≡ value_of w t
  value_of-exchange w Tree.nothing = refl
  value_of-exchange w (Tree.number bytes) = refl
  value_of-exchange w (Tree.raw bytes) = refl
  value_of-exchange w (Tree.code bytes) = refl
  value_of-exchange w (Tree.used u) = refl
  value_of-exchange w (Tree.both a b) = refl
  value_of-exchange w (Tree.member a) = refl

  name_of-exchange : (t : Tree Use) → Each (Suits old new g) t → name_of new (exchange g t) ≡ name_of old t
  name_of-exchange Tree.nothing each = refl
  name_of-exchange (Tree.number bytes) each = refl
  name_of-exchange (Tree.raw bytes) each = refl
  name_of-exchange (Tree.code bytes) each = refl
  name_of-exchange (Tree.used u) each = each.name
  name_of-exchange (Tree.both a b) each = refl
  name_of-exchange (Tree.member a) each = refl

  -- a reader that goes by the number before it
  pub follows_count : (w : Width) (first first' : Reader) (second second' : ℕ → Reader) → Follows old new g first first' → ((n : ℕ) → Follows old new g (second n) (second' n))
      → Follows old new g (and_then first (λ t. second (value_of w t))) (and_then first' (λ t. second' (value_of w t)))
  follows_count w first first' second second' p q = follows_then first first' _ _ p (λ t each. rw (value_of-exchange w t) (q (value_of w t)))

  pub follows_number : (w : Width) (check : Check) → Follows old new g (number_at w check) (number_at w check)
  unfolding number_at
  follows_number w check =
      let fits : List ℕ → Option FaultKind = λ bytes. check (from_be_bytes w bytes) in
      let leaf : ℕ → List ℕ → Tree Use = λ at bytes. Tree.number bytes in
      follows_item (byte_len w) fits fits leaf leaf (record { size = λ at bytes len. len; fits = λ at bytes ok each. ok; same = λ at bytes each. refl })

  pub follows_raw : (n : ℕ) → Follows old new g (raw_at n) (raw_at n)
  unfolding raw_at
  follows_raw n =
      let leaf : ℕ → List ℕ → Tree Use = λ at bytes. Tree.raw bytes in
      follows_item n (λ _. None) (λ _. None) leaf leaf (record { size = λ at bytes len. len; fits = λ at bytes ok each. refl; same = λ at bytes each. refl })

  pub follows_code : (n : ℕ) → Follows old new g (code_at n) (code_at n)
  follows_code n =
      let leaf : ℕ → List ℕ → Tree Use = λ at bytes. Tree.code bytes in
      follows_item n (λ _. None) (λ _. None) leaf leaf (record { size = λ at bytes len. len; fits = λ at bytes ok each. refl; same = λ at bytes each. refl })

  pub follows_use : (kind : UseKind) → Follows old new g (index_at old kind) (index_at new kind)
  unfolding index_at
  follows_use kind =
      let leaf : ℕ → List ℕ → Tree Use = λ at bytes. Tree.used (record { at = at; kind = kind; index = from_be_bytes w16 bytes }) in
      follows_item 2 (λ bytes. misfit old kind (from_be_bytes w16 bytes)) (λ bytes. misfit new kind (from_be_bytes w16 bytes)) leaf leaf (record {
        size = λ at bytes len. refl;
        fits = λ at bytes ok each. let small : new_index g.index (record { at = at; kind = kind; index = from_be_bytes w16 bytes }) < 2 ^ 16 = each.small in rw (from_be_bytes-to_be_bytes_2 _ small) each.fits;
        same = λ at bytes each. let small : new_index g.index (record { at = at; kind = kind; index = from_be_bytes w16 bytes }) < 2 ^ 16 = each.small in rw (from_be_bytes-to_be_bytes_2 _ small) refl;
      })

  -- a body that stops at its fence
  pub follows_fenced : (n : ℕ) (body body' : Reader) → Follows old new g body body' → Follows old new g (fenced n body) (fenced n body')
  unfolding fenced
  follows_fenced n body body' p = record {
    runs = λ at s got e low each.
        let o = fenced_ok n body at s got e in
        subst (λ (x : Got). Each (Suits old new g) x.tree → Again g (fenced n body') at s x) o.is
        (λ here.
        let one : Again g body' at (take n s) o.a = p.runs at (take n s) o.a o.body_ok low here in
        let len : length (take n s) ≡ n = length-take-le n s o.room in
        let empty : length o.a.left ≡ 0 = o.all in
        let size : length (print o.a.tree) ≡ n = omega (arith, one.size) in
        let size' : length (print (exchange g o.a.tree)) ≡ n = length-print g o.a.tree ∙ size in
        record {
          size = omega (arith, size, length-drop n s, o.room);
          past = omega arith;
          again = λ more. fenced_is n body' (moved g at) (print (exchange g o.a.tree)) more (got_of (exchange g o.a.tree) (moved g o.a.at) []) size'
              (rw (sym (append-nil (print (exchange g o.a.tree)))) (one.again [])) refl ∙ ap (λ (place : ℕ). Ok (got_of (exchange g o.a.tree) place more)) (omega arith);
        }) each;
  }

  pub follows_attribute : (body body' : ℕ → List ℕ → Reader) → ((n : ℕ) (name : List ℕ) → Follows old new g (body n name) (body' n name)) → Follows old new g (attribute_at old body) (attribute_at new body')
  unfolding attribute_at
  follows_attribute body body' p =
      follows_then (index_at old kinds.AttrName) (index_at new kinds.AttrName) _ _ (follows_use kinds.AttrName) (λ t each.
      rw (name_of-exchange t each)
      (follows_count w32 (number_at w32 any) (number_at w32 any) (λ n. fenced n (body n (name_of old t))) (λ n. fenced n (body' n (name_of old t))) (follows_number w32 any)
      (λ n. follows_fenced n (body n (name_of old t)) (body' n (name_of old t)) (p n (name_of old t)))))

  -- One induction, with a case for each kind of layout.
  pub follows : (l : Layout) → Follows old new g (read old l) (read new l)
  unfolding read
  follows (Layout.number w check) = follows_number w check
  follows (Layout.sized w check) = follows_count w (number_at w check) (number_at w check) code_at code_at (follows_number w check) follows_code
  follows (Layout.raw n) = follows_raw n
  follows (Layout.index kind) = follows_use kind
  follows Layout.nothing = follows_nothing
  follows (Layout.row a b) = follows_then (read old a) (read new a) (λ _. read old b) (λ _. read new b) (follows a) (λ t each. follows b)
  follows (Layout.table w l) = follows_count w (number_at w any) (number_at w any) (λ k. times k (read old l)) (λ k. times k (read new l)) (follows_number w any) (λ k. follows_times k (read old l) (read new l) (follows l))
  follows (Layout.tagged check branch) = follows_count w8 (number_at w8 check) (number_at w8 check) (λ tag. read old (branch tag)) (λ tag. read new (branch tag)) (follows_number w8 check) (λ tag. follows (branch tag))
  follows (Layout.attributes body) =
      let one : Reader = attribute_at old (λ n name. read old (body n name)) in
      let other : Reader = attribute_at new (λ n name. read new (body n name)) in
      follows_count w16 (number_at w16 any) (number_at w16 any) (λ k. times k one) (λ k. times k other) (follows_number w16 any)
      (λ k. follows_times k one other (follows_attribute (λ n name. read old (body n name)) (λ n name. read new (body n name)) (λ n name. follows (body n name))))
  follows (Layout.member l) = follows_member (read old l) (read new l) (follows l)
  follows (Layout.fault kind) = record { runs = λ at s got e low each. absurd cc }
