-- What is read is as long as what it prints.
use Rattle.std.proofs.Common.{◌≡◌, ℕ, zero, suc, ◌+◌, List, length, take, Option, None, Ok, refl, sym, ap, subst, arith, length-append, length-take-le, length-drop}
use Rattle.std.specs.Int.{Width, w8, w16, w32, byte_len, from_be_bytes}
use Rattle.desk_base.specs.declared.kinds.UseKind.{UseKind}
use Rattle.desk_base.specs.declared.kinds.UseKind.TheVariants as kinds
use Rattle.desk_base.specs.declared.faults.FaultKind.{FaultKind}
use Rattle.desk_base.specs.Entries.{Pool}
use Rattle.desk_base.specs.Misfits.{misfit}
use Rattle.desk_format.specs.Trees.{Tree, Use, print}
use Rattle.desk_format.specs.Layouts.{Layout, Check, any}
use Rattle.desk_format.specs.Reading.{member_at, Got, Reader, item, number_at, raw_at, index_at, nothing_at, and_then, times, value_of, name_of, fenced, attribute_at, read}
use Rattle.desk_format.proofs.Steps.{member_ok, ok_is, then_ok, item_ok, fenced_ok}
use Rattle.desk_compare.proofs.Beside.{Same}

pub length-same : (left right : Pool) (t : Tree Use) (bytes : List ℕ) → Same left right t bytes → length bytes ≡ length (print t)
length-same left right Tree.nothing bytes h = ap length h
length-same left right (Tree.number b) bytes h = ap length h
length-same left right (Tree.raw b) bytes h = ap length h
length-same left right (Tree.code b) bytes h = h.0
length-same left right (Tree.used u) bytes h = h.0
length-same left right (Tree.both a b) bytes h = omega (arith, ap length h.2, length-append h.0 h.1, length-append (print a) (print b), length-same left right a h.0 h.3, length-same left right b h.1 h.4)
length-same left right (Tree.member a) bytes h = length-same left right a bytes h

pub record Sized (reader : Reader) : Type 0 where
  pub runs : (at : ℕ) (s : List ℕ) (got : Got) → reader at s ≡ Ok got → length s ≡ length (print got.tree) + length got.left

sized_item : (n : ℕ) (check : List ℕ → Option FaultKind) (leaf : ℕ → List ℕ → Tree Use) → ((at : ℕ) (bytes : List ℕ) → length bytes ≡ n → length (print (leaf at bytes)) ≡ n) → Sized (item n check leaf)
sized_item n check leaf h = record {
  runs = λ at s got e.
      let p = item_ok n check leaf at s got e in
      let one : length (print (leaf at (take n s))) ≡ n = h at (take n s) (length-take-le n s p.room) in
      subst (λ (x : Got). length s ≡ length (print x.tree) + length x.left) p.is (omega (arith, one, length-drop n s, p.room));
}

sized_then : (first : Reader) (second : Tree Use → Reader) → Sized first → ((t : Tree Use) → Sized (second t)) → Sized (and_then first second)
sized_then first second p q = record {
  runs = λ at s got e.
      let o = then_ok first second at s got e in
      let one = p.runs at s o.a o.first_ok in
      let two = (q o.a.tree).runs o.a.at o.a.left o.b o.second_ok in
      subst (λ (x : Got). length s ≡ length (print x.tree) + length x.left) o.is (omega (arith, one, two, length-append (print o.a.tree) (print o.b.tree)));
}

sized_nothing : Sized nothing_at
unfolding nothing_at
sized_nothing = record { runs = λ at s got e. subst (λ (x : Got). length s ≡ length (print x.tree) + length x.left) (ok_is _ _ e) (sym (omega arith)) }

sized_times : (n : ℕ) (reader : Reader) → Sized reader → Sized (times n reader)
unfolding times
sized_times zero reader p = sized_nothing
sized_times (suc n) reader p = sized_then reader _ p (λ t. sized_times n reader p)

sized_number : (w : Width) (check : Check) → Sized (number_at w check)
unfolding number_at
sized_number w check = sized_item (byte_len w) (λ bytes. check (from_be_bytes w bytes)) (λ at bytes. Tree.number bytes) (λ at bytes len. len)

sized_raw : (n : ℕ) → Sized (raw_at n)
unfolding raw_at
sized_raw n = sized_item n (λ _. None) (λ at bytes. Tree.raw bytes) (λ at bytes len. len)

sized_index : (pool : Pool) (kind : UseKind) → Sized (index_at pool kind)
unfolding index_at
sized_index pool kind = sized_item 2 (λ bytes. misfit pool kind (from_be_bytes w16 bytes)) (λ at bytes. Tree.used (record { at = at; kind = kind; index = from_be_bytes w16 bytes })) (λ at bytes len. refl)

sized_member : (reader : Reader) → Sized reader → Sized (member_at reader)
sized_member reader p = record {
  runs = λ at s got e.
      let o = member_ok reader at s got e in
      subst (λ (x : Got). length s ≡ length (print x.tree) + length x.left) o.is (p.runs at s o.a o.first_ok);
}

sized_fenced : (n : ℕ) (body : Reader) → Sized body → Sized (fenced n body)
sized_fenced n body p = record {
  runs = λ at s got e.
      let o = fenced_ok n body at s got e in
      subst (λ (x : Got). length s ≡ length (print x.tree) + length x.left) o.is
      (omega (arith, p.runs at (take n s) o.a o.body_ok, o.all, o.room, length-take-le n s o.room, length-drop n s));
}

sized_attribute : (pool : Pool) (body : ℕ → List ℕ → Reader) → ((n : ℕ) (name : List ℕ) → Sized (body n name)) → Sized (attribute_at pool body)
unfolding attribute_at
sized_attribute pool body p =
    sized_then _ _ (sized_index pool kinds.AttrName) (λ name. sized_then _ _ (sized_number w32 any) (λ n. sized_fenced (value_of w32 n) (body (value_of w32 n) (name_of pool name)) (p (value_of w32 n) (name_of pool name))))

pub sized : (pool : Pool) (l : Layout) → Sized (read pool l)
unfolding read
sized pool (Layout.number w check) = sized_number w check
sized pool (Layout.sized w check) = sized_then _ _ (sized_number w check) (λ k. sized_item (value_of w k) (λ _. None) (λ at bytes. Tree.code bytes) (λ at bytes len. len))
sized pool (Layout.raw n) = sized_raw n
sized pool (Layout.index kind) = sized_index pool kind
sized pool Layout.nothing = sized_nothing
sized pool (Layout.row a b) = sized_then _ _ (sized pool a) (λ _. sized pool b)
sized pool (Layout.table w l) = sized_then _ _ (sized_number w any) (λ k. sized_times (value_of w k) (read pool l) (sized pool l))
sized pool (Layout.tagged check branch) = sized_then _ _ (sized_number w8 check) (λ tag. sized pool (branch (value_of w8 tag)))
sized pool (Layout.attributes body) = sized_then _ _ (sized_number w16 any) (λ k. sized_times (value_of w16 k) _ (sized_attribute pool (λ n name. read pool (body n name)) (λ n name. sized pool (body n name))))
sized pool (Layout.member l) = sized_member (read pool l) (sized pool l)
sized pool (Layout.fault kind) = record { runs = λ at s got e. absurd cc }
