-- Two readings by one layout, side by side.
use Rattle.std.proofs.Common.{◌≡◌, ℕ, zero, suc, ◌+◌, List, [], ◌∷◌, ◌++◌, length, take, drop, Option, Some, None, Ok, refl, sym, ap, ap₂, subst, ◌∙◌, append_assoc, append-nil, arith, length-take-le}
use Rattle.std.specs.Int.{Width, w8, w16, w32, byte_len, from_be_bytes}
use Rattle.std.proofs.lemmas.List.{take_at, drop_at, take-append-drop}
use Rattle.desk_base.specs.declared.kinds.UseKind.{UseKind}
use Rattle.desk_base.specs.declared.kinds.UseKind.TheVariants as kinds
use Rattle.desk_base.specs.declared.faults.FaultKind.{FaultKind}
use Rattle.desk_base.specs.Entries.{Pool}
use Rattle.desk_base.specs.Names.{Text}
use Rattle.desk_base.specs.Misfits.{misfit}
use Rattle.desk_format.specs.Trees.{Tree, Use, print}
use Rattle.desk_format.specs.Values.{Value, text_as}
use Rattle.desk_base.specs.declared.kinds.Role.{Role}
use Rattle.desk_base.specs.declared.kinds.Role.TheVariants as roles
use Rattle.desk_code.specs.declared.reader.Instruction.{Instruction}
use Rattle.desk_base.specs.declared.faults.CodeFault.{CodeFault}
use Rattle.desk_code.specs.Instructions.{instructions_of}
use Rattle.desk_format.specs.Layouts.{Layout, Check, any}
use Rattle.desk_format.specs.Reading.{member_at, Got, Reader, item, number_at, raw_at, code_at, index_at, nothing_at, and_then, times, value_of, name_of, fenced, attribute_at, read}
use Rattle.desk_format.proofs.Steps.{member_ok, got_of, ok_is, then_ok, item_ok, fenced_ok}
use Rattle.desk_compare.proofs.Sized.{Sized, sized, length-same}
use Rattle.desk_compare.specs.Free.{Leaf, free, free_code, code_or}
use Rattle.desk_compare.proofs.Beside.{Same}
use Rattle.desk_compare.proofs.Laws.{SameBodies}

-- Equal free trees stand beside each other, and what stands beside the first tree is what the second reader took.
pub record Sides (left right : Pool) (t : List ℕ) (a b : Got) : Type 0 where
  pub forth : free left a.tree ≡ free right b.tree → (bytes : List ℕ) × (t ≡ bytes ++ b.left) × Same left right a.tree bytes
  pub back : (bytes more : List ℕ) → t ≡ bytes ++ more → Same left right a.tree bytes → (free left a.tree ≡ free right b.tree) × (more ≡ b.left)

pub record Alike (left right : Pool) (one other : Reader) : Type 0 where
  pub runs : (from to : ℕ) (s t : List ℕ) (a b : Got) → one from s ≡ Ok a → other to t ≡ Ok b → Sides left right t a b

empty : (xs : List ℕ) → length xs ≡ 0 → xs ≡ []
empty [] h = refl
empty (x ∷ xs) h = absurd (omega arith)

front : (n : ℕ) (bytes more t : List ℕ) → t ≡ bytes ++ more → length bytes ≡ n → (take n t ≡ bytes) × (drop n t ≡ more)
front n bytes more t e len = (rw e (take_at bytes more n len), rw e (drop_at bytes more n len))

value_in : Width → Tree Leaf → ℕ
value_in w (Tree.number bytes) = from_be_bytes w bytes
value_in w _ = 0

module _ (left right : Pool) where
  -- ---- leaves

  pub record LeafAlike (n : ℕ) (leaf leaf' : ℕ → List ℕ → Tree Use) : Type 0 where
    pub size : (at : ℕ) (bytes other : List ℕ) → length bytes ≡ n → Same left right (leaf at bytes) other → length other ≡ n
    pub forth : (at to : ℕ) (bytes other : List ℕ) → length bytes ≡ n → length other ≡ n → free left (leaf at bytes) ≡ free right (leaf' to other) → Same left right (leaf at bytes) other
    pub back : (at to : ℕ) (bytes other : List ℕ) → Same left right (leaf at bytes) other → free left (leaf at bytes) ≡ free right (leaf' to other)

  alike_item : (n : ℕ) (check check' : List ℕ → Option FaultKind) (leaf leaf' : ℕ → List ℕ → Tree Use) → LeafAlike n leaf leaf' → Alike left right (item n check leaf) (item n check' leaf')
  alike_item n check check' leaf leaf' h = record {
    runs = λ from to s t a b e f.
        let p = item_ok n check leaf from s a e in
        let q = item_ok n check' leaf' to t b f in
        let len : length (take n s) ≡ n = length-take-le n s p.room in
        let len' : length (take n t) ≡ n = length-take-le n t q.room in
        subst (λ (x : Got). Sides left right t x b) p.is
        (subst (λ (y : Got). Sides left right t (got_of (leaf from (take n s)) (from + n) (drop n s)) y) q.is (record {
          forth = λ same. (take n t, sym (take-append-drop n t), h.forth from to (take n s) (take n t) len len' same);
          back = λ bytes more is same.
              let z = front n bytes more t is (h.size from (take n s) bytes len same) in
              (h.back from to (take n s) bytes same ∙ ap (λ (x : List ℕ). free right (leaf' to x)) (sym z.0), sym z.1);
        }));
  }

  alike_number : (w : Width) (check : Check) → Alike left right (number_at w check) (number_at w check)
  unfolding number_at
  alike_number w check =
      let fits : List ℕ → Option FaultKind = λ bytes. check (from_be_bytes w bytes) in
      let leaf : ℕ → List ℕ → Tree Use = λ at bytes. Tree.number bytes in
      alike_item (byte_len w) fits fits leaf leaf (record { size = λ at bytes other len h. rw h len; forth = λ at to bytes other len len' h. cc; back = λ at to bytes other h. ap Tree.number (sym h) })

  alike_raw : (n : ℕ) → Alike left right (raw_at n) (raw_at n)
  unfolding raw_at
  alike_raw n =
      let leaf : ℕ → List ℕ → Tree Use = λ at bytes. Tree.raw bytes in
      alike_item n (λ _. None) (λ _. None) leaf leaf (record { size = λ at bytes other len h. rw h len; forth = λ at to bytes other len len' h. cc; back = λ at to bytes other h. ap Tree.raw (sym h) })

  alike_code : (n : ℕ) → Alike left right (code_at n) (code_at n)
  alike_code n =
      let leaf : ℕ → List ℕ → Tree Use = λ at bytes. Tree.code bytes in
      alike_item n (λ _. None) (λ _. None) leaf leaf (record { size = λ at bytes other len h. h.0 ∙ len; forth = λ at to bytes other len len' h. (len' ∙ sym len, h); back = λ at to bytes other h. h.1 })

  index_same : (v w : Value) → Tree.used (Leaf.index_to v) ≡ Tree.used (Leaf.index_to w) → v ≡ w
  index_same v w h = cc

  alike_index : (kind : UseKind) → Alike left right (index_at left kind) (index_at right kind)
  unfolding index_at
  alike_index kind =
      let leaf : ℕ → List ℕ → Tree Use = λ at bytes. Tree.used (record { at = at; kind = kind; index = from_be_bytes w16 bytes }) in
      alike_item 2 (λ bytes. misfit left kind (from_be_bytes w16 bytes)) (λ bytes. misfit right kind (from_be_bytes w16 bytes)) leaf leaf (record {
        size = λ at bytes other len h. h.0;
        forth = λ at to bytes other len len' h. (len', index_same _ _ h);
        back = λ at to bytes other h. ap (λ (v : Value). Tree.used (Leaf.index_to v)) h.1;
      })

  -- ---- one behind the other

  both_same : (a b : Tree Leaf) (c d : Tree Leaf) → Tree.both a b ≡ Tree.both c d → (a ≡ c) × (b ≡ d)
  both_same a b c d h = (cc, cc)

  alike_then : (one other : Reader) (two two' : Tree Use → Reader) → Alike left right one other
      → ((from to : ℕ) (s t : List ℕ) (a b : Got) → one from s ≡ Ok a → other to t ≡ Ok b → free left a.tree ≡ free right b.tree → Alike left right (two a.tree) (two' b.tree))
      → Alike left right (and_then one two) (and_then other two')
  alike_then one other two two' p q = record {
    runs = λ from to s t a b e f.
        let o = then_ok one two from s a e in
        let o' = then_ok other two' to t b f in
        let first = p.runs from to s t o.a o'.a o.first_ok o'.first_ok in
        let second : free left o.a.tree ≡ free right o'.a.tree → Sides left right o'.a.left o.b o'.b =
        λ h. (q from to s t o.a o'.a o.first_ok o'.first_ok h).runs o.a.at o'.a.at o.a.left o'.a.left o.b o'.b o.second_ok o'.second_ok in
        subst (λ (x : Got). Sides left right t x b) o.is
        (subst (λ (y : Got). Sides left right t (got_of (Tree.both o.a.tree o.b.tree) o.b.at o.b.left) y) o'.is (record {
          forth = λ h.
              let k = both_same _ _ _ _ h in
              let x = first.forth k.0 in
              let y = (second k.0).forth k.1 in
              (x.0 ++ y.0, x.1 ∙ ap (λ (z : List ℕ). x.0 ++ z) y.1 ∙ sym (append_assoc x.0 y.0 o'.b.left), (x.0, y.0, refl, x.2, y.2));
          back = λ bytes more is same.
              let x = same.0 in
              let y = same.1 in
              let here : t ≡ x ++ (y ++ more) = is ∙ ap (λ (z : List ℕ). z ++ more) same.2 ∙ append_assoc x y more in
              let k = first.back x (y ++ more) here same.3 in
              let m = (second k.0).back y more (sym k.1) same.4 in
              (ap₂ Tree.both k.0 m.0, m.1);
        }));
  }

  alike_nothing : Alike left right nothing_at nothing_at
  unfolding nothing_at
  alike_nothing = record {
    runs = λ from to s t a b e f.
        subst (λ (x : Got). Sides left right t x b) (ok_is _ _ e)
        (subst (λ (y : Got). Sides left right t (got_of Tree.nothing from s) y) (ok_is _ _ f) (record {
          forth = λ h. ([], refl, refl);
          back = λ bytes more is same. (refl, sym (is ∙ ap (λ (z : List ℕ). z ++ more) same));
        }));
  }

  alike_times : (n : ℕ) (one other : Reader) → Alike left right one other → Alike left right (times n one) (times n other)
  unfolding times
  alike_times zero one other p = alike_nothing
  alike_times (suc n) one other p = alike_then one other _ _ p (λ from to s t a b e f h. alike_times n one other p)

  member_same : (a b : Tree Leaf) → Tree.member a ≡ Tree.member b → a ≡ b
  member_same a b h = cc

  alike_member : (one other : Reader) → Alike left right one other → Alike left right (member_at one) (member_at other)
  alike_member one other p = record {
    runs = λ from to s t a b e f.
        let o = member_ok one from s a e in
        let o' = member_ok other to t b f in
        let inner = p.runs from to s t o.a o'.a o.first_ok o'.first_ok in
        subst (λ (x : Got). Sides left right t x b) o.is
        (subst (λ (y : Got). Sides left right t (got_of (Tree.member o.a.tree) o.a.at o.a.left) y) o'.is (record {
          forth = λ h. inner.forth (member_same _ _ h);
          back = λ bytes more is same. let k = inner.back bytes more is same in (ap Tree.member k.0, k.1);
        }));
  }

  -- a body that stops at its fence
  alike_fenced : (n : ℕ) (one other : Reader) → Sized one → Alike left right one other → Alike left right (fenced n one) (fenced n other)
  alike_fenced n one other z p = record {
    runs = λ from to s t a b e f.
        let o = fenced_ok n one from s a e in
        let o' = fenced_ok n other to t b f in
        let inner = p.runs from to (take n s) (take n t) o.a o'.a o.body_ok o'.body_ok in
        let size : length (print o.a.tree) ≡ n = omega (arith, z.runs from (take n s) o.a o.body_ok, o.all, length-take-le n s o.room) in
        subst (λ (x : Got). Sides left right t x b) o.is
        (subst (λ (y : Got). Sides left right t (got_of o.a.tree (from + n) (drop n s)) y) o'.is (record {
          forth = λ h.
              let x = inner.forth h in
              let all : take n t ≡ x.0 = x.1 ∙ ap (λ (z : List ℕ). x.0 ++ z) (empty o'.a.left o'.all) ∙ append-nil x.0 in
              (x.0, sym (take-append-drop n t) ∙ ap (λ (z : List ℕ). z ++ drop n t) all, x.2);
          back = λ bytes more is same.
              let ends = front n bytes more t is (length-same left right o.a.tree bytes same ∙ size) in
              let k = inner.back bytes [] (ends.0 ∙ sym (append-nil bytes)) same in
              (k.0, sym ends.1);
        }));
  }

  -- ---- what goes by what was read

  value_free : (pool : Pool) (w : Width) (t : Tree Use) → value_of w t ≡ value_in w (free pool t)
  unfolding value_in free_code
  value_free pool w Tree.nothing = refl
  value_free pool w (Tree.number bytes) = refl
  value_free pool w (Tree.raw bytes) = refl
  value_free pool w (Tree.code bytes) = of_code (instructions_of pool bytes).instructions (instructions_of pool bytes).fault where
    of_code : (is : List Instruction) (fault : Option CodeFault) → 0 ≡ value_in w (code_or pool bytes is fault)
    of_code is None = refl
    of_code is (Some f) = refl
  value_free pool w (Tree.used u) = refl
  value_free pool w (Tree.both a b) = refl
  value_free pool w (Tree.member a) = refl

  -- a reader that goes by the number before it
  alike_count : (w : Width) (one other : Reader) (two two' : ℕ → Reader) → Alike left right one other → ((n : ℕ) → Alike left right (two n) (two' n))
      → Alike left right (and_then one (λ t. two (value_of w t))) (and_then other (λ t. two' (value_of w t)))
  alike_count w one other two two' p q =
      alike_then one other _ _ p (λ from to s t a b e f h.
      subst (λ (n : ℕ). Alike left right (two (value_of w a.tree)) (two' n)) (value_free left w a.tree ∙ ap (value_in w) h ∙ sym (value_free right w b.tree)) (q (value_of w a.tree)))

  text_same : (role : Role) (x y : Text) → Tree.used (Leaf.index_to (text_as role x)) ≡ Tree.used (Leaf.index_to (text_as role y)) → x ≡ y
  text_same role x y h = cc

  -- both names are the same text
  named_same : (from to : ℕ) (s t : List ℕ) (a b : Got) → index_at left kinds.AttrName from s ≡ Ok a → index_at right kinds.AttrName to t ≡ Ok b → free left a.tree ≡ free right b.tree → name_of left a.tree ≡ name_of right b.tree
  unfolding index_at
  named_same from to s t a b e f h =
      let p = item_ok 2 (λ bytes. misfit left kinds.AttrName (from_be_bytes w16 bytes)) (λ at bytes. Tree.used (record { at = at; kind = kinds.AttrName; index = from_be_bytes w16 bytes })) from s a e in
      let q = item_ok 2 (λ bytes. misfit right kinds.AttrName (from_be_bytes w16 bytes)) (λ at bytes. Tree.used (record { at = at; kind = kinds.AttrName; index = from_be_bytes w16 bytes })) to t b f in
      sym (ap (λ (x : Got). name_of left x.tree) p.is)
      ∙ text_same roles.AttrName _ _ (ap (λ (x : Got). free left x.tree) p.is ∙ h ∙ sym (ap (λ (x : Got). free right x.tree) q.is))
      ∙ ap (λ (x : Got). name_of right x.tree) q.is

  alike_attribute : (body body' : ℕ → Text → Reader) → ((n : ℕ) (name : Text) → Sized (body n name)) → ((n : ℕ) (name : Text) → Alike left right (body n name) (body' n name)) → Alike left right (attribute_at left body) (attribute_at right body')
  unfolding attribute_at
  alike_attribute body body' z p =
      alike_then (index_at left kinds.AttrName) (index_at right kinds.AttrName) _ _ (alike_index kinds.AttrName) (λ from to s t a b e f h.
      subst (λ (name : Text). Alike left right (and_then (number_at w32 any) (λ n. fenced (value_of w32 n) (body (value_of w32 n) (name_of left a.tree)))) (and_then (number_at w32 any) (λ n. fenced (value_of w32 n) (body' (value_of w32 n) name))))
      (named_same from to s t a b e f h)
      (alike_count w32 (number_at w32 any) (number_at w32 any) (λ n. fenced n (body n (name_of left a.tree))) (λ n. fenced n (body' n (name_of left a.tree))) (alike_number w32 any)
      (λ n. alike_fenced n _ _ (z n (name_of left a.tree)) (p n (name_of left a.tree)))))

  -- One induction, with a case for each kind of layout.
  pub alike : (l : Layout) → Alike left right (read left l) (read right l)
  unfolding read
  alike (Layout.number w check) = alike_number w check
  alike (Layout.sized w check) = alike_count w (number_at w check) (number_at w check) code_at code_at (alike_number w check) alike_code
  alike (Layout.raw n) = alike_raw n
  alike (Layout.index kind) = alike_index kind
  alike Layout.nothing = alike_nothing
  alike (Layout.row a b) = alike_then (read left a) (read right a) (λ _. read left b) (λ _. read right b) (alike a) (λ from to s t x y e f h. alike b)
  alike (Layout.table w l) = alike_count w (number_at w any) (number_at w any) (λ k. times k (read left l)) (λ k. times k (read right l)) (alike_number w any) (λ k. alike_times k (read left l) (read right l) (alike l))
  alike (Layout.tagged check branch) = alike_count w8 (number_at w8 check) (number_at w8 check) (λ tag. read left (branch tag)) (λ tag. read right (branch tag)) (alike_number w8 check) (λ tag. alike (branch tag))
  alike (Layout.attributes body) =
      let one : Reader = attribute_at left (λ n name. read left (body n name)) in
      let other : Reader = attribute_at right (λ n name. read right (body n name)) in
      alike_count w16 (number_at w16 any) (number_at w16 any) (λ k. times k one) (λ k. times k other) (alike_number w16 any)
      (λ k. alike_times k one other (alike_attribute (λ n name. read left (body n name)) (λ n name. read right (body n name)) (λ n name. sized left (body n name)) (λ n name. alike (body n name))))
  alike (Layout.member l) = alike_member (read left l) (read right l) (alike l)
  alike (Layout.fault kind) = record { runs = λ from to s t a b e f. absurd cc }

-- ---- two bodies that were read to their ends

pub same_bodies : SameBodies
same_bodies l left right s t a b h =
    let sides = (alike left right l).runs h.from h.to s t a b h.first h.second in (
      λ same.
          let x = sides.forth same in
          let all : x.0 ≡ t = sym (x.1 ∙ ap (λ (z : List ℕ). x.0 ++ z) h.second_end ∙ append-nil x.0) in
          subst (Same left right a.tree) all x.2,
      λ same. (sides.back t [] (sym (append-nil t)) same).0,
    )
