-- A move along the left body finds exactly the bytes beside its tree.
use Rattle.std.proofs.Common.{◌≡◌, ℕ, zero, suc, ◌≤◌, Bool, true, false, ◌&&◌, cond, nat_le, nat_eq, List, [], ◌++◌, length, take, drop, Option, Some, None, Ok, bytes_eq, refl, sym, ap, subst, ◌∙◌, append_assoc, append-nil, arith, length-append, length-take-le}
use Rattle.std.specs.Int.{Width, w8, w16, w32, byte_len, from_be_bytes}
use Rattle.std.proofs.lemmas.Bool.{le-leb, leb-true, and_parts}
use Rattle.std.proofs.lemmas.List.{take_at, drop_at, take-append-drop}
use Rattle.std.proofs.lemmas.Slice.Eq.{bytes_eq-Decides}
use Rattle.desk_base.specs.declared.kinds.UseKind.{UseKind}
use Rattle.desk_base.specs.declared.kinds.UseKind.TheVariants as kinds
use Rattle.desk_base.specs.declared.faults.FaultKind.{FaultKind}
use Rattle.desk_base.specs.Entries.{Pool, text_at}
use Rattle.desk_base.specs.Names.{Text}
use Rattle.desk_base.specs.Misfits.{misfit}
use Rattle.desk_format.specs.Trees.{Tree, Use}
use Rattle.desk_format.specs.Layouts.{Layout, Check, any}
use Rattle.desk_format.specs.Reading.{member_at, Got, Reader, item, number_at, raw_at, code_at, index_at, nothing_at, and_then, times, value_of, name_of, fenced, attribute_at, read}
use Rattle.desk_format.proofs.Steps.{member_ok, ok_is, then_ok, item_ok, fenced_ok}
use Rattle.desk_compare.proofs.Beside.{Same}
use Rattle.desk_parts.specs.Steps.{on, counted, times_on, fence_on, attribute_on, along}
use Rattle.desk_compare.specs.Bodies.{Pair, pair, bytes_by, ahead, Tests, comparing}
use Rattle.desk_compare.proofs.Laws.{Tell, Compared}
use Rattle.desk_compare.proofs.Alike.{same_bodies}

pub record Found (left right : Pool) (t : List ℕ) (tree : Tree Use) (more : List ℕ) : Type 0 where
  pub bytes : List ℕ
  pub parts : t ≡ bytes ++ more
  pub same : Same left right tree bytes

-- where the left one reads
pub record Moves (left right : Pool) (reader : Reader) (m : Pair → Option Pair) : Type 0 where
  pub sound : (at : ℕ) (s t : List ℕ) (a : Got) (p : Pair) → reader at s ≡ Ok a → m (pair s t) ≡ Some p → (p.left ≡ a.left) × Found left right t a.tree p.right
  pub full : (at : ℕ) (s t : List ℕ) (a : Got) (more : List ℕ) → reader at s ≡ Ok a → Found left right t a.tree more → m (pair s t) ≡ Some (pair a.left more)

some_is : (p q : Pair) → Some p ≡ Some q → p ≡ q
some_is p q h = cc

module _ (left right : Pool) (by : Tests) (tell : Tell left right by) where
  -- ---- leaves

  pub record LeafMoves (n : ℕ) (leaf : ℕ → List ℕ → Tree Use) (test : List ℕ → List ℕ → Bool) : Type 0 where
    pub size : (at : ℕ) (bytes other : List ℕ) → length bytes ≡ n → Same left right (leaf at bytes) other → length other ≡ n
    pub true' : (at : ℕ) (bytes other : List ℕ) → length bytes ≡ n → length other ≡ n → test bytes other ≡ true → Same left right (leaf at bytes) other
    pub from : (at : ℕ) (bytes other : List ℕ) → Same left right (leaf at bytes) other → test bytes other ≡ true

  taken : (n : ℕ) (s t : List ℕ) (test : List ℕ → List ℕ → Bool) (p : Pair) (b : Bool) → (nat_le n (length s) && nat_le n (length t) && test (take n s) (take n t)) ≡ b → cond b (Some (pair (drop n s) (drop n t))) None ≡ Some p
      → (n ≤ length t) × (test (take n s) (take n t) ≡ true) × (pair (drop n s) (drop n t) ≡ p)
  taken n s t test p true e h =
      let k = and_parts (nat_le n (length s) && nat_le n (length t)) (test (take n s) (take n t)) e in
      let l = and_parts (nat_le n (length s)) (nat_le n (length t)) k.0 in
      (leb-true n (length t) l.1, k.1, some_is _ _ h)
  taken n s t test p false e h = absurd cc

  moves_item : (n : ℕ) (check : List ℕ → Option FaultKind) (leaf : ℕ → List ℕ → Tree Use) (test : List ℕ → List ℕ → Bool) → LeafMoves n leaf test → Moves left right (item n check leaf) (bytes_by n test)
  moves_item n check leaf test h = record {
    sound = λ at s t a p e k.
        let o = item_ok n check leaf at s a e in
        let z = taken n s t test p _ refl k in
        subst (λ (x : Got). (p.left ≡ x.left) × Found left right t x.tree p.right) o.is (
          sym (ap (λ (x : Pair). x.left) z.2),
          record {
            bytes = take n t;
            parts = sym (take-append-drop n t) ∙ ap (λ (x : Pair). take n t ++ x.right) z.2;
            same = h.true' at (take n s) (take n t) (length-take-le n s o.room) (length-take-le n t z.0) z.1;
          },
        );
    full = λ at s t a more e f.
        let o = item_ok n check leaf at s a e in
        subst (λ (x : Got). Found left right t x.tree more → bytes_by n test (pair s t) ≡ Some (pair x.left more)) o.is
        (λ f.
        let len : length f.bytes ≡ n = h.size at (take n s) f.bytes (length-take-le n s o.room) f.same in
        let front : take n t ≡ f.bytes = rw f.parts (take_at f.bytes more n len) in
        let back : drop n t ≡ more = rw f.parts (drop_at f.bytes more n len) in
        let room : n ≤ length t = omega (arith, ap length f.parts, length-append f.bytes more, len) in
        let yes : test (take n s) (take n t) ≡ true = ap (test (take n s)) front ∙ h.from at (take n s) f.bytes f.same in
        rw (le-leb n (length s) o.room, le-leb n (length t) room, yes) (ap (λ (x : List ℕ). Some (pair (drop n s) x)) back)) f;
  }

  equal : (s t : List ℕ) → bytes_eq s t ≡ true → t ≡ s
  equal s t h = sym ((bytes_eq-Decides s t).0 h)

  same_bytes : (s t : List ℕ) → t ≡ s → bytes_eq s t ≡ true
  same_bytes s t h = (bytes_eq-Decides s t).1 (sym h)

  moves_number : (w : Width) (check : Check) → Moves left right (number_at w check) (bytes_by (byte_len w) bytes_eq)
  unfolding number_at
  moves_number w check =
      moves_item (byte_len w) (λ bytes. check (from_be_bytes w bytes)) (λ at bytes. Tree.number bytes) bytes_eq
      (record { size = λ at bytes other len h. rw h len; true' = λ at bytes other len len' h. equal bytes other h; from = λ at bytes other h. same_bytes bytes other h })

  moves_raw : (n : ℕ) → Moves left right (raw_at n) (bytes_by n bytes_eq)
  unfolding raw_at
  moves_raw n =
      moves_item n (λ _. None) (λ at bytes. Tree.raw bytes) bytes_eq
      (record { size = λ at bytes other len h. rw h len; true' = λ at bytes other len len' h. equal bytes other h; from = λ at bytes other h. same_bytes bytes other h })

  moves_code : (n : ℕ) → Moves left right (code_at n) (bytes_by n by.code)
  moves_code n =
      moves_item n (λ _. None) (λ at bytes. Tree.code bytes) by.code
      (record { size = λ at bytes other len h. h.0 ∙ len; true' = λ at bytes other len len' h. (len' ∙ sym len, tell.code_true bytes other h); from = λ at bytes other h. tell.code_from bytes other h.1 })

  moves_index : (kind : UseKind) → Moves left right (index_at left kind) ((comparing by).index kind)
  unfolding index_at
  moves_index kind =
      moves_item 2 (λ bytes. misfit left kind (from_be_bytes w16 bytes)) (λ at bytes. Tree.used (record { at = at; kind = kind; index = from_be_bytes w16 bytes }))
      (λ s t. by.index kind (from_be_bytes w16 s) (from_be_bytes w16 t))
      (record {
        size = λ at bytes other len h. h.0;
        true' = λ at bytes other len len' h. (len', tell.index_true kind (from_be_bytes w16 bytes) (from_be_bytes w16 other) h);
        from = λ at bytes other h. tell.index_from kind (from_be_bytes w16 bytes) (from_be_bytes w16 other) h.1;
      })

  -- ---- one behind the other

  on_some : (o : Option Pair) (m : (Pair → Option Pair)) (p : Pair) → on o m ≡ Some p → (q : Pair) × (o ≡ Some q) × (m q ≡ Some p)
  on_some None m p h = absurd cc
  on_some (Some q) m p h = (q, refl, h)

  -- the second goes by what the first read, and its along (comparing by) the pair before
  moves_then : (one : Reader) (two : Tree Use → Reader) (m : (Pair → Option Pair)) (next : Pair → (Pair → Option Pair)) → Moves left right one m
      → ((at : ℕ) (s t : List ℕ) (a : Got) → one at s ≡ Ok a → Moves left right (two a.tree) (next (pair s t)))
      → Moves left right (and_then one two) (λ p. on (m p) (next p))
  moves_then one two m next p q = record {
    sound = λ at s t a r e k.
        let o = then_ok one two at s a e in
        let z = on_some (m (pair s t)) (next (pair s t)) r k in
        let first = p.sound at s t o.a z.0 o.first_ok z.1 in
        let here : next (pair s t) (pair o.a.left z.0.right) ≡ Some r = ap (λ (x : List ℕ). next (pair s t) (pair x z.0.right)) (sym first.0) ∙ z.2 in
        let second = (q at s t o.a o.first_ok).sound o.a.at o.a.left z.0.right o.b r o.second_ok here in
        subst (λ (x : Got). (r.left ≡ x.left) × Found left right t x.tree r.right) o.is (
          second.0,
          record {
            bytes = first.1.bytes ++ second.1.bytes;
            parts = first.1.parts ∙ ap (λ (x : List ℕ). first.1.bytes ++ x) second.1.parts ∙ sym (append_assoc first.1.bytes second.1.bytes r.right);
            same = (first.1.bytes, second.1.bytes, refl, first.1.same, second.1.same);
          },
        );
    full = λ at s t a more e f.
        let o = then_ok one two at s a e in
        subst (λ (x : Got). Found left right t x.tree more → on (m (pair s t)) (next (pair s t)) ≡ Some (pair x.left more)) o.is
        (λ f.
        let x = f.same.0 in
        let y = f.same.1 in
        let parts : t ≡ x ++ (y ++ more) = f.parts ∙ ap (λ (z : List ℕ). z ++ more) f.same.2 ∙ append_assoc x y more in
        let first : m (pair s t) ≡ Some (pair o.a.left (y ++ more)) = p.full at s t o.a (y ++ more) o.first_ok (record { bytes = x; parts = parts; same = f.same.3 }) in
        let second = (q at s t o.a o.first_ok).full o.a.at o.a.left (y ++ more) o.b more o.second_ok (record { bytes = y; parts = refl; same = f.same.4 }) in
        ap (λ (z : Option Pair). on z (next (pair s t))) first ∙ second) f;
  }

  moves_nothing : Moves left right nothing_at (λ p. Some p)
  unfolding nothing_at
  moves_nothing = record {
    sound = λ at s t a p e k.
        subst (λ (x : Got). (p.left ≡ x.left) × Found left right t x.tree p.right) (ok_is _ _ e)
        (sym (ap (λ (x : Pair). x.left) (some_is _ _ k)), record { bytes = []; parts = ap (λ (x : Pair). x.right) (some_is _ _ k); same = refl });
    full = λ at s t a more e f.
        subst (λ (x : Got). Found left right t x.tree more → Some (pair s t) ≡ Some (pair x.left more)) (ok_is _ _ e)
        (λ f. ap (λ (x : List ℕ). Some (pair s x)) (f.parts ∙ ap (λ (z : List ℕ). z ++ more) f.same)) f;
  }

  moves_times : (n : ℕ) (reader : Reader) (m : (Pair → Option Pair)) → Moves left right reader m → Moves left right (times n reader) (times_on n m)
  unfolding times times_on
  moves_times zero reader m p = moves_nothing
  moves_times (suc n) reader m p = moves_then reader _ m (λ _. times_on n m) p (λ at s t a e. moves_times n reader m p)

  moves_member : (reader : Reader) (m : (Pair → Option Pair)) → Moves left right reader m → Moves left right (member_at reader) m
  moves_member reader m p = record {
    sound = λ at s t a r e k.
        let o = member_ok reader at s a e in
        let one = p.sound at s t o.a r o.first_ok k in
        subst (λ (x : Got). (r.left ≡ x.left) × Found left right t x.tree r.right) o.is (one.0, record { bytes = one.1.bytes; parts = one.1.parts; same = one.1.same });
    full = λ at s t a more e f.
        let o = member_ok reader at s a e in
        subst (λ (x : Got). Found left right t x.tree more → m (pair s t) ≡ Some (pair x.left more)) o.is
        (λ f. p.full at s t o.a more o.first_ok (record { bytes = f.bytes; parts = f.parts; same = f.same })) f;
  }

  ends : (more : List ℕ) (q p : Pair) → cond (nat_eq (length q.left) 0) (Some (pair more q.right)) None ≡ Some p → pair more q.right ≡ p
  ends more q p h = whole (nat_eq (length q.left) 0) h where
    whole : (b : Bool) → cond b (Some (pair more q.right)) None ≡ Some p → pair more q.right ≡ p
    whole true h = some_is _ _ h
    whole false h = absurd cc

  moves_fenced : (n : ℕ) (body : Reader) (m : (Pair → Option Pair)) → Moves left right body m → Moves left right (fenced n body) (fence_on (comparing by) n m)
  moves_fenced n body m p = record {
    sound = λ at s t a r e k.
        let o = fenced_ok n body at s a e in
        let room : nat_le n (length s) ≡ true = le-leb n (length s) o.room in
        let leave : Pair → Option Pair = (comparing by).leave (record { at = 0; left = drop n s }) in
        let inside : on (m (pair (take n s) t)) leave ≡ Some r = sym (ap (λ (b : Bool). on (cond b (Some (pair (take n s) t)) None) (λ q. on (m q) leave)) room) ∙ k in
        let z = on_some (m (pair (take n s) t)) leave r inside in
        let last = ends (drop n s) z.0 r z.2 in
        let one = p.sound at (take n s) t o.a z.0 o.body_ok z.1 in
        subst (λ (x : Got). (r.left ≡ x.left) × Found left right t x.tree r.right) o.is (
          sym (ap (λ (x : Pair). x.left) last),
          record {
            bytes = one.1.bytes;
            parts = one.1.parts ∙ ap (λ (x : Pair). one.1.bytes ++ x.right) last;
            same = one.1.same;
          },
        );
    full = λ at s t a more e f.
        let o = fenced_ok n body at s a e in
        subst (λ (x : Got). Found left right t x.tree more → fence_on (comparing by) n m (pair s t) ≡ Some (pair x.left more)) o.is
        (λ f.
        let one : m (pair (take n s) t) ≡ Some (pair o.a.left more) = p.full at (take n s) t o.a more o.body_ok (record { bytes = f.bytes; parts = f.parts; same = f.same }) in
        rw (le-leb n (length s) o.room, one, o.all) refl) f;
  }

  -- ---- what goes by what was read

  moves_count : (w : Width) (check : Check) (two : ℕ → Reader) (next : ℕ → (Pair → Option Pair)) → ((n : ℕ) → Moves left right (two n) (next n))
      → Moves left right (and_then (number_at w check) (λ t. two (value_of w t))) (counted (comparing by) w next)
  unfolding number_at
  moves_count w check two next q =
      moves_then (number_at w check) _ (bytes_by (byte_len w) bytes_eq) (λ p. next (ahead w p)) (moves_number w check)
      (λ at s t a e.
      let o = item_ok (byte_len w) (λ bytes. check (from_be_bytes w bytes)) (λ at bytes. Tree.number bytes) at s a e in
      subst (λ (x : Got). Moves left right (two (value_of w x.tree)) (next (from_be_bytes w (take (byte_len w) s)))) o.is (q (from_be_bytes w (take (byte_len w) s))))

  moves_attribute : (body : ℕ → Text → Reader) (next : ℕ → Text → (Pair → Option Pair)) → ((n : ℕ) (name : Text) → Moves left right (body n name) (next n name)) → Moves left right (attribute_at left body) (attribute_on (comparing by) next)
  unfolding attribute_at index_at
  moves_attribute body next q =
      moves_then (index_at left kinds.AttrName) _ ((comparing by).index kinds.AttrName) (λ p. counted (comparing by) w32 (λ n. fence_on (comparing by) n (next n (text_at by.pool (ahead w16 p))))) (moves_index kinds.AttrName)
      (λ at s t a e.
      let o = item_ok 2 (λ bytes. misfit left kinds.AttrName (from_be_bytes w16 bytes)) (λ at bytes. Tree.used (record { at = at; kind = kinds.AttrName; index = from_be_bytes w16 bytes })) at s a e in
      let name : Text = text_at left (from_be_bytes w16 (take 2 s)) in
      let R : Text → Reader = λ x. and_then (number_at w32 any) (λ n. fenced (value_of w32 n) (body (value_of w32 n) x)) in
      let M : Text → (Pair → Option Pair) = λ x. counted (comparing by) w32 (λ n. fence_on (comparing by) n (next n x)) in
      subst (λ (pool : Pool). Moves left right (R (name_of left a.tree)) (M (text_at pool (from_be_bytes w16 (take 2 s))))) (sym tell.pool)
      (subst (λ (x : Got). Moves left right (R (name_of left x.tree)) (M name)) o.is
      (moves_count w32 any (λ n. fenced n (body n name)) (λ n. fence_on (comparing by) n (next n name)) (λ n. moves_fenced n (body n name) (next n name) (q n name)))))

  -- One induction, with a case for each kind of layout.
  pub moves : (l : Layout) → Moves left right (read left l) (along (comparing by) l)
  unfolding read along
  moves (Layout.number w check) = moves_number w check
  moves (Layout.sized w check) = moves_count w check code_at (λ n p. bytes_by n by.code p) moves_code
  moves (Layout.raw n) = moves_raw n
  moves (Layout.index kind) = moves_index kind
  moves Layout.nothing = moves_nothing
  moves (Layout.row a b) = moves_then (read left a) _ (along (comparing by) a) (λ _. along (comparing by) b) (moves a) (λ at s t x e. moves b)
  moves (Layout.table w l) = moves_count w any (λ k. times k (read left l)) (λ k. times_on k (along (comparing by) l)) (λ k. moves_times k (read left l) (along (comparing by) l) (moves l))
  moves (Layout.tagged check branch) = moves_count w8 check (λ tag. read left (branch tag)) (λ tag. along (comparing by) (branch tag)) (λ tag. moves (branch tag))
  moves (Layout.attributes body) =
      let one : Reader = attribute_at left (λ n name. read left (body n name)) in
      let m : (Pair → Option Pair) = attribute_on (comparing by) (λ n name. along (comparing by) (body n name)) in
      moves_count w16 any (λ k. times k one) (λ k. times_on k m) (λ k. moves_times k one m (moves_attribute (λ n name. read left (body n name)) (λ n name. along (comparing by) (body n name)) (λ n name. moves (body n name))))
  moves (Layout.member l) = moves_member (read left l) (along (comparing by) l) (moves l)
  moves (Layout.fault kind) = record { sound = λ at s t a p e k. absurd cc; full = λ at s t a more e f. absurd cc }

-- ---- two bodies that were read to their ends

pub compared : Compared
compared l left right by s t a b tell h =
    let m : Moves left right (read left l) (along (comparing by) l) = moves left right by tell l in
    let same = same_bodies l left right s t a b h in (
      λ e. m.full h.from s t a [] h.first (record { bytes = t; parts = sym (append-nil t); same = same.0 e }) ∙ ap (λ (x : List ℕ). Some (pair x [])) h.first_end,
      λ e.
          let f : Found left right t a.tree [] = (m.sound h.from s t a (pair [] []) h.first e).1 in
          same.1 (subst (Same left right a.tree) (sym (f.parts ∙ append-nil f.bytes)) f.same),
    )
