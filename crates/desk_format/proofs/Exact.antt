-- What is read prints to the bytes that were read, each use at its place, and each use fits.
use Rattle.std.proofs.Common.{◌≡◌, ℕ, zero, suc, ◌+◌, List, [], ◌∷◌, ◌++◌, length, take, drop, Option, None, Ok, refl, sym, ap, subst, ◌∙◌, append_assoc, append-nil, arith, inl, inr, length-append, length-take-le}
use Rattle.std.specs.Int.{Width, w8, w16, w32, byte_len, from_be_bytes}
use Rattle.std.proofs.lemmas.Bool.{cases_lt}
use Rattle.std.proofs.lemmas.List.{take-append-drop, get_or-drop, get_or-take, get_or_past, length-take}
use Rattle.std.proofs.lemmas.Nat.{be_bytes_2}
use Rattle.desk_base.specs.declared.kinds.UseKind.{UseKind}
use Rattle.desk_base.specs.declared.kinds.UseKind.TheVariants as kinds
use Rattle.desk_base.specs.declared.faults.FaultKind.{FaultKind}
use Rattle.desk_base.specs.Entries.{Pool}
use Rattle.desk_base.specs.Misfits.{misfit}
use Rattle.desk_format.specs.Trees.{Tree, Use, Each, print, IsPlaced}
use Rattle.desk_format.specs.Layouts.{Layout, Check, any}
use Rattle.desk_format.specs.Reading.{member_at, Got, Reader, item, number_at, raw_at, code_at, index_at, nothing_at, and_then, times, value_of, name_of, fenced, attribute_at, read}
use Rattle.desk_format.specs.Exchange.{Fits}
use Rattle.desk_format.specs.Laws.{IsBytes}
use Rattle.desk_format.proofs.Steps.{member_ok, ok_is, then_ok, item_ok, fenced_ok}

pub IsBytes-drop : (n : ℕ) (bytes : List ℕ) → IsBytes bytes → IsBytes (drop n bytes)
IsBytes-drop n bytes h i = rw get_or-drop (h (n + i))

pub IsBytes-take : (n : ℕ) (bytes : List ℕ) → IsBytes bytes → IsBytes (take n bytes)
IsBytes-take n bytes h i =
    elim (cases_lt i n) [
      | inl lt ↦ rw (get_or-take n bytes i 0 lt) (h i)
      | inr le ↦ rw (get_or_past (take n bytes) i 0 (omega (arith, length-take n bytes))) (omega arith)
    ]

empty : (xs : List ℕ) → length xs ≡ 0 → xs ≡ []
empty [] h = refl
empty (x ∷ xs) h = absurd (omega arith)

pub record Taken (pool : Pool) (place : ℕ) (s : List ℕ) (got : Got) : Type 0 where
  pub parts : s ≡ print got.tree ++ got.left
  pub at : got.at ≡ place + length (print got.tree)
  pub placed : IsPlaced place got.tree
  pub fits : Each (Fits pool) got.tree
  pub left : IsBytes got.left

pub record Exact (pool : Pool) (reader : Reader) : Type 0 where
  pub runs : (at : ℕ) (s : List ℕ) (got : Got) → reader at s ≡ Ok got → IsBytes s → Taken pool at s got

module _ (pool : Pool) where
  -- a leaf that prints to its bytes
  pub record IsLeaf (n : ℕ) (check : List ℕ → Option FaultKind) (leaf : ℕ → List ℕ → Tree Use) : Type 0 where
    pub prints : (at : ℕ) (bytes : List ℕ) → length bytes ≡ n → IsBytes bytes → print (leaf at bytes) ≡ bytes
    pub placed : (at : ℕ) (bytes : List ℕ) → IsPlaced at (leaf at bytes)
    pub fits : (at : ℕ) (bytes : List ℕ) → IsBytes bytes → check bytes ≡ None → Each (Fits pool) (leaf at bytes)

  exact_item : (n : ℕ) (check : List ℕ → Option FaultKind) (leaf : ℕ → List ℕ → Tree Use) → IsLeaf n check leaf → Exact pool (item n check leaf)
  exact_item n check leaf h = record {
    runs = λ at s got e bytes.
        let p = item_ok n check leaf at s got e in
        let len : length (take n s) ≡ n = length-take-le n s p.room in
        let front : IsBytes (take n s) = IsBytes-take n s bytes in
        let one : print (leaf at (take n s)) ≡ take n s = h.prints at (take n s) len front in
        subst (λ (x : Got). Taken pool at s x) p.is (record {
          parts = rw (one, take-append-drop) refl;
          at = rw (one, len) refl;
          placed = h.placed at (take n s);
          fits = h.fits at (take n s) front p.checked;
          left = IsBytes-drop n s bytes;
        });
  }

  exact_then : (first : Reader) (second : Tree Use → Reader) → Exact pool first → ((t : Tree Use) → Exact pool (second t)) → Exact pool (and_then first second)
  exact_then first second p q = record {
    runs = λ at s got e bytes.
        let o = then_ok first second at s got e in
        let one : Taken pool at s o.a = p.runs at s o.a o.first_ok bytes in
        let two : Taken pool o.a.at o.a.left o.b = (q o.a.tree).runs o.a.at o.a.left o.b o.second_ok one.left in
        subst (λ (x : Got). Taken pool at s x) o.is (record {
          parts = one.parts ∙ ap (λ (t : List ℕ). print o.a.tree ++ t) two.parts ∙ sym (append_assoc (print o.a.tree) (print o.b.tree) o.b.left);
          at = omega (arith, two.at, one.at, length-append (print o.a.tree) (print o.b.tree));
          placed = (one.placed, subst (λ (place : ℕ). IsPlaced place o.b.tree) one.at two.placed);
          fits = (one.fits, two.fits);
          left = two.left;
        });
  }

  exact_nothing : Exact pool nothing_at
  unfolding nothing_at
  exact_nothing = record {
    runs = λ at s got e bytes.
        subst (λ (x : Got). Taken pool at s x) (ok_is _ _ e) (record { parts = refl; at = omega arith; placed = tt; fits = tt; left = bytes });
  }

  exact_member : (reader : Reader) → Exact pool reader → Exact pool (member_at reader)
  exact_member reader p = record {
    runs = λ at s got e bytes.
        let o = member_ok reader at s got e in
        let one : Taken pool at s o.a = p.runs at s o.a o.first_ok bytes in
        subst (λ (x : Got). Taken pool at s x) o.is (record { parts = one.parts; at = one.at; placed = one.placed; fits = one.fits; left = one.left });
  }

  exact_times : (n : ℕ) (reader : Reader) → Exact pool reader → Exact pool (times n reader)
  unfolding times
  exact_times zero reader p = exact_nothing
  exact_times (suc n) reader p = exact_then reader _ p (λ t. exact_times n reader p)

  exact_number : (w : Width) (check : Check) → Exact pool (number_at w check)
  unfolding number_at
  exact_number w check = exact_item (byte_len w) (λ bytes. check (from_be_bytes w bytes)) (λ at bytes. Tree.number bytes) (record { prints = λ at bytes len fit. refl; placed = λ at bytes. tt; fits = λ at bytes fit ok. tt })

  exact_raw : (n : ℕ) → Exact pool (raw_at n)
  unfolding raw_at
  exact_raw n = exact_item n (λ _. None) (λ at bytes. Tree.raw bytes) (record { prints = λ at bytes len fit. refl; placed = λ at bytes. tt; fits = λ at bytes fit ok. tt })

  exact_code : (n : ℕ) → Exact pool (code_at n)
  exact_code n = exact_item n (λ _. None) (λ at bytes. Tree.code bytes) (record { prints = λ at bytes len fit. refl; placed = λ at bytes. tt; fits = λ at bytes fit ok. tt })

  exact_use : (kind : UseKind) → Exact pool (index_at pool kind)
  unfolding index_at
  exact_use kind = exact_item 2 (λ bytes. misfit pool kind (from_be_bytes w16 bytes)) (λ at bytes. Tree.used (record { at = at; kind = kind; index = from_be_bytes w16 bytes })) (record {
    prints = λ at bytes len fit. be_bytes_2 bytes _ len fit refl;
    placed = λ at bytes. refl;
    fits = λ at bytes fit ok. record { small = omega (arith, fit 0, fit 1); fits = ok };
  })

  exact_fenced : (n : ℕ) (body : Reader) → Exact pool body → Exact pool (fenced n body)
  exact_fenced n body p = record {
    runs = λ at s got e bytes.
        let o = fenced_ok n body at s got e in
        let one : Taken pool at (take n s) o.a = p.runs at (take n s) o.a o.body_ok (IsBytes-take n s bytes) in
        subst (λ (x : Got). Taken pool at s x) o.is (record {
          parts = sym (take-append-drop n s) ∙ ap (λ (t : List ℕ). t ++ drop n s) (one.parts ∙ ap (λ (t : List ℕ). print o.a.tree ++ t) (empty o.a.left o.all) ∙ append-nil (print o.a.tree));
          at = let all : length (take n s) ≡ n = length-take-le n s o.room in omega (arith, all, o.all, ap length one.parts, length-append (print o.a.tree) o.a.left);
          placed = one.placed;
          fits = one.fits;
          left = IsBytes-drop n s bytes;
        });
  }

  exact_attribute : (body : ℕ → List ℕ → Reader) → ((n : ℕ) (name : List ℕ) → Exact pool (body n name)) → Exact pool (attribute_at pool body)
  unfolding attribute_at
  exact_attribute body p = exact_then _ _ (exact_use kinds.AttrName) (λ name. exact_then _ _ (exact_number w32 any) (λ n. exact_fenced (value_of w32 n) (body (value_of w32 n) (name_of pool name)) (p (value_of w32 n) (name_of pool name))))

  pub exact : (l : Layout) → Exact pool (read pool l)
  unfolding read
  exact (Layout.number w check) = exact_number w check
  exact (Layout.sized w check) = exact_then _ _ (exact_number w check) (λ k. exact_code (value_of w k))
  exact (Layout.raw n) = exact_raw n
  exact (Layout.index kind) = exact_use kind
  exact Layout.nothing = exact_nothing
  exact (Layout.row a b) = exact_then _ _ (exact a) (λ _. exact b)
  exact (Layout.table w l) = exact_then _ _ (exact_number w any) (λ k. exact_times (value_of w k) (read pool l) (exact l))
  exact (Layout.tagged check branch) = exact_then _ _ (exact_number w8 check) (λ tag. exact (branch (value_of w8 tag)))
  exact (Layout.attributes body) = exact_then _ _ (exact_number w16 any) (λ k. exact_times (value_of w16 k) _ (exact_attribute (λ n name. read pool (body n name)) (λ n name. exact (body n name))))
  exact (Layout.member l) = exact_member (read pool l) (exact l)
  exact (Layout.fault kind) = record { runs = λ at s got e bytes. absurd cc }
