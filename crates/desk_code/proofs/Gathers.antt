-- What a reader reads, the walk goes along.
use Rattle.std.proofs.Common.{◌≡◌, ℕ, zero, suc, ◌+◌, ◌≤◌, List, length, take, drop, Option, Some, None, Ok, refl, sym, ap, subst, ◌∙◌, arith, length-append, length-take-le, length-drop}
use Rattle.std.specs.Int.{Width, w8, w16, w32, byte_len, from_be_bytes}
use Rattle.std.proofs.lemmas.Bool.{le-leb}
use Rattle.desk_base.specs.declared.kinds.UseKind.{UseKind}
use Rattle.desk_base.specs.declared.kinds.UseKind.TheVariants as kinds
use Rattle.desk_base.specs.declared.faults.FaultKind.{FaultKind}
use Rattle.desk_base.specs.Entries.{Pool, text_at}
use Rattle.desk_base.specs.Names.{Text}
use Rattle.desk_base.specs.Misfits.{misfit}
use Rattle.desk_format.specs.Trees.{Tree, Use, print}
use Rattle.desk_format.specs.Layouts.{Layout, Check, any}
use Rattle.desk_format.specs.ClassBody.{class_body}
use Rattle.desk_format.specs.Reading.{member_at, Got, Reader, item, number_at, raw_at, code_at, index_at, nothing_at, and_then, times, value_of, name_of, fenced, attribute_at, read}
use Rattle.desk_format.proofs.Steps.{member_ok, ok_is, then_ok, item_ok, fenced_ok}
use Rattle.desk_parts.specs.Steps.{Steps, on, counted, fence_on, attribute_on, times_on, along}
use Rattle.desk_code.specs.Gathering.{Found, none_found, with_code, found_in, Gather, gather, past, number_ahead, gathering}

abbrev pub Step : Type 0
Step = Gather → Option Gather

pub record Went (at : ℕ) (s : List ℕ) (got : Got) (m : Step) : Type 0 where
  pub size : length s ≡ length (print got.tree) + length got.left
  pub place : got.at ≡ at + length (print got.tree)
  pub goes : (found : Found) → m (gather at s found) ≡ Some (gather got.at got.left (found_in found at got.tree))

pub record Gathers (reader : Reader) (m : Step) : Type 0 where
  pub runs : (at : ℕ) (s : List ℕ) (got : Got) → reader at s ≡ Ok got → Went at s got m

module _ (pool : Pool) where
  by : Steps Gather
  by = gathering pool

  pub record LeafGathers (n : ℕ) (leaf : ℕ → List ℕ → Tree Use) (m : Step) : Type 0 where
    pub size : (at : ℕ) (bytes : List ℕ) → length bytes ≡ n → length (print (leaf at bytes)) ≡ n
    pub goes : (at : ℕ) (s : List ℕ) (found : Found) → n ≤ length s → m (gather at s found) ≡ Some (gather (at + n) (drop n s) (found_in found at (leaf at (take n s))))

  gathers_item : (n : ℕ) (check : List ℕ → Option FaultKind) (leaf : ℕ → List ℕ → Tree Use) (m : Step) → LeafGathers n leaf m → Gathers (item n check leaf) m
  gathers_item n check leaf m h = record {
    runs = λ at s got e.
        let o = item_ok n check leaf at s got e in
        let one : length (print (leaf at (take n s))) ≡ n = h.size at (take n s) (length-take-le n s o.room) in
        subst (λ (x : Got). Went at s x m) o.is (record {
          size = omega (arith, one, length-drop n s, o.room);
          place = omega (arith, one);
          goes = λ found. h.goes at s found o.room;
        });
  }

  goes_past : (n at : ℕ) (s : List ℕ) (found new : Found) → n ≤ length s → past n new (gather at s found) ≡ Some (gather (at + n) (drop n s) new)
  goes_past n at s found new room = rw (le-leb n (length s) room) refl

  gathers_number : (w : Width) (check : Check) → Gathers (number_at w check) ((gathering pool).bytes (byte_len w))
  unfolding number_at
  gathers_number w check =
      gathers_item (byte_len w) (λ bytes. check (from_be_bytes w bytes)) (λ at bytes. Tree.number bytes) _
      (record { size = λ at bytes len. len; goes = λ at s found room. goes_past (byte_len w) at s found found room })

  gathers_raw : (n : ℕ) → Gathers (raw_at n) ((gathering pool).bytes n)
  unfolding raw_at
  gathers_raw n = gathers_item n (λ _. None) (λ at bytes. Tree.raw bytes) _ (record { size = λ at bytes len. len; goes = λ at s found room. goes_past n at s found found room })

  gathers_code : (n : ℕ) → Gathers (code_at n) ((gathering pool).code n)
  gathers_code n =
      gathers_item n (λ _. None) (λ at bytes. Tree.code bytes) _
      (record { size = λ at bytes len. len; goes = λ at s found room. goes_past n at s found (with_code found at (take n s)) room })

  gathers_index : (kind : UseKind) → Gathers (index_at pool kind) ((gathering pool).index kind)
  unfolding index_at
  gathers_index kind =
      gathers_item 2 (λ bytes. misfit pool kind (from_be_bytes w16 bytes)) (λ at bytes. Tree.used (record { at = at; kind = kind; index = from_be_bytes w16 bytes })) _
      (record { size = λ at bytes len. refl; goes = λ at s found room. goes_past 2 at s found found room })

  -- one behind the other
  gathers_then : (one : Reader) (two : Tree Use → Reader) (m : Step) (next : Gather → Step) → Gathers one m
      → ((at : ℕ) (s : List ℕ) (a : Got) (found : Found) → one at s ≡ Ok a → Gathers (two a.tree) (next (gather at s found)))
      → Gathers (and_then one two) (λ g. on (m g) (next g))
  gathers_then one two m next p q = record {
    runs = λ at s got e.
        let o = then_ok one two at s got e in
        let first = p.runs at s o.a o.first_ok in
        let some : Found = none_found in
        let size = ((q at s o.a some o.first_ok).runs o.a.at o.a.left o.b o.second_ok).size in
        let place = ((q at s o.a some o.first_ok).runs o.a.at o.a.left o.b o.second_ok).place in
        subst (λ (x : Got). Went at s x (λ g. on (m g) (next g))) o.is (record {
          size = omega (arith, first.size, size, length-append (print o.a.tree) (print o.b.tree));
          place = omega (arith, first.place, place, length-append (print o.a.tree) (print o.b.tree));
          goes = λ found.
              let second = (q at s o.a found o.first_ok).runs o.a.at o.a.left o.b o.second_ok in
              ap (λ (x : Option Gather). on x (next (gather at s found))) (first.goes found)
              ∙ second.goes (found_in found at o.a.tree)
              ∙ ap (λ (k : ℕ). Some (gather o.b.at o.b.left (found_in (found_in found at o.a.tree) k o.b.tree))) first.place;
        });
  }

  gathers_nothing : Gathers nothing_at (λ g. Some g)
  unfolding nothing_at
  gathers_nothing = record {
    runs = λ at s got e. subst (λ (x : Got). Went at s x (λ g. Some g)) (ok_is _ _ e) (record { size = sym (omega arith); place = omega arith; goes = λ found. refl });
  }

  gathers_times : (n : ℕ) (reader : Reader) (m : Step) → Gathers reader m → Gathers (times n reader) (times_on n m)
  unfolding times times_on
  gathers_times zero reader m p = gathers_nothing
  gathers_times (suc n) reader m p = gathers_then reader _ m (λ _. times_on n m) p (λ at s a found e. gathers_times n reader m p)

  gathers_member : (reader : Reader) (m : Step) → Gathers reader m → Gathers (member_at reader) (λ g. m ((gathering pool).member g))
  gathers_member reader m p = record {
    runs = λ at s got e.
        let o = member_ok reader at s got e in
        let one = p.runs at s o.a o.first_ok in
        subst (λ (x : Got). Went at s x (λ g. m ((gathering pool).member g))) o.is
        (record { size = one.size; place = one.place; goes = λ found. one.goes (record { member = at; codes = found.codes }) });
  }

  gathers_fenced : (n : ℕ) (body : Reader) (m : Step) → Gathers body m → Gathers (fenced n body) (fence_on (gathering pool) n m)
  gathers_fenced n body m p = record {
    runs = λ at s got e.
        let o = fenced_ok n body at s got e in
        let one = p.runs at (take n s) o.a o.body_ok in
        let size : length (print o.a.tree) ≡ n = omega (arith, one.size, o.all, length-take-le n s o.room) in
        subst (λ (x : Got). Went at s x (fence_on (gathering pool) n m)) o.is (record {
          size = omega (arith, size, length-drop n s, o.room);
          place = omega (arith, size);
          goes = λ found. rw (le-leb n (length s) o.room, one.goes found, o.all) refl;
        });
  }

  -- what goes by what was read
  gathers_count : (w : Width) (check : Check) (two : ℕ → Reader) (next : ℕ → Step) → ((n : ℕ) → Gathers (two n) (next n))
      → Gathers (and_then (number_at w check) (λ t. two (value_of w t))) (counted (gathering pool) w next)
  unfolding number_at
  gathers_count w check two next q =
      gathers_then (number_at w check) _ ((gathering pool).bytes (byte_len w)) (λ g. next (number_ahead w g)) (gathers_number w check)
      (λ at s a found e.
      let o = item_ok (byte_len w) (λ bytes. check (from_be_bytes w bytes)) (λ at bytes. Tree.number bytes) at s a e in
      subst (λ (x : Got). Gathers (two (value_of w x.tree)) (next (from_be_bytes w (take (byte_len w) s)))) o.is (q (from_be_bytes w (take (byte_len w) s))))

  gathers_attribute : (body : ℕ → Text → Reader) (next : ℕ → Text → Step) → ((n : ℕ) (name : Text) → Gathers (body n name) (next n name)) → Gathers (attribute_at pool body) (attribute_on (gathering pool) next)
  unfolding attribute_at index_at
  gathers_attribute body next q =
      gathers_then (index_at pool kinds.AttrName) _ ((gathering pool).index kinds.AttrName) (λ g. counted (gathering pool) w32 (λ n. fence_on (gathering pool) n (next n (text_at pool (number_ahead w16 g))))) (gathers_index kinds.AttrName)
      (λ at s a found e.
      let o = item_ok 2 (λ bytes. misfit pool kinds.AttrName (from_be_bytes w16 bytes)) (λ at bytes. Tree.used (record { at = at; kind = kinds.AttrName; index = from_be_bytes w16 bytes })) at s a e in
      let name : Text = text_at pool (from_be_bytes w16 (take 2 s)) in
      let R : Text → Reader = λ x. and_then (number_at w32 any) (λ n. fenced (value_of w32 n) (body (value_of w32 n) x)) in
      let M : Text → Step = λ x. counted (gathering pool) w32 (λ n. fence_on (gathering pool) n (next n x)) in
      subst (λ (x : Got). Gathers (R (name_of pool x.tree)) (M name)) o.is
      (gathers_count w32 any (λ n. fenced n (body n name)) (λ n. fence_on (gathering pool) n (next n name)) (λ n. gathers_fenced n (body n name) (next n name) (q n name))))

  pub gathers : (l : Layout) → Gathers (read pool l) (along (gathering pool) l)
  unfolding read along
  gathers (Layout.number w check) = gathers_number w check
  gathers (Layout.sized w check) = gathers_count w check code_at (gathering pool).code gathers_code
  gathers (Layout.raw n) = gathers_raw n
  gathers (Layout.index kind) = gathers_index kind
  gathers Layout.nothing = gathers_nothing
  gathers (Layout.row a b) = gathers_then (read pool a) _ (along (gathering pool) a) (λ _. along (gathering pool) b) (gathers a) (λ at s x found e. gathers b)
  gathers (Layout.table w l) = gathers_count w any (λ k. times k (read pool l)) (λ k. times_on k (along (gathering pool) l)) (λ k. gathers_times k (read pool l) (along (gathering pool) l) (gathers l))
  gathers (Layout.tagged check branch) = gathers_count w8 check (λ tag. read pool (branch tag)) (λ tag. along (gathering pool) (branch tag)) (λ tag. gathers (branch tag))
  gathers (Layout.attributes body) =
      let one : Reader = attribute_at pool (λ n name. read pool (body n name)) in
      let m : Step = attribute_on (gathering pool) (λ n name. along (gathering pool) (body n name)) in
      gathers_count w16 any (λ k. times k one) (λ k. times_on k m) (λ k. gathers_times k one m (gathers_attribute (λ n name. read pool (body n name)) (λ n name. along (gathering pool) (body n name)) (λ n name. gathers (body n name))))
  gathers (Layout.member l) = gathers_member (read pool l) (along (gathering pool) l) (gathers l)
  gathers (Layout.fault kind) = record { runs = λ at s got e. absurd cc }

-- Where a body reads, the walk gathers the code arrays of its tree.
pub gathered : (pool : Pool) (l : Layout) (at : ℕ) (s : List ℕ) (got : Got) (found : Found) → read pool l at s ≡ Ok got
    → along (gathering pool) l (gather at s found) ≡ Some (gather got.at got.left (found_in found at got.tree))
gathered pool l at s got found e = ((gathers pool l).runs at s got e).goes found

-- ---- a whole body

pub gathered_body : (pool : Pool) (at : ℕ) (s : List ℕ) (got : Got) (g : Gather) → along (gathering pool) class_body (gather at s none_found) ≡ Some g → read pool class_body at s ≡ Ok got
    → g.found.codes ≡ (found_in none_found at got.tree).codes
gathered_body pool at s got g h e = same (sym h ∙ gathered pool class_body at s got none_found e) where
  same : Some g ≡ Some (gather got.at got.left (found_in none_found at got.tree)) → g.found.codes ≡ (found_in none_found at got.tree).codes
  same k = let q : g ≡ gather got.at got.left (found_in none_found at got.tree) = cc in ap (λ (x : Gather). x.found.codes) q

pub never_ends : (pool : Pool) (at : ℕ) (s : List ℕ) (got : Got) → along (gathering pool) class_body (gather at s none_found) ≡ None → read pool class_body at s ≡ Ok got → ⊥
never_ends pool at s got h e = let k = gathered pool class_body at s got none_found e in cc
