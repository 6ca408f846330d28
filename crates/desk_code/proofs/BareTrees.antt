-- Trees without members, and without code arrays.
use Rattle.std.proofs.Common.{◌≡◌, ℕ, zero, suc, ◌+◌, Bool, true, false, List, [], ◌++◌, length, map, Option, None, Ok, refl, sym, ap, ap₂, subst, ◌∙◌, append_assoc, append-nil}
use Rattle.std.specs.Int.{Width, w8, w16, w32, byte_len, from_be_bytes}
use Rattle.std.proofs.lemmas.List.{map-append}
use Rattle.desk_base.specs.declared.kinds.UseKind.{UseKind}
use Rattle.desk_base.specs.declared.kinds.UseKind.TheVariants as kinds
use Rattle.desk_base.specs.declared.faults.FaultKind.{FaultKind}
use Rattle.desk_base.specs.Entries.{Pool}
use Rattle.desk_base.specs.Names.{Text}
use Rattle.desk_base.specs.Misfits.{misfit}
use Rattle.desk_format.specs.Trees.{Tree, Use, print}
use Rattle.desk_format.specs.Layouts.{Layout, Check, any}
use Rattle.desk_format.specs.Reading.{Got, Reader, item, number_at, raw_at, index_at, nothing_at, and_then, times, value_of, name_of, fenced, attribute_at, read}
use Rattle.desk_format.proofs.Steps.{ok_is, then_ok, item_ok, fenced_ok}
use Rattle.desk_code.specs.Codes.{CodeArray, code_arrays}
use Rattle.desk_code.specs.Gathering.{MemberCode, Found, found_in}

-- no member, and a code array only where one may stand
abbrev pub Bare : Bool → Tree Use → Type 0
Bare allow Tree.nothing = Unit {0}
Bare allow (Tree.number b) = Unit {0}
Bare allow (Tree.raw b) = Unit {0}
Bare allow (Tree.code b) = allow ≡ true
Bare allow (Tree.used u) = Unit {0}
Bare allow (Tree.both a b) = Bare allow a × Bare allow b
Bare allow (Tree.member a) = ⊥

-- ---- what is found in them

abbrev pub member_code : ℕ → CodeArray → MemberCode
member_code member a = record { member = member; at = a.at; code = a.code }

pub record Finds (f : Found) (at : ℕ) (t : Tree Use) : Type 0 where
  pub member : (found_in f at t).member ≡ f.member
  pub codes : (found_in f at t).codes ≡ f.codes ++ map (member_code f.member) (code_arrays at t)

none_more : (f : Found) → f.codes ≡ f.codes ++ map (member_code f.member) []
none_more f = sym (append-nil f.codes)

pub finds : (f : Found) (at : ℕ) (t : Tree Use) → Bare true t → Finds f at t
finds f at Tree.nothing h = record { member = refl; codes = none_more f }
finds f at (Tree.number b) h = record { member = refl; codes = none_more f }
finds f at (Tree.raw b) h = record { member = refl; codes = none_more f }
finds f at (Tree.code b) h = record { member = refl; codes = refl }
finds f at (Tree.used u) h = record { member = refl; codes = none_more f }
finds f at (Tree.both a b) h =
    let p : Finds f at a = finds f at a h.0 in
    let g : Found = found_in f at a in
    let q : Finds g (at + length (print a)) b = finds g (at + length (print a)) b h.1 in
    record {
      member = q.member ∙ p.member;
      codes =
          q.codes
          ∙ ap₂ (λ (cs : List MemberCode) (m : ℕ). cs ++ map (member_code m) (code_arrays (at + length (print a)) b)) p.codes p.member
          ∙ append_assoc f.codes (map (member_code f.member) (code_arrays at a)) (map (member_code f.member) (code_arrays (at + length (print a)) b))
          ∙ ap (λ (cs : List MemberCode). f.codes ++ cs) (sym (map-append (member_code f.member) (code_arrays at a) (code_arrays (at + length (print a)) b)));
    }
finds f at (Tree.member a) h = absurd h

pub no_arrays : (at : ℕ) (t : Tree Use) → Bare false t → code_arrays at t ≡ []
no_arrays at Tree.nothing h = refl
no_arrays at (Tree.number b) h = refl
no_arrays at (Tree.raw b) h = refl
no_arrays at (Tree.code b) h = absurd cc
no_arrays at (Tree.used u) h = refl
no_arrays at (Tree.both a b) h = ap₂ (λ (x y : List CodeArray). x ++ y) (no_arrays at a h.0) (no_arrays (at + length (print a)) b h.1)
no_arrays at (Tree.member a) h = absurd h

-- ---- layouts that read into them

abbrev pub BareLayout : Bool → Layout → Type 0
BareLayout allow (Layout.number w check) = Unit {0}
BareLayout allow (Layout.sized w check) = allow ≡ true
BareLayout allow (Layout.raw n) = Unit {0}
BareLayout allow (Layout.index kind) = Unit {0}
BareLayout allow Layout.nothing = Unit {0}
BareLayout allow (Layout.row a b) = BareLayout allow a × BareLayout allow b
BareLayout allow (Layout.table w each) = BareLayout allow each
BareLayout allow (Layout.tagged check branch) = (n : ℕ) → BareLayout allow (branch n)
BareLayout allow (Layout.attributes body) = (n : ℕ) (name : Text) → BareLayout allow (body n name)
BareLayout allow (Layout.member each) = ⊥
BareLayout allow (Layout.fault kind) = Unit {0}

pub record Reads (allow : Bool) (reader : Reader) : Type 0 where
  pub runs : (at : ℕ) (s : List ℕ) (got : Got) → reader at s ≡ Ok got → Bare allow got.tree

module _ (allow : Bool) (pool : Pool) where
  bare_item : (n : ℕ) (check : List ℕ → Option FaultKind) (leaf : ℕ → List ℕ → Tree Use) → ((at : ℕ) (bytes : List ℕ) → Bare allow (leaf at bytes)) → Reads allow (item n check leaf)
  bare_item n check leaf h = record { runs = λ at s got e. subst (λ (x : Got). Bare allow x.tree) (item_ok n check leaf at s got e).is (h at _) }

  bare_number : (w : Width) (check : Check) → Reads allow (number_at w check)
  unfolding number_at
  bare_number w check = bare_item (byte_len w) (λ bytes. check (from_be_bytes w bytes)) (λ at bytes. Tree.number bytes) (λ at bytes. tt)

  bare_raw : (n : ℕ) → Reads allow (raw_at n)
  unfolding raw_at
  bare_raw n = bare_item n (λ _. None) (λ at bytes. Tree.raw bytes) (λ at bytes. tt)

  bare_index : (kind : UseKind) → Reads allow (index_at pool kind)
  unfolding index_at
  bare_index kind = bare_item 2 (λ bytes. misfit pool kind (from_be_bytes w16 bytes)) (λ at bytes. Tree.used (record { at = at; kind = kind; index = from_be_bytes w16 bytes })) (λ at bytes. tt)

  bare_then : (one : Reader) (two : Tree Use → Reader) → Reads allow one → ((t : Tree Use) → Reads allow (two t)) → Reads allow (and_then one two)
  bare_then one two p q = record {
    runs = λ at s got e.
        let o = then_ok one two at s got e in
        subst (λ (x : Got). Bare allow x.tree) o.is (p.runs at s o.a o.first_ok, (q o.a.tree).runs o.a.at o.a.left o.b o.second_ok);
  }

  bare_nothing : Reads allow nothing_at
  unfolding nothing_at
  bare_nothing = record { runs = λ at s got e. subst (λ (x : Got). Bare allow x.tree) (ok_is _ _ e) tt }

  bare_times : (n : ℕ) (reader : Reader) → Reads allow reader → Reads allow (times n reader)
  unfolding times
  bare_times zero reader p = bare_nothing
  bare_times (suc n) reader p = bare_then reader _ p (λ t. bare_times n reader p)

  bare_fenced : (n : ℕ) (body : Reader) → Reads allow body → Reads allow (fenced n body)
  bare_fenced n body p = record {
    runs = λ at s got e.
        let o = fenced_ok n body at s got e in
        subst (λ (x : Got). Bare allow x.tree) o.is (p.runs at _ o.a o.body_ok);
  }

  bare_attribute : (body : ℕ → Text → Reader) → ((n : ℕ) (name : Text) → Reads allow (body n name)) → Reads allow (attribute_at pool body)
  unfolding attribute_at
  bare_attribute body p =
      bare_then _ _ (bare_index kinds.AttrName) (λ name. bare_then _ _ (bare_number w32 any) (λ n. bare_fenced (value_of w32 n) (body (value_of w32 n) (name_of pool name)) (p (value_of w32 n) (name_of pool name))))

  pub bare : (l : Layout) → BareLayout allow l → Reads allow (read pool l)
  unfolding read
  bare (Layout.number w check) h = bare_number w check
  bare (Layout.sized w check) h = bare_then _ _ (bare_number w check) (λ k. bare_item (value_of w k) (λ _. None) (λ at bytes. Tree.code bytes) (λ at bytes. h))
  bare (Layout.raw n) h = bare_raw n
  bare (Layout.index kind) h = bare_index kind
  bare Layout.nothing h = bare_nothing
  bare (Layout.row a b) h = bare_then _ _ (bare a h.0) (λ _. bare b h.1)
  bare (Layout.table w each) h = bare_then _ _ (bare_number w any) (λ k. bare_times (value_of w k) (read pool each) (bare each h))
  bare (Layout.tagged check branch) h = bare_then _ _ (bare_number w8 check) (λ tag. bare (branch (value_of w8 tag)) (h (value_of w8 tag)))
  bare (Layout.attributes body) h =
      bare_then _ _ (bare_number w16 any) (λ k. bare_times (value_of w16 k) _ (bare_attribute (λ n name. read pool (body n name)) (λ n name. bare (body n name) (h n name))))
  bare (Layout.member each) h = absurd h
  bare (Layout.fault kind) h = record { runs = λ at s got e. absurd cc }
