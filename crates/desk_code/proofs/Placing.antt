-- The code arrays of a class's body are those of its methods.
use Rattle.std.proofs.Common.{◌≡◌, ℕ, zero, suc, ◌+◌, Bool, true, false, cond, List, [], ◌∷◌, ◌++◌, length, map, take, drop, Ok, refl, sym, ap, ap₂, subst, ◌∙◌, append_assoc, append-nil, arith, drop-drop, length-append}
use Rattle.std.specs.Int.{w16, from_be_bytes}
use Rattle.std.proofs.lemmas.List.{map-append, drop_at}
use Rattle.desk_base.specs.Entries.{Pool}
use Rattle.desk_format.specs.declared.members.Member.{Member}
use Rattle.desk_format.specs.declared.attributes.Location.TheVariants as locations
use Rattle.desk_format.specs.Trees.{Tree, Use, print}
use Rattle.desk_format.specs.Members.{member_in}
use Rattle.desk_format.specs.Layouts.{Layout, any}
use Rattle.desk_format.specs.Rows.{many}
use Rattle.desk_format.specs.ClassBody.{field_info, method_info, class_body}
use Rattle.desk_format.specs.Laws.{IsBytes}
use Rattle.desk_format.specs.Reading.{Got, Reader, number_at, nothing_at, and_then, times, value_of, read}
use Rattle.desk_format.proofs.Steps.{ok_is, then_ok, member_ok}
use Rattle.desk_format.proofs.Exact.{Taken, exact}
use Rattle.desk_class.specs.Scan.{member_layout, member_ahead}
use Rattle.desk_class.proofs.Heads.{member_read}
use Rattle.desk_code.specs.declared.places.CodeAt.{CodeAt}
use Rattle.desk_code.specs.Codes.{CodeArray, code_arrays, code_at, codes_of_members, method_codes}
use Rattle.desk_code.specs.Gathering.{MemberCode, Found, none_found, found_in, number_behind, placed_code}
use Rattle.desk_code.proofs.BareTrees.{Bare, BareLayout, member_code, Finds, finds, no_arrays, bare}
use Rattle.desk_code.proofs.BareLayouts.{bare_slots, bare_attributes}

module _ (bytes : List ℕ) where
  -- what stands at the head of a member, whose tree begins at an offset
  pub record IsMember (at : ℕ) (a : Tree Use) (m : Member) : Type 0 where
    pub only : member_in a ≡ m ∷ []
    pub place : m.at ≡ at
    pub name : m.name ≡ number_behind (at + 2) bytes
    pub descriptor : m.descriptor ≡ number_behind (at + 4) bytes
    pub bare_tree : Bare true a
    pub field_bare : m.method ≡ false → code_arrays at a ≡ []

  -- each member is one, and code stands in members alone
  abbrev pub Good : ℕ → Tree Use → Type 0
  Good at (Tree.code b) = ⊥
  Good at (Tree.both a b) = Good at a × Good (at + length (print a)) b
  Good at (Tree.member a) = (m : Member) × IsMember at a m
  Good at _ = Unit {0}

  bare_good : (at : ℕ) (t : Tree Use) → Bare false t → Good at t
  bare_good at Tree.nothing h = tt
  bare_good at (Tree.number b) h = tt
  bare_good at (Tree.raw b) h = tt
  bare_good at (Tree.code b) h = absurd cc
  bare_good at (Tree.used u) h = tt
  bare_good at (Tree.both a b) h = (bare_good at a h.0, bare_good (at + length (print a)) b h.1)
  bare_good at (Tree.member a) h = absurd h

  -- ---- trees

  abbrev all : List MemberCode → List CodeAt
  all = map (placed_code bytes)

  nothing_new : (f : Found) → all f.codes ≡ all f.codes ++ []
  nothing_new f = sym (append-nil (all f.codes))

  placed : (at : ℕ) (m : Member) → m.at ≡ at → m.name ≡ number_behind (at + 2) bytes → m.descriptor ≡ number_behind (at + 4) bytes → (as' : List CodeArray) → all (map (member_code at) as') ≡ map (code_at m) as'
  placed at m p q r [] = refl
  placed at m p q r (a ∷ as') =
      ap₂ (λ (x : CodeAt) (xs : List CodeAt). x ∷ xs) (
      ap (λ (n : ℕ). record { member = n; name = number_behind (at + 2) bytes; descriptor = number_behind (at + 4) bytes; at = a.at; length = length a.code }) (sym p)
      ∙ ap (λ (n : ℕ). record { member = m.at; name = n; descriptor = number_behind (at + 4) bytes; at = a.at; length = length a.code }) (sym q)
      ∙ ap (λ (n : ℕ). record { member = m.at; name = m.name; descriptor = n; at = a.at; length = length a.code }) (sym r)
      ) (placed at m p q r as')

  in_member : (at : ℕ) (a : Tree Use) (m : Member) → IsMember at a m → all (map (member_code at) (code_arrays at a)) ≡ codes_of_members (member_in a) (code_arrays at a)
  in_member at a m h = by_kind m.method refl ∙ sym (ap (λ (ms : List Member). codes_of_members ms (code_arrays at a)) h.only) where
    by_kind : (b : Bool) → m.method ≡ b → all (map (member_code at) (code_arrays at a)) ≡ codes_of_members (m ∷ []) (code_arrays at a)
    by_kind true e = placed at m h.place h.name h.descriptor (code_arrays at a) ∙ sym (append-nil (map (code_at m) (code_arrays at a))) ∙ ap (λ (b : Bool). cond b (map (code_at m) (code_arrays at a)) [] ++ []) (sym e)
    by_kind false e = ap (λ (as' : List CodeArray). all (map (member_code at) as')) (h.field_bare e) ∙ ap (λ (b : Bool). cond b (map (code_at m) (code_arrays at a)) [] ++ []) (sym e)

  found_codes : (f : Found) (at : ℕ) (t : Tree Use) → Good at t → all (found_in f at t).codes ≡ all f.codes ++ method_codes at t
  found_codes f at Tree.nothing h = nothing_new f
  found_codes f at (Tree.number b) h = nothing_new f
  found_codes f at (Tree.raw b) h = nothing_new f
  found_codes f at (Tree.code b) h = absurd h
  found_codes f at (Tree.used u) h = nothing_new f
  found_codes f at (Tree.both a b) h =
      found_codes (found_in f at a) (at + length (print a)) b h.1
      ∙ ap (λ (cs : List CodeAt). cs ++ method_codes (at + length (print a)) b) (found_codes f at a h.0)
      ∙ append_assoc (all f.codes) (method_codes at a) (method_codes (at + length (print a)) b)
  found_codes f at (Tree.member a) h =
      let g : Found = record { member = at; codes = f.codes } in
      let p : Finds g at a = finds g at a h.1.bare_tree in
      ap all p.codes ∙ map-append (placed_code bytes) f.codes (map (member_code at) (code_arrays at a)) ∙ ap (λ (cs : List CodeAt). all f.codes ++ cs) (in_member at a h.0 h.1)

  -- ---- what is read

  record Went (at : ℕ) (got : Got) : Type 0 where
    good : Good at got.tree
    place : got.at ≡ at + length (print got.tree)
    left : got.left ≡ drop got.at bytes
    each : IsBytes got.left

  record Goes (reader : Reader) : Type 0 where
    runs : (at : ℕ) (s : List ℕ) (got : Got) → reader at s ≡ Ok got → s ≡ drop at bytes → IsBytes s → Went at got

  module _ (pool : Pool) where
    by_layout : (l : Layout) → ((at : ℕ) (s : List ℕ) (got : Got) → read pool l at s ≡ Ok got → s ≡ drop at bytes → Good at got.tree) → Goes (read pool l)
    by_layout l h = record {
      runs = λ at s got e is each.
          let t : Taken pool at s got = (exact pool l).runs at s got e each in
          record {
            good = h at s got e is;
            place = t.at;
            left =
                sym (ap (drop (length (print got.tree))) t.parts ∙ drop_at (print got.tree) got.left (length (print got.tree)) refl)
                ∙ ap (drop (length (print got.tree))) is
                ∙ drop-drop (length (print got.tree)) at bytes
                ∙ ap (λ (n : ℕ). drop n bytes) (sym t.at);
            each = t.left;
          };
    }

    bare_goes : (l : Layout) → BareLayout false l → Goes (read pool l)
    bare_goes l h = by_layout l (λ at s got e is. bare_good at got.tree ((bare false pool l h).runs at s got e))

    goes_then : (one : Reader) (two : Tree Use → Reader) → Goes one → ((t : Tree Use) → Goes (two t)) → Goes (and_then one two)
    goes_then one two p q = record {
      runs = λ at s got e is each.
          let o = then_ok one two at s got e in
          let a : Went at o.a = p.runs at s o.a o.first_ok is each in
          let b : Went o.a.at o.b = (q o.a.tree).runs o.a.at o.a.left o.b o.second_ok a.left a.each in
          subst (λ (x : Got). Went at x) o.is (record {
            good = (a.good, subst (λ (n : ℕ). Good n o.b.tree) a.place b.good);
            place = b.place ∙ ap (λ (n : ℕ). n + length (print o.b.tree)) a.place ∙ sizes at (print o.a.tree) (print o.b.tree);
            left = b.left;
            each = b.each;
          });
    } where
      sizes : (n : ℕ) (x y : List ℕ) → n + length x + length y ≡ n + length (x ++ y)
      sizes n x y = omega (arith, length-append x y)

    goes_nothing : Goes nothing_at
    unfolding nothing_at
    goes_nothing = record {
      runs = λ at s got e is each. subst (λ (x : Got). Went at x) (ok_is _ _ e) (record { good = tt; place = omega arith; left = is; each = each });
    }

    goes_times : (n : ℕ) (reader : Reader) → Goes reader → Goes (times n reader)
    unfolding times
    goes_times zero reader p = goes_nothing
    goes_times (suc n) reader p = goes_then reader _ p (λ t. goes_times n reader p)

    goes_number : Goes (number_at w16 any)
    unfolding read
    goes_number = bare_goes (Layout.number w16 any) tt

    goes_many : (l : Layout) → Goes (read pool l) → Goes (read pool (many l))
    unfolding read
    goes_many l p = goes_then (number_at w16 any) _ goes_number (λ k. goes_times (value_of w16 k) (read pool l) p)

    goes_row : (a b : Layout) → Goes (read pool a) → Goes (read pool b) → Goes (read pool (Layout.row a b))
    unfolding read
    goes_row a b p q = goes_then (read pool a) _ p (λ _. q)

    -- ---- a field or a method

    bare_member : (method : Bool) → BareLayout true (member_layout method)
    bare_member true = (bare_slots true _, bare_attributes true locations.OfMethod (λ e. refl))
    bare_member false = (bare_slots true _, bare_attributes true locations.OfField (λ e. refl))

    bare_field : BareLayout false (member_layout false)
    bare_field = (bare_slots false _, bare_attributes false locations.OfField (λ e. absurd cc))

    member_good : (method : Bool) (at : ℕ) (s : List ℕ) (got : Got) → read pool (Layout.member (member_layout method)) at s ≡ Ok got → s ≡ drop at bytes → Good at got.tree
    unfolding read
    member_good method at s got e is =
        let o = member_ok (read pool (member_layout method)) at s got e in
        let m : Member = member_ahead method (record { at = at; left = s }) in
        subst (λ (x : Got). Good at x.tree) o.is (
          m,
          record {
            only = member_read pool method at s o.a o.first_ok;
            place = refl;
            name = ap (λ (z : List ℕ). from_be_bytes w16 (take 2 z)) (ap (drop 2) is ∙ drop-drop 2 at bytes);
            descriptor = ap (λ (z : List ℕ). from_be_bytes w16 (take 2 z)) (ap (λ (z : List ℕ). drop 2 (drop 2 z)) is ∙ ap (drop 2) (drop-drop 2 at bytes) ∙ drop-drop 2 (at + 2) bytes ∙ ap (λ (n : ℕ). drop n bytes) (four at));
            bare_tree = (bare true pool (member_layout method) (bare_member method)).runs at s o.a o.first_ok;
            field_bare = no_code method at s o.a o.first_ok;
          },
        )
      where
        four : (n : ℕ) → n + 2 + 2 ≡ n + 4
        four n = omega arith

        no_code : (method : Bool) (at : ℕ) (s : List ℕ) (a : Got) → read pool (member_layout method) at s ≡ Ok a → method ≡ false → code_arrays at a.tree ≡ []
        no_code true at s a e k = absurd cc
        no_code false at s a e k = no_arrays at a.tree ((bare false pool (member_layout false) bare_field).runs at s a e)

    goes_member : (method : Bool) → Goes (read pool (Layout.member (member_layout method)))
    goes_member method = by_layout (Layout.member (member_layout method)) (member_good method)

    body_goes : Goes (read pool class_body)
    unfolding class_body
    body_goes =
        goes_row _ _ (bare_goes _ (bare_slots false _))
        (goes_row _ _ (bare_goes _ (bare_slots false _))
        (goes_row _ _ (goes_many field_info (goes_member false))
        (goes_row _ _ (goes_many method_info (goes_member true))
        (goes_row _ _ (bare_goes _ (bare_attributes false locations.OfClass (λ e. absurd cc))) (bare_goes Layout.nothing tt)))))

    pub body_codes : (at : ℕ) (s : List ℕ) (got : Got) → read pool class_body at s ≡ Ok got → s ≡ drop at bytes → IsBytes s → all (found_in none_found at got.tree).codes ≡ method_codes at got.tree
    body_codes at s got e is each = found_codes none_found at got.tree (body_goes.runs at s got e is each).good

    pub body_good : (at : ℕ) (s : List ℕ) (got : Got) → read pool class_body at s ≡ Ok got → s ≡ drop at bytes → IsBytes s → Good at got.tree
    body_good at s got e is each = (body_goes.runs at s got e is each).good
