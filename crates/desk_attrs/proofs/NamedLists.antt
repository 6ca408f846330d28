-- Names by their lengths.
use Rattle.std.proofs.Common.{◌≡◌, ◌≢◌, ℕ, Bool, true, false, ◌&&◌, not, List, [], ◌∷◌, length, None, nat_eq, ne_eqb, refl, sym, ap, ◌∙◌}
use Rattle.std.specs.List.{list_all}
use Rattle.desk_base.specs.Names.{Text}
use Rattle.desk_format.specs.declared.attributes.Attribute.{Attribute}
use Rattle.desk_format.specs.Attributes.{attribute_name, first_named, all_attributes, attribute_named}
use Rattle.desk_format.proofs.Named.{of_length, named_by_length}

none_named : (n : ℕ) (as' : List Attribute) → list_all (λ a. not (nat_eq (length (attribute_name a)) n)) as' ≡ true → of_length n as' ≡ []
none_named n [] h = refl
none_named n (a ∷ more) h = by (nat_eq (length (attribute_name a)) n) refl h (none_named n more) where
  by : (b : Bool) → nat_eq (length (attribute_name a)) n ≡ b → (not b && list_all (λ x. not (nat_eq (length (attribute_name x)) n)) more) ≡ true
      → (list_all (λ x. not (nat_eq (length (attribute_name x)) n)) more ≡ true → of_length n more ≡ []) → of_length n (a ∷ more) ≡ []
  by true e h k = cc
  by false e h k = rw e (k h)

pub named_at : (size n : ℕ) (list : List Attribute) → size ≡ n → of_length n all_attributes ≡ list → (name : Text) → length name ≡ size → attribute_named name ≡ first_named name list
named_at size n list e is name h = named_by_length name n (h ∙ e) ∙ ap (first_named name) is

no_length : (n : ℕ) → n ≢ 4 → n ≢ 6 → n ≢ 8 → n ≢ 9 → n ≢ 10 → n ≢ 11 → n ≢ 12 → n ≢ 13 → n ≢ 14 → n ≢ 15 → n ≢ 16 → n ≢ 17 → n ≢ 18 → n ≢ 19 → n ≢ 20 → n ≢ 22 → n ≢ 25 → n ≢ 27 → n ≢ 29 → n ≢ 31 → n ≢ 34 → n ≢ 36 → list_all (λ a. not (nat_eq (length (attribute_name a)) n)) all_attributes ≡ true
no_length n h4 h6 h8 h9 h10 h11 h12 h13 h14 h15 h16 h17 h18 h19 h20 h22 h25 h27 h29 h31 h34 h36 =
    let e4 : nat_eq 4 n ≡ false = ne_eqb 4 n (λ e. h4 (sym e)) in
    let e6 : nat_eq 6 n ≡ false = ne_eqb 6 n (λ e. h6 (sym e)) in
    let e8 : nat_eq 8 n ≡ false = ne_eqb 8 n (λ e. h8 (sym e)) in
    let e9 : nat_eq 9 n ≡ false = ne_eqb 9 n (λ e. h9 (sym e)) in
    let e10 : nat_eq 10 n ≡ false = ne_eqb 10 n (λ e. h10 (sym e)) in
    let e11 : nat_eq 11 n ≡ false = ne_eqb 11 n (λ e. h11 (sym e)) in
    let e12 : nat_eq 12 n ≡ false = ne_eqb 12 n (λ e. h12 (sym e)) in
    let e13 : nat_eq 13 n ≡ false = ne_eqb 13 n (λ e. h13 (sym e)) in
    let e14 : nat_eq 14 n ≡ false = ne_eqb 14 n (λ e. h14 (sym e)) in
    let e15 : nat_eq 15 n ≡ false = ne_eqb 15 n (λ e. h15 (sym e)) in
    let e16 : nat_eq 16 n ≡ false = ne_eqb 16 n (λ e. h16 (sym e)) in
    let e17 : nat_eq 17 n ≡ false = ne_eqb 17 n (λ e. h17 (sym e)) in
    let e18 : nat_eq 18 n ≡ false = ne_eqb 18 n (λ e. h18 (sym e)) in
    let e19 : nat_eq 19 n ≡ false = ne_eqb 19 n (λ e. h19 (sym e)) in
    let e20 : nat_eq 20 n ≡ false = ne_eqb 20 n (λ e. h20 (sym e)) in
    let e22 : nat_eq 22 n ≡ false = ne_eqb 22 n (λ e. h22 (sym e)) in
    let e25 : nat_eq 25 n ≡ false = ne_eqb 25 n (λ e. h25 (sym e)) in
    let e27 : nat_eq 27 n ≡ false = ne_eqb 27 n (λ e. h27 (sym e)) in
    let e29 : nat_eq 29 n ≡ false = ne_eqb 29 n (λ e. h29 (sym e)) in
    let e31 : nat_eq 31 n ≡ false = ne_eqb 31 n (λ e. h31 (sym e)) in
    let e34 : nat_eq 34 n ≡ false = ne_eqb 34 n (λ e. h34 (sym e)) in
    let e36 : nat_eq 36 n ≡ false = ne_eqb 36 n (λ e. h36 (sym e)) in
    rw (e4, e6, e8, e9, e10, e11, e12, e13, e14, e15, e16, e17, e18, e19, e20, e22, e25, e27, e29, e31, e34, e36) refl

-- no name has any other length
pub named_nowhere : (n : ℕ) → n ≢ 4 → n ≢ 6 → n ≢ 8 → n ≢ 9 → n ≢ 10 → n ≢ 11 → n ≢ 12 → n ≢ 13 → n ≢ 14 → n ≢ 15 → n ≢ 16 → n ≢ 17 → n ≢ 18 → n ≢ 19 → n ≢ 20 → n ≢ 22 → n ≢ 25 → n ≢ 27 → n ≢ 29 → n ≢ 31 → n ≢ 34 → n ≢ 36 → (name : Text) → length name ≡ n → attribute_named name ≡ None
named_nowhere n h4 h6 h8 h9 h10 h11 h12 h13 h14 h15 h16 h17 h18 h19 h20 h22 h25 h27 h29 h31 h34 h36 name e = named_by_length name n e ∙ ap (first_named name) (none_named n all_attributes (no_length n h4 h6 h8 h9 h10 h11 h12 h13 h14 h15 h16 h17 h18 h19 h20 h22 h25 h27 h29 h31 h34 h36))
