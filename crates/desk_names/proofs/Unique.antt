-- A text is printed by at most one descriptor of a kind.
use Rattle.std.proofs.Common.{◌≡◌, ℕ, ◌-◌, true, false, ◌==◌, List, [], ◌∷◌, refl, sym, ap, ◌∙◌}
use Rattle.std.specs.List.{list_all}
use Rattle.std.proofs.lemmas.Bool.{and_parts, both_ways}
use Rattle.desk_base.specs.Names.{Text, is_reserved}
use Rattle.desk_names.proofs.Bytes.{class_name_is}
use Rattle.desk_base.specs.Descriptors.{FieldType, Returned, Descriptor, DescriptorKind, type_text, types_text, returned_text, text_with, as_is, print, is_base, is_type, is_returned, is_formed, kind_of, IsDescriptor, most_dimensions}
use Rattle.desk_names.proofs.Cuts.{Same, head_is, tail_is, cut}

-- a byte that begins no base type
not_base : (c x : ℕ) → is_base c ≡ true → is_base x ≡ false → c ≡ x → ⊥
not_base c x h k e = both_ways (is_base x) k (ap is_base (sym e) ∙ h)

pub one_type : (n m : ℕ) (a b : FieldType) (s t : Text) → is_type n a ≡ true → is_type m b ≡ true → type_text as_is a s ≡ type_text as_is b t → Same FieldType a b s t
unfolding type_text is_type
one_type n m (FieldType.base c) (FieldType.base d) s t h k e = record { first = ap FieldType.base (head_is _ _ _ _ e); left = tail_is _ _ _ _ e }
one_type n m (FieldType.base c) (FieldType.class y) s t h k e = absurd (not_base c 76 h refl (head_is _ _ _ _ e))
one_type n m (FieldType.base c) (FieldType.array b) s t h k e = absurd (not_base c 91 h refl (head_is _ _ _ _ e))
one_type n m (FieldType.class x) (FieldType.base d) s t h k e = absurd (not_base d 76 k refl (sym (head_is _ _ _ _ e)))
one_type n m (FieldType.class x) (FieldType.class y) s t h k e =
    let r : Same Text x y (59 ∷ s) (59 ∷ t) = cut is_reserved false false x y 59 59 s t (sym (class_name_is x) ∙ h) (sym (class_name_is y) ∙ k) refl refl refl refl (tail_is _ _ _ _ e) in
    record { first = ap FieldType.class r.first; left = tail_is _ _ _ _ r.left }
one_type n m (FieldType.class x) (FieldType.array b) s t h k e = absurd (both_ways _ refl (ap (λ (c : ℕ). c == 91) (head_is _ _ _ _ e)))
one_type n m (FieldType.array a) (FieldType.base d) s t h k e = absurd (not_base d 91 k refl (sym (head_is _ _ _ _ e)))
one_type n m (FieldType.array a) (FieldType.class y) s t h k e = absurd (both_ways _ refl (ap (λ (c : ℕ). c == 76) (head_is _ _ _ _ e)))
one_type n m (FieldType.array a) (FieldType.array b) s t h k e =
    let r : Same FieldType a b s t = one_type (n - 1) (m - 1) a b s t (and_parts _ _ h).1 (and_parts _ _ k).1 (tail_is _ _ _ _ e) in
    record { first = ap FieldType.array r.first; left = r.left }

-- a byte that begins no type
begins_none : (n : ℕ) (a : FieldType) (s : Text) (x : ℕ) (t : Text) → is_type n a ≡ true → is_base x ≡ false → (x == 76) ≡ false → (x == 91) ≡ false → type_text as_is a s ≡ x ∷ t → ⊥
unfolding type_text is_type
begins_none n (FieldType.base c) s x t h b l r e = not_base c x h b (head_is _ _ _ _ e)
begins_none n (FieldType.class y) s x t h b l r e = both_ways (x == 76) l (ap (λ (c : ℕ). c == 76) (sym (head_is _ _ _ _ e)))
begins_none n (FieldType.array a) s x t h b l r e = both_ways (x == 91) r (ap (λ (c : ℕ). c == 91) (sym (head_is _ _ _ _ e)))

pub one_list : (a b : List FieldType) (s t : Text) → list_all (is_type most_dimensions) a ≡ true → list_all (is_type most_dimensions) b ≡ true → types_text as_is a (41 ∷ s) ≡ types_text as_is b (41 ∷ t) → Same (List FieldType) a b s t
unfolding types_text
one_list [] [] s t h k e = record { first = refl; left = tail_is _ _ _ _ e }
one_list [] (y ∷ b) s t h k e = absurd (begins_none 255 y _ 41 s (and_parts _ _ k).0 refl refl refl (sym e))
one_list (x ∷ a) [] s t h k e = absurd (begins_none 255 x _ 41 t (and_parts _ _ h).0 refl refl refl e)
one_list (x ∷ a) (y ∷ b) s t h k e =
    let p = and_parts _ _ h in
    let q = and_parts _ _ k in
    let r : Same FieldType x y (types_text as_is a (41 ∷ s)) (types_text as_is b (41 ∷ t)) = one_type _ _ x y _ _ p.0 q.0 e in
    let w : Same (List FieldType) a b s t = one_list a b s t p.1 q.1 r.left in
    record { first = ap (λ (z : FieldType). z ∷ a) r.first ∙ ap (λ (l : List FieldType). y ∷ l) w.first; left = w.left }

pub one_returned : (a b : Returned) → is_returned a ≡ true → is_returned b ≡ true → returned_text as_is a ≡ returned_text as_is b → a ≡ b
unfolding returned_text is_returned
one_returned Returned.void Returned.void h k e = refl
one_returned Returned.void (Returned.value y) h k e = absurd (begins_none 255 y [] 86 [] k refl refl refl (sym e))
one_returned (Returned.value x) Returned.void h k e = absurd (begins_none 255 x [] 86 [] h refl refl refl e)
one_returned (Returned.value x) (Returned.value y) h k e = ap Returned.value (one_type _ _ x y [] [] h k e).first

-- whether two descriptors of one kind with one text are one
kinds_differ : DescriptorKind → ℕ
kinds_differ DescriptorKind.field = 0
kinds_differ DescriptorKind.method = 1
kinds_differ DescriptorKind.return = 2

one_print : (a b : Descriptor) → kind_of a ≡ kind_of b → is_formed a ≡ true → is_formed b ≡ true → print a ≡ print b → a ≡ b
unfolding kind_of is_formed text_with kinds_differ
one_print (Descriptor.field x) (Descriptor.field y) q h k e = ap Descriptor.field (one_type _ _ x y [] [] h k e).first
one_print (Descriptor.field x) (Descriptor.method bs r) q h k e = absurd cc
one_print (Descriptor.field x) (Descriptor.returned r) q h k e = absurd cc
one_print (Descriptor.method ts p) (Descriptor.field y) q h k e = absurd cc
one_print (Descriptor.method ts p) (Descriptor.method bs r) q h k e =
    let h2 = and_parts _ _ h in
    let k2 = and_parts _ _ k in
    let w : Same (List FieldType) ts bs (returned_text as_is p) (returned_text as_is r) = one_list ts bs _ _ (and_parts _ _ h2.0).0 (and_parts _ _ k2.0).0 (tail_is _ _ _ _ e) in
    ap (λ (l : List FieldType). Descriptor.method l p) w.first ∙ ap (Descriptor.method bs) (one_returned p r h2.1 k2.1 w.left)
one_print (Descriptor.method ts p) (Descriptor.returned r) q h k e = absurd cc
one_print (Descriptor.returned p) (Descriptor.field y) q h k e = absurd cc
one_print (Descriptor.returned p) (Descriptor.method bs r) q h k e = absurd cc
one_print (Descriptor.returned p) (Descriptor.returned r) q h k e = ap Descriptor.returned (one_returned p r h k e)

pub one_tree : (kind : DescriptorKind) (text : Text) (a b : Descriptor) → IsDescriptor kind text a → IsDescriptor kind text b → a ≡ b
one_tree kind text a b p q = one_print a b (p.kind ∙ sym q.kind) p.formed q.formed (p.prints ∙ sym q.prints)
