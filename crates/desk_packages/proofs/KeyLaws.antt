-- The key of a rename tells its source.
use Rattle.std.proofs.Common.{◌≡◌, ℕ, Bool, true, false, cond, ◌==◌, [], ◌∷◌, ◌++◌, map, refl, sym, ap, ◌∙◌, ◌⊎◌, inl, inr}
use Rattle.std.specs.List.{list_all}
use Rattle.std.proofs.lemmas.Bool.{and_parts, or_cases, eqb-true, eq-eqb, not-true}
use Rattle.std.proofs.lemmas.List.{append_cancel_right, map-append}
use Rattle.desk_base.specs.Names.{Text, Package, written, is_identifier, is_identifier_byte}
use Rattle.desk_packages.specs.Renames.{Renaming, key_of}
use Rattle.desk_packages.specs.Keys.{is_separator, spelled, wanted, wanted_tail}
use Rattle.desk_packages.proofs.Cuts.{Cuts}
use Rattle.desk_packages.proofs.Bytes.{unreserved, undotted, unslashed, identifier_whole, identifier_part, part_whole}

pub separators : (s : ℕ) → is_separator s ≡ true → (s ≡ 46) ⊎ (s ≡ 47)
separators s h = elim (or_cases _ _ h) [ inl e ↦ inl (eqb-true s 46 e) | inr e ↦ inr (eqb-true s 47 e) ]

-- identifiers can be cut apart at either separator
pub identifier_cuts : (s : ℕ) → is_separator s ≡ true → Cuts s is_identifier
identifier_cuts s h = elim (separators s h) [
  | inl e ↦ rw e (record { filled = refl; whole = identifier_whole })
  | inr e ↦ rw e (record { filled = refl; whole = λ t k. part_whole t (identifier_part t k) })
]

spelled_dot : (s : ℕ) → is_separator s ≡ true → spelled s 46 ≡ s
spelled_dot s h = elim (separators s h) [ inl e ↦ rw e refl | inr e ↦ rw e refl ]

spelled_separator : (s : ℕ) → spelled s s ≡ 46
spelled_separator s = rw (eq-eqb s s refl) refl

untouched : (s b : ℕ) → is_separator s ≡ true → is_identifier_byte b ≡ true → spelled s b ≡ b
untouched s b h k =
    let no_dot : (b == 46) ≡ false = not-true _ (undotted b k) in
    let no_slash : (b == 47) ≡ false = not-true _ (unslashed b (unreserved b k)) in
    elim (separators s h) [
      | inl e ↦ rw (e, no_dot) refl
      | inr e ↦ rw (e, no_slash, no_dot) refl
    ]

spelled_twice : (s b : ℕ) → is_separator s ≡ true → spelled s (spelled s b) ≡ b
spelled_twice s b h =
    elim (b == s) as (λ (x : Bool). (b == s) ≡ x → spelled s (cond x 46 (cond (b == 46) s b)) ≡ b) [
      | true ↦ λ p. spelled_dot s h ∙ sym (eqb-true b s p)
      | false ↦ λ p. elim (b == 46) as (λ (x : Bool). (b == 46) ≡ x → spelled s (cond x s b) ≡ b) [
        | true ↦ λ q. spelled_separator s ∙ sym (eqb-true b 46 q)
        | false ↦ λ q. rw (p, q) refl
      ] refl
    ] refl

pub all_spelled_twice : (s : ℕ) → is_separator s ≡ true → (t : Text) → map (spelled s) (map (spelled s) t) ≡ t
all_spelled_twice s h [] = refl
all_spelled_twice s h (b ∷ t) = rw (spelled_twice s b h, all_spelled_twice s h t) refl

bytes_untouched : (s : ℕ) → is_separator s ≡ true → (t : Text) → list_all is_identifier_byte t ≡ true → map (spelled s) t ≡ t
bytes_untouched s h [] k = refl
bytes_untouched s h (b ∷ t) k =
    let first : spelled s b ≡ b = untouched s b h (and_parts _ _ k).0 in
    let others : map (spelled s) t ≡ t = bytes_untouched s h t (and_parts _ _ k).1 in
    ap (λ (x : ℕ). x ∷ map (spelled s) t) first ∙ ap (λ (r : Text). b ∷ r) others

identifier_untouched : (s : ℕ) → is_separator s ≡ true → (t : Text) → is_identifier t ≡ true → map (spelled s) t ≡ t
identifier_untouched s h [] k = refl
identifier_untouched s h (b ∷ t) k = bytes_untouched s h (b ∷ t) (and_parts _ _ k).1

-- spelled as in a key, a package written with a separator is written with dots
pub spelled_package : (s : ℕ) → is_separator s ≡ true → (ps : Package) → list_all is_identifier ps ≡ true → map (spelled s) (written s ps) ≡ written 46 ps
spelled_package s h [] k = refl
spelled_package s h (p ∷ []) k = identifier_untouched s h p (and_parts _ _ k).0
spelled_package s h (p ∷ q ∷ ps) k =
    map-append (spelled s) p (s ∷ written s (q ∷ ps))
    ∙ ap (λ (t : Text). t ++ map (spelled s) (s ∷ written s (q ∷ ps))) (identifier_untouched s h p (and_parts _ _ k).0)
    ∙ ap (λ (b : ℕ). p ++ b ∷ map (spelled s) (written s (q ∷ ps))) (spelled_separator s)
    ∙ ap (λ (t : Text). p ++ 46 ∷ t) (spelled_package s h (q ∷ ps) (and_parts _ _ k).1)

-- a key is wanted for the path that its source makes, and for no other
pub key_path : (s : ℕ) → is_separator s ≡ true → (r : Renaming) → list_all is_identifier r.source ≡ true → (path : Text) → key_of r ≡ wanted s path r.below → written s r.source ≡ path
key_path s h r k path e =
    let dots : written 46 r.source ≡ map (spelled s) path = append_cancel_right (written 46 r.source) (map (spelled s) path) (wanted_tail r.below) e in
    sym (all_spelled_twice s h (written s r.source))
    ∙ ap (map (spelled s)) (spelled_package s h r.source k ∙ dots)
    ∙ all_spelled_twice s h path

pub path_key : (s : ℕ) → is_separator s ≡ true → (r : Renaming) → list_all is_identifier r.source ≡ true → (path : Text) → written s r.source ≡ path → key_of r ≡ wanted s path r.below
path_key s h r k path e = ap (λ (t : Text). t ++ wanted_tail r.below) (sym (spelled_package s h r.source k) ∙ ap (map (spelled s)) e)
