-- What the tests on packages say.
use Rattle.std.proofs.Common.{◌≡◌, Bool, true, false, [], ◌∷◌, ◌++◌, length, drop, refl, sym, ap, ◌∙◌, ◌⊎◌, inl, inr}
use Rattle.std.proofs.lemmas.Slice.Eq.{slice_eq-Decides, bytes_eq-Decides, starts_is}
use Rattle.std.proofs.lemmas.List.{append-nil, drop_at}
use Rattle.desk_base.specs.Names.{Package, same, begins_with}
use Rattle.desk_packages.specs.Renames.{covers}

pub same_is : (p q : Package) → same p q ≡ true → p ≡ q
same_is p q h = (slice_eq-Decides bytes_eq-Decides p q (same p q) refl).0 h

pub same_from : (p q : Package) → p ≡ q → same p q ≡ true
same_from p q h = (slice_eq-Decides bytes_eq-Decides p q (same p q) refl).1 h

pub begins_is : (p start : Package) → begins_with p start ≡ true → p ≡ start ++ drop (length start) p
begins_is p start h = (starts_is bytes_eq-Decides p start (begins_with p start) refl).0 h

pub begins_from : (p start rest : Package) → p ≡ start ++ rest → begins_with p start ≡ true
begins_from p start rest h = (starts_is bytes_eq-Decides p start (begins_with p start) refl).1 rest h

-- what is covered is the start and a rest
pub covers_is : (below : Bool) (start p : Package) → covers below start p ≡ true → p ≡ start ++ drop (length start) p
covers_is true start p h = begins_is p start h
covers_is false start p h =
    let e : start ≡ p = same_is start p h in
    let d : drop (length start) (start ++ []) ≡ [] = drop_at start [] (length start) refl in
    rw (← e) (rw append-nil at (sym (ap (λ (r : Package). start ++ r) d)))

-- the same rest behind another start is covered too
pub covers_moved : (below : Bool) (start p to : Package) → covers below start p ≡ true → covers below to (to ++ drop (length start) p) ≡ true
covers_moved true start p to h = begins_from _ to _ refl
covers_moved false start p to h =
    let e : start ≡ p = same_is start p h in
    let d : drop (length start) (start ++ []) ≡ [] = drop_at start [] (length start) refl in
    let n : drop (length start) p ≡ [] = ap (λ (w : Package). drop (length start) w) (sym e ∙ sym (append-nil start)) ∙ d in
    same_from to _ (rw (n, append-nil) refl)

abbrev pub Longer : Package → Package → Type 0
Longer a b = (rest : Package) × (a ≡ b ++ rest)

-- of two starts of one package, one goes on from the other
pub nested_by : (a b x y : Package) → a ++ x ≡ b ++ y → Longer a b ⊎ Longer b a
nested_by [] b x y e = inr (b, refl)
nested_by (s ∷ a) [] x y e = inl (s ∷ a, refl)
nested_by (s ∷ a) (t ∷ b) x y e =
    let head : s ≡ t = cc in
    let tail : a ++ x ≡ b ++ y = cc in
    elim (nested_by a b x y tail) [
      | inl l ↦ inl (l.0, cc (l.1))
      | inr l ↦ inr (l.0, cc (l.1))
    ]

pub nested : (a b x y : Package) → a ++ x ≡ b ++ y → (begins_with a b ≡ true) ⊎ (begins_with b a ≡ true)
nested a b x y e = elim (nested_by a b x y e) [
  | inl l ↦ inl (begins_from a b l.0 l.1)
  | inr l ↦ inr (begins_from b a l.0 l.1)
]
