-- The file at which a run stops while it writes.
use Rattle.std.proofs.Common.{◌≡◌, ℕ, zero, suc, ◌+◌, ◌-◌, ◌<◌, ◌⊎◌, inl, inr, List, [], ◌∷◌, Option, refl, sym, ap, ◌∙◌, subst, take, drop, length, length-append, zero-add, get_or, arith}
use Rattle.std.specs.Prelude.{All, IfErr, IfSome, IsSomeAnd, OnErr, Result, Ok, Err, slice_get, cond}
use Rattle.std.specs.List.{IsSplitAt, slice_range}
use Rattle.std.proofs.lemmas.List.{take-append-drop}
use Rattle.std.proofs.lemmas.List.Elements.{All-head, All-tail}
use Rattle.std.proofs.lemmas.Option.{slice_get_read}
use Rattle.desk_batches.specs.Fresh.{IsNotKept, StopsAtFresh}
use Rattle.desk_batches.specs.Turns.{MovedIn, is_migrated, migrated}
use Rattle.desk_batches.specs.Inputs.{WholeFile}
use Rattle.desk_batches.specs.declared.planned.PlannedFile.{PlannedFile}
use Rattle.desk_batches.specs.declared.planned.Action.{Action}
use Rattle.desk_batches.specs.declared.planned.Action.TheVariants.{Keep}
use Rattle.desk_batches.specs.declared.stops.Stop.{Stop}
use Rattle.desk_batches.specs.declared.stops.Stop.TheVariants.{Memory}
use Rattle.desk_batches.proofs.Slices.{count_parts}
use Rattle.desk_batches.proofs.Taking.{migrated_append, migrated_more}

-- what holds is said of an error, too
pub on_err : {T E : Type 0} (r : Result T E) (P : Type 0) → P → OnErr r P
on_err (Ok x) P p = tt
on_err (Err e) P p = p

-- and what holds of each error
pub any_err : {T E : Type 0} (r : Result T E) (P : E → Type 0) → ((e : E) → P e) → IfErr r P
any_err (Ok x) P p = tt
any_err (Err e) P p = p e

-- where one of these files is read whole, some are
pub some_migrated : (xs : List PlannedFile) (i : ℕ) (x : PlannedFile) → i < length xs → x ≡ get_or xs i x → 0 < length (migrated (x ∷ [])) → 0 < length (migrated xs)
some_migrated xs i x lt is some =
    let parts = ap length (ap migrated (sym (take-append-drop (i + 1) xs)) ∙ migrated_append (take (i + 1) xs) (drop (i + 1) xs)) ∙ length-append (migrated (take (i + 1) xs)) (migrated (drop (i + 1) xs)) in
    let front = ap length (migrated_more xs i x lt is) ∙ length-append (migrated (take i xs)) (migrated (x ∷ [])) in
    omega (arith, parts, front, some)

-- where files of a part of a list are read whole, some of the list are
pub some_front : (xs front back : List PlannedFile) (n : ℕ) → IsSplitAt xs n front back → 0 < length (migrated front) → 0 < length (migrated xs)
some_front xs front back n split some = let parts = count_parts xs front back n split in omega (arith, parts, some)

pub some_back : (xs front back : List PlannedFile) (n : ℕ) → IsSplitAt xs n front back → 0 < length (migrated back) → 0 < length (migrated xs)
some_back xs front back n split some = let parts = count_parts xs front back n split in omega (arith, parts, some)

-- and of the rest of a batch
pub some_left : (batch : List PlannedFile) (images inputs left : ℕ) → length (migrated batch) ≡ images + (inputs + left) → 0 < left → 0 < length (migrated batch)
some_left batch images inputs left all some = omega (arith, all, some)

-- a second reading that gave other bytes was one of a file that is read whole
moved_of : (inputs : List WholeFile) (why : Stop) → MovedIn inputs why → (why ≡ Memory) ⊎ (0 < length inputs)
moved_of inputs why (inl e) = inl e
moved_of inputs why (inr o) = let one = o.there.1 in inr (omega (arith, one))

moved_some : {X : Type 0} (inputs : List WholeFile) (why : Stop) (made : Result X Stop) → (why ≡ Memory) ⊎ (made ≡ Err why) → IfErr made (MovedIn inputs) → (why ≡ Memory) ⊎ (0 < length inputs)
moved_some inputs why made (inl e) h = inl e
moved_some inputs why made (inr e) h = moved_of inputs why (subst (λ r. IfErr r (MovedIn inputs)) e h)

-- where a slice has no images, a file of its batch is read whole, or memory is wanting
pub moved_among : {X : Type 0} (batch : List PlannedFile) (inputs : List WholeFile) (images read left : ℕ) (why : Stop) (made : Result X Stop) → length (migrated batch) ≡ images + (read + left) → length inputs ≡ read
    → (why ≡ Memory) ⊎ (made ≡ Err why) → IfErr made (MovedIn inputs) → (why ≡ Memory) ⊎ (0 < length (migrated batch))
moved_among batch inputs images read left why made all same is h = by (moved_some inputs why made is h) where
  by : (why ≡ Memory) ⊎ (0 < length inputs) → (why ≡ Memory) ⊎ (0 < length (migrated batch))
  by (inl e) = inl e
  by (inr some) = inr (omega (arith, all, same, some))

-- a kept file isn't read whole
passes : (x : PlannedFile) (xs : List PlannedFile) → x.action ≡ Keep → migrated (x ∷ xs) ≡ migrated xs
passes x xs e = ap (λ (w : Action). cond (is_migrated w) (x ∷ migrated xs) (migrated xs)) e

not_kept : (x : PlannedFile) → 0 < length (migrated (x ∷ [])) → IsNotKept x
not_kept x some = λ e. let none = ap length (passes x [] e) in omega (arith, none, some)

kept_front : (xs : List PlannedFile) (i : ℕ) → i < length xs → All (λ (x : PlannedFile). x.action ≡ Keep) (take i xs) → (i + 1 < length xs → IfSome (slice_get xs i) IsNotKept) → 0 < length (migrated xs)
    → IsSomeAnd (slice_get xs i) IsNotKept
kept_front [] i lt kept next some = absurd (omega arith)
kept_front (x ∷ []) zero lt kept next some = not_kept x some
kept_front (x ∷ y ∷ xs) zero lt kept next some = next (omega arith)
kept_front (x ∷ xs) (suc i) lt kept next some =
    kept_front xs i (omega arith) (All-tail (λ (x : PlannedFile). x.action ≡ Keep) x (take i xs) kept) (λ l. next (omega arith))
    (subst (λ (ys : List PlannedFile). 0 < length ys) (passes x xs (All-head (λ (x : PlannedFile). x.action ≡ Keep) x (take i xs) kept)) some)

-- where a batch isn't read to its end, its first file that isn't kept stands behind the kept ones at its head
pub behind_kept : (xs : List PlannedFile) (i : ℕ) (why : Stop) → i < length xs → All (λ (x : PlannedFile). x.action ≡ Keep) (take i xs) → (i + 1 < length xs → IfSome (slice_get xs i) IsNotKept)
    → (why ≡ Memory) ⊎ (0 < length (migrated xs)) → StopsAtFresh xs i why
behind_kept xs i why lt kept next (inl e) = inl e
behind_kept xs i why lt kept next (inr some) = inr (kept_front xs i lt kept next some)

-- a file that isn't kept is the one at which its own stop comes
pub fresh_here : (xs : List PlannedFile) (i : ℕ) (x : PlannedFile) (why : Stop) → i < length xs → x ≡ get_or xs i x → IsNotKept x → StopsAtFresh xs i why
fresh_here xs i x why lt is other = inr (subst (λ (o : Option PlannedFile). IsSomeAnd o IsNotKept) (sym (slice_get_read xs (length xs) i x refl lt is)) other)

taken : (xs : List PlannedFile) (n k : ℕ) → IsSomeAnd (slice_get (take n xs) k) IsNotKept → IsSomeAnd (slice_get xs k) IsNotKept
taken [] zero k h = absurd h
taken (x ∷ xs) zero k h = absurd h
taken [] (suc n) k h = h
taken (x ∷ xs) (suc n) zero h = h
taken (x ∷ xs) (suc n) (suc k) h = taken xs n k h

dropped : (a : ℕ) (xs : List PlannedFile) (k : ℕ) → slice_get (drop a xs) k ≡ slice_get xs (a + k)
dropped zero xs k = ap (slice_get xs) (sym (zero-add k))
dropped (suc a) [] k = refl
dropped (suc a) (x ∷ xs) k = let same : suc (a + k) ≡ suc a + k = omega arith in dropped a xs k ∙ ap (slice_get (x ∷ xs)) same

-- a stop within a batch is one within all files
pub fresh_later : (xs : List PlannedFile) (a b k : ℕ) (why : Stop) → StopsAtFresh (slice_range xs a b) k why → StopsAtFresh xs (a + k) why
fresh_later xs a b k why (inl e) = inl e
fresh_later xs a b k why (inr h) = inr (subst (λ (o : Option PlannedFile). IsSomeAnd o IsNotKept) (dropped a xs k) (taken (drop a xs) (b - a) k h))
