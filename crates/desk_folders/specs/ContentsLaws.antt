-- Laws of folders: what a change of one path leaves.
use Rattle.std.proofs.Common.{◌≢◌, ◌≡◌, List, [], ◌++◌, Some, None, Option, ℕ, refl, sym, ap, ◌∙◌, unwrap_or, rules, arith}
use Rattle.std.specs.Prelude.{IfSome, IsSome}
use Rattle.std.proofs.lemmas.Cmp.{nat_list_cmp_total}
use Rattle.std.specs.FinMap as fin
use Rattle.std.specs.FinMap.{gets}
use Rattle.desk_base.specs.TextMaps.{same_texts, get-insert-same, get-insert-other, get-remove-other, insert-insert, remove-insert}
use Rattle.desk_folders.specs.Contents.{Contents, setting, holding, adding, ChangesOnly}

pub setting-setting : (p : List ℕ) (left : Option (List ℕ)) (bytes : List ℕ) (m : Contents) → setting p left (setting p (Some bytes) m) ≡ setting p left m
setting-setting p None bytes m = remove-insert m p bytes
setting-setting p (Some x) bytes m = insert-insert m p bytes x

pub get-setting-other : (p : List ℕ) (left : Option (List ℕ)) (m : Contents) (other : List ℕ) → other ≢ p → fin.get (setting p left m) other ≡ fin.get m other
get-setting-other p None m other apart = get-remove-other m p other apart
get-setting-other p (Some x) m other apart = get-insert-other m p x other apart

-- to add at the end of what is held is to hold more
pub adding-holding : (p bytes more : List ℕ) (told : Option Contents) → adding p more (holding p bytes told) ≡ holding p (bytes ++ more) told
adding-holding p bytes more None = refl
adding-holding p bytes more (Some m) = ap Some (ap (λ x. fin.insert (fin.insert m p bytes) p (unwrap_or x [] ++ more)) (get-insert-same m p bytes) ∙ insert-insert m p bytes (bytes ++ more))

-- what is held is there
pub IsSome-holding : (p bytes : List ℕ) (told : Option Contents) → IfSome (holding p bytes told) (λ m. IsSome (fin.get m p))
IsSome-holding p bytes None = tt
IsSome-holding p bytes (Some m) = let e = get-insert-same m p bytes in grind (arith, e)

-- a change of a path that was set is a change of that path
pub ChangesOnly-holding : (p bytes : List ℕ) (old new : Option Contents) → ChangesOnly p (holding p bytes old) new → ChangesOnly p old new
ChangesOnly-holding p bytes None new c = record { left = c.left; is = c.is }
ChangesOnly-holding p bytes (Some m) new c = record { left = c.left; is = c.is ∙ ap Some (setting-setting p c.left bytes m) }

pub ChangesOnly-refl : (p : List ℕ) (told : Option Contents) → ChangesOnly p told told
ChangesOnly-refl p None = record { left = None; is = refl }
ChangesOnly-refl p (Some m) = record { left = fin.get m p; is = ap Some (sym (same_texts _ _ (λ q. kept m p q (fin.get m p) refl))) } where
  kept : (m : Contents) (p q : List ℕ) (left : Option (List ℕ)) → left ≡ fin.get m p → fin.get (setting p left m) q ≡ fin.get m q
  kept m p q None e = grind (gets, rules, e, fin.get_tied nat_list_cmp_total m q p)
  kept m p q (Some x) e = grind (gets, rules, e, fin.get_tied nat_list_cmp_total m q p)

-- a write may be all that changes a path
pub ChangesOnly-write : (p bytes : List ℕ) (old new : Option Contents) → new ≡ holding p bytes old → ChangesOnly p old new
ChangesOnly-write p bytes old new e = record { left = Some bytes; is = e }
