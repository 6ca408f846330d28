-- What is found of the files at the same places of two lists.
use Rattle.std.proofs.Common.{◌≡◌, ℕ, Bool, List, [], ◌∷◌, ◌++◌, length, map, Option, Some, None, refl, sym, ap, subst, ◌∙◌}
use Rattle.std.proofs.lemmas.List.{length-map, map-append}
use Rattle.std.specs.List.{slice_get}
use Rattle.desk_base.specs.Names.{Text}
use Rattle.desk_folders.specs.declared.folders.GenFile.{GenFile}
use Rattle.desk_compare.specs.declared.files.What.{What}
use Rattle.desk_compare.specs.Ahead.{AreFound, difference, difference_in}
use Rattle.desk_compare.specs.declared.pairs.FilePair.{FilePair}
use Rattle.desk_compare.specs.Deciding.{what_between}
use Rattle.desk_compare.specs.Verdicts.{FindsDifference}
use Rattle.desk_compare.proofs.Verdicts.{between, contents_one, of_contents}

-- two findings on two contents are the same
one_finding : (form : Bool) (a b : Text) (o p : Option What) → FindsDifference form a b o → FindsDifference form a b p → o ≡ p
one_finding form a b None None h k = refl
one_finding form a b None (Some w) h k = absurd (of_contents form a b w k h)
one_finding form a b (Some v) None h k = absurd (of_contents form a b v h k)
one_finding form a b (Some v) (Some w) h k = ap Some (contents_one form a b v w h k)

-- what is found of two contents is how they differ
pub finds : (form : Bool) (a b : Text) (o : Option What) → FindsDifference form a b o → o ≡ what_between form a b
finds form a b o h = one_finding form a b o (what_between form a b) h (between form a b)

-- a finding for the next place
pub found_more : (lefts rights : List GenFile) (findings : List (Option What)) (left right : GenFile) → AreFound lefts rights findings
    → slice_get lefts (length findings) ≡ Some left → slice_get rights (length findings) ≡ Some right → AreFound lefts rights (findings ++ difference left right ∷ [])
found_more [] rights [] left right h p q = absurd cc
found_more (l ∷ ls) [] [] left right h p q = absurd cc
found_more (l ∷ ls) (r ∷ rs) [] left right h p q = (cc, tt)
found_more (l ∷ ls) (r ∷ rs) (f ∷ fs) left right h p q = (h.0, found_more ls rs fs left right h.1 p q)
found_more [] rights (f ∷ fs) left right h p q = absurd h
found_more (l ∷ ls) [] (f ∷ fs) left right h p q = absurd h

-- pairs of files in a row, and the next one
pub found_next : (lefts rights : List GenFile) (pairs : List FilePair) (pair : FilePair) (n : ℕ) → AreFound lefts rights (map difference_in pairs) → length pairs ≡ n
    → slice_get lefts n ≡ Some pair.left.now → slice_get rights n ≡ Some pair.right.now → AreFound lefts rights (map difference_in (pairs ++ pair ∷ []))
found_next lefts rights pairs pair n h e p q =
    let place : length (map difference_in pairs) ≡ n = length-map pairs difference_in ∙ e in
    subst (AreFound lefts rights) (sym (map-append difference_in pairs (pair ∷ [])))
    (found_more lefts rights (map difference_in pairs) pair.left.now pair.right.now h (ap (slice_get lefts) place ∙ p) (ap (slice_get rights) place ∙ q))
