-- Paths that are listed, and lists with one item more.
use Rattle.std.proofs.Common.{◌≡◌, ◌<◌, ℕ, suc, List, [], ◌∷◌, ◌++◌, Option, refl, sym, ap, ◌∙◌, subst, take, drop, length, map, get_or, IsSome}
use Rattle.std.specs.FinMap as fin
use Rattle.std.specs.Prelude.{All, IfSome}
use Rattle.std.proofs.lemmas.List.{map-append}
use Rattle.desk_base.specs.Paths.{full}
use Rattle.desk_base.proofs.Results.{at_some}
use Rattle.desk_readings.proofs.Fronts.{if_some, split_at}
use Rattle.desk_folders.specs.Contents.{Contents, file_at, files_below, paths_below}
use Rattle.desk_intake.proofs.There.{AllThere, there_at, files_there}

-- a listed path is there
pub there_listed : (from : List ℕ) (told now : Option Contents) (paths : List (List ℕ)) (i : ℕ) (path : List ℕ) → now ≡ told → IfSome told (λ m. paths ≡ paths_below from m) → i < length paths
    → path ≡ get_or paths i path → IfSome now (λ m. IsSome (fin.get m (full from path)))
there_listed from told now paths i path same listed lt is =
    subst (λ o. IfSome o (λ m. IsSome (fin.get m (full from path)))) (sym same)
    (if_some (λ m. IsSome (fin.get m (full from path))) told (λ m e.
    let below = at_some (λ m. paths ≡ paths_below from m) told m e listed in
    let split = sym below ∙ split_at paths i path lt is in
    let files : files_below from m ≡ map (file_at from m) (take i paths) ++ file_at from m path ∷ map (file_at from m) (drop (suc i) paths)
    = ap (map (file_at from m)) split ∙ map-append (file_at from m) (take i paths) (path ∷ drop (suc i) paths) in
    let there = there_at from m (map (file_at from m) (take i paths)) (file_at from m path) (map (file_at from m) (drop (suc i) paths)) (subst (AllThere from m) files (files_there from m)) in
    subst IsSome (sym there.held) refl))

-- two lists that agree, with one item more
pub mapped_more : {X Y Z : Type 0} (f : X → Z) (g : Y → Z) (xs new : List X) (x : X) (ys : List Y) (y : Y) → map f xs ≡ map g ys → f x ≡ g y → new ≡ xs ++ x ∷ [] → map f new ≡ map g (ys ++ y ∷ [])
mapped_more f g xs new x ys y e h grown =
    ap (map f) grown ∙ map-append f xs (x ∷ []) ∙ ap (λ zs. zs ++ f x ∷ []) e ∙ ap (λ z. map g ys ++ z ∷ []) h ∙ sym (map-append g ys (y ∷ []))

-- a fact of each item of a list, at one of them
pub item_at : {X : Type 0} (P : X → Type 0) (xs : List X) (i : ℕ) (x : X) → All P xs → i < length xs → x ≡ get_or xs i x → P x
item_at P xs i x h lt is = subst P (sym is) (h i x lt)
