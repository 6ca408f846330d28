-- Folders of texts.
use mathlib.Core.Bool.{and-false, true≢false}
use Rattle.std.proofs.Common.{◌≡◌, ℕ, ◌<◌, Bool, true, false, cond, ◌||◌, ◌&&◌, eqb, List, [], ◌∷◌, ◌++◌, length, take, drop, get_or, map, refl, sym, ap, ◌∙◌, append_assoc, length-append, arith}
use Rattle.std.specs.List.{list_any}
use Rattle.std.specs.Str.{bytes_eq}
use Rattle.std.proofs.lemmas.Bool.{false_from_ne_true}
use Rattle.std.proofs.lemmas.Bool.Decides.{Decides-eqb}
use Rattle.std.proofs.lemmas.Cmp.{nat_list_eq_equiv, nat_eq_equiv}
use Rattle.std.proofs.lemmas.List.{append-nil, map-append}
use Rattle.std.proofs.lemmas.List.Folds.{list_any-append, list_any_none}
use Rattle.std.proofs.lemmas.Map.Views.{All-from_any}
use Rattle.std.proofs.lemmas.Slice.Eq.{bytes_eq-Decides, starts_is}
use Rattle.desk_base.specs.Names.{Text, slash}
use Rattle.desk_clashes.specs.Clashes.{clashes, is_folder}
use Rattle.desk_clashes.specs.Known.{folders_of}

and_swap : (p e b : Bool) → (p && (e && b)) ≡ (e && (p && b))
and_swap true e b = refl
and_swap false true b = refl
and_swap false false b = refl

and_or : (e p q : Bool) → ((e && p) || (e && q)) ≡ (e && (p || q))
and_or true p q = refl
and_or false p q = refl

or_mid : (a b c d : Bool) → ((a || b) || (c || d)) ≡ ((a || c) || (b || d))
or_mid true b c d = refl
or_mid false true true d = refl
or_mid false true false d = refl
or_mid false false true d = refl
or_mid false false false d = refl

pub folder_long : (a b : Text) → length a < length b → is_folder a b ≡ (eqb (get_or b (length a) 0) slash && bytes_eq (take (length a) b) a)
folder_long [] [] h = absurd (omega arith)
folder_long [] (y ∷ b) h = ap (λ v. v && true) (nat_eq_equiv.symm slash y)
folder_long (x ∷ a) [] h = absurd (omega arith)
folder_long (x ∷ a) (y ∷ b) h =
    ap (λ v. eqb x y && v) (folder_long a b (omega arith))
    ∙ and_swap (eqb x y) (eqb (get_or b (length a) 0) slash) (bytes_eq (take (length a) b) a)
    ∙ ap (λ v. eqb (get_or b (length a) 0) slash && (v && bytes_eq (take (length a) b) a)) (nat_eq_equiv.symm x y)

pub list_any-or : {X : Type 0} (p q : X → Bool) (xs : List X) → list_any (λ x. p x || q x) xs ≡ (list_any p xs || list_any q xs)
list_any-or p q [] = refl
list_any-or p q (x ∷ xs) = ap (λ b. (p x || q x) || b) (list_any-or p q xs) ∙ or_mid (p x) (q x) (list_any p xs) (list_any q xs)

pub list_any-same : {X : Type 0} (p q : X → Bool) (xs : List X) → ((x : X) → p x ≡ q x) → list_any p xs ≡ list_any q xs
list_any-same p q [] h = refl
list_any-same p q (x ∷ xs) h = ap (λ b. b || list_any p xs) (h x) ∙ ap (λ b. q x || b) (list_any-same p q xs h)

pub list_any-false : {X : Type 0} (xs : List X) → list_any (λ x. false) xs ≡ false
list_any-false [] = refl
list_any-false (x ∷ xs) = list_any-false xs

any_mapped : (x b : ℕ) (q : Text) (fs : List Text) → list_any (bytes_eq (x ∷ q)) (map (λ f. b ∷ f) fs) ≡ (eqb x b && list_any (bytes_eq q) fs)
any_mapped x b q [] = sym (and-false (eqb x b))
any_mapped x b q (f ∷ fs) = ap (λ v. (eqb x b && bytes_eq q f) || v) (any_mapped x b q fs) ∙ and_or (eqb x b) (bytes_eq q f) (list_any (bytes_eq q) fs)

empty_mapped : (b : ℕ) (fs : List Text) → list_any (bytes_eq []) (map (λ f. b ∷ f) fs) ≡ false
empty_mapped b [] = refl
empty_mapped b (f ∷ fs) = empty_mapped b fs

empty_here : (c : Bool) → (list_any (bytes_eq []) (cond c ([] ∷ []) []) || false) ≡ (c && true)
empty_here true = refl
empty_here false = refl

other_here : (x : ℕ) (q : Text) (c r : Bool) → (list_any (bytes_eq (x ∷ q)) (cond c ([] ∷ []) []) || r) ≡ r
other_here x q true r = refl
other_here x q false r = refl

-- the folders of a text are those that with `/` behind them are its fronts
pub any_folder : (q t : Text) → list_any (bytes_eq q) (folders_of t) ≡ is_folder q t
any_folder [] [] = refl
any_folder (x ∷ q) [] = refl
any_folder [] (b ∷ bs) =
    list_any-append (bytes_eq []) (cond (eqb b slash) ([] ∷ []) []) (map (λ folder. b ∷ folder) (folders_of bs))
    ∙ ap (λ v. list_any (bytes_eq []) (cond (eqb b slash) ([] ∷ []) []) || v) (empty_mapped b (folders_of bs))
    ∙ empty_here (eqb b slash) ∙ ap (λ v. v && true) (nat_eq_equiv.symm b slash)
any_folder (x ∷ q) (b ∷ bs) =
    list_any-append (bytes_eq (x ∷ q)) (cond (eqb b slash) ([] ∷ []) []) (map (λ folder. b ∷ folder) (folders_of bs))
    ∙ ap (λ v. list_any (bytes_eq (x ∷ q)) (cond (eqb b slash) ([] ∷ []) []) || v) (any_mapped x b q (folders_of bs))
    ∙ other_here x q (eqb b slash) (eqb x b && list_any (bytes_eq q) (folders_of bs))
    ∙ ap (λ v. eqb x b && v) (any_folder q bs)

map_here : (x : ℕ) (t : Text) (c : Bool) → map (λ folder. x ∷ folder) (cond c (t ∷ []) []) ≡ cond c ((x ∷ t) ∷ []) []
map_here x t true = refl
map_here x t false = refl

-- one more byte
pub folders_of-push : (t : Text) (b : ℕ) → folders_of (t ++ b ∷ []) ≡ folders_of t ++ cond (eqb b slash) (t ∷ []) []
folders_of-push [] b = append-nil (cond (eqb b slash) ([] ∷ []) [])
folders_of-push (x ∷ t) b =
    let here : List Text = cond (eqb x slash) ([] ∷ []) [] in
    let longer : Text → Text = λ folder. x ∷ folder in
    ap (λ v. here ++ map longer v) (folders_of-push t b)
    ∙ ap (λ v. here ++ v) (map-append longer (folders_of t) (cond (eqb b slash) (t ∷ []) []))
    ∙ ap (λ v. here ++ (map longer (folders_of t) ++ v)) (map_here x t (eqb b slash))
    ∙ sym (append_assoc here (map longer (folders_of t)) (cond (eqb b slash) ((x ∷ t) ∷ []) []))

-- a text has the name of one of these among its folders, or the other way round
pub any_swapped : (ts : List Text) (t : Text) → list_any (λ folder. list_any (bytes_eq folder) ts) (folders_of t) ≡ list_any (λ u. is_folder u t) ts
any_swapped [] t = list_any-false (folders_of t)
any_swapped (u ∷ us) t =
    list_any-or (λ folder. bytes_eq folder u) (λ folder. list_any (bytes_eq folder) us) (folders_of t)
    ∙ ap (λ v. v || list_any (λ folder. list_any (bytes_eq folder) us) (folders_of t)) (list_any-same (λ folder. bytes_eq folder u) (bytes_eq u) (folders_of t) (λ folder. nat_list_eq_equiv.symm folder u) ∙ any_folder u t)
    ∙ ap (λ v. is_folder u t || v) (any_swapped us t)

-- what is looked up of a target
pub any_clash : (t : Text) (ts : List Text) → (list_any (bytes_eq t) ts || (list_any (is_folder t) ts || list_any (λ u. is_folder u t) ts)) ≡ list_any (clashes t) ts
any_clash t ts =
    ap (λ v. list_any (bytes_eq t) ts || v) (sym (list_any-or (is_folder t) (λ u. is_folder u t) ts))
    ∙ sym (list_any-or (bytes_eq t) (λ u. is_folder t u || is_folder u t) ts)

-- what stands behind a folder
folder_split : (folder path : Text) → is_folder folder path ≡ true → (rest : Text) × (path ≡ folder ++ slash ∷ rest)
folder_split folder path e =
    let rest : Text = drop (length (folder ++ slash ∷ [])) path in
    (rest, (starts_is Decides-eqb path (folder ++ slash ∷ []) (is_folder folder path) refl).0 e ∙ append_assoc folder (slash ∷ []) rest)

folder_joined : (folder rest : Text) → is_folder folder (folder ++ slash ∷ rest) ≡ true
folder_joined folder rest =
    (starts_is Decides-eqb (folder ++ slash ∷ rest) (folder ++ slash ∷ []) (is_folder folder (folder ++ slash ∷ rest)) refl).1 rest (sym (append_assoc folder (slash ∷ []) rest))

pub folder_shorter : (folder path : Text) → is_folder folder path ≡ true → length folder < length path
folder_shorter folder path e =
    let split : (rest : Text) × (path ≡ folder ++ slash ∷ rest) = folder_split folder path e in
    omega (arith, ap length split.1, length-append folder (slash ∷ split.0))

-- a folder of a folder is one
pub folder_of_folder : (outer folder path : Text) → is_folder outer folder ≡ true → is_folder folder path ≡ true → is_folder outer path ≡ true
folder_of_folder outer folder path e f =
    let above : (rest : Text) × (folder ≡ outer ++ slash ∷ rest) = folder_split outer folder e in
    let below : (rest : Text) × (path ≡ folder ++ slash ∷ rest) = folder_split folder path f in
    ap (is_folder outer) (below.1 ∙ ap (λ (t : Text). t ++ slash ∷ below.0) above.1 ∙ append_assoc outer (slash ∷ above.0) (slash ∷ below.0))
    ∙ folder_joined outer (above.0 ++ slash ∷ below.0)

-- what passes a test passes a weaker one
pub any_weaker : {X : Type 0} (p q : X → Bool) (xs : List X) → ((x : X) → p x ≡ true → q x ≡ true) → list_any p xs ≡ true → list_any q xs ≡ true
any_weaker p q [] f e = e
any_weaker p q (x ∷ xs) f e = by (p x) (q x) (f x) (any_weaker p q xs f) e where
  by : (a b : Bool) → (a ≡ true → b ≡ true) → (list_any p xs ≡ true → list_any q xs ≡ true) → (a || list_any p xs) ≡ true → (b || list_any q xs) ≡ true
  by true b g ih h = ap (λ v. v || list_any q xs) (g refl)
  by false true g ih h = refl
  by false false g ih h = ih h

-- where each folder of a text fails a test, none passes it
pub no_folder : (p : Text → Bool) (t : Text) → ((q : Text) → is_folder q t ≡ true → p q ≡ false) → list_any p (folders_of t) ≡ false
no_folder p t f = list_any_none p (folders_of t) (All-from_any nat_list_eq_equiv (λ q. p q ≡ false) (folders_of t) (λ q e. f q (sym (any_folder q t) ∙ e)))

-- where none passes a test, each folder fails it
pub folder_fails : (p : Text → Bool) (t q : Text) → list_any p (folders_of t) ≡ false → is_folder q t ≡ true → p q ≡ false
folder_fails p t q none inside =
    false_from_ne_true (p q) (λ e. true≢false (sym (any_weaker (bytes_eq q) p (folders_of t) (λ folder same. ap p (sym ((bytes_eq-Decides q folder).0 same)) ∙ e) (any_folder q t ∙ inside)) ∙ none))
