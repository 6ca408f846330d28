-- The image of a name, by the front that the rule set answers for its package.
use Rattle.std.proofs.Common.{◌≡◌, ◌≤◌, ◌<◌, ◌+◌, ℕ, Bool, true, false, cond, List, [], ◌∷◌, ◌++◌, length, take, drop, None, refl, sym, ap, ◌∙◌, inl, inr, arith}
use Rattle.std.specs.List.{list_all}
use Rattle.std.proofs.lemmas.Grind.{common_steps}
use Rattle.std.proofs.lemmas.Bool.{and_parts}
use Rattle.std.proofs.lemmas.List.{length-take-le}
use Rattle.desk_base.specs.Names.{Text, Package, segments, written, front, simple, is_name}
use Rattle.desk_base.proofs.Separated.{front-push, simple-push}
use Rattle.desk_packages.specs.Keys.{is_separator}
use Rattle.desk_packages.specs.Renames.{Renaming, pkg, is_rename}
use Rattle.desk_rules.specs.RuleSets.{IsFrontOf, changing_pick}
use Rattle.desk_rules.specs.Images.{refronted, name_image}
use Rattle.desk_packages.proofs.Cuts.{written-segments, front_simple}
use Rattle.desk_packages.specs.Fronts.{IsLastAt, IsFrontEnd}
use Rattle.desk_rename.specs.Fronts.{IsExchange}
use Rattle.desk_packages.proofs.Segments.{front_parts, parts_last, cut_last}
use Rattle.desk_rename.proofs.Exchanges.{unchanged, PackageFront, package_front, name_front}

-- the image of a name whose package no changing rename is picked for
pub unchanged_name : (part : Text → Bool) → part [] ≡ false → (rs : List Renaming) (s : ℕ) (text : Text) (n : ℕ) → IsFrontEnd s text n → changing_pick rs (segments s (take n text)) ≡ None → name_image part s rs text ≡ text
unchanged_name part filled rs s text n end none =
    elim (is_name part s text) as (λ (b : Bool). is_name part s text ≡ b → cond b (written s (refronted rs (segments s text))) text ≡ text) [
      | true ↦ λ named.
          let same_front : pkg rs (front (segments s text)) ≡ front (segments s text) =
          ap (pkg rs) (front_parts s part filled text n named end) ∙ unchanged rs (segments s (take n text)) none ∙ sym (front_parts s part filled text n named end) in
          ap (λ (p : Package). written s (p ++ simple (segments s text) ∷ [])) same_front
          ∙ ap (written s) (front_simple (segments s text) (and_parts _ _ named).0)
          ∙ written-segments s text
      | false ↦ λ other. refl
    ] refl

-- a text with more bytes behind it, from a place within it on
pub drop_within : (k : ℕ) (a more : Text) → k ≤ length a → drop k (a ++ more) ≡ drop k a ++ more
drop_within k a more h = grind (arith, common_steps)

-- where a front was found, a separator stands behind it
has_separator : (rs : List Renaming) (s : ℕ) (text : Text) (n taken : ℕ) (target : Package) → IsFrontEnd s text n → PackageFront rs s (take n text) taken target → IsLastAt s text n
has_separator rs s text n taken target (inl cut) k = cut
has_separator rs s text n taken target (inr none) k =
    let short : length (take n text) ≡ 0 = ap (λ (m : ℕ). length (take m text)) none.0 in
    let some : 0 < taken = k.some in
    let within : taken ≤ length (take n text) = k.within in
    absurd (omega arith)

taken_within : (n taken : ℕ) (text : Text) → n < length text → taken ≤ length (take n text) → taken ≤ length text
taken_within n taken text h k = let e : length (take n text) ≡ n = length-take-le n text (omega arith) in omega arith

pub changed_name : (part : Text → Bool) → part [] ≡ false → (rs : List Renaming) → list_all is_rename rs ≡ true → (s : ℕ) → is_separator s ≡ true → (text : Text) (n taken : ℕ) (target : Package) → is_name part s text ≡ true → IsFrontEnd s text n → IsFrontOf rs s (take n text) taken target
    → IsExchange s text (name_image part s rs text) taken target
changed_name part filled rs formed s sep text n taken target named end found =
    let k = package_front rs formed s sep (take n text) taken target found in
    let cut = has_separator rs s text n taken target end k in
    let last = drop (n + 1) text in
    let f = name_front rs s (take n text) last taken target k in
    let parts : segments s text ≡ segments s (take n text) ++ last ∷ [] = parts_last s part filled text n named cut in
    let whole : text ≡ take n text ++ s ∷ last = cut_last s text n cut in
    let image : name_image part s rs text ≡ written s (pkg rs (segments s (take n text)) ++ last ∷ []) =
    ap (λ (b : Bool). cond b (written s (refronted rs (segments s text))) text) named
    ∙ ap (λ (ps : Package). written s (refronted rs ps)) parts
    ∙ ap (λ (p : Package). written s (pkg rs p ++ simple (segments s (take n text) ++ last ∷ []) ∷ [])) (front-push (segments s (take n text)) last)
    ∙ ap (λ (t : Text). written s (pkg rs (segments s (take n text)) ++ t ∷ [])) (simple-push (segments s (take n text)) last) in
    record {
      within = taken_within n taken text cut.within k.within;
      image_is = image ∙ f.image ∙ ap (λ (t : Text). written s target ++ t) (sym (drop_within taken (take n text) (s ∷ last) k.within) ∙ ap (drop taken) (sym whole));
      differs = λ e. f.differs (sym image ∙ e ∙ whole);
    }

-- the image of a package
pub changed_package : (rs : List Renaming) → list_all is_rename rs ≡ true → (s : ℕ) → is_separator s ≡ true → (text : Text) (taken : ℕ) (target : Package) → IsFrontOf rs s text taken target → IsExchange s text (written s (pkg rs (segments s text))) taken target
changed_package rs formed s sep text taken target found =
    let k = package_front rs formed s sep text taken target found in
    record { within = k.within; image_is = k.image; differs = k.differs }

pub unchanged_package : (rs : List Renaming) (s : ℕ) (text : Text) → changing_pick rs (segments s text) ≡ None → written s (pkg rs (segments s text)) ≡ text
unchanged_package rs s text none = ap (written s) (unchanged rs (segments s text) none) ∙ written-segments s text
