-- Class names among the parts of a text, with their packages exchanged.
use Rattle.std.proofs.Common.{◌≡◌, ◌≢◌, ◌≤◌, ◌<◌, ◌+◌, ℕ, true, ◌==◌, List, [], ◌∷◌, ◌++◌, length, drop, refl, sym, ap, subst, ◌∙◌, arith, length-append, None}
use Rattle.std.specs.List.{list_all}
use Rattle.std.proofs.lemmas.List.{append_assoc}
use Rattle.std.proofs.lemmas.List.Splits.{length-slice_split}
use Rattle.desk_base.specs.Names.{Text, Package, segments, written, front, simple, is_whole, slash}
use Rattle.desk_base.proofs.Separated.{front-push}
use Rattle.desk_names.specs.ClassNames.{simple_of, class_name}
use Rattle.desk_names.specs.Pieces.{IsCut}
use Rattle.desk_names.proofs.CutNames.{last_part_whole}
use Rattle.desk_packages.specs.Renames.{Renaming, pkg, is_rename}
use Rattle.desk_rules.specs.RuleSets.{IsFrontOf, changing_pick}
use Rattle.desk_packages.proofs.Cuts.{written-segments}
use Rattle.desk_rename.specs.Images.{repackaged}
use Rattle.desk_packages.proofs.Joined.{written_push}
use Rattle.desk_packages.proofs.Segments.{behind_last, whole_alone, segments_whole}
use Rattle.desk_rename.proofs.Exchanges.{unchanged, package_front, name_front}
use Rattle.desk_rename.proofs.NameImages.{drop_within}

-- the last part of a name that is cut
last_is : (before last : Text) → IsCut before last → simple (segments slash (class_name before last)) ≡ last
unfolding simple_of
last_is before last cut = cut.simple_is

last_whole : (before last : Text) → IsCut before last → is_whole slash last ≡ true
last_whole before last cut = ap (is_whole slash) (sym (last_is before last cut)) ∙ last_part_whole (segments slash (class_name before last)) (segments_whole slash (class_name before last))

-- and its package
front_is : (before last : Text) → IsCut before last → front (segments slash (class_name before last)) ≡ segments slash before
front_is [] [] cut = refl
front_is [] (b ∷ t) cut = ap front (whole_alone slash b t (last_whole [] (b ∷ t) cut))
front_is (b ∷ a) last cut = ap front (behind_last slash b a last (last_whole (b ∷ a) last cut)) ∙ front-push (segments slash (b ∷ a)) last

repackaged_is : (rs : List Renaming) (before last : Text) → IsCut before last → repackaged rs (class_name before last) ≡ written slash (pkg rs (segments slash before) ++ last ∷ [])
repackaged_is rs before last cut =
    ap (λ (p : Package). written slash (pkg rs p ++ simple (segments slash (class_name before last)) ∷ [])) (front_is before last cut)
    ∙ ap (λ (t : Text). written slash (pkg rs (segments slash before) ++ t ∷ [])) (last_is before last cut)

-- a package, a separator and a last part, joined
joined_again : (before last : Text) → written slash (segments slash before ++ last ∷ []) ≡ class_name before last
joined_again [] last = refl
joined_again (b ∷ a) last =
    let some : 0 < length (segments slash (b ∷ a)) = omega (arith, length-slice_split (λ x. x == slash) (b ∷ a)) in
    written_push slash (segments slash (b ∷ a)) last some
    ∙ append_assoc (written slash (segments slash (b ∷ a))) (slash ∷ []) last
    ∙ ap (λ (t : Text). t ++ slash ∷ last) (written-segments slash (b ∷ a))

pub unchanged_piece : (rs : List Renaming) (before last : Text) → IsCut before last → changing_pick rs (segments slash before) ≡ None → repackaged rs (class_name before last) ≡ class_name before last
unchanged_piece rs before last cut none =
    repackaged_is rs before last cut
    ∙ ap (λ (p : Package). written slash (p ++ last ∷ [])) (unchanged rs (segments slash before) none)
    ∙ joined_again before last

pub record PieceFront (rs : List Renaming) (before last : Text) (taken : ℕ) (target : Package) : Type 0 where
  pub within : taken ≤ length (class_name before last)
  pub some : 0 < taken
  pub image : repackaged rs (class_name before last) ≡ written slash target ++ drop taken (class_name before last)
  pub differs : repackaged rs (class_name before last) ≢ class_name before last

with_slash : (before last : Text) (taken : ℕ) → 0 < taken → taken ≤ length before → class_name before last ≡ before ++ slash ∷ last
with_slash [] last taken h k = absurd (omega arith)
with_slash (b ∷ a) last taken h k = refl

pub piece_front : (rs : List Renaming) → list_all is_rename rs ≡ true → (before last : Text) → IsCut before last → (taken : ℕ) (target : Package) → IsFrontOf rs slash before taken target → PieceFront rs before last taken target
piece_front rs formed before last cut taken target found =
    let k = package_front rs formed slash refl before taken target found in
    let f = name_front rs slash before last taken target k in
    let whole : class_name before last ≡ before ++ slash ∷ last = with_slash before last taken k.some k.within in
    let lengths : length (before ++ slash ∷ last) ≡ length before + length (slash ∷ last) = length-append before (slash ∷ last) in
    let inside : taken ≤ length before = k.within in
    record {
      within = subst (λ (t : Text). taken ≤ length t) (sym whole) (omega arith);
      some = k.some;
      image = repackaged_is rs before last cut ∙ f.image
          ∙ ap (λ (t : Text). written slash target ++ t) (sym (drop_within taken before (slash ∷ last) k.within) ∙ ap (drop taken) (sym whole));
      differs = λ e. f.differs (sym (repackaged_is rs before last cut) ∙ e ∙ whole);
    }
