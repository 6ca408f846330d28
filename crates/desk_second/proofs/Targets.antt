-- The targets of images lie apart.
use Rattle.std.proofs.Common.{◌≡◌, ◌≢◌, inl, inr, ℕ, suc, List, [], ◌∷◌, get_or, None, refl, sym, ap, subst, ◌∙◌, arith}
use Rattle.std.specs.Ordering.{nat_cmp}
use Rattle.std.specs.declared.cmp.Ordering.TheVariants.{Less}
use Rattle.std.specs.Cmp.Lexicographic.{slice_cmp}
use Rattle.desk_base.specs.Names.{Text}
use Rattle.desk_clashes.specs.Clashes.{first_clash}
use Rattle.desk_clashes.specs.ClashLaws.{Apart, ApartFromAll, AllApart, all_apart, apart_places}
use Rattle.desk_file.specs.Images.{target}
use Rattle.desk_folders.specs.Contents.{File}
use Rattle.desk_packages.proofs.Picks.{In}
use Rattle.desk_packages.proofs.Searched.{in_at}
use Rattle.desk_packages.specs.Keys.{RiseBy}
use Rattle.desk_rules.specs.Rules.{Rules}
use Rattle.desk_rules.specs.RuleSets.{IsRuleSet}
use Rattle.desk_class.proofs.Ascending.{from_contains}
use Rattle.desk_graph.proofs.Numbering.{less_itself}
use Rattle.desk_second.specs.Applications.{targets_of}
use Rattle.desk_second.specs.Second.{IsImageOf}
use Rattle.desk_second.proofs.Classes.{in_map}
use Rattle.desk_second.proofs.Files.{target_again}

module _ (rules : Rules) (is : IsRuleSet rules) (files : List File) (none : first_clash (targets_of rules files) ≡ None) where
  goes : File → Text
  goes file = target rules file.path

  -- an image goes to its own path
  own_target : (new : File) → IsImageOf rules files new → target rules new.path ≡ new.path
  own_target new i = ap (target rules) i.path ∙ target_again rules is i.file.path ∙ sym i.path

  pair_apart : (x y : File) → IsImageOf rules files x → IsImageOf rules files y → x.path ≢ y.path → Apart x.path y.path
  pair_apart x y i j differ =
      let ts = targets_of rules files in
      let there : In (targets_of rules files) (target rules i.file.path) = in_map (λ (file : File). target rules file.path) files i.file (from_contains files i.file i.there) in
      let here : In (targets_of rules files) (target rules j.file.path) = in_map (λ (file : File). target rules file.path) files j.file (from_contains files j.file j.there) in
      let a = in_at (targets_of rules files) (target rules i.file.path) there in
      let b = in_at (targets_of rules files) (target rules j.file.path) here in
      let at_a : get_or (targets_of rules files) a.0 [] ≡ x.path = a.2 [] ∙ sym i.path in
      let at_b : get_or (targets_of rules files) b.0 [] ≡ y.path = b.2 [] ∙ sym j.path in
      let places : a.0 ≢ b.0 = λ e. differ (sym at_a ∙ ap (λ (k : ℕ). get_or (targets_of rules files) k []) e ∙ at_b) in
      let apart : Apart (get_or (targets_of rules files) a.0 []) (get_or (targets_of rules files) b.0 []) = apart_places (targets_of rules files) a.0 b.0 (all_apart (targets_of rules files) none) places a.1 b.1 in
      subst (λ (t : Text). Apart t y.path) at_a (subst (λ (t : Text). Apart (get_or (targets_of rules files) a.0 []) t) at_b apart)

  images_apart : (x y : File) → IsImageOf rules files x → IsImageOf rules files y → x.path ≢ y.path → Apart (target rules x.path) (target rules y.path)
  images_apart x y i j differ =
      subst (λ (t : Text). Apart t (target rules y.path)) (sym (own_target x i)) (subst (λ (t : Text). Apart x.path t) (sym (own_target y j)) (pair_apart x y i j differ))

  from_all : (x : File) (xs : List File) → IsImageOf rules files x → ((y : File) → In xs y → IsImageOf rules files y) → ((y : File) → In xs y → x.path ≢ y.path) → ApartFromAll (target rules x.path) (targets_of rules xs)
  from_all x [] i each differ = tt
  from_all x (y ∷ ys) i each differ = (images_apart x y i (each y (inl refl)) (differ y (inl refl)), from_all x ys i (λ z h. each z (inr h)) (λ z h. differ z (inr h)))

  tail_rise : (x : File) (xs : List File) → RiseBy (λ (file : File). file.path) (x ∷ xs) → RiseBy (λ (file : File). file.path) xs
  tail_rise x xs rise i j d lt h = rise (suc i) (suc j) d (omega arith) (omega arith)

  head_differs : (x : File) (xs : List File) → RiseBy (λ (file : File). file.path) (x ∷ xs) → (y : File) → In xs y → x.path ≢ y.path
  head_differs x xs rise y h = λ e.
      let at = in_at xs y h in
      let less : slice_cmp nat_cmp x.path (get_or xs at.0 y).path ≡ Less = rise 0 (suc at.0) y (omega arith) (omega (arith, at.1)) in
      less_itself y.path (ap (λ (t : Text). slice_cmp nat_cmp t y.path) (sym e) ∙ ap (λ (f : File). slice_cmp nat_cmp x.path f.path) (sym (at.2 y)) ∙ less)

  pub all_apart_again : (xs : List File) → ((y : File) → In xs y → IsImageOf rules files y) → RiseBy (λ (file : File). file.path) xs → AllApart (targets_of rules xs)
  all_apart_again [] each rise = tt
  all_apart_again (x ∷ xs) each rise =
      (from_all x xs (each x (inl refl)) (λ y h. each y (inr h)) (head_differs x xs rise), all_apart_again xs (λ y h. each y (inr h)) (tail_rise x xs rise))
