-- A line with its provider name exchanged between two places.
use Rattle.std.proofs.Common.{◌≡◌, ◌≢◌, ◌≤◌, ◌+◌, ◌-◌, ℕ, Bool, true, false, cond, not, ◌&&◌, [], ◌∷◌, ◌++◌, length, take, drop, refl, sym, ap, ◌∙◌, arith, append_assoc, length-append, take-append-drop}
use Rattle.std.specs.Str.{bytes_eq}
use Rattle.std.proofs.lemmas.Bool.{false_from_ne_true}
use Rattle.std.proofs.lemmas.Slice.Eq.{bytes_eq-Decides}
use Rattle.std.proofs.lemmas.List.{take_at, drop_at, drop-drop}
use Rattle.desk_base.specs.Names.{Text, is_empty}
use Rattle.desk_base.proofs.Lists.{empty_is}
use Rattle.desk_lines.specs.Cuts.{until, onward}
use Rattle.desk_lines.specs.Blanks.{not_blank, trailing_blanks, leading_blanks}
use Rattle.desk_metainf.specs.Services.{is_hash, provider, with_provider, line_image, is_changed}
use Rattle.desk_metainf.specs.Reading.{IsProviderAt, exchanged, is_exchanged}
use Rattle.desk_metainf.proofs.ServiceLaws.{parts_joined}

-- what is exchanged for itself leaves the line
pub put_back : (line : Text) (from to : ℕ) → from ≤ to → take from line ++ (take (to - from) (drop from line) ++ drop to line) ≡ line
put_back line from to order =
    let there : from + (to - from) ≡ to = omega arith in
    ap (λ (t : Text). take from line ++ (take (to - from) (drop from line) ++ t)) (ap (λ (n : ℕ). drop n line) (sym there) ∙ sym (drop-drop (to - from) from line))
    ∙ ap (λ (t : Text). take from line ++ t) (take-append-drop (to - from) (drop from line))
    ∙ take-append-drop from line

pub differs : (image name : Text) → image ≢ name → true ≡ not (bytes_eq image name)
differs image name apart = ap not (sym (false_from_ne_true _ (λ e. apart ((bytes_eq-Decides image name).0 e))))

pub agrees : (image name : Text) → image ≡ name → false ≡ not (bytes_eq image name)
agrees image name same = ap not (sym ((bytes_eq-Decides image name).1 same))

-- three parts, cut at their places
pub record Cut (x front name more : Text) (from to : ℕ) : Type 0 where
  pub front_is : take from x ≡ front
  pub name_is : take (to - from) (drop from x) ≡ name
  pub more_is : drop to x ≡ more

cut_parts : (front name more : Text) (from to : ℕ) → from ≡ length front → to ≡ from + length name → Cut (front ++ (name ++ more)) front name more from to
cut_parts front name more from to from_is to_is =
    let behind : drop from (front ++ (name ++ more)) ≡ name ++ more = drop_at front (name ++ more) from (sym from_is) in
    let size : to - from ≡ length name = omega arith in
    let both : to ≡ length (front ++ name) = to_is ∙ ap (λ (n : ℕ). n + length name) from_is ∙ sym (length-append front name) in
    record {
      front_is = take_at front (name ++ more) from (sym from_is);
      name_is = ap (take (to - from)) behind ∙ take_at name more (to - from) (sym size);
      more_is = ap (drop to) (sym (append_assoc front name more)) ∙ drop_at (front ++ name) more to (sym both);
    }

-- the parts of a line's content
pub record LineCut (content : Text) (from to : ℕ) : Type 0 where
  pub front_is : take from content ≡ leading_blanks (until is_hash content)
  pub name_is : take (to - from) (drop from content) ≡ provider content
  pub more_is : drop to content ≡ trailing_blanks (onward not_blank (until is_hash content)) ++ onward is_hash content

pub line_cut : (content : Text) (from to : ℕ) → IsProviderAt content from to → LineCut content from to
line_cut content from to place =
    let front = leading_blanks (until is_hash content) in
    let back = trailing_blanks (onward not_blank (until is_hash content)) ++ onward is_hash content in
    let parts : content ≡ front ++ (provider content ++ back) = sym (parts_joined content) in
    let cut = cut_parts front (provider content) back from to place.from_is place.to_is in
    record {
      front_is = ap (take from) parts ∙ cut.front_is;
      name_is = ap (λ (t : Text). take (to - from) (drop from t)) parts ∙ cut.name_is;
      more_is = ap (drop to) parts ∙ cut.more_is;
    }

-- also a line without a provider has the image of nothing in its place
line_image_with : (image : Text → Text) → image [] ≡ [] → (content : Text) → line_image image content ≡ with_provider (image (provider content)) content
line_image_with image at_nothing content =
    elim (is_empty (provider content)) as (λ (b : Bool). is_empty (provider content) ≡ b → cond b content (with_provider (image (provider content)) content) ≡ with_provider (image (provider content)) content) [
      | true ↦ λ e.
          let nothing : provider content ≡ [] = empty_is (provider content) e in
          sym (parts_joined content) ∙ ap (λ (t : Text). with_provider t content) (nothing ∙ sym at_nothing ∙ ap image (sym nothing))
      | false ↦ λ e. refl
    ] refl

pub exchanged_line : (image : Text → Text) → image [] ≡ [] → (content : Text) (from to : ℕ) → IsProviderAt content from to → exchanged image from to content ≡ line_image image content
exchanged_line image at_nothing content from to place =
    let cut = line_cut content from to place in
    let front = leading_blanks (until is_hash content) in
    ap (λ (t : Text). t ++ (image (take (to - from) (drop from content)) ++ drop to content)) cut.front_is
    ∙ ap (λ (t : Text). front ++ (image t ++ drop to content)) cut.name_is
    ∙ ap (λ (t : Text). front ++ (image (provider content) ++ t)) cut.more_is
    ∙ sym (line_image_with image at_nothing content)

changed_name : (image : Text → Text) → image [] ≡ [] → (name : Text) → not (bytes_eq (image name) name) ≡ (not (is_empty name) && not (bytes_eq (image name) name))
changed_name image at_nothing [] = sym (agrees (image []) [] at_nothing)
changed_name image at_nothing (b ∷ name) = refl

pub exchanged_changed : (image : Text → Text) → image [] ≡ [] → (content : Text) (from to : ℕ) → IsProviderAt content from to → is_exchanged image from to content ≡ is_changed image content
exchanged_changed image at_nothing content from to place =
    ap (λ (t : Text). not (bytes_eq (image t) t)) (line_cut content from to place).name_is ∙ changed_name image at_nothing (provider content)
