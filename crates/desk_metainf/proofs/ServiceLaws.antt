-- A service file's image is its own image.
use Rattle.std.proofs.Common.{◌≡◌, ℕ, Bool, true, false, cond, not, ◌&&◌, ◌==◌, ◌+◌, List, [], ◌∷◌, ◌++◌, length, Option, Some, None, Ok, refl, ap, ap₂, sym, subst, ◌∙◌, append_assoc, inl, inr}
use Rattle.std.specs.List.{list_all}
use Rattle.std.specs.Str.{bytes_eq}
use Rattle.std.proofs.lemmas.Bool.{and_parts, and_from, not-true, not-false, eqb-true, or_cases}
use Rattle.std.proofs.lemmas.List.Folds.{list_all-append}
use Rattle.std.proofs.lemmas.Slice.Eq.{bytes_eq-Decides}
use Rattle.desk_base.specs.Names.{Text, is_empty}
use Rattle.desk_lines.specs.declared.lines.LineEnd.{LineEnd}
use Rattle.desk_lines.specs.declared.lines.LineEnd.TheVariants as ends
use Rattle.desk_lines.specs.Lines.{Line, line, end_bytes, joined, lines, is_one_line, is_lf, begins_lf, ends_well, are_well_ended}
use Rattle.desk_lines.specs.Cuts.{until, onward, stops}
use Rattle.desk_lines.specs.Blanks.{is_blank, not_blank, trimmed_end, trailing_blanks, leading_blanks}
use Rattle.desk_metainf.specs.Services.{is_hash, provider, with_provider, line_image, is_bad, first_bad, is_changed, count_changed, on_contents, migrated, service_by, service_of, is_name_byte, is_provider_name}
use Rattle.desk_base.specs.declared.Changed.{Changed}
use Rattle.desk_base.proofs.Bools.{none_parts}
use Rattle.desk_base.proofs.Lists.{all_weaker}
use Rattle.desk_lines.proofs.LineLaws.{formed-lines, lines-joined}
use Rattle.desk_lines.proofs.Cuts.{fails, until-onward, fails-until, stops-onward, until-append, onward-append}
use Rattle.desk_lines.proofs.Trimming.{trimmed-trailing, all_blank, trimmed_end-append, trailing-append, blank_from_not}

abbrev pub built : Text → Text → Text → Text → Text
built front name back comment = front ++ (name ++ (back ++ comment))

blank_no_hash : (b : ℕ) → is_blank b ≡ true → not (is_hash b) ≡ true
blank_no_hash b h = elim (or_cases _ _ h) [
  | inl e ↦ ap (λ (n : ℕ). not (n == 35)) (eqb-true b 32 e)
  | inr e ↦ ap (λ (n : ℕ). not (n == 35)) (eqb-true b 9 e)
]

blank_not_inked : (b : ℕ) → is_blank b ≡ true → not (not_blank b) ≡ true
blank_not_inked b h = ap (λ (c : Bool). not (not c)) h

name_inked : (b : ℕ) → is_name_byte b ≡ true → not_blank b ≡ true
name_inked b h = (and_parts _ _ h).0

name_no_hash : (b : ℕ) → is_name_byte b ≡ true → not (is_hash b) ≡ true
name_no_hash b h = (and_parts _ _ (and_parts _ _ h).1).0

name_flat : (b : ℕ) → is_name_byte b ≡ true → (not (b == 10) && not (b == 13)) ≡ true
name_flat b h = (and_parts _ _ (and_parts _ _ h).1).1

all_both : (p : ℕ → Bool) (x y : Text) → list_all p x ≡ true → list_all p y ≡ true → list_all p (x ++ y) ≡ true
all_both p x y h g = list_all-append p x y ∙ and_from _ _ h g

all_parts : (p : ℕ → Bool) (x y : Text) → list_all p (x ++ y) ≡ true → (list_all p x ≡ true) × (list_all p y ≡ true)
all_parts p x y h = and_parts _ _ (sym (list_all-append p x y) ∙ h)

-- the parts of a content
record Parts (front name back comment : Text) : Type 0 where
  front_blank : list_all is_blank front ≡ true
  named : is_provider_name name ≡ true
  back_blank : list_all is_blank back ≡ true
  behind : stops is_hash comment ≡ true

outer : (x y z w : Text) → x ++ (y ++ (z ++ w)) ≡ (x ++ (y ++ z)) ++ w
outer x y z w = ap (λ (t : Text). x ++ t) (sym (append_assoc y z w)) ∙ sym (append_assoc x (y ++ z) w)

before_hash : (front name back : Text) → list_all is_blank front ≡ true → is_provider_name name ≡ true → list_all is_blank back ≡ true → fails is_hash (front ++ (name ++ back)) ≡ true
before_hash front name back f n k =
    all_both (λ b. not (is_hash b)) front (name ++ back) (all_weaker is_blank (λ b. not (is_hash b)) blank_no_hash front f)
    (all_both (λ b. not (is_hash b)) name back (all_weaker is_name_byte (λ b. not (is_hash b)) name_no_hash name (and_parts _ _ n).1) (all_weaker is_blank (λ b. not (is_hash b)) blank_no_hash back k))

code_of : (front name back comment : Text) → Parts front name back comment → until is_hash (built front name back comment) ≡ front ++ (name ++ back)
code_of front name back comment p =
    ap (until is_hash) (outer front name back comment)
    ∙ until-append is_hash (front ++ (name ++ back)) comment (before_hash front name back p.front_blank p.named p.back_blank) p.behind

comment_of : (front name back comment : Text) → Parts front name back comment → onward is_hash (built front name back comment) ≡ comment
comment_of front name back comment p =
    ap (onward is_hash) (outer front name back comment)
    ∙ onward-append is_hash (front ++ (name ++ back)) comment (before_hash front name back p.front_blank p.named p.back_blank) p.behind

starts_inked : (name more : Text) → is_provider_name name ≡ true → stops not_blank (name ++ more) ≡ true
starts_inked [] more h = absurd cc
starts_inked (b ∷ name) more h = name_inked b (and_parts _ _ h).0

front_of : (front name back comment : Text) → Parts front name back comment → leading_blanks (until is_hash (built front name back comment)) ≡ front
front_of front name back comment p =
    ap leading_blanks (code_of front name back comment p)
    ∙ until-append not_blank front (name ++ back) (all_weaker is_blank (λ b. not (not_blank b)) blank_not_inked front p.front_blank) (starts_inked name back p.named)

inner_of : (front name back comment : Text) → Parts front name back comment → onward not_blank (until is_hash (built front name back comment)) ≡ name ++ back
inner_of front name back comment p =
    ap (onward not_blank) (code_of front name back comment p)
    ∙ onward-append not_blank front (name ++ back) (all_weaker is_blank (λ b. not (not_blank b)) blank_not_inked front p.front_blank) (starts_inked name back p.named)

all_inked : (name : Text) → is_provider_name name ≡ true → list_all not_blank name ≡ true
all_inked name h = all_weaker is_name_byte not_blank name_inked name (and_parts _ _ h).1

provider_of : (front name back comment : Text) → Parts front name back comment → provider (built front name back comment) ≡ name
provider_of front name back comment p = ap trimmed_end (inner_of front name back comment p) ∙ trimmed_end-append name back (all_inked name p.named) p.back_blank

back_of : (front name back comment : Text) → Parts front name back comment → trailing_blanks (onward not_blank (until is_hash (built front name back comment))) ≡ back
back_of front name back comment p = ap trailing_blanks (inner_of front name back comment p) ∙ trailing-append name back (all_inked name p.named) p.back_blank

exchanged : (front name back comment other : Text) → Parts front name back comment → with_provider other (built front name back comment) ≡ built front other back comment
exchanged front name back comment other p =
    ap₂ (λ (x y : Text). x ++ y) (front_of front name back comment p)
    (ap (λ (t : Text). other ++ t) (ap₂ (λ (x y : Text). x ++ y) (back_of front name back comment p) (comment_of front name back comment p)))

-- an image of names: its own image, and a name
pub record IsImage (image : Text → Text) : Type 0 where
  pub named : (t : Text) → is_provider_name t ≡ true → is_provider_name (image t) ≡ true
  pub again : (t : Text) → is_provider_name t ≡ true → image (image t) ≡ image t

-- a content is its parts
pub parts_joined : (c : Text) → built (leading_blanks (until is_hash c)) (provider c) (trailing_blanks (onward not_blank (until is_hash c))) (onward is_hash c) ≡ c
parts_joined c =
    outer (leading_blanks (until is_hash c)) (provider c) (trailing_blanks (onward not_blank (until is_hash c))) (onward is_hash c)
    ∙ ap (λ (t : Text). (leading_blanks (until is_hash c) ++ t) ++ onward is_hash c) (trimmed-trailing (onward not_blank (until is_hash c)))
    ∙ ap (λ (t : Text). t ++ onward is_hash c) (until-onward not_blank (until is_hash c))
    ∙ until-onward is_hash c

all_and : (p q : ℕ → Bool) (t : Text) → list_all p t ≡ true → list_all q t ≡ true → list_all (λ b. p b && q b) t ≡ true
all_and p q [] h g = refl
all_and p q (b ∷ t) h g =
    let l : (p b ≡ true) × (list_all p t ≡ true) = and_parts (p b) (list_all p t) h in
    let r : (q b ≡ true) × (list_all q t ≡ true) = and_parts (q b) (list_all q t) g in
    and_from (p b && q b) (list_all (λ b. p b && q b) t) (and_from (p b) (q b) l.0 r.0) (all_and p q t l.1 r.1)

-- the provider is a part of what stands before `#`
provider_all : (p : ℕ → Bool) (c : Text) → list_all p (until is_hash c) ≡ true → list_all p (provider c) ≡ true
provider_all p c h =
    (all_parts p (provider c) (trailing_blanks (onward not_blank (until is_hash c)))
    (ap (list_all p) (trimmed-trailing (onward not_blank (until is_hash c)))
    ∙ (all_parts p (leading_blanks (until is_hash c)) (onward not_blank (until is_hash c)) (ap (list_all p) (until-onward not_blank (until is_hash c)) ∙ h)).1)).0

code_all : (p : ℕ → Bool) (c : Text) → list_all p c ≡ true → list_all p (until is_hash c) ≡ true
code_all p c h = (all_parts p (until is_hash c) (onward is_hash c) (ap (list_all p) (until-onward is_hash c) ∙ h)).0

provider_named : (c : Text) → is_one_line c ≡ true → is_bad c ≡ false → is_empty (provider c) ≡ false → is_provider_name (provider c) ≡ true
provider_named c h g e =
    and_from _ _ (ap not e)
    (all_and not_blank (λ b. not (is_hash b) && (not (b == 10) && not (b == 13))) (provider c) (not-false _ g)
    (all_and (λ b. not (is_hash b)) (λ b. not (b == 10) && not (b == 13)) (provider c)
    (provider_all (λ b. not (is_hash b)) c (fails-until is_hash c))
    (provider_all (λ b. not (b == 10) && not (b == 13)) c (code_all (λ b. not (b == 10) && not (b == 13)) c h))))

content_parts : (c : Text) (name : Text) → is_provider_name name ≡ true → Parts (leading_blanks (until is_hash c)) name (trailing_blanks (onward not_blank (until is_hash c))) (onward is_hash c)
content_parts c name h = record {
  front_blank = all_weaker (λ b. not (not_blank b)) is_blank blank_from_not (leading_blanks (until is_hash c)) (fails-until not_blank (until is_hash c));
  named = h;
  back_blank = all_blank (onward not_blank (until is_hash c));
  behind = stops-onward is_hash c;
}

built_filled : (front name more : Text) → is_provider_name name ≡ true → is_empty (front ++ (name ++ more)) ≡ false
built_filled [] [] more h = absurd cc
built_filled [] (b ∷ name) more h = refl
built_filled (a ∷ front) name more h = refl

-- what is to be shown of a content and its image
record Kept (image : Text → Text) (old new : Text) : Type 0 where
  flat : is_one_line new ≡ true
  filled : is_empty new ≡ is_empty old
  good : is_bad new ≡ false
  stays : line_image image new ≡ new
  uncounted : is_changed image new ≡ false

kept_named : (image : Text → Text) (c : Text) → IsImage image → is_one_line c ≡ true → is_bad c ≡ false → is_empty (provider c) ≡ false → Kept image c (with_provider (image (provider c)) c)
kept_named image c i h g e =
    let named : is_provider_name (provider c) ≡ true = provider_named c h g e in
    let new : is_provider_name (image (provider c)) ≡ true = i.named (provider c) named in
    let parts : Parts (leading_blanks (until is_hash c)) (image (provider c)) (trailing_blanks (onward not_blank (until is_hash c))) (onward is_hash c) = content_parts c (image (provider c)) new in
    let is : provider (with_provider (image (provider c)) c) ≡ image (provider c) = provider_of _ _ _ _ parts in
    let filled : is_empty (image (provider c)) ≡ false = not-true _ (and_parts _ _ new).0 in
    let old_flat : is_one_line (built (leading_blanks (until is_hash c)) (provider c) (trailing_blanks (onward not_blank (until is_hash c))) (onward is_hash c)) ≡ true = ap is_one_line (parts_joined c) ∙ h in
    let front_flat : _ = all_parts (λ b. not (b == 10) && not (b == 13)) (leading_blanks (until is_hash c)) (provider c ++ (trailing_blanks (onward not_blank (until is_hash c)) ++ onward is_hash c)) old_flat in
    let more_flat : _ = all_parts (λ b. not (b == 10) && not (b == 13)) (provider c) (trailing_blanks (onward not_blank (until is_hash c)) ++ onward is_hash c) front_flat.1 in
    record {
      flat = all_both (λ b. not (b == 10) && not (b == 13)) (leading_blanks (until is_hash c)) (image (provider c) ++ (trailing_blanks (onward not_blank (until is_hash c)) ++ onward is_hash c)) front_flat.0
          (all_both (λ b. not (b == 10) && not (b == 13)) (image (provider c)) (trailing_blanks (onward not_blank (until is_hash c)) ++ onward is_hash c)
          (all_weaker is_name_byte (λ b. not (b == 10) && not (b == 13)) name_flat (image (provider c)) (and_parts _ _ new).1) more_flat.1);
      filled = built_filled (leading_blanks (until is_hash c)) (image (provider c)) (trailing_blanks (onward not_blank (until is_hash c)) ++ onward is_hash c) new
          ∙ sym (built_filled (leading_blanks (until is_hash c)) (provider c) (trailing_blanks (onward not_blank (until is_hash c)) ++ onward is_hash c) named)
          ∙ ap is_empty (parts_joined c);
      good = ap (λ (t : Text). not (list_all not_blank t)) is ∙ ap not (all_inked (image (provider c)) new);
      stays = ap (λ (t : Text). cond (is_empty t) (with_provider (image (provider c)) c) (with_provider (image t) (with_provider (image (provider c)) c))) is
          ∙ ap (λ (t : Bool). cond t (with_provider (image (provider c)) c) (with_provider (image (image (provider c))) (with_provider (image (provider c)) c))) filled
          ∙ ap (λ (t : Text). with_provider t (with_provider (image (provider c)) c)) (i.again (provider c) named)
          ∙ exchanged _ _ _ _ (image (provider c)) parts;
      uncounted = ap (λ (t : Text). not (is_empty t) && not (bytes_eq (image t) t)) is
          ∙ ap (λ (t : Bool). not t && not (bytes_eq (image (image (provider c))) (image (provider c)))) filled
          ∙ ap not ((bytes_eq-Decides (image (image (provider c))) (image (provider c))).1 (i.again (provider c) named));
    }

kept : (image : Text → Text) (c : Text) → IsImage image → is_one_line c ≡ true → is_bad c ≡ false → Kept image c (line_image image c)
kept image c i h g = elim (is_empty (provider c)) as (λ (t : Bool). is_empty (provider c) ≡ t → Kept image c (cond t c (with_provider (image (provider c)) c))) [
  | true ↦ λ e. record {
    flat = h;
    filled = refl;
    good = g;
    stays = ap (λ (t : Bool). cond t c (with_provider (image (provider c)) c)) e;
    uncounted = ap (λ (t : Bool). not t && not (bytes_eq (image (provider c)) (provider c))) e;
  }
  | false ↦ λ e. kept_named image c i h g e
] refl

-- what `image` keeps of each line, whose lines are formed and none bad
record AllKept (image : Text → Text) (at : ℕ) (ls new : List Line) : Type 0 where
  formed : are_well_ended new ≡ true
  starts : begins_lf new ≡ begins_lf ls
  ends : is_empty new ≡ is_empty ls
  good : first_bad at new ≡ None
  stays : on_contents (line_image image) new ≡ new
  uncounted : count_changed image new ≡ 0

ends_kept : (old new : Text) (end : LineEnd) (before after : List Line) → is_empty new ≡ is_empty old → begins_lf after ≡ begins_lf before → is_empty after ≡ is_empty before → ends_well old end before ≡ true → ends_well new end after ≡ true
ends_kept old new ends.EndOfText before after e b n h = ap₂ (λ (x y : Bool). not x && y) e n ∙ h
ends_kept old new ends.Lf before after e b n h = refl
ends_kept old new ends.Cr before after e b n h = ap not b ∙ h
ends_kept old new ends.CrLf before after e b n h = refl

all_kept : (image : Text → Text) (ls : List Line) (at other : ℕ) → IsImage image → are_well_ended ls ≡ true → first_bad at ls ≡ None → AllKept image other ls (on_contents (line_image image) ls)
all_kept image [] at other i h g = record { formed = refl; starts = refl; ends = refl; good = refl; stays = refl; uncounted = refl }
all_kept image (l ∷ ls) at other i h g =
    let here : (is_bad l.content ≡ false) × (first_bad (at + length (l.content ++ end_bytes l.end)) ls ≡ None) = none_parts (is_bad l.content) at (first_bad (at + length (l.content ++ end_bytes l.end)) ls) g in
    let k : Kept image l.content (line_image image l.content) = kept image l.content i (and_parts _ _ h).0 here.0 in
    let more : AllKept image (other + length (line_image image l.content ++ end_bytes l.end)) ls (on_contents (line_image image) ls) =
    all_kept image ls (at + length (l.content ++ end_bytes l.end)) (other + length (line_image image l.content ++ end_bytes l.end)) i (and_parts _ _ (and_parts _ _ h).1).1 here.1 in
    record {
      formed = and_from _ _ k.flat (and_from _ _ (ends_kept l.content (line_image image l.content) l.end ls (on_contents (line_image image) ls) k.filled more.starts more.ends (and_parts _ _ (and_parts _ _ h).1).0) more.formed);
      starts = ap (λ (t : Bool). t && is_lf l.end) k.filled;
      ends = refl;
      good = ap (λ (t : Bool). cond t (Some other) (first_bad (other + length (line_image image l.content ++ end_bytes l.end)) (on_contents (line_image image) ls))) k.good ∙ more.good;
      stays = ap₂ (λ (c : Text) (r : List Line). line c l.end ∷ r) k.stays more.stays;
      uncounted = ap (λ (t : Bool). cond t 1 0 + count_changed image (on_contents (line_image image) ls)) k.uncounted ∙ ap (λ (n : ℕ). 0 + n) more.uncounted;
    }

service_none : (image : Text → Text) (t : Text) → first_bad 0 (lines t) ≡ None → service_of image t ≡ Ok (migrated image (lines t))
service_none image t h = ap (service_by image (lines t)) h

-- a service file's image is its own image, and nothing of it is changed
pub service-twice : (image : Text → Text) → IsImage image → (t : Text) (new : Changed) → service_of image t ≡ Ok new → service_of image new.bytes ≡ Ok (record { bytes = new.bytes; changed = 0 })
service-twice image i t new h = elim (first_bad 0 (lines t)) as (λ (o : Option ℕ). first_bad 0 (lines t) ≡ o → service_by image (lines t) o ≡ Ok new → service_of image new.bytes ≡ Ok (record { bytes = new.bytes; changed = 0 })) [
  | Some at ↦ λ e q. absurd cc
  | None ↦ λ e q.
      let same : migrated image (lines t) ≡ new = cc in
      let k : AllKept image 0 (lines t) (on_contents (line_image image) (lines t)) = all_kept image (lines t) 0 0 i (formed-lines t) e in
      let back : lines (joined (on_contents (line_image image) (lines t))) ≡ on_contents (line_image image) (lines t) = lines-joined _ k.formed in
      subst (λ (n : Changed). service_of image n.bytes ≡ Ok (record { bytes = n.bytes; changed = 0 })) same
      (service_none image (joined (on_contents (line_image image) (lines t))) (ap (first_bad 0) back ∙ k.good)
      ∙ ap (λ (ls : List Line). Ok (migrated image ls)) back
      ∙ ap₂ (λ (ls : List Line) (n : ℕ). Ok (record { bytes = joined ls; changed = n })) k.stays k.uncounted)
] refl h
