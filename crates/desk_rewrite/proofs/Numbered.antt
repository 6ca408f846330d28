-- Members with numbers of their names and of the images of their descriptors.
use Rattle.std.proofs.Common.{◌≡◌, ℕ, List, [], ◌∷◌, ◌++◌, Option, Some, None, ap, sym, ◌∙◌, unwrap_or, All}
use Rattle.std.proofs.lemmas.List.Elements.{All-push}
use Rattle.desk_base.specs.Names.{Text}
use Rattle.desk_base.specs.Entries.{Pool, text_at}
use Rattle.desk_base.specs.declared.kinds.Role.TheVariants as roles
use Rattle.desk_format.specs.Resolved.{Images, image}
use Rattle.desk_format.specs.NewClass.{renamed_in}
use Rattle.desk_rules.specs.Images.{IsImage}
use Rattle.desk_class.specs.declared.numbers.TextNumbers.{TextNumbers}
use Rattle.desk_class.specs.Numbers.{IsNumbering, Keeps, number_in}
use Rattle.desk_new_pool.specs.declared.twins.NumberedMember.{NumberedMember}
use Rattle.desk_new_pool.specs.Twins.{TellApart, IsNumbered, AreNumbered}

-- the image of the text at an index, as a descriptor
abbrev pub descriptor_at : Images → Pool → ℕ → Text
descriptor_at im entries i = image im roles.Descriptor (text_at entries i)

-- Members that have numbers of two numberings.
pub record Numbered (im : Images) (entries : Pool) (x y : TextNumbers) (ms : List NumberedMember) : Type 0 where
  pub names : IsNumbering (text_at entries) x
  pub descriptors : IsNumbering (descriptor_at im entries) y
  pub each : All (IsNumbered (renamed_in im entries) (number_in x) (number_in y)) ms

tell_apart : (texts : ℕ → Text) (x : TextNumbers) → IsNumbering texts x → TellApart (number_in x)
tell_apart texts x h s t n p q = sym (h.texts s n p) ∙ h.texts t n q

pub are_numbered : (im : Images) (entries : Pool) (x y : TextNumbers) (ms : List NumberedMember) → Numbered im entries x y ms → AreNumbered (renamed_in im entries) ms
are_numbered im entries x y ms h = record {
  names = number_in x;
  descriptors = number_in y;
  names_apart = tell_apart (text_at entries) x h.names;
  descriptors_apart = tell_apart (descriptor_at im entries) y h.descriptors;
  each = h.each;
}

-- the image that was found, or the text itself
pub image_is : (text image : Text) (answer : Option Text) → IsImage text image answer → unwrap_or answer text ≡ image
image_is text image None h = sym h
image_is text image (Some t) h = h.0

-- what is said of a text that gets a number
abbrev pub Gives : TextNumbers → TextNumbers → Text → ℕ → ℕ → Type 0
Gives x y t i n = (texts : ℕ → Text) → IsNumbering texts x → t ≡ texts i → number_in y t ≡ Some n

abbrev pub Stays : TextNumbers → TextNumbers → Text → ℕ → Type 0
Stays x y t i = (texts : ℕ → Text) → IsNumbering texts x → t ≡ texts i → IsNumbering texts y

-- one member more
pub numbered_more : (im : Images) (entries : Pool) (x x' y y' : TextNumbers) (ms : List NumberedMember) (m : NumberedMember) (s t : Text) → Numbered im entries x y ms → s ≡ text_at entries m.member.name → t ≡ descriptor_at im entries m.member.descriptor
    → Gives x x' s m.member.name m.name → Keeps x x' → Stays x x' s m.member.name → Gives y y' t m.member.descriptor m.descriptor → Keeps y y' → Stays y y' t m.member.descriptor
    → Numbered im entries x' y' (ms ++ m ∷ [])
numbered_more im entries x x' y y' ms m s t h is there name keeps stays descriptor keeps' stays' = record {
  names = stays (text_at entries) h.names is;
  descriptors = stays' (descriptor_at im entries) h.descriptors there;
  each = All-push (IsNumbered (renamed_in im entries) (number_in x') (number_in y')) ms m
      (λ i d lt. record { name = keeps.numbers _ _ (h.each i d lt).name; descriptor = keeps'.numbers _ _ (h.each i d lt).descriptor })
      (record { name = ap (number_in x') (sym is) ∙ name (text_at entries) h.names is; descriptor = ap (number_in y') (sym there) ∙ descriptor (descriptor_at im entries) h.descriptors there });
}
