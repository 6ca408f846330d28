-- Classes that are their own images.
use Rattle.std.specs.Prelude.{◌≡◌, ℕ, Bool, true, List, [], nat_eq, Option, Some, None, if◌then◌else◌}
use Rattle.desk_base.specs.Entries.{Pool, text_at}
use Rattle.desk_base.specs.declared.kinds.Role.{Role}
use Rattle.desk_class.specs.Answers.{answer_at}
use Rattle.desk_format.specs.Classes.{Class, class_uses}
use Rattle.desk_format.specs.NewClass.{new_bytes, refusal}
use Rattle.desk_format.specs.NewPool.{added}
use Rattle.desk_format.specs.Resolved.{Images, image}
use Rattle.desk_rewrite.specs.Counts.{renamed_count, odd_count}

-- how many uses of a class have an odd text, where no use has an image that differs from its text; none where some use has
abbrev pub odd_if_unchanged : Images → Class → Option ℕ
odd_if_unchanged im c = if nat_eq (renamed_count im c) 0 then Some (odd_count c) else None

-- each text of which this is noted is its own image
abbrev pub AreOwn : Images → Pool → List (Option Bool) → Type 0
AreOwn im pool noted = (i : ℕ) (r : Role) → answer_at noted i r ≡ Some true → image im r (text_at pool i) ≡ text_at pool i

-- A class is its own image: its new bytes are its bytes, no text is added to its constant pool, and nothing refuses that.
pub record IsItself (im : Images) (bytes : List ℕ) (c : Class) : Type 0 where
  pub none : renamed_count im c ≡ 0
  pub same : new_bytes im bytes c ≡ bytes
  pub none_added : added im c.pool (class_uses c) ≡ []
  pub accepted : refusal im c ≡ None
