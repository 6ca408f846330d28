-- The classes that the inverse takes back.
use Rattle.std.specs.Prelude.{◌≡◌, ℕ, List, None, Ok}
use Rattle.std.specs.List.{AllByRecursion}
use Rattle.desk_base.specs.declared.kinds.Used.{Used}
use Rattle.desk_base.specs.Entries.{text_at}
use Rattle.desk_format.specs.Laws.{IsBytes}
use Rattle.desk_format.specs.Classes.{Class, class_uses, read_class}
use Rattle.desk_format.specs.NewClass.{new_class, refusal, resolved_class}
use Rattle.desk_packages.specs.Renames.{Renaming}
use Rattle.desk_rules.specs.Rules.{Rules}
use Rattle.desk_follow.specs.RuleImages.{images_of}
use Rattle.desk_invert.specs.Laws.{IsInvertible, inverse_rules}
use Rattle.desk_invert_laws.specs.Texts.{IsFree}

-- no package that a use of a class names lies in a reach
abbrev pub NamesNone : List Renaming → Class → Type 0
NamesNone renames c = AllByRecursion (λ (u : Used). IsFree renames u.role (text_at c.pool u.index)) (class_uses c)

-- The resolved tree of a class that was rewritten by rules and then by their inverse is that of the class.
abbrev pub ClassesBack : Type 0
ClassesBack = (rules : Rules) (bytes : List ℕ) (c : Class) → IsInvertible rules → IsBytes bytes → read_class bytes ≡ Ok c
    → NamesNone rules.renames c
    → refusal (images_of rules) c ≡ None
    → refusal (images_of (inverse_rules rules)) (new_class (images_of rules) c) ≡ None
    → resolved_class (new_class (images_of (inverse_rules rules)) (new_class (images_of rules) c)) ≡ resolved_class c
