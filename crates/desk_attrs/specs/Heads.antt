-- What was walked of an attribute before its body.
use Rattle.std.specs.Prelude.{◌≡◌, ℕ, ◌+◌, Option}
use Rattle.desk_base.specs.Entries.{Pool}
use Rattle.desk_format.specs.declared.attributes.Attribute.{Attribute}
use Rattle.desk_format.specs.Layouts.{Layout}
use Rattle.desk_format.specs.Attributes.{attribute_named}
use Rattle.desk_format.specs.Reading.{read, fenced, attribute_at}
use Rattle.desk_format.specs.Walk.{Walk, walk}

-- Between two walks the name of an attribute and the length of its body were read. Whatever body that name and length select,
-- reading the attribute from the first goes on as reading this body, fenced, from the second; the length stands in the four
-- bytes before.
pub record HeadWalked (pool : Pool) (w w' : Walk) (attribute : Option Attribute) (length length_at : ℕ) : Type 0 where
  pub goes_on : (body : ℕ → Option Attribute → Layout)
      → walk (attribute_at pool (λ size name. read pool (body size (attribute_named name)))) w ≡ walk (fenced length (read pool (body length attribute))) w'
  pub place : w'.at ≡ length_at + 4
