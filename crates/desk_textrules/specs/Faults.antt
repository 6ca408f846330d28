-- When a text has no image.
use Rattle.std.specs.Prelude.{◌≡◌, ⊤, List, Err}
use Rattle.desk_base.specs.Names.{Text}
use Rattle.desk_patterns.specs.TextRules.{TextRule}
use Rattle.desk_textrules.specs.TextImages.{text_image}
use Rattle.desk_textrules.specs.declared.TextFault.{TextFault}
use Rattle.desk_textrules.specs.declared.TextFault.TheVariants.{Unsettled, Memory}

-- the rules of the target would change the image, at the first such place of it; want of memory comes freely
abbrev pub IsTextFault : List TextRule → List TextRule → Text → TextFault → Type 0
IsTextFault here there text (Unsettled at) = text_image here there text ≡ Err at
IsTextFault here there text Memory = ⊤
