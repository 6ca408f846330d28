-- Whether text rules make a text longer than it may be.
use Rattle.std.specs.Prelude.{ℕ, Bool, true, false, nat_lt, Option, Some, None, length}
use Rattle.desk_base.specs.Names.{Text}
use Rattle.desk_patterns.specs.PatternTexts.{FileTexts}
use Rattle.desk_textrules.specs.TextImages.{replaced}
use Rattle.desk_file.specs.declared.treatments.Treatment.{Treatment}
use Rattle.desk_file.specs.declared.treatments.Treatment.TheVariants as treatment

-- whether a file is treated as a text
abbrev pub is_text : Treatment → Bool
is_text treatment.Texts = true
is_text treatment.Class = false
is_text treatment.UnselectedClass = false
is_text treatment.Service = false
is_text treatment.Manifest = false
is_text treatment.Copy = false

-- whether a text has more than so many bytes with the sources of its path exchanged
abbrev pub text_outgrows : Option FileTexts → Text → ℕ → Bool
text_outgrows None bytes most = false
text_outgrows (Some texts) bytes most = nat_lt most (length (replaced texts.here bytes))
