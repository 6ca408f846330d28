-- Direct strings and bundle updates as plain data.
use Rattle.std.specs.Prelude.{Bool, not, Option, refl}
use Rattle.std.specs.Coded.{Coded, code_by, coded×, coded_list, coded_option, coded_ℕ}
use Rattle.std.specs.Str.{bytes_eq}
use Rattle.desk_base.specs.Names.{Text}
pub use Rattle.desk_entries.specs.declared.bundles.Update.{Update}

abbrev pub text_code : Coded Text
text_code = coded_list coded_ℕ

abbrev pub update_code : Coded Update
update_code = code_by (Text × Option Text) (coded× text_code (coded_option text_code)) (λ u. (u.name, u.version)) (λ p. record { name = p.0; version = p.1 }) (λ _. refl)

-- a text, and what it is exchanged for
abbrev pub Exchange : Type 0
Exchange = Text × Text

-- whether a text is exchanged for another
abbrev pub alters : Exchange → Bool
alters e = not (bytes_eq e.0 e.1)

-- a bundle's old name, and its update
abbrev pub BundleUpdate : Type 0
BundleUpdate = Text × Update

-- whether a bundle gets another name
abbrev pub renames_bundle : BundleUpdate → Bool
renames_bundle u = not (bytes_eq u.0 u.1.name)

-- the old text of an exchange, and the old name of a bundle
abbrev pub old_text : Exchange → Text
old_text e = e.0

abbrev pub old_name : BundleUpdate → Text
old_name u = u.0
