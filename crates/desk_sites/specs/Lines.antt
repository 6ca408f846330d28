-- The lines of call sites, and of a class that is refused.
use Rattle.std.specs.Prelude.{ℕ, List, [], ◌∷◌, codes, decimal, unwrap_or}
use Rattle.desk_base.specs.Names.{Text}
use Rattle.desk_base.specs.Shown.{shown}
use Rattle.desk_base.specs.Entries.{Pool, text_at}
use Rattle.desk_report.specs.Joined.{joined}
use Rattle.desk_sites.specs.declared.sites.Site.{Site}
use Rattle.desk_sites.specs.Hex.{hex_byte}
use Rattle.desk_sites.specs.Members.{member_class, member_name, member_descriptor}

abbrev pub site_pieces : Text → Pool → Site → ℕ → List Text
site_pieces path pool s member =
    codes "site " ∷ shown path
    ∷ codes " " ∷ shown (text_at pool s.code.name) ∷ codes " " ∷ shown (text_at pool s.code.descriptor)
    ∷ codes " at=" ∷ decimal s.instruction.at ∷ codes " op=" ∷ hex_byte s.instruction.opcode
    ∷ codes " " ∷ shown (member_class pool member) ∷ codes " " ∷ shown (member_name pool member) ∷ codes " " ∷ shown (member_descriptor pool member)
    ∷ codes "\n" ∷ []

-- path; name and descriptor of the method; place from the start of the code; opcode; class, name and descriptor of the member
abbrev pub site_line : Text → Pool → Site → Text
site_line path pool s = joined (site_pieces path pool s (unwrap_or s.instruction.index 0))

-- path; what the fault is of; its name; its place from the start of the file
abbrev pub refusal : Text → Text → Text → ℕ → Text
refusal path of name at = joined (codes "refused " ∷ shown path ∷ of ∷ name ∷ codes " at=" ∷ decimal at ∷ codes "\n" ∷ [])
