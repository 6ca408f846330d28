-- What one class file gives.
use Rattle.std.specs.Prelude.{true, false, List, length, Option, Some, None, codes}
use Rattle.std.specs.List.{flat_map}
use Rattle.desk_base.specs.Names.{Text, Package}
use Rattle.desk_base.specs.Entries.{Pool}
use Rattle.desk_base.specs.declared.faults.CodeFault.{CodeFault}
use Rattle.desk_base.specs.declared.faults.Malformed.{Malformed}
use Rattle.desk_format.specs.Classes.{class_fault}
use Rattle.desk_class.specs.Parts.{pool_in}
use Rattle.desk_code.specs.Codes.{codes_in}
use Rattle.desk_report.specs.declared.lines.Reason.TheVariants as reasons
use Rattle.desk_report.specs.declared.lines.ReportLine.TheVariants as report
use Rattle.desk_report.specs.Texts.{line_text}
use Rattle.desk_sites.specs.declared.class.ClassSites.{ClassSites}
use Rattle.desk_sites.specs.declared.sites.Site.{Site}
use Rattle.desk_code.specs.Faults.{place_of}
use Rattle.desk_sites.specs.Faults.{fault_name}
use Rattle.desk_sites.specs.Sites.{sites_of_codes, first_fault}
use Rattle.desk_sites.specs.Lines.{site_line, refusal}

-- one line, and no site
abbrev pub refused : Text → ClassSites
refused line = record { lines = line; sites = 0; refused = true }

-- a class that isn't well-formed has the line that a report has for it
abbrev pub malformed : Text → Malformed → ClassSites
malformed path fault = refused (line_text (report.Refused path (reasons.Malformed fault)))

-- a class of which a code array doesn't read
abbrev pub code_refused : Text → CodeFault → ClassSites
code_refused path fault = refused (refusal path (codes " code ") (fault_name fault) (place_of fault))

-- a line for each site
abbrev pub site_lines : Text → Pool → List Site → ClassSites
site_lines path pool sites = record { lines = flat_map (site_line path pool) sites; sites = length sites; refused = false }

abbrev pub sites_or : Text → Pool → List Site → Option CodeFault → ClassSites
sites_or path pool sites None = site_lines path pool sites
sites_or path pool sites (Some fault) = code_refused path fault

-- a well-formed class: its sites, where all its code arrays read
abbrev pub sites_of_class : Package → Text → Text → ClassSites
sites_of_class scope path bytes =
    sites_or path (pool_in bytes) (sites_of_codes (pool_in bytes) scope bytes (codes_in bytes)) (first_fault (pool_in bytes) bytes (codes_in bytes))

abbrev pub class_or : Package → Text → Text → Option Malformed → ClassSites
class_or scope path bytes None = sites_of_class scope path bytes
class_or scope path bytes (Some fault) = malformed path fault

-- what the class file of some bytes gives, by its path
abbrev pub class_sites : Package → Text → Text → ClassSites
class_sites scope path bytes = class_or scope path bytes (class_fault bytes)
