-- What is told of two applications.
use Rattle.std.specs.Prelude.{ℕ, [], ◌∷◌, codes, decimal}
use Rattle.desk_base.specs.Names.{Text}
use Rattle.desk_base.specs.Shown.{shown}
use Rattle.desk_compare.specs.declared.files.Verdict.{Verdict}
use Rattle.desk_compare.specs.declared.files.Verdict.TheVariants as verdict
use Rattle.desk_compare.specs.declared.files.What.{What}
use Rattle.desk_compare.specs.declared.files.What.TheVariants as what
use Rattle.desk_report.specs.Joined.{joined}
use Rattle.desk_report.specs.declared.status.Status.{Status}
use Rattle.desk_report.specs.declared.status.Status.TheVariants.{Done, Differs}

-- the word of a difference
abbrev pub word_of : What → Text
word_of what.Missing = codes "missing"
word_of what.Extra = codes "extra"
word_of what.Bytes = codes "bytes"
word_of what.Malformed = codes "malformed"
word_of what.Tree = codes "tree"

-- how many files are the same; or the least path that differs, with how
abbrev pub verdict_text : ℕ → Verdict → Text
verdict_text files verdict.Same = joined (codes "same files=" ∷ decimal files ∷ codes "\n" ∷ [])
verdict_text files (verdict.Differs path difference) = joined (codes "differs " ∷ shown path ∷ codes " " ∷ word_of difference ∷ codes "\n" ∷ [])

abbrev pub verdict_status : Verdict → Status
verdict_status verdict.Same = Done
verdict_status (verdict.Differs path difference) = Differs path
