-- A run over a generated application, in folders of its own.
use Rattle.std.specs.Prelude.{◌≡◌, ◌⊎◌, ℕ, ◌++◌, List, [], ◌∷◌, Option, Result, Ok, Err, IsOkAnd, codes, map, false}
use Rattle.std.specs.FinMap as fin
use Rattle.desk_base.specs.Names.{Text}
use Rattle.desk_base.specs.Paths.{full}
use Rattle.desk_base.specs.Counts.{Rose}
use Rattle.desk_folders.specs.declared.folders.GenFile.{GenFile}
use Rattle.desk_folders.specs.Contents.{Contents, files_below}
use Rattle.desk_folders.specs.InMemory.{filled}
use Rattle.desk_ledger.specs.Ledger.{Ledger}
use Rattle.desk_gen.specs.Application.{generated, rule_file}
use Rattle.desk_report.specs.declared.lines.Summary.{Summary}
use Rattle.desk_report.specs.declared.status.Status.{Status}
use Rattle.desk_report.specs.declared.status.Status.TheVariants.{Done, Memory, OutputFault}
use Rattle.desk_report.specs.Texts.{fault_text, summary_text}
use Rattle.desk_report.specs.Written.{WritesFront, writing}
use Rattle.desk_words.specs.declared.roots.Roots.{Roots}
use Rattle.desk_run.specs.Asked.{asked_roots}
use Rattle.desk_run.specs.Meaning.{Meant, run_of_asked}
use Rattle.desk_run.specs.Reports.{summary_of}
use Rattle.desk_run.specs.Clauses.{TwoFronts}

-- a file with its path below a root
abbrev pub placed : Text → GenFile → GenFile
placed root file = record { path = full root file.path; content = file.content }

-- from `in` to `out`, by the rules in `rules`, with the ledger `ledger`
abbrev pub generated_roots : Roots
generated_roots = record { rules = codes "rules"; from = codes "in"; to = codes "out"; ledger = codes "ledger"; verify = false }

-- the files of an application of so many classes below `in`, and their rule file below `rules`
abbrev pub generated_files : ℕ → List GenFile
generated_files n = map (placed (codes "in")) (generated n) ++ placed (codes "rules") rule_file ∷ []

unfoldable pub generated_contents : ℕ → Contents
generated_contents n = filled (generated_files n) fin.empty

-- the totals of a run over folders that hold this, without a ledger's rows
abbrev pub totals_by : Contents → Meant → Result Summary (Ledger → Status)
totals_by m (Ok run) = Ok (summary_of run fin.empty (files_below run.from m))
totals_by m (Err answer) = Err answer

-- the totals of the run over a generated application of so many classes
abbrev pub generated_totals : ℕ → Result Summary (Ledger → Status)
generated_totals n = totals_by (generated_contents n) (run_of_asked (asked_roots generated_roots) (generated_contents n))

-- what such a run writes up to its end: the line of its totals alone, or a front of it
abbrev pub TellsTotals : ℕ → Option Text → Option Text → Status → Type 0
TellsTotals n old new Done = IsOkAnd (generated_totals n) (λ totals. new ≡ writing (summary_text totals) old)
TellsTotals n old new OutputFault = IsOkAnd (generated_totals n) (λ totals. WritesFront (summary_text totals) old new)
TellsTotals n old new Memory = new ≡ old
TellsTotals n old new _ = ⊥

-- generate: the line of the totals alone, or a front of it and a front of the fault's line, or the line of want of memory
abbrev pub Generates : ℕ → Option Text → Option Text → ℕ → ℕ → Status → Type 0
Generates n old new o o' Done = IsOkAnd (generated_totals n) (λ totals. new ≡ writing (summary_text totals) old)
Generates n old new o o' OutputFault = IsOkAnd (generated_totals n) (λ totals. TwoFronts (summary_text totals) (fault_text OutputFault) old new)
Generates n old new o o' Memory = (new ≡ writing (fault_text Memory) old) ⊎ (WritesFront (fault_text Memory) old new × Rose o o')
Generates n old new o o' _ = ⊥
