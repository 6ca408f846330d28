-- The first answer that stands.
use Rattle.std.specs.Prelude.{◌≡◌, ◌==◌, ◌&&◌, Option, Some, None, Bool, true, false, Ok, Err, cond}
use Rattle.std.specs.Cmp.Lexicographic.{pointwise}
use Rattle.desk_base.specs.Names.{Text}
use Rattle.desk_folders.specs.Contents.{Contents, files_below, paths_below}
use Rattle.desk_ledger.specs.declared.keeper.Header.{Header}
use Rattle.desk_ledger.specs.Ledger.{Ledger}
use Rattle.desk_report.specs.declared.status.Status.{Status}
use Rattle.desk_report.specs.declared.status.Status.TheVariants.{Usage, NestedRoots, BadRules, Limit, PathClash, NameClash, Stranded, OtherRun}
use Rattle.desk_intake.specs.Limits.{paths_answer, size_answer}
use Rattle.desk_intake.specs.Standing.{clash_answer, first_of, names_answer}
use Rattle.desk_run.specs.Reports.{ending}
use Rattle.desk_run.specs.Asked.{Asked}
use Rattle.desk_run.specs.Meaning.{Meant, run_of_asked}

-- what stands against the files below a root, by the target of each and whether it is read whole: that they are too many, that a
-- path is too long, that one has too many bytes, or that two targets clash
abbrev pub files_answer : Text → (Text → Text) → (Text → Bool) → Contents → Option Status
files_answer from target whole m =
    first_of (paths_answer from target (paths_below from m))
    (first_of (size_answer whole (files_below from m)) (clash_answer target (paths_below from m)))

abbrev pub same_header : Header → Header → Bool
same_header a b = pointwise ◌==◌ a.from b.from && (pointwise ◌==◌ a.to b.to && pointwise ◌==◌ a.rules.0 b.rules.0)

-- the ledger belongs to another run
abbrev pub other_run : Header → Option Header → Option Status
other_run ours None = None
other_run ours (Some kept) = cond (same_header kept ours) None (Some (OtherRun kept ours))

abbrev pub or_else : Option Status → Status → Status
or_else None status = status
or_else (Some first) status = first

abbrev pub answer_of_run : Contents → Ledger → Meant → Status
answer_of_run m l (Err answer) = answer l
answer_of_run m l (Ok run) = or_else (files_answer run.from run.target run.whole m) (or_else (names_answer run.name run.classes) (or_else (other_run run.header l.header) (ending run l.rows (files_below run.from m))))

-- the first that stands of: words without a task; nested roots; too many rule files; a rule file that is
-- too large; bad rules; too many files; a path that is too long; a file that is too large; two targets that
-- clash; two names of classes that would become one; a class that would be left behind; another run's ledger; files that are refused; and else that all is done
abbrev pub first_answer : Asked → Contents → Ledger → Status
first_answer asked m l = answer_of_run m l (run_of_asked asked m)

-- what the causes of a status are, where nothing is told
abbrev pub AskedCause : Asked → Status → Type 0
AskedCause asked Usage = asked ≡ Err (λ m l. Usage)
AskedCause asked (NestedRoots first second) = asked ≡ Err (λ m l. NestedRoots first second)
AskedCause asked _ = Unit {0}

-- a status with which words, folders or ledger stand against a run
abbrev pub is_answer : Status → Bool
is_answer Usage = true
is_answer (NestedRoots first second) = true
is_answer (BadRules fault) = true
is_answer (Limit kind path) = true
is_answer (PathClash first second) = true
is_answer (NameClash defined other image) = true
is_answer (Stranded path name) = true
is_answer (OtherRun kept wanted) = true
is_answer _ = false
