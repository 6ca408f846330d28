-- The first answer that stands, and the answers of steps.
use Rattle.std.proofs.Common.{◌≡◌, ◌≤◌, ℕ, true, List, Option, Some, None, refl, ap, ◌∙◌, subst, IfSome}
use Rattle.desk_base.specs.Counts.{Rose-earlier}
use Rattle.desk_base.specs.Names.{Text}
use Rattle.desk_base.proofs.Results.{at_some}
use Rattle.desk_clashes.specs.Clashes.{first_clash}
use Rattle.desk_folders.specs.Contents.{Contents}
use Rattle.desk_intake.specs.Halts.{HaltsAt, HaltsAtNames, HaltsWith, HaltsClashing, is_files_status, is_limit, is_names_status}
use Rattle.desk_intake.specs.Standing.{clash_status, first_of}
use Rattle.desk_intake.specs.declared.halts.Halt.{Halt}
use Rattle.desk_intake.specs.declared.halts.Halt.TheVariants as halt
use Rattle.desk_readings.proofs.Fronts.{if_some}
use Rattle.desk_report.specs.declared.status.Status.{Status}
use Rattle.desk_report.specs.declared.status.Status.TheVariants.{Done, Refusals, Memory, FolderFault, LedgerFault, OutputFault, Usage, NestedRoots, BadRules, Limit, PathClash, NameClash, Stranded, OtherRun, Moved, NotInvertible, Differs}
use Rattle.desk_comparison.specs.Halts.{HaltsMaking, HaltsStanding, is_comparison_status}

pub moved : (P : Contents → Type 0) (now told : Option Contents) → now ≡ told → IfSome now P → IfSome told P
moved P now told same h = subst (λ o. IfSome o P) same h

-- ---- the first of two

pub first_none : (a b : Option Status) → a ≡ None → first_of a b ≡ b
first_none a b e = ap (λ o. first_of o b) e

pub first_some : (a b : Option Status) (status : Status) → a ≡ Some status → first_of a b ≡ Some status
first_some a b status e = ap (λ o. first_of o b) e

pub first_gone : (a b : Option Status) → first_of a b ≡ None → a ≡ None
first_gone None b e = refl
first_gone (Some status) b e = e

pub rest_gone : (a b : Option Status) → first_of a b ≡ None → b ≡ None
rest_gone None b e = e
rest_gone (Some status) b e = cc

-- ---- statuses

files_comparison : (status : Status) → is_files_status status ≡ true → is_comparison_status status ≡ true
files_comparison (Limit kind path) e = refl
files_comparison (PathClash first second) e = refl
files_comparison Done e = e
files_comparison Refusals e = e
files_comparison Memory e = e
files_comparison (FolderFault done) e = e
files_comparison (LedgerFault done) e = e
files_comparison OutputFault e = e
files_comparison Usage e = e
files_comparison (NestedRoots first second) e = e
files_comparison (BadRules fault) e = refl
files_comparison (NameClash defined other image) e = refl
files_comparison (Stranded path name) e = refl
files_comparison (OtherRun kept wanted) e = e
files_comparison (Moved path one other) e = e
files_comparison (NotInvertible fault) e = e
files_comparison (Differs path) e = e

limit_comparison : (status : Status) → is_limit status ≡ true → is_comparison_status status ≡ true
limit_comparison (Limit kind path) e = refl
limit_comparison (PathClash first second) e = refl
limit_comparison Done e = e
limit_comparison Refusals e = e
limit_comparison Memory e = e
limit_comparison (FolderFault done) e = e
limit_comparison (LedgerFault done) e = e
limit_comparison OutputFault e = e
limit_comparison Usage e = e
limit_comparison (NestedRoots first second) e = e
limit_comparison (BadRules fault) e = refl
limit_comparison (NameClash defined other image) e = refl
limit_comparison (Stranded path name) e = refl
limit_comparison (OtherRun kept wanted) e = e
limit_comparison (Moved path one other) e = e
limit_comparison (NotInvertible fault) e = e
limit_comparison (Differs path) e = e

names_comparison : (status : Status) → is_names_status status ≡ true → is_comparison_status status ≡ true
names_comparison (Limit kind path) e = refl
names_comparison (PathClash first second) e = refl
names_comparison Done e = e
names_comparison Refusals e = e
names_comparison Memory e = e
names_comparison (FolderFault done) e = e
names_comparison (LedgerFault done) e = e
names_comparison OutputFault e = e
names_comparison Usage e = e
names_comparison (NestedRoots first second) e = e
names_comparison (BadRules fault) e = refl
names_comparison (NameClash defined other image) e = refl
names_comparison (Stranded path name) e = refl
names_comparison (OtherRun kept wanted) e = e
names_comparison (Moved path one other) e = e
names_comparison (NotInvertible fault) e = e
names_comparison (Differs path) e = e

-- ---- steps

-- an answer to a part of what is asked
pub halts_on : (part whole : Contents → Option Status) (told mid : Option Contents) (f f1 f' : ℕ) (h : Halt) → mid ≡ told → f ≤ f1 → ((m : Contents) (status : Status) → told ≡ Some m → part m ≡ Some status → whole m ≡ Some status)
    → HaltsStanding part mid f1 f' h → HaltsStanding whole told f f' h
halts_on part whole told mid f f1 f' halt.Memory same le on g = tt
halts_on part whole told mid f f1 f' halt.Folders same le on g = Rose-earlier f f1 f' le g
halts_on part whole told mid f f1 f' halt.Ledger same le on g = absurd g
halts_on part whole told mid f f1 f' (halt.Answer status) same le on g =
    (g.0, if_some _ told (λ m t. on m status t (at_some (λ m. part m ≡ Some status) mid m (same ∙ t) g.1)))

pub files_standing : (answer : Contents → Option Status) (told : Option Contents) (f f' : ℕ) (h : Halt) → HaltsWith answer told f f' h → HaltsStanding answer told f f' h
files_standing answer told f f' halt.Memory g = tt
files_standing answer told f f' halt.Folders g = g
files_standing answer told f f' halt.Ledger g = absurd g
files_standing answer told f f' (halt.Answer status) g = (files_comparison status g.0, g.1)

pub limit_standing : (answer : Contents → Option Status) (told : Option Contents) (f f' : ℕ) (h : Halt) → HaltsAt answer told f f' h → HaltsStanding answer told f f' h
limit_standing answer told f f' halt.Memory g = tt
limit_standing answer told f f' halt.Folders g = g
limit_standing answer told f f' halt.Ledger g = absurd g
limit_standing answer told f f' (halt.Answer status) g = (limit_comparison status g.0, g.1)

pub names_making : (answer : Option Status) (h : Halt) → HaltsAtNames answer h → HaltsMaking answer h
names_making answer halt.Memory g = tt
names_making answer halt.Folders g = absurd g
names_making answer halt.Ledger g = absurd g
names_making answer (halt.Answer status) g = (names_comparison status g.0, g.1)

-- a step that reads nothing
pub making_on : (part : Option Status) (whole : Contents → Option Status) (told : Option Contents) (f f' : ℕ) (h : Halt) → ((m : Contents) (status : Status) → told ≡ Some m → part ≡ Some status → whole m ≡ Some status)
    → HaltsMaking part h → HaltsStanding whole told f f' h
making_on part whole told f f' halt.Memory on g = tt
making_on part whole told f f' halt.Folders on g = absurd g
making_on part whole told f f' halt.Ledger on g = absurd g
making_on part whole told f f' (halt.Answer status) on g = (g.0, if_some _ told (λ m t. on m status t g.1))

pub clash_making : (paths targets : List Text) (h : Halt) → HaltsClashing paths targets h → HaltsMaking (clash_status paths (first_clash targets)) h
clash_making paths targets halt.Memory g = tt
clash_making paths targets halt.Folders g = absurd g
clash_making paths targets halt.Ledger g = absurd g
clash_making paths targets (halt.Answer status) g = (files_comparison status g.0, g.1)
