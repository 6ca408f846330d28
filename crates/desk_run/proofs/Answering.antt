-- The answers of queries.
use Rattle.std.proofs.Common.{◌≡◌, ◌≤◌, ◌⊎◌, ℕ, true, false, [], Option, Some, None, refl, sym, ap, ◌∙◌, subst, Ok, Err}
use Rattle.std.specs.Prelude.{IfSome}
use Rattle.desk_base.specs.Counts.{Rose, Rose-later}
use Rattle.desk_base.specs.Names.{Text, Package}
use Rattle.desk_calls.specs.Answers.{calls_answer}
use Rattle.desk_calls.specs.Reading.{HaltsAnswering}
use Rattle.desk_comparison.specs.Halts.{HaltsComparing, IsEnd, is_comparison_status}
use Rattle.desk_folders.specs.Contents.{Contents, files_below}
use Rattle.desk_intake.specs.Halts.{HaltsAtRules, is_limit, is_rules_status}
use Rattle.desk_intake.specs.Rulings.{ruled}
use Rattle.desk_intake.specs.declared.rules.DigestedRules.{DigestedRules}
use Rattle.desk_intake.specs.declared.halts.Halt.{Halt}
use Rattle.desk_intake.specs.declared.halts.Halt.TheVariants as halt
use Rattle.desk_invert.specs.Answers.{IsFaultOf, inversion}
use Rattle.desk_invert.specs.declared.InvertError.{InvertError}
use Rattle.desk_invert.specs.declared.InvertError.TheVariants as error
use Rattle.desk_report.specs.declared.status.Status.{Status}
use Rattle.desk_report.specs.declared.status.Status.TheVariants.{Done, Refusals, Memory, FolderFault, LedgerFault, OutputFault, Usage, NestedRoots, BadRules, Limit, PathClash, NameClash, Stranded, OtherRun, Moved, NotInvertible, Differs}
use Rattle.desk_report.specs.Texts.{fault_text}
use Rattle.desk_report.specs.Written.{WritesFront, writing}
use Rattle.desk_words.specs.declared.roots.Query.{Query}
use Rattle.desk_words.specs.declared.roots.Query.TheVariants as query
use Rattle.desk_run.specs.Queries.{Answer, AnswersQuery, HaltsQuery, IsAnswered, IsBegun, IsBroken, LeavesAnswer, WritesText, answer_of, halt_of_inverse, inverse_by, stands_against, told_calls, told_inverse}
use Rattle.desk_run.specs.Named.{WhereCalls, WhereCompare, WhereInvert}
use Rattle.desk_run.specs.Stops.{status_of_halt}
use Rattle.desk_run.proofs.Promised.{front_of_line, no_line, plain}

pub if_some_map : {X : Type 0} (o : Option X) (P Q : X → Type 0) → ((x : X) → P x → Q x) → IfSome o P → IfSome o Q
if_some_map None P Q h p = tt
if_some_map (Some x) P Q h p = h x p

-- ---- behind the line of a fault

answered_behind : (answer : Answer) (old mid new : Option Text) (o o' : ℕ) (status : Status) → IsAnswered answer old mid status → (new ≡ writing [] mid) ⊎ (WritesFront [] mid new × Rose o o') → IsAnswered answer old new status
answered_behind (Ok told) old mid new o o' status h w = (no_line mid new o o' w ∙ h.0, h.1)
answered_behind (Err against) old mid new o o' status h w = absurd h

broken_behind : (answer : Answer) (old mid new : Option Text) (o o' : ℕ) → IsBegun answer old mid → (new ≡ writing (fault_text OutputFault) mid) ⊎ (WritesFront (fault_text OutputFault) mid new × Rose o o')
    → IsBroken answer (fault_text OutputFault) old new
broken_behind (Ok told) old mid new o o' h w = record { mid = mid; report = h; fault = front_of_line (fault_text OutputFault) mid new o o' w }
broken_behind (Err against) old mid new o o' h w = absurd h

-- a query has its answer once the line of its status is written
pub answers_of : (asked : Query) (told : Option Contents) (status : Status) (old mid new : Option Text) (f f' o o1 o2 : ℕ) → o ≤ o1 → o1 ≤ o2 → LeavesAnswer asked told old mid f f' o o1 status
    → (new ≡ writing (fault_text status) mid) ⊎ (WritesFront (fault_text status) mid new × Rose o1 o2) → AnswersQuery asked told old new f f' o o2 status
answers_of asked told Done old mid new f f' o o1 o2 le later a w = if_some_map told _ _ (λ m h. answered_behind (answer_of asked m) old mid new o1 o2 Done h w) a
answers_of asked told Refusals old mid new f f' o o1 o2 le later a w = if_some_map told _ _ (λ m h. answered_behind (answer_of asked m) old mid new o1 o2 Refusals h w) a
answers_of asked told Memory old mid new f f' o o1 o2 le later a w = plain (fault_text Memory) old mid new o o1 o2 le a w
answers_of asked told (FolderFault done) old mid new f f' o o1 o2 le later a w = (a.0, a.1, plain (fault_text (FolderFault done)) old mid new o o1 o2 le a.2 w)
answers_of asked told (LedgerFault done) old mid new f f' o o1 o2 le later a w = (a.0, a.1, plain (fault_text (LedgerFault done)) old mid new o o1 o2 le a.2 w)
answers_of asked told OutputFault old mid new f f' o o1 o2 le later a w = (Rose-later o o1 o2 a.0 later, if_some_map told _ _ (λ m h. broken_behind (answer_of asked m) old mid new o1 o2 h w) a.1)
answers_of asked told Usage old mid new f f' o o1 o2 le later a w = (a.0, a.1, plain (fault_text Usage) old mid new o o1 o2 le a.2 w)
answers_of asked told (NestedRoots first second) old mid new f f' o o1 o2 le later a w = (a.0, a.1, plain (fault_text (NestedRoots first second)) old mid new o o1 o2 le a.2 w)
answers_of asked told (BadRules fault) old mid new f f' o o1 o2 le later a w = (a.0, a.1, plain (fault_text (BadRules fault)) old mid new o o1 o2 le a.2 w)
answers_of asked told (OtherRun kept wanted) old mid new f f' o o1 o2 le later a w = (a.0, a.1, plain (fault_text (OtherRun kept wanted)) old mid new o o1 o2 le a.2 w)
answers_of asked told (Limit kind path) old mid new f f' o o1 o2 le later a w = (a.0, a.1, plain (fault_text (Limit kind path)) old mid new o o1 o2 le a.2 w)
answers_of asked told (PathClash first second) old mid new f f' o o1 o2 le later a w = (a.0, a.1, plain (fault_text (PathClash first second)) old mid new o o1 o2 le a.2 w)
answers_of asked told (NameClash defined other image) old mid new f f' o o1 o2 le later a w = (a.0, a.1, plain (fault_text (NameClash defined other image)) old mid new o o1 o2 le a.2 w)
answers_of asked told (Stranded path held) old mid new f f' o o1 o2 le later a w = (a.0, a.1, plain (fault_text (Stranded path held)) old mid new o o1 o2 le a.2 w)
answers_of asked told (Moved path one other) old mid new f f' o o1 o2 le later a w = (a.0, a.1, plain (fault_text (Moved path one other)) old mid new o o1 o2 le a.2 w)
answers_of asked told (NotInvertible fault) old mid new f f' o o1 o2 le later a w = (a.0, a.1, plain (fault_text (NotInvertible fault)) old mid new o o1 o2 le a.2 w)
answers_of asked told (Differs path) old mid new f f' o o1 o2 le later a w = if_some_map told _ _ (λ m h. answered_behind (answer_of asked m) old mid new o1 o2 (Differs path) h w) a

-- ---- up to it

-- a text that is written is the answer
pub reply_tells : (asked : Query) (told : Option Contents) (text : Text) (end status : Status) (old new : Option Text) (f f' o o' : ℕ) → IsEnd end → IfSome told (λ m. answer_of asked m ≡ Ok (text, end))
    → WritesText text end old new o o' status → LeavesAnswer asked told old new f f' o o' status
reply_tells asked told text end OutputFault old new f f' o o' is have w = (w.0, if_some_map told _ _ (λ m e. let P : Answer → Type 0 = λ a. IsBegun a old new in subst P (sym e) w.1) have)
reply_tells asked told text end Done old new f f' o o' is have w = if_some_map told _ _ (λ m e. let P : Answer → Type 0 = λ a. IsAnswered a old new Done in subst P (sym e) (w.1, sym w.0)) have
reply_tells asked told text end Refusals old new f f' o o' is have w = if_some_map told _ _ (λ m e. let P : Answer → Type 0 = λ a. IsAnswered a old new Refusals in subst P (sym e) (w.1, sym w.0)) have
reply_tells asked told text end Memory old new f f' o o' is have w = absurd (subst IsEnd (sym w.0) is)
reply_tells asked told text end (FolderFault done) old new f f' o o' is have w = absurd (subst IsEnd (sym w.0) is)
reply_tells asked told text end (LedgerFault done) old new f f' o o' is have w = absurd (subst IsEnd (sym w.0) is)
reply_tells asked told text end Usage old new f f' o o' is have w = absurd (subst IsEnd (sym w.0) is)
reply_tells asked told text end (NestedRoots first second) old new f f' o o' is have w = absurd (subst IsEnd (sym w.0) is)
reply_tells asked told text end (BadRules fault) old new f f' o o' is have w = absurd (subst IsEnd (sym w.0) is)
reply_tells asked told text end (OtherRun kept wanted) old new f f' o o' is have w = absurd (subst IsEnd (sym w.0) is)
reply_tells asked told text end (Limit kind path) old new f f' o o' is have w = absurd (subst IsEnd (sym w.0) is)
reply_tells asked told text end (PathClash first second) old new f f' o o' is have w = absurd (subst IsEnd (sym w.0) is)
reply_tells asked told text end (NameClash defined other image) old new f f' o o' is have w = absurd (subst IsEnd (sym w.0) is)
reply_tells asked told text end (Stranded path held) old new f f' o o' is have w = absurd (subst IsEnd (sym w.0) is)
reply_tells asked told text end (Moved path one other) old new f f' o o' is have w = absurd (subst IsEnd (sym w.0) is)
reply_tells asked told text end (NotInvertible fault) old new f f' o o' is have w = absurd (subst IsEnd (sym w.0) is)
reply_tells asked told text end (Differs path) old new f f' o o' is have w = if_some_map told _ _ (λ m e. let P : Answer → Type 0 = λ a. IsAnswered a old new (Differs path) in subst P (sym e) (w.1, sym w.0)) have

-- a status that stands against a query is told by its line alone
against_tells : (asked : Query) (told : Option Contents) (status : Status) (old : Option Text) (f f' o : ℕ) → stands_against asked status ≡ true → IfSome told (λ m. answer_of asked m ≡ Err status)
    → LeavesAnswer asked told old old f f' o o status
against_tells (query.Calls from scope) told Done old f f' o g h = let e : false ≡ true = g in cc
against_tells (query.Calls from scope) told Refusals old f f' o g h = let e : false ≡ true = g in cc
against_tells (query.Calls from scope) told Memory old f f' o g h = let e : false ≡ true = g in cc
against_tells (query.Calls from scope) told (FolderFault done) old f f' o g h = let e : false ≡ true = g in cc
against_tells (query.Calls from scope) told (LedgerFault done) old f f' o g h = (g, h, refl)
against_tells (query.Calls from scope) told OutputFault old f f' o g h = let e : false ≡ true = g in cc
against_tells (query.Calls from scope) told Usage old f f' o g h = (g, h, refl)
against_tells (query.Calls from scope) told (NestedRoots first second) old f f' o g h = (g, h, refl)
against_tells (query.Calls from scope) told (BadRules fault) old f f' o g h = (g, h, refl)
against_tells (query.Calls from scope) told (OtherRun kept wanted) old f f' o g h = (g, h, refl)
against_tells (query.Calls from scope) told (Limit kind path) old f f' o g h = (g, h, refl)
against_tells (query.Calls from scope) told (PathClash first second) old f f' o g h = (g, h, refl)
against_tells (query.Calls from scope) told (NameClash defined other image) old f f' o g h = (g, h, refl)
against_tells (query.Calls from scope) told (Stranded path held) old f f' o g h = (g, h, refl)
against_tells (query.Calls from scope) told (Moved path one other) old f f' o g h = (g, h, refl)
against_tells (query.Calls from scope) told (NotInvertible fault) old f f' o g h = (g, h, refl)
against_tells (query.Calls from scope) told (Differs path) old f f' o g h = let e : false ≡ true = g in cc
against_tells (query.Invert rules) told Done old f f' o g h = let e : false ≡ true = g in cc
against_tells (query.Invert rules) told Refusals old f f' o g h = let e : false ≡ true = g in cc
against_tells (query.Invert rules) told Memory old f f' o g h = let e : false ≡ true = g in cc
against_tells (query.Invert rules) told (FolderFault done) old f f' o g h = let e : false ≡ true = g in cc
against_tells (query.Invert rules) told (LedgerFault done) old f f' o g h = (g, h, refl)
against_tells (query.Invert rules) told OutputFault old f f' o g h = let e : false ≡ true = g in cc
against_tells (query.Invert rules) told Usage old f f' o g h = (g, h, refl)
against_tells (query.Invert rules) told (NestedRoots first second) old f f' o g h = (g, h, refl)
against_tells (query.Invert rules) told (BadRules fault) old f f' o g h = (g, h, refl)
against_tells (query.Invert rules) told (OtherRun kept wanted) old f f' o g h = (g, h, refl)
against_tells (query.Invert rules) told (Limit kind path) old f f' o g h = (g, h, refl)
against_tells (query.Invert rules) told (PathClash first second) old f f' o g h = (g, h, refl)
against_tells (query.Invert rules) told (NameClash defined other image) old f f' o g h = (g, h, refl)
against_tells (query.Invert rules) told (Stranded path held) old f f' o g h = (g, h, refl)
against_tells (query.Invert rules) told (Moved path one other) old f f' o g h = (g, h, refl)
against_tells (query.Invert rules) told (NotInvertible fault) old f f' o g h = (g, h, refl)
against_tells (query.Invert rules) told (Differs path) old f f' o g h = let e : false ≡ true = g in cc
against_tells (query.Compare rules from other) told Done old f f' o g h = let e : false ≡ true = g in cc
against_tells (query.Compare rules from other) told Refusals old f f' o g h = let e : false ≡ true = g in cc
against_tells (query.Compare rules from other) told Memory old f f' o g h = let e : false ≡ true = g in cc
against_tells (query.Compare rules from other) told (FolderFault done) old f f' o g h = let e : false ≡ true = g in cc
against_tells (query.Compare rules from other) told (LedgerFault done) old f f' o g h = (g, h, refl)
against_tells (query.Compare rules from other) told OutputFault old f f' o g h = let e : false ≡ true = g in cc
against_tells (query.Compare rules from other) told Usage old f f' o g h = (g, h, refl)
against_tells (query.Compare rules from other) told (NestedRoots first second) old f f' o g h = (g, h, refl)
against_tells (query.Compare rules from other) told (BadRules fault) old f f' o g h = (g, h, refl)
against_tells (query.Compare rules from other) told (OtherRun kept wanted) old f f' o g h = (g, h, refl)
against_tells (query.Compare rules from other) told (Limit kind path) old f f' o g h = (g, h, refl)
against_tells (query.Compare rules from other) told (PathClash first second) old f f' o g h = (g, h, refl)
against_tells (query.Compare rules from other) told (NameClash defined held image) old f f' o g h = (g, h, refl)
against_tells (query.Compare rules from other) told (Stranded path held) old f f' o g h = (g, h, refl)
against_tells (query.Compare rules from other) told (Moved path one two) old f f' o g h = (g, h, refl)
against_tells (query.Compare rules from other) told (NotInvertible fault) old f f' o g h = (g, h, refl)
against_tells (query.Compare rules from other) told (Differs path) old f f' o g h = let e : false ≡ true = g in cc

-- where there is no answer
pub halt_tells : (asked : Query) (told : Option Contents) (h : Halt) (old : Option Text) (f f' o : ℕ) → HaltsQuery asked told f f' h → LeavesAnswer asked told old old f f' o o (status_of_halt h)
halt_tells asked told halt.Memory old f f' o g = refl
halt_tells asked told halt.Folders old f f' o g = (refl, g, refl)
halt_tells asked told halt.Ledger old f f' o g = absurd g
halt_tells asked told (halt.Answer status) old f f' o g = against_tells asked told status old f f' o g.0 g.1

-- ---- calls

limit_against : (from : Text) (scope : Package) (status : Status) → is_limit status ≡ true → stands_against (query.Calls from scope) status ≡ true
limit_against from scope Done e = e
limit_against from scope Refusals e = e
limit_against from scope Memory e = e
limit_against from scope (FolderFault done) e = e
limit_against from scope (LedgerFault done) e = e
limit_against from scope OutputFault e = e
limit_against from scope Usage e = e
limit_against from scope (NestedRoots first second) e = e
limit_against from scope (BadRules fault) e = e
limit_against from scope (OtherRun kept wanted) e = e
limit_against from scope (Limit kind path) e = e
limit_against from scope (PathClash first second) e = e
limit_against from scope (NameClash defined other image) e = e
limit_against from scope (Stranded path held) e = e
limit_against from scope (Moved path one other) e = e
limit_against from scope (NotInvertible fault) e = e
limit_against from scope (Differs path) e = e

pub calls_halt : (from : Text) (scope : Package) (told : Option Contents) (f f' : ℕ) (h : Halt) → HaltsAnswering (calls_answer scope from) told f f' h → HaltsQuery (query.Calls from scope) told f f' h
calls_halt from scope told f f' halt.Memory g = tt
calls_halt from scope told f f' halt.Folders g = g
calls_halt from scope told f f' halt.Ledger g = absurd g
calls_halt from scope told f f' (halt.Answer status) g = (limit_against from scope status g.0, if_some_map told _ _ (λ m e. ap told_calls e) g.1)

-- ---- invert

rules_against : (rules : Text) (status : Status) → is_rules_status status ≡ true → stands_against (query.Invert rules) status ≡ true
rules_against rules Done e = e
rules_against rules Refusals e = e
rules_against rules Memory e = e
rules_against rules (FolderFault done) e = e
rules_against rules (LedgerFault done) e = e
rules_against rules OutputFault e = e
rules_against rules Usage e = e
rules_against rules (NestedRoots first second) e = e
rules_against rules (BadRules fault) e = refl
rules_against rules (OtherRun kept wanted) e = e
rules_against rules (Limit kind path) e = refl
rules_against rules (PathClash first second) e = e
rules_against rules (NameClash defined other image) e = e
rules_against rules (Stranded path held) e = e
rules_against rules (Moved path one other) e = e
rules_against rules (NotInvertible fault) e = refl
rules_against rules (Differs path) e = e

pub rules_halt : (rules : Text) (told : Option Contents) (f f' : ℕ) (h : Halt) → HaltsAtRules rules told f f' h → HaltsQuery (query.Invert rules) told f f' h
rules_halt rules told f f' halt.Memory g = tt
rules_halt rules told f f' halt.Folders g = g
rules_halt rules told f f' halt.Ledger g = absurd g
rules_halt rules told f f' (halt.Answer status) g = (rules_against rules status g.0, if_some_map told _ _ (λ m e. ap inverse_by e) g.1)

-- rules that have no inverse
pub inverse_halt : (rules : Text) (told : Option Contents) (r : DigestedRules) (f f' : ℕ) (e : InvertError) → IfSome told (λ m. ruled rules (files_below rules m) ≡ Ok r) → IsFaultOf (inversion r.rules) e
    → HaltsQuery (query.Invert rules) told f f' (halt_of_inverse e)
inverse_halt rules told r f f' (error.Fault fault) have is = (refl, if_some_map told _ _ (λ m e. ap inverse_by e ∙ ap told_inverse is) have)
inverse_halt rules told r f f' error.Memory have is = tt

-- ---- compare

comparison_against : (rules from other : Text) (status : Status) → is_comparison_status status ≡ true → stands_against (query.Compare rules from other) status ≡ true
comparison_against rules from other Done e = e
comparison_against rules from other Refusals e = e
comparison_against rules from other Memory e = e
comparison_against rules from other (FolderFault done) e = e
comparison_against rules from other (LedgerFault done) e = e
comparison_against rules from other OutputFault e = e
comparison_against rules from other Usage e = e
comparison_against rules from other (NestedRoots first second) e = e
comparison_against rules from other (BadRules fault) e = refl
comparison_against rules from other (OtherRun kept wanted) e = e
comparison_against rules from other (Limit kind path) e = refl
comparison_against rules from other (PathClash first second) e = refl
comparison_against rules from other (NameClash defined held image) e = refl
comparison_against rules from other (Stranded path held) e = refl
comparison_against rules from other (Moved path one two) e = e
comparison_against rules from other (NotInvertible fault) e = e
comparison_against rules from other (Differs path) e = e

pub comparison_halt : (rules from other : Text) (told : Option Contents) (f f' : ℕ) (h : Halt) → HaltsComparing rules from other told f f' h → HaltsQuery (query.Compare rules from other) told f f' h
comparison_halt rules from other told f f' halt.Memory g = tt
comparison_halt rules from other told f f' halt.Folders g = g
comparison_halt rules from other told f f' halt.Ledger g = absurd g
comparison_halt rules from other told f f' (halt.Answer status) g = (comparison_against rules from other status g.0, g.1)

-- ---- what a query leaves, as what is answered to calls, to compare and to invert

pub calls_clause : (asked : Query) (told : Option Contents) (old new : Option Text) (f f' o o' : ℕ) (status : Status) → AnswersQuery asked told old new f f' o o' status
    → WhereCalls (λ from scope. AnswersQuery (query.Calls from scope) told old new f f' o o' status) asked
calls_clause (query.Calls from scope) told old new f f' o o' status a = a
calls_clause (query.Invert rules) told old new f f' o o' status a = tt
calls_clause (query.Compare rules from other) told old new f f' o o' status a = tt

pub invert_clause : (asked : Query) (told : Option Contents) (old new : Option Text) (f f' o o' : ℕ) (status : Status) → AnswersQuery asked told old new f f' o o' status
    → WhereInvert (λ rules. AnswersQuery (query.Invert rules) told old new f f' o o' status) asked
invert_clause (query.Calls from scope) told old new f f' o o' status a = tt
invert_clause (query.Compare rules from other) told old new f f' o o' status a = tt
invert_clause (query.Invert rules) told old new f f' o o' status a = a

pub compare_clause : (asked : Query) (told : Option Contents) (old new : Option Text) (f f' o o' : ℕ) (status : Status) → AnswersQuery asked told old new f f' o o' status
    → WhereCompare (λ rules from other. AnswersQuery (query.Compare rules from other) told old new f f' o o' status) asked
compare_clause (query.Calls from scope) told old new f f' o o' status a = tt
compare_clause (query.Compare rules from other) told old new f f' o o' status a = a
compare_clause (query.Invert rules) told old new f f' o o' status a = tt
