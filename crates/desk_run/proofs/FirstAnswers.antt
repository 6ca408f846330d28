-- Queries and generated applications end with their first answer.
use Rattle.std.proofs.Common.{◌≡◌, ℕ, List, Option, Some, sym, ap, subst, true, false, Result, Ok, Err}
use Rattle.std.specs.Prelude.{IfSome}
use Rattle.desk_base.specs.Names.{Text}
use Rattle.desk_folders.specs.Contents.{Contents}
use Rattle.desk_ledger.specs.Ledger.{Ledger}
use Rattle.desk_report.specs.declared.status.Status.{Status}
use Rattle.desk_report.specs.declared.status.Status.TheVariants.{Done, Refusals, Memory, FolderFault, LedgerFault, OutputFault, Usage, NestedRoots, BadRules, OtherRun, Limit, PathClash, NameClash, Stranded, Moved, NotInvertible, Differs}
use Rattle.desk_report.specs.Texts.{summary_text}
use Rattle.desk_report.specs.Written.{writing}
use Rattle.desk_words.specs.declared.roots.Order.{Order}
use Rattle.desk_words.specs.declared.roots.Order.TheVariants as order
use Rattle.desk_words.specs.declared.roots.Query.{Query}
use Rattle.desk_words.specs.declared.roots.Query.TheVariants as query
use Rattle.desk_words.specs.declared.roots.RootsFault.{RootsFault}
use Rattle.desk_words.specs.Roots.{order_of_words}
use Rattle.desk_run.specs.Asked.{Asked, asked_roots}
use Rattle.desk_run.specs.Named.{asked_by, asked_of}
use Rattle.desk_run.specs.Answers.{first_answer}
use Rattle.desk_run.specs.Endings.{HasCauses, is_final}
use Rattle.desk_run.specs.Generated.{generated_contents, generated_roots}
use Rattle.desk_run.specs.GeneratedSql.{CompletesGenerated, LeavesSql, generated_answer, totals_status}
use Rattle.desk_run.specs.Queries.{Answer, IsAnswered, LeavesAnswer, answer_of, query_answer, stands_against, status_of_answer}

-- what is said where something is told, of what is told
at_told : {X : Type 0} (o : Option X) (x : X) (P : X → Type 0) → o ≡ Some x → IfSome o P → P x
at_told {X = X} o x P e h = let Q : Option X → Type 0 = λ o. IfSome o P in subst Q e h

-- ---- queries

asked_query : (words : List Text) (asked : Query) (P : Asked → Type 0) → order_of_words words ≡ Ok (order.Query asked) → P (Err (λ m l. query_answer asked m)) → P (asked_of words)
asked_query words asked P e p = let Q : Result Order RootsFault → Type 0 = λ o. P (asked_by o) in subst Q (sym e) p

answered_status : (answer : Answer) (old new : Option Text) (status : Status) → IsAnswered answer old new status → status ≡ status_of_answer answer
answered_status (Ok told) old new status h = sym h.1
answered_status (Err against) old new status h = absurd h

-- a final status is that of the answer
final_answer : (asked : Query) (m : Contents) (told : Option Contents) (status : Status) (old new : Option Text) (f f' o o' : ℕ) → told ≡ Some m → LeavesAnswer asked told old new f f' o o' status
    → is_final status ≡ true → status ≡ query_answer asked m
final_answer asked m told Done old new f f' o o' e a i = answered_status (answer_of asked m) old new Done (at_told told m (λ m. IsAnswered (answer_of asked m) old new Done) e a)
final_answer asked m told Refusals old new f f' o o' e a i = answered_status (answer_of asked m) old new Refusals (at_told told m (λ m. IsAnswered (answer_of asked m) old new Refusals) e a)
final_answer asked m told Memory old new f f' o o' e a i = cc
final_answer asked m told (FolderFault done) old new f f' o o' e a i = cc
final_answer asked m told (LedgerFault done) old new f f' o o' e a i = cc
final_answer asked m told OutputFault old new f f' o o' e a i = cc
final_answer asked m told Usage old new f f' o o' e a i = sym (ap status_of_answer (at_told told m (λ m. answer_of asked m ≡ Err Usage) e a.1))
final_answer asked m told (NestedRoots first second) old new f f' o o' e a i = sym (ap status_of_answer (at_told told m (λ m. answer_of asked m ≡ Err (NestedRoots first second)) e a.1))
final_answer asked m told (BadRules fault) old new f f' o o' e a i = sym (ap status_of_answer (at_told told m (λ m. answer_of asked m ≡ Err (BadRules fault)) e a.1))
final_answer asked m told (OtherRun kept wanted) old new f f' o o' e a i = sym (ap status_of_answer (at_told told m (λ m. answer_of asked m ≡ Err (OtherRun kept wanted)) e a.1))
final_answer asked m told (Limit kind path) old new f f' o o' e a i = sym (ap status_of_answer (at_told told m (λ m. answer_of asked m ≡ Err (Limit kind path)) e a.1))
final_answer asked m told (PathClash first second) old new f f' o o' e a i = sym (ap status_of_answer (at_told told m (λ m. answer_of asked m ≡ Err (PathClash first second)) e a.1))
final_answer asked m told (NameClash defined other image) old new f f' o o' e a i = sym (ap status_of_answer (at_told told m (λ m. answer_of asked m ≡ Err (NameClash defined other image)) e a.1))
final_answer asked m told (Stranded path held) old new f f' o o' e a i = sym (ap status_of_answer (at_told told m (λ m. answer_of asked m ≡ Err (Stranded path held)) e a.1))
final_answer asked m told (Moved path one other) old new f f' o o' e a i = cc
final_answer asked m told (NotInvertible fault) old new f f' o o' e a i = sym (ap status_of_answer (at_told told m (λ m. answer_of asked m ≡ Err (NotInvertible fault)) e a.1))
final_answer asked m told (Differs path) old new f f' o o' e a i = answered_status (answer_of asked m) old new (Differs path) (at_told told m (λ m. IsAnswered (answer_of asked m) old new (Differs path)) e a)

pub query_first : (words : List Text) (asked : Query) (m : Contents) (l : Ledger) (told : Option Contents) (status : Status) (old new : Option Text) (f f' o o' : ℕ) → order_of_words words ≡ Ok (order.Query asked)
    → told ≡ Some m → LeavesAnswer asked told old new f f' o o' status → is_final status ≡ true → status ≡ first_answer (asked_of words) m l
query_first words asked m l told status old new f f' o o' e t a i = asked_query words asked (λ a. status ≡ first_answer a m l) e (final_answer asked m told status old new f f' o o' t a i)

-- what stands against a query is no failed call, no file that moved and nothing of the words
against_causes : (asked : Query) (a : Asked) (told : Option Contents) (status : Status) (f f' k k' o o' : ℕ) → stands_against asked status ≡ true → HasCauses a told status f f' k k' o o'
against_causes (query.Calls from scope) a told Done f f' k k' o o' g = tt
against_causes (query.Calls from scope) a told Refusals f f' k k' o o' g = tt
against_causes (query.Calls from scope) a told Memory f f' k k' o o' g = tt
against_causes (query.Calls from scope) a told (FolderFault done) f f' k k' o o' g = let e : false ≡ true = g in cc
against_causes (query.Calls from scope) a told (LedgerFault done) f f' k k' o o' g = let e : false ≡ true = g in cc
against_causes (query.Calls from scope) a told OutputFault f f' k k' o o' g = let e : false ≡ true = g in cc
against_causes (query.Calls from scope) a told Usage f f' k k' o o' g = let e : false ≡ true = g in cc
against_causes (query.Calls from scope) a told (NestedRoots first second) f f' k k' o o' g = let e : false ≡ true = g in cc
against_causes (query.Calls from scope) a told (BadRules fault) f f' k k' o o' g = tt
against_causes (query.Calls from scope) a told (OtherRun kept wanted) f f' k k' o o' g = tt
against_causes (query.Calls from scope) a told (Limit kind path) f f' k k' o o' g = tt
against_causes (query.Calls from scope) a told (PathClash first second) f f' k k' o o' g = tt
against_causes (query.Calls from scope) a told (NameClash defined other image) f f' k k' o o' g = tt
against_causes (query.Calls from scope) a told (Stranded path held) f f' k k' o o' g = tt
against_causes (query.Calls from scope) a told (Moved path one other) f f' k k' o o' g = let e : false ≡ true = g in cc
against_causes (query.Calls from scope) a told (NotInvertible fault) f f' k k' o o' g = tt
against_causes (query.Calls from scope) a told (Differs path) f f' k k' o o' g = tt
against_causes (query.Invert rules) a told Done f f' k k' o o' g = tt
against_causes (query.Invert rules) a told Refusals f f' k k' o o' g = tt
against_causes (query.Invert rules) a told Memory f f' k k' o o' g = tt
against_causes (query.Invert rules) a told (FolderFault done) f f' k k' o o' g = let e : false ≡ true = g in cc
against_causes (query.Invert rules) a told (LedgerFault done) f f' k k' o o' g = let e : false ≡ true = g in cc
against_causes (query.Invert rules) a told OutputFault f f' k k' o o' g = let e : false ≡ true = g in cc
against_causes (query.Invert rules) a told Usage f f' k k' o o' g = let e : false ≡ true = g in cc
against_causes (query.Invert rules) a told (NestedRoots first second) f f' k k' o o' g = let e : false ≡ true = g in cc
against_causes (query.Invert rules) a told (BadRules fault) f f' k k' o o' g = tt
against_causes (query.Invert rules) a told (OtherRun kept wanted) f f' k k' o o' g = tt
against_causes (query.Invert rules) a told (Limit kind path) f f' k k' o o' g = tt
against_causes (query.Invert rules) a told (PathClash first second) f f' k k' o o' g = tt
against_causes (query.Invert rules) a told (NameClash defined other image) f f' k k' o o' g = tt
against_causes (query.Invert rules) a told (Stranded path held) f f' k k' o o' g = tt
against_causes (query.Invert rules) a told (Moved path one other) f f' k k' o o' g = let e : false ≡ true = g in cc
against_causes (query.Invert rules) a told (NotInvertible fault) f f' k k' o o' g = tt
against_causes (query.Invert rules) a told (Differs path) f f' k k' o o' g = tt
against_causes (query.Compare rules from other) a told Done f f' k k' o o' g = tt
against_causes (query.Compare rules from other) a told Refusals f f' k k' o o' g = tt
against_causes (query.Compare rules from other) a told Memory f f' k k' o o' g = tt
against_causes (query.Compare rules from other) a told (FolderFault done) f f' k k' o o' g = let e : false ≡ true = g in cc
against_causes (query.Compare rules from other) a told (LedgerFault done) f f' k k' o o' g = let e : false ≡ true = g in cc
against_causes (query.Compare rules from other) a told OutputFault f f' k k' o o' g = let e : false ≡ true = g in cc
against_causes (query.Compare rules from other) a told Usage f f' k k' o o' g = let e : false ≡ true = g in cc
against_causes (query.Compare rules from other) a told (NestedRoots first second) f f' k k' o o' g = let e : false ≡ true = g in cc
against_causes (query.Compare rules from other) a told (BadRules fault) f f' k k' o o' g = tt
against_causes (query.Compare rules from other) a told (OtherRun kept wanted) f f' k k' o o' g = tt
against_causes (query.Compare rules from other) a told (Limit kind path) f f' k k' o o' g = tt
against_causes (query.Compare rules from other) a told (PathClash first second) f f' k k' o o' g = tt
against_causes (query.Compare rules from other) a told (NameClash defined held image) f f' k k' o o' g = tt
against_causes (query.Compare rules from other) a told (Stranded path held) f f' k k' o o' g = tt
against_causes (query.Compare rules from other) a told (Moved path one two) f f' k k' o o' g = let e : false ≡ true = g in cc
against_causes (query.Compare rules from other) a told (NotInvertible fault) f f' k k' o o' g = tt
against_causes (query.Compare rules from other) a told (Differs path) f f' k k' o o' g = tt

pub query_causes : (asked : Query) (a : Asked) (told : Option Contents) (status : Status) (old new : Option Text) (f f' k k' o o' : ℕ) → LeavesAnswer asked told old new f f' o o' status
    → HasCauses a told status f f' k k' o o'
query_causes asked a told Done old new f f' k k' o o' h = tt
query_causes asked a told Refusals old new f f' k k' o o' h = tt
query_causes asked a told Memory old new f f' k k' o o' h = tt
query_causes asked a told (FolderFault done) old new f f' k k' o o' h = h.1
query_causes asked a told (LedgerFault done) old new f f' k k' o o' h = against_causes asked a told (LedgerFault done) f f' k k' o o' h.0
query_causes asked a told OutputFault old new f f' k k' o o' h = h.0
query_causes asked a told Usage old new f f' k k' o o' h = against_causes asked a told Usage f f' k k' o o' h.0
query_causes asked a told (NestedRoots first second) old new f f' k k' o o' h = against_causes asked a told (NestedRoots first second) f f' k k' o o' h.0
query_causes asked a told (BadRules fault) old new f f' k k' o o' h = against_causes asked a told (BadRules fault) f f' k k' o o' h.0
query_causes asked a told (OtherRun kept wanted) old new f f' k k' o o' h = against_causes asked a told (OtherRun kept wanted) f f' k k' o o' h.0
query_causes asked a told (Limit kind path) old new f f' k k' o o' h = against_causes asked a told (Limit kind path) f f' k k' o o' h.0
query_causes asked a told (PathClash first second) old new f f' k k' o o' h = against_causes asked a told (PathClash first second) f f' k k' o o' h.0
query_causes asked a told (NameClash defined other image) old new f f' k k' o o' h = against_causes asked a told (NameClash defined other image) f f' k k' o o' h.0
query_causes asked a told (Stranded path held) old new f f' k k' o o' h = against_causes asked a told (Stranded path held) f f' k k' o o' h.0
query_causes asked a told (Moved path one other) old new f f' k k' o o' h = against_causes asked a told (Moved path one other) f f' k k' o o' h.0
query_causes asked a told (NotInvertible fault) old new f f' k k' o o' h = against_causes asked a told (NotInvertible fault) f f' k k' o o' h.0
query_causes asked a told (Differs path) old new f f' k k' o o' h = tt

-- ---- generated applications whose rows go into the ledger that is handed in

asked_sql : (words : List Text) (count workers : ℕ) (P : Asked → Type 0) → order_of_words words ≡ Ok (order.GenerateSql count workers) → P (Err (λ m l. generated_answer count l)) → P (asked_of words)
asked_sql words count workers P e p = let Q : Result Order RootsFault → Type 0 = λ o. P (asked_by o) in subst Q (sym e) p

-- a final status is that of its first answer
final_totals : (n : ℕ) (l : Ledger) (k0 k : Option Ledger) (a a' : ℕ) (status : Status) (old new : Option Text) (o o' : ℕ) → k0 ≡ Some l → LeavesSql n k0 k a a' old new o o' status
    → is_final status ≡ true → status ≡ generated_answer n l
final_totals n l k0 k a a' Done old new o o' e s i = sym (ap totals_status (at_told k0 l (λ l0. CompletesGenerated n l0 k (λ totals. new ≡ writing (summary_text totals) old)) e s).holds.first)
final_totals n l k0 k a a' Refusals old new o o' e s i = absurd s.0
final_totals n l k0 k a a' Memory old new o o' e s i = cc
final_totals n l k0 k a a' (FolderFault done) old new o o' e s i = cc
final_totals n l k0 k a a' (LedgerFault done) old new o o' e s i = cc
final_totals n l k0 k a a' OutputFault old new o o' e s i = cc
final_totals n l k0 k a a' Usage old new o o' e s i = absurd s.0
final_totals n l k0 k a a' (NestedRoots first second) old new o o' e s i = absurd s.0
final_totals n l k0 k a a' (BadRules fault) old new o o' e s i = absurd s.0
final_totals n l k0 k a a' (OtherRun kept wanted) old new o o' e s i = sym (ap totals_status (at_told k0 l (λ l0. (k ≡ k0) × (first_answer (asked_roots generated_roots) (generated_contents n) l0 ≡ OtherRun kept wanted)) e s.0).1)
final_totals n l k0 k a a' (Limit kind path) old new o o' e s i = absurd s.0
final_totals n l k0 k a a' (PathClash first second) old new o o' e s i = absurd s.0
final_totals n l k0 k a a' (NameClash defined other image) old new o o' e s i = absurd s.0
final_totals n l k0 k a a' (Stranded path held) old new o o' e s i = absurd s.0
final_totals n l k0 k a a' (Moved path one other) old new o o' e s i = cc
final_totals n l k0 k a a' (NotInvertible fault) old new o o' e s i = absurd s.0
final_totals n l k0 k a a' (Differs path) old new o o' e s i = absurd s.0

pub sql_first : (words : List Text) (count workers : ℕ) (m : Contents) (l : Ledger) (k0 k : Option Ledger) (a a' : ℕ) (status : Status) (old new : Option Text) (o o' : ℕ)
    → order_of_words words ≡ Ok (order.GenerateSql count workers) → k0 ≡ Some l → LeavesSql count k0 k a a' old new o o' status → is_final status ≡ true → status ≡ first_answer (asked_of words) m l
sql_first words count workers m l k0 k a a' status old new o o' e t s i =
    asked_sql words count workers (λ asked. status ≡ first_answer asked m l) e (final_totals count l k0 k a a' status old new o o' t s i)

pub sql_causes : (n : ℕ) (asked : Asked) (told : Option Contents) (k0 k : Option Ledger) (f f' a a' : ℕ) (status : Status) (old new : Option Text) (o o' : ℕ) → LeavesSql n k0 k a a' old new o o' status
    → HasCauses asked told status f f' a a' o o'
sql_causes n asked told k0 k f f' a a' Done old new o o' s = tt
sql_causes n asked told k0 k f f' a a' Refusals old new o o' s = absurd s.0
sql_causes n asked told k0 k f f' a a' Memory old new o o' s = tt
sql_causes n asked told k0 k f f' a a' (FolderFault done) old new o o' s = absurd s.0
sql_causes n asked told k0 k f f' a a' (LedgerFault done) old new o o' s = s.0.0
sql_causes n asked told k0 k f f' a a' OutputFault old new o o' s = s.0
sql_causes n asked told k0 k f f' a a' Usage old new o o' s = absurd s.0
sql_causes n asked told k0 k f f' a a' (NestedRoots first second) old new o o' s = absurd s.0
sql_causes n asked told k0 k f f' a a' (BadRules fault) old new o o' s = absurd s.0
sql_causes n asked told k0 k f f' a a' (OtherRun kept wanted) old new o o' s = tt
sql_causes n asked told k0 k f f' a a' (Limit kind path) old new o o' s = absurd s.0
sql_causes n asked told k0 k f f' a a' (PathClash first second) old new o o' s = absurd s.0
sql_causes n asked told k0 k f f' a a' (NameClash defined other image) old new o o' s = absurd s.0
sql_causes n asked told k0 k f f' a a' (Stranded path held) old new o o' s = absurd s.0
sql_causes n asked told k0 k f f' a a' (Moved path one other) old new o o' s = absurd s.0
sql_causes n asked told k0 k f f' a a' (NotInvertible fault) old new o o' s = absurd s.0
sql_causes n asked told k0 k f f' a a' (Differs path) old new o o' s = absurd s.0
