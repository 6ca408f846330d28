-- The clauses of what words ask for.
use Rattle.std.proofs.Common.{◌≡◌, inl, ℕ, List, Option, None, refl, sym, ap, subst, true, Result, Ok, Err}
use Rattle.desk_base.specs.Names.{Text}
use Rattle.desk_folders.specs.Contents.{Contents}
use Rattle.desk_ledger.specs.declared.keeper.Row.{Row}
use Rattle.desk_ledger.specs.Ledger.{Ledger}
use Rattle.desk_report.specs.declared.status.Status.{Status}
use Rattle.desk_report.specs.declared.status.Status.TheVariants as status
use Rattle.desk_words.specs.declared.roots.Roots.{Roots}
use Rattle.desk_words.specs.declared.roots.Order.{Order}
use Rattle.desk_words.specs.declared.roots.Order.TheVariants as order
use Rattle.desk_words.specs.declared.roots.Query.{Query}
use Rattle.desk_words.specs.declared.roots.RootsFault.{RootsFault}
use Rattle.desk_words.specs.declared.roots.RootsFault.TheVariants.{Usage, Nested, Memory}
use Rattle.desk_words.specs.Roots.{order_of_words, RefusedBy}
use Rattle.desk_run.specs.Asked.{Asked, asked_roots}
use Rattle.desk_run.specs.Named.{asked_by, asked_of, status_of_words, UnlessOther, OfRun, WhereGenerate, OfGenerate, WhereSql, OfSql, WhereQuery, OfQuery}
use Rattle.desk_run.specs.Answers.{first_answer}
use Rattle.desk_run.specs.Endings.{WhereTold, Tells, StandsAfter, ReportedOf, Named, Committed, HasCauses, is_final}
use Rattle.desk_run.specs.Generated.{TellsTotals}
use Rattle.desk_run.specs.GeneratedSql.{LeavesSql}
use Rattle.desk_run.specs.Queries.{LeavesAnswer}

-- ---- of all words, and from one fact to another

unless_any : (o : Result Order RootsFault) (P : Type 0) → P → UnlessOther o P
unless_any (Ok (order.Run roots workers)) P p = p
unless_any (Ok (order.Generate count workers)) P p = tt
unless_any (Ok (order.GenerateSql count workers)) P p = tt
unless_any (Ok (order.Query asked)) P p = tt
unless_any (Err fault) P p = p

pub of_run_any : (words : List Text) (P : Type 0) → P → OfRun words P
of_run_any words P p = unless_any (order_of_words words) P p

unless_both : (o : Result Order RootsFault) (A B C : Type 0) → (A → B → C) → UnlessOther o A → UnlessOther o B → UnlessOther o C
unless_both (Ok (order.Run roots workers)) A B C h a b = h a b
unless_both (Ok (order.Generate count workers)) A B C h a b = tt
unless_both (Ok (order.GenerateSql count workers)) A B C h a b = tt
unless_both (Ok (order.Query asked)) A B C h a b = tt
unless_both (Err fault) A B C h a b = h a b

pub of_run_both : (words : List Text) (A B C : Type 0) → (A → B → C) → OfRun words A → OfRun words B → OfRun words C
of_run_both words A B C h a b = unless_both (order_of_words words) A B C h a b

pub of_run_map : (words : List Text) (A B : Type 0) → (A → B) → OfRun words A → OfRun words B
of_run_map words A B h a = of_run_both words A A B (λ x _. h x) a a

where_map : (o : Result Order RootsFault) (P Q : ℕ → Type 0) → ((n : ℕ) → P n → Q n) → WhereGenerate o P → WhereGenerate o Q
where_map (Ok (order.Run roots workers)) P Q h p = tt
where_map (Ok (order.Generate count workers)) P Q h p = h count p
where_map (Ok (order.GenerateSql count workers)) P Q h p = tt
where_map (Ok (order.Query asked)) P Q h p = tt
where_map (Err fault) P Q h p = tt

pub of_generate_map : (words : List Text) (P Q : ℕ → Type 0) → ((n : ℕ) → P n → Q n) → OfGenerate words P → OfGenerate words Q
of_generate_map words P Q h p = where_map (order_of_words words) P Q h p

where_any : (o : Result Order RootsFault) (P : ℕ → Type 0) → ((n : ℕ) → P n) → WhereGenerate o P
where_any (Ok (order.Run roots workers)) P p = tt
where_any (Ok (order.Generate count workers)) P p = p count
where_any (Ok (order.GenerateSql count workers)) P p = tt
where_any (Ok (order.Query asked)) P p = tt
where_any (Err fault) P p = tt

pub of_generate_any : (words : List Text) (P : ℕ → Type 0) → ((n : ℕ) → P n) → OfGenerate words P
of_generate_any words P p = where_any (order_of_words words) P p

-- ---- words of a run

pub at_run : (words : List Text) (roots : Roots) (workers : ℕ) (P : Asked → Type 0) → order_of_words words ≡ Ok (order.Run roots workers) → P (asked_roots roots) → P (asked_of words)
at_run words roots workers P e p = let Q : Result Order RootsFault → Type 0 = λ o. P (asked_by o) in subst Q (sym e) p

pub no_generate : (words : List Text) (roots : Roots) (workers : ℕ) (P : ℕ → Type 0) → order_of_words words ≡ Ok (order.Run roots workers) → OfGenerate words P
no_generate words roots workers P e = let Q : Result Order RootsFault → Type 0 = λ o. WhereGenerate o P in subst Q (sym e) tt

-- ---- words of a generated application

pub at_generate : (words : List Text) (count workers : ℕ) (P : ℕ → Type 0) → order_of_words words ≡ Ok (order.Generate count workers) → P count → OfGenerate words P
at_generate words count workers P e p = let Q : Result Order RootsFault → Type 0 = λ o. WhereGenerate o P in subst Q (sym e) p

pub no_run : (words : List Text) (count workers : ℕ) (P : Type 0) → order_of_words words ≡ Ok (order.Generate count workers) → OfRun words P
no_run words count workers P e = let Q : Result Order RootsFault → Type 0 = λ o. UnlessOther o P in subst Q (sym e) tt

pub asked_generate : (words : List Text) (count workers : ℕ) (P : Asked → Type 0) → order_of_words words ≡ Ok (order.Generate count workers) → P (Err (λ m l. status.Done)) → P (asked_of words)
asked_generate words count workers P e p = let Q : Result Order RootsFault → Type 0 = λ o. P (asked_by o) in subst Q (sym e) p

-- a run that tells totals is done where it is final
pub totals_first : (n : ℕ) (old new : Option Text) (s : Status) → TellsTotals n old new s → is_final s ≡ true → s ≡ status.Done
totals_first n old new status.Done t e = refl
totals_first n old new status.Refusals t e = absurd t
totals_first n old new status.Memory t e = cc
totals_first n old new (status.FolderFault done) t e = absurd t
totals_first n old new (status.LedgerFault done) t e = absurd t
totals_first n old new status.OutputFault t e = cc
totals_first n old new status.Usage t e = absurd t
totals_first n old new (status.NestedRoots first second) t e = absurd t
totals_first n old new (status.BadRules fault) t e = absurd t
totals_first n old new (status.OtherRun kept wanted) t e = absurd t
totals_first n old new (status.Limit kind path) t e = absurd t
totals_first n old new (status.PathClash first second) t e = absurd t
totals_first n old new (status.NameClash defined other image) t e = absurd t
totals_first n old new (status.Stranded path held) t e = absurd t
totals_first n old new (status.Moved path one other) t e = absurd t
totals_first n old new (status.NotInvertible fault) t e = absurd t
totals_first n old new (status.Differs path) t e = absurd t

-- ---- words that ask a query

query_map : (o : Result Order RootsFault) (P Q : Query → Type 0) → ((asked : Query) → P asked → Q asked) → WhereQuery o P → WhereQuery o Q
query_map (Ok (order.Run roots workers)) P Q h p = tt
query_map (Ok (order.Generate count workers)) P Q h p = tt
query_map (Ok (order.GenerateSql count workers)) P Q h p = tt
query_map (Ok (order.Query asked)) P Q h p = h asked p
query_map (Err fault) P Q h p = tt

pub of_query_map : (words : List Text) (P Q : Query → Type 0) → ((asked : Query) → P asked → Q asked) → OfQuery words P → OfQuery words Q
of_query_map words P Q h p = query_map (order_of_words words) P Q h p

query_any : (o : Result Order RootsFault) (P : Query → Type 0) → ((asked : Query) → P asked) → WhereQuery o P
query_any (Ok (order.Run roots workers)) P p = tt
query_any (Ok (order.Generate count workers)) P p = tt
query_any (Ok (order.GenerateSql count workers)) P p = tt
query_any (Ok (order.Query asked)) P p = p asked
query_any (Err fault) P p = tt

pub of_query_any : (words : List Text) (P : Query → Type 0) → ((asked : Query) → P asked) → OfQuery words P
of_query_any words P p = query_any (order_of_words words) P p

pub of_query_at : (words : List Text) (asked : Query) (P : Query → Type 0) → order_of_words words ≡ Ok (order.Query asked) → P asked → OfQuery words P
of_query_at words asked P e p = let Q : Result Order RootsFault → Type 0 = λ o. WhereQuery o P in subst Q (sym e) p

-- of words that ask something else nothing is said of queries
pub no_query : (words : List Text) (o : Result Order RootsFault) (P : Query → Type 0) → order_of_words words ≡ o → WhereQuery o P → OfQuery words P
no_query words o P e p = let Q : Result Order RootsFault → Type 0 = λ o. WhereQuery o P in subst Q (sym e) p

-- ---- words of a generated application with an SQL ledger

sql_map : (o : Result Order RootsFault) (P Q : ℕ → Type 0) → ((n : ℕ) → P n → Q n) → WhereSql o P → WhereSql o Q
sql_map (Ok (order.Run roots workers)) P Q h p = tt
sql_map (Ok (order.Generate count workers)) P Q h p = tt
sql_map (Ok (order.GenerateSql count workers)) P Q h p = h count p
sql_map (Ok (order.Query asked)) P Q h p = tt
sql_map (Err fault) P Q h p = tt

pub of_sql_map : (words : List Text) (P Q : ℕ → Type 0) → ((n : ℕ) → P n → Q n) → OfSql words P → OfSql words Q
of_sql_map words P Q h p = sql_map (order_of_words words) P Q h p

sql_any : (o : Result Order RootsFault) (P : ℕ → Type 0) → ((n : ℕ) → P n) → WhereSql o P
sql_any (Ok (order.Run roots workers)) P p = tt
sql_any (Ok (order.Generate count workers)) P p = tt
sql_any (Ok (order.GenerateSql count workers)) P p = p count
sql_any (Ok (order.Query asked)) P p = tt
sql_any (Err fault) P p = tt

pub of_sql_any : (words : List Text) (P : ℕ → Type 0) → ((n : ℕ) → P n) → OfSql words P
of_sql_any words P p = sql_any (order_of_words words) P p

-- what words ask for says what is said of them
pub sql_of : (words : List Text) (o : Result Order RootsFault) (P : ℕ → Type 0) → order_of_words words ≡ o → WhereSql o P → OfSql words P
sql_of words o P e p = let Q : Result Order RootsFault → Type 0 = λ o. WhereSql o P in subst Q (sym e) p

pub run_of : (words : List Text) (o : Result Order RootsFault) (P : Type 0) → order_of_words words ≡ o → UnlessOther o P → OfRun words P
run_of words o P e p = let Q : Result Order RootsFault → Type 0 = λ o. UnlessOther o P in subst Q (sym e) p

pub generate_of : (words : List Text) (o : Result Order RootsFault) (P : ℕ → Type 0) → order_of_words words ≡ o → WhereGenerate o P → OfGenerate words P
generate_of words o P e p = let Q : Result Order RootsFault → Type 0 = λ o. WhereGenerate o P in subst Q (sym e) p

-- ---- words that ask for nothing

pub refused_sql : (words : List Text) (fault : RootsFault) (s : Status) (k : Option Ledger) (a b : ℕ) (o : Option Text) → RefusedBy (order_of_words words) fault → s ≡ status_of_words fault
    → OfSql words (λ n. LeavesSql n k k a a o o b b s)
refused_sql words fault s k a b o e is = let P : Status → Type 0 = λ s. OfSql words (λ n. LeavesSql n k k a a o o b b s) in subst P (sym is) (by fault e) where
  by : (fault : RootsFault) → RefusedBy (order_of_words words) fault → OfSql words (λ n. LeavesSql n k k a a o o b b (status_of_words fault))
  by Usage e = sql_of words (Err Usage) (λ n. LeavesSql n k k a a o o b b status.Usage) e tt
  by (Nested first second) e = sql_of words (Err (Nested first second)) (λ n. LeavesSql n k k a a o o b b (status.NestedRoots first second)) e tt
  by Memory e = of_sql_any words (λ n. LeavesSql n k k a a o o b b status.Memory) (λ n. (tt, refl))

pub refused_query : (words : List Text) (fault : RootsFault) (s : Status) (told : Option Contents) (o : Option Text) (f b : ℕ) → RefusedBy (order_of_words words) fault → s ≡ status_of_words fault
    → OfQuery words (λ asked. LeavesAnswer asked told o o f f b b s)
refused_query words fault s told o f b e is = let P : Status → Type 0 = λ s. OfQuery words (λ asked. LeavesAnswer asked told o o f f b b s) in subst P (sym is) (by fault e) where
  by : (fault : RootsFault) → RefusedBy (order_of_words words) fault → OfQuery words (λ asked. LeavesAnswer asked told o o f f b b (status_of_words fault))
  by Usage e = let Q : Result Order RootsFault → Type 0 = λ r. WhereQuery r (λ asked. LeavesAnswer asked told o o f f b b status.Usage) in subst Q (sym e) tt
  by (Nested first second) e = let Q : Result Order RootsFault → Type 0 = λ r. WhereQuery r (λ asked. LeavesAnswer asked told o o f f b b (status.NestedRoots first second)) in subst Q (sym e) tt
  by Memory e = of_query_any words (λ asked. LeavesAnswer asked told o o f f b b status.Memory) (λ asked. refl)

pub refused_stands : (asked : Asked) (fault : RootsFault) (f : Option Contents) (k : Option Ledger) → WhereTold f k (λ m0 l0. Tells f k (λ m l. StandsAfter asked m0 l0 m l (status_of_words fault)))
refused_stands asked Usage f k = λ m l ef ek. record { m = m; l = l; folders = ef; ledger = ek; holds = record { folder = refl; ledger = refl; none = refl } }
refused_stands asked (Nested first second) f k = λ m l ef ek. record { m = m; l = l; folders = ef; ledger = ek; holds = record { folder = refl; ledger = refl; none = refl } }
refused_stands asked Memory f k = λ m l ef ek. record { m = m; l = l; folders = ef; ledger = ek; holds = record { done = 0; stands = inl (record { folder = refl; ledger = refl; none = refl }) } }

pub refused_first : (words : List Text) (fault : RootsFault) (m : Contents) (l : Ledger) → RefusedBy (order_of_words words) fault → is_final (status_of_words fault) ≡ true → status_of_words fault ≡ first_answer (asked_of words) m l
refused_first words Usage m l e h = let Q : Result Order RootsFault → Type 0 = λ o. status.Usage ≡ first_answer (asked_by o) m l in subst Q (sym e) refl
refused_first words (Nested first second) m l e h =
    let Q : Result Order RootsFault → Type 0 = λ o. status.NestedRoots first second ≡ first_answer (asked_by o) m l in subst Q (sym e) refl
refused_first words Memory m l e h = cc

pub refused_reported : (asked : Asked) (fault : RootsFault) (f : Option Contents) (k : Option Ledger) (o : Option Text) → ReportedOf asked f k o o (status_of_words fault)
refused_reported asked Usage f k o = refl
refused_reported asked (Nested first second) f k o = refl
refused_reported asked Memory f k o = refl

pub refused_named : (asked : Asked) (fault : RootsFault) (name : Option Text) → Named asked name name (status_of_words fault)
refused_named (Err s) fault name = refl
refused_named (Ok roots) Usage name = refl
refused_named (Ok roots) (Nested first second) name = refl
refused_named (Ok roots) Memory name = inl refl

pub refused_causes : (words : List Text) (fault : RootsFault) (told : Option Contents) (f k o : ℕ) → RefusedBy (order_of_words words) fault → HasCauses (asked_of words) told (status_of_words fault) f f k k o o
refused_causes words Usage told f k o e = ap asked_by e
refused_causes words (Nested first second) told f k o e = ap asked_by e
refused_causes words Memory told f k o e = tt

pub refused_tells : (words : List Text) (fault : RootsFault) (o : Option Text) → RefusedBy (order_of_words words) fault → OfGenerate words (λ n. TellsTotals n o o (status_of_words fault))
refused_tells words Usage o e = let Q : Result Order RootsFault → Type 0 = λ r. WhereGenerate r (λ n. TellsTotals n o o status.Usage) in subst Q (sym e) tt
refused_tells words (Nested first second) o e =
    let Q : Result Order RootsFault → Type 0 = λ r. WhereGenerate r (λ n. TellsTotals n o o (status.NestedRoots first second)) in subst Q (sym e) tt
refused_tells words Memory o e = of_generate_any words (λ n. TellsTotals n o o status.Memory) (λ n. refl)

-- ---- the clauses of a run, as clauses of its words

pub run_stands : (words : List Text) (roots : Roots) (workers : ℕ) (f f' : Option Contents) (k k' : Option Ledger) (s : Status) → order_of_words words ≡ Ok (order.Run roots workers)
    → WhereTold f k (λ m0 l0. Tells f' k' (λ m l. StandsAfter (asked_roots roots) m0 l0 m l s)) → OfRun words (WhereTold f k (λ m0 l0. Tells f' k' (λ m l. StandsAfter (asked_of words) m0 l0 m l s)))
run_stands words roots workers f f' k k' s e h = of_run_any words _ (at_run words roots workers (λ a. WhereTold f k (λ m0 l0. Tells f' k' (λ m l. StandsAfter a m0 l0 m l s))) e h)

pub run_first : (words : List Text) (roots : Roots) (workers : ℕ) (m : Contents) (l : Ledger) (s : Status) → order_of_words words ≡ Ok (order.Run roots workers)
    → (is_final s ≡ true → s ≡ first_answer (asked_roots roots) m l) → is_final s ≡ true → s ≡ first_answer (asked_of words) m l
run_first words roots workers m l s e h i = at_run words roots workers (λ a. s ≡ first_answer a m l) e (h i)

pub run_reported : (words : List Text) (roots : Roots) (workers : ℕ) (f : Option Contents) (k : Option Ledger) (o o' : Option Text) (s : Status) → order_of_words words ≡ Ok (order.Run roots workers)
    → ReportedOf (asked_roots roots) f k o o' s → OfRun words (ReportedOf (asked_of words) f k o o' s)
run_reported words roots workers f k o o' s e h = of_run_any words _ (at_run words roots workers (λ a. ReportedOf a f k o o' s) e h)

pub run_named : (words : List Text) (roots : Roots) (workers : ℕ) (old new : Option Text) (s : Status) → order_of_words words ≡ Ok (order.Run roots workers)
    → Named (asked_roots roots) old new s → OfRun words (Named (asked_of words) old new s)
run_named words roots workers old new s e h = of_run_any words _ (at_run words roots workers (λ a. Named a old new s) e h)

pub run_causes : (words : List Text) (roots : Roots) (workers : ℕ) (told : Option Contents) (f f' k k' o o' : ℕ) (s : Status) → order_of_words words ≡ Ok (order.Run roots workers)
    → HasCauses (asked_roots roots) told s f f' k k' o o' → HasCauses (asked_of words) told s f f' k k' o o'
run_causes words roots workers told f f' k k' o o' s e h = at_run words roots workers (λ a. HasCauses a told s f f' k k' o o') e h

-- the clauses of a generated application, as clauses of its words
pub generate_first : (words : List Text) (count workers : ℕ) (m : Contents) (l : Ledger) (old new : Option Text) (s : Status) → order_of_words words ≡ Ok (order.Generate count workers) → TellsTotals count old new s
    → is_final s ≡ true → s ≡ first_answer (asked_of words) m l
generate_first words count workers m l old new s e t i = asked_generate words count workers (λ a. s ≡ first_answer a m l) e (totals_first count old new s t i)

pub generate_causes : (words : List Text) (count workers : ℕ) (told : Option Contents) (f k o o' : ℕ) (old new : Option Text) (s : Status) → order_of_words words ≡ Ok (order.Generate count workers) → TellsTotals count old new s
    → HasCauses (Err (λ m l. status.Done)) None s 0 0 0 0 o o' → HasCauses (asked_of words) told s f f k k o o'
generate_causes words count workers told f k o o' old new s e t c = asked_generate words count workers (λ a. HasCauses a told s f f k k o o') e (by s t c) where
  by : (s : Status) → TellsTotals count old new s → HasCauses (Err (λ m l. status.Done)) None s 0 0 0 0 o o' → HasCauses (Err (λ m l. status.Done)) told s f f k k o o'
  by status.Done t c = c
  by status.OutputFault t c = c
  by status.Memory t c = c
  by status.Refusals t c = absurd t
  by (status.FolderFault done) t c = absurd t
  by (status.LedgerFault done) t c = absurd t
  by status.Usage t c = absurd t
  by (status.NestedRoots first second) t c = absurd t
  by (status.BadRules fault) t c = absurd t
  by (status.OtherRun kept wanted) t c = absurd t
  by (status.Limit kind path) t c = absurd t
  by (status.PathClash first second) t c = absurd t
  by (status.NameClash defined other image) t c = absurd t
  by (status.Stranded path held) t c = absurd t
  by (status.Moved path one other) t c = absurd t
  by (status.NotInvertible fault) t c = absurd t
  by (status.Differs path) t c = absurd t

-- ---- the clauses of words that ask for nothing

pub err_stands : (words : List Text) (fault : RootsFault) (s : Status) (f : Option Contents) (k : Option Ledger) → s ≡ status_of_words fault
    → OfRun words (WhereTold f k (λ m0 l0. Tells f k (λ m l. StandsAfter (asked_of words) m0 l0 m l s)))
err_stands words fault s f k e =
    let P : Status → Type 0 = λ s. OfRun words (WhereTold f k (λ m0 l0. Tells f k (λ m l. StandsAfter (asked_of words) m0 l0 m l s))) in
    subst P (sym e) (of_run_any words _ (refused_stands (asked_of words) fault f k))

pub err_first : (words : List Text) (fault : RootsFault) (s : Status) (m : Contents) (l : Ledger) → RefusedBy (order_of_words words) fault → s ≡ status_of_words fault → is_final s ≡ true → s ≡ first_answer (asked_of words) m l
err_first words fault s m l r e = let P : Status → Type 0 = λ s. is_final s ≡ true → s ≡ first_answer (asked_of words) m l in subst P (sym e) (refused_first words fault m l r)

pub err_reported : (words : List Text) (fault : RootsFault) (s : Status) (f : Option Contents) (k : Option Ledger) (o : Option Text) → s ≡ status_of_words fault → OfRun words (ReportedOf (asked_of words) f k o o s)
err_reported words fault s f k o e =
    let P : Status → Type 0 = λ s. OfRun words (ReportedOf (asked_of words) f k o o s) in subst P (sym e) (of_run_any words _ (refused_reported (asked_of words) fault f k o))

pub err_named : (words : List Text) (fault : RootsFault) (s : Status) (name : Option Text) → s ≡ status_of_words fault → OfRun words (Named (asked_of words) name name s)
err_named words fault s name e =
    let P : Status → Type 0 = λ s. OfRun words (Named (asked_of words) name name s) in subst P (sym e) (of_run_any words _ (refused_named (asked_of words) fault name))

refused_committed : (fault : RootsFault) (waiting : Option (List Row)) → Committed waiting (status_of_words fault)
refused_committed Usage waiting = tt
refused_committed (Nested first second) waiting = tt
refused_committed Memory waiting = tt

pub err_committed : (words : List Text) (fault : RootsFault) (s : Status) (waiting : Option (List Row)) → s ≡ status_of_words fault → OfRun words (Committed waiting s)
err_committed words fault s waiting e =
    let P : Status → Type 0 = λ s. OfRun words (Committed waiting s) in subst P (sym e) (of_run_any words _ (refused_committed fault waiting))

pub err_causes : (words : List Text) (fault : RootsFault) (s : Status) (told : Option Contents) (f k o : ℕ) → RefusedBy (order_of_words words) fault → s ≡ status_of_words fault → HasCauses (asked_of words) told s f f k k o o
err_causes words fault s told f k o r e = let P : Status → Type 0 = λ s. HasCauses (asked_of words) told s f f k k o o in subst P (sym e) (refused_causes words fault told f k o r)

pub err_tells : (words : List Text) (fault : RootsFault) (s : Status) (o : Option Text) → RefusedBy (order_of_words words) fault → s ≡ status_of_words fault → OfGenerate words (λ n. TellsTotals n o o s)
err_tells words fault s o r e = let P : Status → Type 0 = λ s. OfGenerate words (λ n. TellsTotals n o o s) in subst P (sym e) (refused_tells words fault o r)
