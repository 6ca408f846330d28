use Rattle.std.proofs.Common.{◌≡◌, refl, rules, Ok}
use Rattle.desk_words.specs.declared.roots.Order.TheVariants as order
use Rattle.desk_words.specs.Roots.{order_of_words}
use Rattle.desk_run.specs.Generated.{TellsTotals}
use Rattle.desk_run.specs.GeneratedSql.{LeavesSql}
use Rattle.desk_run.specs.Queries.{LeavesAnswer}
use Rattle.desk_run.proofs.Following.{of_query_at, of_query_any, no_query, refused_query, sql_of, run_of, generate_of, of_sql_any, refused_sql, of_run_any, no_run, no_generate, at_generate, of_generate_any, run_stands, run_first, run_reported, run_named, run_causes, generate_first, generate_causes, err_stands, err_first, err_reported, err_named, err_committed, err_causes, err_tells}
use Rattle.desk_run.proofs.FirstAnswers.{query_first, query_causes, sql_first, sql_causes}
use Rattle.desk_run.proofs.follow.Goals as goal

pub returns-in-Ok-Run-clause-stands : goal.returns-in-Ok-Run-clause-stands
returns-in-Ok-Run-clause-stands g c =
    let e : order_of_words c.args.words.now ≡ Ok (order.Run c.in-Ok-Run.roots c.in-Ok-Run.workers) = search rules in
    run_stands c.args.words.now c.in-Ok-Run.roots c.in-Ok-Run.workers _ _ _ _ _ e c.run.ensures.stands

pub returns-in-Ok-Run-clause-first : goal.returns-in-Ok-Run-clause-first
returns-in-Ok-Run-clause-first g c =
    λ m l ef ek.
    let e : order_of_words c.args.words.now ≡ Ok (order.Run c.in-Ok-Run.roots c.in-Ok-Run.workers) = search rules in
    run_first c.args.words.now c.in-Ok-Run.roots c.in-Ok-Run.workers m l _ e (c.run.ensures.first m l ef ek)

pub returns-in-Ok-Run-clause-output : goal.returns-in-Ok-Run-clause-output
returns-in-Ok-Run-clause-output g c =
    let e : order_of_words c.args.words.now ≡ Ok (order.Run c.in-Ok-Run.roots c.in-Ok-Run.workers) = search rules in
    run_reported c.args.words.now c.in-Ok-Run.roots c.in-Ok-Run.workers _ _ _ _ _ e c.run.ensures.output

pub returns-in-Ok-Run-clause-named : goal.returns-in-Ok-Run-clause-named
returns-in-Ok-Run-clause-named g c =
    let e : order_of_words c.args.words.now ≡ Ok (order.Run c.in-Ok-Run.roots c.in-Ok-Run.workers) = search rules in
    run_named c.args.words.now c.in-Ok-Run.roots c.in-Ok-Run.workers _ _ _ e c.run.ensures.named

pub returns-in-Ok-Run-clause-committed : goal.returns-in-Ok-Run-clause-committed
returns-in-Ok-Run-clause-committed g c = of_run_any c.args.words.now _ c.run.ensures.committed

pub returns-in-Ok-Run-clause-untouched : goal.returns-in-Ok-Run-clause-untouched
returns-in-Ok-Run-clause-untouched g c =
    let e : order_of_words c.args.words.now ≡ Ok (order.Run c.in-Ok-Run.roots c.in-Ok-Run.workers) = search rules in
    no_generate c.args.words.now c.in-Ok-Run.roots c.in-Ok-Run.workers _ e

pub returns-in-Ok-Run-clause-generate : goal.returns-in-Ok-Run-clause-generate
returns-in-Ok-Run-clause-generate g c =
    let e : order_of_words c.args.words.now ≡ Ok (order.Run c.in-Ok-Run.roots c.in-Ok-Run.workers) = search rules in
    no_generate c.args.words.now c.in-Ok-Run.roots c.in-Ok-Run.workers _ e

pub returns-in-Ok-Run-clause-causes : goal.returns-in-Ok-Run-clause-causes
returns-in-Ok-Run-clause-causes g c =
    let e : order_of_words c.args.words.now ≡ Ok (order.Run c.in-Ok-Run.roots c.in-Ok-Run.workers) = search rules in
    run_causes c.args.words.now c.in-Ok-Run.roots c.in-Ok-Run.workers _ _ _ _ _ _ _ _ e c.run.ensures.causes

pub returns-in-Ok-Generate-clause-stands : goal.returns-in-Ok-Generate-clause-stands
returns-in-Ok-Generate-clause-stands g c =
    let e : order_of_words c.args.words.now ≡ Ok (order.Generate c.in-Ok-Generate.count c.in-Ok-Generate.workers) = search rules in
    no_run c.args.words.now c.in-Ok-Generate.count c.in-Ok-Generate.workers _ e

pub returns-in-Ok-Generate-clause-first : goal.returns-in-Ok-Generate-clause-first
returns-in-Ok-Generate-clause-first g c =
    λ m l ef ek.
    let e : order_of_words c.args.words.now ≡ Ok (order.Generate c.in-Ok-Generate.count c.in-Ok-Generate.workers) = search rules in
    generate_first c.args.words.now c.in-Ok-Generate.count c.in-Ok-Generate.workers m l _ _ _ e c.run_generated.ensures.told

pub returns-in-Ok-Generate-clause-output : goal.returns-in-Ok-Generate-clause-output
returns-in-Ok-Generate-clause-output g c =
    let e : order_of_words c.args.words.now ≡ Ok (order.Generate c.in-Ok-Generate.count c.in-Ok-Generate.workers) = search rules in
    no_run c.args.words.now c.in-Ok-Generate.count c.in-Ok-Generate.workers _ e

pub returns-in-Ok-Generate-clause-named : goal.returns-in-Ok-Generate-clause-named
returns-in-Ok-Generate-clause-named g c =
    let e : order_of_words c.args.words.now ≡ Ok (order.Generate c.in-Ok-Generate.count c.in-Ok-Generate.workers) = search rules in
    no_run c.args.words.now c.in-Ok-Generate.count c.in-Ok-Generate.workers _ e

pub returns-in-Ok-Generate-clause-committed : goal.returns-in-Ok-Generate-clause-committed
returns-in-Ok-Generate-clause-committed g c =
    let e : order_of_words c.args.words.now ≡ Ok (order.Generate c.in-Ok-Generate.count c.in-Ok-Generate.workers) = search rules in
    no_run c.args.words.now c.in-Ok-Generate.count c.in-Ok-Generate.workers _ e

pub returns-in-Ok-Generate-clause-untouched : goal.returns-in-Ok-Generate-clause-untouched
returns-in-Ok-Generate-clause-untouched g c = of_generate_any c.args.words.now _ (λ _. (refl, refl))

pub returns-in-Ok-Generate-clause-generate : goal.returns-in-Ok-Generate-clause-generate
returns-in-Ok-Generate-clause-generate g c =
    let e : order_of_words c.args.words.now ≡ Ok (order.Generate c.in-Ok-Generate.count c.in-Ok-Generate.workers) = search rules in
    at_generate c.args.words.now c.in-Ok-Generate.count c.in-Ok-Generate.workers (λ n. TellsTotals n _ _ _) e c.run_generated.ensures.told

pub returns-in-Ok-Generate-clause-causes : goal.returns-in-Ok-Generate-clause-causes
returns-in-Ok-Generate-clause-causes g c =
    let e : order_of_words c.args.words.now ≡ Ok (order.Generate c.in-Ok-Generate.count c.in-Ok-Generate.workers) = search rules in
    generate_causes c.args.words.now c.in-Ok-Generate.count c.in-Ok-Generate.workers _ _ _ _ _ _ _ _ e c.run_generated.ensures.told c.run_generated.ensures.causes

pub returns-in-Err-clause-stands : goal.returns-in-Err-clause-stands
returns-in-Err-clause-stands g c = err_stands c.args.words.now c.in-Err.fault _ _ _ c.status_of_words.ensures

pub returns-in-Err-clause-first : goal.returns-in-Err-clause-first
returns-in-Err-clause-first g c =
    λ m l ef ek. err_first c.args.words.now c.in-Err.fault _ m l c.in-Err.ensures.err c.status_of_words.ensures

pub returns-in-Err-clause-output : goal.returns-in-Err-clause-output
returns-in-Err-clause-output g c = err_reported c.args.words.now c.in-Err.fault _ _ _ _ c.status_of_words.ensures

pub returns-in-Err-clause-named : goal.returns-in-Err-clause-named
returns-in-Err-clause-named g c = err_named c.args.words.now c.in-Err.fault _ _ c.status_of_words.ensures

pub returns-in-Err-clause-committed : goal.returns-in-Err-clause-committed
returns-in-Err-clause-committed g c = err_committed c.args.words.now c.in-Err.fault _ _ c.status_of_words.ensures

pub returns-in-Err-clause-untouched : goal.returns-in-Err-clause-untouched
returns-in-Err-clause-untouched g c = of_generate_any c.args.words.now _ (λ _. (refl, refl))

pub returns-in-Err-clause-generate : goal.returns-in-Err-clause-generate
returns-in-Err-clause-generate g c = err_tells c.args.words.now c.in-Err.fault _ _ c.in-Err.ensures.err c.status_of_words.ensures

pub returns-in-Err-clause-causes : goal.returns-in-Err-clause-causes
returns-in-Err-clause-causes g c =
    err_causes c.args.words.now c.in-Err.fault _ _ _ _ _ c.in-Err.ensures.err c.status_of_words.ensures

pub returns-in-Ok-Run-clause-query : goal.returns-in-Ok-Run-clause-query
returns-in-Ok-Run-clause-query g c =
    let e : order_of_words c.args.words.now ≡ Ok (order.Run c.in-Ok-Run.roots c.in-Ok-Run.workers) = search rules in
    no_query c.args.words.now (Ok (order.Run c.in-Ok-Run.roots c.in-Ok-Run.workers)) _ e tt

pub returns-in-Ok-Run-clause-unchanged : goal.returns-in-Ok-Run-clause-unchanged
returns-in-Ok-Run-clause-unchanged g c =
    let e : order_of_words c.args.words.now ≡ Ok (order.Run c.in-Ok-Run.roots c.in-Ok-Run.workers) = search rules in
    no_query c.args.words.now (Ok (order.Run c.in-Ok-Run.roots c.in-Ok-Run.workers)) _ e tt

pub returns-in-Ok-Generate-clause-query : goal.returns-in-Ok-Generate-clause-query
returns-in-Ok-Generate-clause-query g c =
    let e : order_of_words c.args.words.now ≡ Ok (order.Generate c.in-Ok-Generate.count c.in-Ok-Generate.workers) = search rules in
    no_query c.args.words.now (Ok (order.Generate c.in-Ok-Generate.count c.in-Ok-Generate.workers)) _ e tt

pub returns-in-Ok-Generate-clause-unchanged : goal.returns-in-Ok-Generate-clause-unchanged
returns-in-Ok-Generate-clause-unchanged g c =
    let e : order_of_words c.args.words.now ≡ Ok (order.Generate c.in-Ok-Generate.count c.in-Ok-Generate.workers) = search rules in
    no_query c.args.words.now (Ok (order.Generate c.in-Ok-Generate.count c.in-Ok-Generate.workers)) _ e tt

pub returns-in-Ok-Query-clause-stands : goal.returns-in-Ok-Query-clause-stands
returns-in-Ok-Query-clause-stands g c =
    let e : order_of_words c.args.words.now ≡ Ok (order.Query c.in-Ok-Query.asked) = search rules in
    run_of c.args.words.now (Ok (order.Query c.in-Ok-Query.asked)) _ e tt

pub returns-in-Ok-Query-clause-output : goal.returns-in-Ok-Query-clause-output
returns-in-Ok-Query-clause-output g c =
    let e : order_of_words c.args.words.now ≡ Ok (order.Query c.in-Ok-Query.asked) = search rules in
    run_of c.args.words.now (Ok (order.Query c.in-Ok-Query.asked)) _ e tt

pub returns-in-Ok-Query-clause-named : goal.returns-in-Ok-Query-clause-named
returns-in-Ok-Query-clause-named g c =
    let e : order_of_words c.args.words.now ≡ Ok (order.Query c.in-Ok-Query.asked) = search rules in
    run_of c.args.words.now (Ok (order.Query c.in-Ok-Query.asked)) _ e tt

pub returns-in-Ok-Query-clause-committed : goal.returns-in-Ok-Query-clause-committed
returns-in-Ok-Query-clause-committed g c =
    let e : order_of_words c.args.words.now ≡ Ok (order.Query c.in-Ok-Query.asked) = search rules in
    run_of c.args.words.now (Ok (order.Query c.in-Ok-Query.asked)) _ e tt

pub returns-in-Ok-Query-clause-first : goal.returns-in-Ok-Query-clause-first
returns-in-Ok-Query-clause-first g c =
    λ m l ef ek.
    let e : order_of_words c.args.words.now ≡ Ok (order.Query c.in-Ok-Query.asked) = search rules in
    query_first c.args.words.now c.in-Ok-Query.asked m l _ _ _ _ _ _ _ _ e ef c.run_query.ensures.answer

pub returns-in-Ok-Query-clause-causes : goal.returns-in-Ok-Query-clause-causes
returns-in-Ok-Query-clause-causes g c =
    query_causes c.in-Ok-Query.asked _ _ _ _ _ _ _ _ _ _ _ c.run_query.ensures.answer

pub returns-in-Ok-Query-clause-untouched : goal.returns-in-Ok-Query-clause-untouched
returns-in-Ok-Query-clause-untouched g c =
    let e : order_of_words c.args.words.now ≡ Ok (order.Query c.in-Ok-Query.asked) = search rules in
    generate_of c.args.words.now (Ok (order.Query c.in-Ok-Query.asked)) _ e tt

pub returns-in-Ok-Query-clause-generate : goal.returns-in-Ok-Query-clause-generate
returns-in-Ok-Query-clause-generate g c =
    let e : order_of_words c.args.words.now ≡ Ok (order.Query c.in-Ok-Query.asked) = search rules in
    generate_of c.args.words.now (Ok (order.Query c.in-Ok-Query.asked)) _ e tt

pub returns-in-Ok-Query-clause-query : goal.returns-in-Ok-Query-clause-query
returns-in-Ok-Query-clause-query g c =
    let e : order_of_words c.args.words.now ≡ Ok (order.Query c.in-Ok-Query.asked) = search rules in
    of_query_at c.args.words.now c.in-Ok-Query.asked (λ asked. LeavesAnswer asked _ _ _ _ _ _ _ _) e c.run_query.ensures.answer

pub returns-in-Ok-Query-clause-unchanged : goal.returns-in-Ok-Query-clause-unchanged
returns-in-Ok-Query-clause-unchanged g c =
    of_query_any c.args.words.now _ (λ _. (c.run_query.ensures.told, refl))

pub returns-in-Err-clause-query : goal.returns-in-Err-clause-query
returns-in-Err-clause-query g c = refused_query c.args.words.now c.in-Err.fault _ _ _ _ _ c.in-Err.ensures.err c.status_of_words.ensures

pub returns-in-Err-clause-unchanged : goal.returns-in-Err-clause-unchanged
returns-in-Err-clause-unchanged g c = of_query_any c.args.words.now _ (λ _. (refl, refl))

pub returns-in-Ok-Run-clause-sql : goal.returns-in-Ok-Run-clause-sql
returns-in-Ok-Run-clause-sql g c =
    let e : order_of_words c.args.words.now ≡ Ok (order.Run c.in-Ok-Run.roots c.in-Ok-Run.workers) = search rules in
    sql_of c.args.words.now (Ok (order.Run c.in-Ok-Run.roots c.in-Ok-Run.workers)) _ e tt

pub returns-in-Ok-Run-clause-apart : goal.returns-in-Ok-Run-clause-apart
returns-in-Ok-Run-clause-apart g c =
    let e : order_of_words c.args.words.now ≡ Ok (order.Run c.in-Ok-Run.roots c.in-Ok-Run.workers) = search rules in
    sql_of c.args.words.now (Ok (order.Run c.in-Ok-Run.roots c.in-Ok-Run.workers)) _ e tt

pub returns-in-Ok-Generate-clause-sql : goal.returns-in-Ok-Generate-clause-sql
returns-in-Ok-Generate-clause-sql g c =
    let e : order_of_words c.args.words.now ≡ Ok (order.Generate c.in-Ok-Generate.count c.in-Ok-Generate.workers) = search rules in
    sql_of c.args.words.now (Ok (order.Generate c.in-Ok-Generate.count c.in-Ok-Generate.workers)) _ e tt

pub returns-in-Ok-Generate-clause-apart : goal.returns-in-Ok-Generate-clause-apart
returns-in-Ok-Generate-clause-apart g c =
    let e : order_of_words c.args.words.now ≡ Ok (order.Generate c.in-Ok-Generate.count c.in-Ok-Generate.workers) = search rules in
    sql_of c.args.words.now (Ok (order.Generate c.in-Ok-Generate.count c.in-Ok-Generate.workers)) _ e tt

pub returns-in-Ok-Query-clause-sql : goal.returns-in-Ok-Query-clause-sql
returns-in-Ok-Query-clause-sql g c =
    let e : order_of_words c.args.words.now ≡ Ok (order.Query c.in-Ok-Query.asked) = search rules in
    sql_of c.args.words.now (Ok (order.Query c.in-Ok-Query.asked)) _ e tt

pub returns-in-Ok-Query-clause-apart : goal.returns-in-Ok-Query-clause-apart
returns-in-Ok-Query-clause-apart g c =
    let e : order_of_words c.args.words.now ≡ Ok (order.Query c.in-Ok-Query.asked) = search rules in
    sql_of c.args.words.now (Ok (order.Query c.in-Ok-Query.asked)) _ e tt

pub returns-in-Ok-GenerateSql-clause-stands : goal.returns-in-Ok-GenerateSql-clause-stands
returns-in-Ok-GenerateSql-clause-stands g c =
    let e : order_of_words c.args.words.now ≡ Ok (order.GenerateSql c.in-Ok-GenerateSql.count c.in-Ok-GenerateSql.workers) = search rules in
    run_of c.args.words.now (Ok (order.GenerateSql c.in-Ok-GenerateSql.count c.in-Ok-GenerateSql.workers)) _ e tt

pub returns-in-Ok-GenerateSql-clause-output : goal.returns-in-Ok-GenerateSql-clause-output
returns-in-Ok-GenerateSql-clause-output g c =
    let e : order_of_words c.args.words.now ≡ Ok (order.GenerateSql c.in-Ok-GenerateSql.count c.in-Ok-GenerateSql.workers) = search rules in
    run_of c.args.words.now (Ok (order.GenerateSql c.in-Ok-GenerateSql.count c.in-Ok-GenerateSql.workers)) _ e tt

pub returns-in-Ok-GenerateSql-clause-named : goal.returns-in-Ok-GenerateSql-clause-named
returns-in-Ok-GenerateSql-clause-named g c =
    let e : order_of_words c.args.words.now ≡ Ok (order.GenerateSql c.in-Ok-GenerateSql.count c.in-Ok-GenerateSql.workers) = search rules in
    run_of c.args.words.now (Ok (order.GenerateSql c.in-Ok-GenerateSql.count c.in-Ok-GenerateSql.workers)) _ e tt

pub returns-in-Ok-GenerateSql-clause-committed : goal.returns-in-Ok-GenerateSql-clause-committed
returns-in-Ok-GenerateSql-clause-committed g c =
    let e : order_of_words c.args.words.now ≡ Ok (order.GenerateSql c.in-Ok-GenerateSql.count c.in-Ok-GenerateSql.workers) = search rules in
    run_of c.args.words.now (Ok (order.GenerateSql c.in-Ok-GenerateSql.count c.in-Ok-GenerateSql.workers)) _ e tt

pub returns-in-Ok-GenerateSql-clause-first : goal.returns-in-Ok-GenerateSql-clause-first
returns-in-Ok-GenerateSql-clause-first g c =
    λ m l ef ek.
    let e : order_of_words c.args.words.now ≡ Ok (order.GenerateSql c.in-Ok-GenerateSql.count c.in-Ok-GenerateSql.workers) = search rules in
    sql_first c.args.words.now c.in-Ok-GenerateSql.count c.in-Ok-GenerateSql.workers m l _ _ _ _ _ _ _ _ _ e ek c.run_generated_sql.ensures.told

pub returns-in-Ok-GenerateSql-clause-causes : goal.returns-in-Ok-GenerateSql-clause-causes
returns-in-Ok-GenerateSql-clause-causes g c =
    sql_causes c.in-Ok-GenerateSql.count _ _ _ _ _ _ _ _ _ _ _ _ _ c.run_generated_sql.ensures.told

pub returns-in-Ok-GenerateSql-clause-untouched : goal.returns-in-Ok-GenerateSql-clause-untouched
returns-in-Ok-GenerateSql-clause-untouched g c =
    let e : order_of_words c.args.words.now ≡ Ok (order.GenerateSql c.in-Ok-GenerateSql.count c.in-Ok-GenerateSql.workers) = search rules in
    generate_of c.args.words.now (Ok (order.GenerateSql c.in-Ok-GenerateSql.count c.in-Ok-GenerateSql.workers)) _ e tt

pub returns-in-Ok-GenerateSql-clause-generate : goal.returns-in-Ok-GenerateSql-clause-generate
returns-in-Ok-GenerateSql-clause-generate g c =
    let e : order_of_words c.args.words.now ≡ Ok (order.GenerateSql c.in-Ok-GenerateSql.count c.in-Ok-GenerateSql.workers) = search rules in
    generate_of c.args.words.now (Ok (order.GenerateSql c.in-Ok-GenerateSql.count c.in-Ok-GenerateSql.workers)) _ e tt

pub returns-in-Ok-GenerateSql-clause-query : goal.returns-in-Ok-GenerateSql-clause-query
returns-in-Ok-GenerateSql-clause-query g c =
    let e : order_of_words c.args.words.now ≡ Ok (order.GenerateSql c.in-Ok-GenerateSql.count c.in-Ok-GenerateSql.workers) = search rules in
    no_query c.args.words.now (Ok (order.GenerateSql c.in-Ok-GenerateSql.count c.in-Ok-GenerateSql.workers)) _ e tt

pub returns-in-Ok-GenerateSql-clause-unchanged : goal.returns-in-Ok-GenerateSql-clause-unchanged
returns-in-Ok-GenerateSql-clause-unchanged g c =
    let e : order_of_words c.args.words.now ≡ Ok (order.GenerateSql c.in-Ok-GenerateSql.count c.in-Ok-GenerateSql.workers) = search rules in
    no_query c.args.words.now (Ok (order.GenerateSql c.in-Ok-GenerateSql.count c.in-Ok-GenerateSql.workers)) _ e tt

pub returns-in-Ok-GenerateSql-clause-sql : goal.returns-in-Ok-GenerateSql-clause-sql
returns-in-Ok-GenerateSql-clause-sql g c =
    let e : order_of_words c.args.words.now ≡ Ok (order.GenerateSql c.in-Ok-GenerateSql.count c.in-Ok-GenerateSql.workers) = search rules in
    sql_of c.args.words.now (Ok (order.GenerateSql c.in-Ok-GenerateSql.count c.in-Ok-GenerateSql.workers)) (λ n. LeavesSql n _ _ _ _ _ _ _ _ _) e c.run_generated_sql.ensures.told

pub returns-in-Ok-GenerateSql-clause-apart : goal.returns-in-Ok-GenerateSql-clause-apart
returns-in-Ok-GenerateSql-clause-apart g c = of_sql_any c.args.words.now _ (λ _. refl)

pub returns-in-Err-clause-sql : goal.returns-in-Err-clause-sql
returns-in-Err-clause-sql g c = refused_sql c.args.words.now c.in-Err.fault _ _ _ _ _ c.in-Err.ensures.err c.status_of_words.ensures

pub returns-in-Err-clause-apart : goal.returns-in-Err-clause-apart
returns-in-Err-clause-apart g c = of_sql_any c.args.words.now _ (λ _. refl)
