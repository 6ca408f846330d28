use Rattle.std.proofs.Common.{◌≡◌, sym, subst, Ok}
use Rattle.std.specs.Prelude.{IfOk, IfSome}
use Rattle.desk_words.specs.declared.roots.Query.{Query}
use Rattle.desk_run.specs.Queries.{answer_of}
use Rattle.desk_run.proofs.queries.reply_of.Goals as goal

pub returns-in-Calls-clause-ok : goal.returns-in-Calls-clause-ok
returns-in-Calls-clause-ok g c =
    let P : Query → Type 0 = λ q. IfOk c.reply_calls.result (λ reply. IfSome (g.F.Folders.told c.args.folders.now) (λ m. answer_of q m ≡ Ok (reply.text, reply.status))) in
    subst P (sym c.in-Calls.is) c.reply_calls.ensures.ok
