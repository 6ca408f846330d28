use Rattle.desk_run.specs.Named.{asked_of}
use Rattle.desk_run.proofs.Promised.{files_clause, classes_clause, ledger_clause, remains_clause, status_clause, output_clause, last_write, causes_after, generates}
use Rattle.desk_run.proofs.GeneratingSql.{sql_clause}
use Rattle.desk_run.proofs.Answering.{answers_of, calls_clause, compare_clause, invert_clause}
use Rattle.desk_run.proofs.Following.{of_run_map, of_run_both, of_generate_map, of_query_map, of_sql_map}
use Rattle.desk_run.proofs.Referring.{follow_clause}
use Rattle.desk_run.proofs.Resuming.{resume_clause}
use Rattle.desk_run.proofs.Sparing.{sources_clause}
use Rattle.desk_run.proofs.desk.Goals as goal

pub returns-clause-files : goal.returns-clause-files
returns-clause-files g c =
    of_run_map c.args.words.now _ _ (λ s m l ef ek. files_clause (asked_of c.args.words.now) m l _ _ _ (s m l ef ek)) c.follow-status.ensures.stands

pub returns-clause-ledger : goal.returns-clause-ledger
returns-clause-ledger g c =
    of_run_both c.args.words.now _ _ _ (λ s n. ledger_clause (asked_of c.args.words.now) _ _ _ _ _ _ _ s n) c.follow-status.ensures.stands c.follow-status.ensures.named

pub returns-clause-output : goal.returns-clause-output
returns-clause-output g c =
    of_run_map c.args.words.now _ _ (λ r. output_clause (asked_of c.args.words.now) _ _ c.follow-status.result _ _ _ _ _ _ c.follow-status.ensures.counts_o r
    (last_write _ _ _ _ _ c.write_fault.result c.write_fault.ensures.ok c.write_fault.ensures.err c.write_fault.ensures.failed)) c.follow-status.ensures.output

pub returns-clause-generate : goal.returns-clause-generate
returns-clause-generate g c =
    of_generate_map c.args.words.now _ _ (λ n t. generates n c.follow-status.result _ _ _ _ _ _ c.follow-status.ensures.counts_o t
    (last_write _ _ _ _ _ c.write_fault.result c.write_fault.ensures.ok c.write_fault.ensures.err c.write_fault.ensures.failed)) c.follow-status.ensures.generate

pub returns-clause-causes : goal.returns-clause-causes
returns-clause-causes g c = causes_after (asked_of c.args.words.now) _ c.follow-status.result _ _ _ _ _ _ _ c.write_fault.ensures.counts c.follow-status.ensures.causes

pub returns-clause-status : goal.returns-clause-status
returns-clause-status g c = λ m l ef ek.
    status_clause (asked_of c.args.words.now) _ m _ c.follow-status.result _ _ _ _ _ _ ef (c.follow-status.ensures.first m l ef ek)
    (causes_after (asked_of c.args.words.now) _ c.follow-status.result _ _ _ _ _ _ _ c.write_fault.ensures.counts c.follow-status.ensures.causes)

pub returns-clause-remains : goal.returns-clause-remains
returns-clause-remains g c =
    of_run_map c.args.words.now _ _ (λ s m l ef ek. remains_clause (asked_of c.args.words.now) m l _ _ _ (s m l ef ek)) c.follow-status.ensures.stands

pub returns-clause-classes : goal.returns-clause-classes
returns-clause-classes g c =
    of_run_map c.args.words.now _ _ (λ s m l ef ek. classes_clause (asked_of c.args.words.now) m l _ _ _ (s m l ef ek)) c.follow-status.ensures.stands

pub returns-clause-follow : goal.returns-clause-follow
returns-clause-follow g c =
    of_run_map c.args.words.now _ _ (λ s m l ef ek. follow_clause (asked_of c.args.words.now) m l _ _ _ (s m l ef ek)) c.follow-status.ensures.stands

pub returns-clause-sources : goal.returns-clause-sources
returns-clause-sources g c =
    of_run_map c.args.words.now _ _ (λ s m l ef ek. sources_clause c.args.words.now m l _ _ _ (s m l ef ek)) c.follow-status.ensures.stands

pub returns-clause-resume : goal.returns-clause-resume
returns-clause-resume g c =
    of_run_map c.args.words.now _ _ (λ s m l ef ek. resume_clause (asked_of c.args.words.now) m l _ _ _ (s m l ef ek)) c.follow-status.ensures.stands

pub returns-clause-calls : goal.returns-clause-calls
returns-clause-calls g c =
    of_query_map c.args.words.now _ _ (λ asked a. calls_clause asked _ _ _ _ _ _ _ c.follow-status.result (answers_of asked _ c.follow-status.result _ _ _ _ _ _ _ _ c.follow-status.ensures.counts_o c.write_fault.ensures.counts a
    (last_write _ _ _ _ _ c.write_fault.result c.write_fault.ensures.ok c.write_fault.ensures.err c.write_fault.ensures.failed))) c.follow-status.ensures.query

pub returns-clause-invert : goal.returns-clause-invert
returns-clause-invert g c =
    of_query_map c.args.words.now _ _ (λ asked a. invert_clause asked _ _ _ _ _ _ _ c.follow-status.result (answers_of asked _ c.follow-status.result _ _ _ _ _ _ _ _ c.follow-status.ensures.counts_o c.write_fault.ensures.counts a
    (last_write _ _ _ _ _ c.write_fault.result c.write_fault.ensures.ok c.write_fault.ensures.err c.write_fault.ensures.failed))) c.follow-status.ensures.query

pub returns-clause-compare : goal.returns-clause-compare
returns-clause-compare g c =
    of_query_map c.args.words.now _ _ (λ asked a. compare_clause asked _ _ _ _ _ _ _ c.follow-status.result (answers_of asked _ c.follow-status.result _ _ _ _ _ _ _ _ c.follow-status.ensures.counts_o c.write_fault.ensures.counts a
    (last_write _ _ _ _ _ c.write_fault.result c.write_fault.ensures.ok c.write_fault.ensures.err c.write_fault.ensures.failed))) c.follow-status.ensures.query

pub returns-clause-sql : goal.returns-clause-sql
returns-clause-sql g c =
    of_sql_map c.args.words.now _ _ (λ n a. sql_clause n _ _ _ _ _ _ _ _ _ _ c.follow-status.result c.follow-status.ensures.counts_o c.write_fault.ensures.counts a
    (last_write _ _ _ _ _ c.write_fault.result c.write_fault.ensures.ok c.write_fault.ensures.err c.write_fault.ensures.failed)) c.follow-status.ensures.sql
