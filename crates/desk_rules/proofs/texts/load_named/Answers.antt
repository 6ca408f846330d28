use Rattle.std.proofs.lemmas.Result.{IfErr-weaker, on_ok_weaker}
use Rattle.desk_rules.proofs.TextBuilds.{checked_refused, texts_read}
use Rattle.desk_rules.proofs.texts.load_named.Goals as goal

pub returns-clause-read : goal.returns-clause-read
returns-clause-read c =
    on_ok_weaker c.load.result (λ checked. record {
      read = λ entries read. texts_read c.args.files.now c.in_ok-entries_in.field-0.entries c.in_ok-entries_in.ensures.read c.in_ok-entries.entries.entries c.in_ok-entries.ensures
          c.in_ok-names_of.field-0.entries c.in_ok-names_of.ensures.read c.in_ok-names.names.entries c.in_ok-names.ensures checked entries read;
    }) c.load.ensures.read

pub returns-clause-refused : goal.returns-clause-refused
returns-clause-refused c =
    IfErr-weaker c.load.result _ _ (λ e refused. checked_refused c.args.files.now c.in_ok-entries_in.field-0.entries c.in_ok-entries_in.ensures.read c.in_ok-entries.entries.entries c.in_ok-entries.ensures
    c.in_ok-names_of.field-0.entries c.in_ok-names_of.ensures.read c.in_ok-names.names.entries c.in_ok-names.ensures e refused) c.load.ensures.refused
