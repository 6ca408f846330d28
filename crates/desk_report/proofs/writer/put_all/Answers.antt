use Rattle.std.proofs.Common.{◌∷◌, [], take, drop, suc, get_or, rules}
use Rattle.std.proofs.lemmas.List.{take_more}
use Rattle.desk_base.proofs.Results.{on_err}
use Rattle.desk_report.proofs.Gathering.{Gathers-grows, WritesFront-stops, split_at}
use Rattle.desk_report.proofs.writer.put_all.Goals as goal

pub returns-in_err-put-clause-err : goal.returns-in_err-put-clause-err
returns-in_err-put-clause-err g c =
    let i = c.loop-byte.byte-index in
    let bytes = c.args.bytes.now in
    on_err _ (WritesFront-stops bytes (take i bytes) (get_or bytes i 0 ∷ []) (drop (suc i) bytes) _ _ _ _ _ (split_at bytes i 0 c.loop-byte-test.true) c.loop-byte.invariant.gathered c.in_err-put.ensures.err)

pub loop-byte-preserved : goal.loop-byte-preserved
loop-byte-preserved g c =
    let i = c.loop-byte.byte-index in
    let bytes = c.args.bytes.now in record {
      gathered = Gathers-grows _ (take i bytes) (get_or bytes i 0 ∷ []) _ _ _ _ _ _ (take_more bytes i 0 c.loop-byte-test.true) c.loop-byte.invariant.gathered c.in_ok-put.ensures.ok;
      counts = search rules;
    }
