use Rattle.std.proofs.Common.{take, drop, suc, get_or, rules}
use Rattle.std.specs.List.{flat_map}
use Rattle.desk_base.specs.Shown.{shown_byte}
use Rattle.desk_base.proofs.Results.{on_err}
use Rattle.desk_base.proofs.Lists.{texts_more}
use Rattle.desk_report.proofs.Gathering.{Gathers-grows, WritesFront-stops, texts_split}
use Rattle.desk_report.proofs.writer.put_bytes.Goals as goal

pub returns-in_err-put_byte-clause-err : goal.returns-in_err-put_byte-clause-err
returns-in_err-put_byte-clause-err g c =
    let i = c.loop-byte.byte-index in
    let text = c.args.text.now in
    on_err _ (WritesFront-stops _ (flat_map shown_byte (take i text)) (shown_byte (get_or text i 0)) (flat_map shown_byte (drop (suc i) text)) _ _ _ _ _
    (texts_split shown_byte text i 0 c.loop-byte-test.true) c.loop-byte.invariant.gathered c.in_err-put_byte.ensures.err)

pub loop-byte-preserved : goal.loop-byte-preserved
loop-byte-preserved g c =
    let i = c.loop-byte.byte-index in
    let text = c.args.text.now in record {
      gathered = Gathers-grows _ (flat_map shown_byte (take i text)) (shown_byte (get_or text i 0)) _ _ _ _ _ _
          (texts_more shown_byte text i 0 c.loop-byte-test.true) c.loop-byte.invariant.gathered c.in_ok-put_byte.ensures.ok;
      counts = search rules;
    }
