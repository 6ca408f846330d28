use Rattle.std.proofs.Common.{refl, subst}
use Rattle.std.proofs.lemmas.Result.{on_err_weaker}
use Rattle.desk_report.specs.Pieces.{Gathers, pieces_text}
use Rattle.desk_report.proofs.Gathering.{WritesFront-all}
use Rattle.desk_report.proofs.writer.write_pieces.Goals as goal

pub returns-clause-err : goal.returns-clause-err
returns-clause-err g c =
    let all = subst (λ w. Gathers (pieces_text c.args.pieces.now) w c.put_pieces.new.waiting (g.O.Sink.told c.args.out.now) (g.O.Sink.told c.put_pieces.new.out)) c.new-waiting.ensures c.in_ok-put_pieces.ensures.ok in
    on_err_weaker c.flush.result (WritesFront-all _ _ _ _ _ _ refl all) c.flush.ensures.err
