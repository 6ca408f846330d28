use Rattle.std.proofs.Common.{take, drop, suc, rules}
use Rattle.desk_base.proofs.Results.{on_err}
use Rattle.desk_base.proofs.Lists.{texts_more}
use Rattle.desk_report.specs.Pieces.{piece_text, pieces_text}
use Rattle.desk_report.proofs.Gathering.{Gathers-grows, WritesFront-stops, texts_split}
use Rattle.desk_report.proofs.writer.put_pieces.Goals as goal

pub returns-in_err-put_piece-clause-err : goal.returns-in_err-put_piece-clause-err
returns-in_err-put_piece-clause-err g c =
    let i = c.loop-piece.piece-index in
    let pieces = c.args.pieces.now in
    on_err _ (WritesFront-stops _ (pieces_text (take i pieces)) _ (pieces_text (drop (suc i) pieces)) _ _ _ _ _
    (texts_split piece_text pieces i _ c.loop-piece-test.true) c.loop-piece.invariant.gathered c.in_err-put_piece.ensures.err)

pub loop-piece-preserved : goal.loop-piece-preserved
loop-piece-preserved g c =
    let i = c.loop-piece.piece-index in
    let pieces = c.args.pieces.now in record {
      gathered = Gathers-grows _ (pieces_text (take i pieces)) _ _ _ _ _ _ _
          (texts_more piece_text pieces i _ c.loop-piece-test.true) c.loop-piece.invariant.gathered c.in_ok-put_piece.ensures.ok;
      counts = search rules;
    }
