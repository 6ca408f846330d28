use Rattle.std.proofs.Common.{List, sym, ap, subst, ◌∙◌}
use Rattle.desk_names.specs.Pieces.{Piece, piece_of, joined, AreCut}
use Rattle.desk_base.specs.Descriptors.{as_is}
use Rattle.desk_names.specs.SignatureScan.{wanted_signature}
use Rattle.desk_names.specs.SignaturePieces.{sig_pieces}
use Rattle.desk_rename.specs.Drafts.{IsLooked}
use Rattle.desk_rename.proofs.Looked.{looked_none, looked_next, looked_more, looked_whole}
use Rattle.desk_rename.proofs.Finished.{finished_signature}
use Rattle.desk_rename.proofs.signatures.rename_signature_parts.Goals as goal

pub loop-part-init : goal.loop-part-init
loop-part-init c =
    let ps = sig_pieces (wanted_signature c.args.which) c.args.text.now in
    let P : List Piece → Type 0 = λ rest. IsLooked c.args.rules.now.renames c.args.text.now ps rest c.new-draft.result in
    let Q : List Piece → Type 0 = λ parts. AreCut parts in
    record {
      can = tt;
      ends = tt;
      looked = subst P (sym (c.into_iter-part-iterator.ensures.into_iter_gives ∙ c.requires.parts))
          (looked_none c.args.rules.now.renames c.args.text.now ps c.new-draft.result c.new-draft.ensures (ap (joined as_is) (sym c.requires.parts) ∙ c.requires.joins) (subst Q c.requires.parts c.requires.cut));
    }

pub take-requires : goal.take-requires
take-requires c =
    let P : List Piece → Type 0 = λ rest. IsLooked c.args.rules.now.renames c.args.text.now (sig_pieces (wanted_signature c.args.which) c.args.text.now) rest c.loop-part.draft in
    looked_next c.args.rules.now.renames c.args.text.now (sig_pieces (wanted_signature c.args.which) c.args.text.now) c.next.new.self (piece_of c.in-Some.part) c.loop-part.draft
    (subst P c.in-Some.ensures.steps c.loop-part.invariant.looked)

pub loop-part-preserved : goal.loop-part-preserved
loop-part-preserved c =
    let P : List Piece → Type 0 = λ rest. IsLooked c.args.rules.now.renames c.args.text.now (sig_pieces (wanted_signature c.args.which) c.args.text.now) rest c.loop-part.draft in
    record {
      can = tt;
      ends = tt;
      looked = looked_more c.args.rules.now.renames c.args.text.now (sig_pieces (wanted_signature c.args.which) c.args.text.now) c.next.new.self (piece_of c.in-Some.part) c.loop-part.draft c.take.new.self
          (subst P c.in-Some.ensures.steps c.loop-part.invariant.looked) c.in_ok-take.ensures;
    }

pub finish-requires : goal.finish-requires
finish-requires c =
    let P : List Piece → Type 0 = λ rest. IsLooked c.args.rules.now.renames c.args.text.now (sig_pieces (wanted_signature c.args.which) c.args.text.now) rest c.loop-part.draft in
    looked_whole c.args.rules.now.renames c.args.text.now (sig_pieces (wanted_signature c.args.which) c.args.text.now) c.loop-part.draft (subst P c.in-None.ensures.steps.0 c.loop-part.invariant.looked)

pub returns : goal.returns
returns c =
    let P : List Piece → Type 0 = λ rest. IsLooked c.args.rules.now.renames c.args.text.now (sig_pieces (wanted_signature c.args.which) c.args.text.now) rest c.loop-part.draft in
    finished_signature c.args.rules.now.renames (wanted_signature c.args.which) c.args.text.now c.loop-part.draft c.requires.read (subst P c.in-None.ensures.steps.0 c.loop-part.invariant.looked) c.finish.result c.finish.ensures
