use Rattle.std.proofs.Common.{List, subst}
use Rattle.desk_names.specs.Pieces.{Piece, piece_of, pieces}
use Rattle.desk_rename.specs.Drafts.{IsLooked}
use Rattle.desk_rename.proofs.Looked.{looked_next, looked_more, looked_whole}
use Rattle.desk_rename.proofs.Finished.{finished_descriptor}
use Rattle.desk_rename.proofs.descriptors.rename_descriptor_parts.Goals as goal

pub take-requires : goal.take-requires
take-requires c =
    let P : List Piece → Type 0 = λ rest. IsLooked c.args.rules.now.renames c.args.text.now (pieces c.args.text.now) rest c.loop-part.draft in
    looked_next c.args.rules.now.renames c.args.text.now (pieces c.args.text.now) c.next.new.self (piece_of c.in-Some.part) c.loop-part.draft
    (subst P c.in-Some.ensures.steps c.loop-part.invariant.looked)

pub loop-part-preserved : goal.loop-part-preserved
loop-part-preserved c =
    let P : List Piece → Type 0 = λ rest. IsLooked c.args.rules.now.renames c.args.text.now (pieces c.args.text.now) rest c.loop-part.draft in
    record {
      can = tt;
      ends = tt;
      looked = looked_more c.args.rules.now.renames c.args.text.now (pieces c.args.text.now) c.next.new.self (piece_of c.in-Some.part) c.loop-part.draft c.take.new.self
          (subst P c.in-Some.ensures.steps c.loop-part.invariant.looked) c.in_ok-take.ensures;
    }

pub finish-requires : goal.finish-requires
finish-requires c =
    let P : List Piece → Type 0 = λ rest. IsLooked c.args.rules.now.renames c.args.text.now (pieces c.args.text.now) rest c.loop-part.draft in
    looked_whole c.args.rules.now.renames c.args.text.now (pieces c.args.text.now) c.loop-part.draft (subst P c.in-None.ensures.steps.0 c.loop-part.invariant.looked)

pub returns : goal.returns
returns c =
    let P : List Piece → Type 0 = λ rest. IsLooked c.args.rules.now.renames c.args.text.now (pieces c.args.text.now) rest c.loop-part.draft in
    finished_descriptor c.args.rules.now.renames c.args.text.now c.loop-part.draft c.requires.read (subst P c.in-None.ensures.steps.0 c.loop-part.invariant.looked) c.finish.result c.finish.ensures
