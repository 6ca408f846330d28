use Rattle.desk_names.specs.SignatureScan.{wanted_signature}
use Rattle.desk_names.specs.SignaturePieces.{sig_pieces}
use Rattle.desk_rename.specs.Drafts.{IsLooked}
use Rattle.desk_rename.proofs.signatures.rename_signature_parts.Given as goal

abbrev pub invariant-loop-part : goal.invariant-loop-part
invariant-loop-part l = record {
  can : (goal.iterator-loop-part).can_next l.part-iterator;
  ends : (goal.iterator-loop-part).is_finite l.part-iterator;
  looked : IsLooked l.rules.renames l.text (sig_pieces (wanted_signature l.fn.which) l.text) l.part-iterator l.draft;
}
