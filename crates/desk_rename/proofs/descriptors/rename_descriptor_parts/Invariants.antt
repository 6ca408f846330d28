use Rattle.desk_names.specs.Pieces.{pieces}
use Rattle.desk_rename.specs.Drafts.{IsLooked}
use Rattle.desk_rename.proofs.descriptors.rename_descriptor_parts.Given as goal

abbrev pub invariant-loop-part : goal.invariant-loop-part
invariant-loop-part l = record {
  can : (goal.iterator-loop-part).can_next l.part-iterator;
  ends : (goal.iterator-loop-part).is_finite l.part-iterator;
  looked : IsLooked l.rules.renames l.text (pieces l.text) l.part-iterator l.draft;
}
