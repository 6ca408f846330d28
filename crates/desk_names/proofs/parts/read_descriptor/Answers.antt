use Rattle.std.proofs.Common.{sym, ap, ◌∙◌}
use Rattle.std.proofs.lemmas.Bool.{both_ways}
use Rattle.desk_base.specs.Descriptors.{as_is}
use Rattle.desk_names.specs.States.{wanted_kind}
use Rattle.desk_names.specs.Pieces.{joined}
use Rattle.desk_names.proofs.Scanned.{tree_of}
use Rattle.desk_names.proofs.Takes.{taken}
use Rattle.desk_names.proofs.Pieces.{joins_text}
use Rattle.desk_names.proofs.parts.read_descriptor.Goals as goal

pub returns-then-is_descriptor-clause-tree : goal.returns-then-is_descriptor-clause-tree
returns-then-is_descriptor-clause-tree c = tree_of (wanted_kind c.args.want) c.args.text.now (sym c.is_descriptor.ensures ∙ c.if-is_descriptor.true)

pub returns-then-is_descriptor-clause-joined : goal.returns-then-is_descriptor-clause-joined
returns-then-is_descriptor-clause-joined c =
    let t = tree_of (wanted_kind c.args.want) c.args.text.now (sym c.is_descriptor.ensures ∙ c.if-is_descriptor.true) in
    ap (joined as_is) c.descriptor_parts.ensures.parts ∙ joins_text (wanted_kind c.args.want) c.args.text.now t.0 t.1

pub returns-else-is_descriptor-clause-none : goal.returns-else-is_descriptor-clause-none
returns-else-is_descriptor-clause-none c = λ d r. both_ways _ (sym c.is_descriptor.ensures ∙ c.if-is_descriptor.false) (taken (wanted_kind c.args.want) c.args.text.now d r)
