use Rattle.std.proofs.Common.{◌≡◌, Some}
use Rattle.desk_code.specs.Opcodes.{shape_of}
use Rattle.desk_code.specs.declared.opcodes.Shape.TheVariants as shapes
use Rattle.desk_compare.proofs.SameSteps.{plain_found, byte_found, index_found}
use Rattle.desk_compare.proofs.steps.step_behind.Goals as goal

pub returns-in-Some-Bytes-clause-step : goal.returns-in-Some-Bytes-clause-step
returns-in-Some-Bytes-clause-step c =
    let e = c.plain_step.ensures in
    let found : shape_of c.args.opcode ≡ Some (shapes.Bytes c.in-Some-Bytes.n) = cc in
    plain_found c.args.known.now.left c.args.known.now.right c.args.opcode c.args.left.now c.args.right.now c.in-Some-Bytes.n c.plain_step.result found e.size e.left e.right e.same

pub returns-in-Some-ByteIndex-clause-step : goal.returns-in-Some-ByteIndex-clause-step
returns-in-Some-ByteIndex-clause-step c =
    let e = c.byte_step.ensures in
    let found : shape_of c.args.opcode ≡ Some (shapes.ByteIndex c.in-Some-ByteIndex.operand) = cc in
    byte_found c.args.known.now.left c.args.known.now.right c.args.opcode c.args.left.now c.args.right.now c.in-Some-ByteIndex.operand c.byte_step.result found e.size e.left e.right e.operand

pub returns-in-Some-Index-clause-step : goal.returns-in-Some-Index-clause-step
returns-in-Some-Index-clause-step c =
    let e = c.index_step.ensures in
    let found : shape_of c.args.opcode ≡ Some (shapes.Index c.in-Some-Index.operand c.in-Some-Index.n) = cc in
    index_found c.args.known.now.left c.args.known.now.right c.args.opcode c.args.left.now c.args.right.now c.in-Some-Index.operand c.in-Some-Index.n c.index_step.result found e.size e.left e.right e.operand e.same
