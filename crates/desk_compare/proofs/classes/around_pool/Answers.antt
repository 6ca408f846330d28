use Rattle.std.proofs.Common.{rules, ◌≤◌, length, ap, arith}
use Rattle.desk_format.specs.Laws.{IsBytes}
use Rattle.desk_class.specs.Parts.{body_at_in}
use Rattle.desk_code.proofs.Whole.{body_within}
use Rattle.desk_compare.proofs.SameClasses.{long}
use Rattle.desk_compare.proofs.classes.around_pool.Goals as goal

pub split_at-requires : goal.split_at-requires
split_at-requires c =
    let bytes : IsBytes c.args.view.now = search rules in
    let room : 8 ≤ length c.args.view.now = long c.args.view.now bytes c.bytes-bytes.ensures.sound in
    omega (arith, room, ap length c.bytes-bytes.ensures.bytes)

pub split_at-requires-2 : goal.split_at-requires-2
split_at-requires-2 c =
    let bytes : IsBytes c.args.view.now = search rules in
    let room : body_at_in c.args.view.now ≤ length c.args.view.now = body_within c.args.view.now bytes c.bytes-bytes.ensures.sound in
    omega (arith, room, ap length c.bytes-bytes.ensures.bytes, c.body_at.ensures)
