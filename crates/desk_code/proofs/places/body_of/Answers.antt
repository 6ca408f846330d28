use Rattle.std.proofs.Common.{◌≡◌, ◌<◌, ◌≤◌, length, ap, ◌∙◌, arith}
use Rattle.desk_base.specs.Spot.{Spot}
use Rattle.desk_class.specs.Parts.{body_at_in}
use Rattle.desk_code.proofs.Whole.{body_within}
use Rattle.desk_code.proofs.places.body_of.Goals as goal

pub unreachable-requires : goal.unreachable-requires
unreachable-requires c =
    let b = c.bytes_of-bytes.ensures in
    let within : body_at_in c.args.view.now ≤ length c.args.view.now = body_within c.args.view.now b.each b.sound in
    let short : length c.new-cursor.result.left < c.body_at.result = c.in-Err.ensures.short in
    let left : length c.new-cursor.result.left ≡ length c.args.view.now = ap (λ (s : Spot). length s.left) c.new-cursor.ensures ∙ ap length b.bytes in
    omega (arith, within, short, left, c.body_at.ensures)
