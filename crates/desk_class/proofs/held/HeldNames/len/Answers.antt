use Rattle.std.proofs.Common.{◌≡◌, ◌∙◌, sym, ap, length, arith}
use Rattle.desk_class.proofs.Packing.{cut_long}
use Rattle.desk_class.proofs.held.HeldNames.len.Goals as goal

pub returns : goal.returns
returns c =
    let h = c.self.inside in
    let long : length c.args.self.now ≡ length h.ends.items = ap length (sym c.self.view_is) ∙ cut_long h.bytes.items 0 h.ends.items in
    omega (arith, long, h.ends.ok.0)
