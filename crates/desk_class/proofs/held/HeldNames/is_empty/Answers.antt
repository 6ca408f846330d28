use Rattle.std.proofs.Common.{◌≡◌, ◌∙◌, sym, ap, ℕ, ◌==◌, length, vec_len, arith}
use Rattle.desk_class.proofs.Packing.{cut_long}
use Rattle.desk_class.proofs.held.HeldNames.is_empty.Goals as goal

pub returns : goal.returns
returns c =
    let h = c.self.inside in
    let long : length c.args.self.now ≡ length h.ends.items = ap length (sym c.self.view_is) ∙ cut_long h.bytes.items 0 h.ends.items in
    let same : vec_len h.ends ≡ length c.args.self.now = omega (arith, long, h.ends.ok.0) in
    c.is_empty.ensures ∙ ap (λ (n : ℕ). n == 0) same
