use Rattle.std.proofs.Common.{◌≡◌, ◌∙◌, ap, [], ◌∷◌, ◌++◌, ℕ, length, arith}
use Rattle.desk_class.proofs.Packing.{spelled_more}
use Rattle.desk_class.proofs.held.HeldNames.of.Goals as goal

pub loop-name-preserved : goal.loop-name-preserved
loop-name-preserved c =
    let ends = c.loop-name.ends.items in
    let long : c.len-end.result ≡ length c.extend_from_slice.new.self.items = omega (arith, c.extend_from_slice.new.self.ok.0) in
    spelled_more (λ n. n.now) c.args.names.now c.loop-name.name-index _ c.loop-name.bytes.items c.extend_from_slice.new.self.items ends c.push.new.self.items c.loop-name-test.true
    c.in_ok-extend_from_slice.ensures.items (c.in_ok-push.ensures.items ∙ ap (λ (n : ℕ). ends ++ n ∷ []) long) c.loop-name.invariant
