use Rattle.std.proofs.Common.{◌≡◌, ℕ, ◌++◌, ◌∷◌, ◌∙◌, [], ap, arith}
use Rattle.desk_base.specs.Names.{Text}
use Rattle.desk_packages.proofs.Joined.{appended_more, appended_first}
use Rattle.desk_packages.specs.Keys.{byte_of}
use Rattle.desk_packages.proofs.rename.joined.Goals as goal
use Rattle.desk_packages.proofs.rename.joined.Goals.{then-i-gt0+in_ok-push, else-i-gt0}

pub loop-i-preserved : goal.loop-i-preserved
loop-i-preserved c =
    let bytes : c.append.new.self ≡ c.if-i-gt0.text ++ c.index-segments-i.result = c.in_ok-append.ensures.ok ∙ ap (λ (t : Text). c.if-i-gt0.text ++ t) c.as_bytes.ensures in
    elim c.if-i-gt0.branch [
      | then-i-gt0+in_ok-push w ↦ appended_more (byte_of c.args.separator) c.args.segments.now c.loop-i.i [] c.loop-i.text c.if-i-gt0.text c.append.new.self c.index-segments-i.result
          w.if-i-gt0.true (omega arith) c.loop-i.invariant (w.text-is ∙ w.in_ok-push.ensures.ok ∙ ap (λ (b : ℕ). c.loop-i.text ++ b ∷ []) w.byte.ensures) bytes c.index-segments-i.is
      | else-i-gt0 w ↦ appended_first (byte_of c.args.separator) c.args.segments.now c.loop-i.i [] c.loop-i.text c.append.new.self c.index-segments-i.result
          w.if-i-gt0.false (omega arith) c.loop-i.invariant (bytes ∙ ap (λ (t : Text). t ++ c.index-segments-i.result) w.text-is) c.index-segments-i.is
    ]
