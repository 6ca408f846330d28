use Rattle.std.proofs.Common.{◌≡◌, ◌∙◌, sym, ap, subst, ℕ, ◌||◌, length, get_or, arith}
use Rattle.std.specs.Str.{bytes_eq}
use Rattle.std.proofs.lemmas.List.{get_or_default}
use Rattle.std.proofs.lemmas.Bool.{not-false}
use Rattle.desk_base.specs.Names.{Text}
use Rattle.desk_graph.specs.Application.{Pair}
use Rattle.desk_graph.specs.Tables.{holds, is_name}
use Rattle.desk_graph.proofs.Sets.{Seen, again, first_time, left_out, all_shared}
use Rattle.desk_graph.proofs.clashes.shared_images.Goals as goal
use Rattle.desk_graph.proofs.clashes.shared_images.Goals.{then-changes+then-is_met+in_ok-put, then-changes+else-is_met+in_ok-put-2, else-changes}

pub loop-one-preserved : goal.loop-one-preserved
loop-one-preserved c =
    let one : Pair = c.one-item.result in
    let is : (d : Pair) → get_or c.args.known.now c.loop-one.one-index d ≡ one = λ d. get_or_default c.args.known.now c.loop-one.one-index d one c.loop-one-test.true ∙ sym c.one-item.is in
    elim c.if-changes.branch [
      | then-changes+then-is_met+in_ok-put w ↦ rw (w.seen-is, w.shared-is)
          (again c.args.known.now c.loop-one.one-index one is (holds c.loop-one.seen) (holds c.loop-one.shared) c.loop-one.invariant (holds w.put.new.set)
          (ap (λ (t : Text). holds c.loop-one.seen t || is_name c.args.known.now t) (sym w.image-image.ensures) ∙ sym w.is_met.ensures ∙ w.if-is_met.true)
          (λ q. w.in_ok-put.ensures.holds q ∙ ap (λ (t : Text). bytes_eq q t || holds c.loop-one.shared q) w.image-image.ensures))
      | then-changes+else-is_met+in_ok-put-2 w ↦ rw (w.seen-is, w.shared-is)
          (first_time c.args.known.now c.loop-one.one-index one is (holds c.loop-one.seen) (holds c.loop-one.shared) c.loop-one.invariant (holds w.put-else-is_met.new.set)
          (ap (λ (t : Text). holds c.loop-one.seen t || is_name c.args.known.now t) (sym w.image-image.ensures) ∙ sym w.is_met.ensures ∙ w.if-is_met.false)
          (λ q. w.in_ok-put-2.ensures.holds q ∙ ap (λ (t : Text). bytes_eq q t || holds c.loop-one.seen q) w.image-image.ensures))
      | else-changes w ↦ rw (w.seen-is, w.shared-is)
          (left_out c.args.known.now c.loop-one.one-index one is (holds c.loop-one.seen) (holds c.loop-one.shared) c.loop-one.invariant (not-false (bytes_eq one.1 one.0) (sym c.changes.ensures ∙ w.if-changes.false)))
    ]

pub returns : goal.returns
returns c =
    let all : c.loop-one.one-index ≡ length c.args.known.now = omega arith in
    all_shared c.args.known.now (holds c.loop-one.seen) (holds c.loop-one.shared) c.requires (subst (λ (n : ℕ). Seen c.args.known.now n (holds c.loop-one.seen) (holds c.loop-one.shared)) all c.loop-one.invariant)
