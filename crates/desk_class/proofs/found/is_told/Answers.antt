use Rattle.std.proofs.Common.{◌∙◌, sym, ap, arith}
use Rattle.std.specs.Str.{bytes_eq}
use Rattle.std.proofs.lemmas.Bool.{false_from_ne_true, eqb-true, and_right, and_left}
use Rattle.std.proofs.lemmas.Slice.Eq.{bytes_eq-Decides}
use Rattle.desk_base.specs.Names.{Text}
use Rattle.desk_class.specs.Found.{texts}
use Rattle.desk_class.proofs.Told.{Borrowed, name_at, told_here, told_on}
use Rattle.desk_class.proofs.Packing.{length_map}
use Rattle.desk_class.proofs.found.is_told.Goals.{else-known-mark-via-then-known-mark+then-place-names+else-eq, else-known-mark-via-then-known-mark+else-place-names, else-known-mark-via-else-known-mark}
use Rattle.desk_class.proofs.found.is_told.Goals as goal

pub returns-then-eq : goal.returns-then-eq
returns-then-eq c =
    told_here c.args.marks.now (texts c.args.names.now) c.args.mark c.args.name.now c.loop-place.place c.loop-place-test.true
    (omega (arith, c.if-place-names.true, length_map (λ (n : Borrowed). n.now) c.args.names.now)) c.if-known-mark.true
    (name_at c.args.names.now c.loop-place.place _ c.if-place-names.true ∙ (bytes_eq-Decides _ c.args.name.now).0 (sym c.eq.ensures ∙ c.if-eq.true)) c.loop-place.invariant

pub loop-place-preserved : goal.loop-place-preserved
loop-place-preserved c =
    told_on c.args.marks.now (texts c.args.names.now) c.args.mark c.args.name.now c.loop-place.place c.loop-place-test.true
    (λ within. elim c.else-known-mark.branch [
      | else-known-mark-via-then-known-mark+then-place-names+else-eq w ↦
          and_right _ _ (ap (λ (t : Text). bytes_eq t c.args.name.now) (name_at c.args.names.now c.loop-place.place _ w.if-place-names.true) ∙ sym w.eq.ensures ∙ w.if-eq.false)
      | else-known-mark-via-then-known-mark+else-place-names w ↦ absurd (omega (arith, w.if-place-names.false, within, length_map (λ (n : Borrowed). n.now) c.args.names.now))
      | else-known-mark-via-else-known-mark w ↦ and_left _ _ (false_from_ne_true _ (λ e. w.if-known-mark.false (eqb-true _ _ e)))
    ])
    c.loop-place.invariant
