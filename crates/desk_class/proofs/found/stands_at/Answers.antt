use Rattle.std.proofs.Common.{◌∙◌, sym}
use Rattle.std.proofs.lemmas.Slice.Eq.{bytes_eq-Decides}
use Rattle.desk_class.proofs.Told.{name_at}
use Rattle.desk_class.proofs.found.stands_at.Goals as goal

pub returns-then-place-names : goal.returns-then-place-names
returns-then-place-names c = (
  λ e. (c.if-place-names.true, name_at c.args.names.now c.args.place _ c.if-place-names.true ∙ (bytes_eq-Decides _ c.args.name.now).0 (sym c.eq.ensures ∙ e)),
  λ h. c.eq.ensures ∙ (bytes_eq-Decides _ c.args.name.now).1 (sym (name_at c.args.names.now c.args.place _ c.if-place-names.true) ∙ h.1),
)
