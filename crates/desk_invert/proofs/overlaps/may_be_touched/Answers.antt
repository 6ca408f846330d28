use Rattle.std.proofs.Common.{◌≡◌, ◌∙◌, ◌==◌, not, ◌&&◌, List, ap, subst, sym, None}
use Rattle.std.specs.List.{find, filter, list_any, starts_with}
use Rattle.std.specs.Str.{bytes_eq}
use Rattle.desk_base.specs.Names.{Text}
use Rattle.desk_packages.specs.Renames.{Renaming, key_of}
use Rattle.desk_invert.specs.Exchanged.{takes_back, touches}
use Rattle.desk_invert.proofs.LookUps.{untouched, exact_none}
use Rattle.desk_invert.proofs.overlaps.may_be_touched.Goals as goal

pub returns-in-None-2 : goal.returns-in-None-2
returns-in-None-2 c h =
    untouched c.args.rename.now c.recall_form.ensures.formed c.args.backs.now c.dotted_target-target.result.now c.front_end.result c.dotted_target-target.ensures c.front_end.ensures c.in-None.ensures.longest
    (λ deep. subst (λ (t : Text). None ≡ find (λ (s : Renaming). bytes_eq (key_of s) t) c.args.backs.now) (sym c.dotted_target-target.ensures) (exact_none c.args.rename.now.below _ (sym c.gives_source.ensures ∙ c.if-gives_source.false) deep))
    (sym (ap (λ (rs : List Renaming). list_any (λ (t : Renaming). not (takes_back t c.args.rename.now) && touches t c.args.rename.now) rs)
    (c.rules_under.ensures ∙ ap (λ (t : Text). filter (λ (s : Renaming). starts_with ◌==◌ (key_of s) t) c.args.backs.now) c.target_start.ensures)) ∙ sym c.is_touched.ensures ∙ h)
