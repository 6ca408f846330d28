use Rattle.std.proofs.Common.{◌∙◌, ◌++◌, ◌∷◌, [], take, ap, sym, arith}
use Rattle.std.proofs.lemmas.List.{take_more}
use Rattle.desk_base.specs.Names.{Text}
use Rattle.desk_packages.specs.Renames.{Renaming}
use Rattle.desk_invert.specs.Files.{file_of, line_of}
use Rattle.desk_invert.proofs.Inverses.{file_push}
use Rattle.desk_invert.proofs.exchanged.file_of.Goals as goal

pub loop-rename-preserved : goal.loop-rename-preserved
loop-rename-preserved c =
    c.in_ok-text.ensures
    ∙ ap (λ (t : Text). t ++ line_of c.rename-item.result) c.loop-rename.invariant
    ∙ sym (file_push (take c.loop-rename.rename-index c.args.renames.now) c.rename-item.result)
    ∙ ap (λ (r : Renaming). file_of (take c.loop-rename.rename-index c.args.renames.now ++ r ∷ [])) c.rename-item.is
    ∙ ap file_of (sym (take_more c.args.renames.now c.loop-rename.rename-index c.rename-item.result (omega arith)))
