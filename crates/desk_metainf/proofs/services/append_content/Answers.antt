use Rattle.std.proofs.Common.{◌≡◌, ◌++◌, ◌∙◌, ap, sym, take, drop, ◌-◌}
use Rattle.desk_base.specs.Names.{Text}
use Rattle.desk_rules.specs.Images.{dotted}
use Rattle.desk_metainf.proofs.Exchanged.{put_back, differs}
use Rattle.desk_metainf.proofs.services.append_content.Goals as goal

pub returns-in_ok-append-in-None-clause-bytes : goal.returns-in_ok-append-in-None-clause-bytes
returns-in_ok-append-in-None-clause-bytes c =
    let line = c.args.content.now in
    let name = take (c.args.provider.to - c.args.provider.from) (drop c.args.provider.from line) in
    let same : dotted c.args.rules.now.renames name ≡ name = rw (c.in-None.is) at c.in_ok-rename_dotted.ensures.image in
    c.in_ok-append-in-None.ensures.ok
    ∙ ap (λ (t : Text). c.args.out.now ++ t) (sym (ap (λ (t : Text). take c.args.provider.from line ++ (t ++ drop c.args.provider.to line)) same ∙ put_back line c.args.provider.from c.args.provider.to c.requires.in_order))

pub returns-in_ok-append-in-Some-3-clause-changed : goal.returns-in_ok-append-in-Some-3-clause-changed
returns-in_ok-append-in-Some-3-clause-changed c = differs _ _ (rw (c.in-Some.is) at c.in_ok-rename_dotted.ensures.image).1
