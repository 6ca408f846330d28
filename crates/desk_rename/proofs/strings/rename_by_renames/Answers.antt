use Rattle.std.proofs.Common.{◌∙◌, Bool, cond, sym, ap}
use Rattle.desk_base.specs.Names.{dot}
use Rattle.desk_rules.specs.Images.{dotted, package_written, renamed_string}
use Rattle.desk_rename.proofs.Finished.{image_along}
use Rattle.desk_rename.proofs.strings.rename_by_renames.Goals as goal

pub returns-then-is_source : goal.returns-then-is_source
returns-then-is_source c =
    let rs = c.args.rules.now.renames in
    let t = c.args.text.now in
    image_along t (package_written dot rs t) (renamed_string rs t)
    (ap (λ (b : Bool). cond b (package_written dot rs t) (dotted rs t)) (sym c.is_source.ensures ∙ c.if-is_source.true)) c.rename_dotted_package.result c.rename_dotted_package.ensures.image

pub returns-else-is_source : goal.returns-else-is_source
returns-else-is_source c =
    let rs = c.args.rules.now.renames in
    let t = c.args.text.now in
    image_along t (dotted rs t) (renamed_string rs t)
    (ap (λ (b : Bool). cond b (package_written dot rs t) (dotted rs t)) (sym c.is_source.ensures ∙ c.if-is_source.false)) c.rename_dotted.result c.rename_dotted.ensures.image
