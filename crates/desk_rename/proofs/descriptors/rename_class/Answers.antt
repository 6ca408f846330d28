use Rattle.std.proofs.Common.{◌≡◌, ◌∙◌, sym, true, false}
use Rattle.desk_base.specs.Referents.{begins_array}
use Rattle.desk_base.proofs.Separated.{starts_array}
use Rattle.desk_rename.specs.Images.{cls, desc, class_image}
use Rattle.desk_rename.proofs.Finished.{cls_array, cls_name, image_along}
use Rattle.desk_rename.proofs.descriptors.rename_class.Goals as goal

pub returns-then-starts_with-clause-image : goal.returns-then-starts_with-clause-image
returns-then-starts_with-clause-image c =
    let array : begins_array c.args.text.now ≡ true = sym (starts_array c.args.text.now) ∙ sym c.starts_with.ensures.value ∙ c.if-starts_with.true in
    image_along c.args.text.now (desc c.args.rules.now.renames c.args.text.now) (cls c.args.rules.now.renames c.args.text.now)
    (cls_array c.args.rules.now.renames c.args.text.now array) c.rename_descriptor.result c.rename_descriptor.ensures.image

pub returns-in-None-clause-image : goal.returns-in-None-clause-image
returns-in-None-clause-image c =
    let name : begins_array c.args.text.now ≡ false = sym (starts_array c.args.text.now) ∙ sym c.starts_with.ensures.value ∙ c.if-starts_with.false in
    cls_name c.args.rules.now.renames c.args.text.now name ∙ c.in-None.ensures.front

pub returns-in_ok-exchanged-in-Some-clause-image : goal.returns-in_ok-exchanged-in-Some-clause-image
returns-in_ok-exchanged-in-Some-clause-image c =
    let name : begins_array c.args.text.now ≡ false = sym (starts_array c.args.text.now) ∙ sym c.starts_with.ensures.value ∙ c.if-starts_with.false in
    let is : cls c.args.rules.now.renames c.args.text.now ≡ class_image c.args.rules.now.renames c.args.text.now = cls_name c.args.rules.now.renames c.args.text.now name in
    (c.in_ok-exchanged-in-Some.ensures ∙ sym c.in-Some.ensures.front.image_is ∙ sym is, λ e. c.in-Some.ensures.front.differs (sym is ∙ e))
