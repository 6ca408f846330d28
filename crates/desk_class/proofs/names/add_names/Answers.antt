use Rattle.std.proofs.Common.{◌≡◌, List, [], ◌∷◌, Result, Ok, Err, OnOk, false, true, sym, ap, subst, ◌∙◌}
use Rattle.desk_base.specs.Names.{Text}
use Rattle.desk_base.specs.Referents.{begins_array}
use Rattle.desk_base.specs.declared.kinds.Role.{Role}
use Rattle.desk_base.specs.declared.kinds.Role.TheVariants as roles
use Rattle.desk_base.proofs.Separated.{starts_array}
use Rattle.desk_class.specs.Formed.{IsFormed}
use Rattle.desk_class.specs.Held.{found_all, names_of}
use Rattle.desk_class.specs.Standing.{standing_in}
use Rattle.desk_class.proofs.Formed.{is_named, class_named}
use Rattle.desk_class.proofs.Whole.{descriptor_stands, array_stands}
use Rattle.desk_class.proofs.names.add_names.Goals as goal

-- the names that were added are those of the text
put : {T E : Type 0} (r : Result T E) (s n xs ys : List Text) → xs ≡ ys → OnOk r (n ≡ found_all s xs) → OnOk r (n ≡ found_all s ys)
put (Ok x) s n xs ys e h = h ∙ ap (found_all s) e
put (Err x) s n xs ys e h = tt

formed_as : (role other : Role) (text : Text) → role ≡ other → IsFormed role text → IsFormed other text
formed_as role other text e h = subst (λ (r : Role). IsFormed r text) e h

pub returns-then-starts_with : goal.returns-then-starts_with
returns-then-starts_with c =
    let array : begins_array c.args.text.now ≡ true = sym (starts_array c.args.text.now) ∙ sym c.starts_with.ensures.value ∙ c.if-starts_with.true in
    put c.add_descriptor.result c.args.names.now c.add_descriptor.new.names (standing_in c.args.text.now) (names_of c.args.role c.args.text.now)
    (array_stands c.args.text.now array (formed_as c.args.role roles.Class c.args.text.now c.in-Class.is c.requires)
    ∙ ap (λ (r : Role). names_of r c.args.text.now) (sym c.in-Class.is))
    c.add_descriptor.ensures

pub returns-else-starts_with : goal.returns-else-starts_with
returns-else-starts_with c =
    let plain : begins_array c.args.text.now ≡ false = sym (starts_array c.args.text.now) ∙ sym c.starts_with.ensures.value ∙ c.if-starts_with.false in
    put c.add.result c.args.names.now c.add.new.self (c.args.text.now ∷ []) (names_of c.args.role c.args.text.now)
    (sym (class_named c.args.text.now (is_named c.args.text.now plain (formed_as c.args.role roles.Class c.args.text.now c.in-Class.is c.requires)))
    ∙ ap (λ (r : Role). names_of r c.args.text.now) (sym c.in-Class.is))
    c.add.ensures.ok

pub returns-in-Descriptor : goal.returns-in-Descriptor
returns-in-Descriptor c =
    put c.add_descriptor-in-Descriptor.result c.args.names.now c.add_descriptor-in-Descriptor.new.names (standing_in c.args.text.now) (names_of c.args.role c.args.text.now)
    (descriptor_stands c.args.text.now (formed_as c.args.role roles.Descriptor c.args.text.now c.in-Descriptor.is c.requires)
    ∙ ap (λ (r : Role). names_of r c.args.text.now) (sym c.in-Descriptor.is))
    c.add_descriptor-in-Descriptor.ensures
