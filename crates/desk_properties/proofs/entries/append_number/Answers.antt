use Rattle.std.proofs.Common.{◌++◌, ap, ◌∙◌}
use Rattle.std.specs.Prelude.{encode_utf8}
use Rattle.desk_base.specs.Names.{Text}
use Rattle.desk_properties.proofs.Parts.{escape_number, scalar_is}
use Rattle.desk_properties.proofs.entries.append_number.Goals as goal

pub returns-in_ok-append-in-Some-from_u32-clause-read : goal.returns-in_ok-append-in-Some-from_u32-clause-read
returns-in_ok-append-in-Some-from_u32-clause-read c =
    let char = c.in-Some-from_u32.ensures.value in
    escape_number c.args.file.now c.args.from c.in-Some.read.number c.in-Some.read.next _ _ c.requires.pair c.requires.letter c.in-Some.ensures
    (scalar_is c.in-Some.read.number c.in-Some-from_u32.ensures.cases)
    (c.in_ok-append-in-Some-from_u32.ensures.ok ∙ ap (λ (t : Text). c.args.text.now ++ t) (c.as_bytes.ensures.value ∙ c.encode_utf8.ensures.value ∙ ap encode_utf8 char.1))
