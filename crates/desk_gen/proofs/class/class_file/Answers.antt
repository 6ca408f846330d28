use Rattle.std.proofs.Common.{◌≡◌, ◌<◌, ◌^◌, rules, arith}
use Rattle.desk_gen.specs.Names.{class_name, dotted_name, descriptor}
use Rattle.desk_gen.proofs.Paths.{short_name, short_dotted, short_descriptor}
use Rattle.desk_gen.proofs.Bytes.{class_bytes, short_as, short_entries}
use Rattle.desk_gen.proofs.class.class_file.Goals as goal

pub append_entries-requires : goal.append_entries-requires
append_entries-requires c =
    let own : c.as_bytes.result.now ≡ class_name c.args.number = search rules in
    let other : c.as_bytes-2.result.now ≡ class_name c.args.neighbour = search rules in
    let dotted : c.as_bytes-3.result.now ≡ dotted_name c.args.neighbour = search rules in
    let field : c.as_bytes-4.result.now ≡ descriptor c.args.neighbour = search rules in
    let object : 16 < 2 ^ 16 = omega arith in
    let name : 1 < 2 ^ 16 = omega arith in
    short_entries c.as_bytes.result _ c.as_bytes-2.result c.as_bytes-3.result c.as_bytes-4.result _ (short_as _ _ own (short_name c.args.number c.ranges.number.fits)) object
    (short_as _ _ other (short_name c.args.neighbour c.ranges.neighbour.fits)) (short_as _ _ dotted (short_dotted c.args.neighbour c.ranges.neighbour.fits))
    (short_as _ _ field (short_descriptor c.args.neighbour c.ranges.neighbour.fits)) name

pub returns : goal.returns
returns c =
    let own : c.as_bytes.result.now ≡ class_name c.args.number = search rules in
    let other : c.as_bytes-2.result.now ≡ class_name c.args.neighbour = search rules in
    let dotted : c.as_bytes-3.result.now ≡ dotted_name c.args.neighbour = search rules in
    let field : c.as_bytes-4.result.now ≡ descriptor c.args.neighbour = search rules in
    class_bytes c.as_bytes.result.now c.as_bytes-2.result.now c.as_bytes-3.result.now c.as_bytes-4.result.now c.args.number c.args.neighbour _ _ _ own other dotted field
    c.in_ok-out.ensures c.in_ok-append_entries.ensures c.in_ok-append.ensures.ok
