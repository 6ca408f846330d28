use Rattle.std.proofs.Common.{ap}
use Rattle.desk_code.specs.Seen.{seen}
use Rattle.desk_code.proofs.Whole.{as_codes, body_reads}
use Rattle.desk_code.proofs.places.codes.Goals as goal

pub returns-in-Ok : goal.returns-in-Ok
returns-in-Ok c =
    let b = c.bytes_of-bytes.ensures in
    as_codes c.args.view.now c.bytes_of-bytes.result.now b.each b.sound b.bytes c.pool.result.now.entries c.body_of-cursor.result (seen c.as_slice.result.now) (seen c.in-Ok.found.items)
    c.pool.ensures.entries c.body_of-cursor.ensures c.in-Ok.ensures.codes (ap seen c.as_slice.ensures.value) (λ v. v.items) c.places_in.result c.places_in.ensures

pub unreachable-requires : goal.unreachable-requires
unreachable-requires c =
    let b = c.bytes_of-bytes.ensures in
    body_reads c.args.view.now b.each b.sound c.pool.result.now.entries c.body_of-cursor.result c.pool.ensures.entries c.body_of-cursor.ensures (c.in-Err-Ended.ensures.ends c.in-Err-Ended.field-0-is)
