use Rattle.std.proofs.Common.{◌≡◌, ◌++◌, get_or, rules}
use Rattle.desk_base.specs.Shown.{shown_byte}
use Rattle.desk_faults.proofs.Shown.{texts_behind}
use Rattle.desk_faults.proofs.fault.append_bytes.Goals as goal

pub loop-byte-preserved : goal.loop-byte-preserved
loop-byte-preserved c =
    let shown : c.append.new.self ≡ c.loop-byte.line ++ shown_byte (get_or c.args.text.now c.loop-byte.byte-index 0) = search rules in
    texts_behind shown_byte c.args.text.now c.loop-byte.byte-index 0 _ _ _ c.loop-byte-test.true c.loop-byte.invariant shown
