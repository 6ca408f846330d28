use Rattle.std.proofs.Common.{◌≡◌, ◌++◌, sym, ap, Some, take, drop, arith}
use Rattle.std.proofs.lemmas.List.{take-append-drop}
use Rattle.std.proofs.lemmas.Grind.{common_steps}
use Rattle.desk_report.proofs.memory.MemorySinkSink.write.Goals as goal

pub returns-then-front-bytes-clause-err : goal.returns-then-front-bytes-clause-err
returns-then-front-bytes-clause-err c =
    let n = c.min.result in
    let grown : c.extend_from_slice.new.self.items ≡ c.args.self.now.written ++ take n c.args.bytes.now = grind (arith, common_steps) in
    record {
      front = take n c.args.bytes.now;
      rest = drop n c.args.bytes.now;
      all = sym (take-append-drop n c.args.bytes.now);
      is = ap Some grown;
    }
