use Rattle.std.proofs.Common.{◌≡◌, rules}
use Rattle.desk_run.specs.Generated.{generated_files}
use Rattle.desk_run.proofs.InMemory.{all_full}
use Rattle.desk_run.proofs.generate.files_in_memory.Goals as goal

pub returns-in_ok-push-in-Ok-clause-full : goal.returns-in_ok-push-in-Ok-clause-full
returns-in_ok-push-in-Ok-clause-full c =
    let e : c.push.new.self.items ≡ generated_files c.args.count = search rules in
    rw e (all_full c.args.count (rw c.in-Ok.ensures.files at c.in-Ok.ensures.relative))
