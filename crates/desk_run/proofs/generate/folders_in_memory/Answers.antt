use Rattle.std.proofs.Common.{◌≡◌, ◌∙◌, ap, rules}
use Rattle.std.specs.FinMap as fin
use Rattle.desk_folders.specs.InMemory.{filled}
use Rattle.desk_run.specs.Generated.{generated_files}
use Rattle.desk_run.proofs.InMemory.{contents_are}
use Rattle.desk_run.proofs.generate.folders_in_memory.Goals as goal

pub returns : goal.returns
returns c =
    let files : c.in_ok-files.files.items ≡ generated_files c.args.count = search rules in
    let folders : c.in_ok-folders.folders.contents ≡ filled c.in_ok-files.files.items fin.empty = search rules in
    folders ∙ ap (λ xs. filled xs fin.empty) files ∙ contents_are c.args.count
