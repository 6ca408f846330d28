use Rattle.std.proofs.Common.{rules, ◌≡◌, length, take}
use Rattle.std.specs.Str.{bytes_eq}
use Rattle.desk_clashes.proofs.Sets.{folder_at, folder_not_at}
use Rattle.desk_clashes.proofs.pairs.is_folder.Goals as goal

pub returns-then-path-depth-eq47 : goal.returns-then-path-depth-eq47
returns-then-path-depth-eq47 c =
    let same : c.eq.result ≡ bytes_eq (take (length c.args.folder.now) c.args.path.now) c.args.folder.now = search rules in
    folder_at c.args.folder.now c.args.path.now c.eq.result c.if-path-depth.false c.if-path-depth-eq47.true same

pub returns-else-path-depth-eq47 : goal.returns-else-path-depth-eq47
returns-else-path-depth-eq47 c = folder_not_at c.args.folder.now c.args.path.now c.if-path-depth.false c.if-path-depth-eq47.false
