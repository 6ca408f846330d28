use Rattle.desk_comparison.proofs.Applications.{listed_items, listed_there}
use Rattle.desk_comparison.proofs.reading.read_other.Goals as goal

pub read_paths-requires : goal.read_paths-requires
read_paths-requires g c = record {
  there = listed_there c.args.other.now (g.F.Folders.told c.args.folders.now) (g.F.Folders.told c.list_paths.new.folders) c.into_vec.result.items c.in_ok-paths.ensures.told
      (listed_items c.args.other.now (g.F.Folders.told c.args.folders.now) c.in_ok-paths.paths c.into_vec.result.items c.into_vec.ensures c.in_ok-paths.ensures.paths);
}
