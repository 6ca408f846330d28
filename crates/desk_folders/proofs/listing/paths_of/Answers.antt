use Rattle.std.proofs.Common.{rules, ◌+◌, map, ◌∙◌, ap, take}
use Rattle.desk_folders.proofs.FirstPaths.{one_path_more, no_path_more, no_room_more, over_more, key_of, keys_left, yielded_more, all_yielded}
use Rattle.std.specs.List.{filter_map}
use Rattle.desk_folders.specs.Contents.{below}
use Rattle.desk_folders.proofs.listing.paths_of.Goals as goal

pub loop-path-preserved-in-Continue-1 : goal.loop-path-preserved-in-Continue-1
loop-path-preserved-in-Continue-1 c = record {
  got = over_more (c.args.most + 1) c.args.root.now c.loop-path.yielded _ _ (one_path_more (c.args.most + 1) c.args.root.now (map key_of c.loop-path.yielded) _ _ c.loop-path.paths _
      (search rules) (search rules) c.loop-path.invariant.got c.in_ok-push_copy.ensures);
  all = yielded_more c.loop-path.yielded _ c.loop-path.path-iterator c.next.new.self _ (ap keys_left c.in-Some.ensures.steps) c.loop-path.invariant.all;
}

pub loop-path-preserved-in_default : goal.loop-path-preserved-in_default
loop-path-preserved-in_default c = record {
  got = over_more (c.args.most + 1) c.args.root.now c.loop-path.yielded _ _ (no_path_more (c.args.most + 1) c.args.root.now (map key_of c.loop-path.yielded) _ _ (search rules) c.loop-path.invariant.got);
  all = yielded_more c.loop-path.yielded _ c.loop-path.path-iterator c.next.new.self _ (search rules) c.loop-path.invariant.all;
}

pub loop-path-preserved : goal.loop-path-preserved
loop-path-preserved c = record {
  got = over_more (c.args.most + 1) c.args.root.now c.loop-path.yielded _ _ (no_room_more (c.args.most + 1) c.args.root.now (map key_of c.loop-path.yielded) _ _ (search rules) c.loop-path.invariant.got);
  all = yielded_more c.loop-path.yielded _ c.loop-path.path-iterator c.next.new.self _ (search rules) c.loop-path.invariant.all;
}

pub returns-clause-paths : goal.returns-clause-paths
returns-clause-paths c =
    c.loop-path.invariant.got ∙ ap (λ ks. take (c.args.most + 1) (filter_map (below c.args.root.now) ks))
    (all_yielded c.loop-path.yielded c.loop-path.path-iterator _ c.args.files.now.entries c.in-None.ensures.steps.0 c.loop-path.invariant.all (search rules))
