use Rattle.std.proofs.Common.{rules, ◌≡◌}
use Rattle.desk_graph.proofs.Sets.{keys_apart, sorted_texts}
use Rattle.desk_graph.proofs.name_set.list_of.Goals as goal

pub returns : goal.returns
returns c =
    let all : c.loop-name.list.items ≡ c.args.set.keys = search rules in
    sorted_texts c.args.set.keys c.sort_unstable.new.self.items (keys_apart c.args.set.keys c.len.ensures.ordered) (rw (← all) c.sort_unstable.ensures.permutation) c.sort_unstable.ensures.sorted
