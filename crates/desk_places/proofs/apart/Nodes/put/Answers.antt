use Rattle.std.proofs.Common.{◌∙◌, ◌||◌, ap}
use Rattle.desk_places.specs.Places.{holds, same_node}
use Rattle.desk_places.proofs.Sets.{put_holds}
use Rattle.desk_places.proofs.apart.Nodes.put.Goals as goal

pub returns-clause-ok : goal.returns-clause-ok
returns-clause-ok c = λ other.
    put_holds c.self.inside.nodes c.insert.new.self c.args.node other c.in_ok-insert.ensures.updates
    ∙ ap (λ nodes. same_node other c.args.node || holds nodes other) c.self.view_is
