use Rattle.std.proofs.Common.{◌∙◌, ap, option_map}
use Rattle.desk_graph.specs.Nodes.{firsts, defined_of}
use Rattle.desk_graph.specs.Strandings.{stranding_pair}
use Rattle.desk_graph.proofs.Stranding.{selected_step, unselected_step}
use Rattle.desk_graph.proofs.stranded.first_stranded.Goals as goal
use Rattle.desk_graph.proofs.stranded.first_stranded.Goals.{then-not-selected, else-not-selected}

pub loop-class-preserved : goal.loop-class-preserved
loop-class-preserved c = λ f by.
    elim c.if-not-selected.branch [
      | then-not-selected w ↦
          unselected_step f (defined_of (firsts c.args.known.now) c.args.nodes.now) c.args.classes.now c.loop-class.class-index c.class-item.result c.loop-class-test.true c.class-item.is
          (option_map stranding_pair c.loop-class.best) (option_map stranding_pair c.if-not-selected.best) _ (c.loop-class.invariant f by) w.if-not-selected.true (ap (option_map stranding_pair) w.best-is ∙ w.earliest_at-best.ensures f by)
      | else-not-selected w ↦
          selected_step f (defined_of (firsts c.args.known.now) c.args.nodes.now) c.args.classes.now c.loop-class.class-index c.class-item.result c.loop-class-test.true c.class-item.is
          (option_map stranding_pair c.loop-class.best) (option_map stranding_pair c.if-not-selected.best) _ (c.loop-class.invariant f by) w.if-not-selected.false (ap (option_map stranding_pair) w.best-is)
    ]
