use Rattle.std.proofs.Common.{◌<◌, ◌∙◌, sym, ap, length, option_map, arith}
use Rattle.desk_graph.specs.Nodes.{firsts, defined_of}
use Rattle.desk_graph.specs.Strandings.{stranding_pair}
use Rattle.desk_graph.proofs.Stranding.{held_strands, held_stays}
use Rattle.desk_graph.proofs.stranded.earliest_at.Goals as goal
use Rattle.desk_graph.proofs.stranded.earliest_at.Goals.{then-strands, else-strands}

pub loop-place-preserved : goal.loop-place-preserved
loop-place-preserved c = λ f by.
    let within : c.loop-place.place < length c.args.class.now.held = omega arith in
    elim c.if-strands.branch [
      | then-strands w ↦
          held_strands f (defined_of (firsts c.args.known.now) c.args.nodes.now) c.args.class.now.path c.args.class.now.held c.loop-place.place c.get-name.result.now within (sym c.get-name.ensures)
          (option_map stranding_pair c.loop-place.best) (option_map stranding_pair c.if-strands.best) _ (c.loop-place.invariant f by) (sym (c.strands.ensures f by) ∙ w.if-strands.true) (ap (option_map stranding_pair) w.best-is ∙ w.earlier-best.ensures)
      | else-strands w ↦
          held_stays f (defined_of (firsts c.args.known.now) c.args.nodes.now) c.args.class.now.path c.args.class.now.held c.loop-place.place c.get-name.result.now within (sym c.get-name.ensures)
          (option_map stranding_pair c.loop-place.best) (option_map stranding_pair c.if-strands.best) _ (c.loop-place.invariant f by) (sym (c.strands.ensures f by) ∙ w.if-strands.false) (ap (option_map stranding_pair) w.best-is)
    ]
