use Rattle.std.proofs.Common.{rules, All, ◌≡◌, List, map, arith, ap, subst, sym}
use Rattle.std.proofs.lemmas.Result.{err_from_is_err_and}
use Rattle.desk_file.specs.Linked.{image_in}
use Rattle.desk_graph.specs.Graphs.{Graph}
use Rattle.desk_rules.specs.Rules.{Rules}
use Rattle.desk_comparison.specs.Files.{IsNoted, IsRouted, files_of, source_of}
use Rattle.desk_comparison.specs.Halts.{HaltsMaking}
use Rattle.desk_comparison.specs.Images.{image_answer}
use Rattle.desk_comparison.specs.Makings.{MadeBy}
use Rattle.desk_comparison.specs.declared.reading.SourceFile.{SourceFile}
use Rattle.desk_comparison.proofs.Ends.{answered, classes_clear, classes_halt, classes_making, graph_built, image_halt, other_halt}
use Rattle.desk_comparison.proofs.Firsts.{moved}
use Rattle.desk_comparison.proofs.comparing.compare_under.Goals as goal

pub build_graph-requires : goal.build_graph-requires
build_graph-requires g c = omega (arith, c.in_ok-noted.ensures.few, c.in_ok-source.ensures.few)

pub returns-in_err-graph-clause-err : goal.returns-in_err-graph-clause-err
returns-in_err-graph-clause-err g c =
    let before = g.F.Folders.told c.args.folders.now in
    let p = err_from_is_err_and c.from_residual-in_err-graph.result c.from_residual-in_err-graph.ensures.1 in
    rw (p.1, p.2)
    (classes_halt c.args.rules.now c.args.from.now c.args.other.now before c.in_ok-source.source.items c.read_source.new.room c.in_ok-source.ensures.clear c.in_ok-source.ensures.read _ _ c.in_err-graph.field-0.0
    (classes_making c.args.rules.now c.in_ok-source.source.items c.in_ok-noted.noted.classes.items c.in_ok-noted.ensures.classes c.in_ok-source.ensures.routed c.in_err-graph.field-0.0 c.in_err-graph.ensures.err))

pub returns-in_err-others-clause-err : goal.returns-in_err-others-clause-err
returns-in_err-others-clause-err g c =
    let before = g.F.Folders.told c.args.folders.now in
    let p = err_from_is_err_and c.from_residual-in_err-others.result c.from_residual-in_err-others.ensures.1 in
    rw (p.1, p.2)
    (other_halt c.args.rules.now c.args.from.now c.args.other.now before c.in_ok-source.source.items c.read_source.new.room c.in_ok-source.ensures.clear c.in_ok-source.ensures.read
    (classes_clear c.args.rules.now c.in_ok-source.source.items c.in_ok-noted.noted.classes.items c.in_ok-noted.ensures.classes c.in_ok-source.ensures.routed c.in_ok-graph.ensures.clear)
    (g.F.Folders.told c.read_source.new.folders) _ _ _ c.in_err-others.field-0.0 c.in_ok-source.ensures.told c.in_ok-source.ensures.counts c.in_err-others.ensures.err)

pub make_images-requires : goal.make_images-requires
make_images-requires g c =
    let same : c.args.rules.now ≡ c.in_ok-graph.graph.rules = sym (ap (λ (x : Graph). x.rules) c.in_ok-graph.ensures.graph) in
    record {
      routed = subst (λ (r : Rules). All (IsRouted r) (map source_of c.in_ok-noted.noted.files.items)) same (subst (All (IsRouted c.args.rules.now)) (sym c.in_ok-noted.ensures.files) c.in_ok-source.ensures.routed);
      noted = subst (λ (r : Rules). All (IsNoted r) c.in_ok-noted.noted.files.items) same c.in_ok-noted.ensures.noted;
    }

pub returns-in_err-made-clause-err : goal.returns-in_err-made-clause-err
returns-in_err-made-clause-err g c =
    let before = g.F.Folders.told c.args.folders.now in
    let p = err_from_is_err_and c.from_residual-in_err-made.result c.from_residual-in_err-made.ensures.1 in
    rw (p.1, p.2)
    (image_halt c.args.rules.now c.args.from.now c.args.other.now before c.in_ok-source.source.items c.read_source.new.room c.in_ok-source.ensures.clear c.in_ok-source.ensures.read
    (classes_clear c.args.rules.now c.in_ok-source.source.items c.in_ok-noted.noted.classes.items c.in_ok-noted.ensures.classes c.in_ok-source.ensures.routed c.in_ok-graph.ensures.clear)
    c.in_ok-source.ensures.routed c.in_ok-graph.graph
    (graph_built c.args.rules.now c.in_ok-source.source.items c.in_ok-noted.noted.classes.items c.in_ok-noted.ensures.classes c.in_ok-graph.graph c.in_ok-graph.ensures.graph)
    (moved _ (g.F.Folders.told c.read_source.new.folders) before c.in_ok-source.ensures.told c.in_ok-others.ensures.clear) _ _ c.in_err-made.field-0.0
    (subst (λ (fs : List SourceFile). HaltsMaking (image_answer (image_in c.args.rules.now c.in_ok-graph.graph.defined) (files_of fs)) c.in_err-made.field-0.0) c.in_ok-noted.ensures.files
    (subst (λ (r : Rules). HaltsMaking (image_answer (image_in r c.in_ok-graph.graph.defined) (files_of (map source_of c.in_ok-noted.noted.files.items))) c.in_err-made.field-0.0) (ap (λ (x : Graph). x.rules) c.in_ok-graph.ensures.graph) c.in_err-made.ensures.err)))

pub returns-clause-ok : goal.returns-clause-ok
returns-clause-ok g c =
    let before = g.F.Folders.told c.args.folders.now in
    answered c.args.rules.now c.args.from.now c.args.other.now before c.in_ok-source.source.items c.read_source.new.room c.in_ok-source.ensures.clear c.in_ok-source.ensures.read
    (classes_clear c.args.rules.now c.in_ok-source.source.items c.in_ok-noted.noted.classes.items c.in_ok-noted.ensures.classes c.in_ok-source.ensures.routed c.in_ok-graph.ensures.clear)
    c.in_ok-source.ensures.routed c.in_ok-graph.graph
    (graph_built c.args.rules.now c.in_ok-source.source.items c.in_ok-noted.noted.classes.items c.in_ok-noted.ensures.classes c.in_ok-graph.graph c.in_ok-graph.ensures.graph)
    (moved _ (g.F.Folders.told c.read_source.new.folders) before c.in_ok-source.ensures.told c.in_ok-others.ensures.clear) c.in_ok-others.others.items c.in_ok-made.made (c.in_ok-comparison_of.field-0.text, c.in_ok-comparison_of.field-0.status)
    (moved _ (g.F.Folders.told c.read_source.new.folders) before c.in_ok-source.ensures.told c.in_ok-others.ensures.read)
    (subst (λ (fs : List SourceFile). MadeBy c.args.rules.now c.in_ok-graph.graph.defined (files_of fs) c.in_ok-made.made) c.in_ok-noted.ensures.files
    (subst (λ (r : Rules). MadeBy r c.in_ok-graph.graph.defined (files_of (map source_of c.in_ok-noted.noted.files.items)) c.in_ok-made.made) (ap (λ (x : Graph). x.rules) c.in_ok-graph.ensures.graph) c.in_ok-made.ensures.ok)) (search rules)
