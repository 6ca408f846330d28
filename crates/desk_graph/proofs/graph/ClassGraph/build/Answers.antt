use Rattle.std.proofs.Common.{◌≡◌, ◌∙◌, sym, ap, None, option_map}
use Rattle.std.specs.List.{Contains}
use Rattle.desk_base.proofs.Results.{at_some}
use Rattle.desk_rename.specs.Images.{cls}
use Rattle.desk_graph.specs.Application.{name_clash, stranded}
use Rattle.desk_graph.specs.Clashes.{clash_pair}
use Rattle.desk_graph.specs.Strandings.{stranding_pair}
use Rattle.desk_graph.specs.Tables.{IsKnownBy}
use Rattle.desk_graph.specs.declared.clashes.NameClash.{NameClash}
use Rattle.desk_graph.proofs.Building.{built, graph_made, counts_are, graph_is, clash_told, stranding_told, clash_found, stranding_found, known_image}
use Rattle.desk_graph.proofs.Laws.{one_image, none_stranded}
use Rattle.desk_graph.proofs.graph.ClassGraph.build.Goals as goal

pub first_clash-requires : goal.first_clash-requires
first_clash-requires c =
    let b = built (cls c.args.rules.now.renames) c.args.scanned.items c.as_slice-classes.result.now c.in_ok-defined.defined c.in_ok-names.names.items c.as_slice.result.now c.in_ok-known.known.items c.in_ok-nodes.nodes.items (rw c.as_slice-classes.ensures.value c.without_paths-kept.ensures)
    c.in_ok-defined.ensures c.in_ok-names.ensures c.in_ok-known.ensures c.as_slice.ensures.value c.in_ok-nodes.ensures in
    rw (c.as_slice-2.ensures.value, c.as_slice-3.ensures.value) b.table

pub first_stranded-requires : goal.first_stranded-requires
first_stranded-requires c =
    let b = built (cls c.args.rules.now.renames) c.args.scanned.items c.as_slice-classes.result.now c.in_ok-defined.defined c.in_ok-names.names.items c.as_slice.result.now c.in_ok-known.known.items c.in_ok-nodes.nodes.items (rw c.as_slice-classes.ensures.value c.without_paths-kept.ensures)
    c.in_ok-defined.ensures c.in_ok-names.ensures c.in_ok-known.ensures c.as_slice.ensures.value c.in_ok-nodes.ensures in
    rw (c.as_slice-4.ensures.value, c.as_slice-5.ensures.value) b.table

pub returns-in-Some-clause-fault : goal.returns-in-Some-clause-fault
returns-in-Some-clause-fault c =
    let f = cls c.args.rules.now.renames in
    let b = built (cls c.args.rules.now.renames) c.args.scanned.items c.as_slice-classes.result.now c.in_ok-defined.defined c.in_ok-names.names.items c.as_slice.result.now c.in_ok-known.known.items c.in_ok-nodes.nodes.items (rw c.as_slice-classes.ensures.value c.without_paths-kept.ensures)
    c.in_ok-defined.ensures c.in_ok-names.ensures c.in_ok-known.ensures c.as_slice.ensures.value c.in_ok-nodes.ensures in
    let pair = (clash_told f c.args.scanned.items c.in_ok-known.known.items c.as_slice-2.result.now c.in_ok-nodes.nodes.items c.as_slice-3.result.now c.in_ok-clash.field-0 b c.as_slice-2.ensures.value c.as_slice-3.ensures.value c.in_ok-clash.ensures.pair) in
    let by : IsKnownBy f c.as_slice-2.result.now = rw c.as_slice-2.ensures.value b.images in
    let there = at_some (λ (k : NameClash). Contains c.as_slice-2.result.now k.defined.now) c.in_ok-clash.field-0 c.in-Some.clash c.in-Some.is c.in_ok-clash.ensures.known in
    clash_found f c.args.scanned.items c.in_ok-clash.field-0 c.in-Some.clash c.in_ok-from_bytes.field-0 c.in_ok-from_bytes-2.field-0 c.in_ok-from_bytes-3.field-0 c.in-Some.is pair
    (known_image f c.as_slice-2.result.now c.in-Some.clash.defined.now by there)
    (c.in_ok-from_bytes.ensures ∙ c.name.ensures) (c.in_ok-from_bytes-2.ensures ∙ c.name-in-Some.ensures) (c.in_ok-from_bytes-3.ensures ∙ c.image.ensures)

pub returns-in-Some-first_stranded-clause-fault : goal.returns-in-Some-first_stranded-clause-fault
returns-in-Some-first_stranded-clause-fault c =
    let f = cls c.args.rules.now.renames in
    let b = built (cls c.args.rules.now.renames) c.args.scanned.items c.as_slice-classes.result.now c.in_ok-defined.defined c.in_ok-names.names.items c.as_slice.result.now c.in_ok-known.known.items c.in_ok-nodes.nodes.items (rw c.as_slice-classes.ensures.value c.without_paths-kept.ensures)
    c.in_ok-defined.ensures c.in_ok-names.ensures c.in_ok-known.ensures c.as_slice.ensures.value c.in_ok-nodes.ensures in
    stranding_found f c.args.scanned.items c.first_stranded.result c.in-Some-first_stranded.one c.in_ok-from_bytes-4.field-0 c.in_ok-from_bytes-5.field-0 c.in-Some-first_stranded.is
    (stranding_told f c.args.scanned.items c.as_slice-classes.result.now c.in_ok-known.known.items c.as_slice-4.result.now c.in_ok-nodes.nodes.items c.as_slice-5.result.now c.first_stranded.result b (rw c.as_slice-classes.ensures.value c.without_paths-kept.ensures) c.as_slice-4.ensures.value c.as_slice-5.ensures.value c.first_stranded.ensures)
    (sym (clash_told f c.args.scanned.items c.in_ok-known.known.items c.as_slice-2.result.now c.in_ok-nodes.nodes.items c.as_slice-3.result.now c.in_ok-clash.field-0 b c.as_slice-2.ensures.value c.as_slice-3.ensures.value c.in_ok-clash.ensures.pair) ∙ ap (option_map clash_pair) c.in_default.is)
    (c.in_ok-from_bytes-4.ensures ∙ c.as_bytes.ensures) c.in_ok-from_bytes-5.ensures

pub invariant_of-result : goal.invariant_of-result
invariant_of-result c =
    let b = built (cls c.args.rules.now.renames) c.args.scanned.items c.as_slice-classes.result.now c.in_ok-defined.defined c.in_ok-names.names.items c.as_slice.result.now c.in_ok-known.known.items c.in_ok-nodes.nodes.items (rw c.as_slice-classes.ensures.value c.without_paths-kept.ensures)
    c.in_ok-defined.ensures c.in_ok-names.ensures c.in_ok-known.ensures c.as_slice.ensures.value c.in_ok-nodes.ensures in
    graph_made c.args.rules.now.renames c.args.scanned.items c.in_ok-known.known.items c.in_ok-nodes.nodes.items b c.requires

pub returns-clause-graph : goal.returns-clause-graph
returns-clause-graph c =
    let b = built (cls c.args.rules.now.renames) c.args.scanned.items c.as_slice-classes.result.now c.in_ok-defined.defined c.in_ok-names.names.items c.as_slice.result.now c.in_ok-known.known.items c.in_ok-nodes.nodes.items (rw c.as_slice-classes.ensures.value c.without_paths-kept.ensures)
    c.in_ok-defined.ensures c.in_ok-names.ensures c.in_ok-known.ensures c.as_slice.ensures.value c.in_ok-nodes.ensures in
    graph_is c.args.rules.now c.args.scanned.items c.in_ok-known.known.items c.in_ok-nodes.nodes.items c.in_ok-counts.counts.items b
    (counts_are c.args.scanned.items c.as_slice-classes.result.now c.in_ok-defined.defined c.in_ok-counts.counts.items (rw c.as_slice-classes.ensures.value c.without_paths-kept.ensures) c.in_ok-defined.ensures c.in_ok-counts.ensures)

no_clash_found : (c : goal.After-drop-kept-2) → name_clash (cls c.args.rules.now.renames) c.args.scanned.items ≡ None
no_clash_found c =
    let f = cls c.args.rules.now.renames in
    let b = built (cls c.args.rules.now.renames) c.args.scanned.items c.as_slice-classes.result.now c.in_ok-defined.defined c.in_ok-names.names.items c.as_slice.result.now c.in_ok-known.known.items c.in_ok-nodes.nodes.items (rw c.as_slice-classes.ensures.value c.without_paths-kept.ensures)
    c.in_ok-defined.ensures c.in_ok-names.ensures c.in_ok-known.ensures c.as_slice.ensures.value c.in_ok-nodes.ensures in
    sym (clash_told f c.args.scanned.items c.in_ok-known.known.items c.as_slice-2.result.now c.in_ok-nodes.nodes.items c.as_slice-3.result.now c.in_ok-clash.field-0 b c.as_slice-2.ensures.value c.as_slice-3.ensures.value c.in_ok-clash.ensures.pair) ∙ ap (option_map clash_pair) c.in_default.is

no_stranding_found : (c : goal.After-drop-kept-2) → stranded (cls c.args.rules.now.renames) c.args.scanned.items ≡ None
no_stranding_found c =
    let f = cls c.args.rules.now.renames in
    let b = built (cls c.args.rules.now.renames) c.args.scanned.items c.as_slice-classes.result.now c.in_ok-defined.defined c.in_ok-names.names.items c.as_slice.result.now c.in_ok-known.known.items c.in_ok-nodes.nodes.items (rw c.as_slice-classes.ensures.value c.without_paths-kept.ensures)
    c.in_ok-defined.ensures c.in_ok-names.ensures c.in_ok-known.ensures c.as_slice.ensures.value c.in_ok-nodes.ensures in
    sym (stranding_told f c.args.scanned.items c.as_slice-classes.result.now c.in_ok-known.known.items c.as_slice-4.result.now c.in_ok-nodes.nodes.items c.as_slice-5.result.now c.first_stranded.result b (rw c.as_slice-classes.ensures.value c.without_paths-kept.ensures) c.as_slice-4.ensures.value c.as_slice-5.ensures.value c.first_stranded.ensures) ∙ ap (option_map stranding_pair) c.in_default-first_stranded.is

pub returns-clause-no_clash : goal.returns-clause-no_clash
returns-clause-no_clash c = no_clash_found c

pub returns-clause-none_stranded : goal.returns-clause-none_stranded
returns-clause-none_stranded c = no_stranding_found c

pub returns-clause-one_image : goal.returns-clause-one_image
returns-clause-one_image c = one_image (cls c.args.rules.now.renames) c.args.scanned.items (no_clash_found c)

pub returns-clause-stays : goal.returns-clause-stays
returns-clause-stays c = none_stranded (cls c.args.rules.now.renames) c.args.scanned.items (no_stranding_found c)
