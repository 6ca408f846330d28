use Rattle.std.proofs.Common.{rules, ◌≡◌, ◌++◌, ◌-◌, ◌∙◌, ℕ, List, None, true, false, length, sym, ap₂, subst}
use Rattle.desk_base.specs.Names.{Text}
use Rattle.desk_lines.specs.Cuts.{until}
use Rattle.desk_lines.specs.Lines.{Line, lines}
use Rattle.desk_clauses.specs.Edits.{IsEdited}
use Rattle.desk_clauses.specs.declared.edits.Edits.{Edits}
use Rattle.desk_sections.specs.Sections.{is_colon, unfolded}
use Rattle.desk_manifest.specs.Manifests.{bundle_version, fold_end, images_of}
use Rattle.desk_manifest.specs.Reading.{IsHeaderImage}
use Rattle.desk_manifest.proofs.Sought.{empty_by, further_of}
use Rattle.desk_manifest.proofs.Moved.{told_by}
use Rattle.desk_manifest.proofs.Migrating.{IsMigratedTo, AtHeader, items_of, value_in, migrated_none, empty_line, bad_here, all_migrated, header_stays, header_changes}
use Rattle.desk_manifest.proofs.Stays.{manifest_stays}
use Rattle.desk_manifest.proofs.manifests.migrate_manifest.Goals as goal
use Rattle.desk_manifest.proofs.manifests.migrate_manifest.Goals.{in-Some-2+in_ok-exchange, in_default-2}

pub loop-line-init : goal.loop-line-init
loop-line-init c = migrated_none _ _ c.args.text.now c.new-edits.result c.new-edits.ensures.copied c.new-edits.ensures.image

pub loop-line-preserved-then-is_empty : goal.loop-line-preserved-then-is_empty
loop-line-preserved-then-is_empty c =
    empty_line _ _ c.args.text.now c.loop-line.rest.now c.loop-line.edits c.loop-line.changed c.loop-line.main c.loop-line.invariant
    c.in-Some.line.content.now c.in-Some.line.end c.in-Some.more.now c.in-Some.ensures.line c.in-Some.ensures.whole
    (empty_by c.in-Some.line.content.now true (sym c.is_empty.ensures ∙ c.if-is_empty.true))

pub returns-else-is_header_line-clause-refused : goal.returns-else-is_header_line-clause-refused
returns-else-is_header_line-clause-refused c =
    bad_here c.args.rules.now c.args.text.now c.loop-line.rest.now c.loop-line.edits c.loop-line.changed c.loop-line.main c.loop-line.invariant
    c.in-Some.line.content.now c.in-Some.line.end c.in-Some.more.now c.in-Some.ensures.line
    (empty_by c.in-Some.line.content.now false (sym c.is_empty.ensures ∙ c.if-is_empty.false))
    (sym c.is_header_line.ensures ∙ c.if-is_header_line.false)

pub loop-line-preserved : goal.loop-line-preserved
loop-line-preserved c =
    let text = c.args.text.now in
    let rest = c.loop-line.rest.now in
    let content = c.in-Some.line.content.now in
    let more = c.in-Some.more.now in
    let behind = c.skip_continuations-behind.result.rest.now in
    let last = c.skip_continuations-behind.result.end in
    let version = bundle_version c.args.rules.now (items_of text) in
    let image = images_of c.args.rules.now version in
    let fold = fold_end (lines text) in
    let k : AtHeader rest content c.in-Some.line.end more last behind = record {
      same = c.in-Some.ensures.line;
      whole = c.in-Some.ensures.whole;
      is_header = sym c.is_header_line.ensures ∙ c.if-is_header_line.true;
      continued = c.skip_continuations-behind.ensures;
    } in
    let value = value_in content k.continued.further in
    let told = told_by c.args.rules.now c.loop-line.main _ version _ (until is_colon content) _ value _ fold last c.in_ok-new.field-0
    c.in_ok-version.ensures c.cut_header_line.ensures.name
    (ap₂ (λ (x : Text) (f : List Line). x ++ unfolded f) c.cut_header_line.ensures.value (further_of more _ _ _ k.continued).0)
    c.fold_end-between.ensures c.in_ok-new.ensures in
    elim c.match-branch-3.branch [
      | in-Some-2+in_ok-exchange w ↦
          let it = subst (IsHeaderImage c.args.rules.now version c.loop-line.main (until is_colon content) value fold last) w.in-Some-2.is told in
          header_changes image fold text rest c.loop-line.edits c.loop-line.changed c.loop-line.main c.loop-line.invariant content c.in-Some.line.end more last behind k it.1
          c.match-branch-3.edits w.as_bytes.result.now c.match-branch-3.changed
          (subst (λ (new : Edits). IsEdited text c.loop-line.edits new (length text - length rest) (length text - length behind) w.as_bytes.result.now) (sym w.edits-is) w.in_ok-exchange.ensures)
          (w.as_bytes.ensures ∙ it.0) w.changed-is
      | in_default-2 w ↦
          let none : c.in_ok-new.field-0 ≡ None = search rules in
          let same = subst (IsHeaderImage c.args.rules.now version c.loop-line.main (until is_colon content) value fold last) none told in
          subst (λ (e : Edits). IsMigratedTo image fold text behind e c.match-branch-3.changed c.loop-line.main) (sym w.edits-is)
          (subst (λ (n : ℕ). IsMigratedTo image fold text behind c.loop-line.edits n c.loop-line.main) (sym w.changed-is)
          (header_stays image fold text rest c.loop-line.edits c.loop-line.changed c.loop-line.main c.loop-line.invariant content c.in-Some.line.end more last behind k same))
    ]

pub returns-clause-image : goal.returns-clause-image
returns-clause-image c =
    all_migrated c.args.rules.now c.args.text.now c.loop-line.rest.now c.loop-line.edits c.loop-line.changed c.loop-line.main c.loop-line.invariant (search rules)
    c.in_ok-bytes.bytes c.in_ok-bytes.ensures

pub returns-clause-again : goal.returns-clause-again
returns-clause-again c =
    manifest_stays c.args.rules.now c.recall_settled.ensures.settled c.args.text.now _
    (all_migrated c.args.rules.now c.args.text.now c.loop-line.rest.now c.loop-line.edits c.loop-line.changed c.loop-line.main c.loop-line.invariant (search rules)
    c.in_ok-bytes.bytes c.in_ok-bytes.ensures)
