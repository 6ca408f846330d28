use Rattle.std.proofs.Common.{List, [], Some, ap, sym, ◌∙◌, arith}
use Rattle.std.proofs.lemmas.List.{get_or_default}
use Rattle.desk_base.specs.Names.{Text}
use Rattle.desk_patterns.specs.Patterns.{fits}
use Rattle.desk_patterns.specs.TextRules.{TextRule}
use Rattle.desk_patterns.proofs.Choices.{texts_more, texts_found, texts_none, place_there}
use Rattle.desk_patterns.proofs.pattern_texts.rules_of.Goals as goal

pub offset_bounds-files-entry : goal.offset_bounds-files-entry
offset_bounds-files-entry c = omega (arith, place_there c.args.files.now c.args.patterns.now c.loop-entry.entry-index c.entry-item.result c.requires c.loop-entry-test.true c.entry-item.is)

pub bounds-files-entry : goal.bounds-files-entry
bounds-files-entry c = place_there c.args.files.now c.args.patterns.now c.loop-entry.entry-index c.entry-item.result c.requires c.loop-entry-test.true c.entry-item.is

pub loop-entry-preserved : goal.loop-entry-preserved
loop-entry-preserved c = texts_more c.args.files.now c.args.patterns.now c.args.path.now c.loop-entry.entry-index c.entry-item.result c.loop-entry-test.true c.entry-item.is (ap (λ (t : Text). fits t c.args.path.now) (sym c.as_bytes.ensures) ∙ sym c.fits.ensures ∙ c.if-fits.false) c.loop-entry.invariant

pub returns-then-fits : goal.returns-then-fits
returns-then-fits c =
    let files = c.args.files.now in
    let place = place_there files c.args.patterns.now c.loop-entry.entry-index c.entry-item.result c.requires c.loop-entry-test.true c.entry-item.is in
    ap (λ (rules : List TextRule). Some rules) (c.index-files-entry.is ∙ get_or_default files c.entry-item.result.file c.index-files-entry.result [] place)
    ∙ texts_found files c.args.patterns.now c.args.path.now c.loop-entry.entry-index c.entry-item.result c.loop-entry-test.true c.entry-item.is (ap (λ (t : Text). fits t c.args.path.now) (sym c.as_bytes.ensures) ∙ sym c.fits.ensures ∙ c.if-fits.true) c.loop-entry.invariant

pub returns : goal.returns
returns c = texts_none c.args.files.now c.args.patterns.now c.args.path.now c.loop-entry.entry-index c.loop-entry-test.false c.loop-entry.invariant
