use Rattle.std.proofs.Common.{◌∙◌, ◌+◌, [], ap, sym, subst, arith}
use Rattle.std.proofs.lemmas.Result.{err_from_is_err_and}
use Rattle.desk_patterns.specs.SeenTexts.{texts_seen}
use Rattle.desk_rules.specs.TextFiles.{pattern_text}
use Rattle.desk_rules.specs.declared.texts.LoadedTexts.{LoadedTexts}
use Rattle.desk_rules.proofs.TextTurns.{collect_start, collect_fault, collect_end, item_there}
use Rattle.desk_rules.proofs.LoadedTexts.{IsPlacedTo, placed_more}
use Rattle.desk_rules.proofs.texts.patterns_at.Goals as goal
use Rattle.desk_rules.proofs.texts.patterns_at.Goals.{in-Some+in_ok-pattern+in_ok-push, in_default}

pub loop-i-init : goal.loop-i-init
loop-i-init c =
    subst (IsPlacedTo c.args.files.now c.args.entries.now.entries 0 c.args.loaded.now.places.entries c.args.loaded.now.rules.items) (sym c.new-patterns.ensures.items)
    record {
      turn = collect_start (pattern_text c.args.files.now) c.args.entries.now.entries;
      within = λ k l. absurd (omega arith);
      loaded = c.requires;
    }

pub returns-in_err-pattern-clause-refused : goal.returns-in_err-pattern-clause-refused
returns-in_err-pattern-clause-refused c =
    let p = err_from_is_err_and c.from_residual.result c.from_residual.ensures.1 in
    rw (p.1, p.2)
    (collect_fault (pattern_text c.args.files.now) c.args.entries.now.entries c.loop-i.i (texts_seen c.loop-i.loaded.rules.items c.loop-i.patterns.items) (c.in-Some.key.now, c.in-Some.value.now) c.in_err-pattern.field-0.0 c.loop-i.invariant.turn (sym c.in-Some.ensures.entry)
    (rw (← c.as_bytes.ensures, ← c.as_bytes-in-Some.ensures) c.in_err-pattern.ensures.refused))

pub loop-i-preserved : goal.loop-i-preserved
loop-i-preserved c = elim c.match-get_index.branch [
  | in-Some+in_ok-pattern+in_ok-push w ↦
      subst (λ (l : LoadedTexts). IsPlacedTo c.args.files.now c.args.entries.now.entries (c.loop-i.i + 1) l.places.entries l.rules.items c.match-get_index.patterns.items) (sym w.loaded-is)
      (placed_more c.args.files.now c.args.entries.now.entries c.loop-i.i c.loop-i.loaded.places.entries w.pattern_at.new.loaded.places.entries c.loop-i.loaded.rules.items w.pattern_at.new.loaded.rules.items c.loop-i.patterns.items c.match-get_index.patterns.items w.in-Some.key.now w.in-Some.value.now w.in_ok-pattern.pattern c.loop-i.invariant (sym w.in-Some.ensures.entry)
      (rw (← w.as_bytes.ensures, ← w.as_bytes-in-Some.ensures) w.in_ok-pattern.ensures.read)
      (ap (λ v. v.items) w.patterns-is ∙ w.in_ok-push.ensures.items))
  | in_default w ↦ absurd (item_there (pattern_text c.args.files.now) c.args.entries.now.entries ([], []) c.loop-i.i (sym w.in_default.ensures.entry) (omega (arith, c.len-i-end.ensures.len)))
]

pub returns-clause-read : goal.returns-clause-read
returns-clause-read c = collect_end (pattern_text c.args.files.now) c.args.entries.now.entries c.loop-i.i (texts_seen c.loop-i.loaded.rules.items c.loop-i.patterns.items) c.loop-i.invariant.turn (omega (arith, c.len-i-end.ensures.len))
