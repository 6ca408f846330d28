use Rattle.std.proofs.Common.{◌≡◌, ◌∙◌, [], sym, ap, subst, arith}
use Rattle.std.proofs.lemmas.Result.{err_from_is_err_and}
use Rattle.desk_base.specs.Names.{Text}
use Rattle.desk_properties.specs.Properties.{Entry}
use Rattle.desk_rules.specs.Builds.{IsFaultOf}
use Rattle.desk_rules.specs.TextFiles.{rule_texts}
use Rattle.desk_rules.specs.LoadedTexts.{IsLoaded}
use Rattle.desk_rules.specs.declared.texts.LoadedTexts.{LoadedTexts}
use Rattle.desk_rules.proofs.TextTurns.{checked_more, checked_fault, item_there}
use Rattle.desk_rules.proofs.texts.load.Goals as goal
use Rattle.desk_rules.proofs.texts.load.Goals.{in-Some+in_ok-name+in_ok-place, in_default}

pub returns-in_err-place-clause-refused : goal.returns-in_err-place-clause-refused
returns-in_err-place-clause-refused c =
    let p = err_from_is_err_and c.from_residual-in_err-place.result c.from_residual-in_err-place.ensures.1 in
    let name : c.in_ok-name.name ≡ c.in-Some.name.now = c.in_ok-name.ensures ∙ c.as_bytes.ensures in
    rw (p.1, p.2)
    (checked_fault c.args.files.now c.args.names.now.entries c.loop-i.i (c.in-Some.name.now, c.in-Some.field-0-1.now) c.in_err-place.field-0.0 c.loop-i.invariant.turn (sym c.in-Some.ensures.entry)
    (subst (λ (t : Text). IsFaultOf (rule_texts c.args.files.now t) c.in_err-place.field-0.0) name c.in_err-place.ensures.refused))

pub loop-i-preserved : goal.loop-i-preserved
loop-i-preserved c = elim c.match-get_index.branch [
  | in-Some+in_ok-name+in_ok-place w ↦
      let name : w.in_ok-name.name ≡ w.in-Some.name.now = w.in_ok-name.ensures ∙ w.as_bytes.ensures in
      record {
        turn = checked_more c.args.files.now c.args.names.now.entries c.loop-i.i (w.in-Some.name.now, w.in-Some.field-0-1.now) _ c.loop-i.invariant.turn (sym w.in-Some.ensures.entry)
            (ap (rule_texts c.args.files.now) (sym name) ∙ w.in_ok-place.ensures.read.stands.there);
        loaded = subst (λ (l : LoadedTexts). IsLoaded c.args.files.now l.places.entries l.rules.items) (sym w.loaded-is) w.in_ok-place.ensures.read.loaded;
      }
  | in_default w ↦ absurd (item_there (λ (e : Entry). rule_texts c.args.files.now e.0) c.args.names.now.entries ([], []) c.loop-i.i (sym w.in_default.ensures.entry) (omega (arith, c.len-i-end.ensures.len)))
]
