use Rattle.std.proofs.Common.{◌≡◌, Bool, true, false, cond, not, ◌&&◌, Option, Some, None, is_some, refl, sym, ap, ◌∙◌}
use Rattle.desk_base.specs.declared.faults.FaultKind.{FaultKind}
use Rattle.desk_base.specs.declared.faults.FaultKind.TheVariants as faults
use Rattle.desk_base.specs.Entries.{tag_at}
use Rattle.desk_base.specs.Misfits.{form_fault}
use Rattle.desk_base.specs.Referents.{fits, form_of, has_form, text_led_to}
use Rattle.desk_pool.specs.Seen.{seen}
use Rattle.desk_pool.proofs.fitting.index_fits.Goals as goal

both_hold : (a b first second : Bool) (k l : FaultKind) → is_some (cond {A = Option FaultKind} a None (Some k)) ≡ not first → first ≡ true → is_some (cond {A = Option FaultKind} b None (Some l)) ≡ not second → second ≡ (a && b)
both_hold true true first true k l p q r = refl
both_hold true true first false k l p q r = let no : false ≡ true = r in absurd cc
both_hold true false first true k l p q r = let no : true ≡ false = r in absurd cc
both_hold true false first false k l p q r = refl
both_hold false b true second k l p q r = let no : true ≡ false = p in absurd cc
both_hold false b false second k l p q r = absurd cc

pub returns-then-is_none : goal.returns-then-is_none
returns-then-is_none c =
    let pool = seen c.args.slots.now in
    both_hold (fits c.args.referent (tag_at pool c.args.index)) (has_form (form_of c.args.referent) (text_led_to c.args.referent pool c.args.index)) c.is_none.result _
    faults.Index (form_fault (form_of c.args.referent)) (sym (ap is_some c.wrong_entry.ensures) ∙ c.is_none.ensures) c.if-is_none.true (sym (ap is_some c.wrong_text.ensures) ∙ c.is_none-then-is_none.ensures)
