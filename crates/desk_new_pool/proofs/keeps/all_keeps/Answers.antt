use Rattle.std.proofs.Common.{◌≡◌, ◌<◌, List, length, take, get_or, sym, subst, arith}
use Rattle.std.proofs.lemmas.List.{get_or_read, take_all}
use Rattle.desk_base.specs.Entries.{text_at}
use Rattle.desk_format.specs.Split.{wanted}
use Rattle.desk_new_pool.specs.Keeps.{Keeps}
use Rattle.desk_new_pool.specs.Wants.{wants_of}
use Rattle.desk_new_pool.specs.declared.wants.WantedText.{WantedText}
use Rattle.desk_new_pool.specs.declared.keeps.Keep.{Keep}
use Rattle.desk_new_pool.specs.declared.keeps.Keep.TheVariants.{Unused}
use Rattle.desk_new_pool.proofs.Wanted.{held_at, keeps_step}
use Rattle.desk_new_pool.proofs.keeps.all_keeps.Goals as goal

pub loop-place-preserved : goal.loop-place-preserved
loop-place-preserved c =
    let below : c.get-want.result.used.index < c.args.count = held_at (λ (w : WantedText). w.used.index < c.args.count) c.args.wants.now c.loop-place.place c.get-want.result c.get-want.ensures c.requires in
    let within : c.get-want.result.used.index < length c.loop-place.keeps.items = omega (arith, below) in
    let read : c.index.result.now ≡ get_or c.loop-place.keeps.items c.get-want.result.used.index Unused = get_or_read c.loop-place.keeps.items _ _ within c.index.ensures Unused in
    record {
      count = omega arith;
      each = λ pool all i lt. keeps_step pool c.args.wants.now c.loop-place.place c.get-want.result c.loop-place.keeps.items c.after.result c.get-want.ensures within all
          (λ own us d k. c.after.ensures own us d (subst (λ (s : Keep). Keeps own us s) (sym read) k)) i (c.loop-place.invariant.each pool all i lt);
    }

pub returns-clause-each : goal.returns-clause-each
returns-clause-each c = λ pool all i lt.
    let whole : take c.loop-place.place c.args.wants.now ≡ c.args.wants.now = take_all _ _ (omega arith) in
    subst (λ (ws : List WantedText). Keeps (text_at pool i) (wanted i (wants_of pool ws)) (get_or c.loop-place.keeps.items i Unused)) whole (c.loop-place.invariant.each pool all i lt)
