use Rattle.std.proofs.Common.{◌≡◌, ◌<◌, ◌≤◌, length, get_or, sym, subst, arith}
use Rattle.std.specs.Option.{option_copied}
use Rattle.std.proofs.lemmas.List.{get_or_read}
use Rattle.desk_base.specs.Entries.{utf8_at, text_at}
use Rattle.desk_format.specs.Split.{kept, wanted}
use Rattle.desk_new_pool.specs.Wants.{wants_of}
use Rattle.desk_new_pool.specs.Keeps.{Keeps}
use Rattle.desk_new_pool.specs.declared.keeps.Keep.{Keep}
use Rattle.desk_new_pool.specs.declared.keeps.Keep.TheVariants.{Unused}
use Rattle.desk_new_pool.proofs.Texts.{each_push, texts_are, kept_at_index, text_in_range}
use Rattle.desk_new_pool.proofs.keeps.kept_texts.Goals as goal

pub all_keeps-requires : goal.all_keeps-requires
all_keeps-requires g c = λ k d lt.
    let named = (c.requires.wants k d lt).names in
    let le : (get_or c.args.wants.now k d).used.index ≤ length (g.P.PoolView.pool c.args.view.now) = text_in_range (g.P.PoolView.pool c.args.view.now) _ named.0 named.1 in
    omega (arith, c.requires.count)

pub loop-index-preserved : goal.loop-index-preserved
loop-index-preserved g c =
    let pool = g.P.PoolView.pool c.args.view.now in
    let ws = wants_of pool c.args.wants.now in
    let within : c.loop-index.index < length c.in_ok-keeps.keeps.items = omega (arith, c.in_ok-keeps.ensures.count) in
    let read : c.index.result.now ≡ get_or c.in_ok-keeps.keeps.items c.loop-index.index Unused = get_or_read c.in_ok-keeps.keeps.items _ _ within c.index.ensures Unused in
    let known : Keeps (text_at pool c.loop-index.index) (wanted c.loop-index.index ws) c.index.result.now =
    subst (λ (s : Keep). Keeps (text_at pool c.loop-index.index) (wanted c.loop-index.index ws) s) (sym read) (c.in_ok-keeps.ensures.each pool c.requires.wants c.loop-index.index (omega arith)) in
    let here : option_copied c.kept_text.result ≡ utf8_at (kept ws 1 pool) c.loop-index.index = kept_at_index ws pool c.loop-index.index _ c.index.result.now _ c.utf8-2.ensures known c.kept_text.ensures in
    record {
      count = omega (arith, c.in_ok-push.ensures.len);
      each = λ i lt. rw c.in_ok-push.ensures.items (each_push (utf8_at (kept ws 1 pool)) c.loop-index.texts.items c.kept_text.result c.loop-index.index (omega arith) c.loop-index.invariant.each here i lt);
    }

pub returns : goal.returns
returns g c = texts_are (wants_of (g.P.PoolView.pool c.args.view.now) c.args.wants.now) (g.P.PoolView.pool c.args.view.now) c.loop-index.texts.items c.args.count c.requires.count (omega arith) (λ i lt. c.loop-index.invariant.each i (omega arith))
