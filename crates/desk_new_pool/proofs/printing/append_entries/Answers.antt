use Rattle.std.proofs.Common.{◌≡◌, ℕ, suc, List, ◌∷◌, ◌++◌, ◌+◌, ◌<◌, ◌≤◌, ◌^◌, ◌-◌, length, take, drop, get_or, ap, sym, ◌∙◌, refl, subst, arith, None}
use Rattle.std.specs.Option.{option_copied}
use Rattle.std.proofs.lemmas.List.{length-drop}
use Rattle.desk_base.specs.Names.{Text}
use Rattle.desk_base.specs.Entries.{Pool, entry_at, text_at}
use Rattle.desk_format.specs.PoolBytes.{print_entry, print_slots}
use Rattle.desk_new_pool.specs.Printing.{named_texts, all_named, renewed, renewed_bytes}
use Rattle.desk_new_pool.proofs.Finish.{own_text}
use Rattle.desk_new_pool.proofs.Printed.{Found, found, no_entry, short_at, left_past, written_some, written_none, enough_some, enough_none, Cut, cut}
use Rattle.desk_new_pool.proofs.printing.append_entries.Goals as goal

pub loop-index-preserved-in_default : goal.loop-index-preserved-in_default
loop-index-preserved-in_default g c =
    let pool : Pool = g.P.PoolView.pool c.args.view.now in
    let none : entry_at pool c.loop-index.index ≡ None = no_entry pool c.loop-index.index (sym c.tag.ensures ∙ c.in_default.is) in
    let small : c.loop-index.index < suc (length pool) = omega (arith, c.requires.count) in
    record {
      written = written_none c.args.texts.now c.loop-index.later.now pool c.loop-index.index c.loop-index.out _ c.loop-index-test.true c.requires.count none c.loop-index.invariant.written;
      bytes = (c.loop-index.invariant.bytes.0, left_past pool c.loop-index.index c.loop-index.left.now c.loop-index.invariant.bytes.0 small none c.loop-index.invariant.bytes.1);
      enough = enough_none pool c.loop-index.index (length c.loop-index.later.now) small none c.loop-index.invariant.enough;
    }

pub entry_size-requires : goal.entry_size-requires
entry_size-requires g c =
    let pool : Pool = g.P.PoolView.pool c.args.view.now in
    let own : text_at pool c.loop-index.index ≡ c.unwrap_or-own.result.now = own_text pool c.loop-index.index c.utf8-2.result _ c.unwrap_or-own.result refl c.utf8-2.ensures c.unwrap_or-own.ensures in
    subst (λ (t : Text). length t < 2 ^ 16) own (short_at pool c.loop-index.index c.requires.shaped)

pub split_at-requires : goal.split_at-requires
split_at-requires g c =
    let pool : Pool = g.P.PoolView.pool c.args.view.now in
    let f : Found pool c.loop-index.index c.in-Some.tag = found pool c.loop-index.index c.in-Some.tag (sym c.in-Some.is ∙ c.tag.ensures) in
    let cuts : Cut pool c.loop-index.index c.in-Some.tag f c.loop-index.left.now c.loop-index.invariant.bytes.0 c.entry_size.result =
    cut pool c.loop-index.index c.in-Some.tag f c.loop-index.left.now c.loop-index.invariant.bytes.0 c.unwrap_or-own.result.now c.entry_size.result (omega (arith, c.requires.count)) c.requires.shaped
    (own_text pool c.loop-index.index c.utf8-2.result _ c.unwrap_or-own.result refl c.utf8-2.ensures c.unwrap_or-own.ensures) c.loop-index.invariant.bytes.1 c.entry_size.ensures in
    cuts.within

pub split_at-requires-in-loop-index : goal.split_at-requires-in-loop-index
split_at-requires-in-loop-index g c =
    let pool : Pool = g.P.PoolView.pool c.args.view.now in
    let f : Found pool c.loop-index.index c.in-Some.tag = found pool c.loop-index.index c.in-Some.tag (sym c.in-Some.is ∙ c.tag.ensures) in
    let room = enough_some pool c.loop-index.index (length c.loop-index.later.now) c.in-Some.tag f (omega (arith, c.requires.count)) c.loop-index.invariant.enough in
    omega (arith, room, c.named_texts.ensures)

pub loop-index-preserved : goal.loop-index-preserved
loop-index-preserved g c =
    let pool : Pool = g.P.PoolView.pool c.args.view.now in
    let f : Found pool c.loop-index.index c.in-Some.tag = found pool c.loop-index.index c.in-Some.tag (sym c.in-Some.is ∙ c.tag.ensures) in
    let cuts : Cut pool c.loop-index.index c.in-Some.tag f c.loop-index.left.now c.loop-index.invariant.bytes.0 c.entry_size.result =
    cut pool c.loop-index.index c.in-Some.tag f c.loop-index.left.now c.loop-index.invariant.bytes.0 c.unwrap_or-own.result.now c.entry_size.result (omega (arith, c.requires.count)) c.requires.shaped
    (own_text pool c.loop-index.index c.utf8-2.result _ c.unwrap_or-own.result refl c.utf8-2.ensures c.unwrap_or-own.ensures) c.loop-index.invariant.bytes.1 c.entry_size.ensures in
    let small : c.loop-index.index < suc (length pool) = omega (arith, c.requires.count) in
    let room : named_texts c.in-Some.tag + all_named (drop (c.loop-index.index + 1) (None ∷ pool)) ≤ length c.loop-index.later.now = enough_some pool c.loop-index.index (length c.loop-index.later.now) c.in-Some.tag f small c.loop-index.invariant.enough in
    let entry : c.split_at.result.0.now ≡ print_entry f.entry = c.split_at.ensures.front ∙ cuts.front in
    let behind : c.split_at.result.1.now ≡ print_slots (drop (c.loop-index.index + 1) (None ∷ pool)) ++ c.loop-index.invariant.bytes.0 = c.split_at.ensures.back ∙ cuts.back in
    let named : c.split_at-in-loop-index.result.0.now ≡ take (named_texts c.in-Some.tag) c.loop-index.later.now = c.split_at-in-loop-index.ensures.front ∙ ap (λ (n : ℕ). take n c.loop-index.later.now) c.named_texts.ensures in
    let further : c.split_at-in-loop-index.result.1.now ≡ drop (named_texts c.in-Some.tag) c.loop-index.later.now = c.split_at-in-loop-index.ensures.back ∙ ap (λ (n : ℕ). drop n c.loop-index.later.now) c.named_texts.ensures in
    let new : c.append_entry.new.out ≡ c.loop-index.out ++ renewed_bytes c.split_at.result.0.now (option_copied (get_or c.args.texts.now c.loop-index.index None)) (take (named_texts c.in-Some.tag) c.loop-index.later.now) =
    c.in_ok-append_entry.ensures ∙ ap (λ (ns : List ℕ). c.loop-index.out ++ renewed_bytes c.split_at.result.0.now (option_copied (get_or c.args.texts.now c.loop-index.index None)) ns) named in
    let size : length (drop (named_texts c.in-Some.tag) c.loop-index.later.now) ≡ length c.loop-index.later.now - named_texts c.in-Some.tag = length-drop (named_texts c.in-Some.tag) c.loop-index.later.now in
    record {
      written = ap (λ (ns : List ℕ). c.append_entry.new.out ++ print_slots (renewed (drop (c.loop-index.index + 1) c.args.texts.now) ns (drop (c.loop-index.index + 1) (None ∷ pool)))) further
          ∙ written_some c.args.texts.now c.loop-index.later.now pool c.loop-index.index c.in-Some.tag f c.split_at.result.0.now c.loop-index.out c.append_entry.new.out _ c.loop-index-test.true c.requires.count c.requires.texts (omega (arith, room)) entry new c.loop-index.invariant.written;
      bytes = (c.loop-index.invariant.bytes.0, behind);
      enough = let same : length c.split_at-in-loop-index.result.1.now ≡ length c.loop-index.later.now - named_texts c.in-Some.tag = ap length further ∙ size in omega (arith, room, same);
    }
