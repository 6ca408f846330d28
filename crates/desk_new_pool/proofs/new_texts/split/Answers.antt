use Rattle.std.proofs.Common.{◌≡◌, ◌≤◌, length, get_or, refl, arith}
use Rattle.desk_base.specs.Entries.{text_at}
use Rattle.desk_format.specs.Split.{kept}
use Rattle.desk_laws.proofs.Slots.{length-kept}
use Rattle.desk_new_pool.specs.Wants.{wants_of}
use Rattle.desk_new_pool.proofs.Texts.{text_in_range}
use Rattle.desk_new_pool.proofs.Finish.{overlong_is, own_text, refusal_is, texts_ok, indices_ok, accepted_ok, refused_err}
use Rattle.desk_new_pool.proofs.new_texts.split.Goals as goal

pub returns-in-Some-clause-refused : goal.returns-in-Some-clause-refused
returns-in-Some-clause-refused g c =
    let own : text_at (g.P.PoolView.pool c.args.view.now) c.in-Some.index ≡ c.unwrap_or-own.result.now = own_text (g.P.PoolView.pool c.args.view.now) c.in-Some.index c.utf8-2.result _ c.unwrap_or-own.result refl c.utf8-2.ensures c.unwrap_or-own.ensures in
    overlong_is (g.P.PoolView.pool c.args.view.now) c.args.wants.now c.in-Some.index c.greatest_length-length.result c.requires.wants (c.in-Some.ensures (g.P.PoolView.pool c.args.view.now) c.requires.wants) (c.greatest_length-length.ensures (g.P.PoolView.pool c.args.view.now) own)

pub new_texts-requires-clause-count : goal.new_texts-requires-clause-count
new_texts-requires-clause-count g c =
    let same : length (kept (wants_of (g.P.PoolView.pool c.args.view.now) c.args.wants.now) 1 (g.P.PoolView.pool c.args.view.now)) ≡ length (g.P.PoolView.pool c.args.view.now) = length-kept _ _ _ in
    omega (arith, c.in_ok-texts.ensures.count, c.requires.count, c.ranges.count)

pub new_texts-requires-clause-indices : goal.new_texts-requires-clause-indices
new_texts-requires-clause-indices g c = λ k d lt.
    let named = (c.requires.wants k d lt).names in
    let le : (get_or c.args.wants.now k d).used.index ≤ length (g.P.PoolView.pool c.args.view.now) = text_in_range (g.P.PoolView.pool c.args.view.now) _ named.0 named.1 in
    let same : length (kept (wants_of (g.P.PoolView.pool c.args.view.now) c.args.wants.now) 1 (g.P.PoolView.pool c.args.view.now)) ≡ length (g.P.PoolView.pool c.args.view.now) = length-kept _ _ _ in
    omega (arith, c.in_ok-texts.ensures.count)

pub returns-clause-texts : goal.returns-clause-texts
returns-clause-texts g c = texts_ok (g.P.PoolView.pool c.args.view.now) c.args.wants.now c.in_ok-texts.texts.items c.new_texts.result c.requires.wants c.in_ok-texts.ensures c.new_texts.ensures.split

pub returns-clause-indices : goal.returns-clause-indices
returns-clause-indices g c = indices_ok (g.P.PoolView.pool c.args.view.now) c.args.wants.now c.in_ok-texts.texts.items c.new_texts.result c.requires.wants c.in_ok-texts.ensures c.new_texts.ensures.split

pub returns-clause-accepted : goal.returns-clause-accepted
returns-clause-accepted g c = accepted_ok _ _ c.new_texts.result (refusal_is (g.P.PoolView.pool c.args.view.now) c.args.wants.now c.in_ok-texts.texts.items c.least_long.result c.requires.wants c.in_ok-texts.ensures c.in_default.not-Some (c.least_long.ensures (g.P.PoolView.pool c.args.view.now) c.requires.wants)) c.new_texts.ensures.room

pub returns-clause-refused : goal.returns-clause-refused
returns-clause-refused g c = refused_err _ _ c.new_texts.result (refusal_is (g.P.PoolView.pool c.args.view.now) c.args.wants.now c.in_ok-texts.texts.items c.least_long.result c.requires.wants c.in_ok-texts.ensures c.in_default.not-Some (c.least_long.ensures (g.P.PoolView.pool c.args.view.now) c.requires.wants)) c.new_texts.ensures.refused
