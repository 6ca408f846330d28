use Rattle.std.proofs.Common.{◌≡◌, ℕ, length, List, Option, None, cond, drop, map, ap, ◌∙◌, refl, arith, subst}
use denote.Ref.{Bor}
use Rattle.desk_base.specs.Names.{Text}
use Rattle.desk_base.specs.Misfits.{or_else}
use Rattle.desk_format.specs.Split.{holds}
use Rattle.desk_new_pool.specs.Places.{least, place_in, index_by, not_kept}
use Rattle.desk_new_pool.specs.NewTexts.{Adds}
use Rattle.desk_new_pool.specs.Sought.{sought_among}
use Rattle.desk_new_pool.specs.declared.wants.WantedText.{WantedText}
use Rattle.desk_new_pool.proofs.Missed.{missing_are, counted}
use Rattle.desk_new_pool.proofs.Made.{missing_few, is_full, has_room, some_missing}
use Rattle.desk_new_pool.proofs.new_texts.with_missing.Goals as goal

pub overflow_cast-result-then-count-len-gt-GREATEST_COUNT : goal.overflow_cast-result-then-count-len-gt-GREATEST_COUNT
overflow_cast-result-then-count-len-gt-GREATEST_COUNT c =
    let missing = missing_are c.args.texts.items c.deref.result.now c.deref-2.result.now c.args.wants.now c.in_ok-sought.sought _ (place_in c.in_ok-kept.kept) c.deref.ensures.value c.deref-2.ensures.value c.in_ok-sought.ensures c.in_ok-kept.ensures c.in_ok-missing.ensures in
    let needed = counted c.in_ok-missing.missing.items _ missing in
    omega (arith, missing_few c.args.texts.items c.args.wants.now, c.requires.few)

pub returns-then-count-len-gt-GREATEST_COUNT-clause-refused : goal.returns-then-count-len-gt-GREATEST_COUNT-clause-refused
returns-then-count-len-gt-GREATEST_COUNT-clause-refused c =
    let missing = missing_are c.args.texts.items c.deref.result.now c.deref-2.result.now c.args.wants.now c.in_ok-sought.sought _ (place_in c.in_ok-kept.kept) c.deref.ensures.value c.deref-2.ensures.value c.in_ok-sought.ensures c.in_ok-kept.ensures c.in_ok-missing.ensures in
    let needed = counted c.in_ok-missing.missing.items _ missing in
    is_full c.args.texts.items c.args.wants.now c.len-count.result c.len-then-count-len-gt-GREATEST_COUNT.result (omega arith) (omega arith) (omega arith)

pub returns-clause-split : goal.returns-clause-split
returns-clause-split c =
    let missing = missing_are c.args.texts.items c.deref.result.now c.deref-2.result.now c.args.wants.now c.in_ok-sought.sought _ (place_in c.in_ok-kept.kept) c.deref.ensures.value c.deref-2.ensures.value c.in_ok-sought.ensures c.in_ok-kept.ensures c.in_ok-missing.ensures in
    let sought : c.in_ok-sought.sought ≡ sought_among c.args.texts.items c.args.wants.now = c.in_ok-sought.ensures ∙ ap (λ (l : List (Option (Bor Text))). sought_among l c.args.wants.now) c.deref.ensures.value in
    let kept : (t : Text) → place_in c.in_ok-kept.kept t ≡ cond (holds c.in_ok-sought.sought t) (least 0 c.args.texts.items t) None =
    λ t. c.in_ok-kept.ensures t ∙ ap (λ (l : List (Option (Bor Text))). cond (holds c.in_ok-sought.sought t) (least 0 l t) None) c.deref-2.ensures.value in
    let added : (t : Text) → place_in c.in_ok-added.added t ≡ cond (holds c.in_ok-sought.sought t) (least (length c.args.texts.items) (drop (length c.args.texts.items) c.add_texts.new.texts.items) t) None = λ t.
    let n : c.len-count.result ≡ length c.args.texts.items = omega arith in
    c.in_ok-added.ensures t
    ∙ ap (λ (l : List (Option (Bor Text))). cond (holds c.in_ok-sought.sought t) (least c.len-count.result l t) None) (c.split_at.ensures.back ∙ ap (drop c.len-count.result) c.deref-4.ensures.value)
    ∙ ap (λ (m : ℕ). cond (holds c.in_ok-sought.sought t) (least m (drop m c.add_texts.new.texts.items) t) None) n in
    let adds : Adds c.args.texts.items (map (λ t. t.now) c.in_ok-missing.missing.items) c.add_texts.new.texts.items = subst (λ (l : List (Bor Text)). Adds c.args.texts.items (map (λ t. t.now) l) c.add_texts.new.texts.items) c.deref-3.ensures.value c.in_ok-add_texts.ensures in
    some_missing c.args.texts.items c.add_texts.new.texts.items c.args.wants.now _ c.in_ok-kept.kept c.in_ok-added.added c.in_ok-sought.sought (map (λ t. t.now) c.in_ok-missing.missing.items) c.requires.indices sought missing adds kept added refl
    (subst (λ (l : List (Option (Bor Text))). c.in_ok-indices.indices.items ≡ map (λ (w : WantedText). index_by (λ t. or_else (place_in c.in_ok-kept.kept t) (place_in c.in_ok-added.added t)) w.used.index (not_kept l w)) c.args.wants.now) c.deref-5.ensures.value c.in_ok-indices.ensures)

pub returns-clause-room : goal.returns-clause-room
returns-clause-room c =
    let missing = missing_are c.args.texts.items c.deref.result.now c.deref-2.result.now c.args.wants.now c.in_ok-sought.sought _ (place_in c.in_ok-kept.kept) c.deref.ensures.value c.deref-2.ensures.value c.in_ok-sought.ensures c.in_ok-kept.ensures c.in_ok-missing.ensures in
    let needed = counted c.in_ok-missing.missing.items _ missing in
    has_room c.args.texts.items c.args.wants.now c.len-count.result c.len.result (omega arith) (omega arith) (omega arith)
