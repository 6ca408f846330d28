use Rattle.std.proofs.Common.{◌≡◌, ◌+◌, ◌≤◌, suc, List, length, get_or, sym, ap, ◌∙◌, subst, arith}
use Rattle.std.proofs.lemmas.List.{take_all}
use Rattle.std.proofs.lemmas.List.Elements.{All-nil}
use Rattle.desk_base.specs.declared.kinds.Role.TheVariants.{Class}
use Rattle.desk_base.specs.declared.kinds.Used.{Used}
use Rattle.desk_follow.specs.RuleImages.{images_of}
use Rattle.desk_rewrite.specs.Tables.{Table, Key, FindsAt, Finds, IsNumberedTable, HasImages}
use Rattle.desk_rewrite.proofs.Tables.{FindsSeen, HasBefore, begins_numbered, begins_seen, has_more, seen_more, finds_use, own_use, none_of}
use Rattle.desk_rewrite.proofs.table.all_images.Goals as goal
use Rattle.desk_rewrite.proofs.table.all_images.Goals.{in-Some+then-not-is_seen+in_ok-add_image, in-Some+else-not-is_seen, in_default}

abbrev default : Used
default = record { at = 0; index = 0; role = Class }

pub loop-used-init : goal.loop-used-init
loop-used-init g c =
    let im = images_of c.args.rules.now in
    let none : length c.in_ok-table.table.images.items ≡ 0 = ap length c.in_ok-table.ensures.images in
    record {
      few = omega arith;
      rows = omega (arith, c.in_ok-table.ensures.rows, c.count.ensures);
      numbers = begins_numbered c.in_ok-table.table c.in_ok-table.ensures.unseen;
      seen = begins_seen im c.args.pool.now.entries c.in_ok-table.table c.in_ok-table.ensures.unseen;
      has = All-nil (λ (u : Used). Finds im c.args.pool.now.entries c.in_ok-table.table u.role u.index);
    }

pub add_image-requires-clause-room : goal.add_image-requires-clause-room
add_image-requires-clause-room g c = omega (arith, c.requires.indices c.loop-used.used-index default c.loop-used-test.true, c.loop-used.invariant.rows)

pub loop-used-preserved : goal.loop-used-preserved
loop-used-preserved g c =
    let im = images_of c.args.rules.now in
    let pool = c.args.pool.now.entries in
    let i = c.loop-used.used-index in
    let us = c.args.uses.now in
    let u : Used = get_or us i default in
    elim c.match-text_role_of.branch [
      | in-Some+then-not-is_seen+in_ok-add_image w ↦
          let key : Key = (u.index, w.in-Some.text_role) in
          let new : Table = w.add_image.new.table in
          record {
            few = subst (λ (t : Table). length t.images.items ≤ i + 1) (sym w.table-is) (omega (arith, w.in_ok-add_image.ensures.few, c.loop-used.invariant.few));
            rows = subst (λ (t : Table). length t.rows.items ≡ suc (length pool)) (sym w.table-is) (w.in_ok-add_image.ensures.rows ∙ c.loop-used.invariant.rows);
            numbers = subst IsNumberedTable (sym w.table-is) w.in_ok-add_image.ensures.numbers;
            seen = subst (FindsSeen im pool) (sym w.table-is) (seen_more im pool c.loop-used.table new key w.in_ok-add_image.ensures.seen w.in_ok-add_image.ensures.keeps w.in_ok-add_image.ensures.finds c.loop-used.invariant.seen);
            has = subst (λ (t : Table). HasBefore im pool t us (i + 1)) (sym w.table-is)
                (has_more im pool c.loop-used.table new us i default c.loop-used-test.true w.in_ok-add_image.ensures.keeps
                (finds_use im pool new u.role u.index w.in-Some.text_role (sym c.text_role_of.ensures ∙ w.in-Some.is) w.in_ok-add_image.ensures.finds) c.loop-used.invariant.has);
          }
      | in-Some+else-not-is_seen w ↦
          let key : Key = (u.index, w.in-Some.text_role) in
          let here : FindsAt im pool c.loop-used.table key = c.loop-used.invariant.seen key (sym w.is_seen.ensures ∙ w.if-not-is_seen.false) in
          record {
            few = subst (λ (t : Table). length t.images.items ≤ i + 1) (sym w.table-is) (omega (arith, c.loop-used.invariant.few));
            rows = subst (λ (t : Table). length t.rows.items ≡ suc (length pool)) (sym w.table-is) c.loop-used.invariant.rows;
            numbers = subst IsNumberedTable (sym w.table-is) c.loop-used.invariant.numbers;
            seen = subst (FindsSeen im pool) (sym w.table-is) c.loop-used.invariant.seen;
            has = subst (λ (t : Table). HasBefore im pool t us (i + 1)) (sym w.table-is)
                (has_more im pool c.loop-used.table c.loop-used.table us i default c.loop-used-test.true (λ q h. h)
                (finds_use im pool c.loop-used.table u.role u.index w.in-Some.text_role (sym c.text_role_of.ensures ∙ w.in-Some.is) here) c.loop-used.invariant.has);
          }
      | in_default w ↦ record {
        few = subst (λ (t : Table). length t.images.items ≤ i + 1) (sym w.table-is) (omega (arith, c.loop-used.invariant.few));
        rows = subst (λ (t : Table). length t.rows.items ≡ suc (length pool)) (sym w.table-is) c.loop-used.invariant.rows;
        numbers = subst IsNumberedTable (sym w.table-is) c.loop-used.invariant.numbers;
        seen = subst (FindsSeen im pool) (sym w.table-is) c.loop-used.invariant.seen;
        has = subst (λ (t : Table). HasBefore im pool t us (i + 1)) (sym w.table-is)
            (has_more im pool c.loop-used.table c.loop-used.table us i default c.loop-used-test.true (λ q h. h)
            (own_use im pool c.loop-used.table u.role u.index (sym c.text_role_of.ensures ∙ none_of c.text_role_of.result w.in_default.not-Some)) c.loop-used.invariant.has);
      }
    ]

pub returns : goal.returns
returns g c =
    subst (λ (us : List Used). HasImages (images_of c.args.rules.now) c.args.pool.now.entries us c.loop-used.table) (take_all c.loop-used.used-index c.args.uses.now (omega arith)) c.loop-used.invariant.has
