use Rattle.std.proofs.Common.{◌∙◌}
use Rattle.std.proofs.lemmas.Result.{err_from_is_err_and}
use Rattle.desk_format.specs.Attributes.{attributes_of}
use Rattle.desk_format.specs.Walk.{walk_at}
use Rattle.desk_format.proofs.Walks.{row_walks, stops}
use Rattle.desk_class.specs.Scan.{head_layout, member_place}
use Rattle.desk_class.proofs.members.walk_member.Goals as goal

pub returns-clause-walks : goal.returns-clause-walks
returns-clause-walks c =
    let attributes = rw c.place_of.ensures at c.in_ok-walk_attributes.ensures.walks in
    row_walks c.args.pool.now.entries (head_layout c.args.method) (attributes_of (member_place c.args.method)) (walk_at c.args.uses.now.items c.args.cursor.now) (walk_at c.walk_head.new.uses.items c.walk_head.new.cursor) c.in_ok-member.ensures.walks ∙ attributes

pub returns-in_err-walk_attributes-clause-walks : goal.returns-in_err-walk_attributes-clause-walks
returns-in_err-walk_attributes-clause-walks c =
    let attributes = rw c.place_of.ensures at c.in_err-walk_attributes.ensures.walks in
    let p = err_from_is_err_and c.from_residual-in_err-walk_attributes.result c.from_residual-in_err-walk_attributes.ensures.1 in
    rw (p.1, p.2)
    (stops _ _ _ c.walk_attributes.new.visit.items attributes
    (λ f h. row_walks c.args.pool.now.entries (head_layout c.args.method) (attributes_of (member_place c.args.method)) (walk_at c.args.uses.now.items c.args.cursor.now) (walk_at c.walk_head.new.uses.items c.walk_head.new.cursor) c.in_ok-member.ensures.walks ∙ h))
