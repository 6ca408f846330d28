use Rattle.std.proofs.lemmas.Result.{err_from_is_err_and}
use Rattle.desk_class.proofs.Bodies.{interfaces_stop, fields_stop, methods_stop, body_scans, passed, failed}
use Rattle.desk_class.proofs.body.walk_body.Goals as goal

pub returns-in_err-read_interfaces-clause-scans : goal.returns-in_err-read_interfaces-clause-scans
returns-in_err-read_interfaces-clause-scans c =
    let p = err_from_is_err_and c.from_residual-in_err-read_interfaces.result c.from_residual-in_err-read_interfaces.ensures.1 in
    rw (p.1, p.2) (interfaces_stop _ c.args.pool.now.entries c.args.uses.now.items c.args.members.now.items c.args.cursor.now c.read_head.new.cursor
    (c.in_ok-this.ensures.walks c.args.uses.now.items) (c.in_err-read_interfaces.ensures c.args.uses.now.items))

pub returns-in_err-walk_members-clause-scans : goal.returns-in_err-walk_members-clause-scans
returns-in_err-walk_members-clause-scans c =
    let p = err_from_is_err_and c.from_residual-in_err-walk_members.result c.from_residual-in_err-walk_members.ensures.1 in
    rw (p.1, p.2) (fields_stop _ c.args.pool.now.entries c.args.uses.now.items c.args.members.now.items c.args.cursor.now c.read_head.new.cursor c.read_interfaces.new.cursor
    (c.in_ok-this.ensures.walks c.args.uses.now.items) (c.in_ok-read_interfaces.ensures c.args.uses.now.items) c.in_err-walk_members.ensures)

pub returns-in_err-walk_members-2-clause-scans : goal.returns-in_err-walk_members-2-clause-scans
returns-in_err-walk_members-2-clause-scans c =
    let p = err_from_is_err_and c.from_residual-in_err-walk_members-2.result c.from_residual-in_err-walk_members-2.ensures.1 in
    rw (p.1, p.2) (methods_stop _ c.args.pool.now.entries c.args.uses.now.items c.walk_members.new.uses.items c.args.members.now.items c.walk_members.new.members.items c.args.cursor.now c.read_head.new.cursor c.read_interfaces.new.cursor c.walk_members.new.cursor
    (c.in_ok-this.ensures.walks c.args.uses.now.items) (c.in_ok-read_interfaces.ensures c.args.uses.now.items) c.in_ok-walk_members.ensures c.in_err-walk_members-2.ensures)

pub returns-clause-scans : goal.returns-clause-scans
returns-clause-scans c =
    body_scans (passed tt) c.args.pool.now.entries c.args.uses.now.items c.walk_members.new.uses.items c.walk_members-2.new.uses.items c.walk_attributes.new.visit.items
    c.args.members.now.items c.walk_members.new.members.items c.walk_members-2.new.members.items
    c.args.cursor.now c.read_head.new.cursor c.read_interfaces.new.cursor c.walk_members.new.cursor c.walk_members-2.new.cursor c.walk_attributes.new.cursor
    (c.in_ok-this.ensures.walks c.args.uses.now.items) (c.in_ok-read_interfaces.ensures c.args.uses.now.items) c.in_ok-walk_members.ensures c.in_ok-walk_members-2.ensures c.in_ok-walk_attributes.ensures.walks

pub returns-in_err-walk_attributes-clause-scans : goal.returns-in_err-walk_attributes-clause-scans
returns-in_err-walk_attributes-clause-scans c =
    let p = err_from_is_err_and c.from_residual-in_err-walk_attributes.result c.from_residual-in_err-walk_attributes.ensures.1 in
    rw (p.1, p.2) (body_scans (failed _) c.args.pool.now.entries c.args.uses.now.items c.walk_members.new.uses.items c.walk_members-2.new.uses.items c.walk_attributes.new.visit.items
    c.args.members.now.items c.walk_members.new.members.items c.walk_members-2.new.members.items
    c.args.cursor.now c.read_head.new.cursor c.read_interfaces.new.cursor c.walk_members.new.cursor c.walk_members-2.new.cursor c.walk_attributes.new.cursor
    (c.in_ok-this.ensures.walks c.args.uses.now.items) (c.in_ok-read_interfaces.ensures c.args.uses.now.items) c.in_ok-walk_members.ensures c.in_ok-walk_members-2.ensures c.in_err-walk_attributes.ensures.walks)
