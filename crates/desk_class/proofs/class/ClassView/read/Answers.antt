use Rattle.desk_base.specs.Spot.{Spot}
use Rattle.std.proofs.Common.{rules, ◌≡◌, ap, sym, ◌∙◌, arith, List}
use Rattle.std.proofs.lemmas.Result.{err_from_is_err_and}
use Rattle.desk_format.specs.declared.members.Member.{Member}
use Rattle.desk_format.specs.Laws.{IsBytes}
use Rattle.desk_format.specs.Members.{first_twins, named_in}
use Rattle.desk_class.specs.Scan.{scan_at}
use Rattle.desk_class.specs.Parts.{version_of}
use Rattle.desk_class.proofs.Pairs.{second_of}
use Rattle.desk_class.proofs.Views.{first_header, first_pool, first_body, first_trailing, first_twin, is_sound, is_read}
use Rattle.desk_class.proofs.class.ClassView.read.Goals as goal

pub returns-in_err-_version-clause-fault : goal.returns-in_err-_version-clause-fault
returns-in_err-_version-clause-fault c =
    let p = err_from_is_err_and c.from_residual.result c.from_residual.ensures.1 in
    rw (p.1, p.2) (first_header c.args.bytes.now c.new-cursor.result _ c.new-cursor.ensures c.in_err-_version.ensures.header)

pub returns-in_err-pool-clause-fault : goal.returns-in_err-pool-clause-fault
returns-in_err-pool-clause-fault c =
    let p = err_from_is_err_and c.from_residual-in_err-pool.result c.from_residual-in_err-pool.ensures.1 in
    rw (p.1, p.2) (first_pool c.args.bytes.now c.new-cursor.result (version_of c.in_ok-_version._version) c.read_header.new.cursor.at c.read_header.new.cursor.left c.new-cursor.ensures c.in_ok-_version.ensures.header _ c.in_err-pool.ensures.pool)

pub returns-in_err-this-clause-fault : goal.returns-in_err-this-clause-fault
returns-in_err-this-clause-fault c =
    let p = err_from_is_err_and c.from_residual-in_err-this.result c.from_residual-in_err-this.ensures.1 in
    rw (p.1, p.2)
    (first_body c.args.bytes.now c.new-cursor.result (version_of c.in_ok-_version._version) c.read_header.new.cursor.at c.read_header.new.cursor.left c.new-cursor.ensures c.in_ok-_version.ensures.header
    c.in_ok-pool.pool c.read.new.cursor.at c.read.new.cursor.left c.in_ok-pool.ensures.pool c.in_ok-uses.uses.items c.new-members.result.items c.new-members.ensures.items _ c.in_err-this.ensures.scans)

pub returns-then-left-gt0-clause-fault : goal.returns-then-left-gt0-clause-fault
returns-then-left-gt0-clause-fault c =
    rw c.at.ensures.value
    (first_trailing c.args.bytes.now c.new-cursor.result (version_of c.in_ok-_version._version) c.read_header.new.cursor.at c.read_header.new.cursor.left c.new-cursor.ensures c.in_ok-_version.ensures.header
    c.in_ok-pool.pool c.read.new.cursor.at c.read.new.cursor.left c.in_ok-pool.ensures.pool c.in_ok-uses.uses.items c.new-members.result.items c.new-members.ensures.items
    (scan_at c.walk_body.new.uses.items c.walk_body.new.members.items c.walk_body.new.cursor) c.in_ok-this.ensures.scans (omega arith))

pub returns-in-Some-clause-fault : goal.returns-in-Some-clause-fault
returns-in-Some-clause-fault c =
    first_twin c.args.bytes.now c.new-cursor.result (version_of c.in_ok-_version._version) c.read_header.new.cursor.at c.read_header.new.cursor.left c.new-cursor.ensures c.in_ok-_version.ensures.header
    c.in_ok-pool.pool c.read.new.cursor.at c.read.new.cursor.left c.in_ok-pool.ensures.pool c.in_ok-uses.uses.items c.new-members.result.items c.new-members.ensures.items
    (scan_at c.walk_body.new.uses.items c.walk_body.new.members.items c.walk_body.new.cursor) c.in_ok-this.ensures.scans (omega arith) c.in-Some.twin
    (sym c.in-Some.is ∙ c.in_ok-twin.ensures ∙ ap (λ (ms : List Member). second_of (first_twins (named_in c.in_ok-pool.pool.entries) ms)) c.deref.ensures.value)

pub returns-clause-sound : goal.returns-clause-sound
returns-clause-sound c =
    let none = sym c.in_default.is ∙ c.in_ok-twin.ensures ∙ ap (λ (ms : List Member). second_of (first_twins (named_in c.in_ok-pool.pool.entries) ms)) c.deref.ensures.value in
    is_sound c.args.bytes.now c.new-cursor.result (version_of c.in_ok-_version._version) c.read_header.new.cursor.at c.read_header.new.cursor.left c.new-cursor.ensures c.in_ok-_version.ensures.header
    c.in_ok-pool.pool c.read.new.cursor.at c.read.new.cursor.left c.in_ok-pool.ensures.pool c.in_ok-uses.uses.items c.new-members.result.items c.new-members.ensures.items
    (scan_at c.walk_body.new.uses.items c.walk_body.new.members.items c.walk_body.new.cursor) c.in_ok-this.ensures.scans (omega arith) none

pub invariant_of-result : goal.invariant_of-result
invariant_of-result c =
    let none = sym c.in_default.is ∙ c.in_ok-twin.ensures ∙ ap (λ (ms : List Member). second_of (first_twins (named_in c.in_ok-pool.pool.entries) ms)) c.deref.ensures.value in
    let eight : c.read_header.new.cursor.at ≡ 8 = omega (arith, ap (λ (s : Spot). s.at) c.new-cursor.ensures, c.in_ok-_version.ensures.moved) in
    let bytes : IsBytes c.args.bytes.now = search rules in
    let copied : c.in_ok-uses.uses.items ≡ c.in_ok-pool.pool.uses = search rules in
    is_read c.args.bytes.now c.new-cursor.result (version_of c.in_ok-_version._version) c.read_header.new.cursor.at c.read_header.new.cursor.left c.new-cursor.ensures c.in_ok-_version.ensures.header
    c.in_ok-pool.pool c.read.new.cursor.at c.read.new.cursor.left c.in_ok-pool.ensures.pool c.in_ok-uses.uses.items c.new-members.result.items c.new-members.ensures.items
    (scan_at c.walk_body.new.uses.items c.walk_body.new.members.items c.walk_body.new.cursor) c.in_ok-this.ensures.scans (omega arith) none
    bytes (omega arith) eight c.in_ok-pool.ensures.uses copied c.at-body_at.result c.at-body_at.ensures.value c.in_ok-this.this c.in_ok-this.ensures.this c.name_of-name.result.now c.name_of-name.ensures
