use Rattle.std.proofs.Common.{◌≡◌, ◌≤◌, ◌++◌, false, ℕ, List, length, take, drop, ap, ap₂, sym, ◌∙◌, subst, arith}
use Rattle.desk_base.specs.declared.kinds.Used.{Used}
use Rattle.desk_format.specs.Classes.{Class, class_uses, entries_at}
use Rattle.desk_format.specs.PoolBytes.{print_slots, pool_uses}
use Rattle.desk_format.specs.Classes.{list_in, uses_in}
use Rattle.desk_class.specs.Parts.{pool_in, body_at_of, body_at_in}
use Rattle.desk_laws.specs.Sound.{IsShaped}
use Rattle.desk_rewrite.proofs.Parts.{IsKnown, known, body_uses, stands_same}
use Rattle.desk_rewrite.proofs.Printed.{printed}
use Rattle.desk_rewrite.proofs.printing.new_bytes.Goals as goal

pub split_at-requires-3 : goal.split_at-requires-3
split_at-requires-3 c =
    let k : IsKnown c.args.view.now = known c.args.view.now c.bytes_of-bytes.ensures.each c.bytes_of-bytes.ensures.sound in
    let e : length c.bytes_of-bytes.result.now ≡ length c.args.view.now = ap length c.bytes_of-bytes.ensures.bytes in
    omega (arith, k.long)

pub split_at-requires-4 : goal.split_at-requires-4
split_at-requires-4 c =
    let k : IsKnown c.args.view.now = known c.args.view.now c.bytes_of-bytes.ensures.each c.bytes_of-bytes.ensures.sound in
    let e : length c.bytes_of-bytes.result.now ≡ length c.args.view.now = ap length c.bytes_of-bytes.ensures.bytes in
    omega (arith, k.long)

pub split_at-requires-5 : goal.split_at-requires-5
split_at-requires-5 c =
    let k : IsKnown c.args.view.now = known c.args.view.now c.bytes_of-bytes.ensures.each c.bytes_of-bytes.ensures.sound in
    let e : length c.bytes_of-bytes.result.now ≡ length c.args.view.now = ap length c.bytes_of-bytes.ensures.bytes in
    let w : body_at_in c.args.view.now ≤ length c.args.view.now = k.within in
    let a : c.body_at.result ≡ body_at_in c.args.view.now = c.body_at.ensures in
    omega arith

pub append_pool-requires-clause-shaped : goal.append_pool-requires-clause-shaped
append_pool-requires-clause-shaped c =
    let k : IsKnown c.args.view.now = known c.args.view.now c.bytes_of-bytes.ensures.each c.bytes_of-bytes.ensures.sound in
    subst (IsShaped false) (sym c.pool-pool.ensures.entries) k.shaped

pub append_pool-requires-clause-bytes : goal.append_pool-requires-clause-bytes
append_pool-requires-clause-bytes c =
    let k : IsKnown c.args.view.now = known c.args.view.now c.bytes_of-bytes.ensures.each c.bytes_of-bytes.ensures.sound in
    (k.entries.0, c.split_at-4.ensures.back ∙ ap (drop 10) c.bytes_of-bytes.ensures.bytes ∙ k.entries.1 ∙ ap (λ q. print_slots q ++ k.entries.0) (sym c.pool-pool.ensures.entries))

pub append_body-requires-clause-stands : goal.append_body-requires-clause-stands
append_body-requires-clause-stands c =
    let k : IsKnown c.args.view.now = known c.args.view.now c.bytes_of-bytes.ensures.each c.bytes_of-bytes.ensures.sound in
    stands_same c.body_at-2.result (body_at_in c.args.view.now) c.split_at-5.result.1.now (drop (body_at_in c.args.view.now) c.args.view.now) c.split_at.result.1.now
    (drop (length (pool_uses entries_at (pool_in c.args.view.now))) (uses_in c.args.view.now)) c.body_at-2.ensures
    (c.split_at-5.ensures.back ∙ ap₂ (λ (n : ℕ) (l : List ℕ). drop n l) c.body_at.ensures c.bytes_of-bytes.ensures.bytes)
    (c.split_at.ensures.back ∙ ap₂ (λ (n : ℕ) (l : List Used). drop n l) (ap length (c.uses-first.ensures ∙ c.pool-pool.ensures.uses)) c.uses.ensures) k.stands

pub returns : goal.returns
returns c = λ im d e h.
    let pool : pool_in c.args.view.now ≡ d.pool = ap (list_in (λ (x : Class). x.pool)) e in
    let us : uses_in c.args.view.now ≡ class_uses d = ap (list_in class_uses) e in
    let at : body_at_in c.args.view.now ≡ d.body_at = ap body_at_of e in
    let first : length c.uses-first.result.now ≡ length (pool_uses entries_at d.pool) = ap length (c.uses-first.ensures ∙ c.pool-pool.ensures.uses ∙ ap (pool_uses entries_at) pool) in
    printed im c.args.view.now d c.args.new.now h c.append.new.self c.append_pool.new.out c.append_body.new.out c.split_at-2.result.1.now c.pool-pool.result.now.entries (length c.uses-first.result.now) c.body_at-2.result c.split_at.result.1.now c.split_at-5.result.1.now
    (c.in_ok-append.ensures.ok ∙ ap (λ (t : List ℕ). t ++ c.split_at-3.result.0.now) c.in_ok-out.ensures ∙ c.split_at-3.ensures.front ∙ ap (take 8) c.bytes_of-bytes.ensures.bytes)
    (c.pool-pool.ensures.entries ∙ pool) c.in_ok-append_pool.ensures (c.body_at-2.ensures ∙ at)
    (c.split_at.ensures.back ∙ ap₂ (λ (n : ℕ) (l : List Used). drop n l) first (c.uses.ensures ∙ us) ∙ body_uses d)
    (c.split_at-5.ensures.back ∙ ap₂ (λ (n : ℕ) (l : List ℕ). drop n l) (c.body_at.ensures ∙ at) c.bytes_of-bytes.ensures.bytes)
    first (c.split_at-2.ensures.back ∙ ap (drop (length c.uses-first.result.now)) c.deref.ensures.value) c.in_ok-append_body.ensures
