use Rattle.std.proofs.Common.{◌≡◌, ◌≤◌, false, None, map, length, refl, ap, sym, ◌∙◌, subst, All, arith}
use Rattle.std.proofs.lemmas.Result.{err_from_is_err_and}
use Rattle.desk_base.specs.Entries.{Pool}
use Rattle.desk_format.specs.Classes.{Class, class_uses}
use Rattle.desk_format.specs.Members.{members}
use Rattle.desk_format.specs.NewPool.{wants}
use Rattle.desk_format.specs.Classes.{list_in}
use Rattle.desk_laws.specs.Sound.{IsShaped}
use Rattle.desk_new_pool.specs.Refusals.{Refuses, pool_refusal}
use Rattle.desk_new_pool.specs.Wants.{wants_of, IsWanted}
use Rattle.desk_rewrite.specs.Tables.{HasDescriptors}
use Rattle.desk_rewrite.specs.Wanting.{used_in, IsWantedUnder}
use Rattle.desk_rewrite.proofs.Making.{same_refusal, is_new, count_new, limit_new, short_new, twins_are}
use Rattle.desk_rewrite.proofs.Refusing.{split_stands, twins_stand, none_stands, none_or}
use Rattle.desk_rewrite.proofs.Short.{length-split}
use Rattle.desk_rewrite.proofs.Wanting.{wants_named}
use Rattle.desk_rewrite.proofs.rewriting.new_class.Goals as goal

pub split-requires-clause-wants : goal.split-requires-clause-wants
split-requires-clause-wants c = subst (λ (q : Pool). All (IsWanted q) c.args.wants) (sym c.pool-pool.ensures.entries) c.requires.wants

pub returns-in_err-new-clause-refused : goal.returns-in_err-new-clause-refused
returns-in_err-new-clause-refused c =
    let p = err_from_is_err_and c.from_residual.result c.from_residual.ensures.1 in
    rw (p.1, p.2)
    (λ im d e h t. split_stands im d c.in_err-new.field-0.0
    (subst (Refuses c.in_err-new.field-0.0) (same_refusal im d c.args.wants h c.pool-pool.result.now.entries (c.pool-pool.ensures.entries ∙ ap (list_in (λ (x : Class). x.pool)) e)) c.in_err-new.ensures.refused))

pub returns-in-Some-clause-refused : goal.returns-in-Some-clause-refused
returns-in-Some-clause-refused c = λ im d e h t.
    let p : c.pool-pool.result.now.entries ≡ d.pool = c.pool-pool.ensures.entries ∙ ap (list_in (λ (x : Class). x.pool)) e in
    let m : c.members.result.now ≡ members d.body = c.members.ensures ∙ ap (list_in (λ (x : Class). members x.body)) e in
    let none : pool_refusal d.pool (wants im d.pool (class_uses d)) ≡ None = sym (same_refusal im d c.args.wants h c.pool-pool.result.now.entries p) ∙ c.in_ok-new.ensures.accepted in
    let has : HasDescriptors im c.pool-pool.result.now.entries c.args.table.now c.members.result.now
    = subst (λ (q : Pool). HasDescriptors im q c.args.table.now c.members.result.now) (sym p) (subst (HasDescriptors im d.pool c.args.table.now) (sym m) t) in
    twins_stand im d c.in-Some.field-0 none
    (sym c.in-Some.is ∙ twins_are im d c.pool-pool.result.now.entries c.deref.result.now c.in_ok-members.members.items c.in_ok-first.field-0 p c.deref.ensures.value (c.in_ok-members.ensures.members ∙ m) (c.in_ok-members.ensures.numbered im has) c.in_ok-first.ensures)

pub overflow_sub-added : goal.overflow_sub-added
overflow_sub-added c = omega (arith, c.in_ok-new.ensures.texts.count, length-split (wants_of c.pool-pool.result.now.entries c.args.wants) c.pool-pool.result.now.entries)

pub overflow_cast-added-2 : goal.overflow_cast-added-2
overflow_cast-added-2 c =
    let l : length c.in_ok-new.new.texts.items ≤ 65535 = limit_new c.pool-pool.result.now.entries (wants_of c.pool-pool.result.now.entries c.args.wants) c.in_ok-new.new.texts.items c.in_ok-new.ensures.accepted c.in_ok-new.ensures.texts in
    record { fits = omega arith }

pub new_bytes-requires-clause-limit : goal.new_bytes-requires-clause-limit
new_bytes-requires-clause-limit c = limit_new c.pool-pool.result.now.entries (wants_of c.pool-pool.result.now.entries c.args.wants) c.in_ok-new.new.texts.items c.in_ok-new.ensures.accepted c.in_ok-new.ensures.texts

pub new_bytes-requires-clause-short : goal.new_bytes-requires-clause-short
new_bytes-requires-clause-short c =
    short_new c.requires.images.0 c.pool-pool.result.now.entries (map used_in c.args.wants) c.args.wants c.in_ok-new.new.texts.items
    (subst (IsShaped false) (sym c.pool-pool.ensures.entries) c.requires.shaped)
    (wants_named c.pool-pool.result.now.entries c.args.wants (subst (λ (q : Pool). All (IsWanted q) c.args.wants) (sym c.pool-pool.ensures.entries) c.requires.wants)) refl
    (subst (λ (q : Pool). All (IsWantedUnder c.requires.images.0 q) c.args.wants) (sym c.pool-pool.ensures.entries) c.requires.images.1) c.in_ok-new.ensures.accepted c.in_ok-new.ensures.texts

pub returns-clause-bytes : goal.returns-clause-bytes
returns-clause-bytes c = λ im d e h.
    c.in_ok-bytes.ensures im d e
    (is_new im d c.args.wants h c.pool-pool.result.now.entries (c.pool-pool.ensures.entries ∙ ap (list_in (λ (x : Class). x.pool)) e) c.in_ok-new.new c.in_ok-new.ensures.texts c.in_ok-new.ensures.indices)

pub returns-clause-added : goal.returns-clause-added
returns-clause-added c = λ im d e h.
    omega (arith, count_new im d c.args.wants h c.pool-pool.result.now.entries (c.pool-pool.ensures.entries ∙ ap (list_in (λ (x : Class). x.pool)) e) c.in_ok-new.new c.in_ok-new.ensures.texts, c.len.ensures, c.count-count.ensures)

pub returns-clause-accepted : goal.returns-clause-accepted
returns-clause-accepted c = λ im d e h t.
    let p : c.pool-pool.result.now.entries ≡ d.pool = c.pool-pool.ensures.entries ∙ ap (list_in (λ (x : Class). x.pool)) e in
    let m : c.members.result.now ≡ members d.body = c.members.ensures ∙ ap (list_in (λ (x : Class). members x.body)) e in
    let none : pool_refusal d.pool (wants im d.pool (class_uses d)) ≡ None = sym (same_refusal im d c.args.wants h c.pool-pool.result.now.entries p) ∙ c.in_ok-new.ensures.accepted in
    let has : HasDescriptors im c.pool-pool.result.now.entries c.args.table.now c.members.result.now
    = subst (λ (q : Pool). HasDescriptors im q c.args.table.now c.members.result.now) (sym p) (subst (HasDescriptors im d.pool c.args.table.now) (sym m) t) in
    none_stands im d none
    (sym (none_or c.in_ok-first.field-0 c.in_default.not-Some) ∙ twins_are im d c.pool-pool.result.now.entries c.deref.result.now c.in_ok-members.members.items c.in_ok-first.field-0 p c.deref.ensures.value (c.in_ok-members.ensures.members ∙ m) (c.in_ok-members.ensures.numbered im has) c.in_ok-first.ensures)
