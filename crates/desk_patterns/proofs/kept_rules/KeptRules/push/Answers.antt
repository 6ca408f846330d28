use Rattle.std.proofs.Common.{◌≡◌, ℕ, ◌++◌, ◌∷◌, [], List, length, Result, Ok, Err, OnErr, ap, ◌∙◌, arith}
use Rattle.desk_base.specs.Names.{Text}
use Rattle.desk_patterns.specs.Seen.{KeptRule}
use Rattle.desk_patterns.specs.Parts.{kept_seen}
use Rattle.desk_patterns.proofs.Parts.{kept_same, parts_stay, kept_added, parts_added, new_part, with_texts}
use Rattle.desk_patterns.proofs.kept_rules.KeptRules.push.Goals as goal

on_err : {T E : Type 0} (r : Result T E) (P : Type 0) → P → OnErr r P
on_err (Ok x) P p = tt
on_err (Err e) P p = p

pub returns-in_err-extend_from_slice-2-clause-err : goal.returns-in_err-extend_from_slice-2-clause-err
returns-in_err-extend_from_slice-2-clause-err c =
    let texts = c.self.inside.texts.items in
    let parts = c.self.inside.parts.items in
    on_err _ _ (ap (λ (t : Text). kept_seen t parts) (c.in_err-extend_from_slice-2.ensures.items ∙ c.in_ok-extend_from_slice.ensures.items)
    ∙ kept_same texts c.args.source.now parts c.self.invariant ∙ c.self.view_is)

pub returns-in_err-push-clause-err : goal.returns-in_err-push-clause-err
returns-in_err-push-clause-err c =
    let texts = c.self.inside.texts.items in
    let parts = c.self.inside.parts.items in
    on_err _ _ (ap (kept_seen c.extend_from_slice-2.new.self.items) c.in_err-push.ensures.items
    ∙ ap (λ (t : Text). kept_seen t parts) (c.in_ok-extend_from_slice-2.ensures.items ∙ ap (λ (t : Text). t ++ c.args.target.now) c.in_ok-extend_from_slice.ensures.items)
    ∙ kept_same (texts ++ c.args.source.now) c.args.target.now parts (parts_stay texts c.args.source.now parts c.self.invariant)
    ∙ kept_same texts c.args.source.now parts c.self.invariant ∙ c.self.view_is)

pub invariant_of-self-2 : goal.invariant_of-self-2
invariant_of-self-2 c =
    let texts = c.self.inside.texts.items in
    let parts = c.self.inside.parts.items in
    let start : c.len.result ≡ length texts = omega (arith, c.len.ensures, c.self.inside.texts.ok.0) in
    let is : c.in-Some.part ≡ new_part (length texts) (length c.args.source.now) (length c.args.target.now) c.args.shorter = c.in-Some.ensures ∙ ap (λ (n : ℕ). new_part n (length c.args.source.now) (length c.args.target.now) c.args.shorter) start in
    parts_added texts c.args.source.now c.args.target.now c.extend_from_slice-2.new.self.items parts c.push.new.self.items c.args.shorter c.in-Some.part c.self.invariant is
    (c.in_ok-extend_from_slice-2.ensures.items ∙ ap (λ (t : Text). t ++ c.args.target.now) c.in_ok-extend_from_slice.ensures.items)
    c.in_ok-push.ensures.items

pub returns-clause-ok : goal.returns-clause-ok
returns-clause-ok c =
    let texts = c.self.inside.texts.items in
    let parts = c.self.inside.parts.items in
    let start : c.len.result ≡ length texts = omega (arith, c.len.ensures, c.self.inside.texts.ok.0) in
    let is : c.in-Some.part ≡ new_part (length texts) (length c.args.source.now) (length c.args.target.now) c.args.shorter = c.in-Some.ensures ∙ ap (λ (n : ℕ). new_part n (length c.args.source.now) (length c.args.target.now) c.args.shorter) start in
    kept_added texts c.args.source.now c.args.target.now c.extend_from_slice-2.new.self.items parts c.push.new.self.items c.args.shorter c.in-Some.part c.self.invariant is
    (c.in_ok-extend_from_slice-2.ensures.items ∙ ap (λ (t : Text). t ++ c.args.target.now) c.in_ok-extend_from_slice.ensures.items)
    c.in_ok-push.ensures.items
    ∙ ap (λ (rules : List KeptRule). rules ++ with_texts c.args.shorter c.args.source.now c.args.target.now ∷ []) c.self.view_is
