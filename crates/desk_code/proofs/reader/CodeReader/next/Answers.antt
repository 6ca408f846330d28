use Rattle.std.proofs.Common.{List, ℕ, ◌+◌, sym, ap, ◌∙◌}
use Rattle.std.proofs.lemmas.Result.{err_from_is_err_and}
use Rattle.desk_code.specs.Instructions.{instructions_from, next_of, behind_next}
use Rattle.desk_code.proofs.OneByOne.{at_end, at_fault, at_step}
use Rattle.desk_code.proofs.reader.CodeReader.next.Goals as goal

pub returns-in-None-clause-answer : goal.returns-in-None-clause-answer
returns-in-None-clause-answer c = sym (ap next_of (sym c.self.view_is ∙ at_end _ _ _ c.in-None.ensures.cases))

pub returns-in-None-clause-behind : goal.returns-in-None-clause-behind
returns-in-None-clause-behind c = let e = sym c.self.view_is ∙ at_end _ _ _ c.in-None.ensures.cases in e ∙ sym (ap behind_next e)

pub returns-in_err-instruction-in-Some-clause-answer : goal.returns-in_err-instruction-in-Some-clause-answer
returns-in_err-instruction-in-Some-clause-answer c =
    let p = err_from_is_err_and c.from_residual.result c.from_residual.ensures.1 in
    rw (p.1, p.2) (sym (ap next_of (sym c.self.view_is ∙ at_fault _ _ _ _ _ _ c.in-Some.ensures.cases.0 (sym c.in_err-instruction-in-Some.ensures.value))))

pub returns-in_err-instruction-in-Some-clause-behind : goal.returns-in_err-instruction-in-Some-clause-behind
returns-in_err-instruction-in-Some-clause-behind c =
    let e = sym c.self.view_is ∙ at_fault _ _ _ _ _ _ c.in-Some.ensures.cases.0 (sym c.in_err-instruction-in-Some.ensures.value) in e ∙ sym (ap behind_next e)

pub returns-in_ok-instruction-in-Some-clause-answer : goal.returns-in_ok-instruction-in-Some-clause-answer
returns-in_ok-instruction-in-Some-clause-answer c =
    let h = c.in_ok-instruction-in-Some.ensures in
    sym (ap next_of (sym c.self.view_is ∙ at_step _ _ _ _ _ _ c.in-Some.ensures.cases.0 (sym h.value) h.some h.size))

pub returns-in_ok-instruction-in-Some-clause-behind : goal.returns-in_ok-instruction-in-Some-clause-behind
returns-in_ok-instruction-in-Some-clause-behind c =
    let h = c.in_ok-instruction-in-Some.ensures in
    let e = sym c.self.view_is ∙ at_step _ _ _ _ _ _ c.in-Some.ensures.cases.0 (sym h.value) h.some h.size in
    ap (λ (t : List ℕ). instructions_from c.self.inside.pool.now.entries (c.self.inside.at + c.in_ok-instruction-in-Some.instruction.size) 0 t) c.split_at.ensures.back ∙ sym (ap behind_next e)
