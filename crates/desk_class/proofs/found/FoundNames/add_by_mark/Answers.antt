use Rattle.std.proofs.Common.{not, sym, ap, ap₂, ◌∙◌, ◌∷◌, [], ℕ, List, arith}
use Rattle.std.specs.BTreeSet.{contains}
use denote.Ref.{Bor}
use Rattle.desk_base.specs.Names.{Text}
use Rattle.desk_class.specs.Found.{texts, is_told}
use Rattle.desk_class.specs.Marks.{mark, marked_cmp}
use Rattle.desk_class.specs.Held.{found_all}
use Rattle.desk_class.proofs.Told.{first_there, first_told, first_added, behind_there, behind_told, behind_added}
use Rattle.desk_class.proofs.found.FoundNames.add_by_mark.Goals as goal

pub returns-then-is_told-clause-ok : goal.returns-then-is_told-clause-ok
returns-then-is_told-clause-ok c =
    sym c.self.view_is
    ∙ first_there 32 c.self.inside.names.items c.self.inside.marks.items c.self.inside.behind c.args.name c.mark-mark.result (c.mark-mark.ensures ∙ ap mark c.new-marked.ensures) c.self.invariant (ap₂ (λ (ms : List ℕ) (ns : List (Bor (List ℕ))). is_told ms (texts ns) c.mark-mark.result c.args.name.now) (sym c.as_slice.ensures.value) (sym c.as_slice-2.ensures.value) ∙ sym c.is_told.ensures ∙ c.if-is_told.true)
    ∙ ap (λ (ns : List Text). found_all ns (c.args.name.now ∷ [])) c.self.view_is

pub invariant_of-self-in-Continue-branch-3 : goal.invariant_of-self-in-Continue-branch-3
invariant_of-self-in-Continue-branch-3 c =
    first_told 32 c.self.inside.names.items c.self.inside.marks.items c.self.inside.behind c.args.name c.mark-mark.result (c.mark-mark.ensures ∙ ap mark c.new-marked.ensures) c.self.invariant c.push.new.self.items c.reserve.new.self.items c.push-then-len-lt-FEW.new.self.items
    (omega (arith, c.len.ensures, c.self.inside.marks.ok.0, c.if-len-lt-FEW.true)) c.in_ok-reserve.ensures.items c.in_ok-push-2.ensures.items c.in_ok-push.ensures.items

pub invariant_of-self-in-Continue-branch-5 : goal.invariant_of-self-in-Continue-branch-5
invariant_of-self-in-Continue-branch-5 c =
    behind_told 32 c.self.inside.names.items c.self.inside.marks.items c.self.inside.behind c.args.name c.mark-mark.result (c.mark-mark.ensures ∙ ap mark c.new-marked.ensures) c.self.invariant c.insert.new.self c.reserve.new.self.items c.push-then-branch.new.self.items
    (omega (arith, c.len.ensures, c.self.inside.marks.ok.0, c.if-len-lt-FEW.false)) c.in_ok-reserve.ensures.items c.in_ok-push-3.ensures.items (rw (← c.new-marked.ensures) c.in_ok-insert.ensures.updates)

pub returns-in_ok-push-2-clause-ok : goal.returns-in_ok-push-2-clause-ok
returns-in_ok-push-2-clause-ok c =
    first_added 32 c.self.inside.names.items c.self.inside.marks.items c.self.inside.behind c.args.name c.mark-mark.result (c.mark-mark.ensures ∙ ap mark c.new-marked.ensures) c.self.invariant c.reserve.new.self.items c.push-then-len-lt-FEW.new.self.items
    (omega (arith, c.len.ensures, c.self.inside.marks.ok.0, c.if-len-lt-FEW.true)) c.in_ok-reserve.ensures.items c.in_ok-push-2.ensures.items (ap₂ (λ (ms : List ℕ) (ns : List (Bor (List ℕ))). is_told ms (texts ns) c.mark-mark.result c.args.name.now) (sym c.as_slice.ensures.value) (sym c.as_slice-2.ensures.value) ∙ sym c.is_told.ensures ∙ c.if-is_told.false)
    ∙ ap (λ (ns : List Text). found_all ns (c.args.name.now ∷ [])) c.self.view_is

pub returns-in_ok-push-3-clause-ok : goal.returns-in_ok-push-3-clause-ok
returns-in_ok-push-3-clause-ok c =
    behind_added 32 c.self.inside.names.items c.self.inside.marks.items c.self.inside.behind c.args.name c.mark-mark.result (c.mark-mark.ensures ∙ ap mark c.new-marked.ensures) c.self.invariant c.reserve.new.self.items c.push-then-branch.new.self.items
    c.in_ok-reserve.ensures.items c.in_ok-push-3.ensures.items (ap₂ (λ (ms : List ℕ) (ns : List (Bor (List ℕ))). is_told ms (texts ns) c.mark-mark.result c.args.name.now) (sym c.as_slice.ensures.value) (sym c.as_slice-2.ensures.value) ∙ sym c.is_told.ensures ∙ c.if-is_told.false) (sym c.if-branch.true ∙ c.in_ok-insert.ensures.added ∙ ap (λ (t : Text). not (contains marked_cmp c.self.inside.behind t)) c.new-marked.ensures)
    ∙ ap (λ (ns : List Text). found_all ns (c.args.name.now ∷ [])) c.self.view_is

pub returns-else-branch-clause-ok : goal.returns-else-branch-clause-ok
returns-else-branch-clause-ok c =
    ap texts c.in_ok-reserve.ensures.items
    ∙ behind_there 32 c.self.inside.names.items c.self.inside.marks.items c.self.inside.behind c.args.name c.mark-mark.result (c.mark-mark.ensures ∙ ap mark c.new-marked.ensures) c.self.invariant (ap₂ (λ (ms : List ℕ) (ns : List (Bor (List ℕ))). is_told ms (texts ns) c.mark-mark.result c.args.name.now) (sym c.as_slice.ensures.value) (sym c.as_slice-2.ensures.value) ∙ sym c.is_told.ensures ∙ c.if-is_told.false) (sym c.if-branch.false ∙ c.in_ok-insert.ensures.added ∙ ap (λ (t : Text). not (contains marked_cmp c.self.inside.behind t)) c.new-marked.ensures)
    ∙ ap (λ (ns : List Text). found_all ns (c.args.name.now ∷ [])) c.self.view_is
