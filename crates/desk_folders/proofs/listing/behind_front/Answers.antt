use Rattle.std.proofs.Common.{◌∙◌, ap, sym, Some, None, cond, drop, length, arith, ℕ, List, ◌≤◌, ◌-◌, length-drop, take_all}
use Rattle.desk_folders.proofs.FirstPaths.{behind_starts}
use Rattle.desk_folders.proofs.listing.behind_front.Goals as goal

pub returns-then-starts_with : goal.returns-then-starts_with
returns-then-starts_with c =
    let all : length (drop (length c.args.front.now) c.args.text.now) ≤ length c.args.text.now - length c.args.front.now = omega (arith, length-drop (length c.args.front.now) c.args.text.now) in
    ap (λ (t : List ℕ). Some t) (take_all _ (drop (length c.args.front.now) c.args.text.now) all)
    ∙ ap (λ b. cond b (Some (drop (length c.args.front.now) c.args.text.now)) None) (sym c.if-starts_with.true ∙ c.starts_with.ensures.value)
    ∙ sym (behind_starts c.args.front.now c.args.text.now)

pub returns-else-starts_with : goal.returns-else-starts_with
returns-else-starts_with c =
    ap (λ b. cond b (Some (drop (length c.args.front.now) c.args.text.now)) None) (sym c.if-starts_with.false ∙ c.starts_with.ensures.value)
    ∙ sym (behind_starts c.args.front.now c.args.text.now)
