use Rattle.std.proofs.Common.{◌≡◌, ◌+◌, ◌-◌, ◌∙◌, ℕ, take, drop, ap, arith}
use Rattle.desk_packages.proofs.Ranges.{one_at, none_at}
use Rattle.desk_packages.proofs.keyed.rules_at.Goals as goal

pub returns-in-Some : goal.returns-in-Some
returns-in-Some g c =
    let one : (c.in-Some.place + 1) - c.in-Some.place ≡ 1 = omega arith in
    ap (λ (n : ℕ). take n (drop c.in-Some.place c.args.rules.now)) one
    ∙ one_at g.R.Keyed.key_of c.args.rules.now c.args.key.now c.requires c.in-Some.place c.in-Some.ensures

pub returns-in-None : goal.returns-in-None
returns-in-None g c = none_at g.R.Keyed.key_of c.args.rules.now c.args.key.now c.in-None.ensures
