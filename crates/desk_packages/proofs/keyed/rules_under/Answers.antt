use Rattle.std.proofs.Common.{◌≡◌, ◌-◌, ◌∙◌, ap, length, take, drop, subst, arith}
use Rattle.std.proofs.lemmas.List.{take_all, length-drop}
use Rattle.desk_packages.specs.Keys.{IsLeading}
use Rattle.desk_packages.proofs.Ranges.{range_is}
use Rattle.desk_packages.proofs.keyed.rules_under.Goals as goal

pub returns : goal.returns
returns g c =
    let n = c.count_before.result in
    let xs = c.args.rules.now in
    let rest : take (length xs - n) (drop n xs) ≡ drop n xs = take_all (length xs - n) (drop n xs) (omega (arith, length-drop n xs)) in
    ap (take c.count_leading.result) rest
    ∙ range_is g.R.Keyed.key_of xs c.requires c.args.start.now n c.count_leading.result c.count_before.ensures
    (subst (λ ys. IsLeading g.R.Keyed.key_of ys c.args.start.now c.count_leading.result) rest c.count_leading.ensures)
