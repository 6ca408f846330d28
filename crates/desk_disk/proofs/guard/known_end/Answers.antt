use Rattle.std.proofs.Common.{◌≡◌, ◌<◌, ◌+◌, rules, inr, length, subst, take}
use Rattle.desk_disk.proofs.Ways.{shared_above, shared_way}
use Rattle.desk_disk.proofs.guard.known_end.Goals as goal

pub returns-then-shared-found : goal.returns-then-shared-found
returns-then-shared-found c = λ end lt at.
    let all : c.loop-shared.shared ≡ length c.args.found.now = search rules in
    shared_way c.args.found.now c.args.path.now end (subst (λ n. take n c.args.found.now ≡ take n c.args.path.now) all c.loop-shared.invariant.front) (subst (λ n. end < n + 1) all lt) at

pub returns-else-shared-found : goal.returns-else-shared-found
returns-else-shared-found c = λ end lt at. inr (shared_above c.args.found.now c.args.path.now c.loop-shared.shared end c.loop-shared.invariant.front lt at)
