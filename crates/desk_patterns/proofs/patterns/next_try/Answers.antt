use Rattle.std.proofs.lemmas.Bool.{eq-eqb, ne_eqb}
use Rattle.desk_patterns.proofs.Trying.{IsMissed, try_star, try_byte, miss_end, miss_byte, no_retry, try_again}
use Rattle.desk_patterns.proofs.patterns.next_try.Goals as goal
use Rattle.desk_patterns.proofs.patterns.next_try.Goals.{then-at-pattern+else-byte-eq42+else-byte-path, else-at-pattern}

pub returns-then-byte-eq42-clause-next : goal.returns-then-byte-eq42-clause-next
returns-then-byte-eq42-clause-next c = try_star c.args.pattern.now c.args.path.now c.args.at c.requires.tried c.requires.goes_on c.if-at-pattern.true (eq-eqb _ 42 c.if-byte-eq42.true)

pub returns-then-byte-path-clause-next : goal.returns-then-byte-path-clause-next
returns-then-byte-path-clause-next c = try_byte c.args.pattern.now c.args.path.now c.args.at c.requires.tried c.requires.goes_on c.if-at-pattern.true (ne_eqb _ 42 c.if-byte-eq42.false) c.if-byte-path.true

pub returns-in-None-clause-next : goal.returns-in-None-clause-next
returns-in-None-clause-next c =
    let missed : IsMissed c.args.pattern.now c.args.path.now c.args.at = elim c.if-at-pattern.branch [
      | then-at-pattern+else-byte-eq42+else-byte-path w ↦ miss_byte c.args.pattern.now c.args.path.now c.args.at c.requires.goes_on w.if-at-pattern.true (ne_eqb _ 42 w.if-byte-eq42.false) w.if-byte-path.false
      | else-at-pattern w ↦ miss_end c.args.pattern.now c.args.path.now c.args.at c.requires.goes_on w.if-at-pattern.false
    ] in
    no_retry c.args.pattern.now c.args.path.now c.args.at c.requires.tried missed c.in-None.is

pub returns-in-Some-clause-next : goal.returns-in-Some-clause-next
returns-in-Some-clause-next c =
    let missed : IsMissed c.args.pattern.now c.args.path.now c.args.at = elim c.if-at-pattern.branch [
      | then-at-pattern+else-byte-eq42+else-byte-path w ↦ miss_byte c.args.pattern.now c.args.path.now c.args.at c.requires.goes_on w.if-at-pattern.true (ne_eqb _ 42 w.if-byte-eq42.false) w.if-byte-path.false
      | else-at-pattern w ↦ miss_end c.args.pattern.now c.args.path.now c.args.at c.requires.goes_on w.if-at-pattern.false
    ] in
    try_again c.args.pattern.now c.args.path.now c.args.at c.in-Some.last c.requires.tried c.requires.goes_on missed c.in-Some.is
