use Rattle.std.proofs.Common.{◌≡◌, ◌+◌, ◌-◌, ℕ, length, take, drop, subst, arith}
use Rattle.std.proofs.lemmas.List.{length-drop, length-take}
use Rattle.desk_patterns.specs.FirstBytes.{NoneFirst}
use Rattle.desk_patterns.proofs.FirstBytes.{rest_first}
use Rattle.desk_patterns.proofs.first_bytes.FirstBytes.next_in.Goals as goal

pub returns-in-None : goal.returns-in-None
returns-in-None c =
    let text = c.args.text.now in
    let rest = take (length text - c.args.from) (drop c.args.from text) in
    let all : c.args.from + length rest ≡ length text = omega (arith, c.requires, length-take (length text - c.args.from) (drop c.args.from text), length-drop c.args.from text) in
    record {
      low = c.requires;
      high = omega arith;
      before = subst (λ (n : ℕ). NoneFirst c.args.self.now text c.args.from n) all (rest_first c.args.self.now text c.args.from (length rest) c.in-None.ensures);
    }

pub returns-in-Some : goal.returns-in-Some
returns-in-Some c =
    let text = c.args.text.now in
    record {
      low = omega arith;
      high = omega (arith, c.requires, c.in-Some.ensures.0, length-take (length text - c.args.from) (drop c.args.from text), length-drop c.args.from text);
      before = rest_first c.args.self.now text c.args.from c.in-Some.at c.in-Some.ensures.1;
    }
