use Rattle.std.proofs.Common.{◌≡◌, ◌++◌, ◌∷◌, [], map, sym, ◌∙◌, rules, arith}
use Rattle.std.specs.List.{range_with_len}
use Rattle.std.proofs.lemmas.List.FromFn.{map-range_with_len_more}
use Rattle.desk_gen.specs.Application.{class_at}
use Rattle.desk_gen.proofs.application.classes.Goals as goal

pub loop-number-preserved : goal.loop-number-preserved
loop-number-preserved c =
    let n = c.loop-number.number in
    let more = map-range_with_len_more (class_at c.args.count) 0 n n (omega arith) in
    let pushed : c.push.new.self.items ≡ map (class_at c.args.count) (range_with_len 0 n) ++ class_at c.args.count n ∷ [] = search rules in
    pushed ∙ sym more
