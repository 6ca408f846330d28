use Rattle.std.proofs.Common.{◌++◌, ◌∙◌, ap, ap₂}
use Rattle.std.proofs.lemmas.List.{take_rest}
use Rattle.desk_base.specs.Names.{Text}
use Rattle.desk_clauses.proofs.Between.{trimmed_in, parts_are, three_parts}
use Rattle.desk_clauses.proofs.blanks.append_between_blanks.Goals as goal

pub split_at-requires : goal.split_at-requires
split_at-requires c = trimmed_in c.args.text.now _ _ c.trim_trailing_blanks-trimmed.ensures

pub returns : goal.returns
returns c =
    let text = c.args.text.now in
    let lead = c.count_leading_blanks-leading.result in
    let at = parts_are text _ c.trim_trailing_blanks-trimmed.result.now lead c.count_leading_blanks-leading.ensures.count (take_rest text lead) c.trim_trailing_blanks-trimmed.ensures in
    three_parts c.args.out.now _ c.args.inner.now _ c.append.new.self c.append-2.new.self c.append-3.new.self c.args.out.now c.in_ok-append.ensures.ok c.in_ok-append-2.ensures.ok
    (c.in_ok-append-3.ensures.ok ∙ ap (λ (t : Text). c.append-2.new.self ++ t) c.split_at.ensures.back)
    ∙ ap₂ (λ (x y : Text). c.args.out.now ++ (x ++ (c.args.inner.now ++ y))) at.0 at.1
