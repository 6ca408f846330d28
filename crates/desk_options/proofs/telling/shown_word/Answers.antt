use Rattle.std.proofs.Common.{◌≡◌, ◌++◌, ◌∙◌, ap, get_or, rules, sym}
use Rattle.desk_base.specs.Shown.{shown_byte}
use Rattle.desk_base.proofs.Lists.{texts_more}
use Rattle.desk_options.proofs.telling.shown_word.Goals as goal

pub loop-byte-preserved : goal.loop-byte-preserved
loop-byte-preserved c =
    let last = shown_byte (get_or c.args.word.now c.loop-byte.byte-index 0) in
    let pushed : c.append.new.self ≡ c.loop-byte.shown ++ last = search rules in
    pushed ∙ ap (λ t. t ++ last) c.loop-byte.invariant ∙ sym (texts_more shown_byte c.args.word.now c.loop-byte.byte-index 0 c.loop-byte-test.true)
