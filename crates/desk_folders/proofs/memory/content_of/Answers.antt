use Rattle.std.proofs.Common.{◌≡◌, ◌∙◌, sym, ap, true, false, Some}
use Rattle.std.specs.Str.{bytes_eq}
use Rattle.desk_base.proofs.TextEntries.{entry_at}
use Rattle.desk_folders.proofs.Entries.{entry_hit, entry_missed}
use Rattle.desk_folders.proofs.memory.content_of.Goals as goal

pub returns-then-eq : goal.returns-then-eq
returns-then-eq c =
    let same : bytes_eq c.in-Some.key.now c.args.path.now ≡ true = ap (λ k. bytes_eq k c.args.path.now) (sym c.as_bytes.ensures) ∙ sym c.eq.ensures ∙ c.if-eq.true in
    ap Some c.as_bytes-then-eq.ensures ∙ entry_hit c.loop-key.key-iterator c.next.new.self c.in-Some.key.now c.in-Some.content.now c.args.path.now c.in-Some.ensures.steps same
    ∙ c.loop-key.invariant.left

pub loop-key-preserved : goal.loop-key-preserved
loop-key-preserved c =
    let other : bytes_eq c.in-Some.key.now c.args.path.now ≡ false = ap (λ k. bytes_eq k c.args.path.now) (sym c.as_bytes.ensures) ∙ sym c.eq.ensures ∙ c.if-eq.false in record {
      left = entry_missed c.loop-key.key-iterator c.next.new.self c.in-Some.key.now c.in-Some.content.now c.args.path.now c.in-Some.ensures.steps other ∙ c.loop-key.invariant.left;
    }

pub returns : goal.returns
returns c = ap (λ es. entry_at es c.args.path.now) (sym c.in-None.ensures.steps.0) ∙ c.loop-key.invariant.left
