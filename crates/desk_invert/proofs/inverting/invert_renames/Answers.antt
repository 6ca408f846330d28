use Rattle.std.proofs.Common.{rules, sym, ap, ◌∙◌, vec_len}
use Rattle.desk_invert.specs.Files.{file_of}
use Rattle.desk_invert.proofs.Faults.{nothing_found, overlap_found, file_found, filled}
use Rattle.desk_invert.proofs.inverting.invert_renames.Goals as goal

pub returns-then-is_empty-clause-refused : goal.returns-then-is_empty-clause-refused
returns-then-is_empty-clause-refused c = nothing_found c.args.renames.now c.in_ok-backs.backs.once.items c.in_ok-backs.backs.repeated.items c.in_ok-backs.ensures (search rules)

pub returns-in-Some-clause-refused : goal.returns-in-Some-clause-refused
returns-in-Some-clause-refused c =
    overlap_found c.args.renames.now c.in_ok-backs.backs.once.items c.in_ok-backs.backs.repeated.items c.in_ok-backs.ensures
    (λ e. filled (vec_len c.in_ok-backs.backs.once) (sym c.is_empty.ensures ∙ c.if-is_empty.false) (search rules))
    c.in-Some.pair.first.now c.in-Some.pair.second.now c.in-Some.ensures c.in_ok-fault-in-Some.fault c.in_ok-fault-in-Some.ensures

pub returns-clause-inverted : goal.returns-clause-inverted
returns-clause-inverted c =
    file_found c.args.renames.now c.in_ok-backs.backs.once.items c.in_ok-backs.backs.repeated.items c.in_ok-backs.ensures
    (λ e. filled (vec_len c.in_ok-backs.backs.once) (sym c.is_empty.ensures ∙ c.if-is_empty.false) (search rules))
    c.in-None.ensures c.in_ok-file_of-in-None.field-0 (c.in_ok-file_of-in-None.ensures ∙ ap file_of c.deref.ensures.value)
