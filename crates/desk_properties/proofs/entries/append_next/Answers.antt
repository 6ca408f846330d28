use Rattle.std.proofs.lemmas.Bool.{eq-eqb, ne_eqb}
use Rattle.std.proofs.lemmas.Result.{IfOk-weaker, IfErr-weaker}
use Rattle.desk_properties.specs.Reading.{IsEscapeRead, IsEscapeFault, IsNextRead, IsNextFault}
use Rattle.desk_properties.proofs.Fronts.{pair_within}
use Rattle.desk_properties.proofs.Parts.{next_escape, next_fault, next_plain}
use Rattle.desk_properties.proofs.entries.append_next.Goals as goal

pub append_escape-requires-clause-inside : goal.append_escape-requires-clause-inside
append_escape-requires-clause-inside c = (pair_within c.args.file.now c.args.from c.requires.inside (eq-eqb _ 92 c.if-byte-eq92.true) c.requires.unbroken).inside

pub append_escape-requires-clause-pair : goal.append_escape-requires-clause-pair
append_escape-requires-clause-pair c = (pair_within c.args.file.now c.args.from c.requires.inside (eq-eqb _ 92 c.if-byte-eq92.true) c.requires.unbroken).pair

pub returns-then-byte-eq92-clause-read : goal.returns-then-byte-eq92-clause-read
returns-then-byte-eq92-clause-read c =
    let file = c.args.file.now in
    let pair = (pair_within file c.args.from c.requires.inside (eq-eqb _ 92 c.if-byte-eq92.true) c.requires.unbroken).pair in
    IfOk-weaker c.append_escape.result (IsEscapeRead file c.args.from c.args.text.now c.append_escape.new.text) (IsNextRead file c.args.from c.args.text.now c.append_escape.new.text) (λ to read. next_escape file c.args.from _ _ to pair read) c.append_escape.ensures.read

pub returns-then-byte-eq92-clause-refused : goal.returns-then-byte-eq92-clause-refused
returns-then-byte-eq92-clause-refused c =
    let file = c.args.file.now in
    let pair = (pair_within file c.args.from c.requires.inside (eq-eqb _ 92 c.if-byte-eq92.true) c.requires.unbroken).pair in
    IfErr-weaker c.append_escape.result (IsEscapeFault file c.args.from) (IsNextFault file c.args.from) (λ error fault. next_fault file c.args.from error pair fault) c.append_escape.ensures.refused

pub returns-in_ok-push-clause-read : goal.returns-in_ok-push-clause-read
returns-in_ok-push-clause-read c = next_plain c.args.file.now c.args.from _ _ c.requires.inside c.requires.some (ne_eqb _ 92 c.if-byte-eq92.false) c.in_ok-push.ensures.ok
