use Rattle.desk_names.proofs.SigPlaces.{sig_name_first, sig_name_last}
use Rattle.desk_names.proofs.signature_parts.first_name.Goals as goal

pub returns-then-at-text : goal.returns-then-at-text
returns-then-at-text c = rw (c.cut_name.ensures.package, c.cut_name.ensures.simple, c.named.ensures, c.split_at.ensures.front, c.split_at.ensures.back) (sig_name_first c.args.state c.args.text.now c.name_end-at.result c.requires.naming c.name_end-at.ensures.value c.if-at-text.true)

pub returns-else-at-text : goal.returns-else-at-text
returns-else-at-text c = rw (c.split_at.ensures.back) (sig_name_last c.args.state c.args.text.now c.name_end-at.result c.requires.naming c.name_end-at.ensures.value c.if-at-text.false c.requires.some)
