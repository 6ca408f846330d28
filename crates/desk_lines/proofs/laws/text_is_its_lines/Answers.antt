use Rattle.desk_lines.proofs.LineLaws.{formed-lines, joined-lines}
use Rattle.desk_lines.proofs.laws.text_is_its_lines.Goals as goal

pub returns : goal.returns
returns c = λ text. (formed-lines text, joined-lines text)
