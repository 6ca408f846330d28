use Rattle.std.proofs.Common.{◌∙◌, ap, take, drop}
use Rattle.desk_lines.proofs.Cuts.{take_until, drop_until}
use Rattle.desk_sections.specs.Sections.{is_colon}
use Rattle.desk_sections.proofs.headers.split_at_colon.Goals as goal

pub returns-clause-front : goal.returns-clause-front
returns-clause-front c = c.split_at.ensures.front ∙ ap (λ n. take n c.args.content.now) c.colon_place.ensures.place ∙ take_until is_colon c.args.content.now

pub returns-clause-behind : goal.returns-clause-behind
returns-clause-behind c = c.split_at.ensures.back ∙ ap (λ n. drop n c.args.content.now) c.colon_place.ensures.place ∙ drop_until is_colon c.args.content.now
