use Rattle.std.proofs.Common.{◌∙◌, ap, refl, take}
use Rattle.std.proofs.lemmas.List.{take_rest}
use Rattle.desk_lines.specs.Blanks.{trimmed_end}
use Rattle.desk_metainf.specs.Services.{is_hash}
use Rattle.desk_lines.proofs.Cuts.{take_until}
use Rattle.desk_metainf.proofs.Places.{place_of}
use Rattle.desk_metainf.proofs.providers.provider_in.Goals as goal

pub returns : goal.returns
returns c = place_of c.args.content.now (take c.code_length.result c.args.content.now) c.trim_trailing_blanks-name.result.now _ _
    (ap (λ n. take n c.args.content.now) c.code_length.ensures.length_is ∙ take_until is_hash c.args.content.now)
    c.count_leading_blanks-from.ensures.count
    (c.trim_trailing_blanks-name.ensures ∙ ap trimmed_end (take_rest (take c.code_length.result c.args.content.now) c.count_leading_blanks-from.result))
    refl
