use Rattle.std.proofs.Common.{◌∙◌, ◌++◌, ◌∷◌, [], ap, length}
use Rattle.std.specs.Prelude.{codes, decimal, count_by}
use Rattle.std.proofs.lemmas.Result.{on_ok_weaker}
use Rattle.desk_base.specs.Names.{Text}
use Rattle.desk_report.specs.Joined.{joined}
use Rattle.desk_calls.specs.Told.{was_refused}
use Rattle.desk_calls.proofs.Totals.{totals_joined}
use Rattle.desk_calls.proofs.telling.append_totals.Goals as goal

pub returns : goal.returns
returns c =
    let old : Text = c.args.text.now in
    let count : Text = decimal (length c.args.found.now) in
    on_ok_weaker c.append.result
    (λ e. e ∙ ap (λ (t : Text). t ++ codes "\n") (c.in_ok-append_number-3.ensures
    ∙ ap (λ (t : Text). t ++ joined (codes " sites=" ∷ decimal c.count_sites.result ∷ [])) (c.in_ok-append_number-2.ensures
    ∙ ap (λ (t : Text). t ++ joined (codes " refused=" ∷ decimal c.count_refused.result ∷ [])) c.in_ok-append_number.ensures))
    ∙ totals_joined old (codes "sites classes=") count (codes " refused=") (decimal c.count_refused.result) (codes " sites=") (decimal c.count_sites.result) (codes "\n")
    ∙ ap (λ n. old ++ joined (codes "sites classes=" ∷ count ∷ codes " refused=" ∷ decimal n ∷ codes " sites=" ∷ decimal c.count_sites.result ∷ codes "\n" ∷ [])) c.count_refused.ensures.count
    ∙ ap (λ n. old ++ joined (codes "sites classes=" ∷ count ∷ codes " refused=" ∷ decimal (count_by was_refused c.args.found.now) ∷ codes " sites=" ∷ decimal n ∷ codes "\n" ∷ [])) c.count_sites.ensures)
    c.append.ensures.ok
