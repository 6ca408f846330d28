use Rattle.std.proofs.Common.{◌≡◌, ◌++◌, ap, ◌∙◌, rules}
use Rattle.std.specs.Prelude.{codes}
use Rattle.desk_gen.specs.Names.{class_name}
use Rattle.desk_gen.specs.Classes.{class_file}
use Rattle.desk_gen.specs.Application.{neighbour}
use Rattle.desk_gen.proofs.application.class_at.Goals as goal

pub returns : goal.returns
returns c =
    let path : c.append.new.self ≡ class_name c.args.number ++ codes ".class" = search rules in
    let content : c.in_ok-content.content ≡ class_file c.args.number (neighbour c.args.count c.args.number) = c.in_ok-content.ensures ∙ ap (class_file c.args.number) c.neighbour_of.ensures in
    λ i. record { path = path i; content = content i }
