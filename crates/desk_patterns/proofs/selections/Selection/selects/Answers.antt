use Rattle.std.proofs.Common.{ap, ◌∙◌, List, not, ◌&&◌}
use Rattle.std.specs.List.{list_any}
use Rattle.desk_patterns.specs.Patterns.{fits}
use Rattle.desk_patterns.specs.Selections.{Choice, selects}
use Rattle.desk_patterns.specs.declared.selections.Choice.{Choice as KeptChoice}
use Rattle.desk_patterns.proofs.Choices.{select_excluded, select_included, select_all}
use Rattle.desk_patterns.proofs.selections.Selection.selects.Goals as goal

pub returns-then-is_excluded : goal.returns-then-is_excluded
returns-then-is_excluded c =
    let items = c.self.inside.choices.items in
    let path = c.args.path.now in
    select_excluded items path c.is_excluded.result (c.is_excluded.ensures ∙ ap (list_any (λ (choice : KeptChoice). choice.excludes && fits choice.pattern path)) c.as_slice-choices.ensures.value) c.if-is_excluded.true
    ∙ ap (λ (choices : List Choice). selects choices path) c.self.view_is

pub returns-then-has_include : goal.returns-then-has_include
returns-then-has_include c =
    let items = c.self.inside.choices.items in
    let path = c.args.path.now in
    select_included items path c.has_include.result c.is_included.result c.is_excluded.result
    (c.has_include.ensures ∙ ap (list_any (λ (choice : KeptChoice). not choice.excludes)) c.as_slice-choices.ensures.value)
    (c.is_included.ensures ∙ ap (list_any (λ (choice : KeptChoice). not choice.excludes && fits choice.pattern path)) c.as_slice-choices.ensures.value)
    (c.is_excluded.ensures ∙ ap (list_any (λ (choice : KeptChoice). choice.excludes && fits choice.pattern path)) c.as_slice-choices.ensures.value)
    c.if-is_excluded.false c.if-has_include.true
    ∙ ap (λ (choices : List Choice). selects choices path) c.self.view_is

pub returns-else-has_include : goal.returns-else-has_include
returns-else-has_include c =
    let items = c.self.inside.choices.items in
    let path = c.args.path.now in
    select_all items path c.has_include.result c.is_excluded.result
    (c.has_include.ensures ∙ ap (list_any (λ (choice : KeptChoice). not choice.excludes)) c.as_slice-choices.ensures.value)
    (c.is_excluded.ensures ∙ ap (list_any (λ (choice : KeptChoice). choice.excludes && fits choice.pattern path)) c.as_slice-choices.ensures.value)
    c.if-is_excluded.false c.if-has_include.false
    ∙ ap (λ (choices : List Choice). selects choices path) c.self.view_is
