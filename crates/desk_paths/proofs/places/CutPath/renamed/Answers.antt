use Rattle.std.proofs.Common.{◌≡◌, ◌-◌, ◌++◌, ◌∙◌, sym, ap, subst, take, drop, IfOk}
use Rattle.std.proofs.lemmas.List.{take_rest}
use Rattle.desk_base.specs.Names.{Text}
use Rattle.desk_rules.specs.Images.{dotted}
use Rattle.desk_rename.specs.Images.{package_image}
use Rattle.desk_paths.specs.Paths.{renamed_path}
use Rattle.desk_paths.specs.Walks.{is_service_file}
use Rattle.desk_paths.proofs.Folders.{named_told, folder_told}
use Rattle.desk_paths.proofs.Answered.{target_answer, stays_answer, relative_answer}
use Rattle.desk_paths.proofs.places.CutPath.renamed.Goals as goal

service : (c : goal.After-with_name) → IfOk c.with_name.result (λ found. found ≡ renamed_path c.args.rules.now.renames c.args.self.now)
service c =
    subst (λ (path : Text). IfOk c.with_name.result (λ found. found ≡ renamed_path c.args.rules.now.renames path)) c.self.view_is
    (target_answer c.args.rules.now.renames c.self.inside.path.now _ c.with_name.result c.with_name.ensures.stay
    (λ stay.
    ap (λ (t : Text). take c.self.inside.file_at c.self.inside.path.now ++ dotted c.args.rules.now.renames t) (take_rest c.self.inside.path.now c.self.inside.file_at)
    ∙ named_told c.args.rules.now.renames c.self.inside.path.now c.self.inside.rest_at c.self.inside.file_at c.self.invariant (ap (λ (t : Text). is_service_file (take (c.self.inside.file_at - c.self.inside.rest_at) (drop c.self.inside.rest_at c.self.inside.path.now)) t) (sym (take_rest c.self.inside.path.now c.self.inside.file_at)) ∙ sym c.is_service_file.ensures ∙ c.if-is_service_file.true))
    c.with_name.ensures.found)

pub returns-then-is_service_file-clause-target : goal.returns-then-is_service_file-clause-target
returns-then-is_service_file-clause-target c = service c

pub returns-then-is_service_file-clause-stays : goal.returns-then-is_service_file-clause-stays
returns-then-is_service_file-clause-stays c = stays_answer c.args.rules.now.renames c.args.self.now c.with_name.result c.with_name.ensures.stay

pub returns-then-is_service_file-clause-relative : goal.returns-then-is_service_file-clause-relative
returns-then-is_service_file-clause-relative c = relative_answer c.args.rules.now.renames c.args.self.now c.with_name.result c.with_name.ensures.stay (service c)

other : (c : goal.After-with_package) → IfOk c.with_package.result (λ found. found ≡ renamed_path c.args.rules.now.renames c.args.self.now)
other c =
    subst (λ (path : Text). IfOk c.with_package.result (λ found. found ≡ renamed_path c.args.rules.now.renames path)) c.self.view_is
    (target_answer c.args.rules.now.renames c.self.inside.path.now _ c.with_package.result c.with_package.ensures.stay
    (λ stay.
    ap (λ (t : Text). (take c.self.inside.rest_at c.self.inside.path.now ++ package_image c.args.rules.now.renames (take (c.package_end-end.result - c.self.inside.rest_at) (drop c.self.inside.rest_at c.self.inside.path.now))) ++ t) (take_rest c.self.inside.path.now c.package_end-end.result)
    ∙ folder_told c.args.rules.now.renames stay.formed c.self.inside.path.now c.self.inside.rest_at c.self.inside.file_at c.package_end-end.result c.self.invariant (ap (λ (t : Text). is_service_file (take (c.self.inside.file_at - c.self.inside.rest_at) (drop c.self.inside.rest_at c.self.inside.path.now)) t) (sym (take_rest c.self.inside.path.now c.self.inside.file_at)) ∙ sym c.is_service_file.ensures ∙ c.if-is_service_file.false) c.package_end-end.ensures)
    c.with_package.ensures.found)

pub returns-else-is_service_file-clause-target : goal.returns-else-is_service_file-clause-target
returns-else-is_service_file-clause-target c = other c

pub returns-else-is_service_file-clause-stays : goal.returns-else-is_service_file-clause-stays
returns-else-is_service_file-clause-stays c = stays_answer c.args.rules.now.renames c.args.self.now c.with_package.result c.with_package.ensures.stay

pub returns-else-is_service_file-clause-relative : goal.returns-else-is_service_file-clause-relative
returns-else-is_service_file-clause-relative c = relative_answer c.args.rules.now.renames c.args.self.now c.with_package.result c.with_package.ensures.stay (other c)
