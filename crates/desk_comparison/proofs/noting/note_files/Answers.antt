use Rattle.std.proofs.Common.{rules, ◌∙◌, ◌∷◌, ◌++◌, [], ap, sym, arith, length, length-append, map, map-id}
use Rattle.std.proofs.lemmas.Iterator.Adapters.{YieldsList-from_vec}
use Rattle.std.proofs.lemmas.Iterator.Consumers.{YieldsList-end}
use Rattle.std.proofs.lemmas.List.{map-append}
use Rattle.desk_file.specs.ClassScans.{scanned_in}
use Rattle.desk_readings.proofs.Fronts.{all_pushed}
use Rattle.desk_comparison.specs.Files.{IsNoted, scans_of, source_of}
use Rattle.desk_comparison.specs.declared.noting.NotedFile.{NotedFile}
use Rattle.desk_comparison.proofs.Makes.{scans_behind}
use Rattle.desk_comparison.proofs.Notes.{at_most_one}
use Rattle.desk_comparison.proofs.noting.note_files.Goals as goal

pub loop-file-preserved : goal.loop-file-preserved
loop-file-preserved c =
    let noted : NotedFile = record { file = c.in-Some.file; unchanged = c.is_unchanged-unchanged.result } in
    record {
      files = ap (map source_of) (search rules) ∙ map-append source_of c.loop-file.kept.items (noted ∷ []) ∙ ap (λ fs. fs ++ c.in-Some.file ∷ []) c.loop-file.invariant.files;
      noted = all_pushed (IsNoted c.args.rules.now) c.loop-file.kept.items c.push.new.self.items noted c.loop-file.invariant.noted (λ e. c.in_ok-class.ensures.unchanged (sym c.is_unchanged-unchanged.ensures ∙ e)) (search rules);
      classes = c.in_ok-add_class.ensures ∙ ap (λ ss. ss ++ scanned_in c.in_ok-class.class) c.loop-file.invariant.classes ∙ ap (λ ss. scans_of c.loop-file.yielded ++ ss) c.in_ok-class.ensures.scanned
          ∙ sym (scans_behind c.loop-file.yielded c.in-Some.file);
      few = omega (arith, c.loop-file.invariant.few, ap length c.in_ok-add_class.ensures, length-append c.loop-file.classes.items (scanned_in c.in_ok-class.class), at_most_one c.in_ok-class.class, length-append c.loop-file.yielded (c.in-Some.file ∷ []));
    }

pub returns-clause-files : goal.returns-clause-files
returns-clause-files c =
    let road = YieldsList-from_vec {s = c.into_iter-file-iterator.result} c.args.files.items (cc) (cc) in
    let end = YieldsList-end road c.loop-file.yielded c.loop-file.file-iterator c.loop-file.yielded_by c.next.result c.next.new.self c.in-None.is c.next.ensures.steps in
    c.loop-file.invariant.files ∙ sym (map-id c.loop-file.yielded) ∙ end.0

pub returns-clause-classes : goal.returns-clause-classes
returns-clause-classes c =
    let road = YieldsList-from_vec {s = c.into_iter-file-iterator.result} c.args.files.items (cc) (cc) in
    let end = YieldsList-end road c.loop-file.yielded c.loop-file.file-iterator c.loop-file.yielded_by c.next.result c.next.new.self c.in-None.is c.next.ensures.steps in
    c.loop-file.invariant.classes ∙ ap scans_of (sym (map-id c.loop-file.yielded) ∙ end.0)

pub returns-clause-few : goal.returns-clause-few
returns-clause-few c =
    let road = YieldsList-from_vec {s = c.into_iter-file-iterator.result} c.args.files.items (cc) (cc) in
    let end = YieldsList-end road c.loop-file.yielded c.loop-file.file-iterator c.loop-file.yielded_by c.next.result c.next.new.self c.in-None.is c.next.ensures.steps in
    omega (arith, c.loop-file.invariant.few, ap length (sym (map-id c.loop-file.yielded) ∙ end.0))
