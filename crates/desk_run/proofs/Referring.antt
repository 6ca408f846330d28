-- References follow, from what stands against no run that completes.
use Rattle.std.proofs.Common.{All, ◌≡◌, List, [], ◌∷◌, Option, Some, None, refl, sym, ap, ◌∙◌, subst, map, Ok}
use Rattle.std.proofs.lemmas.Bool.{and_parts}
use Rattle.std.proofs.lemmas.List.Elements.{All-contains}
use Rattle.desk_base.specs.Names.{Text}
use Rattle.desk_class.specs.Parts.{name_in}
use Rattle.desk_clashes.specs.Clashes.{first_clash}
use Rattle.desk_folders.specs.Contents.{Contents, File, file_at, files_below, paths_below}
use Rattle.desk_file.specs.Images.{target}
use Rattle.desk_file.specs.Treatments.{is_whole}
use Rattle.desk_file.proofs.Alone.{has_alone}
use Rattle.desk_format.specs.Laws.{IsBytes}
use Rattle.desk_graph.specs.Application.{Pair, name_clash, stranded}
use Rattle.desk_rename.specs.Images.{cls}
use Rattle.desk_report.specs.declared.status.Status.{Status}
use Rattle.desk_report.specs.declared.status.Status.TheVariants.{Done, Refusals, Memory, FolderFault, LedgerFault, OutputFault, Usage, NestedRoots, BadRules, Limit, PathClash, NameClash, Stranded, OtherRun, Moved, NotInvertible, Differs}
use Rattle.desk_rules.specs.Rules.{Rules}
use Rattle.desk_second.specs.Applications.{classes_of, targets_of, AreBytes}
use Rattle.desk_second.specs.Second.{AreRules, Follows}
use Rattle.desk_second.proofs.Second.{references, definitions, second}
use Rattle.desk_words.specs.declared.roots.Roots.{Roots}
use Rattle.desk_intake.specs.declared.rules.DigestedRules.{DigestedRules}
use Rattle.desk_intake.specs.Standing.{first_of, name_clash_status, names_answer, stranded_status}
use Rattle.desk_run.specs.Answers.{files_answer}
use Rattle.desk_run.specs.Endings.{IsDone, StandsAfter, Tells}
use Rattle.desk_run.specs.Follows.{FollowOver, ReferencesFollow, Follow}
use Rattle.desk_run.specs.Meaning.{defined_in, run_of}
use Rattle.desk_run.specs.Asked.{Asked}
use Rattle.desk_run.specs.Runs.{Run}
use Rattle.desk_ledger.specs.Ledger.{Ledger}
use Rattle.desk_second.proofs.Classes.{class_kind}
use Rattle.desk_run.proofs.Preparing.{no_clash, last_none}

first_none : (a b : Option Status) → first_of a b ≡ None → a ≡ None
first_none None b e = refl
first_none (Some status) b e = absurd cc

no_names : (name : Text → Text) (o : Option Pair) → name_clash_status name o ≡ None → o ≡ None
no_names name None e = refl
no_names name (Some clash) e = absurd cc

none_left : (o : Option Pair) → stranded_status o ≡ None → o ≡ None
none_left None e = refl
none_left (Some one) e = absurd cc

targets_same : (rules : Rules) (from : Text) (m : Contents) (paths : List Text) → map (target rules) paths ≡ targets_of rules (map (file_at from m) paths)
targets_same rules from m [] = refl
targets_same rules from m (path ∷ paths) = ap (λ ts. target rules path ∷ ts) (targets_same rules from m paths)

-- over the files of a run against which nothing stands
follow_over : (roots : Roots) (r : DigestedRules) (m : Contents) → AreRules r.rules → All (λ (f : File). IsBytes f.bytes) (files_below roots.from m)
    → files_answer roots.from (target r.rules) (is_whole r.rules) m ≡ None → names_answer (cls r.rules.renames) (classes_of r.rules (files_below roots.from m)) ≡ None
    → FollowOver (run_of roots r m) r.rules (files_below roots.from m)
follow_over roots r m rules_are bytes built names =
    let rules = r.rules in
    let files = files_below roots.from m in
    let paths = paths_below roots.from m in
    let are : AreBytes files = λ file there. All-contains (λ (f : File). IsBytes f.bytes) files file bytes there in
    let unlike : name_clash (cls rules.renames) (classes_of rules files) ≡ None = no_names (cls rules.renames) _ (first_none _ _ names) in
    let stay : stranded (cls rules.renames) (classes_of rules files) ≡ None = none_left _ (last_none _ _ names) in
    let clear : first_clash (map (target rules) paths) ≡ None = no_clash paths _ (last_none _ _ (last_none _ _ built)) in
    let apart : first_clash (targets_of rules files) ≡ None = ap first_clash (sym (targets_same rules roots.from m paths)) ∙ clear in
    record {
      follow = λ file image there selected is.
          let p = and_parts _ _ selected in
          let b = has_alone rules (defined_in (classes_of rules files)) file.path file.bytes image is in
          subst (Follows rules files file.bytes) (sym b.bytes) (references rules files rules_are.settled are unlike file b.alone there p.0 (class_kind _ p.1) b.is);
      defines = λ file image c there kind reads is.
          let b = has_alone rules (defined_in (classes_of rules files)) file.path file.bytes image is in
          ap name_in b.bytes ∙ definitions rules files rules_are.settled are stay file b.alone c there (class_kind _ kind) reads b.is;
      twice = λ images h. second rules files images rules_are are apart stay h;
    }

done_follows : (asked : Asked) (m0 : Contents) (l0 : Ledger) (m : Contents) (l : Ledger) → IsDone asked m0 l0 m l → ReferencesFollow asked m0
done_follows asked m0 l0 m l d =
    let roots = d.runs.roots in
    let r = d.runs.ruled in
    let e = d.runs.is in
    record {
      roots = roots;
      ruled = r;
      asks = d.runs.asks;
      rules = d.runs.rules;
      is = d.ready.is ∙ ap Ok e;
      over = follow_over roots r m0 d.runs.are (subst (λ (s : Run). All (λ (f : File). IsBytes f.bytes) (files_below s.from m0)) e d.runs.bytes)
          (subst (λ (s : Run). files_answer s.from s.target s.whole m0 ≡ None) e d.ready.built) (subst (λ (s : Run). names_answer s.name s.classes ≡ None) e d.ready.names);
    }

pub follow_clause : (asked : Asked) (m0 : Contents) (l0 : Ledger) (f : Option Contents) (k : Option Ledger) (status : Status)
    → Tells f k (λ m l. StandsAfter asked m0 l0 m l status) → Follow asked m0 status
follow_clause asked m0 l0 f k status t = by status t.holds where
  by : (status : Status) → StandsAfter asked m0 l0 t.m t.l status → Follow asked m0 status
  by Done s = done_follows asked m0 l0 t.m t.l s
  by Refusals s = done_follows asked m0 l0 t.m t.l s
  by Memory s = tt
  by OutputFault s = tt
  by (FolderFault done) s = tt
  by (LedgerFault done) s = tt
  by Usage s = tt
  by (NestedRoots one other) s = tt
  by (BadRules fault) s = tt
  by (OtherRun kept wanted) s = tt
  by (Limit kind path) s = tt
  by (PathClash one other) s = tt
  by (NameClash defined other image) s = tt
  by (Stranded path held) s = tt
  by (Moved path one other) s = tt
  by (NotInvertible fault) s = tt
  by (Differs path) s = tt
