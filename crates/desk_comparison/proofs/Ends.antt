-- The answer from what was read and made.
use Rattle.std.proofs.Common.{All, ◌≡◌, ◌≤◌, ℕ, Bool, true, List, [], ◌∷◌, length, map, Option, Some, None, Ok, Err, refl, sym, ap, ap₂, ◌∙◌, subst, IfSome}
use Rattle.std.specs.Prelude.{if◌then◌else◌}
use Rattle.std.proofs.lemmas.List.{length-map}
use Rattle.desk_base.specs.Names.{Text}
use Rattle.desk_base.proofs.Results.{at_some}
use Rattle.desk_class.specs.Held.{ascending}
use Rattle.desk_compare.specs.Deciding.{verdict_of}
use Rattle.desk_file.specs.Images.{target}
use Rattle.desk_file.specs.Linked.{image_in}
use Rattle.desk_folders.specs.Contents.{Contents, File, files_below, paths_below}
use Rattle.desk_folders.specs.declared.folders.GenFile.{GenFile}
use Rattle.desk_graph.specs.Application.{defined_names}
use Rattle.desk_graph.specs.Graphs.{Graph, graph_of}
use Rattle.desk_graph.specs.declared.scanned.Scanned.{Scanned}
use Rattle.desk_intake.specs.Halts.{HaltsAtNames, HaltsAtRules, is_rules_status}
use Rattle.desk_intake.specs.Rulings.{ruled}
use Rattle.desk_intake.specs.Standing.{names_answer}
use Rattle.desk_intake.specs.declared.halts.Halt.{Halt}
use Rattle.desk_intake.specs.declared.halts.Halt.TheVariants as halt
use Rattle.desk_readings.proofs.Fronts.{if_some}
use Rattle.desk_rename.specs.Images.{cls}
use Rattle.desk_report.specs.declared.status.Status.{Status}
use Rattle.desk_report.specs.declared.status.Status.TheVariants.{Done, Refusals, Memory, FolderFault, LedgerFault, OutputFault, Usage, NestedRoots, BadRules, Limit, PathClash, NameClash, Stranded, OtherRun, Moved, NotInvertible, Differs}
use Rattle.desk_rules.specs.Rules.{Rules}
use Rattle.desk_second.specs.Applications.{classes_of}
use Rattle.desk_comparison.specs.Answers.{both_answer, classes_answer, compared, comparison_by, comparison_under, image_among, other_answer, source_answer, told_verdict, unless_answer}
use Rattle.desk_comparison.specs.Files.{HasRead, IsRouted, as_compared, file_in, files_of, scans_of}
use Rattle.desk_comparison.specs.Halts.{HaltsComparing, HaltsMaking, HaltsStanding, HaltsTelling, is_comparison_status}
use Rattle.desk_comparison.specs.Images.{Imaging, as_file, image_answer, images_of, refusals, some_refused}
use Rattle.desk_comparison.specs.Makings.{MadeBy, told_of}
use Rattle.desk_comparison.specs.Sizes.{most_both, room_behind}
use Rattle.desk_comparison.specs.declared.made.Made.{Made}
use Rattle.desk_comparison.specs.declared.reading.SourceFile.{SourceFile}
use Rattle.desk_comparison.proofs.Firsts.{first_none, first_some, halts_on, making_on, names_making}
use Rattle.desk_comparison.proofs.Makes.{scans_same}

rules_comparison : (status : Status) → is_rules_status status ≡ true → is_comparison_status status ≡ true
rules_comparison (BadRules fault) e = refl
rules_comparison (Limit kind path) e = refl
rules_comparison (PathClash first second) e = refl
rules_comparison Done e = e
rules_comparison Refusals e = e
rules_comparison Memory e = e
rules_comparison (FolderFault done) e = e
rules_comparison (LedgerFault done) e = e
rules_comparison OutputFault e = e
rules_comparison Usage e = e
rules_comparison (NestedRoots first second) e = e
rules_comparison (NameClash defined other image) e = refl
rules_comparison (Stranded path name) e = refl
rules_comparison (OtherRun kept wanted) e = e
rules_comparison (Moved path one other) e = e
rules_comparison (NotInvertible fault) e = e
rules_comparison (Differs path) e = e

-- the rules stand against it
pub rules_halt : (rules from other : Text) (told : Option Contents) (f f' : ℕ) (h : Halt) → HaltsAtRules rules told f f' h → HaltsComparing rules from other told f f' h
rules_halt rules from other told f f' halt.Memory g = tt
rules_halt rules from other told f f' halt.Folders g = g
rules_halt rules from other told f f' halt.Ledger g = absurd g
rules_halt rules from other told f f' (halt.Answer status) g =
    (rules_comparison status g.0, if_some _ told (λ m t. ap (comparison_by from other m) (at_some (λ m. ruled rules (files_below rules m) ≡ Err status) told m t g.1)))

-- what stands against the classes of files that were read, and their graph
module _ (rules : Rules) (files : List SourceFile) (classes : List Scanned) (are : classes ≡ scans_of files) where
  pub graph_built : (graph : Graph) → graph ≡ graph_of rules classes → graph ≡ graph_of rules (scans_of files)
  graph_built graph e = e ∙ ap (graph_of rules) are

  module _ (routed : All (IsRouted rules) files) where
    named_same : names_answer (cls rules.renames) classes ≡ classes_answer rules (files_of files)
    named_same = ap (names_answer (cls rules.renames)) (are ∙ scans_same rules files routed)

    pub classes_clear : names_answer (cls rules.renames) classes ≡ None → classes_answer rules (files_of files) ≡ None
    classes_clear e = sym named_same ∙ e

    pub classes_making : (h : Halt) → HaltsAtNames (names_answer (cls rules.renames) classes) h → HaltsMaking (classes_answer rules (files_of files)) h
    classes_making h e = names_making (classes_answer rules (files_of files)) h (subst (λ (o : Option Status). HaltsAtNames o h) named_same e)

-- what is made of others that were read
others_same : (others : List GenFile) → map as_compared (map file_in others) ≡ others
others_same [] = refl
others_same (other ∷ others) = ap (λ (fs : List GenFile). other ∷ fs) (others_same others)

module _ (rules : Rules) (from other : Text) (told : Option Contents) where
  -- something stands against both applications
  pub standing_halt : (f f' : ℕ) (h : Halt) → HaltsStanding (both_answer rules from other) told f f' h → HaltsTelling (comparison_under rules from other) told f f' h
  standing_halt f f' halt.Memory g = tt
  standing_halt f f' halt.Folders g = g
  standing_halt f f' halt.Ledger g = absurd g
  standing_halt f f' (halt.Answer status) g = (
    g.0,
    if_some _ told (λ m t.
        ap (λ (o : Option Status). unless_answer o (compared (target rules) (image_among rules (files_below from m)) (files_below from m) (files_below other m)))
        (at_some (λ m. both_answer rules from other m ≡ Some status) told m t g.1)),
  )

  -- against the application that is migrated
  pub source_halt : (mid : Option Contents) (f f1 f' : ℕ) (h : Halt) → mid ≡ told → f ≤ f1 → HaltsStanding (source_answer rules from) mid f1 f' h → HaltsTelling (comparison_under rules from other) told f f' h
  source_halt mid f f1 f' h same le g =
      standing_halt f f' h (halts_on (source_answer rules from) (both_answer rules from other) told mid f f1 f' h same le (λ m status t e. first_some _ _ status e) g)

  module _ (source : List SourceFile) (room : ℕ) (clear : IfSome told (λ m. source_answer rules from m ≡ None)) (read : IfSome told (λ m. HasRead from m most_both (paths_below from m) (files_of source) room)) where
    source_at : (m : Contents) → told ≡ Some m → source_answer rules from m ≡ None
    source_at m t = at_some (λ m. source_answer rules from m ≡ None) told m t clear

    files_at : (m : Contents) → told ≡ Some m → files_of source ≡ files_below from m
    files_at m t = (at_some (λ m. HasRead from m most_both (paths_below from m) (files_of source) room) told m t read).are

    room_at : (m : Contents) → told ≡ Some m → room ≡ room_behind most_both (files_below from m)
    room_at m t = (at_some (λ m. HasRead from m most_both (paths_below from m) (files_of source) room) told m t read).room_is ∙ ap (room_behind most_both) (files_at m t)

    -- against its classes
    pub classes_halt : (f f' : ℕ) (h : Halt) → HaltsMaking (classes_answer rules (files_of source)) h → HaltsTelling (comparison_under rules from other) told f f' h
    classes_halt f f' h g =
        standing_halt f f' h (making_on (classes_answer rules (files_of source)) (both_answer rules from other) told f f' h
        (λ m status t e. first_none _ _ (source_at m t) ∙ first_some _ _ status (ap (classes_answer rules) (sym (files_at m t)) ∙ e)) g)

    module _ (named : classes_answer rules (files_of source) ≡ None) where
      classes_at : (m : Contents) → told ≡ Some m → classes_answer rules (files_below from m) ≡ None
      classes_at m t = ap (classes_answer rules) (sym (files_at m t)) ∙ named

      -- against the other application
      pub other_halt : (mid : Option Contents) (f f1 f' : ℕ) (h : Halt) → mid ≡ told → f ≤ f1 → HaltsStanding (other_answer room other) mid f1 f' h → HaltsTelling (comparison_under rules from other) told f f' h
      other_halt mid f f1 f' h same le g =
          standing_halt f f' h (halts_on (other_answer room other) (both_answer rules from other) told mid f f1 f' h same le
          (λ m status t e.
          first_none _ _ (source_at m t) ∙ first_none _ _ (classes_at m t) ∙ first_some _ _ status (ap (λ (n : ℕ). other_answer n other m) (sym (room_at m t)) ∙ e)) g)

      module _ (routed : All (IsRouted rules) source) (graph : Graph) (built : graph ≡ graph_of rules (scans_of source)) (sound : IfSome told (λ m. other_answer room other m ≡ None)) where
        imaging : (m : Contents) → told ≡ Some m → image_in rules graph.defined ≡ image_among rules (files_below from m)
        imaging m t =
            ap (image_in rules) (ap (λ (g : Graph). g.defined) built ∙ ap (λ (ss : List Scanned). ascending (defined_names ss)) (scans_same rules source routed ∙ ap (classes_of rules) (files_at m t)))

        other_at : (m : Contents) → told ≡ Some m → other_answer (room_behind most_both (files_below from m)) other m ≡ None
        other_at m t = ap (λ (n : ℕ). other_answer n other m) (sym (room_at m t)) ∙ at_some (λ m. other_answer room other m ≡ None) told m t sound

        -- against an image
        pub image_halt : (f f' : ℕ) (h : Halt) → HaltsMaking (image_answer (image_in rules graph.defined) (files_of source)) h → HaltsTelling (comparison_under rules from other) told f f' h
        image_halt f f' h g =
            standing_halt f f' h (making_on (image_answer (image_in rules graph.defined) (files_of source)) (both_answer rules from other) told f f' h
            (λ m status t e.
            first_none _ _ (source_at m t) ∙ first_none _ _ (classes_at m t) ∙ first_none _ _ (other_at m t) ∙ ap₂ image_answer (sym (imaging m t)) (sym (files_at m t)) ∙ e) g)

        -- nothing stands against both
        pub answered : (others : List GenFile) (made : Made) (told_is : Text × Status) → IfSome told (λ m. map file_in others ≡ files_below other m) → MadeBy rules graph.defined (files_of source) made → told_is ≡ told_of made others
            → IfSome told (λ m. comparison_under rules from other m ≡ Ok told_is)
        answered others made told_is there h e = if_some _ told (λ m t.
            let with : map file_in others ≡ files_below other m = at_some (λ m. map file_in others ≡ files_below other m) told m t there in
            let clear : both_answer rules from other m ≡ None =
            first_none _ _ (source_at m t) ∙ first_none _ _ (classes_at m t) ∙ first_none _ _ (other_at m t) ∙ ap₂ image_answer (sym (imaging m t)) (sym (files_at m t)) ∙ h.fit in
            ap (λ (o : Option Status). unless_answer o (compared (target rules) (image_among rules (files_below from m)) (files_below from m) (files_below other m))) clear
            ∙ ap Ok (same m t with ∙ sym e)) where
              verdicts : (image : Imaging) (files : List File) → told_verdict (length (map file_in others)) (verdict_of (images_of (target rules) image files) (map as_compared (map file_in others)))
                  ≡ told_verdict (length others) (verdict_of (images_of (target rules) image files) others)
              verdicts image files = ap₂ (λ (n : ℕ) (fs : List GenFile). told_verdict n (verdict_of (images_of (target rules) image files) fs)) (length-map others file_in) (others_same others)

              here : compared (target rules) (image_in rules graph.defined) (files_of source) (map file_in others) ≡ told_of made others
              here =
                  ap (λ (x : Text × Status). if some_refused (image_in rules graph.defined) (files_of source) then (refusals (image_in rules graph.defined) (files_of source), Refusals) else x)
                  (verdicts (image_in rules graph.defined) (files_of source))
                  ∙ ap (λ (b : Bool). if b then (refusals (image_in rules graph.defined) (files_of source), Refusals)
                  else told_verdict (length others) (verdict_of (images_of (target rules) (image_in rules graph.defined) (files_of source)) others)) (sym h.refused)
                  ∙ ap (λ (t : Text). if made.refused then (t, Refusals)
                  else told_verdict (length others) (verdict_of (images_of (target rules) (image_in rules graph.defined) (files_of source)) others)) (sym h.lines)
                  ∙ ap (λ (images : List (Text × Text)). if made.refused then (made.lines, Refusals) else told_verdict (length others) (verdict_of (map as_file images) others)) (sym h.images)

              same : (m : Contents) → told ≡ Some m → map file_in others ≡ files_below other m
                  → compared (target rules) (image_among rules (files_below from m)) (files_below from m) (files_below other m) ≡ told_of made others
              same m t with =
                  ap (λ (i : Imaging). compared (target rules) i (files_below from m) (files_below other m)) (sym (imaging m t))
                  ∙ ap (λ (fs : List File). compared (target rules) (image_in rules graph.defined) fs (files_below other m)) (sym (files_at m t))
                  ∙ ap (compared (target rules) (image_in rules graph.defined) (files_of source)) (sym with)
                  ∙ here
