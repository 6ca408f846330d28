-- The run over a generated application: its files, its roots and its totals.
use Rattle.std.proofs.Common.{◌≡◌, ℕ, true, List, [], ◌∷◌, ◌++◌, Option, Some, None, refl, sym, ap, ◌∙◌, subst, map, Result, Ok, Err}
use Rattle.std.specs.Prelude.{IfSome, IsOkAnd, codes}
use Rattle.std.specs.List.{list_all}
use Rattle.std.specs.FinMap as fin
use Rattle.std.proofs.lemmas.Bool.{and_parts, and_from, or_left}
use Rattle.desk_base.specs.Names.{Text}
use Rattle.desk_base.specs.Paths.{full, is_full_path, is_relative_path}
use Rattle.desk_folders.specs.declared.folders.GenFile.{GenFile}
use Rattle.desk_folders.specs.Contents.{Contents, files_below}
use Rattle.desk_folders.specs.InMemory.{filled}
use Rattle.desk_gen.specs.Application.{generated, rule_file}
use Rattle.desk_ledger.specs.Ledger.{Ledger}
use Rattle.desk_report.specs.declared.lines.Summary.{Summary}
use Rattle.desk_run.specs.Asked.{asked_roots}
use Rattle.desk_run.specs.Meaning.{Meant, run_of_asked}
use Rattle.desk_run.specs.Reports.{summary_of}
use Rattle.desk_run.specs.Generated.{placed, generated_roots, generated_files, generated_contents, generated_totals, totals_by}
use Rattle.desk_run.specs.GeneratedSql.{CompletesGenerated}
use Rattle.desk_run.proofs.Promised.{ok_map}

-- paths below `in` and below `rules`
below_in : (path : Text) → is_relative_path path ≡ true → is_full_path (full (codes "in") path) ≡ true
below_in path e = or_left _ _ e

all_below_in : (files : List GenFile) → list_all (λ (file : GenFile). is_relative_path file.path) files ≡ true → list_all (λ (file : GenFile). is_full_path file.path) (map (placed (codes "in")) files) ≡ true
all_below_in [] e = refl
all_below_in (file ∷ files) e =
    let p = and_parts _ _ e in and_from _ _ (below_in file.path p.0) (all_below_in files p.1)

all_more : (files : List GenFile) (last : GenFile) → list_all (λ (file : GenFile). is_full_path file.path) files ≡ true → is_full_path last.path ≡ true
    → list_all (λ (file : GenFile). is_full_path file.path) (files ++ last ∷ []) ≡ true
all_more [] last e h = and_from _ _ h refl
all_more (file ∷ files) last e h = let p = and_parts _ _ e in and_from _ _ p.0 (all_more files last p.1 h)

pub all_full : (n : ℕ) → list_all (λ (file : GenFile). is_relative_path file.path) (generated n) ≡ true → list_all (λ (file : GenFile). is_full_path file.path) (generated_files n) ≡ true
all_full n e = all_more (map (placed (codes "in")) (generated n)) (placed (codes "rules") rule_file) (all_below_in (generated n) e) refl

pub contents_are : (n : ℕ) → filled (generated_files n) fin.empty ≡ generated_contents n
unfolding generated_contents
contents_are n = refl

ok_totals : (m : Contents) (r : Meant) (totals : Summary) → IsOkAnd r (λ run. totals ≡ summary_of run fin.empty (files_below run.from m)) → totals_by m r ≡ Ok totals
ok_totals m (Ok run) totals e = ap Ok (sym e)
ok_totals m (Err answer) totals e = absurd e

-- the totals of the run whose rows go into an empty ledger
pub totals_told : (n : ℕ) (k0 k : Option Ledger) (totals : Summary) → k0 ≡ Some (record { header = None; rows = fin.empty })
    → IfSome k0 (λ l0. CompletesGenerated n l0 k (λ t. totals ≡ t)) → generated_totals n ≡ Ok totals
totals_told n k0 k totals e w =
    let h : CompletesGenerated n (record { header = None; rows = fin.empty }) k (λ t. totals ≡ t) = subst (λ k0. IfSome k0 (λ l0. CompletesGenerated n l0 k (λ t. totals ≡ t))) e w in
    let r : Meant = run_of_asked (asked_roots generated_roots) (generated_contents n) in
    ok_totals (generated_contents n) r totals (ok_map r _ _ (λ run done. done.1) h.holds.run)
