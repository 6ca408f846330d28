-- What works leave at the paths and targets that they don't name.
use Rattle.std.proofs.Common.{◌≡◌, ◌≢◌, ℕ, List, [], ◌∷◌, refl, sym, ◌∙◌, true, false, Bool}
use Rattle.std.specs.Prelude.{map}
use Rattle.std.specs.FinMap as fin
use Rattle.std.proofs.lemmas.List.{append_cancel_left}
use Rattle.desk_base.specs.Paths.{full, folder}
use Rattle.desk_folders.specs.Contents.{Contents}
use Rattle.desk_ledger.specs.declared.digest.Digest.{Digest}
use Rattle.desk_ledger.specs.Ledger.{Ledger, held_in}
use Rattle.desk_base.specs.TextMaps.{get-insert-other, get-remove-other}
use Rattle.desk_batches.specs.Works.{Plan, Keep, Leave, Write, Work, written_row, wrote, wrote_plan, logged, logged_plan, forgot, cleared_plan, writes, files_after, ledger_after}
use Rattle.desk_intake.specs.Apart.{Misses}

pub full_apart : (root p q : List ℕ) → p ≢ q → full root p ≢ full root q
full_apart root p q apart e = apart (append_cancel_left (folder root) p q e)

-- no work that writes has this path
abbrev pub Off : List ℕ → List ℕ → List Work → Type 0
Off to path [] = Unit {0}
Off to path (work ∷ works) = (writes work.plan ≡ true → full to work.target ≢ path) × Off to path works

-- no work that writes has this target
abbrev pub Spares : List ℕ → List Work → Type 0
Spares target [] = Unit {0}
Spares target (work ∷ works) = (writes work.plan ≡ true → work.target ≢ target) × Spares target works

pub plan_spares : (path q : List ℕ) (plan : Plan) (m : Contents) → (writes plan ≡ true → path ≢ q) → fin.get (wrote_plan path plan m) q ≡ fin.get m q
plan_spares path q Keep m h = refl
plan_spares path q (Leave reason) m h = refl
plan_spares path q (Write found image) m h = get-insert-other m path image.bytes q (λ e. h refl (sym e))

pub logged_spares : (target q path : List ℕ) (source : Digest) (plan : Plan) (l : Ledger) → (writes plan ≡ true → target ≢ q) → fin.get (logged_plan target path source plan l).rows q ≡ fin.get l.rows q
logged_spares target q path source Keep l h = refl
logged_spares target q path source (Leave reason) l h = refl
logged_spares target q path source (Write found image) l h = get-insert-other l.rows target (held_in (written_row target path source image.bytes)) q (λ e. h refl (sym e))

pub forgot_spares : (target q : List ℕ) (found : Bool) (l : Ledger) → target ≢ q → fin.get (forgot found target l).rows q ≡ fin.get l.rows q
forgot_spares target q true l h = get-remove-other l.rows target q (λ e. h (sym e))
forgot_spares target q false l h = refl

pub cleared_spares : (target q : List ℕ) (plan : Plan) (l : Ledger) → target ≢ q → fin.get (cleared_plan target plan l).rows q ≡ fin.get l.rows q
cleared_spares target q Keep l h = refl
cleared_spares target q (Leave reason) l h = refl
cleared_spares target q (Write found image) l h = forgot_spares target q found l h

pub files_spare : (to path : List ℕ) (works : List Work) (m : Contents) → Off to path works → fin.get (files_after to works m) path ≡ fin.get m path
files_spare to path [] m h = refl
files_spare to path (work ∷ works) m h = files_spare to path works (wrote to work m) h.1 ∙ plan_spares (full to work.target) path work.plan m h.0

pub rows_spare : (target : List ℕ) (works : List Work) (l : Ledger) → Spares target works → fin.get (ledger_after works l).rows target ≡ fin.get l.rows target
rows_spare target [] l h = refl
rows_spare target (work ∷ works) l h = rows_spare target works (logged work l) h.1 ∙ logged_spares work.target target work.path work.digest work.plan l h.0

pub off_from_misses : (to target : List ℕ) (works : List Work) → Misses target (map (λ w. w.target) works) → Off to (full to target) works
off_from_misses to target [] h = tt
off_from_misses to target (work ∷ works) h = ((λ _. full_apart to work.target target (λ e. h.0 (sym e))), off_from_misses to target works h.1)

pub spares_from_misses : (target : List ℕ) (works : List Work) → Misses target (map (λ w. w.target) works) → Spares target works
spares_from_misses target [] h = tt
spares_from_misses target (work ∷ works) h = ((λ _ e. h.0 (sym e)), spares_from_misses target works h.1)

pub header_after : (works : List Work) (l : Ledger) → (ledger_after works l).header ≡ l.header
header_after [] l = refl
header_after (work ∷ works) l = header_after works (logged work l) ∙ same work.target work.path work.digest work.plan l where
  same : (target path : List ℕ) (source : Digest) (plan : Plan) (l : Ledger) → (logged_plan target path source plan l).header ≡ l.header
  same target path source Keep l = refl
  same target path source (Leave reason) l = refl
  same target path source (Write found image) l = refl

pub header_cleared : (target : List ℕ) (plan : Plan) (l : Ledger) → (cleared_plan target plan l).header ≡ l.header
header_cleared target Keep l = refl
header_cleared target (Leave reason) l = refl
header_cleared target (Write true bytes) l = refl
header_cleared target (Write false bytes) l = refl
