-- The file behind those that are done.
use Rattle.std.proofs.Common.{◌≡◌, inl, inr, ℕ, List, [], ◌∷◌, ◌++◌, Option, Some, None, refl, sym, ap, ◌∙◌, subst, true, false, Bool, cond, length, Result, Ok, Err}
use Rattle.std.specs.Prelude.{IfErr, IfSome, IsSomeAnd, option_map, slice_get}
use Rattle.std.proofs.lemmas.Option.{slice_get-map}
use Rattle.desk_base.specs.Names.{Text}
use Rattle.desk_batches.specs.Fresh.{IsNotKept, StopsAtFresh}
use Rattle.desk_batches.specs.Stops.{StoppedAt}
use Rattle.desk_batches.specs.Turns.{bytes_of, image_here, plan_by, work_in, works_in}
use Rattle.desk_batches.specs.Works.{Keep, Work, fresh, keeps}
use Rattle.desk_batches.specs.declared.batches.Stopped.{Stopped}
use Rattle.desk_batches.specs.declared.planned.PlannedFile.{PlannedFile}
use Rattle.desk_batches.specs.declared.planned.Action.{Action}
use Rattle.desk_batches.specs.declared.planned.Action.TheVariants as action
use Rattle.desk_batches.specs.declared.stops.Stop.{Stop}
use Rattle.desk_batches.specs.declared.stops.Stop.TheVariants as stop
use Rattle.desk_file.specs.declared.images.Image.{Image}
use Rattle.desk_folders.specs.Contents.{Contents, File, files_below}
use Rattle.desk_ledger.specs.Ledger.{Ledger}
use Rattle.desk_report.specs.declared.lines.Reason.{Reason}
use Rattle.desk_run.specs.Runs.{Run, is_kept_file}
use Rattle.desk_run.specs.Stands.{NextIsFresh}
use Rattle.desk_run.specs.Stops.{IsFreshWork, StopsAt}
use Rattle.desk_run.specs.Works.{work_of, works_of}

-- ---- a file of a run

at_seam : (before rest : List File) (file : File) → slice_get (before ++ file ∷ rest) (length before) ≡ Some file
at_seam [] rest file = refl
at_seam (b ∷ before) rest file = at_seam before rest file

not_kept : (kept found : Bool) (fate : Result Image Reason) → keeps (cond kept Keep (fresh found fate)) ≡ false → kept ≡ false
not_kept true found fate e = cc
not_kept false found fate e = refl

-- the file whose work isn't that of a kept one isn't kept
pub next_fresh : (run : Run) (m0 : Contents) (l0 : Ledger) (works : List Work) (done : ℕ) → works ≡ works_of run l0.rows (files_below run.from m0) → IsFreshWork works done → NextIsFresh run m0 l0 done
next_fresh run m0 l0 works done are h = λ before rest file split count.
    let work = work_of run l0.rows in
    let at : slice_get (files_below run.from m0) done ≡ Some file = ap (λ fs. slice_get fs done) split ∙ ap (slice_get (before ++ file ∷ rest)) (sym count) ∙ at_seam before rest file in
    let is : slice_get works done ≡ Some (work file) = ap (λ ws. slice_get ws done) are ∙ slice_get-map work (files_below run.from m0) done ∙ ap (option_map work) at in
    let here : keeps (work file).plan ≡ false = subst (λ (o : Option Work). IsSomeAnd o (λ (w : Work). keeps w.plan ≡ false)) is h in
    not_kept (is_kept_file run l0.rows file) _ _ here

-- ---- a file that is planned

written : (found : Bool) (fate : Result Image Reason) → keeps (fresh found fate) ≡ false
written found (Ok image) = refl
written found (Err reason) = refl

work_not_kept : (image : Text → Text → Result Image Reason) (from : Text) (m : Contents) (planned : PlannedFile) (w : Action) → planned.action ≡ w → IsNotKept planned → keeps (work_in image from m planned).plan ≡ false
work_not_kept image from m planned action.Keep e other = absurd (other e)
work_not_kept image from m planned (action.Migrate found) e other = ap (λ (w : Action). keeps (plan_by w (bytes_of from m planned) (image_here image from m planned))) e ∙ written found (image_here image from m planned)
work_not_kept image from m planned (action.Copy found) e other = ap (λ (w : Action). keeps (plan_by w (bytes_of from m planned) (image_here image from m planned))) e

some_work : (image : Text → Text → Result Image Reason) (from : Text) (m : Contents) (o : Option PlannedFile) → IsSomeAnd o IsNotKept → IsSomeAnd (option_map (work_in image from m) o) (λ (w : Work). keeps w.plan ≡ false)
some_work image from m None h = absurd h
some_work image from m (Some planned) h = work_not_kept image from m planned planned.action refl h

fresh_work : (image : Text → Text → Result Image Reason) (from : Text) (m : Contents) (files : List PlannedFile) (done : ℕ) → IsSomeAnd (slice_get files done) IsNotKept → IsFreshWork (works_in image from m files) done
fresh_work image from m files done h =
    subst (λ (o : Option Work). IsSomeAnd o (λ (w : Work). keeps w.plan ≡ false)) (sym (slice_get-map (work_in image from m) files done)) (some_work image from m (slice_get files done) h)

-- where the writing of files stopped
pub stop_at : (to : Text) (image : Text → Text → Result Image Reason) (from : Text) (m : Contents) (files : List PlannedFile) (why : Stop) (done : ℕ) (f f' : Option Contents) (k k' : Option Ledger)
    → StoppedAt to (works_in image from m files) done f f' k k' → StopsAtFresh files done why → StopsAt why to (works_in image from m files) done f f' k k'
stop_at to image from m files stop.Memory done f f' k k' s h = inl s
stop_at to image from m files stop.Ledger done f f' k k' s h = inl s
stop_at to image from m files (stop.Moved moved) done f f' k k' s h = s
stop_at to image from m files stop.Folders done f f' k k' s (inl e) = absurd cc
stop_at to image from m files stop.Folders done f f' k k' s (inr h) = record { stopped = s; fresh = fresh_work image from m files done h }

stop_told : (to : Text) (image : Text → Text → Result Image Reason) (from : Text) (files : List PlannedFile) (why : Stop) (done : ℕ) (f f' : Option Contents) (k k' : Option Ledger)
    → IfSome f (λ m. StoppedAt to (works_in image from m files) done f f' k k') → StopsAtFresh files done why → IfSome f (λ m. StopsAt why to (works_in image from m files) done f f' k k')
stop_told to image from files why done None f' k k' s h = tt
stop_told to image from files why done (Some m) f' k k' s h = stop_at to image from m files why done (Some m) f' k k' s h

-- where they stopped, if they did, and the ledger told the same behind it
pub err_stops : {X : Type 0} (to : Text) (image : Text → Text → Result Image Reason) (from : Text) (files : List PlannedFile) (r : Result X Stopped) (f f' : Option Contents) (k mid k' : Option Ledger) → k' ≡ mid
    → IfErr r (λ s. IfSome f (λ m. StoppedAt to (works_in image from m files) s.done f f' k mid)) → IfErr r (λ s. StopsAtFresh files s.done s.why)
    → IfErr r (λ s. IfSome f (λ m. StopsAt s.why to (works_in image from m files) s.done f f' k k'))
err_stops to image from files (Ok x) f f' k mid k' e s h = tt
err_stops to image from files (Err s) f f' k mid k' e at h =
    subst (λ o. IfSome f (λ m. StopsAt s.why to (works_in image from m files) s.done f f' k o)) (sym e) (stop_told to image from files s.why s.done f f' k mid at h)
