-- Files that are read one after another into a room.
use Rattle.std.proofs.Common.{◌≡◌, ◌≤◌, ℕ, ◌-◌, List, [], ◌∷◌, ◌++◌, length, map, Option, Some, None, refl, sym, ap, ◌∙◌}
use Rattle.std.proofs.lemmas.List.{map-append}
use Rattle.desk_base.specs.Counts.{Rose-earlier}
use Rattle.desk_base.specs.Names.{Text}
use Rattle.desk_base.specs.Paths.{full}
use Rattle.desk_base.proofs.Results.{at_some}
use Rattle.desk_folders.specs.Contents.{Contents, File, bytes_at, file_at}
use Rattle.desk_intake.specs.Halts.{HaltsAt}
use Rattle.desk_intake.specs.Standing.{first_of}
use Rattle.desk_intake.specs.declared.halts.Halt.{Halt}
use Rattle.desk_intake.specs.declared.halts.Halt.TheVariants as halt
use Rattle.desk_readings.proofs.Fronts.{if_some}
use Rattle.desk_report.specs.declared.status.Status.{Status}
use Rattle.desk_comparison.specs.Files.{HasRead}
use Rattle.desk_comparison.specs.Sizes.{one_answer, room_answer, room_behind}
use Rattle.desk_comparison.proofs.Firsts.{first_gone, rest_gone, first_none}

room_more : (room : ℕ) (files : List File) (file : File) → room_behind room (files ++ file ∷ []) ≡ room_behind room files - length file.bytes
room_more room [] file = refl
room_more room (first ∷ files) file = room_more (room - length first.bytes) files file

-- nothing stands against a front of the files
pub answer_on : (room : ℕ) (files more : List File) → room_answer room files ≡ None → room_answer room (files ++ more) ≡ room_answer (room_behind room files) more
answer_on room [] more e = refl
answer_on room (first ∷ files) more e =
    first_none (one_answer room first) (room_answer (room - length first.bytes) (files ++ more)) (first_gone (one_answer room first) (room_answer (room - length first.bytes) files) e)
    ∙ answer_on (room - length first.bytes) files more (rest_gone (one_answer room first) (room_answer (room - length first.bytes) files) e)

-- none was read
pub read_none : (root : Text) (m : Contents) (room : ℕ) (files : List File) → files ≡ [] → HasRead root m room [] files room
read_none root m room files e = record { are = e; fit = ap (room_answer room) e; room_is = ap (room_behind room) (sym e) }

-- one file more
pub read_more : (root : Text) (m : Contents) (room : ℕ) (paths : List Text) (files new : List File) (left now : ℕ) (path text : Text) → HasRead root m room paths files left → new ≡ files ++ record { path = path; bytes = text } ∷ []
    → text ≡ bytes_at m (full root path) → one_answer left (record { path = path; bytes = text }) ≡ None → now ≡ left - length text → HasRead root m room (paths ++ path ∷ []) new now
read_more root m room paths files new left now path text h grown is fits less =
    let file : File = record { path = path; bytes = text } in record {
      are = grown ∙ ap (λ (fs : List File). fs ++ file ∷ []) h.are ∙ ap (λ (t : Text). map (file_at root m) paths ++ record { path = path; bytes = t } ∷ []) is ∙ sym (map-append (file_at root m) paths (path ∷ []));
      fit = ap (room_answer room) grown ∙ answer_on room files (file ∷ []) h.fit ∙ ap (λ (r : ℕ). room_answer r (file ∷ [])) (sym h.room_is) ∙ first_none (one_answer left file) None fits;
      room_is = less ∙ ap (λ (r : ℕ). r - length text) h.room_is ∙ sym (room_more room files file) ∙ ap (room_behind room) (sym grown);
    }

-- where the reading of one file halts, that of all does
pub halts_later : (root : Text) (told now : Option Contents) (room left : ℕ) (gone all rest : List Text) (path : Text) (a b c : ℕ) (h : Halt) → now ≡ told → a ≤ b → all ≡ gone ++ path ∷ rest
    → ((m : Contents) → told ≡ Some m → (files : List File) × HasRead root m room gone files left) → HaltsAt (λ m. one_answer left (file_at root m path)) now b c h
    → HaltsAt (λ m. room_answer room (map (file_at root m) all)) told a c h
halts_later root told now room left gone all rest path a b c halt.Memory same le split read g = tt
halts_later root told now room left gone all rest path a b c halt.Folders same le split read g = Rose-earlier a b c le g
halts_later root told now room left gone all rest path a b c halt.Ledger same le split read g = absurd g
halts_later root told now room left gone all rest path a b c (halt.Answer status) same le split read g = (
  g.0,
  if_some _ told (λ m e.
      let here = at_some (λ m. one_answer left (file_at root m path) ≡ Some status) now m (same ∙ e) g.1 in
      let files = (read m e).0 in
      let h = (read m e).1 in
      ap (λ (ps : List Text). room_answer room (map (file_at root m) ps)) split
      ∙ ap (room_answer room) (map-append (file_at root m) gone (path ∷ rest))
      ∙ ap (λ (fs : List File). room_answer room (fs ++ map (file_at root m) (path ∷ rest))) (sym h.are)
      ∙ answer_on room files (map (file_at root m) (path ∷ rest)) h.fit
      ∙ ap (λ (r : ℕ). room_answer r (map (file_at root m) (path ∷ rest))) (sym h.room_is)
      ∙ ap (λ (o : Option Status). first_of o (room_answer (left - length (file_at root m path).bytes) (map (file_at root m) rest))) here),
)
