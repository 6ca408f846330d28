-- What folders in memory hold.
use Rattle.std.specs.Prelude.{ℕ, ◌==◌, ◌||◌, ◌++◌, ◌/◌, nat_le, nat_lt, Bool, false, List, [], ◌∷◌, Option, Some, None, take, length, refl, if◌then◌else◌}
use Rattle.std.specs.List.{list_any}
use Rattle.std.specs.FinMap as fin
use Rattle.std.specs.Coded.{Coded, code_by, coded×, coded_list, coded_option, coded_ℕ}
use Rattle.desk_base.specs.Counts.{counted}
use Rattle.desk_base.specs.Names.{Text}
use Rattle.desk_folders.specs.Contents.{Contents, setting, bytes_at}
use Rattle.desk_folders.specs.declared.folders.GenFile.{GenFile}

-- the contents, the count of faults, the count of calls, the numbers of the calls that fail, and the number from which on all fail
pub record InMemory : Type 0 where
  pub contents : Contents
  pub faults : ℕ
  pub calls : ℕ
  pub failing : List ℕ
  pub stop : Option ℕ

abbrev pub in_memory_code : Coded InMemory
in_memory_code =
    code_by (Contents × (ℕ × (ℕ × (List ℕ × Option ℕ)))) (coded× (fin.code (coded_list coded_ℕ) (coded_list coded_ℕ)) (coded× coded_ℕ (coded× coded_ℕ (coded× (coded_list coded_ℕ) (coded_option coded_ℕ)))))
    (λ m. (m.contents, (m.faults, (m.calls, (m.failing, m.stop))))) (λ p. record { contents = p.0; faults = p.1.0; calls = p.1.1.0; failing = p.1.1.1.0; stop = p.1.1.1.1 }) (λ _. refl)

-- whether calls stop at this one or stopped before it
abbrev pub is_reached : Option ℕ → ℕ → Bool
is_reached None call = false
is_reached (Some stop) call = nat_le stop call

-- whether calls stopped before this one
abbrev pub is_passed : Option ℕ → ℕ → Bool
is_passed None call = false
is_passed (Some stop) call = nat_lt stop call

-- whether the next call fails
abbrev pub fails : InMemory → Bool
fails m = list_any (λ k. k == m.calls) m.failing || is_reached m.stop m.calls

-- whether the next call fails without any effect
abbrev pub is_stopped : InMemory → Bool
is_stopped m = is_passed m.stop m.calls

-- with one call more, and one fault more where it fails
abbrev pub called : InMemory → InMemory
called m = record m { faults = if fails m then counted m.faults else m.faults; calls = counted m.calls }

-- with this left at a path, or nothing
abbrev pub leaving : Text → Option Text → InMemory → InMemory
leaving path left m = record m { contents = setting path left m.contents }

-- with bytes added at the path's end
abbrev pub growing : Text → Text → InMemory → InMemory
growing path bytes m = leaving path (Some (bytes_at m.contents path ++ bytes)) m

-- the first half of bytes, rounded down
abbrev pub half : Text → Text
half bytes = take (length bytes / 2) bytes

-- with these files, of which the later counts where two have one path
abbrev pub filled : List GenFile → Contents → Contents
filled [] m = m
filled (file ∷ files) m = filled files (fin.insert m file.path file.content)
