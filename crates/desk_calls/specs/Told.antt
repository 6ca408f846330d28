-- What is told of the sites of classes.
use Rattle.std.specs.Prelude.{ℕ, Bool, List, [], ◌∷◌, ◌++◌, codes, count_by, decimal, length}
use Rattle.std.specs.List.{flat_map, list_any, sum_by}
use Rattle.desk_base.specs.Names.{Text}
use Rattle.desk_report.specs.Joined.{joined}
use Rattle.desk_sites.specs.declared.class.ClassSites.{ClassSites}
use Rattle.desk_calls.specs.declared.telling.Calls.{Calls}

abbrev pub was_refused : ClassSites → Bool
was_refused one = one.refused

abbrev pub site_count : ClassSites → ℕ
site_count one = one.sites

abbrev pub lines_in : ClassSites → Text
lines_in one = one.lines

-- the lines of classes, one behind the other
abbrev pub lines_of : List ClassSites → Text
lines_of found = flat_map lines_in found

-- how many classes there are, how many of them were refused, and how many sites the others have
abbrev pub totals_text : List ClassSites → Text
totals_text found = joined (codes "sites classes=" ∷ decimal (length found) ∷ codes " refused=" ∷ decimal (count_by was_refused found) ∷ codes " sites=" ∷ decimal (sum_by site_count found) ∷ codes "\n" ∷ [])

abbrev pub calls_of : List ClassSites → Calls
calls_of found = record { text = lines_of found ++ totals_text found; refused = list_any was_refused found }
