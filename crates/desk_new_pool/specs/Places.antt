-- The least index of a text among texts by index.
use Rattle.std.specs.Prelude.{ℕ, suc, Bool, false, List, [], ◌∷◌, Option, Some, None, if◌then◌else◌, bytes_eq, get_or, map, option_copied, is_some, unwrap_or}
use Rattle.std.specs.Ordering.{nat_cmp}
use Rattle.std.specs.Cmp.Lexicographic.{slice_cmp}
use Rattle.std.specs.BTreeMap.{BTreeMap, get_by}
use Rattle.std.specs.BTreeSet.{BTreeSet}
use denote.Ref.{Bor}
use Rattle.desk_base.specs.Names.{Text}
use Rattle.desk_format.specs.Split.{add}
use Rattle.desk_new_pool.specs.declared.wants.WantedText.{WantedText}

abbrev pub is_slice : Text → Option (Bor Text) → Bool
is_slice t None = false
is_slice t (Some s) = bytes_eq s.now t

-- the least index of a text, where the first of the texts has an index
abbrev pub least : ℕ → List (Option (Bor Text)) → Text → Option ℕ
least i [] t = None
least i (s ∷ ss) t = if is_slice t s then Some i else least (suc i) ss t

-- what a map from texts to indices has at a text
abbrev pub place_in : BTreeMap (Bor Text) ℕ → Text → Option ℕ
place_in m t = get_by (λ k. slice_cmp nat_cmp t k.now) m

-- ---- uses whose entry keeps another text

abbrev pub unless_kept : Option Text → Option Text → Option Text
unless_kept kept None = None
unless_kept None (Some t) = Some t
unless_kept (Some s) (Some t) = if bytes_eq s t then None else Some t

-- the image of a use where its entry keeps another text
abbrev pub not_kept : List (Option (Bor Text)) → WantedText → Option Text
not_kept texts w = unless_kept (option_copied (get_or texts w.used.index None)) (option_copied w.image)

abbrev pub with_missing : List (Option (Bor Text)) → Option Text → List Text → List Text
with_missing texts None missing = missing
with_missing texts (Some t) missing = if is_some (least 0 texts t) then missing else add t missing

-- the images that no entry keeps, in byte order
abbrev pub missing_among : List (Option (Bor Text)) → List WantedText → List Text
missing_among texts [] = []
missing_among texts (w ∷ ws) = with_missing texts (not_kept texts w) (missing_among texts ws)

-- the texts of a set
abbrev pub in_set : BTreeSet (Bor Text) → List Text
in_set s = map (λ k. k.now) s.keys

-- the index of a use, by the index that is found for its image where its entry keeps another text
abbrev pub index_by : (Text → Option ℕ) → ℕ → Option Text → ℕ
index_by places own None = own
index_by places own (Some t) = unwrap_or (places t) own

abbrev pub new_index : List (Option (Bor Text)) → WantedText → ℕ
new_index texts w = index_by (least 0 texts) w.used.index (not_kept texts w)
