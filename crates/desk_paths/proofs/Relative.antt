-- The target of a relative path is a relative path.
use Rattle.std.proofs.Common.{◌≡◌, Bool, true, false, List, [], ◌∷◌, ◌++◌, take, drop, refl, sym, ap, ◌∙◌, inl, inr}
use Rattle.std.specs.List.{list_all}
use Rattle.std.specs.Str.{bytes_eq}
use Rattle.std.proofs.lemmas.Bool.{and_parts, and_from, both_ways, cases_Bool, not_from_false, false_from_ne_true}
use Rattle.std.proofs.lemmas.Slice.Eq.{bytes_eq-Decides}
use Rattle.std.proofs.lemmas.List.{append_assoc, take-append-drop}
use Rattle.std.proofs.lemmas.List.Folds.{list_all-append}
use Rattle.desk_base.specs.Names.{Text, written, slash, is_dotted, is_identifier}
use Rattle.desk_base.specs.Paths.{is_segment, is_relative_path, here}
use Rattle.desk_base.proofs.Separated.{split_filled}
use Rattle.desk_packages.specs.Renames.{Renaming}
use Rattle.desk_rules.specs.Images.{dotted}
use Rattle.desk_packages.proofs.Cuts.{front_simple}
use Rattle.desk_rules.proofs.DottedBytes.{dotted_filled}
use Rattle.desk_rules.proofs.Forms.{pkg_all}
use Rattle.desk_paths.specs.Paths.{parts, folders, root_length, Cut, cut, path_of, is_service, moved, renamed_path}
use Rattle.desk_paths.specs.Walks.{Stay}
use Rattle.desk_paths.proofs.Stays.{moved_placed, is_placed, stands, parts_written, moved_by}

-- an identifier is a segment
identifier_segment : (t : Text) → is_identifier t ≡ true → is_segment t ≡ true
identifier_segment [] h = absurd cc
identifier_segment (b ∷ t) h = and_from _ _ (not_from_false _ (apart here refl)) (not_from_false _ (apart (46 ∷ 46 ∷ []) refl))
  where
    apart : (other : Text) → is_identifier other ≡ false → bytes_eq (b ∷ t) other ≡ false
    apart other odd = false_from_ne_true _ (λ e. both_ways (is_identifier other) odd (ap is_identifier (sym ((bytes_eq-Decides (b ∷ t) other).0 e)) ∙ h))

-- and so is a dotted name
dotted_apart : (t other : Text) → is_dotted other ≡ false → is_dotted t ≡ true → bytes_eq t other ≡ false
dotted_apart t other apart named = false_from_ne_true _ (λ e. both_ways (is_dotted other) apart (ap is_dotted (sym ((bytes_eq-Decides t other).0 e)) ∙ named))

dotted_segment : (t : Text) → is_dotted t ≡ true → is_segment t ≡ true
dotted_segment t named =
    and_from _ _ (not_from_false _ (dotted_filled t named))
    (and_from _ _ (not_from_false _ (dotted_apart t here refl named)) (not_from_false _ (dotted_apart t (46 ∷ 46 ∷ []) refl named)))

image_segment : (rs : List Renaming) → Stay rs → (name : Text) → is_segment name ≡ true → is_segment (dotted rs name) ≡ true
image_segment rs stay name segment = elim (cases_Bool (is_dotted name)) [
  | inl named ↦ dotted_segment (dotted rs name) (stay.form name named).named
  | inr other ↦ rw other segment
]

-- the segments of a cut
pub record AreSegments (c : Cut) : Type 0 where
  pub root : list_all is_segment c.root ≡ true
  pub rest : list_all is_segment c.rest ≡ true
  pub file : is_segment c.file ≡ true

cut_segments : (path : Text) → is_relative_path path ≡ true → AreSegments (cut path)
unfolding cut
cut_segments path relative =
    let n = root_length (folders path) in
    let all = ap (list_all is_segment) (front_simple (parts path) (split_filled slash path)) ∙ relative in
    let both = and_parts (list_all is_segment (folders path)) _ (sym (list_all-append is_segment (folders path) _) ∙ all) in
    let halves = and_parts (list_all is_segment (take n (folders path))) (list_all is_segment (drop n (folders path)))
    (sym (list_all-append is_segment (take n (folders path)) (drop n (folders path))) ∙ ap (list_all is_segment) (take-append-drop n (folders path)) ∙ both.0) in
    record { root = halves.0; rest = halves.1; file = (and_parts _ true both.1).0 }

moved_segments : (rs : List Renaming) → Stay rs → (c : Cut) → AreSegments c → AreSegments (moved rs c)
moved_segments rs stay c are = elim (is_service c) as (λ (b : Bool). AreSegments (moved_by b rs c)) [
  | true ↦ record { root = are.root; rest = are.rest; file = image_segment rs stay c.file are.file }
  | false ↦ record { root = are.root; rest = pkg_all is_segment identifier_segment rs stay.formed c.rest are.rest; file = are.file }
]

pub relative_told : (rs : List Renaming) → Stay rs → (path : Text) → is_relative_path path ≡ true → is_relative_path (renamed_path rs path) ≡ true
unfolding renamed_path
relative_told rs stay path relative =
    let m = moved rs (cut path) in
    let are = moved_segments rs stay (cut path) (cut_segments path relative) in
    let whole = (stands m (moved_placed rs stay (cut path) (is_placed path))).whole in
    let cut_again : parts (path_of m) ≡ (m.root ++ m.rest) ++ m.file ∷ [] =
    ap (λ (ps : List Text). parts (written slash ps)) (sym (append_assoc m.root m.rest (m.file ∷ []))) ∙ parts_written (m.root ++ m.rest) m.file whole in
    ap (list_all is_segment) cut_again
    ∙ list_all-append is_segment (m.root ++ m.rest) (m.file ∷ [])
    ∙ and_from _ _ (list_all-append is_segment m.root m.rest ∙ and_from _ _ are.root are.rest) (and_from _ _ are.file refl)
