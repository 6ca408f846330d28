-- Files get what is known of their images, one after another.
use Rattle.std.proofs.Common.{◌≡◌, ◌<◌, ℕ, zero, suc, ◌+◌, List, [], ◌∷◌, ◌++◌, length, map, take, drop, set, get_or, refl, sym, ap, ◌∙◌, arith}
use Rattle.std.proofs.Math.ListN.{get_or-map}
use Rattle.std.proofs.lemmas.List.{append_assoc, drop_more, map-append, take_more_set}
use Rattle.desk_readings.specs.declared.measured.ClassNote.{ClassNote}
use Rattle.desk_batches.specs.declared.planned.ImageNote.{ImageNote}
use Rattle.desk_batches.specs.Details.{bare, counts_behind, image_note, image_notes, notes_in}
use Rattle.desk_batches.specs.declared.planned.PlannedFile.{PlannedFile}

bare_set : (xs : List PlannedFile) (i : ℕ) (x one : PlannedFile) → i < length xs → one ≡ get_or xs i one → bare x ≡ bare one → map bare (set xs i x) ≡ map bare xs
bare_set [] i x one lt is same = absurd (omega arith)
bare_set (y ∷ xs) zero x one lt is same = ap (λ (z : PlannedFile). z ∷ map bare xs) (same ∙ ap bare is)
bare_set (y ∷ xs) (suc i) x one lt is same = ap (λ (zs : List PlannedFile). bare y ∷ zs) (bare_set xs i x one (omega arith) is same)

-- of one file more it is known
pub bare_more : (xs first : List PlannedFile) (i : ℕ) (x one : PlannedFile) → i < length xs → one ≡ get_or xs i one → bare x ≡ bare one → map bare xs ≡ map bare first → map bare (set xs i x) ≡ map bare first
bare_more xs first i x one lt is same before = bare_set xs i x one lt is same ∙ before

classes_bare : (xs : List PlannedFile) → map (λ (file : PlannedFile). file.class) (map bare xs) ≡ map (λ (file : PlannedFile). file.class) xs
classes_bare [] = refl
classes_bare (x ∷ xs) = ap (λ (ns : List ClassNote). x.class ∷ ns) (classes_bare xs)

-- what was noted of a file as a class stays
pub class_at : (xs first : List PlannedFile) (i : ℕ) (x : PlannedFile) → x ≡ get_or xs i x → map bare xs ≡ map bare first → x.class ≡ get_or (map (λ (file : PlannedFile). file.class) first) i x.class
class_at xs first i x is same =
    let class : PlannedFile → ClassNote = λ file. file.class in
    ap class is ∙ sym (get_or-map class xs i x) ∙ ap (λ (ns : List ClassNote). get_or ns i x.class) (sym (classes_bare xs) ∙ ap (map class) same ∙ classes_bare first)

pub details_more : (all : List ImageNote) (xs : List PlannedFile) (notes : List ClassNote) (i : ℕ) (x : PlannedFile) (note : ClassNote) (left behind : List ℕ) → i < length xs → i < length notes → note ≡ get_or notes i note
    → all ≡ notes_in (take i xs) ++ image_notes (drop i notes) left → x.image ≡ image_note note left → behind ≡ counts_behind note left
    → all ≡ notes_in (take (i + 1) (set xs i x)) ++ image_notes (drop (i + 1) notes) behind
details_more all xs notes i x note left behind lt there is before one rest =
    let first : drop i notes ≡ note ∷ drop (i + 1) notes = drop_more notes i note there ∙ ap (λ (n : ClassNote). n ∷ drop (i + 1) notes) (sym is) in
    before ∙ ap (λ (ns : List ClassNote). notes_in (take i xs) ++ image_notes ns left) first
    ∙ ap (λ (d : ImageNote). notes_in (take i xs) ++ d ∷ image_notes (drop (i + 1) notes) (counts_behind note left)) (sym one)
    ∙ ap (λ (cs : List ℕ). notes_in (take i xs) ++ x.image ∷ image_notes (drop (i + 1) notes) cs) (sym rest)
    ∙ sym (append_assoc (notes_in (take i xs)) (x.image ∷ []) (image_notes (drop (i + 1) notes) behind))
    ∙ ap (λ (ds : List ImageNote). ds ++ image_notes (drop (i + 1) notes) behind)
    (sym (ap notes_in (take_more_set xs i x lt) ∙ map-append (λ (file : PlannedFile). file.image) (take i xs) (x ∷ [])))
