-- Paths that are listed, with their targets.
use Rattle.std.proofs.Common.{◌≡◌, ◌⊎◌, inl, inr, ℕ, suc, ◌<◌, Bool, true, false, List, [], ◌∷◌, ◌++◌, length, Some, None, refl, sym, ap, ◌∙◌, subst, take, drop, get_or, map, map-id, append-nil, append_assoc, zero, arith}
use Rattle.std.specs.Prelude.{if◌then◌else◌, ◌&&◌}
use Rattle.std.specs.List.{list_all}
use Rattle.std.proofs.lemmas.Bool.{and_parts}
use Rattle.desk_base.specs.Names.{Text}
use Rattle.desk_base.specs.Paths.{is_relative_path}
use Rattle.desk_report.specs.declared.status.LimitKind.TheVariants.{PathLength}
use Rattle.desk_report.specs.declared.status.Status.TheVariants.{Limit}
use Rattle.desk_intake.specs.declared.halts.Halt.{Halt}
use Rattle.desk_intake.specs.declared.halts.Halt.TheVariants as halt
use Rattle.desk_intake.specs.Limits.{first_long, is_short, long_answer}
use Rattle.desk_intake.specs.Halts.{HaltsRouting}
use Rattle.desk_readings.proofs.Fronts.{split_at}

-- a path that is short, with a short target, is passed over
pub short_more : (target : Text → Text) (gone : List Text) (path : Text) → is_short path ≡ true → is_short (target path) ≡ true → ((rest : List Text) → first_long target (gone ++ rest) ≡ first_long target rest)
    → (rest : List Text) → first_long target ((gone ++ path ∷ []) ++ rest) ≡ first_long target rest
short_more target gone path a b before rest =
    ap (first_long target) (append_assoc gone (path ∷ []) rest) ∙ before (path ∷ rest)
    ∙ ap (λ x. if x && is_short (target path) then first_long target rest else Some path) a
    ∙ ap (λ x. if x then first_long target rest else Some path) b

-- where all were passed over, none is too long
pub none_long : (target : Text → Text) (paths gone : List Text) → map (λ x. x) gone ≡ paths → ((rest : List Text) → first_long target (gone ++ rest) ≡ first_long target rest) → first_long target paths ≡ None
none_long target paths gone e before = ap (first_long target) (sym e ∙ map-id gone ∙ sym (append-nil gone)) ∙ before []

both_false : (a b : Bool) → (a ≡ false) ⊎ (b ≡ false) → a && b ≡ false
both_false a b (inl e) = ap (λ x. x && b) e
both_false true b (inr e) = e
both_false false b (inr e) = refl

-- any other is the first that is too long
pub halts_long : (target : Text → Text) (paths gone : List Text) (path : Text) (h : Halt) → map (λ x. x) gone ≡ take (length gone) paths → length gone < length paths → path ≡ get_or paths (length gone) path
    → (is_short path ≡ false) ⊎ (is_short (target path) ≡ false) → ((rest : List Text) → first_long target (gone ++ rest) ≡ first_long target rest) → h ≡ halt.Answer (Limit PathLength path) → HaltsRouting target paths h
halts_long target paths gone path h so_far lt is long before e =
    let behind = drop (suc (length gone)) paths in
    let whole : paths ≡ gone ++ path ∷ behind = split_at paths (length gone) path lt is ∙ ap (λ (xs : List Text). xs ++ path ∷ behind) (sym so_far ∙ map-id gone) in
    subst (HaltsRouting target paths) (sym e) (
      refl,
      ap long_answer (ap (first_long target) whole ∙ before (path ∷ behind)
          ∙ ap (λ x. if x then first_long target behind else Some path) (both_false (is_short path) (is_short (target path)) long)),
    )

-- a path that is listed is relative
pub relative_path : (paths : List Text) (i : ℕ) (path : Text) → list_all is_relative_path paths ≡ true → i < length paths → path ≡ get_or paths i path → is_relative_path path ≡ true
relative_path [] i path h lt is = absurd (omega arith)
relative_path (x ∷ xs) zero path h lt is = ap is_relative_path is ∙ (and_parts (is_relative_path x) (list_all is_relative_path xs) h).0
relative_path (x ∷ xs) (suc i) path h lt is = relative_path xs i path (and_parts (is_relative_path x) (list_all is_relative_path xs) h).1 (omega arith) is
