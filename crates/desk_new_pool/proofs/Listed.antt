-- The list that uses, numbers and images stand for.
use Rattle.std.proofs.Common.{◌≡◌, ℕ, ◌<◌, List, length, get_or, Option, Some, ap, sym, ◌∙◌, arith}
use denote.Ref.{Bor}
use Rattle.std.specs.List.{slice_get}
use Rattle.std.specs.Simd.Lanes.{zip2}
use Rattle.std.proofs.lemmas.Option.{slice_get-get_or}
use Rattle.std.proofs.lemmas.Simd.{length-zip2, get_or-zip2}
use Rattle.desk_base.specs.Names.{Text}
use Rattle.desk_base.specs.declared.kinds.Used.{Used}
use Rattle.desk_new_pool.specs.Wants.{numbered, with_image}
use Rattle.desk_new_pool.specs.declared.wants.WantedText.{WantedText}

pub length-listed : (images : List (Bor Text)) (us : List Used) (ns : List ℕ) (ws : List WantedText) → length ns ≡ length us → zip2 (with_image images) us ns ≡ ws → length ws ≡ length us
length-listed images us ns ws long is = ap length (sym is) ∙ length-zip2 (with_image images) us ns (sym long)

-- the use at a place has the image of the number there
pub listed_at : (images : List (Bor Text)) (us : List Used) (ns : List ℕ) (ws : List WantedText) (k n : ℕ) (d : Used) (o : Option (Bor Text)) → length ns ≡ length us → zip2 (with_image images) us ns ≡ ws → k < length us → n ≡ get_or ns k n → o ≡ numbered images n
    → slice_get ws k ≡ Some (record { used = get_or us k d; image = o })
listed_at images us ns ws k n d o long is lt read image =
    let all : length (zip2 (with_image images) us ns) ≡ length us = length-zip2 (with_image images) us ns (sym long) in
    let one : WantedText = record { used = d; image = o } in
    ap (λ (vs : List WantedText). slice_get vs k) (sym is)
    ∙ slice_get-get_or (zip2 (with_image images) us ns) k one (omega arith)
    ∙ ap (λ (w : WantedText). Some w) (get_or-zip2 (with_image images) us ns k d n one lt (omega arith))
    ∙ ap (λ (m : ℕ). Some (with_image images (get_or us k d) m)) (sym read)
    ∙ ap (λ (i : Option (Bor Text)). Some (record { used = get_or us k d; image = i })) (sym image)
