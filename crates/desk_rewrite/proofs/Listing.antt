-- The wants that images, uses and numbers stand for.
use Rattle.std.proofs.Common.{◌≡◌, ℕ, zero, suc, List, [], ◌∷◌, map, length, Option, refl, ap, sym, ◌∙◌, subst, arith, All}
use denote.Ref.{Bor}
use Rattle.std.specs.List.{slice_get}
use Rattle.std.specs.Option.{option_copied}
use Rattle.std.specs.Simd.Lanes.{zip2}
use Rattle.std.proofs.lemmas.List.{length-map}
use Rattle.std.proofs.lemmas.List.Elements.{All-head, All-tail, All-cons, All-nil}
use Rattle.desk_base.specs.Names.{Text}
use Rattle.desk_base.specs.Entries.{Pool, text_at}
use Rattle.desk_base.specs.declared.kinds.Used.{Used}
use Rattle.desk_format.specs.Resolved.{Images, image}
use Rattle.desk_rules.specs.Images.{IsImage}
use Rattle.desk_new_pool.specs.Wants.{numbered, with_image}
use Rattle.desk_rewrite.specs.Tables.{Table, image_found, Finds, HasImages}
use Rattle.desk_rewrite.specs.Wanting.{used_in, IsWantedUnder}

-- the image that is found for a use
abbrev pub found_of : Table → Used → Option Text
found_of table u = image_found table u.index u.role

-- numbers of the images that are found for uses
abbrev pub AreNumbers : Table → List Used → List ℕ → Type 0
AreNumbers table us ns = map (numbered table.images.items) ns ≡ map (found_of table) us

pub numbers_long : (table : Table) (us : List Used) (ns : List ℕ) → AreNumbers table us ns → length ns ≡ length us
numbers_long table us ns h = sym (length-map ns (numbered table.images.items)) ∙ ap length h ∙ length-map us (found_of table)

-- the uses stay as they are
pub uses_listed : (images : List (Bor Text)) (us : List Used) (ns : List ℕ) → length ns ≡ length us → map used_in (zip2 (with_image images) us ns) ≡ us
uses_listed images [] ns e = refl
uses_listed images (u ∷ us) [] e = absurd (omega arith)
uses_listed images (u ∷ us) (n ∷ ns) e = ap (λ (vs : List Used). u ∷ vs) (uses_listed images us ns (omega arith))

get_copied : (images : List (Bor Text)) (k : ℕ) → option_copied (slice_get images k) ≡ slice_get (map (λ (t : Bor Text). t.now) images) k
get_copied [] k = refl
get_copied (t ∷ ts) zero = refl
get_copied (t ∷ ts) (suc k) = get_copied ts k

copied : (images : List (Bor Text)) (n : ℕ) → option_copied (numbered images n) ≡ numbered (map (λ (t : Bor Text). t.now) images) n
copied images zero = refl
copied images (suc k) = get_copied images k

module _ (im : Images) (pool : Pool) (table : Table) (images : List (Bor Text)) (same : map (λ (t : Bor Text). t.now) images ≡ table.images.items) where
  wanted_under : (u : Used) (n : ℕ) → numbered table.images.items n ≡ found_of table u → Finds im pool table u.role u.index → IsWantedUnder im pool (with_image images u n)
  wanted_under u n e h =
      subst (IsImage (text_at pool u.index) (image im u.role (text_at pool u.index))) (sym (copied images n ∙ ap (λ (l : List Text). numbered l n) same ∙ e)) h

  -- each use wants the image of its text
  pub listed_under : (us : List Used) (ns : List ℕ) → AreNumbers table us ns → HasImages im pool us table → All (IsWantedUnder im pool) (zip2 (with_image images) us ns)
  listed_under [] ns e h = All-nil (IsWantedUnder im pool)
  listed_under (u ∷ us) [] e h = All-nil (IsWantedUnder im pool)
  listed_under (u ∷ us) (n ∷ ns) e h =
      let here : numbered table.images.items n ≡ found_of table u = cc in
      let behind : AreNumbers table us ns = cc in
      All-cons (IsWantedUnder im pool) (with_image images u n) (zip2 (with_image images) us ns)
      (wanted_under u n here (All-head (λ (v : Used). Finds im pool table v.role v.index) u us h))
      (listed_under us ns behind (All-tail (λ (v : Used). Finds im pool table v.role v.index) u us h))
