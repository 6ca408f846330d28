-- Files of text rules that are read, one after the other.
use Rattle.std.proofs.Common.{◌≡◌, ◌<◌, ◌+◌, ℕ, zero, suc, Bool, true, false, cond, List, [], ◌∷◌, ◌++◌, length, take, get_or, Some, Ok, refl, sym, ap, subst, ◌∙◌, arith}
use Rattle.std.specs.Map.{lookup}
use Rattle.std.specs.Str.{bytes_eq}
use Rattle.std.specs.Ordering.{nat_cmp}
use Rattle.std.specs.Cmp.Lexicographic.{slice_cmp}
use Rattle.std.proofs.lemmas.List.{length-take, take_all}
use Rattle.std.proofs.lemmas.Slice.Eq.{bytes_eq-Decides}
use Rattle.desk_base.specs.Names.{Text}
use Rattle.desk_packages.specs.Keys.{RiseBy}
use Rattle.desk_patterns.specs.TextRules.{TextRule, source_at, StandsBehind}
use Rattle.desk_patterns.specs.PatternTexts.{PatternText}
use Rattle.desk_patterns.specs.SeenTexts.{text_seen, texts_seen, ArePlaces}
use Rattle.desk_patterns.specs.declared.pattern_texts.PatternPlace.{PatternPlace}
use Rattle.desk_rules.specs.Files.{Files}
use Rattle.desk_rules.specs.TextFiles.{rule_texts, pattern_text}
use Rattle.desk_rules.specs.LoadedTexts.{StandsAt, IsLoaded, GoesOn, IsPlaceOf, IsPatternAt}
use Rattle.desk_properties.specs.Properties.{Entry}
use Rattle.std.specs.Prelude.{slice_get}
use Rattle.desk_patterns.proofs.Lists.{length_more}
use Rattle.desk_rules.proofs.TextTurns.{IsCollectedTo, collect_more}

-- the rules of a file stand in byte order of their sources

source_taken : (rules : List TextRule) (n k : ℕ) (d : TextRule) → k < n → k < length rules → source_at (take n rules) k ≡ (get_or rules k d).0
source_taken [] n k d h l = absurd (omega arith)
source_taken (r ∷ rules) zero k d h l = absurd (omega arith)
source_taken (r ∷ rules) (suc n) zero d h l = refl
source_taken (r ∷ rules) (suc n) (suc k) d h l = source_taken rules n k d (omega arith) (omega arith)

pub stands_behind : (rules : List TextRule) (n : ℕ) (x : TextRule) → RiseBy (λ r. r.0) rules → n < length rules → x ≡ get_or rules n x → StandsBehind (take n rules) x.0
stands_behind rules n x rising h e k l =
    let below : k < n = omega (arith, l, length-take n rules) in
    ap (λ (s : Text). slice_cmp nat_cmp s x.0) (source_taken rules n k x below (omega arith))
    ∙ ap (λ (r : TextRule). slice_cmp nat_cmp (get_or rules k x).0 r.0) e
    ∙ rising k n x below h

-- what there was goes on

pub goes_on_same : (rules : List (List TextRule)) → GoesOn rules rules
goes_on_same rules = record { more = omega arith; front = take_all (length rules) rules (omega arith) }

front_one : {A : Type 0} (xs : List A) (y : A) → take (length xs) (xs ++ y ∷ []) ≡ xs
front_one [] y = refl
front_one (x ∷ xs) y = ap (λ zs. x ∷ zs) (front_one xs y)

last_one : {A : Type 0} (xs : List A) (y d : A) → get_or (xs ++ y ∷ []) (length xs) d ≡ y
last_one [] y d = refl
last_one (x ∷ xs) y d = last_one xs y d

goes_on_one : (rules : List (List TextRule)) (more : List TextRule) → GoesOn rules (rules ++ more ∷ [])
goes_on_one rules more = record { more = omega (arith, length_more rules more); front = front_one rules more }

-- an element of the front
front_at : {A : Type 0} (xs ys : List A) (k : ℕ) (d : A) → take (length xs) ys ≡ xs → k < length xs → get_or ys k d ≡ get_or xs k d
front_at [] ys k d h l = absurd (omega arith)
front_at (x ∷ xs) [] k d h l = absurd cc
front_at (x ∷ xs) (y ∷ ys) zero d h l = cc
front_at (x ∷ xs) (y ∷ ys) (suc k) d h l = let rest : take (length xs) ys ≡ xs = cc in front_at xs ys k d rest (omega arith)

pub goes_on_at : (old new : List (List TextRule)) (k : ℕ) → GoesOn old new → k < length old → get_or new k [] ≡ get_or old k []
goes_on_at old new k on l = front_at old new k [] on.front l

stands_on : (files : Files) (name : Text) (old new : List (List TextRule)) (place : ℕ) → GoesOn old new → StandsAt files name old place → StandsAt files name new place
stands_on files name old new place on at = record {
  within = omega (arith, on.more, at.within);
  there = at.there ∙ ap (λ (rules : List TextRule). Ok rules) (sym (goes_on_at old new place on at.within));
}

pub place_found : (files : Files) (name : Text) (places : List (Text × ℕ)) (rules : List (List TextRule)) (place : ℕ) → IsLoaded files places rules → lookup (bytes_eq name) places ≡ Some place → IsPlaceOf files name rules places rules place
place_found files name places rules place loaded h = record { loaded = loaded; goes_on = goes_on_same rules; stands = loaded.each name place h }

pub place_added : (files : Files) (name : Text) (old places : List (Text × ℕ)) (rules new : List (List TextRule)) (more : List TextRule) (place : ℕ) → IsLoaded files old rules → rule_texts files name ≡ Ok more → new ≡ rules ++ more ∷ [] → place ≡ length rules → ((q : Text) → lookup (bytes_eq q) places ≡ cond (bytes_eq name q) (Some place) (lookup (bytes_eq q) old)) → IsPlaceOf files name rules places new place
place_added files name old places rules new more place loaded read added here updated =
    subst (λ (rs : List (List TextRule)). IsPlaceOf files name rules places rs place) (sym added)
    record {
      loaded = record {
        each = λ q n h. elim (bytes_eq name q) as (λ (b : Bool). bytes_eq name q ≡ b → cond b (Some place) (lookup (bytes_eq q) old) ≡ Some n → StandsAt files q (rules ++ more ∷ []) n) [
          | true ↦ λ e k.
              let same : name ≡ q = (bytes_eq-Decides name q).0 e in
              let at : place ≡ n = cc in
              subst (λ (t : Text). StandsAt files t (rules ++ more ∷ []) n) same (subst (StandsAt files name (rules ++ more ∷ [])) at stands)
          | false ↦ λ e k. stands_on files q rules (rules ++ more ∷ []) n (goes_on_one rules more) (loaded.each q n k)
        ] refl (sym (updated q) ∙ h);
      };
      goes_on = goes_on_one rules more;
      stands = stands;
    }
  where
    stands : StandsAt files name (rules ++ more ∷ []) place
    stands = record {
      within = omega (arith, here, length_more rules more);
      there = read ∙ ap (λ (rs : List TextRule). Ok rs) (sym (ap (λ (n : ℕ). get_or (rules ++ more ∷ []) n []) here ∙ last_one rules more []));
    }

-- patterns whose rules go on are the same
pub patterns_on : (old new : List (List TextRule)) (patterns : List PatternPlace) → GoesOn old new → ArePlaces old patterns → texts_seen new patterns ≡ texts_seen old patterns
patterns_on old new [] on places = refl
patterns_on old new (p ∷ ps) on places =
    ap (λ (rules : List TextRule). (p.pattern, rules) ∷ texts_seen new ps) (goes_on_at old new p.file on (places 0 (omega arith)))
    ∙ ap (λ (ts : List PatternText). text_seen old p ∷ ts) (patterns_on old new ps on (λ k l. places (suc k) (omega arith)))

pub places_more : (old new : List (List TextRule)) (patterns : List PatternPlace) (last : PatternPlace) → GoesOn old new → ArePlaces old patterns → last.file < length new → ArePlaces new (patterns ++ last ∷ [])
places_more old new [] last on places h zero l = h
places_more old new [] last on places h (suc k) l = absurd (omega arith)
places_more old new (p ∷ ps) last on places h zero l = omega (arith, on.more, places 0 (omega arith))
places_more old new (p ∷ ps) last on places h (suc k) l = places_more old new ps last on (λ j m. places (suc j) (omega arith)) h k (omega arith)

pub seen_one : (rules : List (List TextRule)) (patterns : List PatternPlace) (last : PatternPlace) → texts_seen rules (patterns ++ last ∷ []) ≡ texts_seen rules patterns ++ text_seen rules last ∷ []
seen_one rules [] last = refl
seen_one rules (p ∷ ps) last = ap (λ (ts : List PatternText). text_seen rules p ∷ ts) (seen_one rules ps last)

-- how far patterns were put beside their rules
pub record IsPlacedTo (files : Files) (es : List Entry) (i : ℕ) (places : List (Text × ℕ)) (rules : List (List TextRule)) (patterns : List PatternPlace) : Type 0 where
  pub turn : IsCollectedTo (pattern_text files) es i (texts_seen rules patterns)
  pub within : ArePlaces rules patterns
  pub loaded : IsLoaded files places rules

pub placed_more : (files : Files) (es : List Entry) (i : ℕ) (places next : List (Text × ℕ)) (old new : List (List TextRule)) (patterns more : List PatternPlace) (key value : Text) (last : PatternPlace) → IsPlacedTo files es i places old patterns → slice_get es i ≡ Some (key, value) → IsPatternAt files key value old next new last → more ≡ patterns ++ last ∷ [] → IsPlacedTo files es (i + 1) next new more
placed_more files es i places next old new patterns more key value last so there is added =
    subst (IsPlacedTo files es (i + 1) next new) (sym added)
    record {
      turn = collect_more (pattern_text files) es i (texts_seen old patterns) (texts_seen new (patterns ++ last ∷ [])) (key, value) (text_seen new last) so.turn there is.read
          (seen_one new patterns last ∙ ap (λ (ts : List PatternText). ts ++ text_seen new last ∷ []) (patterns_on old new patterns is.goes_on so.within));
      within = places_more old new patterns last is.goes_on so.within is.within;
      loaded = is.loaded;
    }
