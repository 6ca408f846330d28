-- The pieces of a text, from one source to the next.
use Rattle.std.proofs.Common.{◌≡◌, ◌<◌, ◌≤◌, ◌+◌, ◌-◌, ℕ, zero, suc, Bool, true, false, cond, not, List, [], ◌∷◌, ◌++◌, map, length, take, drop, Option, Some, None, refl, sym, ap, ◌∙◌, arith, append_assoc, add-zero}
use Rattle.std.specs.Str.{bytes_eq}
use Rattle.std.proofs.lemmas.List.{drop_all, length-drop, length-take, drop-drop}
use Rattle.std.proofs.lemmas.Bool.{not-false, not-true}
use Rattle.desk_base.specs.Names.{Text}
use Rattle.desk_patterns.specs.TextRules.{TextRule, Hit, longest}
use Rattle.desk_patterns.specs.Seen.{NoHits, IsPlaceFrom}
use Rattle.desk_patterns.specs.declared.text_rules.TextPlace.{TextPlace}
use Rattle.desk_textrules.specs.TextImages.{Piece, cut_at, pieces_behind, pieces, written, count_changed, first_changed, replaced, unsettled}
use Rattle.desk_textrules.specs.TextImages.Piece.{stays, exchanged}

-- bytes that are passed over
behind : (rules : List TextRule) (n : ℕ) (t : Text) → pieces_behind rules n t ≡ pieces rules (drop n t)
behind rules zero t = refl
behind rules (suc n) [] = refl
behind rules (suc n) (b ∷ t) = behind rules n t

pub byte_first : (rules : List TextRule) (b : ℕ) (t : Text) → longest rules (b ∷ t) ≡ None → pieces rules (b ∷ t) ≡ stays b ∷ pieces rules t
byte_first rules b t h = ap (λ (o : Option Hit). cut_at o b t (λ n. pieces_behind rules n t)) h

abbrev a_hit : ℕ → Text → Hit
a_hit taken target = record { taken = taken; target = target }

pub source_first : (rules : List TextRule) (text : Text) (taken : ℕ) (target : Text) → longest rules text ≡ Some (a_hit taken target) → 0 < taken → taken ≤ length text → pieces rules text ≡ exchanged (take taken text) target ∷ pieces rules (drop taken text)
source_first rules [] taken target h some inside = absurd (omega arith)
source_first rules (b ∷ t) zero target h some inside = absurd (omega arith)
source_first rules (b ∷ t) (suc m) target h some inside =
    let less : suc m - 1 ≡ m = omega arith in
    ap (λ (o : Option Hit). cut_at o b t (λ n. pieces_behind rules n t)) h
    ∙ ap (λ (n : ℕ). exchanged (take (suc m) (b ∷ t)) target ∷ pieces_behind rules n t) less
    ∙ ap (λ (ps : List Piece). exchanged (take (suc m) (b ∷ t)) target ∷ ps) (behind rules m t)

-- bytes at which no source starts stay
pub bytes_first : (rules : List TextRule) (t : Text) (n : ℕ) → n ≤ length t → ((k : ℕ) → k < n → longest rules (drop k t) ≡ None) → pieces rules t ≡ map stays (take n t) ++ pieces rules (drop n t)
bytes_first rules t zero h none = refl
bytes_first rules [] (suc n) h none = absurd (omega arith)
bytes_first rules (b ∷ t) (suc n) h none =
    byte_first rules b t (none 0 (omega arith))
    ∙ ap (λ (ps : List Piece). stays b ∷ ps) (bytes_first rules t n (omega arith) (λ k l. none (suc k) (omega arith)))

-- what bytes that stay give
pub written_bytes : (bs : Text) (ps : List Piece) → written (map stays bs ++ ps) ≡ bs ++ written ps
written_bytes [] ps = refl
written_bytes (b ∷ bs) ps = ap (λ (t : Text). b ∷ t) (written_bytes bs ps)

pub count_bytes : (bs : Text) (ps : List Piece) → count_changed (map stays bs ++ ps) ≡ count_changed ps
count_bytes [] ps = refl
count_bytes (b ∷ bs) ps = count_bytes bs ps

pub first_bytes : (bs : Text) (ps : List Piece) (at : ℕ) → first_changed at (map stays bs ++ ps) ≡ first_changed (at + length bs) ps
first_bytes [] ps at = ap (λ (n : ℕ). first_changed n ps) (sym (add-zero at))
first_bytes (b ∷ bs) ps at =
    let more : at + 1 + length bs ≡ at + suc (length bs) = omega arith in
    first_bytes bs ps (at + 1) ∙ ap (λ (n : ℕ). first_changed n ps) more

-- the rest of a text, up to the first source in it
pub record IsSourceAt (rules : List TextRule) (text : Text) (from at taken : ℕ) (target : Text) : Type 0 where
  pub low : from ≤ at
  pub before : NoHits rules text from at
  pub hit : longest rules (drop at text) ≡ Some (a_hit taken target)
  pub some : 0 < taken
  pub inside : at + taken ≤ length text

-- the next source, as it was found
pub source_found : (rules : List TextRule) (text : Text) (from : ℕ) (place : TextPlace) → IsPlaceFrom rules text from place → IsSourceAt rules text from place.at place.hit.taken place.hit.target.now
source_found rules text from place is = record { low = is.low; before = is.before; hit = sym is.hit; some = is.some; inside = is.inside }

abbrev pub source_in : Text → ℕ → ℕ → Text
source_in text at taken = take taken (drop at text)

abbrev pub bytes_in : Text → ℕ → ℕ → Text
bytes_in text from to = take (to - from) (drop from text)

none_here : (rules : List TextRule) (text : Text) (from to : ℕ) → NoHits rules text from to → (k : ℕ) → k < to - from → longest rules (drop k (drop from text)) ≡ None
none_here rules text from to none k l = ap (longest rules) (drop-drop k from text) ∙ none (from + k) (omega arith) (omega arith)

pub up_to : (rules : List TextRule) (text : Text) (from to : ℕ) → from ≤ to → to ≤ length text → NoHits rules text from to → pieces rules (drop from text) ≡ map stays (bytes_in text from to) ++ pieces rules (drop to text)
up_to rules text from to h within none =
    let place : from + (to - from) ≡ to = omega arith in
    bytes_first rules (drop from text) (to - from) (omega (arith, length-drop from text)) (none_here rules text from to none)
    ∙ ap (λ (t : Text). map stays (bytes_in text from to) ++ pieces rules t) (drop-drop (to - from) from text ∙ ap (λ (n : ℕ). drop n text) place)

pub next_pieces : (rules : List TextRule) (text : Text) (from at taken : ℕ) (target : Text) → IsSourceAt rules text from at taken target → pieces rules (drop from text) ≡ map stays (bytes_in text from at) ++ (exchanged (source_in text at taken) target ∷ pieces rules (drop (at + taken) text))
next_pieces rules text from at taken target is =
    up_to rules text from at is.low (omega (arith, is.inside)) is.before
    ∙ ap (λ (ps : List Piece). map stays (bytes_in text from at) ++ ps) (source_first rules (drop at text) taken target is.hit is.some (omega (arith, is.inside, length-drop at text)))
    ∙ ap (λ (t : Text). map stays (bytes_in text from at) ++ (exchanged (source_in text at taken) target ∷ pieces rules t)) (drop-drop taken at text)

pub bytes_length : (text : Text) (from to : ℕ) → from ≤ to → to ≤ length text → from + length (bytes_in text from to) ≡ to
bytes_length text from to h within = omega (arith, length-take (to - from) (drop from text), length-drop from text)

source_length : (text : Text) (at taken : ℕ) → at + taken ≤ length text → length (source_in text at taken) ≡ taken
source_length text at taken h = omega (arith, length-take taken (drop at text), length-drop at text)

-- how far a text is replaced
pub record IsReplacedTo (rules : List TextRule) (text : Text) (done : ℕ) (bytes : Text) (changed : ℕ) : Type 0 where
  pub within : done ≤ length text
  pub bytes_are : replaced rules text ≡ bytes ++ written (pieces rules (drop done text))
  pub changed_is : count_changed (pieces rules text) ≡ changed + count_changed (pieces rules (drop done text))
  pub few : changed ≤ done

pub replaced_more : (rules : List TextRule) (text : Text) (done : ℕ) (bytes : Text) (changed at taken : ℕ) (target next : Text) (more : ℕ) → IsReplacedTo rules text done bytes changed → IsSourceAt rules text done at taken target → next ≡ (bytes ++ bytes_in text done at) ++ target → more ≡ changed + cond (not (bytes_eq target (source_in text at taken))) 1 0 → IsReplacedTo rules text (at + taken) next more
replaced_more rules text done bytes changed at taken target next more so is e counted =
    let rest : List Piece = pieces rules (drop (at + taken) text) in
    let source : Text = source_in text at taken in
    let cut = next_pieces rules text done at taken target is in
    let one : count_changed (pieces rules (drop done text)) ≡ cond (bytes_eq target source) 0 1 + count_changed rest = ap count_changed cut ∙ count_bytes (bytes_in text done at) (exchanged source target ∷ rest) in
    record {
      within = is.inside;
      bytes_are =
          so.bytes_are
          ∙ ap (λ (ps : List Piece). bytes ++ written ps) cut
          ∙ ap (λ (t : Text). bytes ++ t) (written_bytes (bytes_in text done at) (exchanged source target ∷ rest))
          ∙ sym (append_assoc bytes (bytes_in text done at) (target ++ written rest))
          ∙ sym (append_assoc (bytes ++ bytes_in text done at) target (written rest))
          ∙ ap (λ (t : Text). t ++ written rest) (sym e);
      changed_is = omega (arith, so.changed_is, one, counted, both (bytes_eq target source));
      few = omega (arith, so.few, counted, at_most (bytes_eq target source), is.low, is.some);
    }
  where
    both : (b : Bool) → ◌≡◌ {A = ℕ} (cond (not b) 1 0) (cond b 0 1)
    both true = refl
    both false = refl

    at_most : (b : Bool) → cond (not b) 1 0 ≤ 1
    at_most true = omega arith
    at_most false = omega arith

-- where no source is left
pub last_bytes : (rules : List TextRule) (text : Text) (done : ℕ) → done ≤ length text → NoHits rules text done (length text) → pieces rules (drop done text) ≡ map stays (bytes_in text done (length text)) ++ []
last_bytes rules text done within none =
    up_to rules text done (length text) within (omega arith) none
    ∙ ap (λ (t : Text). map stays (bytes_in text done (length text)) ++ pieces rules t) (drop_all (length text) text (omega arith))

append_nothing : (t : Text) → t ++ [] ≡ t
append_nothing [] = refl
append_nothing (b ∷ t) = ap (λ (s : Text). b ∷ s) (append_nothing t)

pub all_replaced : (rules : List TextRule) (text : Text) (done : ℕ) (bytes : Text) (changed : ℕ) → IsReplacedTo rules text done bytes changed → NoHits rules text done (length text) → bytes ++ bytes_in text done (length text) ≡ replaced rules text
all_replaced rules text done bytes changed so none =
    sym (so.bytes_are
    ∙ ap (λ (ps : List Piece). bytes ++ written ps) (last_bytes rules text done so.within none)
    ∙ ap (λ (t : Text). bytes ++ t) (written_bytes (bytes_in text done (length text)) [] ∙ append_nothing (bytes_in text done (length text))))

pub all_counted : (rules : List TextRule) (text : Text) (done : ℕ) (bytes : Text) (changed : ℕ) → IsReplacedTo rules text done bytes changed → NoHits rules text done (length text) → changed ≡ count_changed (pieces rules text)
all_counted rules text done bytes changed so none =
    omega (arith, so.changed_is, ap count_changed (last_bytes rules text done so.within none) ∙ count_bytes (bytes_in text done (length text)) [])

-- how far no source is exchanged for another text
pub record IsSettledTo (rules : List TextRule) (text : Text) (done : ℕ) : Type 0 where
  pub within : done ≤ length text
  pub same : unsettled rules text ≡ first_changed done (pieces rules (drop done text))

next_source : (rules : List TextRule) (text : Text) (done at taken : ℕ) (target : Text) → IsSettledTo rules text done → IsSourceAt rules text done at taken target → unsettled rules text ≡ cond (bytes_eq target (source_in text at taken)) (first_changed (at + length (source_in text at taken)) (pieces rules (drop (at + taken) text))) (Some at)
next_source rules text done at taken target so is =
    so.same
    ∙ ap (first_changed done) (next_pieces rules text done at taken target is)
    ∙ first_bytes (bytes_in text done at) (exchanged (source_in text at taken) target ∷ pieces rules (drop (at + taken) text)) done
    ∙ ap (λ (n : ℕ). first_changed n (exchanged (source_in text at taken) target ∷ pieces rules (drop (at + taken) text))) (bytes_length text done at is.low (omega (arith, is.inside)))

pub settled_more : (rules : List TextRule) (text : Text) (done at taken : ℕ) (target : Text) → IsSettledTo rules text done → IsSourceAt rules text done at taken target → not (bytes_eq target (source_in text at taken)) ≡ false → IsSettledTo rules text (at + taken)
settled_more rules text done at taken target so is same = record {
  within = is.inside;
  same =
      next_source rules text done at taken target so is
      ∙ ap (λ (b : Bool). cond b (first_changed (at + length (source_in text at taken)) (pieces rules (drop (at + taken) text))) (Some at)) (not-false (bytes_eq target (source_in text at taken)) same)
      ∙ ap (λ (n : ℕ). first_changed (at + n) (pieces rules (drop (at + taken) text))) (source_length text at taken is.inside);
}

pub unsettled_here : (rules : List TextRule) (text : Text) (done at taken : ℕ) (target : Text) → IsSettledTo rules text done → IsSourceAt rules text done at taken target → not (bytes_eq target (source_in text at taken)) ≡ true → Some at ≡ unsettled rules text
unsettled_here rules text done at taken target so is other =
    sym (next_source rules text done at taken target so is
    ∙ ap (λ (b : Bool). cond b (first_changed (at + length (source_in text at taken)) (pieces rules (drop (at + taken) text))) (Some at)) (not-true (bytes_eq target (source_in text at taken)) other))

pub all_settled : (rules : List TextRule) (text : Text) (done : ℕ) → IsSettledTo rules text done → NoHits rules text done (length text) → None ≡ unsettled rules text
all_settled rules text done so none =
    sym (so.same ∙ ap (first_changed done) (last_bytes rules text done so.within none) ∙ first_bytes (bytes_in text done (length text)) [] done)
