-- What uses want is what the definitions say.
use Rattle.std.proofs.Common.{◌≡◌, ℕ, ◌+◌, ◌<◌, ◌≤◌, ◌^◌, Bool, false, not, cond, List, [], ◌∷◌, map, length, Option, Some, None, option_map, refl, ap, ap₂, sym, ◌∙◌, subst, bytes_eq, count_by, arith, All}
use denote.Ref.{Bor}
use Rattle.std.specs.List.{AllByRecursion}
use Rattle.std.specs.Option.{is_some, option_copied}
use Rattle.std.proofs.lemmas.List.Elements.{All-head, All-tail, All-cons, All-nil}
use Rattle.std.proofs.lemmas.List.Sums.{sum_by-cons}
use Rattle.std.proofs.lemmas.Slice.Eq.{bytes_eq-Decides}
use Rattle.desk_base.specs.Names.{Text}
use Rattle.desk_base.specs.Referents.{fits}
use Rattle.std.proofs.lemmas.List.{length-map}
use Rattle.desk_new_pool.proofs.Texts.{entry_of_text, text_in_range}
use Rattle.desk_base.specs.Entries.{Entry, utf8, tag_of, Pool, entry_at, utf8_in, text_in, text_at}
use Rattle.desk_base.specs.declared.kinds.Used.{Used}
use Rattle.desk_base.specs.Utf8.{bad_form}
use Rattle.desk_format.specs.Resolved.{Images, image}
use Rattle.desk_format.specs.Split.{Want}
use Rattle.desk_format.specs.NewPool.{want_in_role, wants}
use Rattle.desk_rules.specs.Images.{IsImage}
use Rattle.desk_laws.specs.Sound.{IsTwoBytes, IsShaped}
use Rattle.desk_laws.proofs.Bodies.{NamesText, sound_at}
use Rattle.desk_laws.proofs.Moved.{any_text, is_utf8}
use Rattle.desk_laws.proofs.Stable.{Own}
use Rattle.desk_new_pool.proofs.Wanted.{other}
use Rattle.desk_new_pool.specs.Wants.{image_or, want_of, wants_of, Differs, IsWanted}
use Rattle.desk_new_pool.specs.declared.wants.WantedText.{WantedText}
use Rattle.desk_rewrite.specs.Counts.{is_renamed}
use Rattle.desk_rewrite.specs.Wanting.{used_in, has_other, IsWantedUnder}

-- ---- wants

image_is : (own image : Text) (o : Option (Bor Text)) → IsImage own image (option_copied o) → image_or own o ≡ image
image_is own image None h = sym h
image_is own image (Some t) h = h.0

abbrev wanted_text : ℕ → Text → Want
wanted_text i t = record { index = i; text = t }

want_same : (im : Images) (pool : Pool) (w : WantedText) → IsWantedUnder im pool w → want_of pool w ≡ want_in_role im pool w.used.role w.used.index
want_same im pool w h = ap (wanted_text w.used.index) (image_is (text_at pool w.used.index) (image im w.used.role (text_at pool w.used.index)) w.image h)

wants_same : (im : Images) (pool : Pool) (ws : List WantedText) → All (IsWantedUnder im pool) ws → wants_of pool ws ≡ wants im pool (map used_in ws)
wants_same im pool [] h = refl
wants_same im pool (w ∷ ws) h = ap₂ (λ (v : Want) (vs : List Want). v ∷ vs) (want_same im pool w (All-head (IsWantedUnder im pool) w ws h)) (wants_same im pool ws (All-tail (IsWantedUnder im pool) w ws h))

pub wants_are : (im : Images) (pool : Pool) (us : List Used) (ws : List WantedText) → map used_in ws ≡ us → All (IsWantedUnder im pool) ws → wants_of pool ws ≡ wants im pool us
wants_are im pool us ws e h = wants_same im pool ws h ∙ ap (wants im pool) e

-- ---- wants

text_is : (pool : Pool) (i : ℕ) (t : Text) → entry_at pool i ≡ Some (utf8 t) → text_at pool i ≡ t
text_is pool i t e = ap text_in e

differs : (own image : Text) (o : Option (Bor Text)) → IsImage own image (option_copied o) → Differs own o
differs own image None h = tt
differs own image (Some t) h = λ e. h.1 (sym (h.0) ∙ e)

is_wanted_text : (im : Images) (pool : Pool) (w : WantedText) → IsShaped false pool → NamesText pool w.used → IsWantedUnder im pool w → IsWanted pool w
is_wanted_text im pool w shaped named h =
    let p = is_utf8 (entry_at pool w.used.index) named in
    let sound : IsTwoBytes (length p.0) × (bad_form p.0 ≡ None) = sound_at false pool w.used.index (utf8 p.0) shaped p.1 in
    let own : text_at pool w.used.index ≡ p.0 = text_is pool w.used.index p.0 p.1 in
    record {
      names = (p.0, ap utf8_in p.1);
      short = subst (λ (t : Text). length t < 2 ^ 16) (sym own) (sound.0);
      differs = differs (text_at pool w.used.index) (image im w.used.role (text_at pool w.used.index)) w.image h;
    }

pub are_wanted : (im : Images) (pool : Pool) (ws : List WantedText) → IsShaped false pool → AllByRecursion (NamesText pool) (map used_in ws) → All (IsWantedUnder im pool) ws → All (IsWanted pool) ws
are_wanted im pool [] shaped named h = All-nil (IsWanted pool)
are_wanted im pool (w ∷ ws) shaped named h =
    All-cons (IsWanted pool) w ws (is_wanted_text im pool w shaped (named.0) (All-head (IsWantedUnder im pool) w ws h)) (are_wanted im pool ws shaped (named.1) (All-tail (IsWantedUnder im pool) w ws h))

-- each use names an index of the pool
pub within : (pool : Pool) (us : List Used) → AllByRecursion (NamesText pool) us → All (λ (u : Used). u.index ≤ length pool) us
within pool [] named = All-nil (λ (u : Used). u.index ≤ length pool)
within pool (u ∷ us) named =
    let p = is_utf8 (entry_at pool u.index) named.0 in
    All-cons (λ (v : Used). v.index ≤ length pool) u us (text_in_range pool u.index p.0 (ap utf8_in p.1)) (within pool us named.1)

-- ---- counts

other_is : (own image : Text) (o : Option (Bor Text)) → IsImage own image (option_copied o) → is_some o ≡ not (bytes_eq image own)
other_is own image None h = sym (ap not ((bytes_eq-Decides image own).1 h))
other_is own image (Some t) h = sym (ap not (other image own (h.1)))

renamed_same : (im : Images) (pool : Pool) (ws : List WantedText) → All (IsWantedUnder im pool) ws → count_by has_other ws ≡ count_by (is_renamed im pool) (map used_in ws)
renamed_same im pool [] h = refl
renamed_same im pool (w ∷ ws) h =
    sum_by-cons (λ (v : WantedText). cond (has_other v) 1 0) w ws
    ∙ ap₂ (λ (b : Bool) (n : ℕ). cond b 1 0 + n) (other_is (text_at pool w.used.index) (image im w.used.role (text_at pool w.used.index)) w.image (All-head (IsWantedUnder im pool) w ws h))
    (renamed_same im pool ws (All-tail (IsWantedUnder im pool) w ws h))
    ∙ sym (sum_by-cons (λ (u : Used). cond (is_renamed im pool u) 1 0) w.used (map used_in ws))

pub renamed_are : (im : Images) (pool : Pool) (us : List Used) (ws : List WantedText) → map used_in ws ≡ us → All (IsWantedUnder im pool) ws → count_by has_other ws ≡ count_by (is_renamed im pool) us
renamed_are im pool us ws e h = renamed_same im pool ws h ∙ ap (count_by (is_renamed im pool)) e

-- ---- where no image is another text

-- the text of a use is its own image
abbrev pub IsOwn : Images → Pool → Used → Type 0
IsOwn im pool u = image im u.role (text_at pool u.index) ≡ text_at pool u.index

own_want : (im : Images) (pool : Pool) (u : Used) → NamesText pool u → IsOwn im pool u → Own pool (want_in_role im pool u.role u.index)
own_want im pool u named same =
    let p = is_utf8 (entry_at pool u.index) named in
    let own : text_at pool u.index ≡ p.0 = text_is pool u.index p.0 p.1 in
    record { names = p.1 ∙ ap (λ (t : Text). Some (utf8 t)) (sym own ∙ sym same) }

pub own_wants : (im : Images) (pool : Pool) (us : List Used) → AllByRecursion (NamesText pool) us → All (IsOwn im pool) us → AllByRecursion (Own pool) (wants im pool us)
own_wants im pool [] named h = tt
own_wants im pool (u ∷ us) named h = (own_want im pool u (named.0) (All-head (IsOwn im pool) u us h), own_wants im pool us (named.1) (All-tail (IsOwn im pool) u us h))

pub none_renamed : (im : Images) (pool : Pool) (us : List Used) → All (IsOwn im pool) us → count_by (is_renamed im pool) us ≡ 0
none_renamed im pool [] h = refl
none_renamed im pool (u ∷ us) h =
    sum_by-cons (λ (v : Used). cond (is_renamed im pool v) 1 0) u us
    ∙ ap₂ (λ (b : Bool) (n : ℕ). cond b 1 0 + n)
    (ap not ((bytes_eq-Decides (image im u.role (text_at pool u.index)) (text_at pool u.index)).1 (All-head (IsOwn im pool) u us h)))
    (none_renamed im pool us (All-tail (IsOwn im pool) u us h))

-- ---- the uses of wants name texts

want_named : (pool : Pool) (w : WantedText) → IsWanted pool w → NamesText pool w.used
want_named pool w h = ap (λ (o : Option Entry). fits any_text (option_map tag_of o)) (entry_of_text pool w.used.index h.names.0 h.names.1)

pub wants_named : (pool : Pool) (ws : List WantedText) → All (IsWanted pool) ws → AllByRecursion (NamesText pool) (map used_in ws)
wants_named pool [] h = tt
wants_named pool (w ∷ ws) h = (want_named pool w (All-head (IsWanted pool) w ws h), wants_named pool ws (All-tail (IsWanted pool) w ws h))

pub wants_few : (ws : List WantedText) (us : List Used) → map used_in ws ≡ us → length us < 2 ^ 32 → length ws < 2 ^ 32
wants_few ws us e h = let same : length (map used_in ws) ≡ length ws = length-map ws used_in in let long : length (map used_in ws) ≡ length us = ap length e in omega arith
