-- First segments of packages, and what has none of them.
use Rattle.std.proofs.Common.{◌≡◌, ◌≢◌, set, Fits, w8, replicate, ◌<◌, ◌+◌, ℕ, Bool, true, false, cond, not, ◌||◌, ◌==◌, List, [], ◌∷◌, ◌++◌, length, take, drop, map, get_or, Option, Some, None, refl, sym, ap, ◌∙◌, inl, inr, arith}
use Rattle.std.specs.Prelude.{is_some, slice_get, MatchOption}
use Rattle.std.specs.List.{list_any, list_all, slice_split}
use Rattle.std.specs.Map.{lookup}
use Rattle.std.specs.Str.{bytes_eq}
use Rattle.std.specs.Ordering.{nat_cmp}
use Rattle.std.specs.Cmp.Lexicographic.{slice_cmp}
use Rattle.std.specs.FinMap as finite
use Rattle.std.specs.FinMap.{get-from_entries, get-entries}
use Rattle.std.proofs.lemmas.Cmp.{nat_list_cmp_total, nat_list_eq_equiv}
use Rattle.std.proofs.lemmas.Bool.{and_parts, and_from, both_ways, false_from_ne_true, not_from_false, eqb-true, eq-eqb, ne_eqb, cases_order}
use Rattle.std.proofs.lemmas.List.{append-nil, get_or-replicate, get_or-set_same, get_or-set_other, map_push, take_more, take-append-drop, drop_more}
use Rattle.std.proofs.lemmas.Option.{slice_get_within, get_or_from_slice_get, slice_get-get_or}
use Rattle.std.proofs.lemmas.Slice.Eq.{bytes_eq-Decides}
use Rattle.desk_base.specs.Names.{Text, Package, segments, is_whole, is_empty, same}
use Rattle.desk_properties.specs.Properties.{Entry}
use Rattle.desk_packages.specs.Renames.{Renaming, is_rename, pick, in_scope, has_source}
use Rattle.desk_packages.specs.Keys.{RiseBy, IsTable, IsNowhere, IsPlaceOf}
use Rattle.desk_packages.proofs.Same.{covers_is, same_is}
use Rattle.desk_packages.proofs.Picks.{In, Found, pick_Some, all_In}
use Rattle.desk_packages.proofs.Cuts.{split_behind, split_written}
use Rattle.desk_packages.proofs.HasSource.{any_true, any_false}
use Rattle.desk_packages.proofs.Searched.{in_at, at_in, find_nothing}
use Rattle.desk_rules.specs.RuleFiles.{in_order}
use Rattle.desk_rules.specs.RuleSets.{changing_pick, only_changing}
use Rattle.desk_rules.specs.Firsts.{has_first, begins_in, begins_as, AreFirsts, has_first_byte, AreFirstBytes, may_begin}
use Rattle.desk_entries.specs.Exchanges.{Exchange}
use Rattle.desk_rules.proofs.TextMaps.{found_value}
use Rattle.desk_rules.proofs.Ordered.{found_is, order_rises, rise_of_keys}

-- ---- collecting

any_key : (es : List Entry) (q : Text) → list_any (bytes_eq q) (map (λ (e : Entry). e.0) es) ≡ is_some (lookup (bytes_eq q) es)
any_key [] q = refl
any_key (e ∷ es) q =
    ap (λ (b : Bool). bytes_eq q e.0 || b) (any_key es q)
    ∙ elim (bytes_eq q e.0) as (λ (b : Bool). b || is_some (lookup (bytes_eq q) es) ≡ is_some (cond b (Some e.1) (lookup (bytes_eq q) es))) [ true ↦ refl | false ↦ refl ]

any_push : {A : Type 0} (test : A → Bool) (xs : List A) (x : A) → list_any test (xs ++ x ∷ []) ≡ test x || list_any test xs
any_push test [] x = refl
any_push test (y ∷ ys) x =
    ap (λ (b : Bool). test y || b) (any_push test ys x)
    ∙ elim (test y) as (λ (b : Bool). b || (test x || list_any test ys) ≡ test x || (b || list_any test ys)) [
      | true ↦ elim (test x) as (λ (b : Bool). true ≡ b || true) [ true ↦ refl | false ↦ refl ]
      | false ↦ refl
    ]

-- the keys of entries and of the same entries in order are the same
in_order_same : (es : List Entry) (q : Text) → lookup (bytes_eq q) (in_order es) ≡ lookup (bytes_eq q) es
in_order_same es q =
    sym (found_is (in_order es) q) ∙ sym (get-entries (finite.from_entries {R = slice_cmp nat_cmp} es) q) ∙ get-from_entries nat_list_cmp_total es q ∙ found_is es q

pub firsts_sorted : (renames : List Renaming) (old new : List Entry) → new ≡ in_order old → AreFirsts renames (map (λ e. e.0) old) → AreFirsts renames (map (λ e. e.0) new)
firsts_sorted renames old new is firsts = record {
  each = λ s. any_key new s ∙ ap (λ (es : List Entry). is_some (lookup (bytes_eq s) es)) is ∙ ap is_some (in_order_same old s) ∙ sym (any_key old s) ∙ firsts.each s;
}

pub firsts_none : (renames : List Renaming) (entries : List Entry) → entries ≡ [] → AreFirsts (take 0 renames) (map (λ e. e.0) entries)
firsts_none renames entries none = record { each = λ s. ap (λ (es : List Entry). list_any (bytes_eq s) (map (λ (e : Entry). e.0) es)) none }

-- one more rename whose source begins with a segment
pub firsts_more : (renames : List Renaming) (i : ℕ) (r : Renaming) (first value : Text) (old new : List Entry) → i < length renames → r ≡ get_or renames i r → ((s : Text) → has_first s r.source ≡ bytes_eq s first) → ((q : Text) → lookup (bytes_eq q) new ≡ cond (bytes_eq first q) (Some value) (lookup (bytes_eq q) old)) → AreFirsts (take i renames) (map (λ e. e.0) old) → AreFirsts (take (i + 1) renames) (map (λ e. e.0) new)
firsts_more renames i r first value old new within there begins added firsts = record {
  each = λ s.
      any_key new s ∙ ap is_some (added s)
      ∙ elim (bytes_eq first s) as (λ (b : Bool). is_some (cond b (Some value) (lookup (bytes_eq s) old)) ≡ b || is_some (lookup (bytes_eq s) old)) [ true ↦ refl | false ↦ refl ]
      ∙ ap (λ (b : Bool). b || is_some (lookup (bytes_eq s) old)) (nat_list_eq_equiv.symm first s ∙ sym (begins s))
      ∙ ap (λ (b : Bool). has_first s r.source || b) (sym (any_key old s) ∙ firsts.each s)
      ∙ sym (any_push (λ (x : Renaming). has_first s x.source) (take i renames) r)
      ∙ ap (list_any (λ (x : Renaming). has_first s x.source)) (sym (take_more renames i r within ∙ ap (λ (x : Renaming). take i renames ++ x ∷ []) (sym there)));
}

-- one more rename without a segment
pub firsts_same : (renames : List Renaming) (i : ℕ) (r : Renaming) (old new : List Entry) → i < length renames → r ≡ get_or renames i r → r.source ≡ [] → new ≡ old → AreFirsts (take i renames) (map (λ e. e.0) old) → AreFirsts (take (i + 1) renames) (map (λ e. e.0) new)
firsts_same renames i r old new within there none is firsts = record {
  each = λ s.
      ap (λ (es : List Entry). list_any (bytes_eq s) (map (λ (e : Entry). e.0) es)) is ∙ firsts.each s
      ∙ ap (λ (b : Bool). b || list_any (λ (x : Renaming). has_first s x.source) (take i renames)) (sym (ap (has_first s) none))
      ∙ sym (any_push (λ (x : Renaming). has_first s x.source) (take i renames) r)
      ∙ ap (list_any (λ (x : Renaming). has_first s x.source)) (sym (take_more renames i r within ∙ ap (λ (x : Renaming). take i renames ++ x ∷ []) (sym there)));
}

first_at : (source : Package) (x : Text) → 0 < length source → x ≡ get_or source 0 x → (s : Text) → has_first s source ≡ bytes_eq s x
first_at [] x within is s = absurd (omega arith)
first_at (y ∷ ys) x within is s = ap (bytes_eq s) (sym is)

pub first_is : (source same : Package) (x text : Text) → source ≡ same → 0 < length same → x ≡ get_or same 0 x → text ≡ x → (s : Text) → has_first s source ≡ bytes_eq s text
first_is source same x text e within is copy s = ap (has_first s) e ∙ first_at same x within is s ∙ ap (bytes_eq s) (sym copy)

pub none_there : (source : Package) → length source < 1 → source ≡ []
none_there [] none = refl
none_there (x ∷ xs) none = absurd (omega arith)

-- one more key
pub keys_more : (es : List Entry) (i : ℕ) (e : Entry) (old new : List Text) (text : Text) → old ≡ map (λ e. e.0) (take i es) → slice_get es i ≡ Some e → new ≡ old ++ text ∷ [] → text ≡ e.0 → new ≡ map (λ e. e.0) (take (i + 1) es)
keys_more es i e old new text so_far there more is =
    more ∙ ap (λ (t : Text). old ++ t ∷ []) is ∙ ap (λ (ts : List Text). ts ++ e.0 ∷ []) so_far ∙ sym (map_push (λ (x : Entry). x.0) (take i es) e)
    ∙ ap (map (λ (x : Entry). x.0)) (sym (take_more es i e (slice_get_within es i e there) ∙ ap (λ (x : Entry). take i es ++ x ∷ []) (get_or_from_slice_get es i e e there)))

-- an entry stands at each place within
pub entry_there : (es : List Entry) (i : ℕ) → slice_get es i ≡ None → i < length es → ⊥
entry_there es i none within = let some : slice_get es i ≡ Some (get_or es i ([], [])) = slice_get-get_or es i ([], []) within in absurd (cc (none, some))

-- the keys of entries in order rise
pub keys_rise : (old new : List Entry) (segments : List Text) → new ≡ in_order old → segments ≡ map (λ e. e.0) new → RiseBy (λ (s : Text). s) segments
keys_rise old new segments is these = rise_of_keys (λ (s : Text). s) segments (in_order old) (map_same segments ∙ these ∙ ap (map (λ (e : Entry). e.0)) is) (order_rises old)
  where
    map_same : (xs : List Text) → map (λ s. s) xs ≡ xs
    map_same [] = refl
    map_same (x ∷ xs) = ap (λ (ys : List Text). x ∷ ys) (map_same xs)

-- ---- the first segment of a path

filled_segments : (s : ℕ) (t : Text) → t ≢ [] → segments s t ≡ slice_split (λ b. b == s) t
filled_segments s [] filled = absurd (filled refl)
filled_segments s (b ∷ t) filled = refl

-- bytes without a separator in front of one are the first segment
pub first_cut : (s : ℕ) (path : Text) (n : ℕ) → path ≢ [] → n < length path → is_whole s (take n path) ≡ true → get_or path n 0 ≡ s → (rest : Package) × (segments s path ≡ take n path ∷ rest)
first_cut s path n filled within whole at =
    let same : path ≡ take n path ++ s ∷ drop (n + 1) path = sym (take-append-drop n path) ∙ ap (λ (t : Text). take n path ++ t) (drop_more path n 0 within ∙ ap (λ (b : ℕ). b ∷ drop (n + 1) path) at) in
    (slice_split (λ b. b == s) (drop (n + 1) path), filled_segments s path filled ∙ ap (slice_split (λ b. b == s)) same ∙ split_behind s (take n path) [] (drop (n + 1) path) (and_from _ _ whole refl))

pub first_whole : (s : ℕ) (path : Text) → path ≢ [] → is_whole s path ≡ true → (rest : Package) × (segments s path ≡ path ∷ rest)
first_whole s path filled whole = ([], filled_segments s path filled ∙ split_written s path [] (and_from _ _ whole refl))

all_push : {A : Type 0} (test : A → Bool) (xs : List A) (x : A) → list_all test xs ≡ true → test x ≡ true → list_all test (xs ++ x ∷ []) ≡ true
all_push test [] x all here = and_from _ _ here refl
all_push test (y ∷ ys) x all here = and_from _ _ (and_parts _ _ all).0 (all_push test ys x (and_parts _ _ all).1 here)

pub whole_more : (s : ℕ) (path : Text) (n : ℕ) → n < length path → is_whole s (take n path) ≡ true → get_or path n 0 ≢ s → is_whole s (take (n + 1) path) ≡ true
whole_more s path n within whole other =
    ap (is_whole s) (take_more path n 0 within) ∙ all_push (λ b. not (b == s)) (take n path) (get_or path n 0) whole (not_from_false _ (false_from_ne_true _ (λ e. other (eqb-true _ _ e))))

-- ---- looking

pub begins_by : (firsts : List Text) (path : Package) (first : Text) (found : Option ℕ) → (rest : Package) × (path ≡ first ∷ rest) → MatchOption found (IsNowhere (λ (s : Text). s) firsts first) (IsPlaceOf (λ (s : Text). s) firsts first) → is_some found ≡ begins_in firsts path
begins_by firsts path first None cut nowhere =
    sym (ap (begins_in firsts) cut.1 ∙ any_false (bytes_eq first) firsts (λ x is h.
    let at = in_at firsts x is in
    nowhere at.0 x at.1 (at.2 x ∙ sym ((bytes_eq-Decides first x).0 h))))
begins_by firsts path first (Some k) cut place =
    sym (ap (begins_in firsts) cut.1 ∙ any_true (bytes_eq first) firsts first (rw (place.1 first) at (at_in firsts k first place.0)) ((bytes_eq-Decides first first).1 refl))

-- ---- what has no first segment of these

pub begins_same : (renames : List Renaming) (firsts : List Text) → AreFirsts renames firsts → (p : Package) → begins_in firsts p ≡ begins_as renames p
begins_same renames firsts are [] = refl
begins_same renames firsts are (x ∷ p) = are.each x

one_begins : (renames : List Renaming) (p : Package) (r : Renaming) → In renames r → is_rename r ≡ true → (rest : Package) → p ≡ r.source ++ rest → begins_as renames p ≡ true
one_begins renames p r is formed rest e =
    elim (r.source) as (λ (source : Package). r.source ≡ source → begins_as renames p ≡ true) [
      | [] ↦ λ q. absurd (both_ways (not (is_empty r.source)) (ap (λ (x : Package). not (is_empty x)) q) (and_parts _ _ (and_parts _ _ formed).0).0)
      | x ∷ xs ↦ λ q.
          ap (begins_as renames) (e ∙ ap (λ (y : Package). y ++ rest) q)
          ∙ any_true (λ (y : Renaming). has_first x y.source) renames r is (ap (has_first x) q ∙ (bytes_eq-Decides x x).1 refl)
    ] refl

-- a package that begins as no rename does has none
pub none_for : (renames : List Renaming) → list_all is_rename renames ≡ true → (p : Package) → begins_as renames p ≡ false → changing_pick renames p ≡ None
none_for renames formed p none =
    elim (pick renames p) as (λ (o : Option Renaming). pick renames p ≡ o → only_changing o ≡ None) [
      | None ↦ λ e. refl
      | Some r ↦ λ e.
          let f : Found (λ (x : Renaming). in_scope x p) renames r = pick_Some renames p r e in
          absurd (both_ways _ none (one_begins renames p r f.there (all_In is_rename renames r formed f.there) _ (covers_is r.below r.source p f.passes)))
    ] refl

pub none_picked : (renames : List Renaming) → IsTable renames → (firsts : List Text) → AreFirsts renames firsts → (p : Package) → begins_in firsts p ≡ false → changing_pick renames p ≡ None
none_picked renames table firsts are p none = none_for renames table.formed p (sym (begins_same renames firsts are p) ∙ none)

pub no_source : (renames : List Renaming) → IsTable renames → (firsts : List Text) → AreFirsts renames firsts → (p : Package) → begins_in firsts p ≡ false → has_source renames p ≡ false
no_source renames table firsts are p none = any_false (λ (r : Renaming). same r.source p) renames (λ r is h.
    both_ways _ (sym (begins_same renames firsts are p) ∙ none) (one_begins renames p r is (all_In is_rename renames r table.formed is) [] (sym (append-nil r.source ∙ same_is r.source p h))))

-- ---- first bytes

abbrev pub HaveFirstBytes : {A : Type 0} → (A → Text) → List A → List Bool → Type 0
HaveFirstBytes key rules begun = AreFirstBytes key rules begun × (length begun ≡ 256)

set_byte : (begun : List Bool) (b byte : ℕ) → b < length begun → get_or (set begun b true) byte false ≡ (byte == b || get_or begun byte false)
set_byte begun b byte within =
    elim (cases_order byte b) [
      | inl same ↦ ap (λ (n : ℕ). get_or (set begun b true) n false) same ∙ get_or-set_same begun b true false within ∙ ap (λ (x : Bool). x || get_or begun byte false) (sym (eq-eqb byte b same))
      | inr apart ↦
          let other : byte ≢ b = elim apart [ inl lt ↦ λ e. absurd (omega arith) | inr gt ↦ λ e. absurd (omega arith) ] in
          get_or-set_other begun b byte true false other ∙ ap (λ (x : Bool). x || get_or begun byte false) (sym (ne_eqb byte b other))
    ]

-- one more rule, whose key begins with a byte
pub bytes_more : {A : Type 0} (key : A → Text) (rules : List A) (i : ℕ) (r : A) (b : ℕ) (old new : List Bool) → i < length rules → r ≡ get_or rules i r → ((byte : ℕ) → has_first_byte byte (key r) ≡ (byte == b)) → b < length old → new ≡ set old b true → AreFirstBytes key (take i rules) old → AreFirstBytes key (take (i + 1) rules) new
bytes_more {A} key rules i r b old new within there begins inside is bytes = record {
  each = λ byte small.
      ap (λ (l : List Bool). get_or l byte false) is ∙ set_byte old b byte inside
      ∙ ap (λ (x : Bool). byte == b || x) (bytes.each byte small) ∙ ap (λ (x : Bool). x || list_any (λ (x : A). has_first_byte byte (key x)) (take i rules)) (sym (begins byte))
      ∙ sym (any_push (λ (x : A). has_first_byte byte (key x)) (take i rules) r)
      ∙ ap (list_any (λ (x : A). has_first_byte byte (key x))) (sym (take_more rules i r within ∙ ap (λ (x : A). take i rules ++ x ∷ []) (sym there)));
}

-- one more rule, whose key is empty
pub bytes_same : {A : Type 0} (key : A → Text) (rules : List A) (i : ℕ) (r : A) (old new : List Bool) → i < length rules → r ≡ get_or rules i r → key r ≡ [] → new ≡ old → AreFirstBytes key (take i rules) old → AreFirstBytes key (take (i + 1) rules) new
bytes_same {A} key rules i r old new within there none is bytes = record {
  each = λ byte small.
      ap (λ (l : List Bool). get_or l byte false) is ∙ bytes.each byte small
      ∙ ap (λ (x : Bool). x || list_any (λ (x : A). has_first_byte byte (key x)) (take i rules)) (sym (ap (has_first_byte byte) none))
      ∙ sym (any_push (λ (x : A). has_first_byte byte (key x)) (take i rules) r)
      ∙ ap (list_any (λ (x : A). has_first_byte byte (key x))) (sym (take_more rules i r within ∙ ap (λ (x : A). take i rules ++ x ∷ []) (sym there)));
}

byte_small : (b : ℕ) → Fits w8 b → b < 256
byte_small b fits = fits.fits

pub none_begun : (byte : ℕ) → byte < 256 → get_or (replicate 256 false) byte false ≡ false
none_begun byte small = get_or-replicate 256 byte false false small

-- a text that may begin no key is none
pub no_key : (direct : List Exchange) (begun : List Bool) → AreFirstBytes (λ (d : Exchange). d.0) direct begun → (text : Text) → ((k : ℕ) → Fits w8 (get_or text k 0)) → may_begin begun text ≡ false → finite.get (finite.from_entries {R = slice_cmp nat_cmp} direct) text ≡ None
no_key direct begun bytes [] small none = absurd cc
no_key direct begun bytes (b ∷ text) small none =
    found_value direct (b ∷ text) None (sym (find_nothing (λ (d : Exchange). bytes_eq d.0 (b ∷ text)) direct (λ d is h.
    both_ways _ (sym (bytes.each b (byte_small b (small 0))) ∙ none)
    (any_true (λ (x : Exchange). has_first_byte b x.0) direct d is (ap (has_first_byte b) ((bytes_eq-Decides d.0 (b ∷ text)).0 h) ∙ eq-eqb b b refl)))))
