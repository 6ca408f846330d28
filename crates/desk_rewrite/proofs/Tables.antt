-- Tables of images.
use Rattle.std.proofs.Common.{◌≡◌, ◌⊎◌, ℕ, zero, suc, ◌+◌, ◌<◌, ◌≤◌, Bool, true, false, cond, ◌||◌, List, [], ◌∷◌, ◌++◌, length, get_or, take, set, replicate, Option, Some, None, refl, ap, sym, ◌∙◌, subst, arith, All, inl, inr}
use Rattle.std.specs.Ordering.{nat_cmp, is_eq, ordering_then}
use Rattle.std.specs.declared.cmp.Ordering.{Ordering}
use Rattle.std.specs.declared.cmp.Ordering.TheVariants.{Equal}
use Rattle.std.proofs.lemmas.Bool.{eq-eqb, le-ltb, or_cases, cases_eq}
use Rattle.std.proofs.lemmas.List.{length-append, length-set, get_or-set_same}
use Rattle.std.proofs.lemmas.Option.{slice_get-get_or}
use Rattle.std.specs.List.{slice_get}
use Rattle.std.proofs.lemmas.List.Elements.{All-more, All-weaker}
use Rattle.std.proofs.lemmas.Map.Lookups.{exact_pairs, exact_unsigned}
use Rattle.desk_base.specs.Names.{Text}
use Rattle.desk_base.specs.Entries.{Pool, text_at}
use Rattle.desk_base.specs.declared.kinds.Role.{Role}
use Rattle.desk_base.specs.declared.kinds.Role.TheVariants as roles
use Rattle.desk_base.specs.declared.kinds.Used.{Used}
use Rattle.desk_base.proofs.Orderings.{equal_is}
use Rattle.desk_format.specs.Resolved.{Images, image}
use Rattle.desk_rules.specs.Images.{IsImage}
use Rattle.desk_new_pool.specs.Wants.{numbered}
use Rattle.desk_rewrite.specs.declared.table.TextRole.{TextRole}
use Rattle.desk_rewrite.specs.declared.table.TextRole.TheVariants as text_roles
use Rattle.desk_rewrite.specs.declared.seen.ByRole.{ByRole}
use Rattle.desk_rewrite.specs.declared.seen.Looked.{Looked}
use Rattle.desk_rewrite.specs.declared.seen.Looked.TheVariants as looks
use Rattle.desk_rewrite.specs.Tables.{rank, role_of, text_role_of, Key, key_cmp, looked_of, looked_in, looked_at, Notes, was_looked_at, number_of, Table, is_seen, number_at, image_at, IsNumberedTable, IsAnswer, FindsAt, found_by, image_found, Finds, HasImages}

-- ---- equal keys

abbrev role_at : ℕ → TextRole
role_at zero = text_roles.Class
role_at (suc zero) = text_roles.Package
role_at (suc (suc zero)) = text_roles.Descriptor
role_at (suc (suc (suc zero))) = text_roles.ClassSig
role_at (suc (suc (suc (suc zero)))) = text_roles.MethodSig
role_at (suc (suc (suc (suc (suc zero))))) = text_roles.FieldSig
role_at _ = text_roles.Str

role_at-rank : (k : TextRole) → role_at (rank k) ≡ k
role_at-rank text_roles.Class = refl
role_at-rank text_roles.Package = refl
role_at-rank text_roles.Descriptor = refl
role_at-rank text_roles.ClassSig = refl
role_at-rank text_roles.MethodSig = refl
role_at-rank text_roles.FieldSig = refl
role_at-rank text_roles.Str = refl

rank_same : (a b : TextRole) → nat_cmp (rank a) (rank b) ≡ Equal → a ≡ b
rank_same a b e = sym (role_at-rank a) ∙ ap role_at (exact_unsigned (rank a) (rank b) e) ∙ role_at-rank b

key_same : (x y : Key) → is_eq (key_cmp x y) ≡ true → x ≡ y
key_same x y h = exact_pairs nat_cmp (λ (a b : TextRole). nat_cmp (rank a) (rank b)) exact_unsigned rank_same x y (equal_is (key_cmp x y) h)

-- the key itself
number_self : (n : ℕ) → nat_cmp n n ≡ Equal
number_self n = rw (le-ltb n n (omega arith), eq-eqb n n refl) refl

key_self : (key : Key) → is_eq (key_cmp key key) ≡ true
key_self key = ap (λ (r : Ordering). is_eq (ordering_then r (nat_cmp (rank key.1) (rank key.1)))) (number_self key.0) ∙ ap is_eq (number_self (rank key.1))

-- ---- roles

pub role_is : (role : Role) (k : TextRole) → text_role_of role ≡ Some k → role ≡ role_of k
role_is roles.Class k f = let same : text_roles.Class ≡ k = cc in ap role_of same
role_is roles.Package k f = let same : text_roles.Package ≡ k = cc in ap role_of same
role_is roles.Module k f = absurd cc
role_is roles.Descriptor k f = let same : text_roles.Descriptor ≡ k = cc in ap role_of same
role_is roles.ClassSig k f = let same : text_roles.ClassSig ≡ k = cc in ap role_of same
role_is roles.MethodSig k f = let same : text_roles.MethodSig ≡ k = cc in ap role_of same
role_is roles.FieldSig k f = let same : text_roles.FieldSig ≡ k = cc in ap role_of same
role_is roles.Str k f = let same : text_roles.Str ≡ k = cc in ap role_of same
role_is roles.Plain k f = absurd cc
role_is roles.AttrName k f = absurd cc

-- ---- numbers of images

get_front : {A : Type 0} (xs ys : List A) (k : ℕ) → k < length xs → slice_get (xs ++ ys) k ≡ slice_get xs k
get_front [] ys k lt = absurd (omega arith)
get_front (x ∷ xs) ys zero lt = refl
get_front (x ∷ xs) ys (suc k) lt = get_front xs ys k (omega arith)

get_last : {A : Type 0} (xs : List A) (x : A) → slice_get (xs ++ x ∷ []) (length xs) ≡ Some x
get_last [] x = refl
get_last (y ∷ xs) x = get_last xs x

numbered_front : (xs ys : List Text) (n : ℕ) → n ≤ length xs → numbered (xs ++ ys) n ≡ numbered xs n
numbered_front xs ys zero le = refl
numbered_front xs ys (suc k) le = get_front xs ys k (omega arith)

none_numbered : (n : ℕ) → numbered {A = Text} [] n ≡ None
none_numbered zero = refl
none_numbered (suc k) = refl

-- ---- what is known of the text of one key more

get_set_other : {A : Type 0} (xs : List A) (i j : ℕ) (x : A) → (i ≡ j → ⊥) → slice_get (set xs i x) j ≡ slice_get xs j
get_set_other [] i j x h = refl
get_set_other (y ∷ ys) zero zero x h = absurd (h refl)
get_set_other (y ∷ ys) zero (suc j) x h = refl
get_set_other (y ∷ ys) (suc i) zero x h = refl
get_set_other (y ∷ ys) (suc i) (suc j) x h = get_set_other ys i j x (λ e. h (ap suc e))

get_set_same : {A : Type 0} (xs : List A) (i : ℕ) (x : A) → i < length xs → slice_get (set xs i x) i ≡ Some x
get_set_same {A} xs i x lt = slice_get-get_or (set xs i x) i x (let l : length (set xs i x) ≡ length xs = length-set xs i x in omega arith) ∙ ap (λ (y : A). Some y) (get_or-set_same xs i x x lt)

-- this is known of a text in a role, and in each other role what was known before
abbrev pub NotesRole : ByRole → TextRole → Looked → ByRole → Type 0
NotesRole old role looked new = (k : TextRole) → looked_of new k ≡ cond (is_eq (nat_cmp (rank role) (rank k))) looked (looked_of old k)

notes_by : (rows : List ByRole) (key q : Key) (old new : ByRole) (looked : Looked) (b : Bool) → is_eq (key_cmp key q) ≡ b → key.0 < length rows → slice_get rows key.0 ≡ Some old → NotesRole old key.1 looked new
    → looked_at (set rows key.0 new) q ≡ cond b looked (looked_at rows q)
notes_by rows key q old new looked true e lt at notes =
    let P : Key → Type 0 = λ k. looked_at (set rows key.0 new) k ≡ looked in
    subst P (key_same key q e)
    (ap (λ (o : Option ByRole). looked_in o key.1) (get_set_same rows key.0 new lt) ∙ notes key.1
    ∙ ap (λ (c : Bool). cond c looked (looked_of old key.1)) (ap is_eq (number_self (rank key.1))))
notes_by rows key q old new looked false e lt at notes =
    elim (cases_eq key.0 q.0) [
      | inl same ↦
          let ranks : is_eq (nat_cmp (rank key.1) (rank q.1)) ≡ false =
          sym (ap (λ (r : Ordering). is_eq (ordering_then r (nat_cmp (rank key.1) (rank q.1)))) (ap (nat_cmp key.0) (sym same) ∙ number_self key.0)) ∙ e in
          ap (λ (n : ℕ). looked_in (slice_get (set rows key.0 new) n) q.1) (sym same)
          ∙ ap (λ (o : Option ByRole). looked_in o q.1) (get_set_same rows key.0 new lt) ∙ notes q.1
          ∙ ap (λ (c : Bool). cond c looked (looked_of old q.1)) ranks
          ∙ sym (ap (λ (o : Option ByRole). looked_in o q.1) at)
          ∙ ap (λ (n : ℕ). looked_in (slice_get rows n) q.1) same
      | inr other ↦ ap (λ (o : Option ByRole). looked_in o q.1) (get_set_other rows key.0 q.0 new other)
    ]

pub notes : (rows : List ByRole) (key : Key) (old new : ByRole) (looked : Looked) → key.0 < length rows → slice_get rows key.0 ≡ Some old → NotesRole old key.1 looked new → Notes rows key looked (set rows key.0 new)
notes rows key old new looked lt at adds = λ q. notes_by rows key q old new looked (is_eq (key_cmp key q)) refl lt at adds

-- ---- the table to begin with

pub unseen_at : (row : ByRole) → ((k : TextRole) → looked_of row k ≡ looks.NotYet) → (n i : ℕ) (k : TextRole) → looked_in (slice_get (replicate n row) i) k ≡ looks.NotYet
unseen_at row h zero i k = refl
unseen_at row h (suc n) zero k = h k
unseen_at row h (suc n) (suc i) k = unseen_at row h n i k

-- no text was looked at
abbrev pub IsUnseen : Table → Type 0
IsUnseen table = (key : Key) → looked_at table.rows.items key ≡ looks.NotYet

pub begins_numbered : (table : Table) → IsUnseen table → IsNumberedTable table
begins_numbered table h = λ key. let none : number_at table key ≡ 0 = ap number_of (h key) in omega arith

-- ---- one key more

-- A key has this answer, and each other key the one that it had.
abbrev pub Answers : Table → Key → Option Text → Table → Type 0
Answers old key answer new = (q : Key) → image_at new q ≡ cond (is_eq (key_cmp key q)) answer (image_at old q)

-- each image keeps its number
abbrev pub KeepsNumbers : Table → Table → Type 0
KeepsNumbers old new = (n : ℕ) → n ≤ length old.images.items → numbered new.images.items n ≡ numbered old.images.items n

module _ (old new : Table) (key : Key) (looked : Looked) (is : Notes old.rows.items key looked new.rows.items) where
  answers_by : (answer : Option Text) (b : Bool) (q : Key) → numbered new.images.items (number_of looked) ≡ answer → KeepsNumbers old new → IsNumberedTable old
      → numbered new.images.items (number_of (cond b looked (looked_at old.rows.items q))) ≡ cond b answer (image_at old q)
  answers_by answer true q here stay small = here
  answers_by answer false q here stay small = stay (number_at old q) (small q)

  pub answers : (answer : Option Text) → numbered new.images.items (number_of looked) ≡ answer → KeepsNumbers old new → IsNumberedTable old → Answers old key answer new
  answers answer here stay small = λ q. ap (λ (l : Looked). numbered new.images.items (number_of l)) (is q) ∙ answers_by answer (is_eq (key_cmp key q)) q here stay small

  small_by : (b : Bool) (q : Key) → number_of looked ≤ length new.images.items → length old.images.items ≤ length new.images.items → IsNumberedTable old → number_of (cond b looked (looked_at old.rows.items q)) ≤ length new.images.items
  small_by true q here more small = here
  small_by false q here more small = omega (arith, small q)

  pub stays_numbered : number_of looked ≤ length new.images.items → length old.images.items ≤ length new.images.items → IsNumberedTable old → IsNumberedTable new
  stays_numbered here more small = λ q. subst (λ (l : Looked). number_of l ≤ length new.images.items) (sym (is q)) (small_by (is_eq (key_cmp key q)) q here more small)

  seen_by : (b : Bool) (q : Key) → was_looked_at looked ≡ true → was_looked_at (cond b looked (looked_at old.rows.items q)) ≡ (b || is_seen old q)
  seen_by true q h = h
  seen_by false q h = refl

  pub one_seen : was_looked_at looked ≡ true → (q : Key) → is_seen new q ≡ (is_eq (key_cmp key q) || is_seen old q)
  one_seen h q = ap was_looked_at (is q) ∙ seen_by (is_eq (key_cmp key q)) q h

-- an image at the end of the others has their count as its number
pub last_numbered : (xs ys : List Text) (t : Text) → ys ≡ xs ++ t ∷ [] → numbered ys (length ys) ≡ Some t
last_numbered xs ys t e =
    let longer : length ys ≡ suc (length xs) = ap length e ∙ length-append xs (t ∷ []) ∙ omega arith in
    ap (numbered ys) longer ∙ ap (λ (l : List Text). numbered l (suc (length xs))) e ∙ get_last xs t

pub front_numbered : (xs ys : List Text) (t : Text) → ys ≡ xs ++ t ∷ [] → (n : ℕ) → n ≤ length xs → numbered ys n ≡ numbered xs n
front_numbered xs ys t e n le = ap (λ (l : List Text). numbered l n) e ∙ numbered_front xs (t ∷ []) n le

module _ (im : Images) (pool : Pool) where
  -- an image that was made of the text of a key
  pub answer_is : (key : Key) (own : Text) (made answer : Option Text) → own ≡ text_at pool key.0 → made ≡ answer → IsImage own (image im (role_of key.1) own) made → IsAnswer im pool key answer
  answer_is key own made answer o e h = subst (IsAnswer im pool key) e (subst (λ (t : Text). IsImage t (image im (role_of key.1) t) made) o h)

  keeps_by : (b : Bool) (old : Table) (key q : Key) (answer : Option Text) → is_eq (key_cmp key q) ≡ b → IsAnswer im pool key answer → FindsAt im pool old q → IsAnswer im pool q (cond b answer (image_at old q))
  keeps_by true old key q answer e is h = subst (λ (k : Key). IsAnswer im pool k answer) (key_same key q e) is
  keeps_by false old key q answer e is h = h

  pub keeps_found : (old new : Table) (key : Key) (answer : Option Text) → Answers old key answer new → IsAnswer im pool key answer → (q : Key) → FindsAt im pool old q → FindsAt im pool new q
  keeps_found old new key answer up is q h = subst (IsAnswer im pool q) (sym (up q)) (keeps_by (is_eq (key_cmp key q)) old key q answer refl is h)

  pub finds_new : (old new : Table) (key : Key) (answer : Option Text) → Answers old key answer new → IsAnswer im pool key answer → FindsAt im pool new key
  finds_new old new key answer up is = subst (IsAnswer im pool key) (sym (up key ∙ ap (λ (b : Bool). cond b answer (image_at old key)) (key_self key))) is

  -- ---- what is found of a use

  keeps_use : (old new : Table) → ((q : Key) → FindsAt im pool old q → FindsAt im pool new q) → (role : Role) (i : ℕ) → Finds im pool old role i → Finds im pool new role i
  keeps_use old new k roles.Class i h = k (i, text_roles.Class) h
  keeps_use old new k roles.Package i h = k (i, text_roles.Package) h
  keeps_use old new k roles.Module i h = h
  keeps_use old new k roles.Descriptor i h = k (i, text_roles.Descriptor) h
  keeps_use old new k roles.ClassSig i h = k (i, text_roles.ClassSig) h
  keeps_use old new k roles.MethodSig i h = k (i, text_roles.MethodSig) h
  keeps_use old new k roles.FieldSig i h = k (i, text_roles.FieldSig) h
  keeps_use old new k roles.Str i h = k (i, text_roles.Str) h
  keeps_use old new k roles.Plain i h = h
  keeps_use old new k roles.AttrName i h = h

  finds_by : (table : Table) (role : Role) (i : ℕ) (k : TextRole) → role ≡ role_of k → text_role_of role ≡ Some k → FindsAt im pool table (i, k) → Finds im pool table role i
  finds_by table role i k e f h =
      subst (λ (r : Role). IsImage (text_at pool i) (image im r (text_at pool i)) (image_found table i role)) (sym e)
      (subst (IsAnswer im pool (i, k)) (sym (ap (found_by table i) f)) h)

  pub finds_use : (table : Table) (role : Role) (i : ℕ) (k : TextRole) → text_role_of role ≡ Some k → FindsAt im pool table (i, k) → Finds im pool table role i
  finds_use table role i k f h = finds_by table role i k (role_is role k f) f h

  pub own_use : (table : Table) (role : Role) (i : ℕ) → text_role_of role ≡ None → Finds im pool table role i
  own_use table roles.Module i f = refl
  own_use table roles.Plain i f = refl
  own_use table roles.AttrName i f = refl
  own_use table _ i f = absurd cc

  -- ---- uses, one after the other

  -- what is found for each use before a place
  abbrev pub HasBefore : Table → List Used → ℕ → Type 0
  HasBefore table us i = HasImages im pool (take i us) table

  pub has_more : (old new : Table) (us : List Used) (i : ℕ) (d : Used) → i < length us → ((q : Key) → FindsAt im pool old q → FindsAt im pool new q) → Finds im pool new (get_or us i d).role (get_or us i d).index → HasBefore old us i → HasBefore new us (i + 1)
  has_more old new us i d lt keeps here before =
      All-more (λ (u : Used). Finds im pool new u.role u.index) us i d lt
      (All-weaker (λ (u : Used). Finds im pool old u.role u.index) (λ (u : Used). Finds im pool new u.role u.index) (λ u h. keeps_use old new keeps u.role u.index h) (take i us) before) here

  -- what is found for each key that was looked at
  abbrev pub FindsSeen : Table → Type 0
  FindsSeen table = (q : Key) → is_seen table q ≡ true → FindsAt im pool table q

  pub begins_seen : (table : Table) → IsUnseen table → FindsSeen table
  begins_seen table h = λ q seen. let none : is_seen table q ≡ false = ap was_looked_at (h q) in absurd cc

  seen_more_by : (old new : Table) (key q : Key) → ((k : Key) → FindsAt im pool old k → FindsAt im pool new k) → FindsAt im pool new key → FindsSeen old → ((is_eq (key_cmp key q) ≡ true) ⊎ (is_seen old q ≡ true)) → FindsAt im pool new q
  seen_more_by old new key q keeps here f (inl e) = subst (FindsAt im pool new) (key_same key q e) here
  seen_more_by old new key q keeps here f (inr e) = keeps q (f q e)

  pub seen_more : (old new : Table) (key : Key) → ((q : Key) → is_seen new q ≡ (is_eq (key_cmp key q) || is_seen old q)) → ((k : Key) → FindsAt im pool old k → FindsAt im pool new k) → FindsAt im pool new key → FindsSeen old → FindsSeen new
  seen_more old new key up keeps here f = λ q h. seen_more_by old new key q keeps here f (or_cases _ _ (sym (up q) ∙ h))

pub none_of : (o : Option TextRole) → ((k : TextRole) → o ≡ Some k → ⊥) → o ≡ None
none_of None h = refl
none_of (Some k) h = absurd (h k refl)

-- ---- an empty table

nothing_at : (table : Table) (key : Key) → table.images.items ≡ [] → image_at table key ≡ None
nothing_at table key e = ap (λ (l : List Text). numbered l (number_at table key)) e ∙ none_numbered (number_at table key)

nothing_by : (table : Table) (i : ℕ) (o : Option TextRole) → table.images.items ≡ [] → found_by table i o ≡ None
nothing_by table i None e = refl
nothing_by table i (Some k) e = nothing_at table (i, k) e

-- each use has its own text as its image
pub all_own : (im : Images) (pool : Pool) (table : Table) (us : List Used) → table.images.items ≡ [] → HasImages im pool us table → All (λ (u : Used). image im u.role (text_at pool u.index) ≡ text_at pool u.index) us
all_own im pool table us e h =
    All-weaker (λ (u : Used). Finds im pool table u.role u.index) (λ (u : Used). image im u.role (text_at pool u.index) ≡ text_at pool u.index)
    (λ u f. subst (IsImage (text_at pool u.index) (image im u.role (text_at pool u.index))) (nothing_by table u.index (text_role_of u.role) e) f) us h
