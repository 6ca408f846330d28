-- The new pool of a class, by the wants of its uses.
use Rattle.std.proofs.Common.{◌≡◌, ℕ, suc, ◌+◌, ◌≤◌, false, List, [], ◌∷◌, map, length, Option, None, Ok, option_map, refl, ap, sym, ◌∙◌, subst, arith, All}
use denote.Ref.{Bor}
use Rattle.std.specs.List.{AllByRecursion}
use Rattle.desk_base.specs.Names.{Text}
use Rattle.desk_base.specs.declared.kinds.Used.{Used}
use Rattle.desk_base.specs.Entries.{Pool}
use Rattle.desk_format.specs.declared.members.Member.{Member}
use Rattle.desk_format.specs.Classes.{Class, class_uses, entries_at, read_class}
use Rattle.desk_format.specs.Members.{Named, members, first_twins}
use Rattle.desk_format.specs.NewClass.{overlong_from, full_at, renamed_in}
use Rattle.desk_format.specs.NewPool.{want_in_role, wants, added}
use Rattle.desk_format.specs.Resolved.{Images}
use Rattle.desk_format.specs.Split.{Want, split, chosen, missing_texts}
use Rattle.desk_laws.specs.Sound.{IsTwoBytes, IsShaped}
use Rattle.desk_laws.proofs.Bodies.{NamesText, all_named}
use Rattle.desk_laws.proofs.Stable.{Own}
use Rattle.desk_laws.proofs.Passes.{Neither, neither}
use Rattle.desk_laws.proofs.Refused.{all_short, has_room}
use Rattle.desk_new_pool.specs.Keeps.{TextsAre}
use Rattle.desk_new_pool.specs.Printing.{IsShortText}
use Rattle.desk_new_pool.specs.Refusals.{pool_refusal}
use Rattle.desk_new_pool.specs.Twins.{AreNumbered, member_in, places_of}
use Rattle.desk_new_pool.specs.Wants.{wants_of}
use Rattle.desk_new_pool.specs.declared.wants.WantedText.{WantedText}
use Rattle.desk_new_pool.specs.declared.new_texts.NewTexts.{NewTexts}
use Rattle.desk_new_pool.specs.declared.twins.NumberedMember.{NumberedMember}
use Rattle.desk_new_pool.specs.declared.twins.TwinPlaces.{TwinPlaces}
use Rattle.desk_format.specs.Classes.{list_in, uses_in}
use Rattle.desk_class.specs.Parts.{pool_in}
use Rattle.desk_rewrite.specs.Tables.{Table, HasImages, HasDescriptors}
use Rattle.desk_rewrite.proofs.Described.{has_descriptors}
use Rattle.desk_rewrite.specs.Wanting.{used_in, IsWantedUnder, AreWanted, IsNewTexts}
use Rattle.desk_rewrite.proofs.Parts.{IsFound}
use Rattle.desk_rewrite.proofs.Tables.{all_own}
use Rattle.desk_rewrite.proofs.Wanting.{IsOwn, wants_are, own_wants}
use Rattle.desk_rewrite.proofs.Short.{texts_short, length-split}

map_map : {A B C : Type 0} (f : B → C) (g : A → B) (xs : List A) → map f (map g xs) ≡ map (λ x. f (g x)) xs
map_map f g [] = refl
map_map f g (x ∷ xs) = ap (λ ys. f (g x) ∷ ys) (map_map f g xs)

module _ (im : Images) (c : Class) (ws : List WantedText) (h : AreWanted im c ws) (pool : Pool) (p : pool ≡ c.pool) where
  same_wants : wants_of c.pool ws ≡ wants im c.pool (class_uses c)
  same_wants = wants_are im c.pool (class_uses c) ws h.used h.each

  pub same_refusal : pool_refusal pool (wants_of pool ws) ≡ pool_refusal c.pool (wants im c.pool (class_uses c))
  same_refusal = ap (λ (q : Pool). pool_refusal q (wants_of q ws)) p ∙ ap (pool_refusal c.pool) same_wants

  pub is_new : (new : NewTexts) → TextsAre (split (wants_of pool ws) pool) new.texts.items → new.indices.items ≡ map (chosen (split (wants_of pool ws) pool)) (wants_of pool ws) → IsNewTexts im c new
  is_new new t i = record {
    texts = subst (λ (vs : List Want). TextsAre (split vs c.pool) new.texts.items) same_wants (subst (λ (q : Pool). TextsAre (split (wants_of q ws) q) new.texts.items) p t);
    indices = i ∙ ap (λ (q : Pool). map (chosen (split (wants_of q ws) q)) (wants_of q ws)) p
        ∙ ap (λ (vs : List Want). map (chosen (split vs c.pool)) vs) same_wants
        ∙ map_map (chosen (split (wants im c.pool (class_uses c)) c.pool)) (λ (u : Used). want_in_role im c.pool u.role u.index) (class_uses c);
  }

  pub count_new : (new : NewTexts) → TextsAre (split (wants_of pool ws) pool) new.texts.items → length new.texts.items ≡ suc (length pool) + length (added im c.pool (class_uses c))
  count_new new t =
      let many : length (split (wants_of pool ws) pool) ≡ length pool + length (missing_texts (wants_of pool ws) pool) = length-split (wants_of pool ws) pool in
      let same : missing_texts (wants_of pool ws) pool ≡ added im c.pool (class_uses c) = ap (λ (q : Pool). missing_texts (wants_of q ws) q) p ∙ ap (λ (vs : List Want). missing_texts vs c.pool) same_wants in
      let long : length (missing_texts (wants_of pool ws) pool) ≡ length (added im c.pool (class_uses c)) = ap length same in
      omega (arith, t.count)

-- ---- no refusal of the texts

pub limit_new : (pool : Pool) (ws : List Want) (texts : List (Option (Bor Text))) → pool_refusal pool ws ≡ None → TextsAre (split ws pool) texts → length texts ≤ 65535
limit_new pool ws texts none t =
    let n : Neither (overlong_from ws 1 pool) (full_at (suc (length pool)) (length (missing_texts ws pool))) = neither (overlong_from ws 1 pool) (full_at (suc (length pool)) (length (missing_texts ws pool))) none in
    let room : IsTwoBytes (suc (length pool) + length (missing_texts ws pool)) = has_room (suc (length pool)) (length (missing_texts ws pool)) n.second in
    omega (arith, t.count, length-split ws pool)

pub short_new : (im : Images) (pool : Pool) (us : List Used) (ws : List WantedText) (texts : List (Option (Bor Text))) → IsShaped false pool → AllByRecursion (NamesText pool) us → map used_in ws ≡ us → All (IsWantedUnder im pool) ws
    → pool_refusal pool (wants_of pool ws) ≡ None → TextsAre (split (wants_of pool ws) pool) texts → All IsShortText texts
short_new im pool us ws texts shaped named used each none t =
    let same : wants_of pool ws ≡ wants im pool us = wants_are im pool us ws used each in
    let none' : pool_refusal pool (wants im pool us) ≡ None = sym (ap (pool_refusal pool) same) ∙ none in
    let n : Neither (overlong_from (wants im pool us) 1 pool) (full_at (suc (length pool)) (length (missing_texts (wants im pool us) pool)))
    = neither (overlong_from (wants im pool us) 1 pool) (full_at (suc (length pool)) (length (missing_texts (wants im pool us) pool))) none' in
    texts_short (wants im pool us) pool texts shaped (all_short im pool us n.first named) (subst (λ (vs : List Want). TextsAre (split vs pool) texts) same t)

-- ---- twins

-- what is said of the first twins among members
abbrev pub TellsTwins : List NumberedMember → Option TwinPlaces → Type 0
TellsTwins ms twins = (named : Member → Named) → AreNumbered named ms → twins ≡ option_map places_of (first_twins named (map member_in ms))

pub twins_are : (im : Images) (c : Class) (pool : Pool) (ms all : List NumberedMember) (twins : Option TwinPlaces) → pool ≡ c.pool → ms ≡ all → map member_in all ≡ members c.body → AreNumbered (renamed_in im pool) all
    → TellsTwins ms twins → twins ≡ option_map places_of (first_twins (renamed_in im c.pool) (members c.body))
twins_are im c pool ms all twins p e m numbered tells =
    tells (renamed_in im c.pool) (subst (AreNumbered (renamed_in im c.pool)) (sym e) (subst (λ (q : Pool). AreNumbered (renamed_in im q) all) p numbered))
    ∙ ap (λ (l : List NumberedMember). option_map places_of (first_twins (renamed_in im c.pool) (map member_in l))) e
    ∙ ap (λ (l : List Member). option_map places_of (first_twins (renamed_in im c.pool) l)) m

-- ---- what is found for a class

pub record IsWantedIn (im : Images) (c : Class) (ws : List WantedText) (table : Table) : Type 0 where
  pub wants : AreWanted im c ws
  pub descriptors : HasDescriptors im c.pool table (members c.body)

-- wants that are made of the images of all uses
abbrev pub Makes : List Used → Table → List WantedText → Type 0
Makes us table ws = (im : Images) (pool : Pool) → HasImages im pool us table → All (IsWantedUnder im pool) ws

images_moved : (im : Images) (table : Table) (pool pool' : Pool) (us us' : List Used) → pool ≡ pool' → us ≡ us' → HasImages im pool us table → HasImages im pool' us' table
images_moved im table pool pool' us us' p e h = subst (λ (q : Pool). HasImages im q us' table) p (subst (λ (vs : List Used). HasImages im pool vs table) e h)

pub wants_in : (im : Images) (table : Table) (ws : List WantedText) (pool pool' : Pool) (us vs : List Used) → pool ≡ pool' → us ≡ vs → HasImages im pool us table → Makes vs table ws → All (IsWantedUnder im pool') ws
wants_in im table ws pool pool' us vs p e h make = make im pool' (images_moved im table pool pool' us vs p e h)

pub wanted_in : (im : Images) (bytes : List ℕ) (c : Class) (table : Table) (ws : List WantedText) (pool : Pool) (us vs : List Used) → read_class bytes ≡ Ok c → pool ≡ pool_in bytes → us ≡ uses_in bytes → vs ≡ uses_in bytes
    → HasImages im pool us table → map used_in ws ≡ vs → Makes vs table ws → IsWantedIn im c ws table
wanted_in im bytes c table ws pool us vs e p u v h used make =
    let p' : pool ≡ c.pool = p ∙ ap (list_in (λ (d : Class). d.pool)) e in
    let u' : us ≡ class_uses c = u ∙ ap (list_in class_uses) e in
    let v' : vs ≡ class_uses c = v ∙ ap (list_in class_uses) e in
    record {
      wants = record { used = used ∙ v'; each = wants_in im table ws pool c.pool us vs p' (u' ∙ sym v') h make };
      descriptors = has_descriptors im table c (images_moved im table pool c.pool us (class_uses c) p' u' h);
    }

-- ---- where no image is another text

pub record IsOwnIn (im : Images) (c : Class) : Type 0 where
  pub each : All (IsOwn im c.pool) (class_uses c)
  pub wants : AllByRecursion (Own c.pool) (wants im c.pool (class_uses c))

pub own_in : (im : Images) (bytes : List ℕ) (c : Class) (table : Table) (pool : Pool) (us : List Used) → IsFound bytes c → read_class bytes ≡ Ok c → pool ≡ pool_in bytes → us ≡ uses_in bytes → HasImages im pool us table → table.images.items ≡ [] → IsOwnIn im c
own_in im bytes c table pool us f e p u h none =
    let p' : pool ≡ c.pool = p ∙ ap (list_in (λ (d : Class). d.pool)) e in
    let u' : us ≡ class_uses c = u ∙ ap (list_in class_uses) e in
    let own : All (IsOwn im c.pool) (class_uses c) = all_own im c.pool table (class_uses c) none (images_moved im table pool c.pool us (class_uses c) p' u' h) in
    record { each = own; wants = own_wants im c.pool (class_uses c) (all_named entries_at c.pool c.body f.printed.pool.linked f.printed.fits) own }
