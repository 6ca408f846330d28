-- A second rewriting changes nothing.
use Rattle.std.proofs.Common.{◌≡◌, ℕ, suc, ◌+◌, ◌≤◌, Bool, true, false, cond, ◌&&◌, List, [], ◌∷◌, ◌++◌, length, Some, None, nat_eq, refl, ap, ap₂, sym, subst, ◌∙◌, arith, inl}
use Rattle.std.specs.List.{AllByRecursion}
use Rattle.desk_base.specs.declared.kinds.Role.{Role}
use Rattle.desk_base.specs.declared.kinds.Used.{Used}
use Rattle.desk_base.specs.Entries.{utf8}
use Rattle.desk_format.specs.PoolBytes.{size}
use Rattle.desk_base.specs.Entries.{Pool, entry_at, tag_at, text_at, text_in}
use Rattle.desk_base.specs.declared.referents.Referent.{Referent}
use Rattle.desk_base.specs.declared.referents.Referent.TheVariants as referents
use Rattle.desk_base.specs.Referents.{fits, referent_of, may_be_none, Link, links}
use Rattle.desk_format.specs.PoolBytes.{uses_among, pool_uses}
use Rattle.desk_laws.proofs.Indices.{uses_as, reindexed, indices, text_uses, each_index, all_indices, by_choice, new_index-is}
use Rattle.desk_laws.specs.Sound.{IsTwoBytes, IsShaped, EachLink, Links, IsWellFormed}
use Rattle.desk_base.specs.Utf8.{bad_form}
use Rattle.desk_format.specs.Values.{Value, none, text_as, value_as, value_of_kind}
use Rattle.desk_format.specs.Trees.{Tree, Use, map_tree, Each, print, uses_of, text_use, text_in_role, IsPlaced}
use Rattle.desk_format.specs.Exchange.{Change, moved, Fits, exchanged, exchange, new_index}
use Rattle.desk_format.specs.Resolved.{Images, image, renamed_value}
use Rattle.desk_format.specs.Laws.{Renames}
use Rattle.desk_format.proofs.Follows.{length-print}
use Rattle.desk_format.specs.Split.{Want}
use Rattle.desk_format.specs.NewPool.{wants, choice, new_pool, added, change_by}
use Rattle.desk_laws.specs.NewPools.{KeepsForms, IsAccepted, IsRenamedPool, all_uses}
use Rattle.desk_laws.specs.Classes.{IsSettled, IsOwnImage}
use Rattle.desk_laws.proofs.Linked.{has_right, IsUsed, LinkUsed, Within}
use Rattle.desk_laws.proofs.Moved.{is_utf8, names_fitting, leads_to}
use Rattle.desk_laws.proofs.Stable.{Own, Stays, added_none, referent_stays, pool_same}
use Rattle.desk_laws.proofs.Bodies.{NamesText, all_append, sound_at, each_new, new_pools, pool_within, body_within, uses_are, all_named}

abbrev pub OnText : Images → Pool → Referent → ℕ → Type 0
OnText im pool (referents.Text role form) i = image im role (text_at pool i) ≡ text_at pool i
OnText im pool _ i = Unit {0}

module _ (im : Images) (pool : Pool) where
  self_as : (t : Referent) (at i : ℕ) → OnText im pool t i → AllByRecursion (IsOwnImage im pool) (uses_as t at i)
  self_as (referents.Text role form) at i h = (h, tt)
  self_as (referents.Class form) at i h = tt
  self_as (referents.NameAndType form) at i h = tt
  self_as (referents.Entry entries) at i h = tt

  self_among : (at : ℕ) (ls : List Link) → AllByRecursion (λ (l : Link). OnText im pool l.referent l.index) ls → AllByRecursion (IsOwnImage im pool) (uses_among at ls)
  self_among at [] h = tt
  self_among at (l ∷ ls) h = all_append (IsOwnImage im pool) (uses_as l.referent (at + l.behind) l.index) (uses_among at ls) (self_as l.referent (at + l.behind) l.index h.0) (self_among at ls h.1)

  self_in_pool : (at : ℕ) (slots : Pool) → EachLink (λ (l : Link). OnText im pool l.referent l.index) slots → AllByRecursion (IsOwnImage im pool) (pool_uses at slots)
  self_in_pool at [] h = tt
  self_in_pool at (None ∷ slots) h = self_in_pool at slots h
  self_in_pool at (Some e ∷ slots) h = all_append (IsOwnImage im pool) (uses_among at (links e)) (pool_uses (at + size e) slots) (self_among at (links e) h.0) (self_in_pool (at + size e) slots h.1)

  own_wants : (us : List Used) → AllByRecursion (NamesText pool) us → AllByRecursion (IsOwnImage im pool) us → AllByRecursion (Own pool) (wants im pool us)
  own_wants [] n s = tt
  own_wants (u ∷ us) n s =
      let p = is_utf8 (entry_at pool u.index) n.0 in
      let text : text_at pool u.index ≡ p.0 = ap text_in p.1 in
      (record { names = p.1 ∙ ap (λ (t : List ℕ). Some (utf8 t)) (sym text ∙ sym s.0) }, own_wants us n.1 s.1)

-- ---- the body

pub IsPlaced-exchange : (g : Change) (at : ℕ) (t : Tree Use) → g.from ≤ at → IsPlaced at t → IsPlaced (moved g at) (exchange g t)
IsPlaced-exchange g at Tree.nothing low p = tt
IsPlaced-exchange g at (Tree.number bytes) low p = tt
IsPlaced-exchange g at (Tree.raw bytes) low p = tt
IsPlaced-exchange g at (Tree.code bytes) low p = tt
IsPlaced-exchange g at (Tree.used u) low p = ap (moved g) p
IsPlaced-exchange g at (Tree.member a) low p = IsPlaced-exchange g at a low p
IsPlaced-exchange g at (Tree.both a b) low p =
    (IsPlaced-exchange g at a low p.0, subst (λ (n : ℕ). IsPlaced n (exchange g b)) (omega (arith, length-print g a)) (IsPlaced-exchange g (at + length (print a)) b (omega arith) p.1))

use_same : (g : Change) (u : Use) (at : ℕ) → g.from ≡ g.to → g.from ≤ at → u.at ≡ at → new_index g.index u ≡ u.index → exchanged g u ≡ u
use_same g u at same low p h =
    let place : moved g u.at ≡ u.at = omega arith in
    ap₂ (λ (i n : ℕ). record { at = n; kind = u.kind; index = i }) h place

exchange-same : (g : Change) (at : ℕ) (t : Tree Use) → g.from ≡ g.to → g.from ≤ at → IsPlaced at t → Each (λ (u : Use). new_index g.index u ≡ u.index) t → exchange g t ≡ t
exchange-same g at Tree.nothing same low p h = refl
exchange-same g at (Tree.number bytes) same low p h = refl
exchange-same g at (Tree.raw bytes) same low p h = refl
exchange-same g at (Tree.code bytes) same low p h = refl
exchange-same g at (Tree.used u) same low p h = ap Tree.used (use_same g u at same low p h)
exchange-same g at (Tree.member a) same low p h = ap Tree.member (exchange-same g at a same low p h)
exchange-same g at (Tree.both a b) same low p h = ap₂ Tree.both (exchange-same g at a same low p.0 h.0) (exchange-same g (at + length (print a)) b same (omega arith) p.1 h.1)

-- a use whose value was renamed is its own image
on_text : (im : Images) (new : Pool) → IsSettled im → (t : Referent) (i' : ℕ) (x' : Bool) (before : Value) → x' ≡ false → cond x' none (value_as t new i') ≡ renamed_value im before → OnText im new t i'
on_text im new s (referents.Text role form) i' true before p h = absurd cc
on_text im new s (referents.Text role form) i' false (text_as r t) p h =
    let role_is : role ≡ r = cc in
    let text_is : text_at new i' ≡ image im r t = cc in
    let image_is : text_at new i' ≡ image im role t = text_is ∙ ap (λ (q : Role). image im q t) (sym role_is) in
    ap (image im role) image_is ∙ s.again role t ∙ sym image_is
on_text im new s (referents.Text role form) i' false _ p h = absurd cc
on_text im new s (referents.Class form) i' x' before p h = tt
on_text im new s (referents.NameAndType form) i' x' before p h = tt
on_text im new s (referents.Entry entries) i' x' before p h = tt

-- an index of the new pool is that of an image
on_link : (im : Images) (old : Pool) (us : List Used) → IsSettled im → EachLink (Links old) old → EachLink (LinkUsed us) old → (t : Referent) (i : ℕ) → fits t (tag_at old i) ≡ true → IsUsed us t i → OnText im (new_pool im old us) t (reindexed (choice im old us) t i)
on_link im old us s linked used (referents.Text role form) i h u =
    let e : text_at (new_pool im old us) (choice im old us role i) ≡ image im role (text_at old i) = leads_to im old us linked used (referents.Text role form) i h u in
    ap (image im role) e ∙ s.again role (text_at old i) ∙ sym e
on_link im old us s linked used (referents.Class form) i h u = tt
on_link im old us s linked used (referents.NameAndType form) i h u = tt
on_link im old us s linked used (referents.Entry entries) i h u = tt

module _ (im : Images) (new : Pool) where
  abbrev BodyOn : Use → Type 0
  BodyOn u = (may_be_none u.kind && nat_eq u.index 0) ≡ false → OnText im new (referent_of u.kind) u.index

  self_use : (u : Use) (x : Bool) → (may_be_none u.kind && nat_eq u.index 0) ≡ x → BodyOn u → AllByRecursion (IsOwnImage im new) (uses_of (cond x None (text_in_role (referent_of u.kind) u.at u.index)))
  self_use u true p h = tt
  self_use u false p h = self_as im new (referent_of u.kind) u.at u.index (h p)

  self_body : (us : List Use) → AllByRecursion BodyOn us → AllByRecursion (IsOwnImage im new) (text_uses us)
  self_body [] h = tt
  self_body (u ∷ us) h = all_append (IsOwnImage im new) (uses_of (text_use u)) (text_uses us) (self_use u (may_be_none u.kind && nat_eq u.index 0) refl h.0) (self_body us h.1)

  reindexed_stays : (us : List Used) (t : Referent) (i : ℕ) → Stays (choice im new us) t i → reindexed (choice im new us) t i ≡ i
  reindexed_stays us (referents.Text role form) i h = h
  reindexed_stays us (referents.Class form) i h = refl
  reindexed_stays us (referents.NameAndType form) i h = refl
  reindexed_stays us (referents.Entry entries) i h = refl

  module _ (us : List Used) (own : AllByRecursion (Own new) (wants im new us)) where
    head_used : (t : Referent) (at i : ℕ) (more : List Used) → Within (uses_as t at i ++ more) us → IsUsed us t i
    head_used (referents.Text role form) at i more h = h.has role i (inl (refl, refl))
    head_used (referents.Class form) at i more h = tt
    head_used (referents.NameAndType form) at i more h = tt
    head_used (referents.Entry entries) at i more h = tt

    index_stays : (u : Use) (more : List Used) (x : Bool) → Within (uses_of (cond x None (text_in_role (referent_of u.kind) u.at u.index)) ++ more) us → cond x u.index (reindexed (choice im new us) (referent_of u.kind) u.index) ≡ u.index
    index_stays u more true h = refl
    index_stays u more false h = reindexed_stays us (referent_of u.kind) u.index (referent_stays im new us own (referent_of u.kind) u.index (head_used (referent_of u.kind) u.at u.index more h))

    pub indices_stay : (body : List Use) → Within (text_uses body) us → AllByRecursion (λ (u : Use). new_index (by_choice (choice im new us)) u ≡ u.index) body
    indices_stay [] h = tt
    indices_stay (u ∷ body) h = (
      new_index-is (choice im new us) u ∙ index_stays u (text_uses body) (may_be_none u.kind && nat_eq u.index 0) h,
      indices_stay body (record { has = λ role i v. h.has role i (has_right (uses_of (text_use u)) (text_uses body) role i v) }),
    )

  short_own : IsShaped false new → (ws : List Want) → AllByRecursion (Own new) ws → AllByRecursion (λ (w : Want). IsTwoBytes (length w.text)) ws
  short_own s [] h = tt
  short_own s (w ∷ ws) h = let sound : IsTwoBytes (length w.text) × (bad_form w.text ≡ None) = sound_at false new w.index (utf8 w.text) s h.0.names in (sound.0, short_own s ws h.1)

-- a well-formed pool and a body whose used texts are their own images
pub record IsUnchanged (im : Images) (at : ℕ) (pool : Pool) (from : ℕ) (tree : Tree Use) : Type 0 where
  pub images : AllByRecursion (IsOwnImage im pool) (all_uses at pool tree)
  pub none_added : added im pool (all_uses at pool tree) ≡ []
  pub same_pool : new_pool im pool (all_uses at pool tree) ≡ pool
  pub same_tree : exchange (change_by (choice im pool (all_uses at pool tree)) from from) tree ≡ tree
  pub accepted : IsAccepted im pool (all_uses at pool tree)

unchanged : (im : Images) (at : ℕ) (new : Pool) (from : ℕ) (tree : Tree Use) → IsWellFormed new → IsTwoBytes (suc (length new)) → Each (Fits new) tree
    → EachLink (λ (l : Link). OnText im new l.referent l.index) new → Each (BodyOn im new) tree → IsPlaced from tree → IsUnchanged im at new from tree
unchanged im at new from tree w few fits on body_on placed =
    let us : List Used = all_uses at new tree in
    let named : AllByRecursion (NamesText new) (all_uses at new tree) = all_named at new tree w.linked fits in
    let self : AllByRecursion (IsOwnImage im new) (all_uses at new tree)
    = subst (AllByRecursion (IsOwnImage im new)) (sym (uses_are at new tree))
    (all_append (IsOwnImage im new) (pool_uses at new) (text_uses (indices tree)) (self_in_pool im new at new on) (self_body im new (indices tree) (all_indices (BodyOn im new) tree body_on))) in
    let own : AllByRecursion (Own new) (wants im new (all_uses at new tree)) = own_wants im new (all_uses at new tree) named self in
    let none : added im new (all_uses at new tree) ≡ [] = added_none im new (all_uses at new tree) own in
    let stay : Each (λ (u : Use). new_index (by_choice (choice im new (all_uses at new tree))) u ≡ u.index) tree
    = each_index (λ (u : Use). new_index (by_choice (choice im new (all_uses at new tree))) u ≡ u.index) tree (indices_stay im new (all_uses at new tree) own (indices tree) (body_within at new tree)) in
    let change : Change = change_by (choice im new (all_uses at new tree)) from from in
    record {
      images = self;
      none_added = none;
      same_pool = pool_same im new (all_uses at new tree) own (pool_within at new tree);
      same_tree = exchange-same change from tree refl (omega arith) placed stay;
      accepted = record {
        short = short_own im new w.shaped (wants im new (all_uses at new tree)) own;
        room = subst (λ (ts : List (List ℕ)). IsTwoBytes (suc (length new) + length ts)) (sym none) (omega arith);
      };
    }

each_two : {U V : Type 0} (P : V → Type 0) (Q R : U → Type 0) (f : U → V) (t : Tree U) → ((u : U) → Q u → R u → P (f u)) → Each Q t → Each R t → Each P (map_tree f t)
each_two P Q R f Tree.nothing h q r = tt
each_two P Q R f (Tree.number bytes) h q r = tt
each_two P Q R f (Tree.raw bytes) h q r = tt
each_two P Q R f (Tree.code bytes) h q r = tt
each_two P Q R f (Tree.used u) h q r = h u q r
each_two P Q R f (Tree.both a b) h q r = (each_two P Q R f a h q.0 r.0, each_two P Q R f b h q.1 r.1)
each_two P Q R f (Tree.member a) h q r = each_two P Q R f a h q r

-- the new pool and the new body are unchanged by a second rewriting
pub second : (im : Images) (at : ℕ) (old : Pool) (tree : Tree Use) (from to : ℕ) → KeepsForms im → IsSettled im → IsWellFormed old → Each (Fits old) tree → IsPlaced from tree → IsAccepted im old (all_uses at old tree)
    → IsUnchanged im at (new_pool im old (all_uses at old tree)) to (exchange (change_by (choice im old (all_uses at old tree)) from to) tree)
second im at old tree from to k settled w fits placed accepted =
    let us : List Used = all_uses at old tree in
    let new : Pool = new_pool im old (all_uses at old tree) in
    let change : Change = change_by (choice im old (all_uses at old tree)) from to in
    let n : IsRenamedPool im old us tree new = new_pools im at old tree k w fits accepted in
    let renames : Each (Renames im old new change) tree = n.body from to in
    let used : EachLink (LinkUsed us) old = pool_within at old tree in
    let named : AllByRecursion (NamesText old) us = all_named at old tree w.linked fits in
    let room : IsTwoBytes (suc (length old) + length (added im old us)) = accepted.room in
    let count : length new ≡ length old + length (added im old us) = n.pool.count in
    let few : IsTwoBytes (suc (length new)) = omega (arith, count) in
    let on : EachLink (λ (m : Link). OnText im new m.referent m.index) new
    = each_new im old us k w used named accepted (λ (m : Link). OnText im new m.referent m.index)
    (λ m o. on_link im old us settled w.linked used m.referent m.index (names_fitting old m.referent m.index o.fits.names) o.used) in
    let fits' : Each (Fits new) (exchange change tree)
    = each_two (Fits new) (Fits old) (Renames im old new change) (exchanged change) tree (λ u f r. record { small = r.suits.small; fits = r.suits.fits }) fits renames in
    let body_on : Each (BodyOn im new) (exchange change tree)
    = each_two (BodyOn im new) (Fits old) (Renames im old new change) (exchanged change) tree
    (λ u f r p. on_text im new settled (referent_of u.kind) (new_index change.index u) (may_be_none u.kind && nat_eq (new_index change.index u) 0) (value_of_kind old u.kind u.index) p r.leads) fits renames in
    let place : moved change from ≡ to = omega arith in
    unchanged im at new to (exchange change tree) n.pool.well_formed few fits' on body_on
    (subst (λ (m : ℕ). IsPlaced m (exchange change tree)) place (IsPlaced-exchange change from tree (omega arith) placed))
