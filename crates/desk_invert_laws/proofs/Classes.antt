-- The inverse takes classes back.
use Rattle.std.proofs.Common.{◌≡◌, ℕ, zero, suc, Bool, true, false, cond, ◌&&◌, List, [], ◌∷◌, length, Option, Some, None, nat_eq, refl, ap, ap₂, subst, ◌∙◌, inl, inr}
use Rattle.std.specs.List.{AllByRecursion}
use Rattle.desk_base.specs.declared.kinds.Role.{Role}
use Rattle.desk_base.specs.declared.kinds.Role.TheVariants as roles
use Rattle.desk_base.specs.declared.kinds.Tag.TheVariants as tags
use Rattle.desk_base.specs.declared.kinds.Used.{Used}
use Rattle.desk_base.specs.declared.referents.Referent.{Referent}
use Rattle.desk_base.specs.declared.referents.Referent.TheVariants as referents
use Rattle.desk_base.specs.Entries.{Entry, utf8, integer, float, long, double, class, string, fieldref, methodref, interface_methodref, name_and_type, method_handle, method_type, dynamic, invoke_dynamic, module_named, package_named, Pool, entry_at, text_at}
use Rattle.desk_base.specs.Referents.{links, referent_of, may_be_none}
use Rattle.desk_format.specs.Trees.{Tree, Use, Each, map_tree, uses, uses_of, text_use, text_in_role}
use Rattle.desk_format.specs.Values.{Value, none, text_as, class_named, string_of, named_typed, member, handle, method_typed, computed, package_called, value_in, value_within, value_as}
use Rattle.desk_format.specs.Resolved.{Images, image, value, resolved, renamed, renamed_value}
use Rattle.desk_base.specs.Misfits.{or_else}
use Rattle.desk_format.specs.Exchange.{Fits, exchanged}
use Rattle.desk_format.specs.Laws.{Renames}
use Rattle.desk_format.specs.Classes.{Class, class_uses}
use Rattle.desk_format.specs.NewPool.{added}
use Rattle.desk_format.specs.NewClass.{new_class, pool_of, new_body_at, change_of, refusal, overlong_in, full_in, twins_of, resolved_class, renamed_class}
use Rattle.desk_format.proofs.Patched.{Each-map, resolved-exchange}
use Rattle.desk_laws.specs.Sound.{EachLink, IsWellFormed}
use Rattle.desk_laws.specs.NewPools.{KeepsForms, IsAccepted, IsRenamedPool}
use Rattle.desk_laws.proofs.Linked.{HasUse, IsUsed, LinkUsed, Within, has_left, has_right, each_at}
use Rattle.desk_laws.proofs.Bodies.{pool_within, new_pools, all_named}
use Rattle.desk_laws.proofs.Passes.{neither}
use Rattle.desk_laws.proofs.Refused.{all_short, has_room}
use Rattle.desk_laws.specs.Classes.{IsPrintedClass}
use Rattle.desk_laws.proofs.Whole.{printed_classes}
use Rattle.desk_rewrite.proofs.Forms.{forms_kept}
use Rattle.desk_follow.specs.RuleImages.{images_of}
use Rattle.desk_invert.specs.Inverse.{inverse}
use Rattle.desk_invert.specs.Laws.{renames_alone}
use Rattle.desk_invert_laws.specs.Texts.{IsFree}
use Rattle.desk_invert_laws.specs.Classes.{ClassesBack}
use Rattle.desk_invert_laws.proofs.Texts.{texts_back, back_set, inverts}

-- what holds of each use holds of a use of an index in a role
used_text : (P : Role → ℕ → Type 0) (us : List Used) → AllByRecursion (λ (u : Used). P u.role u.index) us → (role : Role) (i : ℕ) → HasUse us role i → P role i
used_text P [] all role i h = absurd h
used_text P (u ∷ us) all role i (inl e) = subst (λ (r : Role). P r i) e.0 (subst (λ (j : ℕ). P u.role j) e.1 all.0)
used_text P (u ∷ us) all role i (inr h) = used_text P us all.1 role i h

-- images of which the second takes each used text back
module _ (im back : Images) (pool : Pool) (us : List Used) (linked : EachLink (LinkUsed us) pool) (texts : (role : Role) (i : ℕ) → HasUse us role i → image back role (image im role (text_at pool i)) ≡ text_at pool i) where
  abbrev Stays : Value → Type 0
  Stays v = renamed_value back (renamed_value im v) ≡ v

  -- what an entry leads to
  stays_in : (v : ℕ → Value) → ((i : ℕ) → Stays (v i)) → (e : Entry) → AllByRecursion (LinkUsed us) (links e) → Stays (value_in v (text_at pool) (Some e))
  stays_in v all (utf8 s) h = refl
  stays_in v all (integer b) h = refl
  stays_in v all (float b) h = refl
  stays_in v all (long b) h = refl
  stays_in v all (double b) h = refl
  stays_in v all (class i) h = ap class_named (texts roles.Class i h.0)
  stays_in v all (string i) h = ap string_of (texts roles.Str i h.0)
  stays_in v all (fieldref c n) h = ap₂ (member tags.Fieldref) (all c) (all n)
  stays_in v all (methodref c n) h = ap₂ (member tags.Methodref) (all c) (all n)
  stays_in v all (interface_methodref c n) h = ap₂ (member tags.InterfaceMethodref) (all c) (all n)
  stays_in v all (name_and_type n d) h = ap (named_typed (text_at pool n)) (texts roles.Descriptor d h.1.0)
  stays_in v all (method_handle k i) h = ap (handle k) (all i)
  stays_in v all (method_type d) h = ap method_typed (texts roles.Descriptor d h.0)
  stays_in v all (dynamic n i) h = ap (computed tags.Dynamic n) (all i)
  stays_in v all (invoke_dynamic n i) h = ap (computed tags.InvokeDynamic n) (all i)
  stays_in v all (module_named i) h = refl
  stays_in v all (package_named i) h = ap package_called (texts roles.Package i h.0)

  stays_within : (levels i : ℕ) → Stays (value_within levels pool i)
  unfolding value_within
  stays_within zero i = refl
  stays_within (suc levels) i = by (λ j. stays_within levels j) (entry_at pool i) refl
    where
      by : ((j : ℕ) → Stays (value_within levels pool j)) → (o : Option Entry) → entry_at pool i ≡ o → Stays (value_in (value_within levels pool) (text_at pool) o)
      by all None q = refl
      by all (Some e) q = stays_in (value_within levels pool) all e (each_at (LinkUsed us) pool i e linked q)

  -- ---- the body

  stays_as : (t : Referent) (i : ℕ) → IsUsed us t i → Stays (value_as t pool i)
  stays_as (referents.Text role form) i h = ap (text_as role) (texts role i h)
  stays_as (referents.Class form) i h = stays_within 3 i
  stays_as (referents.NameAndType form) i h = stays_within 3 i
  stays_as (referents.Entry entries) i h = stays_within 3 i

  used_in : (t : Referent) (at i : ℕ) → Within (uses_of (text_in_role t at i)) us → IsUsed us t i
  used_in (referents.Text role form) at i w = w.has role i (inl (refl, refl))
  used_in (referents.Class form) at i w = tt
  used_in (referents.NameAndType form) at i w = tt
  used_in (referents.Entry entries) at i w = tt

  stays_use : (u : Use) → Within (uses_of (text_use u)) us → Stays (value pool u)
  stays_use u w = by (may_be_none u.kind && nat_eq u.index 0) w
    where
      by : (b : Bool) → Within (uses_of (cond b None (text_in_role (referent_of u.kind) u.at u.index))) us → Stays (cond b none (value_as (referent_of u.kind) pool u.index))
      by true w = refl
      by false w = stays_as (referent_of u.kind) u.index (used_in (referent_of u.kind) u.at u.index w)

  pub tree_stays : (t : Tree Use) → Within (uses t) us → renamed back (renamed im (resolved pool t)) ≡ resolved pool t
  tree_stays Tree.nothing w = refl
  tree_stays (Tree.number bytes) w = refl
  tree_stays (Tree.raw bytes) w = refl
  tree_stays (Tree.code bytes) w = refl
  tree_stays (Tree.used u) w = ap Tree.used (stays_use u w)
  tree_stays (Tree.both a b) w = ap₂ Tree.both
      (tree_stays a (record { has = λ role i h. w.has role i (has_left (uses a) (uses b) role i h) }))
      (tree_stays b (record { has = λ role i h. w.has role i (has_right (uses a) (uses b) role i h) }))
  tree_stays (Tree.member a) w = ap Tree.member (tree_stays a w)

-- ---- two renamings

-- a class whose pool is well-formed, and whose indices fit it
record IsFit (c : Class) : Type 0 where
  well_formed : IsWellFormed c.pool
  fits : Each (Fits c.pool) c.body

-- what holds of each exchanged index holds of each of the new body
each_new : {U V : Type 0} (P : V → Type 0) (f : U → V) (t : Tree U) → Each (λ (u : U). P (f u)) t → Each P (map_tree f t)
each_new P f Tree.nothing h = tt
each_new P f (Tree.number bytes) h = tt
each_new P f (Tree.raw bytes) h = tt
each_new P f (Tree.code bytes) h = tt
each_new P f (Tree.used u) h = h
each_new P f (Tree.both a b) h = (each_new P f a h.0, each_new P f b h.1)
each_new P f (Tree.member a) h = each_new P f a h

-- its new class, where none is refused, is one too, and its resolved tree is the renamed one
module _ (im : Images) (c : Class) (keeps : KeepsForms im) (is : IsFit c) (none : refusal im c ≡ None) where
  accepted : IsAccepted im c.pool (class_uses c)
  accepted =
      let one = neither (overlong_in im c) (or_else (full_in im c) (twins_of im c)) none in
      let two = neither (full_in im c) (twins_of im c) one.second in
      record {
        short = all_short im c.pool (class_uses c) one.first (all_named 10 c.pool c.body is.well_formed.linked is.fits);
        room = has_room (suc (length c.pool)) (length (added im c.pool (class_uses c))) two.first;
      }

  renamed_pool : IsRenamedPool im c.pool (class_uses c) c.body (pool_of im c)
  renamed_pool = new_pools im 10 c.pool c.body keeps is.well_formed is.fits accepted

  each : Each (Renames im c.pool (pool_of im c) (change_of im c)) c.body
  each = renamed_pool.body c.body_at (new_body_at im c)

  new_fit : IsFit (new_class im c)
  new_fit = record {
    well_formed = renamed_pool.pool.well_formed;
    fits = each_new (Fits (pool_of im c)) (exchanged (change_of im c)) c.body
        (Each-map (Renames im c.pool (pool_of im c) (change_of im c)) (λ (u : Use). Fits (pool_of im c) (exchanged (change_of im c) u)) c.body (λ u r. record { small = r.suits.small; fits = r.suits.fits }) each);
  }

  new_tree : resolved_class (new_class im c) ≡ renamed_class im (resolved_class c)
  new_tree =
      ap (λ (t : Tree Value). record { minor = c.minor; major = c.major; body = t })
      (resolved-exchange c.pool (pool_of im c) (change_of im c) im c.body
      (Each-map (Renames im c.pool (pool_of im c) (change_of im c)) (λ (u : Use). value (pool_of im c) (exchanged (change_of im c) u) ≡ renamed_value im (value c.pool u)) c.body (λ u r. r.leads) each))

pub classes_back : ClassesBack
classes_back rules bytes c h b reads free accepted accepted' =
    let im : Images = images_of rules in
    let back : Images = images_of (renames_alone (inverse rules.renames)) in
    let printed : IsPrintedClass bytes c = printed_classes bytes c b reads in
    let fit : IsFit c = record { well_formed = printed.pool; fits = printed.fits } in
    let keeps : KeepsForms (images_of rules) = forms_kept rules h.rule_set in
    let keeps' : KeepsForms (images_of (renames_alone (inverse rules.renames))) = forms_kept (renames_alone (inverse rules.renames)) (back_set rules (inverse rules.renames) (inverts rules h)) in
    let texts : (role : Role) (i : ℕ) → HasUse (class_uses c) role i → image (images_of (renames_alone (inverse rules.renames))) role (image (images_of rules) role (text_at c.pool i)) ≡ text_at c.pool i =
    used_text (λ (role : Role) (i : ℕ). image (images_of (renames_alone (inverse rules.renames))) role (image (images_of rules) role (text_at c.pool i)) ≡ text_at c.pool i) (class_uses c)
    (each_back (class_uses c) free) in
    let tree : renamed (images_of (renames_alone (inverse rules.renames))) (renamed (images_of rules) (resolved c.pool c.body)) ≡ resolved c.pool c.body =
    tree_stays (images_of rules) (images_of (renames_alone (inverse rules.renames))) c.pool (class_uses c) (pool_within 10 c.pool c.body) texts c.body (record { has = λ role i h. has_right _ (uses c.body) role i h }) in
    new_tree (images_of (renames_alone (inverse rules.renames))) (new_class (images_of rules) c) keeps' (new_fit (images_of rules) c keeps fit accepted) accepted'
    ∙ ap (renamed_class (images_of (renames_alone (inverse rules.renames)))) (new_tree (images_of rules) c keeps fit accepted)
    ∙ ap (λ (t : Tree Value). record { minor = c.minor; major = c.major; body = t }) tree
  where
    each_back : (us : List Used) → AllByRecursion (λ (u : Used). IsFree rules.renames u.role (text_at c.pool u.index)) us
        → AllByRecursion (λ (u : Used). image (images_of (renames_alone (inverse rules.renames))) u.role (image (images_of rules) u.role (text_at c.pool u.index)) ≡ text_at c.pool u.index) us
    each_back [] all = tt
    each_back (u ∷ us) all = (texts_back rules u.role (text_at c.pool u.index) h all.0, each_back us all.1)
