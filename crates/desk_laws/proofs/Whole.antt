-- The laws of whole classes.
use Rattle.std.proofs.Common.{◌↔◌, ◌≡◌, ℕ, suc, ◌+◌, List, [], ◌++◌, length, take, drop, Option, Some, None, Ok, refl, sym, ap, ap₂, subst, ◌∙◌, append_assoc, append-nil, arith, length-append}
use Rattle.std.proofs.lemmas.List.{take_at, drop_at, take-append-drop}
use Rattle.desk_base.specs.declared.kinds.Used.{Used}
use Rattle.desk_base.specs.Entries.{Pool}
use Rattle.desk_base.specs.Misfits.{or_else}
use Rattle.desk_format.specs.Trees.{Tree, Use, Each, IsPlaced, print, uses}
use Rattle.desk_format.specs.Reading.{read}
use Rattle.desk_format.specs.Reading.{Got as ReadTree}
use Rattle.desk_format.specs.ClassBody.{class_body}
use Rattle.desk_format.specs.Exchange.{Change, moved, exchange, patch}
use Rattle.desk_format.specs.Resolved.{Images}
use Rattle.desk_format.specs.Laws.{IsBytes, Renames, IsRenamedBody}
use Rattle.desk_format.specs.PoolBytes.{print_pool}
use Rattle.desk_format.specs.PoolReading.{Got}
use Rattle.desk_format.specs.Members.{Twins, first_twins, named_in, members}
use Rattle.desk_format.specs.Classes.{Class, Version, read_class, class_of, twins_in}
use Rattle.desk_format.specs.NewPool.{wants, choice, new_pool, added, change_by}
use Rattle.desk_format.specs.NewClass.{refusal, overlong_in, full_in, twins_of, twins_refusal, renamed_in, new_class, new_bytes}
use Rattle.desk_format.proofs.Exact.{IsBytes-drop, Taken, exact}
use Rattle.desk_format.proofs.Patched.{patch_tree, Each-map, renamed_bodies}
use Rattle.desk_laws.specs.Sound.{IsTwoBytes, IsWellFormed}
use Rattle.desk_laws.specs.NewPools.{KeepsForms, IsAccepted, IsRenamedPool, all_uses}
use Rattle.desk_laws.specs.Classes.{IsPrintedClass, PrintedClasses, IsRenamedClass, RenamedClasses, RefusedTwins, IsSettled, IsUnchangedClass, UnchangedClasses}
use Rattle.desk_laws.proofs.Passes.{Neither, neither, or_else-none}
use Rattle.desk_laws.proofs.Inverse.{Gives, pool_ensures}
use Rattle.desk_laws.proofs.Spelled.{Spelled, pool_spelled}
use Rattle.desk_laws.proofs.Again.{pool_again}
use Rattle.desk_laws.proofs.Bodies.{new_pools, all_named}
use Rattle.desk_laws.proofs.Second.{IsUnchanged, second, IsPlaced-exchange}
use Rattle.desk_laws.proofs.Header.{Header, ClassParts, class_ok, class_again}
use Rattle.desk_laws.proofs.Pairs.{Leads, no_twins, alike_back, members_alike, new_naming, again_naming}
use Rattle.desk_laws.proofs.Refused.{all_short, none_overlong, has_room, not_full}

-- ---- what was read

-- a class by its parts, and what reading says of them
pub record Known (bytes : List ℕ) : Type 0 where
  pub version : Got Version
  pub header : Header bytes version
  pub pool : Got Pool
  pub body : ReadTree
  pub well_formed : IsWellFormed pool.value
  pub parts : drop 8 bytes ≡ print_pool pool.value ++ pool.left
  pub place : pool.at ≡ 8 + length (print_pool pool.value)
  pub left : IsBytes pool.left
  pub reads : read pool.value class_body pool.at pool.left ≡ Ok body
  pub ends : body.left ≡ []
  pub taken : Taken pool.value pool.at pool.left body

abbrev pub class_by : {bytes : List ℕ} → Known bytes → Class
class_by k = class_of k.version.value k.pool.value k.pool.at k.body.tree

pub record IsKnown (bytes : List ℕ) (c : Class) : Type 0 where
  pub known : Known bytes
  pub no_twins : twins_in c ≡ None
  pub is : class_by known ≡ c

known_of : (bytes : List ℕ) (c : Class) → IsBytes bytes → read_class bytes ≡ Ok c → IsKnown bytes c
known_of bytes c b h =
    let p : ClassParts bytes c = class_ok bytes c b h in
    let behind : IsBytes (drop 8 bytes) = IsBytes-drop 8 bytes b in
    let o : Spelled [] print_pool 8 (drop 8 bytes) p.pool = (pool_spelled 8 (drop 8 bytes) behind).runs p.pool p.pool_ok in
    let g : Gives IsWellFormed p.pool = (pool_ensures 8 (drop 8 bytes) behind).runs p.pool p.pool_ok in
    record {
      known = record {
        version = p.version;
        header = p.header;
        pool = p.pool;
        body = p.body;
        well_formed = g.fact;
        parts = o.parts;
        place = omega (arith, o.place);
        left = o.left;
        reads = p.body_ok;
        ends = p.ends;
        taken = (exact p.pool.value class_body).runs p.pool.at p.pool.left p.body p.body_ok o.left;
      };
      no_twins = p.no_twins;
      is = p.is;
    }

module _ (bytes : List ℕ) (k : Known bytes) where
  whole : bytes ≡ (take 8 bytes ++ print_pool k.pool.value) ++ k.pool.left
  whole =
      sym (take-append-drop 8 bytes) ∙ ap (λ (x : List ℕ). take 8 bytes ++ x) k.parts ∙ sym (append_assoc (take 8 bytes) (print_pool k.pool.value) k.pool.left)

  front_long : length (take 8 bytes) ≡ 8
  front_long = ap length k.header.front

  behind : drop k.pool.at bytes ≡ k.pool.left
  behind =
      ap (drop k.pool.at) whole
      ∙ drop_at (take 8 bytes ++ print_pool k.pool.value) k.pool.left k.pool.at (omega (arith, length-append (take 8 bytes) (print_pool k.pool.value), front_long, k.place))

  body_parts : k.pool.left ≡ print k.body.tree
  body_parts = k.taken.parts ∙ ap (λ (x : List ℕ). print k.body.tree ++ x) k.ends ∙ append-nil (print k.body.tree)

  known_printed : IsPrintedClass bytes (class_by k)
  known_printed = record {
    prints = whole ∙ ap₂ (λ (x y : List ℕ). (x ++ print_pool k.pool.value) ++ y) k.header.front body_parts;
    pool = k.well_formed;
    behind = k.place;
    places = k.taken.placed;
    fits = k.taken.fits;
  }

pub printed_classes : PrintedClasses
printed_classes bytes c b h =
    let i : IsKnown bytes c = known_of bytes c b h in
    subst (λ (d : Class). IsPrintedClass bytes d) i.is (known_printed bytes i.known)

-- ---- what no refusal says

pub record NoRefusal (im : Images) (c : Class) : Type 0 where
  pub short : overlong_in im c ≡ None
  pub room : full_in im c ≡ None
  pub twins : first_twins (renamed_in im c.pool) (members c.body) ≡ None

no_pair : (o : Option Twins) → twins_refusal o ≡ None → o ≡ None
no_pair None h = refl
no_pair (Some t) h = absurd cc

none_refused : (im : Images) (c : Class) → refusal im c ≡ None → NoRefusal im c
none_refused im c h =
    let a : Neither (overlong_in im c) (or_else (full_in im c) (twins_of im c)) = neither (overlong_in im c) (or_else (full_in im c) (twins_of im c)) h in
    let b : Neither (full_in im c) (twins_of im c) = neither (full_in im c) (twins_of im c) a.second in
    record { short = a.first; room = b.first; twins = no_pair (first_twins (renamed_in im c.pool) (members c.body)) b.second }

refused_none : (im : Images) (c : Class) → NoRefusal im c → refusal im c ≡ None
refused_none im c h = or_else-none (overlong_in im c) (or_else (full_in im c) (twins_of im c)) h.short (or_else-none (full_in im c) (twins_of im c) h.room (ap twins_refusal h.twins))

-- ---- the new class

abbrev pub no_new_twins : Images → Class → Type 0
no_new_twins im c = first_twins (renamed_in im c.pool) (members c.body) ≡ None

module _ (im : Images) (bytes : List ℕ) (k : Known bytes) (keeps : KeepsForms im) (short : overlong_in im (class_by k) ≡ None) (room : full_in im (class_by k) ≡ None) where
  abbrev Old : Pool
  Old = k.pool.value

  abbrev Uses : List Used
  Uses = all_uses 10 k.pool.value k.body.tree

  abbrev New : Pool
  New = new_pool im k.pool.value (all_uses 10 k.pool.value k.body.tree)

  abbrev To : ℕ
  To = 8 + length (print_pool New)

  abbrev By : Change
  By = change_by (choice im k.pool.value (all_uses 10 k.pool.value k.body.tree)) k.pool.at To

  accepted : IsAccepted im k.pool.value (all_uses 10 k.pool.value k.body.tree)
  accepted = record {
    short = all_short im k.pool.value Uses short (all_named 10 k.pool.value k.body.tree k.well_formed.linked k.taken.fits);
    room = has_room (suc (length k.pool.value)) (length (added im k.pool.value Uses)) room;
  }

  renamed_pool : IsRenamedPool im k.pool.value (all_uses 10 k.pool.value k.body.tree) k.body.tree New
  renamed_pool = new_pools im 10 k.pool.value k.body.tree keeps k.well_formed k.taken.fits accepted

  each_renames : Each (Renames im k.pool.value New By) k.body.tree
  each_renames = renamed_pool.body k.pool.at To

  each_leads : Each (Leads im k.pool.value New By) k.body.tree
  each_leads = Each-map (Renames im k.pool.value New By) (Leads im k.pool.value New By) k.body.tree (λ u r. record { leads = r.leads }) each_renames

  few : IsTwoBytes (suc (length New))
  few = let room : IsTwoBytes (suc (length k.pool.value) + length (added im k.pool.value Uses)) = accepted.room in omega (arith, renamed_pool.pool.count)

  renamed_body : IsRenamedBody im k.pool.value New By class_body k.pool.at k.pool.left k.body
  renamed_body = renamed_bodies im k.pool.value New By class_body k.pool.at k.pool.left k.body k.left k.reads (omega arith) each_renames

  -- the bytes of the new body
  abbrev Patched : List ℕ
  Patched = patch By.index k.pool.at (uses k.body.tree) k.pool.left

  new_bytes-is : new_bytes im bytes (class_by k) ≡ (take 8 bytes ++ print_pool New) ++ Patched
  new_bytes-is = ap (λ (x : List ℕ). (take 8 bytes ++ print_pool New) ++ patch By.index k.pool.at (uses k.body.tree) x) (behind bytes k)

  new_reads : read New class_body To Patched ≡ Ok (record { tree = exchange By k.body.tree; at = moved By k.body.at; left = k.body.left })
  new_reads = let place : To ≡ moved By k.pool.at = omega arith in ap (λ (p : ℕ). read New class_body p Patched) place ∙ renamed_body.reads

  without_twins : no_new_twins im (class_by k) → twins_in (new_class im (class_by k)) ≡ None
  without_twins none =
      no_twins (renamed_in im k.pool.value) (named_in New) (members k.body.tree) (members (exchange By k.body.tree))
      (members_alike im k.pool.value New By (renamed_in im k.pool.value) (named_in New) (new_naming im k.pool.value New) k.body.tree each_leads) none

  -- the new class has twins exactly where the refusal says so
  with_twins : twins_in (new_class im (class_by k)) ≡ None → no_new_twins im (class_by k)
  with_twins none =
      no_twins (named_in New) (renamed_in im k.pool.value) (members (exchange By k.body.tree)) (members k.body.tree)
      (alike_back (renamed_in im k.pool.value) (named_in New) (members k.body.tree) (members (exchange By k.body.tree))
      (members_alike im k.pool.value New By (renamed_in im k.pool.value) (named_in New) (new_naming im k.pool.value New) k.body.tree each_leads)) none

  known_renamed : no_new_twins im (class_by k) → IsRenamedClass im bytes (class_by k)
  known_renamed none = record {
    reads = ap read_class (new_bytes-is ∙ append_assoc (take 8 bytes) (print_pool New) Patched)
        ∙ class_again k.version bytes (print_pool New ++ Patched) New To Patched (record { tree = exchange By k.body.tree; at = moved By k.body.at; left = k.body.left }) (new_class im (class_by k))
        k.header (pool_again 8 New Patched renamed_pool.pool.well_formed few) new_reads k.ends refl (without_twins none);
    tree = ap (λ (t : _). record { minor = k.version.value.minor; major = k.version.value.major; body = t }) renamed_body.resolves;
    pool = renamed_pool.pool;
  }

  -- ---- a second time

  module _ (settled : IsSettled im) where
    abbrev Tree' : Tree Use
    Tree' = exchange By k.body.tree

    stable : IsUnchanged im 10 New To Tree'
    stable = second im 10 k.pool.value k.body.tree k.pool.at To keeps settled k.well_formed k.taken.fits k.taken.placed accepted

    no_second_refusal : no_new_twins im (class_by k) → NoRefusal im (new_class im (class_by k))
    no_second_refusal none = record {
      short = none_overlong (wants im New (all_uses 10 New Tree')) 1 New stable.accepted.short;
      room = not_full (suc (length New)) (length (added im New (all_uses 10 New Tree'))) stable.accepted.room;
      twins = no_twins (renamed_in im k.pool.value) (renamed_in im New) (members k.body.tree) (members Tree')
          (members_alike im k.pool.value New By (renamed_in im k.pool.value) (renamed_in im New) (again_naming im k.pool.value New settled) k.body.tree each_leads) none;
    }

    -- the patched bytes are those of the new tree
    patched-is : Patched ≡ print Tree' ++ k.body.left
    patched-is =
        let here : IsPlaced (k.pool.at + 0) k.body.tree = subst (λ (n : ℕ). IsPlaced n k.body.tree) (omega arith) k.taken.placed in
        ap (patch By.index k.pool.at (uses k.body.tree)) k.taken.parts ∙ patch_tree By k.pool.at k.body.tree [] k.body.left here

    abbrev Again : Change
    Again = change_by (choice im New (all_uses 10 New Tree')) To To

    patched_again : IsPlaced To Tree' → patch Again.index To (uses Tree') Patched ≡ Patched
    patched_again placed =
        let here : IsPlaced (To + 0) Tree' = subst (λ (n : ℕ). IsPlaced n Tree') (omega arith) placed in
        ap (patch Again.index To (uses Tree')) patched-is
        ∙ patch_tree Again To Tree' [] k.body.left here
        ∙ ap (λ (t : Tree Use). print t ++ k.body.left) stable.same_tree
        ∙ sym patched-is

    abbrev Bytes' : List ℕ
    Bytes' = (take 8 bytes ++ print_pool New) ++ Patched

    front_again : take 8 Bytes' ≡ take 8 bytes
    front_again = ap (take 8) (append_assoc (take 8 bytes) (print_pool New) Patched) ∙ take_at (take 8 bytes) (print_pool New ++ Patched) 8 (front_long bytes k)

    behind_again : drop To Bytes' ≡ Patched
    behind_again = drop_at (take 8 bytes ++ print_pool New) Patched To (omega (arith, length-append (take 8 bytes) (print_pool New), front_long bytes k))

    same_again : IsPlaced To Tree' → new_bytes im Bytes' (new_class im (class_by k)) ≡ Bytes'
    same_again placed =
        ap₂ (λ (x y : List ℕ). (x ++ print_pool (new_pool im New (all_uses 10 New Tree'))) ++ patch Again.index To (uses Tree') y) front_again behind_again
        ∙ ap₂ (λ (p : Pool) (y : List ℕ). (take 8 bytes ++ print_pool p) ++ y) stable.same_pool (patched_again placed)

    new_placed : IsPlaced To Tree'
    new_placed =
        let place : moved By k.pool.at ≡ To = omega arith in
        subst (λ (n : ℕ). IsPlaced n Tree') place (IsPlaced-exchange By k.pool.at k.body.tree (omega arith) k.taken.placed)

    known_unchanged : no_new_twins im (class_by k) → IsUnchangedClass im (new_bytes im bytes (class_by k)) (new_class im (class_by k))
    known_unchanged none = record {
      accepted = refused_none im (new_class im (class_by k)) (no_second_refusal none);
      images = stable.images;
      none_added = stable.none_added;
      same = subst (λ (b : List ℕ). new_bytes im b (new_class im (class_by k)) ≡ b) (sym new_bytes-is) (same_again new_placed);
    }

pub renamed_classes : RenamedClasses
renamed_classes im bytes c keeps b h none =
    let i : IsKnown bytes c = known_of bytes c b h in
    let k : Known bytes = i.known in
    let n : NoRefusal im (class_by i.known) = none_refused im (class_by i.known) (subst (λ (d : Class). refusal im d ≡ None) (sym i.is) none) in
    subst (λ (d : Class). IsRenamedClass im bytes d) i.is (known_renamed im bytes i.known keeps n.short n.room n.twins)

pub unchanged_classes : UnchangedClasses
unchanged_classes im bytes c keeps settled b h none =
    let i : IsKnown bytes c = known_of bytes c b h in
    let n : NoRefusal im (class_by i.known) = none_refused im (class_by i.known) (subst (λ (d : Class). refusal im d ≡ None) (sym i.is) none) in
    subst (λ (d : Class). IsUnchangedClass im (new_bytes im bytes d) (new_class im d)) i.is (known_unchanged im bytes i.known keeps n.short n.room settled n.twins)

pub refused_twins : RefusedTwins
refused_twins im bytes c keeps b h short room =
    let i : IsKnown bytes c = known_of bytes c b h in
    let k : Known bytes = i.known in
    let short' : overlong_in im (class_by i.known) ≡ None = subst (λ (d : Class). overlong_in im d ≡ None) (sym i.is) short in
    let room' : full_in im (class_by i.known) ≡ None = subst (λ (d : Class). full_in im d ≡ None) (sym i.is) room in
    subst (λ (d : Class). (twins_of im d ≡ None) ↔ (twins_in (new_class im d) ≡ None)) i.is (
      λ none. without_twins im bytes i.known keeps short' room' (no_pair (first_twins (renamed_in im i.known.pool.value) (members i.known.body.tree)) none),
      λ none. ap twins_refusal (with_twins im bytes i.known keeps short' room' none),
    )
