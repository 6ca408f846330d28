-- A class by what was read of it, part by part.
use Rattle.std.proofs.Common.{◌≡◌, ℕ, ◌<◌, ◌≤◌, List, [], ◌∷◌, ◌++◌, length, take, drop, Option, Some, None, option_map, Result, Ok, Err, refl, sym, ap, ◌∙◌, arith}
use Rattle.std.specs.Int.{w16, from_be_bytes}
use Rattle.desk_base.specs.declared.faults.Malformed.{Malformed}
use Rattle.desk_base.specs.declared.faults.FaultKind.TheVariants as faults
use Rattle.desk_base.specs.declared.kinds.Used.{Used}
use Rattle.desk_base.specs.declared.kinds.Tag.TheVariants as tags
use Rattle.desk_base.specs.declared.kinds.UseKind.TheVariants as kinds
use Rattle.desk_base.specs.Entries.{Pool, Entry, tag_of, entry_at, tag_at, class_name_in, class_name_at, utf8, integer, float, long, double, class, string, fieldref, methodref, interface_methodref, name_and_type, method_handle, method_type, dynamic, invoke_dynamic, module_named, package_named}
use Rattle.desk_format.specs.declared.members.Member.{Member}
use Rattle.desk_format.specs.Trees.{Tree, Use, uses}
use Rattle.desk_format.specs.Members.{Twins, first_twins, named_in, members}
use Rattle.desk_format.specs.Rows.{row_layout}
use Rattle.desk_format.specs.ClassBody.{class_body}
use Rattle.desk_format.specs.PoolReading.{got, then_read, read_pool}
use Rattle.desk_format.specs.PoolReading.{Got as Read}
use Rattle.desk_format.specs.Reading.{Got, Failed, read}
use Rattle.desk_format.specs.Classes.{Class, Version, header_read, tree_of, ended, class_of, behind_pool, class_at, without_twins, checked_class, read_class, fault_in, class_fault}
use Rattle.desk_format.proofs.Steps.{then_ok}
use Rattle.desk_class.specs.Scan.{Scan, scan, scanned, class_head}
use Rattle.desk_class.specs.Parts.{this_class}
use Rattle.desk_class.proofs.Heads.{head_read}
use Rattle.desk_class.proofs.Pairs.{second_of}

-- ---- what was scanned

record Scanned (us : List Used) (ms : List Member) (r : Result Got Failed) (s : Scan) : Type 0 where
  tree : Got
  reads : r ≡ Ok tree
  is : record { uses = us ++ uses tree.tree; members = ms ++ members tree.tree; at = tree.at; left = tree.left } ≡ s

scan_ok : (us : List Used) (ms : List Member) (r : Result Got Failed) (s : Scan) → scanned us ms r ≡ Ok s → Scanned us ms r s
scan_ok us ms (Ok g) s h = record { tree = g; reads = refl; is = cc }
scan_ok us ms (Err e) s h = absurd cc

record Stopped (r : Result Got Failed) (f : Malformed) : Type 0 where
  failed : Failed
  reads : r ≡ Err failed
  is : failed.fault ≡ f

scan_err : (us : List Used) (ms : List Member) (r : Result Got Failed) (f : Malformed) → scanned us ms r ≡ Err f → Stopped r f
scan_err us ms (Ok g) f h = absurd cc
scan_err us ms (Err e) f h = record { failed = e; reads = refl; is = cc }

-- ---- the class up to a part

pub header_fault : (bytes : List ℕ) (f : Malformed) → header_read 0 bytes ≡ Err f → class_fault bytes ≡ Some f
unfolding read_class
header_fault bytes f h = ap (λ (r : Result (Read Version) Malformed). fault_in (checked_class (then_read r (λ v. λ at s. then_read (read_pool at s) (behind_pool v))))) h

module _ (bytes : List ℕ) (v : Version) (at : ℕ) (s : List ℕ) (header : header_read 0 bytes ≡ Ok (got v at s)) where
  at_pool : class_at 0 bytes ≡ then_read (read_pool at s) (behind_pool v)
  at_pool = ap (λ (r : Result (Read Version) Malformed). then_read r (λ v. λ at s. then_read (read_pool at s) (behind_pool v))) header

  pub pool_fault : (f : Malformed) → read_pool at s ≡ Err f → class_fault bytes ≡ Some f
  unfolding read_class
  pool_fault f h = ap (λ (r : Result (Read Class) Malformed). fault_in (checked_class r)) (at_pool ∙ ap (λ (r : Result (Read Pool) Malformed). then_read r (behind_pool v)) h)

  module _ (pool : Pool) (at' : ℕ) (s' : List ℕ) (pooled : read_pool at s ≡ Ok (got pool at' s')) where
    at_body : class_at 0 bytes ≡ behind_pool v pool at' s'
    at_body = at_pool ∙ ap (λ (r : Result (Read Pool) Malformed). then_read r (behind_pool v)) pooled

    abbrev body_of : Result Got Failed → Result (Read Class) Malformed
    body_of r = then_read (tree_of r) (λ body. ended (class_of v pool at' body))

    pub body_fault : (us : List Used) (f : Malformed) → scan (read pool class_body) (record { uses = us; members = []; at = at'; left = s' }) ≡ Err f → class_fault bytes ≡ Some f
    unfolding read_class scan
    body_fault us f h =
        let o = scan_err us [] (read pool class_body at' s') f h in
        ap (λ (r : Result (Read Class) Malformed). fault_in (checked_class r)) (at_body ∙ ap body_of o.reads) ∙ ap (λ (g : Malformed). Some g) o.is

    -- the body of the class, behind which nothing or something is left
    pub record Bodied (us : List Used) (scan' : Scan) : Type 0 where
      pub tree : Tree Use
      pub reads : class_at 0 bytes ≡ ended (class_of v pool at' tree) scan'.at scan'.left
      pub used : us ++ uses tree ≡ scan'.uses
      pub members_are : members tree ≡ scan'.members
      pub this_is : this_class tree ≡ from_be_bytes w16 (take 2 (drop 2 s'))

    this_read : (g : Got) → read pool class_body at' s' ≡ Ok g → this_class g.tree ≡ from_be_bytes w16 (take 2 (drop 2 s'))
    unfolding read class_body row_layout
    this_read g e =
        let o = then_ok (read pool class_head) _ at' s' g e in
        let h = head_read pool kinds.ClassName kinds.ClassNameOrNone at' s' o.a o.first_ok in
        ap (λ (x : Got). this_class x.tree) (sym o.is) ∙ ap (λ (t : Tree Use). this_class (Tree.both t o.b.tree)) h.is

    pub bodied : (us : List Used) (scan' : Scan) → scan (read pool class_body) (record { uses = us; members = []; at = at'; left = s' }) ≡ Ok scan' → Bodied us scan'
    unfolding scan
    bodied us scan' h =
        let o = scan_ok us [] (read pool class_body at' s') scan' h in
        record {
          tree = o.tree.tree;
          reads = at_body ∙ ap body_of o.reads ∙ ap (λ (x : Scan). ended (class_of v pool at' o.tree.tree) x.at x.left) o.is;
          used = ap (λ (x : Scan). x.uses) o.is;
          members_are = ap (λ (x : Scan). x.members) o.is;
          this_is = this_read o.tree o.reads;
        }

    pub trailing_fault : (us : List Used) (scan' : Scan) → Bodied us scan' → 0 < length scan'.left → class_fault bytes ≡ Some (record { kind = faults.Trailing; at = scan'.at })
    unfolding read_class
    trailing_fault us scan' b more = ap (λ (r : Result (Read Class) Malformed). fault_in (checked_class r)) b.reads ∙ some scan'.left more
      where
        some : (left : List ℕ) → 0 < length left → fault_in (checked_class (ended (class_of v pool at' b.tree) scan'.at left)) ≡ Some (record { kind = faults.Trailing; at = scan'.at })
        some [] more = absurd (omega arith)
        some (x ∷ left) more = refl

    ends : (us : List Used) (scan' : Scan) (b : Bodied us scan') → length scan'.left ≤ 0 → read_class bytes ≡ without_twins (class_of v pool at' b.tree) (first_twins (named_in pool) scan'.members)
    unfolding read_class
    ends us scan' b none =
        ap checked_class b.reads ∙ over scan'.left none ∙ ap (λ (ms : List Member). without_twins (class_of v pool at' b.tree) (first_twins (named_in pool) ms)) b.members_are
      where
        over : (left : List ℕ) → length left ≤ 0 → checked_class (ended (class_of v pool at' b.tree) scan'.at left) ≡ without_twins (class_of v pool at' b.tree) (first_twins (named_in pool) (members b.tree))
        over [] none = refl
        over (x ∷ left) none = absurd (omega arith)

    pub twins_fault : (us : List Used) (scan' : Scan) → Bodied us scan' → length scan'.left ≤ 0 → (m : Member) → Some m ≡ second_of (first_twins (named_in pool) scan'.members) → class_fault bytes ≡ Some (record { kind = faults.Twins; at = m.at })
    twins_fault us scan' b none m h = ap fault_in (ends us scan' b none) ∙ by_pair (first_twins (named_in pool) scan'.members) h
      where
        by_pair : (o : Option Twins) → Some m ≡ second_of o → fault_in (without_twins (class_of v pool at' b.tree) o) ≡ Some (record { kind = faults.Twins; at = m.at })
        by_pair (Some t) h = let e : t.second ≡ m = cc in ap (λ (x : Member). Some (record { kind = faults.Twins; at = x.at })) e
        by_pair None h = absurd cc

    -- the class
    pub whole : (us : List Used) (scan' : Scan) (b : Bodied us scan') → length scan'.left ≤ 0 → None ≡ second_of (first_twins (named_in pool) scan'.members) → read_class bytes ≡ Ok (class_of v pool at' b.tree)
    whole us scan' b none h = ends us scan' b none ∙ by_pair (first_twins (named_in pool) scan'.members) h
      where
        by_pair : (o : Option Twins) → None ≡ second_of o → without_twins (class_of v pool at' b.tree) o ≡ Ok (class_of v pool at' b.tree)
        by_pair (Some t) h = absurd cc
        by_pair None h = refl

-- ---- the name

no_name : (pool : Pool) (o : Option Entry) → (option_map tag_of o ≡ Some tags.Class → ⊥) → class_name_in pool o ≡ []
no_name pool None h = refl
no_name pool (Some (utf8 t)) h = refl
no_name pool (Some (integer b)) h = refl
no_name pool (Some (float b)) h = refl
no_name pool (Some (long b)) h = refl
no_name pool (Some (double b)) h = refl
no_name pool (Some (class i)) h = absurd (h refl)
no_name pool (Some (string i)) h = refl
no_name pool (Some (fieldref c n)) h = refl
no_name pool (Some (methodref c n)) h = refl
no_name pool (Some (interface_methodref c n)) h = refl
no_name pool (Some (name_and_type n d)) h = refl
no_name pool (Some (method_handle k i)) h = refl
no_name pool (Some (method_type d)) h = refl
no_name pool (Some (dynamic n i)) h = refl
no_name pool (Some (invoke_dynamic n i)) h = refl
no_name pool (Some (module_named i)) h = refl
no_name pool (Some (package_named i)) h = refl

-- an index that names no Class leads to the empty text
pub not_class : (pool : Pool) (i : ℕ) → (tag_at pool i ≡ Some tags.Class → ⊥) → class_name_at pool i ≡ []
not_class pool i h = no_name pool (entry_at pool i) h
