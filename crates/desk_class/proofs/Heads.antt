-- A field or method, by what stands in front; and the index of this class.
use Rattle.std.proofs.Common.{◌≡◌, ℕ, ◌+◌, ◌-◌, Bool, true, false, List, [], ◌∷◌, ◌++◌, take, drop, None, Result, Ok, Err, sym, ap, ◌∙◌, arith}
use Rattle.std.specs.Int.{w16, from_be_bytes}
use Rattle.desk_base.specs.Spot.{Spot}
use Rattle.desk_base.specs.declared.faults.ReadFault.{ReadFault}
use Rattle.desk_base.specs.declared.faults.ReadFault.TheVariants as read_faults
use Rattle.desk_base.specs.declared.kinds.Used.{Used}
use Rattle.desk_base.specs.declared.kinds.UseKind.{UseKind}
use Rattle.desk_base.specs.declared.kinds.UseKind.TheVariants as kinds
use Rattle.desk_base.specs.Entries.{Pool}
use Rattle.desk_base.specs.Misfits.{misfit}
use Rattle.desk_format.specs.declared.members.Member.{Member}
use Rattle.desk_format.specs.Trees.{Tree, Use, uses}
use Rattle.desk_format.specs.Members.{member_in}
use Rattle.desk_format.specs.Layouts.{Layout, any}
use Rattle.desk_format.specs.Rows.{row_layout}
use Rattle.desk_format.specs.Attributes.{attributes_of}
use Rattle.desk_format.specs.Reading.{Got, Failed, Reader, number_at, index_at, and_then, read, marked, member_at}
use Rattle.desk_format.specs.Walk.{Walk, walk, walk_at}
use Rattle.desk_format.specs.Walk.{Stops as WalkStops}
use Rattle.desk_format.proofs.Steps.{got_of, then_ok, item_ok}
use Rattle.desk_format.proofs.Walks.{walk_ok, walk_err}
use Rattle.desk_pool.specs.Seen.{Stops}
use Rattle.desk_class.specs.Scan.{scan, scan_at, scanned, descriptor_kind, member_place, head_layout, member_layout, member_ahead}

-- what stands behind two bytes that were read into a tree
record Behind (second : Reader) (at : ℕ) (s : List ℕ) (t : Tree Use) (got : Got) : Type 0 where
  b : Got
  reads : second (at + 2) (drop 2 s) ≡ Ok b
  is : got.tree ≡ Tree.both t b.tree

two_behind : (first second : Reader) (at : ℕ) (s : List ℕ) (t : Tree Use) (got : Got) → ((g : Got) → first at s ≡ Ok g → got_of t (at + 2) (drop 2 s) ≡ g) → and_then first (λ _. second) at s ≡ Ok got → Behind second at s t got
two_behind first second at s t got h e =
    let o = then_ok first (λ _. second) at s got e in
    let p = h o.a o.first_ok in
    record {
      b = o.b;
      reads = ap (λ (g : Got). second g.at g.left) p ∙ o.second_ok;
      is = ap (λ (g : Got). g.tree) (sym o.is) ∙ ap (λ (g : Got). Tree.both g.tree o.b.tree) (sym p);
    }

number_read : (at : ℕ) (s : List ℕ) (g : Got) → number_at w16 any at s ≡ Ok g → got_of (Tree.number (take 2 s)) (at + 2) (drop 2 s) ≡ g
unfolding number_at
number_read at s g e = (item_ok 2 (λ bytes. None) (λ at bytes. Tree.number bytes) at s g e).is

abbrev use_in : UseKind → ℕ → List ℕ → Tree Use
use_in kind at s = Tree.used (record { at = at; kind = kind; index = from_be_bytes w16 (take 2 s) })

use_read : (pool : Pool) (kind : UseKind) (at : ℕ) (s : List ℕ) (g : Got) → index_at pool kind at s ≡ Ok g → got_of (use_in kind at s) (at + 2) (drop 2 s) ≡ g
unfolding index_at
use_read pool kind at s g e =
    (item_ok 2 (λ bytes. misfit pool kind (from_be_bytes w16 bytes)) (λ at bytes. Tree.used (record { at = at; kind = kind; index = from_be_bytes w16 bytes })) at s g e).is

-- access flags and two indices
pub record Head (k l : UseKind) (at : ℕ) (s : List ℕ) (got : Got) : Type 0 where
  pub flags : Tree Use
  pub rest : Tree Use
  pub is : got.tree ≡ Tree.both flags (Tree.both (use_in k (at + 2) (drop 2 s)) (Tree.both (use_in l (at + 2 + 2) (drop 2 (drop 2 s))) rest))

pub head_read : (pool : Pool) (k l : UseKind) (at : ℕ) (s : List ℕ) (got : Got)
    → read pool (Layout.row (Layout.number w16 any) (Layout.row (Layout.index k) (Layout.row (Layout.index l) Layout.nothing))) at s ≡ Ok got → Head k l at s got
unfolding read
head_read pool k l at s got e =
    let a = two_behind (number_at w16 any) _ at s (Tree.number (take 2 s)) got (number_read at s) e in
    let b = two_behind (index_at pool k) _ (at + 2) (drop 2 s) (use_in k (at + 2) (drop 2 s)) a.b (use_read pool k (at + 2) (drop 2 s)) a.reads in
    let c = two_behind (index_at pool l) _ (at + 2 + 2) (drop 2 (drop 2 s)) (use_in l (at + 2 + 2) (drop 2 (drop 2 s))) b.b (use_read pool l (at + 2 + 2) (drop 2 (drop 2 s))) b.reads in
    record {
      flags = Tree.number (take 2 s);
      rest = c.b.tree;
      is = a.is ∙ ap (λ (t : Tree Use). Tree.both (Tree.number (take 2 s)) t) (b.is ∙ ap (λ (t : Tree Use). Tree.both (use_in k (at + 2) (drop 2 s)) t) c.is);
    }

back : (at : ℕ) → at + 2 - 2 ≡ at
back at = omega arith

member_of_tree : (method : Bool) (at : ℕ) (s : List ℕ) (flags rest attributes : Tree Use)
    → member_in (Tree.both (Tree.both flags (Tree.both (use_in kinds.Plain (at + 2) (drop 2 s)) (Tree.both (use_in (descriptor_kind method) (at + 2 + 2) (drop 2 (drop 2 s))) rest))) attributes)
    ≡ member_ahead method (record { at = at; left = s }) ∷ []
member_of_tree true at s flags rest attributes = ap (λ (n : ℕ). record { at = n; name = from_be_bytes w16 (take 2 (drop 2 s)); descriptor = from_be_bytes w16 (take 2 (drop 2 (drop 2 s))); method = true } ∷ []) (back at)
member_of_tree false at s flags rest attributes = ap (λ (n : ℕ). record { at = n; name = from_be_bytes w16 (take 2 (drop 2 s)); descriptor = from_be_bytes w16 (take 2 (drop 2 (drop 2 s))); method = false } ∷ []) (back at)

pub member_read : (pool : Pool) (method : Bool) (at : ℕ) (s : List ℕ) (got : Got) → read pool (member_layout method) at s ≡ Ok got → member_in got.tree ≡ member_ahead method (record { at = at; left = s }) ∷ []
unfolding read row_layout
member_read pool method at s got e =
    let o = then_ok (read pool (head_layout method)) (λ _. read pool (attributes_of (member_place method))) at s got e in
    let h = head_read pool kinds.Plain (descriptor_kind method) at s o.a o.first_ok in
    ap (λ (g : Got). member_in g.tree) (sym o.is)
    ∙ ap (λ (t : Tree Use). member_in (Tree.both t o.b.tree)) h.is
    ∙ member_of_tree method at s h.flags h.rest o.b.tree

-- a field or method that was walked through
pub member_scans : (pool : Pool) (method : Bool) (us us' : List Used) (ms : List Member) (spot spot' : Spot) (m : Member) → m ≡ member_ahead method spot
    → walk (read pool (member_layout method)) (walk_at us spot) ≡ Ok (walk_at us' spot') → scan (read pool (Layout.member (member_layout method))) (scan_at us ms spot) ≡ Ok (scan_at us' (ms ++ m ∷ []) spot')
unfolding walk scan read member_at
member_scans pool method us us' ms spot spot' m is h =
    let o = walk_ok us (walk_at us' spot') (read pool (member_layout method) spot.at spot.left) h in
    ap (λ (r : Result Got Failed). scanned us ms (marked r)) o.1
    ∙ ap (λ (ns : List Member). Ok (record { uses = us ++ uses o.0.tree; members = ms ++ ns; at = o.0.at; left = o.0.left })) (member_read pool method spot.at spot.left o.0 o.1 ∙ ap (λ (n : Member). n ∷ []) (sym is))
    ∙ ap (λ (w : Walk). Ok (record { uses = w.uses; members = ms ++ m ∷ []; at = w.at; left = w.left })) o.2

pub member_stops : (e : ReadFault) (pool : Pool) (method : Bool) (us us' : List Used) (ms : List Member) (spot : Spot) → WalkStops e (walk (read pool (member_layout method)) (walk_at us spot)) us'
    → Stops e (scan (read pool (Layout.member (member_layout method))) (scan_at us ms spot))
unfolding walk scan read member_at
member_stops (read_faults.Malformed f) pool method us us' ms spot h =
    let o = walk_err us (record { fault = f; before = us' }) (read pool (member_layout method) spot.at spot.left) h in
    ap (λ (r : Result Got Failed). scanned us ms (marked r)) o.1 ∙ ap (λ (x : Failed). Err x.fault) o.2
member_stops read_faults.Memory pool method us us' ms spot h = tt
