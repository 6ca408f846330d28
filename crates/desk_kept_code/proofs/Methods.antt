-- The code arrays of the methods of a class, and those of its new class.
use Rattle.std.proofs.Common.{◌≡◌, ℕ, ◌+◌, ◌-◌, ◌<◌, ◌≤◌, Bool, true, false, cond, List, [], ◌∷◌, ◌++◌, length, map, take, drop, refl, sym, ap, subst, arith}
use Rattle.std.specs.List.{AllZip}
use Rattle.desk_base.specs.declared.kinds.UseKind.{UseKind}
use Rattle.desk_base.specs.declared.kinds.UseKind.TheVariants as kinds
use Rattle.desk_base.specs.Entries.{Pool, text_at}
use Rattle.desk_format.specs.declared.members.Member.{Member}
use Rattle.desk_format.specs.Trees.{Tree, Use, Each, map_tree, print}
use Rattle.desk_format.specs.Members.{Named, named_in, member_of, member_by, member_in}
use Rattle.desk_format.specs.Resolved.{Images, value, renamed_value}
use Rattle.desk_format.specs.Exchange.{Change, moved, exchanged, exchange}
use Rattle.desk_format.specs.NewClass.{renamed_in}
use Rattle.desk_format.proofs.Follows.{length-print}
use Rattle.desk_laws.proofs.Pairs.{Same, Alike, Leads, members_alike, new_naming}
use Rattle.desk_code.specs.declared.places.CodeAt.{CodeAt}
use Rattle.desk_code.specs.Codes.{CodeArray, code_arrays, code_at, codes_of_members, method_codes}
use Rattle.desk_code.proofs.Placing.{Good}
use Rattle.desk_kept_code.proofs.Arrays.{zip_append, zip_map, Stands, stands_first, stands_second, SameArray, same_arrays}

-- ---- what the indices of a body lead to

pub leads_of : (im : Images) (old new : Pool) (g : Change) (t : Tree Use) → map_tree (value new) (exchange g t) ≡ map_tree (renamed_value im) (map_tree (value old) t) → Each (Leads im old new g) t
leads_of im old new g Tree.nothing h = tt
leads_of im old new g (Tree.number bytes) h = tt
leads_of im old new g (Tree.raw bytes) h = tt
leads_of im old new g (Tree.code bytes) h = tt
leads_of im old new g (Tree.used u) h = let e : value new (exchanged g u) ≡ renamed_value im (value old u) = cc in record { leads = e }
leads_of im old new g (Tree.member a) h = let e : map_tree (value new) (exchange g a) ≡ map_tree (renamed_value im) (map_tree (value old) a) = cc in leads_of im old new g a e
leads_of im old new g (Tree.both a b) h =
    let e : map_tree (value new) (exchange g a) ≡ map_tree (renamed_value im) (map_tree (value old) a) = cc in
    let f : map_tree (value new) (exchange g b) ≡ map_tree (renamed_value im) (map_tree (value old) b) = cc in
    (leads_of im old new g a e, leads_of im old new g b f)

-- ---- where a member stands

-- its name stands behind its access flags
record Heads (g : Change) (m m' : Member) : Type 0 where
  name_at : ℕ
  before : m.at ≡ name_at - 2
  after : m'.at ≡ moved g name_at - 2

head_of : (g : Change) (method : Bool) (name descriptor : Use) (m m' : Member) → member_of method name descriptor ∷ [] ≡ m ∷ [] → member_of method (exchanged g name) (exchanged g descriptor) ∷ [] ≡ m' ∷ [] → Heads g m m'
head_of g method name descriptor m m' h k =
    let e : member_of method name descriptor ≡ m = cc in
    let f : member_of method (exchanged g name) (exchanged g descriptor) ≡ m' = cc in
    record { name_at = name.at; before = sym (ap (λ (x : Member). x.at) e); after = sym (ap (λ (x : Member). x.at) f) }

head_by : (g : Change) (a b : UseKind) (name descriptor : Use) (m m' : Member) → member_by a b name descriptor ≡ m ∷ [] → member_by a b (exchanged g name) (exchanged g descriptor) ≡ m' ∷ [] → Heads g m m'
head_by g kinds.Plain kinds.FieldDescriptor name descriptor m m' h k = head_of g false name descriptor m m' h k
head_by g kinds.Plain kinds.MethodDescriptor name descriptor m m' h k = head_of g true name descriptor m m' h k
head_by g kinds.Plain _ name descriptor m m' h k = absurd cc
head_by g _ b name descriptor m m' h k = absurd cc

heads : (g : Change) (a : Tree Use) (m m' : Member) → member_in a ≡ m ∷ [] → member_in (exchange g a) ≡ m' ∷ [] → Heads g m m'
heads g (Tree.both (Tree.both flags (Tree.both (Tree.used name) (Tree.both (Tree.used descriptor) rest))) attributes) m m' h k = head_by g name.kind descriptor.kind name descriptor m m' h k
heads g _ m m' h k = absurd cc

-- ---- methods

module _ (im : Images) (old_pool new_pool : Pool) (g : Change) (old new : List ℕ) where
  -- a code array of the old bytes, and one of the new
  pub record IsMoved (a b : CodeAt) : Type 0 where
    pub member : b.member ≡ moved g a.member
    pub name : text_at new_pool b.name ≡ text_at old_pool a.name
    pub descriptor : text_at new_pool b.descriptor ≡ im.desc (text_at old_pool a.descriptor)
    pub at : b.at ≡ moved g a.at
    pub size : b.length ≡ a.length
    pub code : take b.length (drop b.at new) ≡ take a.length (drop a.at old)

  -- a field or method, and what became of it
  record SameMember (m m' : Member) : Type 0 where
    at : m'.at ≡ moved g m.at
    method : m'.method ≡ m.method
    name : text_at new_pool m'.name ≡ text_at old_pool m.name
    descriptor : text_at new_pool m'.descriptor ≡ im.desc (text_at old_pool m.descriptor)

  moved_code : (m m' : Member) → SameMember m m' → (a b : CodeArray) → SameArray old new g a b → IsMoved (code_at m a) (code_at m' b)
  moved_code m m' s a b h = record { member = s.at; name = s.name; descriptor = s.descriptor; at = h.at; size = h.size; code = h.code }

  by_method : (m m' : Member) → SameMember m m' → (x y : Bool) → y ≡ x → (as' bs : List CodeArray) → AllZip (SameArray old new g) as' bs
      → AllZip IsMoved (cond x (map (code_at m) as') [] ++ []) (cond y (map (code_at m') bs) [] ++ [])
  by_method m m' s true true e as' bs h =
      zip_append IsMoved (map (code_at m) as') [] (map (code_at m') bs) [] (zip_map (SameArray old new g) IsMoved (code_at m) (code_at m') (moved_code m m' s) as' bs h) tt
  by_method m m' s false false e as' bs h = tt
  by_method m m' s true false e as' bs h = absurd cc
  by_method m m' s false true e as' bs h = absurd cc

  -- one member came from one
  one_member : (m : Member) (ms : List Member) → Alike (renamed_in im old_pool) (named_in new_pool) (m ∷ []) ms → (m' : Member) × (ms ≡ m' ∷ []) × Same (renamed_in im old_pool) (named_in new_pool) m m'
  one_member m [] h = absurd h
  one_member m (m' ∷ []) h = (m', refl, h.0)
  one_member m (m' ∷ (x ∷ ms)) h = absurd h.1

  same_member : (at to : ℕ) (a : Tree Use) (m m' : Member) → 0 < g.from → g.from ≤ at → m.at ≡ at → member_in a ≡ m ∷ [] → member_in (exchange g a) ≡ m' ∷ []
      → Same (renamed_in im old_pool) (named_in new_pool) m m' → SameMember m m'
  same_member at to a m m' some low place only only' s =
      let h : Heads g m m' = heads g a m m' only only' in
      record {
        at = omega (arith, h.before, h.after);
        method = s.method;
        name = ap (λ (x : Named). x.name) s.texts;
        descriptor = ap (λ (x : Named). x.descriptor) s.texts;
      }

  of_member : (at to : ℕ) (a : Tree Use) (m : Member) → 0 < g.from → g.from ≤ at → m.at ≡ at → member_in a ≡ m ∷ [] → Each (Leads im old_pool new_pool g) a → AllZip (SameArray old new g) (code_arrays at a) (code_arrays to (exchange g a))
      → AllZip IsMoved (codes_of_members (member_in a) (code_arrays at a)) (codes_of_members (member_in (exchange g a)) (code_arrays to (exchange g a)))
  of_member at to a m some low place only leads arrays =
      let alike : Alike (renamed_in im old_pool) (named_in new_pool) (member_in a) (member_in (exchange g a)) =
      members_alike im old_pool new_pool g (renamed_in im old_pool) (named_in new_pool) (new_naming im old_pool new_pool) (Tree.member a) leads in
      let one = one_member m (member_in (exchange g a)) (subst (λ (ms : List Member). Alike (renamed_in im old_pool) (named_in new_pool) ms (member_in (exchange g a))) only alike) in
      let s : SameMember m one.0 = same_member at to a m one.0 some low place only one.1 one.2 in
      subst (λ (ms : List Member). AllZip IsMoved (codes_of_members ms (code_arrays at a)) (codes_of_members (member_in (exchange g a)) (code_arrays to (exchange g a)))) (sym only)
      (subst (λ (ms : List Member). AllZip IsMoved (codes_of_members (m ∷ []) (code_arrays at a)) (codes_of_members ms (code_arrays to (exchange g a)))) (sym one.1)
      (by_method m one.0 s m.method one.0.method s.method (code_arrays at a) (code_arrays to (exchange g a)) arrays))

  pub moved_codes : 0 < g.from → (t : Tree Use) (at to : ℕ) → g.from ≤ at → to ≡ moved g at → Good old at t → Each (Leads im old_pool new_pool g) t → Stands old at (print t) → Stands new to (print (exchange g t))
      → AllZip IsMoved (method_codes at t) (method_codes to (exchange g t))
  moved_codes some Tree.nothing at to low is good leads h k = tt
  moved_codes some (Tree.number bytes) at to low is good leads h k = tt
  moved_codes some (Tree.raw bytes) at to low is good leads h k = tt
  moved_codes some (Tree.code bytes) at to low is good leads h k = tt
  moved_codes some (Tree.used u) at to low is good leads h k = tt
  moved_codes some (Tree.member a) at to low is good leads h k = of_member at to a good.0 some low good.1.place good.1.only leads (same_arrays old new g a at to low is h k)
  moved_codes some (Tree.both a b) at to low is good leads h k =
      let size : length (print (exchange g a)) ≡ length (print a) = length-print g a in
      zip_append IsMoved (method_codes at a) (method_codes (at + length (print a)) b) (method_codes to (exchange g a)) (method_codes (to + length (print (exchange g a))) (exchange g b))
      (moved_codes some a at to low is good.0 leads.0 (stands_first old at (print a) (print b) h) (stands_first new to (print (exchange g a)) (print (exchange g b)) k))
      (moved_codes some b (at + length (print a)) (to + length (print (exchange g a))) (omega arith) (omega arith) good.1 leads.1
      (stands_second old at (print a) (print b) h) (stands_second new to (print (exchange g a)) (print (exchange g b)) k))
