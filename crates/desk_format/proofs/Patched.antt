-- The patched bytes of a tree are those of the exchanged tree, and so are read into it.
use Rattle.std.proofs.Common.{Bool, true, false, cond, ◌&&◌, ◌==◌, ◌≡◌, ℕ, ◌+◌, ◌-◌, ◌≤◌, List, [], ◌∷◌, ◌++◌, length, Option, Some, None, Ok, refl, sym, ap, subst, ◌∙◌, append_assoc, arith, length-append}
use Rattle.std.specs.Int.{w16, to_be_bytes}
use Rattle.std.proofs.lemmas.List.{take_at, drop_at}
use Rattle.desk_base.specs.Entries.{Pool}
use Rattle.desk_format.specs.Trees.{Tree, Use, map_tree, Each, print, uses, uses_of, text_use, text_in_role, IsPlaced}
use Rattle.desk_base.specs.declared.kinds.Used.{Used}
use Rattle.desk_base.specs.declared.referents.Referent.{Referent}
use Rattle.desk_base.specs.declared.referents.Referent.TheVariants as referents
use Rattle.desk_base.specs.Referents.{referent_of, may_be_none}
use Rattle.desk_format.specs.Layouts.{Layout}
use Rattle.desk_format.specs.Reading.{Got, read}
use Rattle.desk_format.specs.Exchange.{Change, index_or, moved, exchanged, exchange, Suits, patch, put_two}
use Rattle.desk_format.specs.Resolved.{value, resolved, Images, renamed_value, renamed}
use Rattle.desk_format.proofs.Steps.{got_of}
use Rattle.desk_format.proofs.Follows.{Again, follows, length-print}
use Rattle.desk_format.proofs.Exact.{Taken, exact}
use Rattle.desk_format.specs.Laws.{IsBytes, Renames, RenamedBodies, PrintedBodies}

put_two_at : (pre old post : List ℕ) (n i : ℕ) → length old ≡ 2 → i ≡ length pre → put_two i n (pre ++ old ++ post) ≡ pre ++ to_be_bytes w16 n ++ post
put_two_at pre old post n i two is =
    let k : length (pre ++ old) ≡ i + 2 = omega (arith, length-append pre old) in
    rw (drop_at (pre ++ old) post (i + 2) k, append_assoc pre old post, take_at pre (old ++ post) i (sym is)) refl

patch-append : (g : Used → ℕ) (base : ℕ) (us vs : List Used) (s : List ℕ) → patch g base (us ++ vs) s ≡ patch g base vs (patch g base us s)
patch-append g base [] vs s = refl
patch-append g base (u ∷ us) vs s = patch-append g base us vs (put_two (u.at - base) (g u) s)

-- a use of a text stands where its index does
abbrev stands : ℕ → Option Used → Type 0
stands at None = Unit {0}
stands at (Some u) = u.at ≡ at

in_role-at : (referent : Referent) (at i : ℕ) → stands at (text_in_role referent at i)
in_role-at (referents.Text role form) at i = refl
in_role-at (referents.Class form) at i = tt
in_role-at (referents.NameAndType form) at i = tt
in_role-at (referents.Entry choice) at i = tt

unless : (at : ℕ) (b : Bool) (o : Option Used) → stands at o → stands at (cond b None o)
unless at true o h = tt
unless at false o h = h

text_use-at : (u : Use) → stands u.at (text_use u)
text_use-at u = unless u.at (may_be_none u.kind && u.index == 0) (text_in_role (referent_of u.kind) u.at u.index) (in_role-at (referent_of u.kind) u.at u.index)

patch_use : (g : Used → ℕ) (base i at : ℕ) (o : Option Used) (pre post : List ℕ) → stands at o → at ≡ base + length pre
    → patch g base (uses_of o) (pre ++ to_be_bytes w16 i ++ post) ≡ pre ++ to_be_bytes w16 (index_or g i o) ++ post
patch_use g base i at None pre post h p = refl
patch_use g base i at (Some u) pre post h p = put_two_at pre (to_be_bytes w16 i) post (g u) (u.at - base) refl (omega (arith, h, p))

pub patch_tree : (g : Change) (base : ℕ) (t : Tree Use) (pre post : List ℕ) → IsPlaced (base + length pre) t → patch g.index base (uses t) (pre ++ print t ++ post) ≡ pre ++ print (exchange g t) ++ post
patch_tree g base Tree.nothing pre post p = refl
patch_tree g base (Tree.number bytes) pre post p = refl
patch_tree g base (Tree.raw bytes) pre post p = refl
patch_tree g base (Tree.code bytes) pre post p = refl
patch_tree g base (Tree.used u) pre post p = patch_use g.index base u.index u.at (text_use u) pre post (text_use-at u) p
patch_tree g base (Tree.member a) pre post p = patch_tree g base a pre post p
patch_tree g base (Tree.both a b) pre post p =
    let a' = print (exchange g a) in
    let place : base + length pre + length (print a) ≡ base + length (pre ++ a') = omega (arith, length-append pre a', length-print g a) in
    let in_a : pre ++ (print a ++ print b) ++ post ≡ pre ++ print a ++ (print b ++ post) = simp append_assoc in
    let in_b : pre ++ a' ++ (print b ++ post) ≡ (pre ++ a') ++ print b ++ post = simp append_assoc in
    let out : (pre ++ a') ++ print (exchange g b) ++ post ≡ pre ++ (a' ++ print (exchange g b)) ++ post = simp append_assoc in
    patch-append g.index base (uses a) (uses b) _
    ∙ ap (λ (s : List ℕ). patch g.index base (uses b) (patch g.index base (uses a) s)) in_a
    ∙ ap (patch g.index base (uses b)) (patch_tree g base a pre (print b ++ post) p.0)
    ∙ ap (patch g.index base (uses b)) in_b
    ∙ patch_tree g base b (pre ++ a') post (subst (λ (n : ℕ). IsPlaced n b) place p.1)
    ∙ out

-- A body with new index numbers is read into the tree with new index numbers.
pub patched : (old new : Pool) (g : Change) (l : Layout) (at : ℕ) (s : List ℕ) (got : Got) → IsBytes s → read old l at s ≡ Ok got → g.from ≤ at → Each (Suits old new g) got.tree
    → read new l (moved g at) (patch g.index at (uses got.tree) s) ≡ Ok (got_of (exchange g got.tree) (moved g got.at) got.left)
patched old new g l at s got bytes e low suits =
    let t : Taken old at s got = (exact old l).runs at s got e bytes in
    let a : Again g (read new l) at s got = (follows old new g l).runs at s got e low suits in
    let here : IsPlaced (at + 0) got.tree = subst (λ (k : ℕ). IsPlaced k got.tree) (omega arith) t.placed in
    let parts : s ≡ [] ++ print got.tree ++ got.left = t.parts in
    ap (λ (b : List ℕ). read new l (moved g at) (patch g.index at (uses got.tree) b)) parts
    ∙ ap (λ (b : List ℕ). read new l (moved g at) b) (patch_tree g at got.tree [] got.left here)
    ∙ a.again got.left

-- ---- the resolved tree

map_same : {U V W X : Type 0} (f : U → V) (h : V → X) (k : U → W) (m : W → X) (t : Tree U) → Each (λ u. h (f u) ≡ m (k u)) t → map_tree h (map_tree f t) ≡ map_tree m (map_tree k t)
map_same f h k m Tree.nothing each = refl
map_same f h k m (Tree.number bytes) each = refl
map_same f h k m (Tree.raw bytes) each = refl
map_same f h k m (Tree.code bytes) each = refl
map_same f h k m (Tree.used u) each = ap Tree.used each
map_same f h k m (Tree.member a) each = ap Tree.member (map_same f h k m a each)
map_same f h k m (Tree.both a b) each = rw (map_same f h k m a each.0, map_same f h k m b each.1) refl

pub Each-map : {U : Type 0} (P Q : U → Type 0) (t : Tree U) → ((u : U) → P u → Q u) → Each P t → Each Q t
Each-map P Q Tree.nothing h each = tt
Each-map P Q (Tree.number bytes) h each = tt
Each-map P Q (Tree.raw bytes) h each = tt
Each-map P Q (Tree.code bytes) h each = tt
Each-map P Q (Tree.used u) h each = h u each
Each-map P Q (Tree.member a) h each = Each-map P Q a h each
Each-map P Q (Tree.both a b) h each = (Each-map P Q a h each.0, Each-map P Q b h each.1)

pub resolved-exchange : (old new : Pool) (g : Change) (im : Images) (t : Tree Use) → Each (λ u. value new (exchanged g u) ≡ renamed_value im (value old u)) t → resolved new (exchange g t) ≡ renamed im (resolved old t)
resolved-exchange old new g im t each = map_same (exchanged g) (value new) (value old) (renamed_value im) t each

pub renamed_bodies : RenamedBodies
renamed_bodies im old new g l at s got bytes e low each = record {
  reads = patched old new g l at s got bytes e low (Each-map (Renames im old new g) (Suits old new g) got.tree (λ u r. r.suits) each);
  resolves = resolved-exchange old new g im got.tree (Each-map (Renames im old new g) (λ u. value new (exchanged g u) ≡ renamed_value im (value old u)) got.tree (λ u r. r.leads) each);
}

pub printed_bodies : PrintedBodies
printed_bodies pool l at s got bytes e =
    let t : Taken pool at s got = (exact pool l).runs at s got e bytes in
    record { bytes = t.parts; behind = t.at; places = t.placed; fits = t.fits }
