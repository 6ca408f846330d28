-- What the steps of a reader that did not fail gave.
use Rattle.std.proofs.Common.{◌≡◌, ℕ, ◌+◌, ◌≤◌, Bool, true, false, cond, List, [], ◌++◌, length, take, drop, Option, Some, None, Result, Ok, Err, refl, arith, nat_lt, nat_eq, length-append}
use Rattle.std.proofs.lemmas.Bool.{ltb-false, le-ltb, eqb-true}
use Rattle.std.proofs.lemmas.List.{take_at, drop_at}
use Rattle.desk_base.specs.declared.faults.FaultKind.{FaultKind}
use Rattle.desk_format.specs.Trees.{Tree, Use}
use Rattle.desk_format.specs.Reading.{Got, Failed, Reader, behind, goes_on, marked, member_at, item, leaf_or, and_then, close, fenced}

abbrev pub got_of : Tree Use → ℕ → List ℕ → Got
got_of tree at left = record { tree = tree; at = at; left = left }

abbrev pub done : Got → Result Got Failed
done got = Ok got

pub ok_is : (x y : Got) → done x ≡ done y → x ≡ y
ok_is x y e = cc

-- what the steps of a reader that did not fail gave
pub record AfterThen (first : Reader) (second : Tree Use → Reader) (at : ℕ) (s : List ℕ) (got : Got) : Type 0 where
  pub a : Got
  pub b : Got
  pub first_ok : first at s ≡ Ok a
  pub second_ok : second a.tree a.at a.left ≡ Ok b
  pub is : got_of (Tree.both a.tree b.tree) b.at b.left ≡ got

then_second : (first : Reader) (second : Tree Use → Reader) (at : ℕ) (s : List ℕ) (got a : Got) → first at s ≡ Ok a → (r : Result Got Failed) → second a.tree a.at a.left ≡ r → behind a.tree r ≡ Ok got → AfterThen first second at s got
then_second first second at s got a p (Ok b) q e = record { a = a; b = b; first_ok = p; second_ok = q; is = ok_is _ _ e }
then_second first second at s got a p (Err f) q e = absurd cc

then_first : (first : Reader) (second : Tree Use → Reader) (at : ℕ) (s : List ℕ) (got : Got) (r : Result Got Failed) → first at s ≡ r → goes_on second r ≡ Ok got → AfterThen first second at s got
then_first first second at s got (Ok a) p e = then_second first second at s got a p (second a.tree a.at a.left) refl e
then_first first second at s got (Err f) p e = absurd cc

pub then_ok : (first : Reader) (second : Tree Use → Reader) (at : ℕ) (s : List ℕ) (got : Got) → and_then first second at s ≡ Ok got → AfterThen first second at s got
unfolding and_then
then_ok first second at s got e = then_first first second at s got (first at s) refl e

pub record AfterMember (reader : Reader) (at : ℕ) (s : List ℕ) (got : Got) : Type 0 where
  pub a : Got
  pub first_ok : reader at s ≡ Ok a
  pub is : got_of (Tree.member a.tree) a.at a.left ≡ got

member_first : (reader : Reader) (at : ℕ) (s : List ℕ) (got : Got) (r : Result Got Failed) → reader at s ≡ r → marked r ≡ Ok got → AfterMember reader at s got
member_first reader at s got (Ok a) p e = record { a = a; first_ok = p; is = ok_is _ _ e }
member_first reader at s got (Err f) p e = absurd cc

pub member_ok : (reader : Reader) (at : ℕ) (s : List ℕ) (got : Got) → member_at reader at s ≡ Ok got → AfterMember reader at s got
unfolding member_at
member_ok reader at s got e = member_first reader at s got (reader at s) refl e

pub record AfterItem (n : ℕ) (check : List ℕ → Option FaultKind) (leaf : ℕ → List ℕ → Tree Use) (at : ℕ) (s : List ℕ) (got : Got) : Type 0 where
  pub room : n ≤ length s
  pub checked : check (take n s) ≡ None
  pub is : got_of (leaf at (take n s)) (at + n) (drop n s) ≡ got

item_leaf : (n : ℕ) (check : List ℕ → Option FaultKind) (leaf : ℕ → List ℕ → Tree Use) (at : ℕ) (s : List ℕ) (got : Got) → n ≤ length s → (c : Option FaultKind) → check (take n s) ≡ c
    → leaf_or c (leaf at (take n s)) at (at + n) (drop n s) ≡ Ok got → AfterItem n check leaf at s got
item_leaf n check leaf at s got room None p e = record { room = room; checked = p; is = ok_is _ _ e }
item_leaf n check leaf at s got room (Some k) p e = absurd cc

item_room : (n : ℕ) (check : List ℕ → Option FaultKind) (leaf : ℕ → List ℕ → Tree Use) (at : ℕ) (s : List ℕ) (got : Got) (short : Bool) (f : Failed) → nat_lt (length s) n ≡ short
    → cond short (Err f) (leaf_or (check (take n s)) (leaf at (take n s)) at (at + n) (drop n s)) ≡ Ok got → AfterItem n check leaf at s got
item_room n check leaf at s got true f p e = absurd cc
item_room n check leaf at s got false f p e = item_leaf n check leaf at s got (ltb-false (length s) n p) (check (take n s)) refl e

pub item_ok : (n : ℕ) (check : List ℕ → Option FaultKind) (leaf : ℕ → List ℕ → Tree Use) (at : ℕ) (s : List ℕ) (got : Got) → item n check leaf at s ≡ Ok got → AfterItem n check leaf at s got
item_ok n check leaf at s got e = item_room n check leaf at s got (nat_lt (length s) n) _ refl e

-- an item reads the bytes of its length
pub item_is : (n : ℕ) (check : List ℕ → Option FaultKind) (leaf : ℕ → List ℕ → Tree Use) (at : ℕ) (bytes more : List ℕ) → length bytes ≡ n → check bytes ≡ None → item n check leaf at (bytes ++ more) ≡ Ok (got_of (leaf at bytes) (at + n) more)
item_is n check leaf at bytes more len ok =
    rw (le-ltb (length (bytes ++ more)) n (omega (arith, length-append bytes more)), take_at bytes more n len, drop_at bytes more n len, ok) refl

pub record AfterFence (n : ℕ) (body : Reader) (at : ℕ) (s : List ℕ) (got : Got) : Type 0 where
  pub a : Got
  pub room : n ≤ length s
  pub body_ok : body at (take n s) ≡ Ok a
  pub all : length a.left ≡ 0
  pub is : got_of a.tree (at + n) (drop n s) ≡ got

fence_closed : (n : ℕ) (body : Reader) (at : ℕ) (s : List ℕ) (got a : Got) (f : Failed) → n ≤ length s → body at (take n s) ≡ Ok a → (whole : Bool) → nat_eq (length a.left) 0 ≡ whole
    → cond whole (Ok (got_of a.tree (at + n) (drop n s))) (Err f) ≡ Ok got → AfterFence n body at s got
fence_closed n body at s got a f room p true q e = record { a = a; room = room; body_ok = p; all = eqb-true _ _ q; is = ok_is _ _ e }
fence_closed n body at s got a f room p false q e = absurd cc

fence_body : (n : ℕ) (body : Reader) (at : ℕ) (s : List ℕ) (got : Got) → n ≤ length s → (r : Result Got Failed) → body at (take n s) ≡ r → close at (at + n) (drop n s) r ≡ Ok got → AfterFence n body at s got
fence_body n body at s got room (Ok a) p e = fence_closed n body at s got a _ room p (nat_eq (length a.left) 0) refl e
fence_body n body at s got room (Err f) p e = absurd cc

fence_room : (n : ℕ) (body : Reader) (at : ℕ) (s : List ℕ) (got : Got) (short : Bool) (f : Failed) → nat_lt (length s) n ≡ short
    → cond short (Err f) (close at (at + n) (drop n s) (body at (take n s))) ≡ Ok got → AfterFence n body at s got
fence_room n body at s got true f p e = absurd cc
fence_room n body at s got false f p e = fence_body n body at s got (ltb-false (length s) n p) (body at (take n s)) refl e

pub fenced_ok : (n : ℕ) (body : Reader) (at : ℕ) (s : List ℕ) (got : Got) → fenced n body at s ≡ Ok got → AfterFence n body at s got
unfolding fenced
fenced_ok n body at s got e = fence_room n body at s got (nat_lt (length s) n) _ refl e

-- a body that is read to the end of its fence
pub fenced_is : (n : ℕ) (body : Reader) (at : ℕ) (bytes more : List ℕ) (a : Got) → length bytes ≡ n → body at bytes ≡ Ok a → a.left ≡ [] → fenced n body at (bytes ++ more) ≡ Ok (got_of a.tree (at + n) more)
unfolding fenced
fenced_is n body at bytes more a len ok all =
    rw (le-ltb (length (bytes ++ more)) n (omega (arith, length-append bytes more)), take_at bytes more n len, drop_at bytes more n len, ok, all) refl
