-- Reading a class, step by step.
use Rattle.std.proofs.Common.{◌≡◌, ℕ, Bool, true, false, not, cond, ◌&&◌, ◌||◌, List, [], ◌∷◌, ◌++◌, length, take, drop, Option, Some, None, Result, Ok, Err, nat_lt, nat_le, nat_eq, bytes_eq, refl, sym, ap, ap₂, subst, ◌∙◌, append_assoc, arith}
use Rattle.std.proofs.lemmas.Slice.Eq.{bytes_eq-Decides}
use Rattle.desk_base.specs.declared.faults.Malformed.{Malformed}
use Rattle.desk_base.specs.Entries.{Pool}
use Rattle.desk_format.specs.Trees.{Tree, Use}
use Rattle.desk_format.specs.Reading.{Failed, read}
use Rattle.desk_format.specs.Reading.{Got as ReadTree}
use Rattle.desk_format.specs.ClassBody.{class_body}
use Rattle.desk_format.specs.PoolBytes.{two}
use Rattle.desk_format.specs.PoolReading.{Got, got, Reader, item, number_read, then_read, read_pool}
use Rattle.desk_format.specs.Members.{Twins}
use Rattle.desk_format.specs.Classes.{Class, Version, magic, first_major, last_major, checked_version, version_read, behind_magic, header_read, tree_of, body_read, ended, without_twins, twins_in, checked_class, class_of, behind_pool, class_at, read_class}
use Rattle.desk_format.specs.Laws.{IsBytes}
use Rattle.std.proofs.lemmas.List.{take_at, drop_at}
use Rattle.std.proofs.lemmas.Nat.{from_be_bytes-to_be_bytes_2}
use Rattle.desk_format.proofs.PoolSteps.{ok_is}
use Rattle.desk_laws.specs.Sound.{IsTwoBytes}
use Rattle.desk_laws.proofs.Inverse.{Ensures, Gives, Bytes, ensures_ok, ensures_err, then_ensures, item_ensures, index_ensures}
use Rattle.desk_laws.proofs.Spelled.{Spelled, Spells, spells_err, spells_done, spells_item, spells_number}
use Rattle.desk_laws.proofs.Again.{item_is}

-- what the steps of a reader that did not fail gave
pub record AfterThen {A B : Type 0} (r : Result (Got A) Malformed) (next : A → Reader B) (g : Got B) : Type 0 where
  pub a : Got A
  pub first : r ≡ Ok a
  pub second : next a.value a.at a.left ≡ Ok g

pub then_ok : {A B : Type 0} (r : Result (Got A) Malformed) (next : A → Reader B) (g : Got B) → then_read r next ≡ Ok g → AfterThen r next g
then_ok (Ok a) next g e = record { a = a; first = refl; second = e }
then_ok (Err f) next g e = absurd cc

-- ---- magic and versions

abbrev pub print_version : Version → List ℕ
print_version v = (magic ++ two v.minor) ++ two v.major

-- numbers of a version that is accepted
pub record IsVersion (v : Version) : Type 0 where
  pub minor : IsTwoBytes v.minor
  pub major : IsTwoBytes v.major
  pub passes : (at : ℕ) (s : List ℕ) → checked_version v.minor v.major at s ≡ Ok (got v at s)

abbrev too_old_or_new : ℕ → Bool
too_old_or_new major = nat_lt major first_major || nat_lt last_major major

abbrev odd_minor : ℕ → ℕ → Bool
odd_minor minor major = nat_le 56 major && not (nat_eq minor 0 || nat_eq minor 65535)

abbrev of_numbers : ℕ → ℕ → Version
of_numbers minor major = record { minor = minor; major = major }

version_ensured : (x y : Bool) (minor major at : ℕ) (s : List ℕ) (e f : Malformed) → too_old_or_new major ≡ x → odd_minor minor major ≡ y → IsTwoBytes minor → IsTwoBytes major → IsBytes s
    → Ensures IsVersion (cond x (Err e) (cond y (Err f) (Ok (got (of_numbers minor major) at s))))
version_ensured true y minor major at s e f p q a b c = ensures_err IsVersion e
version_ensured false true minor major at s e f p q a b c = ensures_err IsVersion f
version_ensured false false minor major at s e f p q a b c =
    ensures_ok IsVersion (got (of_numbers minor major) at s) (record { fact = record { minor = a; major = b; passes = λ at' s'. rw (p, q) refl }; left = c })

version_spelled : (x y : Bool) (minor major at : ℕ) (s : List ℕ) (e f : Malformed) (front : List ℕ) → IsBytes s → front ≡ print_version (of_numbers minor major)
    → Spells front print_version at s (cond x (Err e) (cond y (Err f) (Ok (got (of_numbers minor major) at s))))
version_spelled true y minor major at s e f front b h = spells_err front print_version at s e
version_spelled false true minor major at s e f front b h = spells_err front print_version at s f
version_spelled false false minor major at s e f front b h = spells_done front print_version at s (of_numbers minor major) b h

magic_ensured : (x : Bool) (at : ℕ) (s : List ℕ) (e : Malformed) → IsBytes s → Ensures IsVersion (cond x (version_read at s) (Err e))
magic_ensured false at s e b = ensures_err IsVersion e
magic_ensured true at s e b =
    then_ensures IsTwoBytes IsVersion (number_read at s) _ (index_ensures at s b)
    (λ minor at' s' small b'. then_ensures IsTwoBytes IsVersion (number_read at' s') _ (index_ensures at' s' b')
    (λ major at'' s'' small' b''. version_ensured (too_old_or_new major) (odd_minor minor major) minor major at'' s'' _ _ refl refl small small' b''))

magic_spelled : (x : Bool) (m : List ℕ) (at : ℕ) (s : List ℕ) (e : Malformed) → bytes_eq m magic ≡ x → IsBytes s → Spells m print_version at s (cond x (version_read at s) (Err e))
magic_spelled false m at s e p b = spells_err m print_version at s e
magic_spelled true m at s e p b =
    let is : m ≡ magic = (bytes_eq-Decides m magic).0 p in
    spells_number m print_version at s _ b
    (λ minor at' s' b'. spells_number (m ++ two minor) print_version at' s' _ b'
    (λ major at'' s'' b''. version_spelled (too_old_or_new major) (odd_minor minor major) minor major at'' s'' _ _ ((m ++ two minor) ++ two major) b'' (ap (λ (x : List ℕ). (x ++ two minor) ++ two major) is)))

header_ensures : (at : ℕ) (s : List ℕ) → IsBytes s → Ensures IsVersion (header_read at s)
header_ensures at s b = then_ensures (Bytes 4) IsVersion (item 4 at s) behind_magic (item_ensures 4 at s b) (λ m at' s' k b'. magic_ensured (bytes_eq m magic) at' s' _ b')

header_spelled : (at : ℕ) (s : List ℕ) → IsBytes s → Spells [] print_version at s (header_read at s)
header_spelled at s b = spells_item [] print_version 4 at s behind_magic b (λ m at' s' i b'. magic_spelled (bytes_eq m magic) m at' s' _ refl b')

header_again : (v : Version) (more : List ℕ) → IsVersion v → header_read 0 (print_version v ++ more) ≡ Ok (got v 8 more)
header_again v more h =
    ap (header_read 0) (append_assoc (magic ++ two v.minor) (two v.major) more ∙ append_assoc magic (two v.minor) (two v.major ++ more))
    ∙ rw (
      item_is 4 0 magic (two v.minor ++ (two v.major ++ more)) refl,
      item_is 2 4 (two v.minor) (two v.major ++ more) refl,
      from_be_bytes-to_be_bytes_2 v.minor h.minor,
      item_is 2 6 (two v.major) more refl,
      from_be_bytes-to_be_bytes_2 v.major h.major,
    ) (h.passes 8 more)

-- the first eight bytes, which are read alike whatever follows them
pub record Header (bytes : List ℕ) (g : Got Version) : Type 0 where
  pub at_8 : g.at ≡ 8
  pub left : g.left ≡ drop 8 bytes
  pub front : take 8 bytes ≡ print_version g.value
  pub again : (more : List ℕ) → header_read 0 (take 8 bytes ++ more) ≡ Ok (got g.value 8 more)
  pub rest : IsBytes g.left

pub header_ok : (bytes : List ℕ) (g : Got Version) → IsBytes bytes → header_read 0 bytes ≡ Ok g → Header bytes g
header_ok bytes g b h =
    let o : Spelled [] print_version 0 bytes g = (header_spelled 0 bytes b).runs g h in
    let f : Gives IsVersion g = (header_ensures 0 bytes b).runs g h in
    let v : Version = g.value in
    let long : length (print_version g.value) ≡ 8 = refl in
    let front : take 8 bytes ≡ print_version g.value = ap (take 8) o.parts ∙ take_at (print_version g.value) g.left 8 refl in
    record {
      at_8 = omega (arith, o.place, long);
      left = sym (ap (drop 8) o.parts ∙ drop_at (print_version g.value) g.left 8 refl);
      front = front;
      again = λ more. ap (λ (x : List ℕ). header_read 0 (x ++ more)) front ∙ header_again g.value more f.fact;
      rest = f.left;
    }

-- ---- the body and the end

pub record AfterTree (r : Result ReadTree Failed) (g : Got (Tree Use)) : Type 0 where
  pub b : ReadTree
  pub first : r ≡ Ok b
  pub is : got b.tree b.at b.left ≡ g

pub tree_ok : (r : Result ReadTree Failed) (g : Got (Tree Use)) → tree_of r ≡ Ok g → AfterTree r g
tree_ok (Ok b) g h = record { b = b; first = refl; is = ok_is _ _ h }
tree_ok (Err e) g h = absurd cc

pub ended_ok : (c : Class) (at : ℕ) (s : List ℕ) (g : Got Class) → ended c at s ≡ Ok g → (s ≡ []) × (g.value ≡ c)
ended_ok c at [] g h = (refl, ap (λ (x : Got Class). x.value) (sym (ok_is _ _ h)))
ended_ok c at (b ∷ s) g h = absurd cc

abbrev fine : Class → Result Class Malformed
fine c = Ok c

fine_is : (c d : Class) → fine c ≡ fine d → c ≡ d
fine_is c d h = cc

twins_ok : (c d : Class) (o : Option Twins) → without_twins c o ≡ Ok d → (o ≡ None) × (c ≡ d)
twins_ok c d None h = (refl, fine_is c d h)
twins_ok c d (Some t) h = absurd cc

pub record AfterChecks (r : Result (Got Class) Malformed) (c : Class) : Type 0 where
  pub g : Got Class
  pub first : r ≡ Ok g
  pub no_twins : twins_in c ≡ None
  pub is : g.value ≡ c

pub checked_ok : (r : Result (Got Class) Malformed) (c : Class) → checked_class r ≡ Ok c → AfterChecks r c
checked_ok (Ok g) c h = let t = twins_ok g.value c (twins_in g.value) h in record { g = g; first = refl; no_twins = subst (λ (d : Class). twins_in d ≡ None) t.1 t.0; is = t.1 }
checked_ok (Err f) c h = absurd cc

-- ---- the class

-- what the parts of a class that was read are
pub record ClassParts (bytes : List ℕ) (c : Class) : Type 0 where
  pub version : Got Version
  pub header : Header bytes version
  pub pool : Got Pool
  pub pool_ok : read_pool 8 (drop 8 bytes) ≡ Ok pool
  pub body : ReadTree
  pub body_ok : read pool.value class_body pool.at pool.left ≡ Ok body
  pub ends : body.left ≡ []
  pub no_twins : twins_in c ≡ None
  pub is : class_of version.value pool.value pool.at body.tree ≡ c

pub class_ok : (bytes : List ℕ) (c : Class) → IsBytes bytes → read_class bytes ≡ Ok c → ClassParts bytes c
unfolding read_class
class_ok bytes c bs h =
    let k : AfterChecks (class_at 0 bytes) c = checked_ok (class_at 0 bytes) c h in
    let v : AfterThen (header_read 0 bytes) (λ v. λ at s. then_read (read_pool at s) (behind_pool v)) k.g = then_ok (header_read 0 bytes) _ k.g k.first in
    let header : Header bytes v.a = header_ok bytes v.a bs v.first in
    let p : AfterThen (read_pool v.a.at v.a.left) (behind_pool v.a.value) k.g = then_ok (read_pool v.a.at v.a.left) (behind_pool v.a.value) k.g v.second in
    let b : AfterThen (body_read p.a.value p.a.at p.a.left) (λ body. ended (class_of v.a.value p.a.value p.a.at body)) k.g = then_ok (body_read p.a.value p.a.at p.a.left) _ k.g p.second in
    let t : AfterTree (read p.a.value class_body p.a.at p.a.left) b.a = tree_ok (read p.a.value class_body p.a.at p.a.left) b.a b.first in
    let e = ended_ok (class_of v.a.value p.a.value p.a.at b.a.value) b.a.at b.a.left k.g b.second in
    record {
      version = v.a;
      header = header;
      pool = p.a;
      pool_ok = ap₂ read_pool (sym header.at_8) (sym header.left) ∙ p.first;
      body = t.b;
      body_ok = t.first;
      ends = ap (λ (g : Got (Tree Use)). g.left) t.is ∙ e.0;
      no_twins = k.no_twins;
      is = ap (λ (g : Got (Tree Use)). class_of v.a.value p.a.value p.a.at g.value) t.is ∙ sym e.1 ∙ k.is;
    }

-- a class is read from its parts
pub class_again : (v : Got Version) (bytes rest : List ℕ) (pool : Pool) (at : ℕ) (left : List ℕ) (body : ReadTree) (c : Class) → Header bytes v → read_pool 8 rest ≡ Ok (got pool at left)
    → read pool class_body at left ≡ Ok body → body.left ≡ [] → class_of v.value pool at body.tree ≡ c → twins_in c ≡ None → read_class (take 8 bytes ++ rest) ≡ Ok c
unfolding read_class
class_again v bytes rest pool at left body c header pool_is body_is ends is none =
    rw (header.again rest, pool_is, body_is, ends) (ap (λ (d : Class). without_twins d (twins_in d)) is ∙ ap (without_twins c) none)
