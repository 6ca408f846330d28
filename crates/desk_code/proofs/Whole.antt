-- The code arrays of a class by its bytes.
use Rattle.std.proofs.Common.{◌≡◌, ℕ, ◌+◌, ◌≤◌, List, [], ◌++◌, length, map, take, drop, None, Result, Ok, Err, IfOk, refl, sym, ap, ap₂, subst, ◌∙◌, append_assoc, arith, length-append}
use Rattle.std.proofs.lemmas.List.{drop_at, take-append-drop}
use Rattle.desk_base.specs.declared.faults.Malformed.{Malformed}
use Rattle.desk_base.specs.Entries.{Pool}
use Rattle.desk_base.specs.Spot.{Spot, past}
use Rattle.desk_format.specs.Trees.{Tree, Use}
use Rattle.desk_format.specs.Reading.{read}
use Rattle.desk_format.specs.Reading.{Got as ReadTree}
use Rattle.desk_format.specs.ClassBody.{class_body}
use Rattle.desk_format.specs.PoolBytes.{print_pool}
use Rattle.desk_format.specs.Classes.{Class, read_class, fault_in, class_fault, list_in}
use Rattle.desk_format.specs.Laws.{IsBytes}
use Rattle.desk_format.proofs.Exact.{IsBytes-drop}
use Rattle.desk_laws.proofs.Header.{ClassParts, class_ok}
use Rattle.desk_laws.proofs.Spelled.{Spelled, pool_spelled}
use Rattle.desk_class.specs.Parts.{pool_in, body_at_in, body_at_of}
use Rattle.desk_code.specs.declared.places.CodeAt.{CodeAt}
use Rattle.desk_code.specs.Codes.{method_codes, codes_in}
use Rattle.desk_code.specs.Gathering.{MemberCode, none_found, found_in, placed_code}
use Rattle.desk_code.proofs.Placing.{Good, body_codes, body_good}

-- The body of a class reads to its end from where it stands in the bytes of the class.
pub record IsHeld (bytes : List ℕ) (c : Class) : Type 0 where
  pub got : ReadTree
  pub reads : read c.pool class_body c.body_at (drop c.body_at bytes) ≡ Ok got
  pub tree : got.tree ≡ c.body
  pub ends : got.left ≡ []
  pub within : c.body_at ≤ length bytes

pub held : (bytes : List ℕ) (c : Class) → IsBytes bytes → read_class bytes ≡ Ok c → IsHeld bytes c
held bytes c b h =
    let p : ClassParts bytes c = class_ok bytes c b h in
    let o : Spelled [] print_pool 8 (drop 8 bytes) p.pool = (pool_spelled 8 (drop 8 bytes) (IsBytes-drop 8 bytes b)).runs p.pool p.pool_ok in
    let whole : bytes ≡ (take 8 bytes ++ print_pool p.pool.value) ++ p.pool.left =
    sym (take-append-drop 8 bytes) ∙ ap (λ (x : List ℕ). take 8 bytes ++ x) o.parts ∙ sym (append_assoc (take 8 bytes) (print_pool p.pool.value) p.pool.left) in
    let front : length (take 8 bytes) ≡ 8 = ap length p.header.front in
    let size : length (take 8 bytes ++ print_pool p.pool.value) ≡ p.pool.at = omega (arith, length-append (take 8 bytes) (print_pool p.pool.value), front, o.place) in
    let behind : drop p.pool.at bytes ≡ p.pool.left = ap (drop p.pool.at) whole ∙ drop_at (take 8 bytes ++ print_pool p.pool.value) p.pool.left p.pool.at size in
    let within : p.pool.at ≤ length bytes = omega (arith, ap length whole, length-append (take 8 bytes ++ print_pool p.pool.value) p.pool.left, size) in
    let there : read p.pool.value class_body p.pool.at (drop p.pool.at bytes) ≡ Ok p.body = ap (read p.pool.value class_body p.pool.at) behind ∙ p.body_ok in
    subst (λ (d : Class). IsHeld bytes d) p.is (record { got = p.body; reads = there; tree = refl; ends = p.ends; within = within })

-- each field and method of a class stands at its place, and holds what its head says
pub placed_members : (bytes : List ℕ) (c : Class) → IsBytes bytes → read_class bytes ≡ Ok c → Good bytes c.body_at c.body
placed_members bytes c b h =
    let p : IsHeld bytes c = held bytes c b h in
    subst (λ (t : Tree Use). Good bytes c.body_at t) p.tree (body_good bytes c.pool c.body_at (drop c.body_at bytes) p.got p.reads refl (IsBytes-drop c.body_at bytes b))

-- the class of bytes without a fault
pub found : (r : Result Class Malformed) → fault_in r ≡ None → (c : Class) × (r ≡ Ok c)
found (Ok c) h = (c, refl)
found (Err f) h = absurd cc

abbrev Gathered : List ℕ → Pool → ℕ → List MemberCode → Type 0
Gathered bytes pool at cs = (got : ReadTree) → read pool class_body at (drop at bytes) ≡ Ok got → cs ≡ (found_in none_found at got.tree).codes

of_class : (bytes : List ℕ) (c : Class) (cs : List MemberCode) → IsBytes bytes → read_class bytes ≡ Ok c → Gathered bytes c.pool c.body_at cs → map (placed_code bytes) cs ≡ codes_in bytes
of_class bytes c cs b h g =
    let p : IsHeld bytes c = held bytes c b h in
    ap (map (placed_code bytes)) (g p.got p.reads)
    ∙ body_codes bytes c.pool c.body_at (drop c.body_at bytes) p.got p.reads refl (IsBytes-drop c.body_at bytes b)
    ∙ ap (method_codes c.body_at) p.tree
    ∙ sym (ap (list_in (λ (d : Class). method_codes d.body_at d.body)) h)

pub whole_class : (bytes : List ℕ) (pool : Pool) (at : ℕ) (cs : List MemberCode) → IsBytes bytes → class_fault bytes ≡ None → pool ≡ pool_in bytes → at ≡ body_at_in bytes → Gathered bytes pool at cs → map (placed_code bytes) cs ≡ codes_in bytes
whole_class bytes pool at cs b sound p q g =
    let k = found (read_class bytes) sound in
    let pool_is : pool ≡ k.0.pool = p ∙ ap (list_in (λ (d : Class). d.pool)) k.1 in
    let at_is : at ≡ k.0.body_at = q ∙ ap body_at_of k.1 in
    of_class bytes k.0 cs b k.1 (subst (λ (u : Pool). Gathered bytes u k.0.body_at cs) pool_is (subst (λ (n : ℕ). Gathered bytes pool n cs) at_is g))

pub at_body : (n : ℕ) (s : List ℕ) → past n (record { at = 0; left = s }) ≡ record { at = n; left = drop n s }
at_body n s = let e : 0 + n ≡ n = omega arith in ap (λ (k : ℕ). record { at = k; left = drop n s }) e

module _ (b bytes : List ℕ) (each : IsBytes b) (sound : class_fault b ≡ None) (same : bytes ≡ b) where
  pub as_codes : (pool : Pool) (spot : Spot) (cs found' : List MemberCode) → pool ≡ pool_in b → spot ≡ record { at = body_at_in b; left = drop (body_at_in b) b }
      → ((got : ReadTree) → read pool class_body spot.at spot.left ≡ Ok got → found' ≡ (found_in none_found spot.at got.tree).codes) → cs ≡ found'
      → {V E : Type 0} → (see : V → List CodeAt) (result : Result V E) → IfOk result (λ v. see v ≡ map (placed_code bytes) cs) → IfOk result (λ v. see v ≡ codes_in b)
  as_codes pool spot cs found' p q g is see (Err e) h = tt
  as_codes pool spot cs found' p q g is see (Ok v) h =
      let there : Gathered b pool (body_at_in b) found' =
      subst (λ (x : Spot). (got : ReadTree) → read pool class_body x.at x.left ≡ Ok got → found' ≡ (found_in none_found x.at got.tree).codes) q g in
      h ∙ ap₂ (λ (x : List ℕ) (y : List MemberCode). map (placed_code x) y) same is ∙ whole_class b pool (body_at_in b) found' each sound p refl there

-- ---- the body is there, and reads

module _ (b : List ℕ) (each : IsBytes b) (sound : class_fault b ≡ None) where
  pub body_within : body_at_in b ≤ length b
  body_within =
      let k = found (read_class b) sound in
      let p : IsHeld b k.0 = held b k.0 each k.1 in
      subst (λ (n : ℕ). n ≤ length b) (sym (ap body_at_of k.1)) p.within

  pub body_reads : (pool : Pool) (spot : Spot) → pool ≡ pool_in b → spot ≡ record { at = body_at_in b; left = drop (body_at_in b) b } → ((got : ReadTree) → read pool class_body spot.at spot.left ≡ Ok got → ⊥) → ⊥
  body_reads pool spot p q none =
      let k = found (read_class b) sound in
      let h : IsHeld b k.0 = held b k.0 each k.1 in
      let pool_is : pool ≡ k.0.pool = p ∙ ap (list_in (λ (d : Class). d.pool)) k.1 in
      let at_is : body_at_in b ≡ k.0.body_at = ap body_at_of k.1 in
      let spot_is : spot ≡ record { at = k.0.body_at; left = drop k.0.body_at b } = q ∙ ap (λ (n : ℕ). record { at = n; left = drop n b }) at_is in
      none h.got (ap₂ (λ (u : Pool) (x : Spot). read u class_body x.at x.left) pool_is spot_is ∙ h.reads)
