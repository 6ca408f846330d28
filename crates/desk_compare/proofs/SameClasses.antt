-- Two classes are the same exactly where their versions are, and a walk goes along both bodies to their ends.
use Rattle.std.proofs.Common.{◌≡◌, ◌↔◌, ℕ, Bool, true, false, not, List, [], ◌++◌, length, take, drop, Some, None, Result, Ok, Err, IfOk, bytes_eq, refl, sym, ap, ap₂, subst, ◌∙◌, ◌≤◌, arith, length-append}
use Rattle.std.proofs.lemmas.Bool.{true≢false, false≢true}
use Rattle.std.proofs.lemmas.List.{take-append-drop}
use Rattle.std.proofs.lemmas.Slice.Eq.{bytes_eq-Decides}
use Rattle.desk_base.specs.Entries.{Pool}
use Rattle.desk_format.specs.Trees.{Tree}
use Rattle.desk_format.specs.ClassBody.{class_body}
use Rattle.desk_format.specs.PoolBytes.{two}
use Rattle.desk_format.specs.PoolReading.{Got, got}
use Rattle.desk_format.specs.Classes.{Class, Version, magic, header_read, read_class, class_fault}
use Rattle.desk_format.specs.Laws.{IsBytes}
use Rattle.desk_format.proofs.PoolSteps.{ok_is}
use Rattle.desk_laws.proofs.Header.{ClassParts, class_ok}
use Rattle.desk_class.specs.Parts.{pool_in, body_at_in}
use Rattle.desk_code.proofs.Whole.{IsHeld, held, found}
use Rattle.desk_parts.specs.Steps.{along}
use Rattle.desk_compare.specs.Free.{Leaf, free, FreeClass, free_class, free_of, free_in}
use Rattle.desk_compare.specs.Bodies.{pair, comparing, two_pools}
use Rattle.desk_compare.proofs.Laws.{Tell}
use Rattle.desk_compare.proofs.Moved.{compared}
use Rattle.desk_compare.proofs.SameValues.{kind_true, kind_from}
use Rattle.desk_compare.proofs.SameCodes.{code_true, code_from}

tells : (left right : Pool) → Tell left right (two_pools left right)
tells left right = record {
  pool = refl;
  index_true = kind_true left right;
  index_from = kind_from left right;
  code_true = code_true left right;
  code_from = code_from left right;
}

-- ---- the first eight bytes

versions_same : (v w : Version) (s t : List ℕ) → s ≡ t → header_read 0 (s ++ []) ≡ Ok (got v 8 []) → header_read 0 (t ++ []) ≡ Ok (got w 8 []) → v ≡ w
versions_same v w s t e h k =
    ap (λ (x : Got Version). x.value) (ok_is _ _ (sym h ∙ ap (λ (x : List ℕ). header_read 0 (x ++ [])) e ∙ k))

-- the same magic and versions
pub headers_tell : (s t : List ℕ) (c d : Class) → IsBytes s → IsBytes t → read_class s ≡ Ok c → read_class t ≡ Ok d → (take 8 s ≡ take 8 t) ↔ ((c.minor ≡ d.minor) × (c.major ≡ d.major))
headers_tell s t c d a b e f =
    let p : ClassParts s c = class_ok s c a e in
    let q : ClassParts t d = class_ok t d b f in
    let m : p.version.value.minor ≡ c.minor = ap (λ (x : Class). x.minor) p.is in
    let n : q.version.value.minor ≡ d.minor = ap (λ (x : Class). x.minor) q.is in
    let x : p.version.value.major ≡ c.major = ap (λ (x : Class). x.major) p.is in
    let y : q.version.value.major ≡ d.major = ap (λ (x : Class). x.major) q.is in (
      (λ h.
          let v : p.version.value ≡ q.version.value = versions_same p.version.value q.version.value (take 8 s) (take 8 t) h (p.header.again []) (q.header.again []) in
          (sym m ∙ ap (λ (v : Version). v.minor) v ∙ n, sym x ∙ ap (λ (v : Version). v.major) v ∙ y)),
      (λ h. p.header.front ∙ ap₂ (λ (i j : ℕ). (magic ++ two i) ++ two j) (m ∙ h.0 ∙ sym n) (x ∙ h.1 ∙ sym y) ∙ sym q.header.front),
    )

-- ---- the bytes of a class

pub long : (bytes : List ℕ) → IsBytes bytes → class_fault bytes ≡ None → 8 ≤ length bytes
long bytes b h =
    let k = found (read_class bytes) h in
    let p : ClassParts bytes k.0 = class_ok bytes k.0 b k.1 in
    let front : length (take 8 bytes) ≡ 8 = ap length p.header.front in
    omega (arith, ap length (take-append-drop 8 bytes), length-append (take 8 bytes) (drop 8 bytes), front)

-- ---- two classes

some_free : (a b : FreeClass) → Some a ≡ Some b → a ≡ b
some_free a b h = cc

-- A walk goes along both bodies to their ends.
abbrev pub Along : List ℕ → List ℕ → Type 0
Along s t = along (comparing (two_pools (pool_in s) (pool_in t))) class_body (pair (drop (body_at_in s) s) (drop (body_at_in t) t)) ≡ Some (pair [] [])

module _ (s t : List ℕ) (a : IsBytes s) (b : IsBytes t) (x : class_fault s ≡ None) (y : class_fault t ≡ None) where
  apart : (take 8 s ≡ take 8 t → ⊥) → free_in s ≡ free_in t → ⊥
  apart differ same =
      let c = found (read_class s) x in
      let d = found (read_class t) y in
      let e : free_class c.0 ≡ free_class d.0 = some_free _ _ (sym (ap free_of c.1) ∙ same ∙ ap free_of d.1) in
      differ ((headers_tell s t c.0 d.0 a b c.1 d.1).1 (ap (λ (f : FreeClass). f.minor) e, ap (λ (f : FreeClass). f.major) e))

  walks : (c d : Class) → read_class s ≡ Ok c → read_class t ≡ Ok d → Along s t ↔ (free c.pool c.body ≡ free d.pool d.body)
  walks c d e f =
      let p : IsHeld s c = held s c a e in
      let q : IsHeld t d = held t d b f in
      let law = compared class_body c.pool d.pool (two_pools c.pool d.pool) (drop c.body_at s) (drop d.body_at t) p.got q.got (tells c.pool d.pool)
      (record { from = c.body_at; to = d.body_at; first = p.reads; second = q.reads; first_end = p.ends; second_end = q.ends }) in
      rw (e, f) (
        (λ h. sym (ap (free c.pool) p.tree) ∙ law.1 h ∙ ap (free d.pool) q.tree),
        (λ h. law.0 (ap (free c.pool) p.tree ∙ h ∙ sym (ap (free d.pool) q.tree))),
      )

  by_parts : (c d : Class) → c.minor ≡ d.minor → c.major ≡ d.major → free c.pool c.body ≡ free d.pool d.body → free_class c ≡ free_class d
  by_parts c d m n e =
      ap (λ (k : ℕ). record { minor = k; major = c.major; body = free c.pool c.body }) m
      ∙ ap (λ (k : ℕ). record { minor = d.minor; major = k; body = free c.pool c.body }) n
      ∙ ap (λ (k : Tree Leaf). record { minor = d.minor; major = d.major; body = k }) e

  together : take 8 s ≡ take 8 t → Along s t ↔ (free_in s ≡ free_in t)
  together agree =
      let c = found (read_class s) x in
      let d = found (read_class t) y in
      let v = (headers_tell s t c.0 d.0 a b c.1 d.1).0 agree in
      let w = walks c.0 d.0 c.1 d.1 in (
        (λ h. ap free_of c.1 ∙ ap (λ (f : FreeClass). Some f) (by_parts c.0 d.0 v.0 v.1 (w.0 h)) ∙ sym (ap free_of d.1)),
        (λ h.
            let e : free_class c.0 ≡ free_class d.0 = some_free _ _ (sym (ap free_of c.1) ∙ h ∙ ap free_of d.1) in
            w.1 (ap (λ (f : FreeClass). f.body) e)),
      )

  pub headers_apart : false ≡ bytes_eq (take 8 s) (take 8 t) → (false ≡ true) ↔ (free_in s ≡ free_in t)
  headers_apart e =
      let differ : take 8 s ≡ take 8 t → ⊥ = λ h. true≢false (sym ((bytes_eq-Decides (take 8 s) (take 8 t)).1 h) ∙ sym e) in
      ((λ h. absurd (false≢true h)), (λ h. absurd (apart differ h)))

  pub bodies_tell : (r : Bool) → true ≡ bytes_eq (take 8 s) (take 8 t) → (r ≡ true) ↔ Along s t → (r ≡ true) ↔ (free_in s ≡ free_in t)
  bodies_tell r e k =
      let w = together ((bytes_eq-Decides (take 8 s) (take 8 t)).0 (sym e)) in
      ((λ h. w.0 (k.0 h)), (λ h. k.1 (w.1 h)))

-- ---- as the code has them

pub equal_bytes : (b : Bool) → false ≡ not b → true ≡ b
equal_bytes true h = refl
equal_bytes false h = absurd cc

pub other_bytes : (b : Bool) → true ≡ not b → false ≡ b
other_bytes true h = absurd cc
other_bytes false h = refl

module _ (s t l r : List ℕ) (a : IsBytes s) (b : IsBytes t) (x : class_fault s ≡ None) (y : class_fault t ≡ None) (p : l ≡ take 8 s) (q : r ≡ take 8 t) where
  same_eight : (c : Bool) → c ≡ bytes_eq l r → c ≡ bytes_eq (take 8 s) (take 8 t)
  same_eight c h = h ∙ ap₂ bytes_eq p q

  pub no_class : false ≡ bytes_eq l r → (false ≡ true) ↔ (free_in s ≡ free_in t)
  no_class h = headers_apart s t a b x y (same_eight false h)

  pub as_class : (u v : Pool) (one other : List ℕ) → u ≡ pool_in s → v ≡ pool_in t → one ≡ drop (body_at_in s) s → other ≡ drop (body_at_in t) t → true ≡ bytes_eq l r
      → {E : Type 0} → (result : Result Bool E) → IfOk result (λ same. (same ≡ true) ↔ (along (comparing (two_pools u v)) class_body (pair one other) ≡ Some (pair [] [])))
      → IfOk result (λ same. (same ≡ true) ↔ (free_in s ≡ free_in t))
  as_class u v one other pu pv left right agree (Err e) h = tt
  as_class u v one other pu pv left right agree (Ok same) h =
      let k : (same ≡ true) ↔ Along s t =
      subst (λ (z : Pool). (same ≡ true) ↔ (along (comparing (two_pools z (pool_in t))) class_body (pair (drop (body_at_in s) s) (drop (body_at_in t) t)) ≡ Some (pair [] []))) pu
      (subst (λ (z : Pool). (same ≡ true) ↔ (along (comparing (two_pools u z)) class_body (pair (drop (body_at_in s) s) (drop (body_at_in t) t)) ≡ Some (pair [] []))) pv
      (subst (λ (z : List ℕ). (same ≡ true) ↔ (along (comparing (two_pools u v)) class_body (pair z (drop (body_at_in t) t)) ≡ Some (pair [] []))) left
      (subst (λ (z : List ℕ). (same ≡ true) ↔ (along (comparing (two_pools u v)) class_body (pair one z) ≡ Some (pair [] []))) right h))) in
      bodies_tell s t a b x y same (same_eight true agree) k
