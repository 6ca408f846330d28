-- A walk over places goes as that over what is left of both bodies, and keeps the pools.
use Rattle.std.proofs.Common.{◌≡◌, ℕ, zero, suc, true, false, [], Option, Some, None, option_map, refl, sym, ap, subst, ◌∙◌}
use Rattle.std.proofs.lemmas.Bool.{false≢true}
use Rattle.std.specs.Int.{Width, w8, w16, w32, byte_len}
use Rattle.desk_base.specs.Names.{Text}
use Rattle.desk_base.specs.Entries.{Pool}
use Rattle.desk_format.specs.ClassBody.{class_body}
use Rattle.desk_base.specs.declared.kinds.UseKind.TheVariants as kinds
use Rattle.desk_format.specs.Layouts.{Layout}
use Rattle.desk_parts.specs.Steps.{Steps, on, counted, times_on, fence_on, attribute_on, along}
use Rattle.desk_parts.specs.Gives.{Stops}
use Rattle.desk_parts.specs.declared.walker.Stop.{Stop}
use Rattle.desk_parts.specs.declared.walker.Stop.TheVariants as stops
use Rattle.desk_compare.specs.Known.{TwoPools}
use Rattle.desk_compare.specs.Bodies.{Pair, pair, ahead, Place, place, comparing, two_pools, comparing_at}

-- ---- a step at a place

pub on_at : (pools new : TwoPools) (o : Option Pair) (p : Pair) → new ≡ pools → o ≡ Some p → option_map (place pools) o ≡ Some (place new p)
on_at pools new o p e h = ap (option_map (place pools)) h ∙ ap (λ (x : TwoPools). Some (place x p)) (sym e)

pub stops_at : (pools : TwoPools) (e : Stop) (o : Option Pair) → Stops e o → Stops e (option_map (place pools) o)
stops_at pools stops.Ended o h = ap (option_map (place pools)) h
stops_at pools stops.Memory o h = h

-- ---- a walk over places

module _ (pools : TwoPools) where
  abbrev by : Steps Pair
  by = comparing (two_pools pools.left pools.right)

  pub record Carried (m : Place → Option Place) (n : Pair → Option Pair) : Type 0 where
    pub runs : (p : Pair) → m (place pools p) ≡ option_map (place pools) (n p)

  carried_on : (o : Option Pair) (m : Place → Option Place) (n : Pair → Option Pair) → Carried m n → on (option_map (place pools) o) m ≡ option_map (place pools) (on o n)
  carried_on None m n h = refl
  carried_on (Some q) m n h = h.runs q

  carried_then : (m : Place → Option Place) (m' : Place → Place → Option Place) (n : Pair → Option Pair) (n' : Pair → Pair → Option Pair) → Carried m n → ((p : Pair) → Carried (m' (place pools p)) (n' p))
      → Carried (λ x. on (m x) (m' x)) (λ p. on (n p) (n' p))
  carried_then m m' n n' h k = record {
    runs = λ p. ap (λ (o : Option Place). on o (m' (place pools p))) (h.runs p) ∙ carried_on (n p) (m' (place pools p)) (n' p) (k p);
  }

  carried_times : (k : ℕ) (m : Place → Option Place) (n : Pair → Option Pair) → Carried m n → Carried (times_on k m) (times_on k n)
  unfolding times_on
  carried_times zero m n h = record { runs = λ p. refl }
  carried_times (suc k) m n h = carried_then m (λ _. times_on k m) n (λ _. times_on k n) h (λ p. carried_times k m n h)

  carried_counted : (w : Width) (next : ℕ → Place → Option Place) (next' : ℕ → Pair → Option Pair) → ((k : ℕ) → Carried (next k) (next' k)) → Carried (counted comparing_at w next) (counted by w next')
  carried_counted w next next' h =
      carried_then (comparing_at.bytes (byte_len w)) (λ x. next (comparing_at.ahead w x)) (by.bytes (byte_len w)) (λ p. next' (ahead w p)) (record { runs = λ p. refl }) (λ p. h (ahead w p))

  carried_fence : (k : ℕ) (m : Place → Option Place) (n : Pair → Option Pair) → Carried m n → Carried (fence_on comparing_at k m) (fence_on by k n)
  carried_fence k m n h =
      carried_then (comparing_at.enter k) (λ x q. on (m q) (comparing_at.leave (comparing_at.behind k x))) (by.enter k) (λ p q. on (n q) (by.leave (by.behind k p))) (record { runs = λ p. refl })
      (λ p. carried_then m (λ _. comparing_at.leave (by.behind k p)) n (λ _. by.leave (by.behind k p)) h (λ _. record { runs = λ q. refl }))

  carried_attribute : (body : ℕ → Text → Place → Option Place) (body' : ℕ → Text → Pair → Option Pair) → ((k : ℕ) (name : Text) → Carried (body k name) (body' k name)) → Carried (attribute_on comparing_at body) (attribute_on by body')
  carried_attribute body body' h =
      carried_then (comparing_at.index kinds.AttrName) (λ x. counted comparing_at w32 (λ k. fence_on comparing_at k (body k (comparing_at.name x))))
      (by.index kinds.AttrName) (λ p. counted by w32 (λ k. fence_on by k (body' k (by.name p)))) (record { runs = λ p. refl })
      (λ p. carried_counted w32 (λ k. fence_on comparing_at k (body k (by.name p))) (λ k. fence_on by k (body' k (by.name p))) (λ k. carried_fence k (body k (by.name p)) (body' k (by.name p)) (h k (by.name p))))

  -- One induction, with a case for each kind of layout.
  carried : (l : Layout) → Carried (along comparing_at l) (along by l)
  unfolding along
  carried (Layout.number w check) = record { runs = λ p. refl }
  carried (Layout.sized w check) = carried_counted w comparing_at.code by.code (λ k. record { runs = λ p. refl })
  carried (Layout.raw n) = record { runs = λ p. refl }
  carried (Layout.index kind) = record { runs = λ p. refl }
  carried Layout.nothing = record { runs = λ p. refl }
  carried (Layout.row a b) = carried_then (along comparing_at a) (λ _. along comparing_at b) (along by a) (λ _. along by b) (carried a) (λ p. carried b)
  carried (Layout.table w l) = carried_counted w (λ k. times_on k (along comparing_at l)) (λ k. times_on k (along by l)) (λ k. carried_times k (along comparing_at l) (along by l) (carried l))
  carried (Layout.tagged check branch) = carried_counted w8 (λ tag. along comparing_at (branch tag)) (λ tag. along by (branch tag)) (λ tag. carried (branch tag))
  carried (Layout.attributes body) =
      let m : Place → Option Place = attribute_on comparing_at (λ k name. along comparing_at (body k name)) in
      let n : Pair → Option Pair = attribute_on by (λ k name. along by (body k name)) in
      carried_counted w16 (λ k. times_on k m) (λ k. times_on k n) (λ k. carried_times k m n (carried_attribute (λ j name. along comparing_at (body j name)) (λ j name. along by (body j name)) (λ j name. carried (body j name))))
  carried (Layout.member l) = record { runs = λ p. (carried l).runs p }
  carried (Layout.fault kind) = record { runs = λ p. refl }

  some_place : (o : Option Pair) (x : Place) → option_map (place pools) o ≡ Some x → o ≡ Some x.bodies
  some_place None x h = absurd cc
  some_place (Some q) x h = let e : place pools q ≡ x = cc in ap (λ (y : Place). Some y.bodies) e

  none_place : (o : Option Pair) → option_map (place pools) o ≡ None → o ≡ None
  none_place None h = refl
  none_place (Some q) h = absurd cc

  -- where such a walk comes to its end, and where it doesn't
  pub walked : (l : Layout) (p : Pair) (x : Place) → along comparing_at l (place pools p) ≡ Some x → along by l p ≡ Some x.bodies
  walked l p x h = some_place (along by l p) x (sym ((carried l).runs p) ∙ h)

  pub ended : (l : Layout) (p : Pair) → along comparing_at l (place pools p) ≡ None → along by l p ≡ None
  ended l p h = none_place (along by l p) (sym ((carried l).runs p) ∙ h)

some_none : (o : Option Pair) (q : Pair) → o ≡ None → o ≡ Some q → false ≡ true
some_none None q h k = absurd cc
some_none (Some p) q h k = absurd cc

-- where it doesn't, as the code has it
pub body_ends : (pools : TwoPools) (left right : Pool) (p : Pair) (e : Stop) → pools ≡ record { left = left; right = right } → e ≡ stops.Ended → Stops e (along comparing_at class_body (place pools p))
    → (false ≡ true → along (comparing (two_pools left right)) class_body p ≡ Some (pair [] [])) × (along (comparing (two_pools left right)) class_body p ≡ Some (pair [] []) → false ≡ true)
body_ends pools left right p e same is stop =
    let over : Stops stops.Ended (along comparing_at class_body (place pools p)) = subst (λ (x : Stop). Stops x (along comparing_at class_body (place pools p))) is stop in
    let none : along (comparing (two_pools left right)) class_body p ≡ None = subst (λ (x : TwoPools). along (comparing (two_pools x.left x.right)) class_body p ≡ None) same (ended pools class_body p over) in
    (λ h. absurd (false≢true h), λ h. some_none (along (comparing (two_pools left right)) class_body p) (pair [] []) none h)
