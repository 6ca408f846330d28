use Rattle.std.proofs.Common.{◌≡◌, ℕ, List, ◌++◌, ◌+◌, ◌-◌, ◌<◌, length, take, drop, get_or, map, ap, sym, ◌∙◌, subst, arith}
use Rattle.std.proofs.lemmas.List.{append_assoc, get_or-map, length-drop}
use Rattle.desk_base.specs.declared.kinds.Role.TheVariants.{Class}
use Rattle.desk_base.specs.declared.kinds.Used.{Used}
use Rattle.desk_format.specs.PoolBytes.{two}
use Rattle.desk_format.specs.Exchange.{patch}
use Rattle.desk_new_pool.specs.Printing.{Stands}
use Rattle.desk_new_pool.proofs.Bodies.{Ahead, ahead}
use Rattle.desk_new_pool.proofs.body.append_body.Goals as goal

abbrev default : Used
default = record { at = 0; index = 0; role = Class }

new_at : (g : Used → ℕ) (uses : List Used) (indices : List ℕ) (i : ℕ) → i < length uses → indices ≡ map g uses → get_or indices i 0 ≡ g (get_or uses i default)
new_at g uses indices i lt is = ap (λ (l : List ℕ). get_or l i 0) is ∙ get_or-map g uses i default 0 lt

pub loop-place-preserved-then-index-used : goal.loop-place-preserved-then-index-used
loop-place-preserved-then-index-used c =
    let u : Used = get_or c.args.uses.now c.loop-place.place default in
    let lt : c.loop-place.place < length c.args.uses.now = c.loop-place-test.true in
    let a : Ahead c.loop-place.at c.loop-place.left.now c.args.uses.now c.loop-place.place default = ahead c.loop-place.at c.loop-place.left.now c.args.uses.now c.loop-place.place default lt c.loop-place.invariant.stands in
    record {
      end = c.loop-place.invariant.end;
      stands = a.same;
      written = λ g is. ap (λ (l : List ℕ). c.loop-place.out ++ l) (sym (a.kept g (sym (new_at g c.args.uses.now c.args.indices.now c.loop-place.place lt is) ∙ c.if-index-used.true))) ∙ c.loop-place.invariant.written g is;
    }

pub overflow_add-at : goal.overflow_add-at
overflow_add-at c =
    let u : Used = get_or c.args.uses.now c.loop-place.place default in
    let lt : c.loop-place.place < length c.args.uses.now = c.loop-place-test.true in
    let a : Ahead c.loop-place.at c.loop-place.left.now c.args.uses.now c.loop-place.place default = ahead c.loop-place.at c.loop-place.left.now c.args.uses.now c.loop-place.place default lt c.loop-place.invariant.stands in
    omega (arith, a.near, a.within, c.loop-place.invariant.end, c.requires.limit)

pub loop-place-preserved : goal.loop-place-preserved
loop-place-preserved c =
    let u : Used = get_or c.args.uses.now c.loop-place.place default in
    let lt : c.loop-place.place < length c.args.uses.now = c.loop-place-test.true in
    let a : Ahead c.loop-place.at c.loop-place.left.now c.args.uses.now c.loop-place.place default = ahead c.loop-place.at c.loop-place.left.now c.args.uses.now c.loop-place.place default lt c.loop-place.invariant.stands in
    let left : c.split_at-in-loop-place.result.1.now ≡ drop 2 (drop (u.at - c.loop-place.at) c.loop-place.left.now) = c.split_at-in-loop-place.ensures.back ∙ ap (drop 2) c.split_at.ensures.back in
    let size : length (drop 2 (drop (u.at - c.loop-place.at) c.loop-place.left.now)) ≡ length (drop (u.at - c.loop-place.at) c.loop-place.left.now) - 2 = length-drop 2 (drop (u.at - c.loop-place.at) c.loop-place.left.now) in
    let size' : length (drop (u.at - c.loop-place.at) c.loop-place.left.now) ≡ length c.loop-place.left.now - (u.at - c.loop-place.at) = length-drop (u.at - c.loop-place.at) c.loop-place.left.now in
    let rest : length c.split_at-in-loop-place.result.1.now ≡ length (drop 2 (drop (u.at - c.loop-place.at) c.loop-place.left.now)) = ap length left in
    let front : c.append.new.self ≡ c.loop-place.out ++ take (u.at - c.loop-place.at) c.loop-place.left.now = c.in_ok-append.ensures.ok ∙ ap (λ (l : List ℕ). c.loop-place.out ++ l) c.split_at.ensures.front in
    let new : c.append_two.new.out ≡ (c.loop-place.out ++ take (u.at - c.loop-place.at) c.loop-place.left.now) ++ two (get_or c.args.indices.now c.loop-place.place 0) = c.in_ok-append_two.ensures ∙ ap (λ (l : List ℕ). l ++ two (get_or c.args.indices.now c.loop-place.place 0)) front in
    record {
      end = omega (arith, a.near, a.within, c.loop-place.invariant.end);
      stands = subst (λ (l : List ℕ). Stands (u.at + 2) l (drop (c.loop-place.place + 1) c.args.uses.now)) (sym left) a.later;
      written = λ g is.
          let t : List ℕ = take (u.at - c.loop-place.at) c.loop-place.left.now in
          let p : List ℕ = patch g (u.at + 2) (drop (c.loop-place.place + 1) c.args.uses.now) (drop 2 (drop (u.at - c.loop-place.at) c.loop-place.left.now)) in
          ap (λ (l : List ℕ). c.append_two.new.out ++ patch g (u.at + 2) (drop (c.loop-place.place + 1) c.args.uses.now) l) left
          ∙ ap (λ (l : List ℕ). l ++ p) (new ∙ ap (λ (n : ℕ). (c.loop-place.out ++ t) ++ two n) (new_at g c.args.uses.now c.args.indices.now c.loop-place.place lt is))
          ∙ ap (λ (l : List ℕ). l ++ p) (append_assoc c.loop-place.out t (two (g u))) ∙ append_assoc c.loop-place.out (t ++ two (g u)) p
          ∙ ap (λ (l : List ℕ). c.loop-place.out ++ l) (sym (a.put g)) ∙ c.loop-place.invariant.written g is;
    }
