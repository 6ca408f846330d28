use Rattle.std.proofs.Common.{◌≡◌, ℕ, ◌+◌, ◌<◌, ◌≤◌, ◌++◌, ◌&&◌, Bool, true, false, List, length, get_or, drop, Option, Some, None, sym, ap, ◌∙◌, append-nil, append_assoc, length-append, arith}
use Rattle.std.proofs.lemmas.List.{at_drop_all, length-map}
use Rattle.desk_base.specs.declared.kinds.Used.{Used}
use Rattle.desk_base.specs.Entries.{Pool}
use Rattle.desk_base.specs.Referents.{links}
use Rattle.desk_format.specs.PoolBytes.{size, print_entry, print_slots, uses_among, pool_uses}
use Rattle.desk_pool.specs.declared.constant.Constant.{Constant}
use Rattle.desk_pool.specs.Seen.{entry_of, slot_of, seen}
use Rattle.desk_pool.specs.Fits.{links_fit, slots_fit}
use Rattle.desk_pool.proofs.Indices.{next_slot}
use Rattle.desk_pool.proofs.Fits.{no_name_wrong, no_lead_wrong}
use Rattle.desk_pool.proofs.fitting.uses_if_fitting.Goals as goal

-- at a place that names nothing
skipped : (slots : List (Option Constant)) (pool : Pool) (i : ℕ) (s : Option Constant) → seen slots ≡ pool → i < length slots → s ≡ get_or slots i s → s ≡ None
    → (slots_fit pool (drop i pool) ≡ slots_fit pool (drop (i + 1) pool))
    × ((at : ℕ) → pool_uses at (drop i pool) ≡ pool_uses at (drop (i + 1) pool))
    × (length (print_slots (drop i pool)) ≡ length (print_slots (drop (i + 1) pool)))
skipped slots pool i s same lt is none = (
  next_slot (slots_fit pool) slots pool i s None same lt is (ap slot_of none),
  λ at. next_slot (pool_uses at) slots pool i s None same lt is (ap slot_of none),
  next_slot (λ (p : Pool). length (print_slots p)) slots pool i s None same lt is (ap slot_of none),
)

-- at an entry
taken : (slots : List (Option Constant)) (pool : Pool) (i : ℕ) (s : Option Constant) (k : Constant) → seen slots ≡ pool → i < length slots → s ≡ get_or slots i s → s ≡ Some k
    → (slots_fit pool (drop i pool) ≡ (links_fit pool (links (entry_of k)) && slots_fit pool (drop (i + 1) pool)))
    × ((at : ℕ) → pool_uses at (drop i pool) ≡ uses_among at (links (entry_of k)) ++ pool_uses (at + size (entry_of k)) (drop (i + 1) pool))
    × (length (print_slots (drop i pool)) ≡ size (entry_of k) + length (print_slots (drop (i + 1) pool)))
taken slots pool i s k same lt is some = (
  next_slot (slots_fit pool) slots pool i s (Some (entry_of k)) same lt is (ap slot_of some),
  λ at. next_slot (pool_uses at) slots pool i s (Some (entry_of k)) same lt is (ap slot_of some),
  next_slot (λ (p : Pool). length (print_slots p)) slots pool i s (Some (entry_of k)) same lt is (ap slot_of some) ∙ length-append (print_entry (entry_of k)) (print_slots (drop (i + 1) pool)),
)

pub loop-place-preserved-in_default : goal.loop-place-preserved-in_default
loop-place-preserved-in_default c =
    let pool = seen c.args.slots.now in
    let n = skipped c.loop-place.slots pool c.loop-place.place c.index-slots-place.result c.loop-place.invariant.same (omega arith) c.index-slots-place.is c.in_default.is in
    record {
      same = c.loop-place.invariant.same;
      fit = sym n.0 ∙ c.loop-place.invariant.fit;
      rest = ap (λ (us : List Used). c.loop-place.uses.items ++ us) (sym (n.1 c.loop-place.at)) ∙ c.loop-place.invariant.rest;
      room = omega (arith, n.2);
    }

pub returns-else-entry_fits-clause-uses : goal.returns-else-entry_fits-clause-uses
returns-else-entry_fits-clause-uses c =
    let pool = seen c.args.slots.now in
    let k = c.in-Some.constant in
    let n = taken c.loop-place.slots pool c.loop-place.place c.index-slots-place.result k c.loop-place.invariant.same (omega arith) c.index-slots-place.is c.in-Some.is in
    let no : links_fit pool (links (entry_of k)) ≡ false = ap (λ (p : Pool). links_fit p (links (entry_of k))) (sym c.loop-place.invariant.same) ∙ sym c.entry_fits.ensures.fits ∙ c.if-entry_fits.false in
    sym c.loop-place.invariant.fit ∙ n.0 ∙ ap (λ (b : Bool). b && slots_fit pool (drop (c.loop-place.place + 1) pool)) no

pub size_of-at-requires : goal.size_of-at-requires
size_of-at-requires c =
    let n = taken c.loop-place.slots (seen c.args.slots.now) c.loop-place.place c.index-slots-place.result c.in-Some.constant c.loop-place.invariant.same (omega arith) c.index-slots-place.is c.in-Some.is in
    omega (arith, n.2)

pub overflow_add-at : goal.overflow_add-at
overflow_add-at c =
    let n = taken c.loop-place.slots (seen c.args.slots.now) c.loop-place.place c.index-slots-place.result c.in-Some.constant c.loop-place.invariant.same (omega arith) c.index-slots-place.is c.in-Some.is in
    omega (arith, n.2)

pub loop-place-preserved : goal.loop-place-preserved
loop-place-preserved c =
    let pool = seen c.args.slots.now in
    let k = c.in-Some.constant in
    let rest = drop (c.loop-place.place + 1) pool in
    let old = c.loop-place.uses.items in
    let at = c.loop-place.at in
    let among = uses_among at (links (entry_of k)) in
    let n = taken c.loop-place.slots pool c.loop-place.place c.index-slots-place.result k c.loop-place.invariant.same (omega arith) c.index-slots-place.is c.in-Some.is in
    let yes : links_fit pool (links (entry_of k)) ≡ true = ap (λ (p : Pool). links_fit p (links (entry_of k))) (sym c.loop-place.invariant.same) ∙ sym c.entry_fits.ensures.fits ∙ c.if-entry_fits.true in
    record {
      same = c.entry_fits.ensures.same ∙ c.loop-place.invariant.same;
      fit = sym (ap (λ (b : Bool). b && slots_fit pool rest) yes) ∙ sym n.0 ∙ c.loop-place.invariant.fit;
      rest =
          ap (λ (us : List Used). us ++ pool_uses (at + c.size_of-at.result) rest) c.in_ok-push_uses.ensures
          ∙ append_assoc old among (pool_uses (at + c.size_of-at.result) rest)
          ∙ ap (λ (m : ℕ). old ++ (among ++ pool_uses (at + m) rest)) c.size_of-at.ensures
          ∙ ap (λ (us : List Used). old ++ us) (sym (n.1 at))
          ∙ c.loop-place.invariant.rest;
      room = omega (arith, n.2);
    }

pub returns-clause-uses : goal.returns-clause-uses
returns-clause-uses c =
    let pool = seen c.args.slots.now in
    let uses = c.loop-place.uses.items in
    let at = c.loop-place.at in
    let end : length pool ≤ c.loop-place.place = omega (arith, length-map c.args.slots.now slot_of) in
    let fit : slots_fit pool pool ≡ true = sym c.loop-place.invariant.fit ∙ at_drop_all (slots_fit pool) pool c.loop-place.place end in
    record {
      named = no_name_wrong pool pool c.args.start fit;
      formed = no_lead_wrong pool pool c.args.start fit;
      used =
          sym (append-nil uses)
          ∙ sym (ap (λ (us : List Used). uses ++ us) (at_drop_all (pool_uses at) pool c.loop-place.place end))
          ∙ c.loop-place.invariant.rest;
    }
