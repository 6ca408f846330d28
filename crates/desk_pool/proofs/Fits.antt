-- No pass finds a fault exactly where each index fits.
use Rattle.std.proofs.Common.{◌≡◌, ℕ, ◌+◌, Bool, true, false, cond, ◌&&◌, List, [], ◌∷◌, Option, Some, None, refl, ap, ◌∙◌}
use Rattle.desk_base.specs.declared.faults.FaultKind.{FaultKind}
use Rattle.desk_base.specs.declared.faults.FaultKind.TheVariants as faults
use Rattle.desk_base.specs.declared.faults.Malformed.{Malformed}
use Rattle.desk_base.specs.Entries.{Pool, tag_at}
use Rattle.desk_base.specs.Misfits.{or_else, form_fault}
use Rattle.desk_base.specs.Referents.{Link, links, fits, form_of, has_form, text_led_to}
use Rattle.desk_format.specs.PoolBytes.{size}
use Rattle.desk_format.specs.PoolReading.{fault_of_link, first_among, first_fault, names_wrong, leads_wrong}
use Rattle.desk_pool.specs.Fits.{index_fits, links_fit, slots_fit}

both : (a b : Bool) → (a && b) ≡ true → (a ≡ true) × (b ≡ true)
both true b h = (refl, h)
both false b h = absurd cc

-- ---- where indices fit

goes_on : (a : Bool) (kind : FaultKind) (at : ℕ) (rest : Option Malformed) → a ≡ true → or_else (fault_of_link (cond a None (Some kind)) at) rest ≡ rest
goes_on true kind at rest h = refl
goes_on false kind at rest h = absurd cc

abbrev named : Pool → Link → Bool
named pool l = fits l.referent (tag_at pool l.index)

abbrev formed : Pool → Link → Bool
formed pool l = has_form (form_of l.referent) (text_led_to l.referent pool l.index)

one_named : (pool : Pool) (at : ℕ) (l : Link) (ls : List Link) → index_fits pool l.referent l.index ≡ true → first_among (names_wrong pool) at (l ∷ ls) ≡ first_among (names_wrong pool) at ls
one_named pool at l ls h = goes_on (named pool l) faults.Index (at + l.behind) _ (both (named pool l) (formed pool l) h).0

one_formed : (pool : Pool) (at : ℕ) (l : Link) (ls : List Link) → index_fits pool l.referent l.index ≡ true → first_among (leads_wrong pool) at (l ∷ ls) ≡ first_among (leads_wrong pool) at ls
one_formed pool at l ls h = goes_on (formed pool l) (form_fault (form_of l.referent)) (at + l.behind) _ (both (named pool l) (formed pool l) h).1

all_named : (pool : Pool) (at : ℕ) (ls : List Link) → links_fit pool ls ≡ true → first_among (names_wrong pool) at ls ≡ None
all_named pool at [] h = refl
all_named pool at (l ∷ []) h = one_named pool at l [] h
all_named pool at (l ∷ m ∷ ls) h =
    let b = both (index_fits pool l.referent l.index) (links_fit pool (m ∷ ls)) h in
    one_named pool at l (m ∷ ls) b.0 ∙ all_named pool at (m ∷ ls) b.1

all_formed : (pool : Pool) (at : ℕ) (ls : List Link) → links_fit pool ls ≡ true → first_among (leads_wrong pool) at ls ≡ None
all_formed pool at [] h = refl
all_formed pool at (l ∷ []) h = one_formed pool at l [] h
all_formed pool at (l ∷ m ∷ ls) h =
    let b = both (index_fits pool l.referent l.index) (links_fit pool (m ∷ ls)) h in
    one_formed pool at l (m ∷ ls) b.0 ∙ all_formed pool at (m ∷ ls) b.1

pub no_name_wrong : (pool slots : Pool) (at : ℕ) → slots_fit pool slots ≡ true → first_fault (names_wrong pool) at slots ≡ None
no_name_wrong pool [] at h = refl
no_name_wrong pool (None ∷ slots) at h = no_name_wrong pool slots at h
no_name_wrong pool (Some e ∷ slots) at h =
    let b = both (links_fit pool (links e)) (slots_fit pool slots) h in
    ap (λ (f : Option Malformed). or_else f (first_fault (names_wrong pool) (at + size e) slots)) (all_named pool at (links e) b.0)
    ∙ no_name_wrong pool slots (at + size e) b.1

pub no_lead_wrong : (pool slots : Pool) (at : ℕ) → slots_fit pool slots ≡ true → first_fault (leads_wrong pool) at slots ≡ None
no_lead_wrong pool [] at h = refl
no_lead_wrong pool (None ∷ slots) at h = no_lead_wrong pool slots at h
no_lead_wrong pool (Some e ∷ slots) at h =
    let b = both (links_fit pool (links e)) (slots_fit pool slots) h in
    ap (λ (f : Option Malformed). or_else f (first_fault (leads_wrong pool) (at + size e) slots)) (all_formed pool at (links e) b.0)
    ∙ no_lead_wrong pool slots (at + size e) b.1

-- ---- where no pass finds a fault

none_of_both : (a b : Option Malformed) → or_else a b ≡ None → (a ≡ None) × (b ≡ None)
none_of_both None b h = (refl, h)
none_of_both (Some f) b h = absurd cc

no_fault : (a : Bool) (kind : FaultKind) (at : ℕ) → fault_of_link (cond a None (Some kind)) at ≡ None → a ≡ true
no_fault true kind at h = refl
no_fault false kind at h = absurd cc

both_so : (a b : Bool) → a ≡ true → b ≡ true → (a && b) ≡ true
both_so true b p q = q
both_so false b p q = absurd cc

one_fits : (pool : Pool) (at : ℕ) (l : Link) (ls : List Link) → first_among (names_wrong pool) at (l ∷ ls) ≡ None → first_among (leads_wrong pool) at (l ∷ ls) ≡ None
    → (index_fits pool l.referent l.index ≡ true) × (first_among (names_wrong pool) at ls ≡ None) × (first_among (leads_wrong pool) at ls ≡ None)
one_fits pool at l ls p q =
    let n = none_of_both (fault_of_link (names_wrong pool l) (at + l.behind)) (first_among (names_wrong pool) at ls) p in
    let f = none_of_both (fault_of_link (leads_wrong pool l) (at + l.behind)) (first_among (leads_wrong pool) at ls) q in (
      both_so (named pool l) (formed pool l) (no_fault (named pool l) faults.Index (at + l.behind) n.0) (no_fault (formed pool l) (form_fault (form_of l.referent)) (at + l.behind) f.0),
      n.1,
      f.1,
    )

they_fit : (pool : Pool) (at : ℕ) (ls : List Link) → first_among (names_wrong pool) at ls ≡ None → first_among (leads_wrong pool) at ls ≡ None → links_fit pool ls ≡ true
they_fit pool at [] p q = refl
they_fit pool at (l ∷ []) p q = (one_fits pool at l [] p q).0
they_fit pool at (l ∷ m ∷ ls) p q =
    let o = one_fits pool at l (m ∷ ls) p q in
    both_so (index_fits pool l.referent l.index) (links_fit pool (m ∷ ls)) o.0 (they_fit pool at (m ∷ ls) o.1 o.2)

pub all_fit : (pool slots : Pool) (at : ℕ) → first_fault (names_wrong pool) at slots ≡ None → first_fault (leads_wrong pool) at slots ≡ None → slots_fit pool slots ≡ true
all_fit pool [] at p q = refl
all_fit pool (None ∷ slots) at p q = all_fit pool slots at p q
all_fit pool (Some e ∷ slots) at p q =
    let n = none_of_both (first_among (names_wrong pool) at (links e)) (first_fault (names_wrong pool) (at + size e) slots) p in
    let f = none_of_both (first_among (leads_wrong pool) at (links e)) (first_fault (leads_wrong pool) (at + size e) slots) q in
    both_so (links_fit pool (links e)) (slots_fit pool slots) (they_fit pool at (links e) n.0 f.0) (all_fit pool slots (at + size e) n.1 f.1)
