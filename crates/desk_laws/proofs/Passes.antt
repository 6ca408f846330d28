-- A pass finds no fault exactly where each index passes.
use Rattle.std.proofs.Common.{◌≡◌, ℕ, ◌+◌, List, [], ◌∷◌, Option, Some, None, refl, ap}
use Rattle.std.specs.List.{AllByRecursion}
use Rattle.desk_base.specs.declared.faults.FaultKind.{FaultKind}
use Rattle.desk_format.specs.PoolBytes.{size}
use Rattle.desk_base.specs.Entries.{Pool}
use Rattle.desk_base.specs.Referents.{Link, links}
use Rattle.desk_base.specs.Misfits.{or_else}
use Rattle.desk_format.specs.PoolReading.{Check, fault_of_link, first_among, first_fault}
use Rattle.desk_laws.specs.Sound.{EachLink}

abbrev pub Passes : Check → Link → Type 0
Passes check l = check l ≡ None

pub record Neither {A : Type 0} (a b : Option A) : Type 0 where
  pub first : a ≡ None
  pub second : b ≡ None

pub neither : {A : Type 0} (a b : Option A) → or_else a b ≡ None → Neither a b
neither None b h = record { first = refl; second = h }
neither (Some x) b h = absurd cc

pub or_else-none : {A : Type 0} (a b : Option A) → a ≡ None → b ≡ None → or_else a b ≡ None
or_else-none None b p q = q
or_else-none (Some x) b p q = absurd cc

passed : (k : Option FaultKind) (at : ℕ) → fault_of_link k at ≡ None → k ≡ None
passed None at h = refl
passed (Some k) at h = absurd cc

all_among : (check : Check) (at : ℕ) (ls : List Link) → first_among check at ls ≡ None → AllByRecursion (Passes check) ls
all_among check at [] h = tt
all_among check at (l ∷ ls) h =
    let n = neither (fault_of_link (check l) (at + l.behind)) (first_among check at ls) h in
    (passed (check l) (at + l.behind) n.first, all_among check at ls n.second)

pub all_pass : (check : Check) (at : ℕ) (pool : Pool) → first_fault check at pool ≡ None → EachLink (Passes check) pool
all_pass check at [] h = tt
all_pass check at (None ∷ slots) h = all_pass check at slots h
all_pass check at (Some e ∷ slots) h =
    let n = neither (first_among check at (links e)) (first_fault check (at + size e) slots) h in
    (all_among check at (links e) n.first, all_pass check (at + size e) slots n.second)

among_none : (check : Check) (at : ℕ) (ls : List Link) → AllByRecursion (Passes check) ls → first_among check at ls ≡ None
among_none check at [] h = refl
among_none check at (l ∷ ls) h =
    or_else-none (fault_of_link (check l) (at + l.behind)) (first_among check at ls) (ap (λ (k : Option FaultKind). fault_of_link k (at + l.behind)) h.0) (among_none check at ls h.1)

pub no_fault : (check : Check) (at : ℕ) (pool : Pool) → EachLink (Passes check) pool → first_fault check at pool ≡ None
no_fault check at [] h = refl
no_fault check at (None ∷ slots) h = no_fault check at slots h
no_fault check at (Some e ∷ slots) h =
    or_else-none (first_among check at (links e)) (first_fault check (at + size e) slots) (among_none check at (links e) h.0) (no_fault check (at + size e) slots h.1)

-- ---- facts of each index

all_map : {A : Type 0} (P Q : A → Type 0) (xs : List A) → ((x : A) → P x → Q x) → AllByRecursion P xs → AllByRecursion Q xs
all_map P Q [] f h = tt
all_map P Q (x ∷ xs) f h = (f x h.0, all_map P Q xs f h.1)

pub each_map : (P Q : Link → Type 0) (pool : Pool) → ((l : Link) → P l → Q l) → EachLink P pool → EachLink Q pool
each_map P Q [] f h = tt
each_map P Q (None ∷ slots) f h = each_map P Q slots f h
each_map P Q (Some e ∷ slots) f h = (all_map P Q (links e) f h.0, each_map P Q slots f h.1)

all_both : {A : Type 0} (P Q R : A → Type 0) (xs : List A) → ((x : A) → P x → Q x → R x) → AllByRecursion P xs → AllByRecursion Q xs → AllByRecursion R xs
all_both P Q R [] f g h = tt
all_both P Q R (x ∷ xs) f g h = (f x g.0 h.0, all_both P Q R xs f g.1 h.1)

pub each_both : (P Q R : Link → Type 0) (pool : Pool) → ((l : Link) → P l → Q l → R l) → EachLink P pool → EachLink Q pool → EachLink R pool
each_both P Q R [] f g h = tt
each_both P Q R (None ∷ slots) f g h = each_both P Q R slots f g h
each_both P Q R (Some e ∷ slots) f g h = (all_both P Q R (links e) f g.0 h.0, each_both P Q R slots f g.1 h.1)
