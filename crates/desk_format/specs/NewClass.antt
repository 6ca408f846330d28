-- The renamed class, and when there is none.
use Rattle.std.specs.Prelude.{ℕ, suc, ◌+◌, Bool, false, ◌||◌, nat_lt, max, List, [], ◌∷◌, ◌++◌, length, take, drop, Option, Some, None, if◌then◌else◌}
use Rattle.desk_base.specs.Names.{Text}
use Rattle.desk_base.specs.Entries.{Pool, text_at}
use Rattle.desk_base.specs.Misfits.{or_else}
use Rattle.desk_base.specs.declared.kinds.Role.TheVariants as roles
use Rattle.desk_format.specs.declared.members.Member.{Member}
use Rattle.desk_format.specs.Trees.{Tree, uses}
use Rattle.desk_format.specs.Exchange.{Change, exchange, patch}
use Rattle.desk_format.specs.Resolved.{Images, image, resolved, renamed}
use Rattle.desk_format.specs.Values.{Value}
use Rattle.desk_format.specs.PoolBytes.{print_pool}
use Rattle.desk_format.specs.Members.{Named, Twins, first_twins, members}
use Rattle.desk_format.specs.Classes.{Class, class_uses}
use Rattle.desk_format.specs.Split.{Want, wanted}
use Rattle.desk_format.specs.NewPool.{choice, wants, added, new_pool, change_by}

-- ---- the new class

abbrev pub pool_of : Images → Class → Pool
pool_of im c = new_pool im c.pool (class_uses c)

-- the offset behind the new pool, which begins behind magic and versions
abbrev pub new_body_at : Images → Class → ℕ
new_body_at im c = 8 + length (print_pool (pool_of im c))

abbrev pub change_of : Images → Class → Change
change_of im c = change_by (choice im c.pool (class_uses c)) c.body_at (new_body_at im c)

-- the new class: the same versions, the new pool, and the body with its new indices at its new place
abbrev pub new_class : Images → Class → Class
new_class im c = record {
  minor = c.minor;
  major = c.major;
  pool = pool_of im c;
  body_at = new_body_at im c;
  body = exchange (change_of im c) c.body;
}

-- The bytes of the new class: magic and versions as they are, the new pool, and the body with the new index at each use;
-- all other bytes stay.
abbrev pub new_bytes : Images → List ℕ → Class → List ℕ
new_bytes im bytes c = take 8 bytes ++ print_pool (pool_of im c) ++ patch (change_of im c).index c.body_at (uses c.body) (drop c.body_at bytes)

-- ---- what a class says, and what the renamed one says

-- The versions of a class, and its body with each index exchanged for what it leads to.
pub record ResolvedClass : Type 0 where
  pub minor : ℕ
  pub major : ℕ
  pub body : Tree Value

abbrev pub resolved_class : Class → ResolvedClass
resolved_class c = record { minor = c.minor; major = c.major; body = resolved c.pool c.body }

abbrev pub renamed_class : Images → ResolvedClass → ResolvedClass
renamed_class im r = record { minor = r.minor; major = r.major; body = renamed im r.body }

-- ---- refusals

-- overlong: the least index with a wanted text above 65,535 bytes, and the greatest length of a text that it wants.
-- pool_full: the count of the pool, and how many texts are missing.
-- twins: the offsets of two members in the old file.
pub data Refusal : Type 0 where
  overlong : ℕ → ℕ → Refusal
  pool_full : ℕ → ℕ → Refusal
  twins : ℕ → ℕ → Refusal

abbrev pub is_long : Text → Bool
is_long t = nat_lt 65535 (length t)

abbrev pub any_long : List Text → Bool
any_long [] = false
any_long (t ∷ ts) = is_long t || any_long ts

abbrev pub greatest_length : List Text → ℕ
greatest_length [] = 0
greatest_length (t ∷ ts) = max (length t) (greatest_length ts)

-- the first of the indices from i on that wants a text too long
abbrev pub overlong_from : List Want → ℕ → Pool → Option Refusal
overlong_from ws i [] = None
overlong_from ws i (slot ∷ slots) =
    if any_long (wanted i ws) then Some (Refusal.overlong i (greatest_length (wanted i ws)))
    else overlong_from ws (suc i) slots

abbrev pub overlong_in : Images → Class → Option Refusal
overlong_in im c = overlong_from (wants im c.pool (class_uses c)) 1 c.pool

abbrev pub full_at : ℕ → ℕ → Option Refusal
full_at count needed = if nat_lt 65535 (count + needed) then Some (Refusal.pool_full count needed) else None

abbrev pub full_in : Images → Class → Option Refusal
full_in im c = full_at (suc (length c.pool)) (length (added im c.pool (class_uses c)))

-- the texts of a member of the new class
abbrev pub renamed_in : Images → Pool → Member → Named
renamed_in im pool m = record {
  name = image im roles.Plain (text_at pool m.name);
  descriptor = image im roles.Descriptor (text_at pool m.descriptor);
}

abbrev pub twins_refusal : Option Twins → Option Refusal
twins_refusal None = None
twins_refusal (Some t) = Some (Refusal.twins t.first.at t.second.at)

abbrev pub twins_of : Images → Class → Option Refusal
twins_of im c = twins_refusal (first_twins (renamed_in im c.pool) (members c.body))

-- the first of the three that stands
abbrev pub refusal : Images → Class → Option Refusal
refusal im c = or_else (overlong_in im c) (or_else (full_in im c) (twins_of im c))
