-- The bodies of two classes, walked along at once: a walk goes on in both as the left one is laid out, and ends at a difference.
use Rattle.std.specs.Prelude.{ℕ, Bool, ◌&&◌, ◌==◌, nat_le, List, length, take, drop, Option, Some, None, option_map, if◌then◌else◌}
use Rattle.std.specs.Int.{Width, w16, byte_len, from_be_bytes}
use Rattle.std.specs.Str.{bytes_eq}
use Rattle.desk_base.specs.declared.kinds.UseKind.{UseKind}
use Rattle.desk_base.specs.Entries.{Pool, text_at}
use Rattle.desk_parts.specs.Steps.{Steps}
use Rattle.desk_compare.specs.Values.{same_of_kind}
use Rattle.desk_compare.specs.Known.{TwoPools}
use Rattle.desk_compare.specs.Codes.{same_code}

-- what is left of both
pub record Pair : Type 0 where
  pub left : List ℕ
  pub right : List ℕ

abbrev pub pair : List ℕ → List ℕ → Pair
pair s t = record { left = s; right = t }

-- so many bytes of each, which pass a test of two
abbrev pub bytes_by : ℕ → (List ℕ → List ℕ → Bool) → Pair → Option Pair
bytes_by n test p =
    if nat_le n (length p.left) && nat_le n (length p.right) && test (take n p.left) (take n p.right) then Some (pair (drop n p.left) (drop n p.right)) else None

-- the number in front of the left body
abbrev pub ahead : Width → Pair → ℕ
ahead w p = from_be_bytes w (take (byte_len w) p.left)

-- into so many bytes of the left body
abbrev pub enter_by : ℕ → Pair → Option Pair
enter_by n p = if nat_le n (length p.left) then Some (pair (take n p.left) p.right) else None

-- on behind the left body, of which nothing is left
abbrev pub leave_by : List ℕ → Pair → Option Pair
leave_by behind p = if length p.left == 0 then Some (pair behind p.right) else None

-- How two bodies are compared where they aren't compared by their bytes: two indices of a use kind, and two code arrays. The names
-- of attributes are those of the pool of the left one.
pub record Tests : Type 0 where
  pub pool : Pool
  pub index : UseKind → ℕ → ℕ → Bool
  pub code : List ℕ → List ℕ → Bool

abbrev pub comparing : Tests → Steps Pair
comparing by = record {
  bytes = λ n p. bytes_by n bytes_eq p;
  ahead = ahead;
  index = λ kind p. bytes_by 2 (λ s t. by.index kind (from_be_bytes w16 s) (from_be_bytes w16 t)) p;
  code = λ n p. bytes_by n by.code p;
  name = λ p. text_at by.pool (ahead w16 p);
  enter = λ n p. if nat_le n (length p.left) then Some (pair (take n p.left) p.right) else None;
  behind = λ n p. record { at = 0; left = drop n p.left };
  leave = λ spot p. if length p.left == 0 then Some (pair spot.left p.right) else None;
  member = λ p. p;
}

-- over the pools of both classes
abbrev pub two_pools : Pool → Pool → Tests
two_pools left right = record { pool = left; index = same_of_kind left right; code = same_code left right }

-- what is left of both, with the pools of both classes
pub record Place : Type 0 where
  pub bodies : Pair
  pub pools : TwoPools

abbrev pub place : TwoPools → Pair → Place
place pools p = record { bodies = p; pools = pools }

-- how two bodies are compared at a place
abbrev pub tests_at : Place → Steps Pair
tests_at p = comparing (two_pools p.pools.left p.pools.right)

-- the same walk over such places, which keep their pools
abbrev pub comparing_at : Steps Place
comparing_at = record {
  bytes = λ n p. option_map (place p.pools) ((tests_at p).bytes n p.bodies);
  ahead = λ w p. (tests_at p).ahead w p.bodies;
  index = λ kind p. option_map (place p.pools) ((tests_at p).index kind p.bodies);
  code = λ n p. option_map (place p.pools) ((tests_at p).code n p.bodies);
  name = λ p. (tests_at p).name p.bodies;
  enter = λ n p. option_map (place p.pools) ((tests_at p).enter n p.bodies);
  behind = λ n p. (tests_at p).behind n p.bodies;
  leave = λ spot p. option_map (place p.pools) ((tests_at p).leave spot p.bodies);
  member = λ p. p;
}
