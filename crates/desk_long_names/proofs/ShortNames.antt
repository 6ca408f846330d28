-- How long the short names are.
use Rattle.std.proofs.Common.{◌≡◌, ◌++◌, ℕ, List, codes, length, take, refl, arith, length-append, length-take-le}
use Rattle.hex.specs.Hex.{encode_lower, lower_digits}
use Rattle.hex.proofs.HexLemmas.{length-encode_with}

-- what is written before 32 digits makes 41 bytes with them
pub short_length : (digest : List ℕ) → length digest ≡ 32 → length (codes ".migrate-" ++ encode_lower (take 16 digest)) ≡ 41
short_length digest whole =
    let taken = length-take-le 16 digest (omega (arith, whole)) in
    let digits = length-encode_with lower_digits (take 16 digest) in
    let front : length (codes ".migrate-") ≡ 9 = refl in
    let both = length-append (codes ".migrate-") (encode_lower (take 16 digest)) in
    omega (arith, taken, digits, front, both)
