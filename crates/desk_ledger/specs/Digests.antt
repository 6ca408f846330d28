-- Digests by SHA-256 (FIPS 180-4), of bytes at once and of bytes part by part.
use Rattle.desk_base.specs.Names.{Text}
use Rattle.sha2.specs.Sha256.{sha256}
use Rattle.sha2.specs.Hashers.{Holds256}
use Rattle.sha2.specs.declared.Sha256.{Sha256}
use Rattle.desk_ledger.specs.declared.digest.Digest.{Digest}

-- the digest of bytes
abbrev pub digest : Text → Digest
digest bytes = record { 0 = sha256 bytes }

-- the parts that were handed in so far join to these bytes
abbrev pub HasTaken : Sha256 → Text → Type 0
HasTaken = Holds256
