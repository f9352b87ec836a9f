-- The digest of words.
use Rattle.std.specs.Prelude.{ℕ, List, take}
use Rattle.std.specs.Int.{w64, from_le_bytes}
use Rattle.sha2.specs.Sha256.{sha256}
use Rattle.erm_bytes.specs.Bytes.{bytes_of}

-- the first eight bytes of the SHA-256 of the words' bytes, read as one word, the least byte first (FIPS 180-4)
unfoldable pub digest_of : List ℕ → ℕ
digest_of words = from_le_bytes w64 (take 8 (sha256 (bytes_of words)))
