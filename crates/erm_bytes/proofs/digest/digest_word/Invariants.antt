use Rattle.std.proofs.Common.{take}
use Rattle.sha2.specs.Hashers.{Holds256}
use Rattle.erm_bytes.specs.Bytes.{bytes_of}
use Rattle.erm_bytes.proofs.digest.digest_word.Given as goal

-- the hasher holds the bytes of the words so far
abbrev pub invariant-loop-word : goal.invariant-loop-word
invariant-loop-word l = Holds256 l.hasher (bytes_of (take l.word-index l.words))
