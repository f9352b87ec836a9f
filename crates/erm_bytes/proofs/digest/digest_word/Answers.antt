use Rattle.std.proofs.Common.{◌≤◌, length, take, sym, ap, ◌∙◌, arith}
use Rattle.std.proofs.lemmas.List.{take_all}
use Rattle.std.specs.Int.{w64, from_le_bytes}
use Rattle.sha2.specs.Sha256.{sha256}
use Rattle.erm_bytes.specs.Bytes.{bytes_of}
use Rattle.erm_bytes.specs.Digest.{digest_of}
use Rattle.erm_bytes.proofs.Words.{from_le_bytes-take}
use Rattle.erm_bytes.proofs.digest.digest_word.Goals as goal

pub returns : goal.returns
unfolding digest_of
returns c =
    let words = c.args.words.now in
    let done : length words ≤ c.loop-word.word-index = omega arith in
    let hashed = c.finalize.ensures (bytes_of (take c.loop-word.word-index words)) c.loop-word.invariant in
    c.read_u64.ensures ∙ sym (from_le_bytes-take c.finalize.result) ∙ ap (λ digest. from_le_bytes w64 (take 8 digest)) (hashed ∙ ap (λ ws. sha256 (bytes_of ws)) (take_all c.loop-word.word-index words done))
