-- What stands at the front once a block's words were laid out.
use Rattle.std.proofs.Common.{◌≡◌, ℕ, ◌+◌, ◌-◌, ◌≤◌, List, [], ◌∷◌, ◌++◌, length, set, take, drop, sym, ap, ◌∙◌, arith}
use Rattle.erm_bytes.specs.Digest.{digest_of}
use Rattle.erm_record.specs.Stored.{stored_length}
use Rattle.erm_block.specs.declared.block.Block.{Block}
use Rattle.erm_block.specs.Block.{IsBlock}
use Rattle.erm_block.specs.Spelling.{header_word, name_word, payload_of, body_of, spelling}
use Rattle.erm_block.proofs.Payload.{length-payload_of}
use Rattle.erm_block.proofs.Frame.{laid, framed}

-- The front is the block's spelling, and what is behind stays.
pub record IsEncoded (block : Block) (out now : List ℕ) : Type 0 where
  pub spelled : take block.size now ≡ spelling block
  pub kept : drop block.size now ≡ drop block.size out

-- the words, the digest of those before it among them, are laid out
pub encoded : ((row : List ℕ) → stored_length row ≤ length row) → (block : Block) (at run_before : ℕ) (out payload : List ℕ) (h m d size : ℕ) → IsBlock block at run_before → block.size ≤ length out → size ≡ block.size
    → h ≡ header_word block.kind block.size block.run → m ≡ name_word block.seat block.n block.number → payload ≡ payload_of block.kind block
    → d ≡ digest_of (take (size - 1) (laid out h block.stamp block.succ m (size - 1 - 4) payload))
    → IsEncoded block out (set (laid out h block.stamp block.succ m (size - 1 - 4) payload) (size - 1) d)
encoded short block at run_before out payload h m d size is room sized header name paid digest =
    let now : List ℕ = set (laid out h block.stamp block.succ m (size - 1 - 4) payload) (size - 1) d in
    let len : length payload + 5 ≡ size = omega (arith, length-payload_of short block.kind block run_before is.rules, ap length paid) in
    let f = framed out h block.stamp block.succ m d size payload len (omega arith) in
    let body : (h ∷ block.stamp ∷ block.succ ∷ m ∷ payload) ≡ body_of block = cc in
    let last : d ≡ digest_of (body_of block) = digest ∙ ap digest_of (f.body_is ∙ body) in
    record {
      spelled = ap (λ (n : ℕ). take n now) (sym sized) ∙ f.whole ∙ ap (λ (front : List ℕ). front ++ d ∷ []) body ∙ ap (λ (w : ℕ). body_of block ++ w ∷ []) last;
      kept = ap (λ (n : ℕ). drop n now) (sym sized) ∙ f.behind ∙ ap (λ (n : ℕ). drop n out) sized;
    }
