-- Chains of blocks in words and in images.
use Rattle.std.proofs.Common.{◌≡◌, ℕ, ◌+◌, ◌-◌, ◌<◌, ◌≤◌, List, [], ◌∷◌, ◌++◌, length, take, drop, refl, sym, ap, ◌∙◌, subst, arith, append_assoc, length-append}
use Rattle.std.proofs.lemmas.List.{drop-drop, drop-append-le, take-append-drop}
use Rattle.std.proofs.Math.Seq.{take-append-add}
use Rattle.erm_model.specs.Rows.{Rows}
use Rattle.erm_model.specs.declared.history.Commit.{Commit}
use Rattle.erm_block.specs.declared.block.Block.{Block}
use Rattle.erm_block.specs.declared.block.TheConstants.{BLOCK_WORDS}
use Rattle.erm_block.specs.Block.{IsBlock}
use Rattle.erm_block.specs.Spelling.{spelling}
use Rattle.erm_block.specs.LogList.{Continues, End, IsChain, end_after, end_of, rows_after_block}
use Rattle.erm_log_words.specs.Words.{log_words}
use Rattle.erm_log_words.proofs.LogWords.{drop-log_words}
use Rattle.erm_outside.specs.Disk.{Image}
use Rattle.erm_ckpt.specs.Recovered.{State, end_at, state_behind}
use Rattle.erm_recover.specs.Lists.{Stops, commits_in, commits_of, end_in}

-- the state after a block
abbrev pub state_after : Block → State → State
state_after block state = record { at = state.at + block.size; run = block.run; rows = rows_after_block block state.rows }

-- ---- states and commits behind blocks

pub state_behind-append : (s : State) (xs ys : List Block) → state_behind s (xs ++ ys) ≡ state_behind (state_behind s xs) ys
state_behind-append s [] ys = refl
state_behind-append s (x ∷ xs) ys = state_behind-append (state_after x s) xs ys

pub state_behind-low : (s : State) (xs : List Block) → s.at ≤ (state_behind s xs).at
state_behind-low s [] = omega arith
state_behind-low s (x ∷ xs) = omega (arith, state_behind-low (state_after x s) xs)

pub commits_of-append : (xs ys : List Block) → commits_of (xs ++ ys) ≡ commits_of xs ++ commits_of ys
commits_of-append [] ys = refl
commits_of-append (x ∷ xs) ys = ap (λ (cs : List Commit). commits_in x ++ cs) (commits_of-append xs ys) ∙ sym (append_assoc (commits_in x) (commits_of xs) (commits_of ys))

-- ---- chains

-- the end of blocks in words
pub end_of-words : (words : List ℕ) (s : State) (xs : List Block) → end_of (end_in words s) xs ≡ end_in (drop ((state_behind s xs).at - s.at) words) (state_behind s xs)
end_of-words words s [] = ap (λ (n : ℕ). end_in (drop n words) s) (let e : 0 ≡ s.at - s.at = omega arith in e)
end_of-words words s (x ∷ xs) =
    let behind : State = state_behind (state_after x s) xs in
    let low : s.at + x.size ≤ behind.at = state_behind-low (state_after x s) xs in
    let sum : x.size + (behind.at - (s.at + x.size)) ≡ behind.at - s.at = omega arith in
    end_of-words (drop x.size words) (state_after x s) xs
    ∙ ap (λ (ws : List ℕ). end_in ws behind) (drop-drop (behind.at - (s.at + x.size)) x.size words ∙ ap (λ (n : ℕ). drop n words) sum)

pub IsChain-append : (sound : Rows → Type 0) (end : End) (xs ys : List Block) → IsChain sound end xs → IsChain sound (end_of end xs) ys → IsChain sound end (xs ++ ys)
IsChain-append sound end [] ys chain behind = behind
IsChain-append sound end (x ∷ xs) ys (first, chain) behind = (first, IsChain-append sound (end_after x end) xs ys chain behind)

-- words behind those of an end
abbrev longer : End → List ℕ → End
longer end more = record { words = end.words ++ more; at = end.at; run = end.run; rows = end.rows }

module _
    (size : (block : Block) (at run : ℕ) → IsBlock block at run → length (spelling block) ≡ block.size)
    (most : (block : Block) (at run : ℕ) → IsBlock block at run → block.size ≤ BLOCK_WORDS)
    (sound : Rows → Type 0) where
  -- a block has words
  size_some : (block : Block) (at run : ℕ) → IsBlock block at run → 0 < block.size
  size_some block at run is = omega (arith, size block at run is)

  -- a block that stands takes no more words than there are
  size_there : (words : List ℕ) (s : State) (block : Block) → Continues sound (end_in words s) block → block.size ≤ length words
  size_there words s block next =
      let spelled = next.stands.spelled in
      omega (arith, size block s.at s.run next.stands.is, ap length spelled.1, length-append (spelling block) spelled.0)

  -- where the place is as before, no block was taken
  pub no_blocks : (words : List ℕ) (s : State) (xs : List Block) → IsChain sound (end_in words s) xs → (state_behind s xs).at ≡ s.at → xs ≡ []
  no_blocks words s [] chain same = refl
  no_blocks words s (x ∷ xs) (first, chain) same =
      absurd (omega (arith, same, size_some x s.at s.run first.stands.is, state_behind-low (state_after x s) xs))

  -- what goes on from a front of words goes on from them
  next_longer : (words more : List ℕ) (s : State) (block : Block) → Continues sound (end_in words s) block → Continues sound (end_in (words ++ more) s) block
  next_longer words more s block next =
      let spelled = next.stands.spelled in
      record {
        stands = record { is = next.stands.is; spelled = (spelled.0 ++ more, ap (λ (ws : List ℕ). ws ++ more) spelled.1 ∙ append_assoc (spelling block) spelled.0 more) };
        rows = next.rows;
      }

  chain_longer : (words more : List ℕ) (s : State) (xs : List Block) → IsChain sound (end_in words s) xs → IsChain sound (end_in (words ++ more) s) xs
  chain_longer words more s [] chain = tt
  chain_longer words more s (x ∷ xs) (first, chain) =
      let there = size_there words s x first in
      let rest = chain_longer (drop x.size words) more (state_after x s) xs chain in
      (next_longer words more s x first, subst (λ (ws : List ℕ). IsChain sound (end_in ws (state_after x s)) xs) (sym (drop-append-le x.size words more there)) rest)

  -- a chain in a front of words is one in them
  pub chain_front : (n : ℕ) (words : List ℕ) (s : State) (xs : List Block) → IsChain sound (end_in (take n words) s) xs → IsChain sound (end_in words s) xs
  chain_front n words s xs chain =
      subst (λ (ws : List ℕ). IsChain sound (end_in ws s) xs) (take-append-drop n words) (chain_longer (take n words) (drop n words) s xs chain)

  -- where a front has room for a block and none goes on in it, none goes on
  pub stops_front : (n : ℕ) (words : List ℕ) (s : State) → BLOCK_WORDS ≤ n → Stops sound (end_in (take n words) s) → Stops sound (end_in words s)
  stops_front n words s room stops block next =
      let spelled = next.stands.spelled in
      let few = most block s.at s.run next.stands.is in
      let count : length (spelling block) ≡ block.size = size block s.at s.run next.stands.is in
      let sum : n ≡ length (spelling block) + (n - block.size) = omega arith in
      let front : take n words ≡ spelling block ++ take (n - block.size) spelled.0 =
      ap (λ (ws : List ℕ). take n ws) spelled.1 ∙ ap (λ (k : ℕ). take k (spelling block ++ spelled.0)) sum ∙ take-append-add (spelling block) spelled.0 (n - block.size)
      in
      stops block (record { stands = record { is = next.stands.is; spelled = (take (n - block.size) spelled.0, front) }; rows = next.rows })

  -- the end of a chain of an image
  pub end_of-image : (image : Image) (s : State) (xs : List Block) → IsChain sound (end_at image s) xs → end_of (end_at image s) xs ≡ end_at image (state_behind s xs)
  end_of-image image s [] chain = refl
  end_of-image image s (x ∷ xs) (first, chain) =
      let spelled = first.stands.spelled in
      let behind : drop x.size (log_words image s.at) ≡ log_words image (s.at + x.size) =
      drop-log_words image s.at x.size (spelling x) spelled.0 spelled.1 (size x s.at s.run first.stands.is) first.stands.is.end
      in
      let moved = subst (λ (ws : List ℕ). IsChain sound (end_in ws (state_after x s)) xs) behind chain in
      ap (λ (ws : List ℕ). end_of (end_in ws (state_after x s)) xs) behind ∙ end_of-image image (state_after x s) xs moved
