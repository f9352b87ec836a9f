-- Going over the blocks of a log one by one.
use Rattle.std.proofs.Common.{◌≡◌, ℕ, ◌+◌, ◌-◌, ◌<◌, ◌≤◌, List, [], ◌∷◌, ◌++◌, length, take, drop, Option, Some, None, refl, sym, ap, ◌∙◌, subst, arith, append_assoc, append-nil}
use Rattle.std.specs.List.{flat_map}
use Rattle.std.specs.Prelude.{IfSome}
use Rattle.std.proofs.Math.Seq.{take-append-add}
use Rattle.erm_block.specs.declared.block.Block.{Block}
use Rattle.erm_block.specs.declared.block.TheConstants.{BLOCK_WORDS}
use Rattle.erm_block.specs.Block.{IsBlock}
use Rattle.erm_block.specs.Spelling.{StandsAt, spelling}
use Rattle.erm_block.specs.LogList.{IsChain}
use Rattle.erm_ckpt.specs.Recovered.{State, end_at, state_behind}
use Rattle.erm_log_words.specs.Words.{log_words}
use Rattle.erm_log_words.proofs.LogWords.{drop-log_words}
use Rattle.erm_node.specs.Sound.{sound_law}
use Rattle.erm_outside.specs.Disk.{Image, Step, contents}
use Rattle.erm_recover.specs.declared.tail.Tail.{Tail}
use Rattle.erm_recover.specs.Lists.{end_in}
use Rattle.erm_recover.proofs.Chains.{state_after, state_behind-low}
use Rattle.erm_log.specs.Texts.{block_text}
use Rattle.erm_log.specs.Listed.{AddsChain}

-- From here blocks lead to the end, and with their texts the whole is told.
pub record IsRest (image : Image) (tail : Tail) (end : ℕ) (whole now : List ℕ) : Type 0 where
  pub state : State
  pub blocks : List Block
  pub chain : IsChain sound_law.meets (end_at image state) blocks
  pub at : state.at ≡ tail.at
  pub run : state.run ≡ tail.run
  pub ends : (state_behind state blocks).at ≡ end
  pub text : whole ≡ now ++ flat_map block_text blocks

-- of each chain from the start to the end the rest leads on from here
abbrev pub WalksOn : Image → Tail → Tail → ℕ → List ℕ → List ℕ → Type 0
WalksOn image start tail end old now = (state : State) (blocks : List Block) → IsChain sound_law.meets (end_at image state) blocks
    → state.at ≡ start.at → state.run ≡ start.run → (state_behind state blocks).at ≡ end
    → IsRest image tail end (old ++ flat_map block_text blocks) now

-- before the first block
walks_start : (image : Image) (start : Tail) (end : ℕ) (old : List ℕ) → WalksOn image start start end old old
walks_start image start end old state blocks chain at run ends =
    record { state = state; blocks = blocks; chain = chain; at = at; run = run; ends = ends; text = refl }

module _
    (size : (block : Block) (at run : ℕ) → IsBlock block at run → length (spelling block) ≡ block.size)
    (most : (block : Block) (at run : ℕ) → IsBlock block at run → block.size ≤ BLOCK_WORDS) where
  -- a block that stands in words stands in a front of them that has room for it
  stands_front : (n : ℕ) (words : List ℕ) (block : Block) (at run : ℕ) → BLOCK_WORDS ≤ n → StandsAt words block at run → StandsAt (take n words) block at run
  stands_front n words block at run room stands =
      let spelled = stands.spelled in
      let few = most block at run stands.is in
      let count : length (spelling block) ≡ block.size = size block at run stands.is in
      let sum : n ≡ length (spelling block) + (n - block.size) = omega arith in
      record {
        is = stands.is;
        spelled = (
          take (n - block.size) spelled.0,
          ap (λ (ws : List ℕ). take n ws) spelled.1 ∙ ap (λ (k : ℕ). take k (spelling block ++ spelled.0)) sum ∙ take-append-add (spelling block) spelled.0 (n - block.size),
        );
      }

  -- what reading one block answers: the block that stands there, if one does
  abbrev Answers : List ℕ → Tail → Option Tail → List ℕ → List ℕ → Type 0
  Answers words tail found now after = (block : Block) → StandsAt words block tail.at tail.run
      → (found ≡ Some (record { at = tail.at + block.size; run = block.run })) × (after ≡ now ++ block_text block)

  step_by : (image : Image) (tail next : Tail) (end n : ℕ) (whole now after words : List ℕ) (found : Option Tail) (state : State) (blocks : List Block)
      → tail.at < end → BLOCK_WORDS ≤ n → words ≡ take n (log_words image tail.at) → Answers words tail found now after → found ≡ Some next
      → IsChain sound_law.meets (end_at image state) blocks → state.at ≡ tail.at → state.run ≡ tail.run → (state_behind state blocks).at ≡ end
      → whole ≡ now ++ flat_map block_text blocks → IsRest image next end whole after
  step_by image tail next end n whole now after words found state [] low room read answers is chain at run ends text = absurd (omega (arith, low, at, ends))
  step_by image tail next end n whole now after words found state (b ∷ bs) low room read answers is (first, others) at run ends text =
      let spelled = first.stands.spelled in
      let here : StandsAt (log_words image tail.at) b tail.at tail.run =
      subst (λ (p : ℕ). StandsAt (log_words image p) b p tail.run) at (subst (λ (r : ℕ). StandsAt (log_words image state.at) b state.at r) run first.stands)
      in
      let stands : StandsAt words b tail.at tail.run =
      subst (λ (ws : List ℕ). StandsAt ws b tail.at tail.run) (sym read) (stands_front n (log_words image tail.at) b tail.at tail.run room here)
      in
      let told = answers b stands in
      let goes : Some (let t : Tail = record { at = tail.at + b.size; run = b.run } in t) ≡ Some next = sym told.0 ∙ is in
      let next_is : (let t : Tail = record { at = tail.at + b.size; run = b.run } in t) ≡ next = cc in
      let behind : drop b.size (log_words image state.at) ≡ log_words image (state.at + b.size) =
      drop-log_words image state.at b.size (spelling b) spelled.0 spelled.1 (size b state.at state.run first.stands.is) first.stands.is.end
      in
      record {
        state = state_after b state;
        blocks = bs;
        chain = subst (λ (ws : List ℕ). IsChain sound_law.meets (end_in ws (state_after b state)) bs) behind others;
        at = ap (λ (p : ℕ). p + b.size) at ∙ ap (λ (t : Tail). t.at) next_is;
        run = ap (λ (t : Tail). t.run) next_is;
        ends = ends;
        text = text ∙ sym (append_assoc now (block_text b) (flat_map block_text bs)) ∙ ap (λ (t : List ℕ). t ++ flat_map block_text bs) (sym told.1);
      }

  -- one block more
  pub step_on : (told other : Option (List Step)) (start tail next : Tail) (end n : ℕ) (old now after words : List ℕ) (found : Option Tail) → other ≡ told
      → tail.at < end → BLOCK_WORDS ≤ n → IfSome other (λ steps. words ≡ take n (log_words (contents steps) tail.at)) → Answers words tail found now after → found ≡ Some next
      → IfSome told (λ steps. WalksOn (contents steps) start tail end old now) → IfSome told (λ steps. WalksOn (contents steps) start next end old after)
  step_on None other start tail next end n old now after words found same low room read answers is walks = tt
  step_on (Some steps) other start tail next end n old now after words found same low room read answers is walks = λ state blocks chain at run ends.
      let rest = walks state blocks chain at run ends in
      let reads = subst (λ (t : Option (List Step)). IfSome t (λ steps. words ≡ take n (log_words (contents steps) tail.at))) same read in
      step_by (contents steps) tail next end n (old ++ flat_map block_text blocks) now after words found rest.state rest.blocks low room reads answers is rest.chain rest.at rest.run rest.ends rest.text

  end_by : (image : Image) (tail : Tail) (end : ℕ) (whole now : List ℕ) (state : State) (blocks : List Block) → end ≤ tail.at
      → IsChain sound_law.meets (end_at image state) blocks → state.at ≡ tail.at → (state_behind state blocks).at ≡ end → whole ≡ now ++ flat_map block_text blocks → now ≡ whole
  end_by image tail end whole now state [] high chain at ends text = sym (append-nil now) ∙ sym text
  end_by image tail end whole now state (b ∷ bs) high (first, others) at ends text =
      absurd (omega (arith, high, at, ends, state_behind-low (state_after b state) bs, some_words))
    where
      some_words : 0 < b.size
      some_words = omega (arith, size b state.at state.run first.stands.is)

  -- at the end all is told
  pub all_told : (told : Option (List Step)) (start tail : Tail) (end : ℕ) (old now : List ℕ) → end ≤ tail.at
      → IfSome told (λ steps. WalksOn (contents steps) start tail end old now) → IfSome told (λ steps. AddsChain (contents steps) start end old now)
  all_told None start tail end old now high walks = tt
  all_told (Some steps) start tail end old now high walks = λ state blocks chain at run ends.
      let rest = walks state blocks chain at run ends in
      end_by (contents steps) tail end (old ++ flat_map block_text blocks) now rest.state rest.blocks high rest.chain rest.at rest.ends rest.text

-- nothing is told yet
pub told_start : (told : Option (List Step)) (start : Tail) (end : ℕ) (old : List ℕ) → IfSome told (λ steps. WalksOn (contents steps) start start end old old)
told_start None start end old = tt
told_start (Some steps) start end old = walks_start (contents steps) start end old
