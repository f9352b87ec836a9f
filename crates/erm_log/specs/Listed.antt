-- The text of a disk's log.
use Rattle.std.specs.Prelude.{◌≡◌, ℕ, List, ◌++◌, Option, IfSome}
use Rattle.std.specs.List.{flat_map}
use Rattle.erm_block.specs.declared.block.Block.{Block}
use Rattle.erm_block.specs.LogList.{IsChain}
use Rattle.erm_ckpt.specs.Recovered.{Pair, Recovers, State, base, end_at, state_behind}
use Rattle.erm_node.specs.Sound.{sound_law}
use Rattle.erm_outside.specs.Disk.{Image, Step, contents}
use Rattle.erm_recover.specs.declared.tail.Tail.{Tail}
use Rattle.erm_outside.specs.Sink.{Puts}
use Rattle.erm_log.specs.declared.behind.Behind.{Behind}
use Rattle.erm_log.specs.declared.behind.Behind.TheVariants.{Nothing, Noise, Stands}
use Rattle.erm_log.specs.Behind.{LiesBehind, words_behind}
use Rattle.erm_log.specs.Texts.{block_text, log_text}

-- Of each chain of blocks that leads from one place to another in the log of an image the texts were added.
abbrev pub AddsChain : Image → Tail → ℕ → List ℕ → List ℕ → Type 0
AddsChain image start end old new = (state : State) (blocks : List Block) → IsChain sound_law.meets (end_at image state) blocks
    → state.at ≡ start.at → state.run ≡ start.run → (state_behind state blocks).at ≡ end → new ≡ old ++ flat_map block_text blocks

-- The text of an image's log: what the image recovers to is the best of these checkpoints and then these blocks, which are its log list;
-- the text has them one by one, the place behind them, and what lies there.
pub record IsLogText (image : Image) (text : List ℕ) (behind : Behind) : Type 0 where
  pub pair : Pair
  pub blocks : List Block
  pub recovers : Recovers sound_law.meets image pair blocks
  pub lies : LiesBehind (words_behind image (state_behind (base pair) blocks).at) (state_behind (base pair) blocks).at behind
  pub text_is : text ≡ log_text (base pair) blocks (state_behind (base pair) blocks) behind

-- the same, as far as the disk tells
abbrev pub TextTold : Option (List Step) → List ℕ → Behind → Type 0
TextTold told text behind = IfSome told (λ steps. IsLogText (contents steps) text behind)

-- the status that says what lies behind
abbrev pub status_of : Behind → ℕ
status_of Nothing = 0
status_of (Noise count) = 0
status_of (Stands at run) = 1

-- the text of an image's log was put, and the status says what lies behind
pub record ShowsLog (image : Image) (status : ℕ) (before after : Option (List ℕ)) : Type 0 where
  pub text : List ℕ
  pub behind : Behind
  pub is : IsLogText image text behind
  pub puts : Puts text before after
  pub status_is : status ≡ status_of behind
