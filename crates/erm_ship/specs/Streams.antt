-- The stream of a disk's log: the checkpoint that recovery begins with, and then the blocks of the log list.
use Rattle.std.specs.Prelude.{◌≡◌, ℕ, List, [], ◌∷◌, ◌++◌, Option, None, Some, IfSome, map}
use Rattle.std.specs.List.{flat_map}
use Rattle.erm_bytes.specs.Bytes.{bytes_of}
use Rattle.erm_block.specs.declared.block.Block.{Block}
use Rattle.erm_block.specs.declared.block.Form.TheVariants.{Stored}
use Rattle.erm_ckpt.specs.Checkpoint.{Checkpoint}
use Rattle.erm_ckpt.specs.Recovered.{Pair, Recovers, best}
use Rattle.erm_node.specs.Sound.{sound_law}
use Rattle.erm_outside.specs.Disk.{Image, Step, contents}
use Rattle.erm_replica.specs.Cuts.{Drains}
use Rattle.erm_replica.specs.Stream.{Part, Streamed, fed, part_words, start, start_checkpoint}
use Rattle.erm_replica.specs.Stream.Part.{base, block}

-- The checkpoint in front of a stream: one with the same place, run and rows, in format 2 and with no segment to remove; where there is none
-- that of the start of the log.
abbrev pub shipped : Option Checkpoint → Checkpoint
shipped None = start_checkpoint
shipped (Some c) = record { form = Stored; slot = record { stamp = c.slot.stamp; run = c.slot.run; first = 0 }; entries = c.entries }

-- a checkpoint, and then blocks
abbrev pub stream_parts : Checkpoint → List Block → List Part
stream_parts checkpoint blocks = base checkpoint ∷ map block blocks

-- Bytes are the words of parts. A reader that is fed with them takes these parts, one after another, and nothing is left.
pub record Spells (parts : List Part) (bytes : List ℕ) : Type 0 where
  pub bytes_are : bytes ≡ bytes_of (flat_map part_words parts)
  pub behind : Streamed
  pub drains : Drains (fed start bytes) parts behind
  pub all : behind.rest ≡ []

-- an image recovers to a checkpoint and then these blocks, and this is the checkpoint in front of its stream
pub record Recovered (image : Image) (checkpoint : Checkpoint) (blocks : List Block) : Type 0 where
  pub pair : Pair
  pub recovers : Recovers sound_law.meets image pair blocks
  pub checkpoint_is : checkpoint ≡ shipped (best pair)

-- Bytes are a stream. As far as a disk tells they are that of what it recovers to.
pub record IsStream (told : Option (List Step)) (bytes : List ℕ) : Type 0 where
  pub checkpoint : Checkpoint
  pub blocks : List Block
  pub spells : Spells (stream_parts checkpoint blocks) bytes
  pub recovers : IfSome told (λ steps. Recovered (contents steps) checkpoint blocks)

-- The same of a stream's front, which may lack blocks at the end.
pub record IsFront (told : Option (List Step)) (bytes : List ℕ) : Type 0 where
  pub checkpoint : Checkpoint
  pub blocks : List Block
  pub spells : Spells (stream_parts checkpoint blocks) bytes
  pub recovers : IfSome told (λ steps. (rest : List Block) × Recovered (contents steps) checkpoint (blocks ++ rest))
