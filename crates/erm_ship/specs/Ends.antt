-- What each status of shipping means.
use Rattle.std.specs.Prelude.{◌≡◌, ◌≢◌, ℕ, ◌⊎◌, List, [], ◌++◌, Option, None}
use Rattle.erm_node.specs.Sound.{sound_law}
use Rattle.erm_outside.specs.Disk.{Step}
use Rattle.erm_outside.specs.Faults.{Rose}
use Rattle.erm_outside.specs.Sink.{Puts, PutsFront}
use Rattle.erm_recover.specs.Recovering.{NoBaseTold}
use Rattle.erm_report.specs.Texts.{line_text}
use Rattle.erm_report.specs.declared.line.Line.TheVariants as line
use Rattle.erm_ship.specs.Streams.{IsFront, IsStream}
use Rattle.erm_ship.specs.declared.stop.ShipStop.{ShipStop}
use Rattle.erm_ship.specs.declared.stop.ShipStop.TheVariants as stop

-- what a disk and a sink tell before and after, and how often each has failed
pub record Around : Type 0 where
  pub told_before : Option (List Step)
  pub told_after : Option (List Step)
  pub disk_before : ℕ
  pub disk_after : ℕ
  pub written_before : Option (List ℕ)
  pub written_after : Option (List ℕ)
  pub sink_before : ℕ
  pub sink_after : ℕ

-- a text was put, or its front, and then the sink failed
abbrev pub PrintsTo : List ℕ → Option (List ℕ) → Option (List ℕ) → ℕ → ℕ → Type 0
PrintsTo text before after faults now = (Puts text before after × (now ≡ faults)) ⊎ (PutsFront text before after × Rose faults now)

-- nothing, or the front of the stream
abbrev pub MayBeFront : Option (List Step) → List ℕ → Type 0
MayBeFront told text = (text ≡ []) ⊎ IsFront told text

-- the whole stream was put
pub record Shipped (told : Option (List Step)) (before after : Option (List ℕ)) : Type 0 where
  pub text : List ℕ
  pub is : IsStream told text
  pub puts : Puts text before after

-- some of its bytes were put
pub record CutBySink (told : Option (List Step)) (before after : Option (List ℕ)) : Type 0 where
  pub text : List ℕ
  pub front : IsFront told text
  pub puts : PutsFront text before after

-- the disk failed, or it doesn't tell, and may have read otherwise a moment later
abbrev pub FailedToRead : Option (List Step) → ℕ → ℕ → Type 0
FailedToRead told before after = Rose before after ⊎ (told ≡ None)

-- what each status means: 0 comes only where all bytes of the stream were put
pub record ShipEnds (status : ℕ) (a : Around) : Type 0 where
  pub known : (status ≡ 0) ⊎ (status ≡ 5) ⊎ (status ≡ 6) ⊎ (status ≡ 7) ⊎ (status ≡ 8)
  pub success : status ≡ 0 → Shipped a.told_before a.written_before a.written_after
  pub sink_fault : status ≡ 5 → Rose a.sink_before a.sink_after × CutBySink a.told_before a.written_before a.written_after
  pub disk_fault : status ≡ 6 → FailedToRead a.told_before a.disk_before a.disk_after
      × ((text : List ℕ) × MayBeFront a.told_before text × PrintsTo (text ++ line_text line.DiskFault) a.written_before a.written_after a.sink_before a.sink_after)
  pub no_base : status ≡ 7 → NoBaseTold sound_law.meets a.told_before
      × PrintsTo (line_text line.NoBase) a.written_before a.written_after a.sink_before a.sink_after
  pub no_memory : status ≡ 8 → PrintsTo (line_text line.NoMemory) a.written_before a.written_after a.sink_before a.sink_after
  -- The disk stays as it was.
  pub still : a.told_after ≡ a.told_before
  pub disk_sound : status ≢ 6 → a.disk_after ≡ a.disk_before
  pub sink_sound : status ≡ 0 → a.sink_after ≡ a.sink_before

-- Why no more of a stream was put, before that is told: a front of it was put and the sink failed; nothing or a front was put, and the disk failed;
-- or nothing was put.
abbrev pub Stopped : ShipStop → Option (List Step) → ℕ → ℕ → Option (List ℕ) → Option (List ℕ) → ℕ → ℕ → Type 0
Stopped stop.SinkFault told disk disk_now before after sink sink_now = Rose sink sink_now × CutBySink told before after
Stopped stop.DiskFault told disk disk_now before after sink sink_now = FailedToRead told disk disk_now × ((text : List ℕ) × MayBeFront told text × Puts text before after) × (sink_now ≡ sink)
Stopped stop.NoBase told disk disk_now before after sink sink_now = NoBaseTold sound_law.meets told × (after ≡ before) × (sink_now ≡ sink)
Stopped stop.Memory told disk disk_now before after sink sink_now = (after ≡ before) × (sink_now ≡ sink)
