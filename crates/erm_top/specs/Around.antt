-- What source, sink and disk tell before and after a command, and what was printed in place of a report.
use Rattle.std.specs.Prelude.{◌≡◌, ℕ, List, Option}
use Rattle.erm_outside.specs.Disk.{Step}
use Rattle.erm_outside.specs.Faults.{Rose}
use Rattle.erm_outside.specs.Sink.{Puts, PutsFront}
use Rattle.erm_report.specs.declared.line.Line.{Line}
use Rattle.erm_report.specs.Texts.{line_text}
use Rattle.erm_top.specs.Told.{Prints, TookAtMost, TookMore, WasRead}

-- what source, sink and disk tell before and after, and how often each has failed
pub record Around : Type 0 where
  pub left_before : Option (List ℕ)
  pub left_after : Option (List ℕ)
  pub source_before : ℕ
  pub source_after : ℕ
  pub written_before : Option (List ℕ)
  pub written_after : Option (List ℕ)
  pub sink_before : ℕ
  pub sink_after : ℕ
  pub told_before : Option (List Step)
  pub told_after : Option (List Step)
  pub disk_before : ℕ
  pub disk_after : ℕ

-- A text was put whole, and the sink did not fail.
pub record PutsWhole (text : List ℕ) (a : Around) : Type 0 where
  pub put : Puts text a.written_before a.written_after
  pub sound : a.sink_after ≡ a.sink_before

-- The front of a text was put, and then the sink failed.
pub record PutsCut (text : List ℕ) (a : Around) : Type 0 where
  pub put : PutsFront text a.written_before a.written_after
  pub failed : Rose a.sink_before a.sink_after

-- A text was printed in place of a report, or the sink failed on the way.
abbrev pub PrintsText : List ℕ → Around → Type 0
PrintsText text a = Prints text a.written_before a.written_after a.sink_before a.sink_after

-- the same of a line's text
abbrev pub PrintsLine : Line → Around → Type 0
PrintsLine l a = PrintsText (line_text l) a

-- the source was left alone, and did not fail
pub record LeavesSource (a : Around) : Type 0 where
  pub left : a.left_after ≡ a.left_before
  pub sound : a.source_after ≡ a.source_before

-- the disk was left as it was, and did not fail
pub record LeavesDisk (a : Around) : Type 0 where
  pub told : a.told_after ≡ a.told_before
  pub sound : a.disk_after ≡ a.disk_before

-- these bytes were read of a source, to its end, and they are such bytes
pub record WasReadWith (Such : List ℕ → Type 0) (a : Around) : Type 0 where
  pub bytes : List ℕ
  pub read : WasRead bytes a.left_before a.left_after
  pub such : Such bytes

-- so many bytes were taken of those that were left, at most, or more than so many
abbrev pub TakesAtMost : ℕ → Around → Type 0
TakesAtMost most a = TookAtMost most a.left_before a.left_after

abbrev pub TakesMore : ℕ → Around → Type 0
TakesMore most a = TookMore most a.left_before a.left_after
