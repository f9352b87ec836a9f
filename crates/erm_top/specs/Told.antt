-- What a command has to tell, and what is put of it.
use Rattle.std.specs.Prelude.{◌≡◌, ℕ, ◌<◌, ◌≤◌, ◌⊎◌, List, [], length, drop, Option, Some, IfSome, Result, Ok, Err}
use Rattle.erm_outside.specs.Faults.{Rose}
use Rattle.erm_outside.specs.Sink.{Puts, PutsFront}
use Rattle.erm_report.specs.Texts.{line_text}
use Rattle.erm_report.specs.declared.line.Line.TheVariants as line
use Rattle.erm_top.specs.declared.printing.Stop.{Stop}
use Rattle.erm_top.specs.declared.printing.Stop.TheVariants as stop
use Rattle.erm_top.specs.declared.reading.TheConstants.{SCRIPT_BYTES}

-- the status of a stop, and the text that is printed for it
abbrev pub stop_status : Stop → ℕ
stop_status (stop.BadLine text) = 3
stop_status stop.ReadFault = 4
stop_status stop.DiskFault = 6
stop_status (stop.Cut text) = 6
stop_status stop.NoBase = 7
stop_status stop.Memory = 8
stop_status stop.TooLong = 9
stop_status (stop.AtEnd text) = 10

abbrev pub stop_text : Stop → List ℕ
stop_text (stop.BadLine text) = text
stop_text stop.ReadFault = line_text line.ReadFault
stop_text stop.DiskFault = line_text line.DiskFault
stop_text (stop.Cut text) = text
stop_text stop.NoBase = line_text line.NoBase
stop_text stop.Memory = line_text line.NoMemory
stop_text stop.TooLong = line_text line.TooLong
stop_text (stop.AtEnd text) = text

-- A text was put to a sink, whole or its front, by what is written before and after; and the sink failed just where it was not put whole.
abbrev pub Prints : List ℕ → Option (List ℕ) → Option (List ℕ) → ℕ → ℕ → Type 0
Prints text before after faults now = (Puts text before after × (now ≡ faults)) ⊎ (PutsFront text before after × Rose faults now)

-- the same of a report, with its status
abbrev pub PutsReport : List ℕ → ℕ → Option (List ℕ) → Option (List ℕ) → ℕ → ℕ → Type 0
PutsReport text status before after faults now =
    ((status ≡ 0) × Puts text before after × (now ≡ faults)) ⊎ ((status ≡ 5) × PutsFront text before after × Rose faults now)

-- the same of what a command has to tell
abbrev pub PutsTold : Result (List ℕ) Stop → ℕ → Option (List ℕ) → Option (List ℕ) → ℕ → ℕ → Type 0
PutsTold (Ok text) status before after faults now = PutsReport text status before after faults now
PutsTold (Err stop) status before after faults now = (status ≡ stop_status stop) × Prints (stop_text stop) before after faults now

-- these bytes were all that was left of a source, as far as it tells, and are no more than a script may have
pub record WasRead (bytes : List ℕ) (before after : Option (List ℕ)) : Type 0 where
  pub all : IfSome before (λ left. (bytes ≡ left) × (after ≡ Some []))
  pub short : length bytes ≤ SCRIPT_BYTES

-- so many bytes were taken of those that were left, at most, or more than so many, as far as the source tells
abbrev pub TookAtMost : ℕ → Option (List ℕ) → Option (List ℕ) → Type 0
TookAtMost most before after = IfSome before (λ bytes. (n : ℕ) × (n ≤ most) × (n ≤ length bytes) × (after ≡ Some (drop n bytes)))

abbrev pub TookMore : ℕ → Option (List ℕ) → Option (List ℕ) → Type 0
TookMore most before after = IfSome before (λ bytes. (n : ℕ) × (most < n) × (n ≤ length bytes) × (after ≡ Some (drop n bytes)))
