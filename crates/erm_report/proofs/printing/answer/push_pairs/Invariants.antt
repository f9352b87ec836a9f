use Rattle.std.proofs.Common.{◌≡◌, ◌++◌, decimal, length, take}
use Rattle.std.specs.List.{All, flat_map}
use Rattle.erm_report.specs.Printable.{FitsFound}
use Rattle.erm_report.specs.Texts.{found_text}
use Rattle.erm_report.proofs.printing.answer.push_pairs.Given as goal

-- the pairs so far are there, and fit their types
abbrev pub invariant-loop-key : goal.invariant-loop-key
invariant-loop-key l =
    (l.out.items ≡ l.fn.out.items ++ (l.words ++ decimal (length l.found) ++ flat_map found_text (take l.key-index l.found)))
    × All FitsFound (take l.key-index l.found)
