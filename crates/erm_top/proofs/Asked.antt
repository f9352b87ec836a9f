-- What the words ask for.
use Rattle.std.proofs.Common.{◌≡◌, Result, Ok, Err, Option, Some, inl, inr, ◌⊎◌, List}
use Rattle.std.specs.Prelude.{String, IsErr, None}
use Rattle.std.specs.declared.alloc.AllocError.{AllocError}
use Rattle.std.specs.declared.alloc.Global.{Global}
use Rattle.erm_command_line.specs.CommandLine.{IsCommand}
use Rattle.erm_command_line.specs.declared.command.Command.{Command}
use Rattle.erm_command_line.specs.declared.command.Command.TheVariants.{Make}
use Rattle.erm_top.specs.Commands.{IsSized}

-- words ask for one command
pub one_asked : (words : List (String Global)) (r : Result (Option Command) AllocError) (command other : Command) → r ≡ Ok (Some command) → (r ≡ Ok (Some other)) ⊎ IsErr r → other ≡ command
one_asked words (Err e) command other is found = absurd (cc)
one_asked words (Ok None) command other is found = absurd (cc)
one_asked words (Ok (Some first)) command other is (inl same) = cc
one_asked words (Ok (Some first)) command other is (inr failed) = absurd (cc failed)

-- the numbers of a command that is asked for are those that it may have
pub is_sized : (words : List (String Global)) (command : Command) → IsCommand words command → IsSized command
is_sized words (Make transactions sessions as_text) asked =
    (asked.asks.2.counted.0, asked.asks.2.counted.1, asked.asks.2.seated.0, asked.asks.2.seated.1)
is_sized words command asked = tt
