use Rattle.erm_command_line.proofs.CommandWords.{meant_are_commands}
use Rattle.erm_command_line.proofs.command.command_words_are_commands.Goals as goal

pub returns : goal.returns
returns c = meant_are_commands
