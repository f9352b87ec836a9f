use Rattle.std.proofs.Common.{ap, sym, ◌∙◌, map, inl, refl}
use Rattle.std.specs.Prelude.{string_bytes}
use Rattle.std.proofs.lemmas.Bool.{true≢false}
use Rattle.clap.specs.Faults.{fault_of, is_simple_and_free}
use Rattle.clap.specs.Simple.{app_of, is_simple, subcommand_of}
use Rattle.erm_command_line.proofs.CommandWords.{commands_are_read, found_of, is_plain, line_is_simple, none_of, only_memory, read_of}
use Rattle.erm_command_line.proofs.command.command_of.Goals as goal

pub returns-in-Ok-clause-asked : goal.returns-in-Ok-clause-asked
returns-in-Ok-clause-asked c =
    let words = map string_bytes c.args.words.now in
    read_of c.args.words.now c.in-Ok.matches c.command_read.result c.command_read.ensures.asked
    (sym (ap (λ a. fault_of a words) c.in_ok-command_line.ensures) ∙ c.in-Ok.ensures.kinds (ap is_simple_and_free c.in_ok-command_line.ensures ∙ is_plain))
    ((c.in-Ok.ensures.matches (ap is_simple c.in_ok-command_line.ensures ∙ line_is_simple)).1 ∙ ap (λ a. subcommand_of a words) c.in_ok-command_line.ensures)

pub returns-in-Ok-clause-none : goal.returns-in-Ok-clause-none
returns-in-Ok-clause-none c =
    let words = map string_bytes c.args.words.now in
    none_of c.args.words.now c.in-Ok.matches c.command_read.result c.command_read.ensures.none
    ((c.in-Ok.ensures.matches (ap is_simple c.in_ok-command_line.ensures ∙ line_is_simple)).1 ∙ ap (λ a. subcommand_of a words) c.in_ok-command_line.ensures)

pub returns-clause-none : goal.returns-clause-none
returns-clause-none c = λ e command is.
    let words = map string_bytes c.args.words.now in
    let out_of_memory = only_memory (fault_of (app_of c.in_ok-command_line.command_line) words) c.in-Err.error
    (ap (λ a. fault_of a words) c.in_ok-command_line.ensures ∙ (commands_are_read c.args.words.now command is).0)
    (c.in-Err.ensures.kinds (ap is_simple_and_free c.in_ok-command_line.ensures ∙ is_plain)) in
    let same = rw (c.kind.ensures, out_of_memory) at c.eq.ensures in
    true≢false (sym same ∙ c.if-eq.false)

pub returns-in-Ok-clause-found : goal.returns-in-Ok-clause-found
returns-in-Ok-clause-found c = λ command is. inl (found_of c.args.words.now c.command_read.result (returns-in-Ok-clause-asked c) (returns-in-Ok-clause-none c) command is)

pub returns-clause-found : goal.returns-clause-found
returns-clause-found c = λ command is. absurd (returns-clause-none c refl command is)
