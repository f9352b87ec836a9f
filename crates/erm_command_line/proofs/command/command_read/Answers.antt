use Rattle.std.proofs.Common.{◌∙◌, List, Option, Some, None, ap, sym, subst, codes, inl, inr}
use Rattle.clap.specs.Matches.{found_of}
use Rattle.clap.specs.Walk.{Row, Text, rows_of}
use Rattle.clap.proofs.WalkLemmas.{one_text-rows}
use Rattle.erm_command_line.specs.CommandLine.{IsReadAs}
use Rattle.erm_command_line.specs.declared.command.Command.TheVariants.{Make}
use Rattle.erm_command_line.proofs.Reading.{found_rows, no_value, other_value, unread, value_read}
use Rattle.erm_command_line.proofs.command.command_read.Goals as goal

pub returns-in_err-get_str-in-make-clause-none : goal.returns-in_err-get_str-in-make-clause-none
returns-in_err-get_str-in-make-clause-none c =
    let rows = rows_of (found_of c.in_ok-name.options.now) in
    let found = found_rows c.args.matches.now c.in_ok-name.name.now rows c.in_ok-name.ensures.name c.in_ok-name.ensures.rows in
    let none = value_read c.in_ok-name.options.now (codes "count") None c.in_err-get_str-in-make.ensures in
    rw c.from_residual-in_err-get_str-in-make.ensures (λ command read. unread c.args.matches.now c.in_ok-name.name.now rows command found c.in-make.is (inl (no_value _ (codes "count") rows none)) read)

pub returns-in_err-count-in-make-clause-none : goal.returns-in_err-count-in-make-clause-none
returns-in_err-count-in-make-clause-none c =
    let rows = rows_of (found_of c.in_ok-name.options.now) in
    let found = found_rows c.args.matches.now c.in_ok-name.name.now rows c.in_ok-name.ensures.name c.in_ok-name.ensures.rows in
    let value = value_read c.in_ok-name.options.now (codes "count") (Some c.in_ok-get_str-in-make.field-0.now) c.in_ok-get_str-in-make.ensures in
    rw c.from_residual-in_err-count-in-make.ensures (λ command read. unread c.args.matches.now c.in_ok-name.name.now rows command found c.in-make.is (inl (other_value _ (codes "count") c.in_ok-get_str-in-make.field-0.now rows value c.in_err-count-in-make.ensures.refused)) read)

pub returns-in_err-get_str-in-make-2-clause-none : goal.returns-in_err-get_str-in-make-2-clause-none
returns-in_err-get_str-in-make-2-clause-none c =
    let rows = rows_of (found_of c.in_ok-name.options.now) in
    let found = found_rows c.args.matches.now c.in_ok-name.name.now rows c.in_ok-name.ensures.name c.in_ok-name.ensures.rows in
    let none = value_read c.in_ok-name.options.now (codes "sessions") None c.in_err-get_str-in-make-2.ensures in
    rw c.from_residual-in_err-get_str-in-make-2.ensures (λ command read. unread c.args.matches.now c.in_ok-name.name.now rows command found c.in-make.is (inr (no_value _ (codes "sessions") rows none)) read)

pub returns-in_err-sessions-in-make-clause-none : goal.returns-in_err-sessions-in-make-clause-none
returns-in_err-sessions-in-make-clause-none c =
    let rows = rows_of (found_of c.in_ok-name.options.now) in
    let found = found_rows c.args.matches.now c.in_ok-name.name.now rows c.in_ok-name.ensures.name c.in_ok-name.ensures.rows in
    let value = value_read c.in_ok-name.options.now (codes "sessions") (Some c.in_ok-get_str-in-make-2.field-0.now) c.in_ok-get_str-in-make-2.ensures in
    rw c.from_residual-in_err-sessions-in-make.ensures (λ command read. unread c.args.matches.now c.in_ok-name.name.now rows command found c.in-make.is (inr (other_value _ (codes "sessions") c.in_ok-get_str-in-make-2.field-0.now rows value c.in_err-sessions-in-make.ensures.refused)) read)

pub returns-in_ok-sessions-in-make-clause-asked : goal.returns-in_ok-sessions-in-make-clause-asked
returns-in_ok-sessions-in-make-clause-asked c =
    let rows = rows_of (found_of c.in_ok-name.options.now) in
    let found = found_rows c.args.matches.now c.in_ok-name.name.now rows c.in_ok-name.ensures.name c.in_ok-name.ensures.rows in
    let counted = value_read c.in_ok-name.options.now (codes "count") (Some c.in_ok-get_str-in-make.field-0.now) c.in_ok-get_str-in-make.ensures in
    let seated = value_read c.in_ok-name.options.now (codes "sessions") (Some c.in_ok-get_str-in-make-2.field-0.now) c.in_ok-get_str-in-make-2.ensures in
    let count_is = c.in_ok-count-in-make.ensures.spelled in
    let seats_are = c.in_ok-sessions-in-make.ensures.spelled in
    let mark = one_text-rows (found_of c.in_ok-name.options.now) (codes "text") in
    subst (λ (f : Option (Text × List Row)). IsReadAs f (Make c.in_ok-count-in-make.count c.in_ok-sessions-in-make.sessions c.get_flag.result)) (sym found) (
      c.in-make.is,
      (count_is.0, count_is.1, counted ∙ ap (λ (t : Text). Some t) count_is.2),
      (seats_are.0, seats_are.1, seated ∙ ap (λ (t : Text). Some t) seats_are.2),
      λ e. c.get_flag.ensures.value (mark ∙ e),
      λ e. c.get_flag.ensures.other (mark ∙ e),
    )
