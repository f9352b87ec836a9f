use Rattle.std.proofs.Common.{arith}
use Rattle.erm_model.specs.declared.limits.TheConstants.{MOST_CELLS}
use Rattle.erm_core.specs.Cores.{core_of, rows_of}
use Rattle.erm_machine.specs.Core.{opening_state}
use Rattle.erm_core_steps.proofs.Quiet.{opened_stands, opening_quiet}
use Rattle.erm_lists.proofs.lists.Lists.open.Goals as goal

pub returns-clause-stands : goal.returns-clause-stands
returns-clause-stands g c =
    let sessions = c.args.sessions in
    let rows = rows_of c.args.rows.now in
    let tail = c.args.tail in
    let run = c.args.run in
    let first = c.args.first in
    let both =
    opened_stands g.L.RowLaw.law sessions (core_of c.in_ok-state.state) (opening_state sessions rows tail run first MOST_CELLS) c.in_ok-state.ensures.core
    (λ sound. c.openings_are_lawful.ensures sessions rows tail run first MOST_CELLS sound c.requires.meets c.requires.unreached)
    (opening_quiet sessions rows tail run first MOST_CELLS c.requires.few (let low = c.requires.positive in omega (arith, low)) c.requires.run_high) c.in_ok-state.ensures.sound
    in
    record { sound = both.0; quiet = both.1 }

pub returns-clause-world : goal.returns-clause-world
returns-clause-world g c = c.standing_worlds_have_laws.ensures _ (returns-clause-stands g c)
