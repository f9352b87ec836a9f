use Rattle.std.proofs.Common.{◌≡◌, ◌++◌, ap, ◌∙◌}
use Rattle.erm_core_shown.specs.Shown.{shown_of}
use Rattle.erm_desk.proofs.Opened.{IsOf}
use Rattle.erm_model.specs.declared.limits.TheConstants.{SESSIONS}
use Rattle.erm_own_view.specs.Own.{opening_of}
use Rattle.erm_own_view.proofs.Along.{opening_kept}
use Rattle.erm_closed_log.proofs.Known.{blocks_there, opened_so}
use Rattle.erm_closed_log.proofs.Logs.{gathered_whole, has_log}
use Rattle.erm_closed_log.proofs.closed_tables_have_logs.Goals as goal

pub returns-clause-log : goal.returns-clause-log
returns-clause-log g c o b blocks tried core closed =
    let law = g.L.RowLaw.law in
    let opening : (shown_of SESSIONS core).opening ≡ opening_of o = opening_kept c.steps_change_one_session.ensures.others b core closed.was ∙ ap opening_of closed.knows.start in
    let of : IsOf o core = opened_so law o core closed.under opening in
    has_log law c.blocks_are_a_log_list.ensures c.logs_go_on.ensures.more c.one_spelling.ensures o core closed.under closed.quiet of blocks tried closed.knows.log
    (blocks_there law o b core (blocks ++ tried) closed.knows closed.was) closed.flushed (c.states_have_logs.ensures.of_view SESSIONS core closed.under closed.quiet)

pub returns-clause-whole : goal.returns-clause-whole
returns-clause-whole g c o blocks tried core has whole = gathered_whole g.L.RowLaw.law o core blocks tried has whole
