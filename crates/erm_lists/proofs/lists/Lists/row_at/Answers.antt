use Rattle.std.proofs.Common.{None, ap, sym, ◌∙◌, subst}
use Rattle.std.specs.Prelude.{IsSome}
use Rattle.erm_core.specs.Cores.{core_of}
use Rattle.erm_core_steps.specs.Pinned.{owner_below, row_below}
use Rattle.erm_core_steps.proofs.Lasting.{row_lasts}
use Rattle.erm_core_steps.proofs.Pinned.{newest_found, row_found, some_found, unwaited_found, wait_found}
use Rattle.erm_lists.specs.Logs.{lists_log}
use Rattle.erm_lists.specs.Stands.{lists_view}
use Rattle.erm_lists.proofs.lists.Lists.row_at.Goals as goal

pub returns-in-Some-clause-wait : goal.returns-in-Some-clause-wait
returns-in-Some-clause-wait g c =
    let b = core_of c.args.self.now.state in
    let sessions = c.args.self.now.sessions in
    let stands = c.requires.stands in
    wait_found g.L.RowLaw.law c.blocks_are_a_log_list.ensures c.logs_go_on.ensures.more sessions b stands.sound stands.quiet
    (c.views_are_serializable.ensures sessions b stands.sound stands.quiet) c.requires.pinned c.args.oid c.requires.object c.in-Some.wait
    (sym c.in-Some.is ∙ c.owner_below.ensures ∙ ap (owner_below b c.args.oid) c.pin_stamp-pin.ensures)

pub unwrap-requires : goal.unwrap-requires
unwrap-requires g c =
    let b = core_of c.args.self.now.state in
    let sessions = c.args.self.now.sessions in
    let stands = c.requires.stands in
    subst IsSome (sym (c.version_below.ensures ∙ ap (λ n. row_below n (b.shared.objects c.args.oid).versions None) c.pin_stamp-pin.ensures))
    (some_found g.L.RowLaw.law c.blocks_are_a_log_list.ensures c.logs_go_on.ensures.more sessions b stands.sound stands.quiet
    (c.views_are_serializable.ensures sessions b stands.sound stands.quiet) c.requires.pinned c.args.oid c.requires.object)

pub returns-clause-row : goal.returns-clause-row
returns-clause-row g c =
    let b = core_of c.args.self.now.state in
    let sessions = c.args.self.now.sessions in
    let stands = c.requires.stands in
    row_found g.L.RowLaw.law c.blocks_are_a_log_list.ensures c.logs_go_on.ensures.more sessions b stands.sound stands.quiet
    (c.views_are_serializable.ensures sessions b stands.sound stands.quiet) c.requires.pinned c.args.oid c.requires.object
    (sym (ap (owner_below b c.args.oid) c.pin_stamp-pin.ensures) ∙ sym c.owner_below.ensures ∙ c.in_default.is) c.unwrap.result
    (sym c.unwrap.ensures ∙ c.version_below.ensures ∙ ap (λ n. row_below n (b.shared.objects c.args.oid).versions None) c.pin_stamp-pin.ensures)

pub returns-clause-newest : goal.returns-clause-newest
returns-clause-newest g c =
    let b = core_of c.args.self.now.state in
    let sessions = c.args.self.now.sessions in
    let stands = c.requires.stands in
    newest_found g.L.RowLaw.law c.blocks_are_a_log_list.ensures c.logs_go_on.ensures.more sessions b stands.sound stands.quiet
    (c.views_are_serializable.ensures sessions b stands.sound stands.quiet) c.requires.pinned c.args.oid c.requires.object
    (sym (ap (owner_below b c.args.oid) c.pin_stamp-pin.ensures) ∙ sym c.owner_below.ensures ∙ c.in_default.is) c.unwrap.result
    (sym c.unwrap.ensures ∙ c.version_below.ensures ∙ ap (λ n. row_below n (b.shared.objects c.args.oid).versions None) c.pin_stamp-pin.ensures)

pub returns-clause-clear : goal.returns-clause-clear
returns-clause-clear g c =
    let b = core_of c.args.self.now.state in
    let sessions = c.args.self.now.sessions in
    let stands = c.requires.stands in
    unwaited_found g.L.RowLaw.law c.blocks_are_a_log_list.ensures c.logs_go_on.ensures.more sessions b stands.sound stands.quiet
    (c.views_are_serializable.ensures sessions b stands.sound stands.quiet) c.requires.pinned c.args.oid c.requires.object
    (sym (ap (owner_below b c.args.oid) c.pin_stamp-pin.ensures) ∙ sym c.owner_below.ensures ∙ c.in_default.is)

pub returns-clause-lasts : goal.returns-clause-lasts
returns-clause-lasts g c = λ later keeps.
    let standing = keeps.stands c.requires.stands in
    let now = core_of later.state in
    row_lasts g.L.RowLaw.law c.blocks_are_a_log_list.ensures c.logs_go_on.ensures.more (lists_view c.args.self.now) (lists_log c.args.self.now) later.sessions now
    standing.sound standing.quiet (c.views_are_serializable.ensures later.sessions now standing.sound standing.quiet) keeps.sessions c.args.oid c.unwrap.result
    (returns-clause-newest g c)
