use Rattle.std.proofs.Common.{◌<◌, ◌∙◌, sym, subst}
use Rattle.erm_machine.specs.Sound.{Sound}
use Rattle.erm_core.specs.Cores.{rows_of}
use Rattle.erm_core.proofs.Openings.{opened_core}
use Rattle.erm_core.proofs.state.State.open.Goals as goal

pub returns-clause-core : goal.returns-clause-core
returns-clause-core c =
    opened_core c.in_ok-objects.objects.items c.in_ok-ring.ring.items c.in_ok-seats.seats.items c.new.result.items c.args.rows.now c.args.sessions c.args.tail c.args.run c.args.first c.args.cells
    c.requires.sessions (sym c.in_ok-objects.objects.ok.0 ∙ c.in_ok-objects.ensures.len ∙ c.requires.rows) c.in_ok-objects.ensures.items c.in_ok-ring.ensures.zero
    (sym c.in_ok-seats.seats.ok.0 ∙ c.in_ok-seats.ensures.len) c.in_ok-seats.ensures.items c.new.ensures.items

pub returns-clause-sound : goal.returns-clause-sound
returns-clause-sound c =
    subst Sound (sym (returns-clause-core c)) (c.openings_are_sound.ensures c.args.sessions (rows_of c.args.rows.now) c.args.tail c.args.run c.args.first c.args.cells c.requires.sessions c.requires.positive c.requires.low c.requires.first c.requires.enough c.requires.few (λ oid below. c.told-rows oid (subst (λ n. oid < n) (sym c.requires.rows) below)))
