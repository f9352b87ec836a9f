use Rattle.std.proofs.Common.{◌≡◌, sym, subst}
use Rattle.erm_model.specs.declared.outcome.Phase.TheVariants.{Active}
use Rattle.erm_rule.specs.Books.{book}
use Rattle.erm_rule.specs.Views.{view}
use Rattle.erm_shared_session.specs.declared.session.TableSession.{TableSession}
use Rattle.erm_shared_session.specs.Stands.{Stands, own_of, seat_of}
use Rattle.erm_shared_session.proofs.Leaving.{may_join}
use Rattle.erm_world.specs.World.{phase_at}
use Rattle.erm_engine.proofs.Gone.{either_rests, ended_rests, has_snapshot}
use Rattle.erm_engine.proofs.GivenUp.{took_one}
use Rattle.erm_engine.proofs.Taken.{gathers_stay, unpinned_stay}
use Rattle.erm_engine.proofs.leaving.leave.Goals as goal
use Rattle.erm_engine.proofs.leaving.leave.Goals.{in-Active, in-Idle, in-Pending}

pub end_safe-requires-clause-snapshot : goal.end_safe-requires-clause-snapshot
end_safe-requires-clause-snapshot g c =
    has_snapshot (own_of c.args.session) (seat_of c.args.session) c.phase.result c.phase.ensures c.in-Pending.is

pub join_into-requires-clause-stands : goal.join_into-requires-clause-stands
join_into-requires-clause-stands g c =
    let P : TableSession g.row.L.Denot → Type 0 = λ s. Stands g.L.RowLaw.law c.args.table.now s in
    elim c.match-phase.branch [
      | in-Active w ↦ subst P (sym w.session-is) w.abort.ensures.stands
      | in-Pending w ↦ subst P (sym w.session-is) w.end_safe.ensures.stands
      | in-Idle w ↦ subst P (sym w.session-is) c.requires.stands
    ]

pub join_into-requires-clause-rests : goal.join_into-requires-clause-rests
join_into-requires-clause-rests g c =
    let P : TableSession g.row.L.Denot → Type 0 = λ s. phase_at (own_of s) (seat_of s) ≡ Active → ⊥ in
    let own = own_of c.args.session in
    let seat = seat_of c.args.session in
    elim c.match-phase.branch [
      | in-Active w ↦ subst P (sym w.session-is) (ended_rests own (own_of w.abort.new.self) seat (seat_of w.abort.new.self) w.abort.ensures.onward.seat_is w.abort.ensures.aborted)
      | in-Pending w ↦ subst P (sym w.session-is) (ended_rests own (own_of w.end_safe.new.self) seat (seat_of w.end_safe.new.self) w.end_safe.ensures.onward.seat_is w.end_safe.ensures.ended)
      | in-Idle w ↦ subst P (sym w.session-is) (either_rests c.phase.result (phase_at own seat) c.phase.ensures w.in-Idle.is)
    ]

pub returns : goal.returns
returns g c =
    let P : TableSession g.row.L.Denot → Type 0 = λ s. Stands g.L.RowLaw.law c.args.table.now s in
    let stands : P c.match-phase.session = elim c.match-phase.branch [
      | in-Active w ↦ subst P (sym w.session-is) w.abort.ensures.stands
      | in-Pending w ↦ subst P (sym w.session-is) w.end_safe.ensures.stands
      | in-Idle w ↦ subst P (sym w.session-is) c.requires.stands
    ]
    in
    let s = c.match-phase.session in
    let taken = took_one (book c.args.flush.now) (book s.pass) (book c.join_into.new.flush) c.join_into.ensures.joined c.requires.joins (may_join g.L.RowLaw.law s.session.seat s.tail s.flushed (book s.pass) stands.may) in
    record {
      fits = c.join_into.ensures.fits;
      gathers = gathers_stay (view c.args.flush.now) (view c.join_into.new.flush) taken.parts c.requires.gathers;
      joins = taken.joins;
      unpinned = λ was. unpinned_stay (view c.args.flush.now) (view c.join_into.new.flush) taken.parts c.requires.gathers was;
    }
