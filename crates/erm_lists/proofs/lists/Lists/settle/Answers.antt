use Rattle.std.proofs.Common.{IfErr, ap, sym, subst, ◌∙◌}
use Rattle.std.proofs.lemmas.Result.{err_from_is_err_and}
use Rattle.erm_machine.specs.Seat.{is_sealed}
use Rattle.erm_machine.specs.Settling.{may_settle}
use Rattle.erm_machine.specs.declared.part.Part.{Part}
use Rattle.erm_core.specs.Cores.{core_of}
use Rattle.erm_core_view.specs.Views.{IsQuiet, view_of}
use Rattle.erm_world.specs.declared.stops.Wait.{Wait}
use Rattle.erm_world.specs.declared.stops.Wait.TheVariants as wait
use Rattle.erm_world.specs.Calls.{DidNotSettle, DidSettle}
use Rattle.erm_core_steps.specs.Ends.{HasDecided, HasLeft}
use Rattle.erm_lists.specs.Stands.{lists_view}
use Rattle.erm_core_steps.specs.Steps.{IsUnseen, found_in}
use Rattle.erm_core_steps.proofs.Settling.{as_before, did_settle, flush_size, flush_taken, flush_unseen, is_full, is_one, may_decide, not_full, not_settled, passing_may, quiet_left, ring_full, room_found, settle_may, starts, still_quiet}
use Rattle.erm_core_steps.proofs.Unseen.{unseen_both}
use Rattle.erm_lists.proofs.lists.Lists.settle.Goals as goal

pub go-requires-clause-taken : goal.go-requires-clause-taken
go-requires-clause-taken g c =
    let sessions = c.args.self.now.sessions in
    let seat = c.args.seat in
    let before = core_of c.args.self.now.state in
    let m = settle_may sessions seat before c.requires.stands.sound.sound c.requires.stands.quiet c.requires.session c.requires.sealed in
    flush_taken sessions seat before m

pub returns-then-not-fits_ring-clause-stands : goal.returns-then-not-fits_ring-clause-stands
returns-then-not-fits_ring-clause-stands g c =
    let sessions = c.args.self.now.sessions in
    let seat = c.args.seat in
    let before = core_of c.args.self.now.state in
    let loaded = core_of c.go.new.self.state in
    let m = settle_may sessions seat before c.requires.stands.sound.sound c.requires.stands.quiet c.requires.session c.requires.sealed in
    let none =
    room_found sessions seat before m loaded c.go.ensures.after c.found-flushed.result c.fits_ring.result _ (c.found-flushed.ensures ∙ ap found_in c.go.ensures.answer)
    c.fits_ring.ensures c.if-not-fits_ring.true
    in
    let same = as_before sessions seat before m loaded c.go.ensures.after none in
    let quiet =
    still_quiet sessions seat before m loaded c.go.ensures.sound.sound (flush_unseen sessions seat before m loaded c.go.ensures.after)
    (flush_size sessions seat before m loaded c.go.ensures.after) (ap (λ (y : Part). is_sealed y.place) same ∙ m.sealed) (ap (λ (y : Part). may_settle y.task) same ∙ m.may)
    in
    record { sound = c.go.ensures.sound; quiet = subst (λ n. IsQuiet n loaded) (sym c.go.ensures.sessions) quiet }

pub returns-then-not-fits_ring-clause-err : goal.returns-then-not-fits_ring-clause-err
returns-then-not-fits_ring-clause-err g c =
    let sessions = c.args.self.now.sessions in
    let seat = c.args.seat in
    let before = core_of c.args.self.now.state in
    let loaded = core_of c.go.new.self.state in
    let m = settle_may sessions seat before c.requires.stands.sound.sound c.requires.stands.quiet c.requires.session c.requires.sealed in
    let flushed = c.found-flushed.ensures ∙ ap found_in c.go.ensures.answer in
    let none =
    room_found sessions seat before m loaded c.go.ensures.after c.found-flushed.result c.fits_ring.result _ flushed c.fits_ring.ensures c.if-not-fits_ring.true
    in
    let same = as_before sessions seat before m loaded c.go.ensures.after none in
    let full =
    ring_full sessions seat before m loaded c.go.ensures.sound.sound (flush_unseen sessions seat before m loaded c.go.ensures.after)
    (flush_size sessions seat before m loaded c.go.ensures.after) (ap (λ (y : Part). is_sealed y.place) same ∙ m.sealed) (ap (λ (y : Part). may_settle y.task) same ∙ m.may)
    c.stored_words_tell_the_row.ensures.short c.found-flushed.result flushed (is_full sessions seat before m none)
    in
    subst (λ n. DidNotSettle (lists_view c.args.self.now) seat (wait.Ring c.found-flushed.result) (view_of n loaded)) (sym c.go.ensures.sessions) full

pub pass_versions-requires-clause-session : goal.pass_versions-requires-clause-session
pass_versions-requires-clause-session g c =
    is_one c.args.self.now.sessions c.args.seat (core_of c.args.self.now.state)
    (settle_may c.args.self.now.sessions c.args.seat (core_of c.args.self.now.state) c.requires.stands.sound.sound c.requires.stands.quiet c.requires.session c.requires.sealed)

pub pass_versions-requires-clause-passing : goal.pass_versions-requires-clause-passing
pass_versions-requires-clause-passing g c =
    let sessions = c.args.self.now.sessions in
    let seat = c.args.seat in
    let before = core_of c.args.self.now.state in
    let loaded = core_of c.go.new.self.state in
    let m = settle_may sessions seat before c.requires.stands.sound.sound c.requires.stands.quiet c.requires.session c.requires.sealed in
    starts sessions seat before m loaded c.go.ensures.after
    (room_found sessions seat before m loaded c.go.ensures.after c.found-flushed.result c.fits_ring.result _ (c.found-flushed.ensures ∙ ap found_in c.go.ensures.answer)
    c.fits_ring.ensures c.if-not-fits_ring.false)

pub returns-in_err-pass_versions-clause-stands : goal.returns-in_err-pass_versions-clause-stands
returns-in_err-pass_versions-clause-stands g c =
    let sessions = c.args.self.now.sessions in
    let seat = c.args.seat in
    let before = core_of c.args.self.now.state in
    let loaded = core_of c.go.new.self.state in
    let now = core_of c.pass_versions.new.self.state in
    let m = settle_may sessions seat before c.requires.stands.sound.sound c.requires.stands.quiet c.requires.session c.requires.sealed in
    let after = c.go.ensures.after in
    let passed = c.pass_versions.ensures in
    let unseen =
    unseen_both sessions seat before loaded now (flush_unseen sessions seat before m loaded after)
    (subst (λ n. IsUnseen n seat loaded now) c.go.ensures.sessions passed.unseen)
    in
    let quiet =
    still_quiet sessions seat before m now passed.sound.sound unseen (passed.size ∙ flush_size sessions seat before m loaded after) passed.passing.sealed
    (passing_may (now.seats seat).task passed.passing.passing)
    in
    record { sound = passed.sound; quiet = subst (λ n. IsQuiet n now) (sym (passed.sessions ∙ c.go.ensures.sessions)) quiet }

pub returns-in_err-pass_versions-clause-err : goal.returns-in_err-pass_versions-clause-err
returns-in_err-pass_versions-clause-err g c =
    let sessions = c.args.self.now.sessions in
    let seat = c.args.seat in
    let before = core_of c.args.self.now.state in
    let loaded = core_of c.go.new.self.state in
    let now = core_of c.pass_versions.new.self.state in
    let m = settle_may sessions seat before c.requires.stands.sound.sound c.requires.stands.quiet c.requires.session c.requires.sealed in
    let after = c.go.ensures.after in
    let passed = c.pass_versions.ensures in
    let unseen =
    unseen_both sessions seat before loaded now (flush_unseen sessions seat before m loaded after)
    (subst (λ n. IsUnseen n seat loaded now) c.go.ensures.sessions passed.unseen)
    in
    let room =
    not_full sessions seat before m
    (room_found sessions seat before m loaded after c.found-flushed.result c.fits_ring.result _ (c.found-flushed.ensures ∙ ap found_in c.go.ensures.answer)
    c.fits_ring.ensures c.if-not-fits_ring.false)
    in
    let stops =
    not_settled sessions seat before m now passed.sound.sound unseen (passed.size ∙ flush_size sessions seat before m loaded after) passed.passing.sealed
    (passing_may (now.seats seat).task passed.passing.passing) c.in_err-pass_versions.field-0.0 room passed.passing c.in_err-pass_versions.ensures.waits
    in
    let shown =
    subst (λ n. DidNotSettle (lists_view c.args.self.now) seat c.in_err-pass_versions.field-0.0 (view_of n now)) (sym (passed.sessions ∙ c.go.ensures.sessions)) stops
    in
    let failed = err_from_is_err_and c.from_residual.result c.from_residual.ensures.1 in
    subst (λ r. IfErr r (λ stop. DidNotSettle (lists_view c.args.self.now) seat stop (lists_view c.pass_versions.new.self))) (sym failed.1)
    (subst (λ (stop : Wait). DidNotSettle (lists_view c.args.self.now) seat stop (lists_view c.pass_versions.new.self)) (sym failed.2) shown)

pub outcome-outcome-requires-clause-session : goal.outcome-outcome-requires-clause-session
outcome-outcome-requires-clause-session g c =
    is_one c.args.self.now.sessions c.args.seat (core_of c.args.self.now.state)
    (settle_may c.args.self.now.sessions c.args.seat (core_of c.args.self.now.state) c.requires.stands.sound.sound c.requires.stands.quiet c.requires.session c.requires.sealed)

pub decide-requires-clause-session : goal.decide-requires-clause-session
decide-requires-clause-session g c =
    is_one c.args.self.now.sessions c.args.seat (core_of c.args.self.now.state)
    (settle_may c.args.self.now.sessions c.args.seat (core_of c.args.self.now.state) c.requires.stands.sound.sound c.requires.stands.quiet c.requires.session c.requires.sealed)

pub leave-requires-clause-session : goal.leave-requires-clause-session
leave-requires-clause-session g c =
    is_one c.args.self.now.sessions c.args.seat (core_of c.args.self.now.state)
    (settle_may c.args.self.now.sessions c.args.seat (core_of c.args.self.now.state) c.requires.stands.sound.sound c.requires.stands.quiet c.requires.session c.requires.sealed)

pub decide-requires-clause-decides : goal.decide-requires-clause-decides
decide-requires-clause-decides g c =
    let sessions = c.args.self.now.sessions in
    let seat = c.args.seat in
    let before = core_of c.args.self.now.state in
    let loaded = core_of c.go.new.self.state in
    let now = core_of c.pass_versions.new.self.state in
    let m = settle_may sessions seat before c.requires.stands.sound.sound c.requires.stands.quiet c.requires.session c.requires.sealed in
    let after = c.go.ensures.after in
    let passed = c.pass_versions.ensures in
    let unseen =
    unseen_both sessions seat before loaded now (flush_unseen sessions seat before m loaded after)
    (subst (λ n. IsUnseen n seat loaded now) c.go.ensures.sessions passed.unseen)
    in
    may_decide sessions seat before m now passed.sound.sound unseen (passed.size ∙ flush_size sessions seat before m loaded after) passed.passing.sealed
    (passing_may (now.seats seat).task passed.passing.passing) c.in_ok-pass_versions.ensures.passed

pub returns-clause-stands : goal.returns-clause-stands
returns-clause-stands g c =
    let sessions = c.args.self.now.sessions in
    let seat = c.args.seat in
    let before = core_of c.args.self.now.state in
    let loaded = core_of c.go.new.self.state in
    let now = core_of c.pass_versions.new.self.state in
    let ended = core_of c.leave.new.self.state in
    let m = settle_may sessions seat before c.requires.stands.sound.sound c.requires.stands.quiet c.requires.session c.requires.sealed in
    let after = c.go.ensures.after in
    let passed = c.pass_versions.ensures in
    let unseen =
    unseen_both sessions seat before loaded now (flush_unseen sessions seat before m loaded after)
    (subst (λ n. IsUnseen n seat loaded now) c.go.ensures.sessions passed.unseen)
    in
    let one = passed.sessions ∙ c.go.ensures.sessions in
    let two = c.decide.ensures.sessions ∙ one in
    let decided = subst (λ n. HasDecided n seat now (core_of c.decide.new.self.state)) one c.decide.ensures.decided in
    let left = subst (λ n. HasLeft n seat (core_of c.decide.new.self.state) ended) two c.leave.ensures.left in
    let quiet =
    quiet_left sessions seat before m now passed.sound.sound unseen (passed.size ∙ flush_size sessions seat before m loaded after) passed.passing.sealed
    (passing_may (now.seats seat).task passed.passing.passing) (core_of c.decide.new.self.state) ended decided left c.leave.ensures.rests c.leave.ensures.sound.sound
    in
    record { sound = c.leave.ensures.sound; quiet = subst (λ n. IsQuiet n ended) (sym (c.leave.ensures.sessions ∙ two)) quiet }

pub returns-clause-ok : goal.returns-clause-ok
returns-clause-ok g c =
    let sessions = c.args.self.now.sessions in
    let seat = c.args.seat in
    let before = core_of c.args.self.now.state in
    let loaded = core_of c.go.new.self.state in
    let now = core_of c.pass_versions.new.self.state in
    let ended = core_of c.leave.new.self.state in
    let m = settle_may sessions seat before c.requires.stands.sound.sound c.requires.stands.quiet c.requires.session c.requires.sealed in
    let after = c.go.ensures.after in
    let passed = c.pass_versions.ensures in
    let unseen =
    unseen_both sessions seat before loaded now (flush_unseen sessions seat before m loaded after)
    (subst (λ n. IsUnseen n seat loaded now) c.go.ensures.sessions passed.unseen)
    in
    let one = passed.sessions ∙ c.go.ensures.sessions in
    let two = c.decide.ensures.sessions ∙ one in
    let decided = subst (λ n. HasDecided n seat now (core_of c.decide.new.self.state)) one c.decide.ensures.decided in
    let left = subst (λ n. HasLeft n seat (core_of c.decide.new.self.state) ended) two c.leave.ensures.left in
    let did =
    did_settle sessions seat before m now passed.sound.sound unseen (passed.size ∙ flush_size sessions seat before m loaded after) passed.passing.sealed
    (passing_may (now.seats seat).task passed.passing.passing) (core_of c.decide.new.self.state) ended decided left c.leave.ensures.rests c.leave.ensures.sound.sound
    c.in_ok-pass_versions.ensures.passed
    in
    subst (λ n. DidSettle (lists_view c.args.self.now) seat c.outcome-outcome.result (view_of n ended)) (sym (c.leave.ensures.sessions ∙ two))
    (subst (λ o. DidSettle (view_of sessions before) seat o (view_of sessions ended)) (sym c.outcome-outcome.ensures) did)

pub fits_ring-requires : goal.fits_ring-requires
fits_ring-requires g c = record {
  session =
      is_one c.args.self.now.sessions c.args.seat (core_of c.args.self.now.state)
      (settle_may c.args.self.now.sessions c.args.seat (core_of c.args.self.now.state) c.requires.stands.sound.sound c.requires.stands.quiet c.requires.session c.requires.sealed);
}
