use Rattle.std.proofs.Common.{sym, ◌∙◌}
use Rattle.erm_node.specs.Sound.{sound_law}
use Rattle.erm_shared_session.specs.Stands.{Stands, own_of, seat_of}
use Rattle.erm_tellers.specs.Tellers.{IsOfTellers}
use Rattle.erm_client_cases.proofs.Alone.{alone, begun_phase, begun_ready, refused_phase, refused_ready, room_made, roomy, same_kept}
use Rattle.erm_client_cases.proofs.audits.begin_alone.Goals as goal

pub returns-then-is_err-clause-client : goal.returns-then-is_err-clause-client
returns-then-is_err-clause-client c =
    roomy (λ x s. Stands sound_law x s) seat_of own_of c.args.client.now c.make_room.new.self c.requires.client c.make_room.ensures.same c.make_room.ensures.kept

pub returns-then-is_err-clause-kept : goal.returns-then-is_err-clause-kept
returns-then-is_err-clause-kept c = same_kept IsOfTellers c.args.client.now.transcript c.make_room.new.self c.make_room.ensures.same c.requires.kept

pub returns-in-Ok-clause-client : goal.returns-in-Ok-clause-client
returns-in-Ok-clause-client c =
    let old = c.args.client.now.session in
    let new = c.begin_safe.new.self in
    alone (λ x s. Stands sound_law x s) seat_of own_of c.args.client.now c.make_room.new.self c.requires.client c.make_room.ensures.same new
    (sym c.in-Idle.ensures) c.begin_safe.ensures.stands c.begin_safe.ensures.onward.seat_is
    (begun_ready (seat_of old) c.in-Ok.field-0 (own_of old) (own_of new) c.args.client.now.receipt c.in-Ok.ensures.ok)
    (begun_phase (seat_of old) c.in-Ok.field-0 (own_of old) (own_of new) c.in-Ok.ensures.ok) (room_made c.make_room.result _ c.make_room.ensures.room (sym c.is_err.ensures.value ∙ c.if-is_err.false))

pub returns-in-Ok-clause-kept : goal.returns-in-Ok-clause-kept
returns-in-Ok-clause-kept c = same_kept IsOfTellers c.args.client.now.transcript c.make_room.new.self c.make_room.ensures.same c.requires.kept

pub returns-in-Err-clause-client : goal.returns-in-Err-clause-client
returns-in-Err-clause-client c =
    let old = c.args.client.now.session in
    let new = c.begin_safe.new.self in
    alone (λ x s. Stands sound_law x s) seat_of own_of c.args.client.now c.make_room.new.self c.requires.client c.make_room.ensures.same new
    (sym c.in-Idle.ensures) c.begin_safe.ensures.stands c.begin_safe.ensures.onward.seat_is
    (refused_ready (seat_of old) c.in-Err.field-0 (own_of old) (own_of new) c.args.client.now.receipt c.in-Err.ensures.err)
    (refused_phase (seat_of old) c.in-Err.field-0 (own_of old) (own_of new) c.in-Err.ensures.err (sym c.in-Idle.ensures)) (room_made c.make_room.result _ c.make_room.ensures.room (sym c.is_err.ensures.value ∙ c.if-is_err.false))

pub returns-in-Err-clause-kept : goal.returns-in-Err-clause-kept
returns-in-Err-clause-kept c = same_kept IsOfTellers c.args.client.now.transcript c.make_room.new.self c.make_room.ensures.same c.requires.kept
