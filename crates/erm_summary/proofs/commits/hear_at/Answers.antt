use Rattle.std.proofs.Common.{◌≡◌, ◌+◌, ◌<◌, ◌-◌, length, sym, arith}
use Rattle.std.proofs.lemmas.Result.{on_ok_weaker}
use Rattle.erm_summary.proofs.Seats.{both_ok, other_seats, own_seat, less_room, room_at, room_left}
use Rattle.erm_summary.proofs.commits.hear_at.Goals as goal
use Rattle.erm_summary.proofs.commits.hear_at.Goals.{then-number-eq0-via-then-number-eq0, then-number-eq0-via-else-number-eq0+then-number-len}

pub returns-then-number-eq0-clause-follows : goal.returns-then-number-eq0-clause-follows
returns-then-number-eq0-clause-follows c script answers said asked is asks each =
    other_seats script answers said (record { session = c.args.seat; asked = asked; answer = c.args.answer.now }) 1 c.args.heard.now.items
    (elim c.then-number-eq0.branch [
      | then-number-eq0-via-then-number-eq0 w ↦ λ low high. omega (arith, low, c.from-number.ensures, w.if-number-eq0.true)
      | then-number-eq0-via-else-number-eq0+then-number-len w ↦ λ low high. omega (arith, high, c.from-number.ensures, w.len.ensures, w.if-number-len.true, c.args.heard.now.ok.0)
    ])
    each

pub returns-then-number-eq0-clause-room : goal.returns-then-number-eq0-clause-room
returns-then-number-eq0-clause-room c more room = less_room more (more + 1) c.args.heard.now.items (omega arith) room

pub hear-requires : goal.hear-requires
hear-requires c =
    let within : c.from-number.result - 1 < length c.args.heard.now.items = omega (arith, c.if-number-eq0.false, c.if-number-len.false, c.len.ensures, c.args.heard.now.ok.0) in
    record { room = room_at 1 (c.from-number.result - 1) c.args.heard.now.items c.index_mut.result.now within (sym c.index_mut.ensures.value) c.requires.room }

pub returns-clause-follows : goal.returns-clause-follows
returns-clause-follows c =
    let within : c.from-number.result - 1 < length c.args.heard.now.items = omega (arith, c.if-number-eq0.false, c.if-number-len.false, c.len.ensures, c.args.heard.now.ok.0) in
    let place : c.args.seat ≡ 1 + (c.from-number.result - 1) = omega (arith, c.from-number.ensures, c.if-number-eq0.false) in
    both_ok c.hear.result
    (λ goes same script answers said asked is asks each.
    own_seat script answers said (record { session = c.args.seat; asked = asked; answer = c.args.answer.now }) 1 (c.from-number.result - 1) c.args.heard.now.items c.index_mut.result.now c.hear.new.self within
    (sym c.index_mut.ensures.value) place (λ p before. goes script answers asked p is asks before) same each)
    c.hear.ensures.follows c.hear.ensures.seat

pub returns-clause-room : goal.returns-clause-room
returns-clause-room c =
    let within : c.from-number.result - 1 < length c.args.heard.now.items = omega (arith, c.if-number-eq0.false, c.if-number-len.false, c.len.ensures, c.args.heard.now.ok.0) in
    on_ok_weaker c.hear.result
    (λ grows more room. room_left more (c.from-number.result - 1) c.args.heard.now.items c.index_mut.result.now c.hear.new.self within (sym c.index_mut.ensures.value) grows room) c.hear.ensures.counts
