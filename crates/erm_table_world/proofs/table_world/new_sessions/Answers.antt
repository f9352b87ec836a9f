use Rattle.std.proofs.Common.{◌≡◌, ◌+◌, ◌++◌, ◌∷◌, [], List, length, sym, subst, arith}
use Rattle.std.proofs.lemmas.List.{length-append}
use Rattle.erm_session.specs.declared.session.Session.{Session}
use Rattle.erm_table_world.specs.Stands.{AreNew}
use Rattle.erm_table_world.proofs.Sessions.{new_more}
use Rattle.erm_table_world.proofs.table_world.new_sessions.Goals as goal

pub loop-q-preserved : goal.loop-q-preserved
loop-q-preserved c =
    let ss = c.loop-q.sessions.items in
    let s = c.in_ok-new.field-0 in
    let count = c.loop-q.invariant.0 in
    let room = c.loop-q.invariant.1 in
    let seat = c.in_ok-new.ensures.seat in
    let items = c.push_reserved.ensures.items in
    let capacity = c.push_reserved.ensures.capacity in
    let long : length (ss ++ s ∷ []) ≡ length ss + length (s ∷ []) = length-append ss (s ∷ []) in (
      subst (λ (l : List Session). length l ≡ c.loop-q.q + 1) (sym items) (omega (arith, long, count)),
      omega (arith, room, capacity),
      subst (λ (l : List Session). AreNew c.args.run l) (sym items) (new_more c.args.run ss s c.loop-q.invariant.2 (omega (arith, seat, count)) c.in_ok-new.ensures.idle),
    )
