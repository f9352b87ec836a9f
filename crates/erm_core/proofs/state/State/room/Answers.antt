use Rattle.std.proofs.Common.{◌≡◌, Some, slice_get, ap, sym, subst, ◌∙◌}
use Rattle.erm_core.specs.Rooms.{HasNeedRoom}
use Rattle.erm_core.proofs.Rooms.{cells_same, on_ok}
use Rattle.erm_core.proofs.state.State.room.Goals as goal

pub returns-clause-ok : goal.returns-clause-ok
returns-clause-ok c =
    let s = c.args.self.now in
    let t = c.reserve_seat.new.self in
    let u = c.reserve_shared.new.self in
    let own = c.in_ok-reserve_seat.ensures.ok in
    let cells = cells_same s u c.args.need (c.reserve_shared.ensures.core ∙ c.reserve_seat.ensures.core) in
    on_ok c.reserve_shared.result c.reserve_shared.ensures.ok (λ shared. record {
      own = λ x there.
          subst (λ m. HasNeedRoom x c.args.need m) (sym cells) (own x (subst (λ xs. slice_get xs c.args.seat ≡ Some x) (ap (λ v. v.items) c.reserve_shared.ensures.seats) there));
      shared = shared;
    })
