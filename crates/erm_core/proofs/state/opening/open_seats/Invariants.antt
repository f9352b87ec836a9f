use Rattle.std.proofs.Common.{ℕ, ◌≡◌, ◌<◌, false, map, get_or, vec_len}
use Rattle.std.specs.Prelude.{if◌then◌else◌}
use Rattle.erm_machine.specs.declared.place.Place.TheVariants.{Vacant, Idle}
use Rattle.erm_machine.specs.Core.{fresh_part, is_taken}
use Rattle.erm_machine.specs.Words.{is_flusher}
use Rattle.erm_seat.specs.declared.seat.SeatState.{SeatState}
use Rattle.erm_seat.specs.Parts.{part_of}
use Rattle.erm_core.proofs.state.opening.open_seats.Given as goal

abbrev pub invariant-loop-seat : goal.invariant-loop-seat
invariant-loop-seat l =
    (vec_len l.seats ≡ l.seat)
    × ((p : ℕ) → p < l.seat → get_or (map part_of l.seats.items) p (fresh_part Vacant l.run l.tail) ≡ fresh_part (if is_taken l.sessions p then Idle else Vacant) l.run l.tail)
    × ((p : ℕ) → p < l.seat → get_or (map (λ (x : SeatState). x.flushes) l.seats.items) p false ≡ is_flusher p)
    × ((p : ℕ) → p < l.seat → get_or (map (λ (x : SeatState). x.promised) l.seats.items) p false ≡ false)
