-- What steps leave of their seat's room.
use Rattle.std.proofs.Common.{◌≡◌, ℕ, true, false, refl, ap, arith}
use Rattle.erm_machine.specs.declared.event.Kind.{Kind}
use Rattle.erm_machine.specs.declared.event.Kind.TheVariants as kind
use Rattle.erm_machine.specs.Words.{is_session, is_flusher}
use Rattle.erm_seat.specs.declared.seat.SeatState.{SeatState}
use Rattle.erm_seat.specs.Rooms.{Growth, no_growth, growth_in, GrowsBy, GoesOn, MayDraw, MayEnd, Leaves}
use Rattle.erm_seat.specs.Needs.{one}

-- a session's seat isn't the flush seat
pub session_flushes_not : (seat : ℕ) → is_session seat ≡ true → is_flusher seat ≡ false
session_flushes_not seat e = grind arith

grows_more : (g : Growth) (x y : SeatState) → GrowsBy no_growth x y → GrowsBy g x y
grows_more g x y h =
    let reads = h.reads in
    let claims = h.claims in
    let made = h.made in
    let words = h.words in
    let spare = h.spare in
    record {
      reads = omega (arith, reads);
      claims = omega (arith, claims);
      made = omega (arith, made);
      words = omega (arith, words);
      spare = omega (arith, spare);
    }

-- a step that adds nothing adds no more than a step of this kind
goes_on_more : (g : Growth) (x y : SeatState) → GoesOn no_growth x y → GoesOn g x y
goes_on_more g x y h = record { seat = h.seat; over = h.over; promised = h.promised; lists = h.lists; grows = grows_more g x y h.grows }

pub may_end : (x y : SeatState) → GoesOn no_growth x y → MayEnd x y
may_end x y h = let over = h.over in record { seat = h.seat; over = omega (arith, over); promised = h.promised; lists = λ _. h.lists; grows = h.grows }

-- a step that isn't done
pub may_draw : (x y : SeatState) → GoesOn no_growth x y → MayDraw false x y
may_draw x y h =
    let same : one y.promised ≡ one x.promised = ap one h.promised in
    record { seat = h.seat; over = h.over; promised = omega (arith, same); lists = h.lists; grows = h.grows }

pub leaves_all : (k : Kind) (cells : ℕ) (x y : SeatState) → GoesOn no_growth x y → Leaves k cells false x y
leaves_all (kind.AddTail size) cells x y h = may_draw x y h
leaves_all (kind.StoreBegin value) cells x y h = may_end x y h
leaves_all (kind.StoreState value) cells x y h = may_end x y h
leaves_all k cells x y h = goes_on_more (growth_in k cells) x y h

-- a seat that stays as it was
pub stays : (x : SeatState) → GoesOn no_growth x x
stays x = record {
  seat = record { flushes = refl; over = refl; spare = refl };
  over = refl;
  promised = refl;
  lists = record { reads = refl; writes = refl; made = refl; block = refl };
  grows = record { reads = omega arith; claims = omega arith; made = omega arith; words = omega arith; spare = omega arith };
}
