-- A pin is made by a begin of the flush seat, which is refused none, and ended by a store into its begin word.
use Rattle.std.proofs.Common.{◌≡◌, ℕ, true, ◌==◌, List, [], length, Option, Some, refl, ap, ◌∙◌}
use Rattle.erm_cells.specs.Calls.{starts_anew}
use Rattle.erm_cells.proofs.Heads.{has}
use Rattle.erm_cells.proofs.Views.{both, ready_at, told_is, when_true}
use Rattle.erm_machine.specs.declared.attempt.Attempt.{Attempt}
use Rattle.erm_machine.specs.declared.attempt.Claim.{Claim}
use Rattle.erm_machine.specs.declared.attempt.Read.{Read}
use Rattle.erm_machine.specs.declared.event.Kind.TheVariants as kind
use Rattle.erm_machine.specs.declared.limits.TheConstants.{FLUSH_SEAT}
use Rattle.erm_machine.specs.declared.part.Part.{Part}
use Rattle.erm_machine.specs.declared.place.Place.{Place}
use Rattle.erm_machine.specs.declared.place.Place.TheVariants.{Active}
use Rattle.erm_machine.specs.declared.task.Task.{Task}
use Rattle.erm_machine.specs.declared.task.Task.TheVariants as task
use Rattle.erm_machine.specs.Core.{Shared, spot_of, word_at}
use Rattle.erm_machine.specs.Life.{has_ended, store_begin}
use Rattle.erm_machine.specs.Seat.{end_of, is_active, is_vacant}
use Rattle.erm_machine.specs.Step.{part_after}
use Rattle.erm_rule.specs.declared.view.View.{View}
use Rattle.erm_rule.specs.Steps.{Ready, Told}
use Rattle.erm_rule.specs.Views.{part_in, part_of}
use Rattle.erm_rule.proofs.Numbered.{known_after}
use Rattle.erm_rule.proofs.Telling.{held_part, part_of-changed}
use Rattle.erm_seats.specs.declared.answer.BeginStop.{BeginStop}
use Rattle.erm_seats.specs.declared.answer.BeginStop.TheVariants.{LogEnd}
use Rattle.erm_seats.specs.Calls.{DidBegin, DidStop, begun_part}
use Rattle.erm_pin.specs.Pins.{DidUnpin, IsPinned, IsUnpinned, unpinned_part}

abbrev F : ℕ
F = FLUSH_SEAT

-- THE PIN that a begin leaves
module _ (v w : View) (begin : ℕ) (unpinned : IsUnpinned v) (did : DidBegin v F begin w) where
  part_now : part_of w F ≡ begun_part F did.announced begin (part_of v F)
  part_now = part_of-changed v F w (begun_part F did.announced begin (part_of v F)) (part_of v F) (held_part v F (ap is_vacant unpinned)) did.view_is

  pub pinned_now : IsPinned w
  pinned_now = record {
    active = ap (λ (x : Part). is_active x.place) part_now;
    reads = ap (λ (x : Part). x.current.reads) part_now;
    writes = ap (λ (x : Part). x.current.writes) part_now;
    starts = ap (λ (x : Part). starts_anew x.task) part_now;
  }

  pub place_now : (part_of w F).current.begin ≡ begin
  place_now = ap (λ (x : Part). x.current.begin) part_now

-- the flush seat is refused no begin
pub not_stopped : (v w : View) (stop : BeginStop) → DidStop v F stop w → ⊥
not_stopped v w (LogEnd tail) stopped = let session = stopped.1 in cc

-- ITS END. A call that may start has ended nothing yet, and there is nothing to end.
none_ended : (t : Attempt) → t.reads ≡ [] → t.writes ≡ [] → has_ended t (Some (0, 0, 0, 0)) ≡ true
none_ended t reads writes = both _ _ (ap (λ (ws : List Claim). 0 == length ws) writes) (ap (λ (rs : List Read). 0 == length rs) reads)

has_none : (u : Task) → starts_anew u ≡ true → end_of u ≡ Some (0, 0, 0, 0)
has_none task.Rest e = refl
has_none (task.Owned oid owner) e = refl
has_none (task.Walks version head) e = refl
has_none (task.Passed version) e = refl
has_none (task.Found version stamp head) e = refl
has_none (task.Registered version) e = refl
has_none (task.Overtaken version overwriter) e = refl
has_none (task.Rated version) e = refl
has_none task.Numbers e = refl
has_none _ e = absurd (cc)

clears_begin : (x : Part) (pl : Place) → is_active pl ≡ true → has_ended x.current (end_of x.task) ≡ true → store_begin F 0 x pl ≡ Some (unpinned_part x)
clears_begin x (Active tail) active ended = when_true _ _ ended
clears_begin x _ active ended = absurd (cc)

module _ (v : View) (pinned : IsPinned v) where
  abbrev x : Part
  x = part_of v F

  pub pin_held : part_in v F ≡ Some (part_of v F)
  pin_held = has v F pinned.active

  ended : has_ended x.current (end_of x.task) ≡ true
  ended = ap (λ (o : Option (ℕ × ℕ × ℕ × ℕ)). has_ended x.current o) (has_none x.task pinned.starts) ∙ none_ended x.current pinned.reads pinned.writes

  unpins : (found : ℕ) (s : Shared) → part_after F (kind.StoreBegin 0) found s x ≡ Some (unpinned_part x)
  unpins found s = clears_begin x x.place pinned.active ended

  pub unpin_ready : Ready v F (kind.StoreBegin 0)
  unpin_ready = ready_at v F (kind.StoreBegin 0) x pin_held (λ c. unpinned_part x) (λ c sound. unpins (word_at c (spot_of F (kind.StoreBegin 0))) c.shared)

  pub did_unpin : (found : ℕ) (w : View) → Told v F (kind.StoreBegin 0) found w → DidUnpin v w
  did_unpin found w told = record {
    view_is = told_is v F (kind.StoreBegin 0) found w x (unpinned_part x) pin_held told (unpins found told.before.shared);
    known = known_after v F (kind.StoreBegin 0) found w told;
  }
