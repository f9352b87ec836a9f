-- Whose begin word, and whose back word, a snapshot finds.
use Rattle.std.proofs.Common.{◌≡◌, ℕ, ◌<◌, ◌≤◌, ◌⊎◌, ⊎_elim, refl, inl, inr, arith}
use Rattle.erm_model.specs.Member.{◌∈◌}
use Rattle.erm_machine.specs.declared.attempt.Attempt.{Attempt}
use Rattle.erm_machine.specs.declared.place.Place.{Place}
use Rattle.erm_machine.specs.declared.place.Place.TheVariants.{Vacant, Idle, Begun, Announced, Active, Sealing, Drawn, Sealed, Decided, Leaving}
use Rattle.erm_machine.specs.Back.{GoesBack}
use Rattle.erm_machine.specs.Begins.{BeginsAt}
use Rattle.erm_machine.specs.Core.{Core}
use Rattle.erm_machine.specs.Decided.{record_of}
use Rattle.erm_machine.specs.Facts.{all_of, HasBegun}
use Rattle.erm_machine.specs.Lives.{IsBeginning}
use Rattle.erm_machine.specs.Sound.{Sound}
use Rattle.erm_machine.specs.Words.{begin_of}
use Rattle.erm_machine.proofs.Histories.{in_history}
use Rattle.erm_core_met.specs.Met.{HasGoneBack, IsBegunFrom}

begun_from : (pl : Place) (begin now : ℕ) → BeginsAt pl begin now → 0 < begin_of pl → (HasBegun pl × (begin_of pl ≤ begin)) ⊎ (IsBeginning pl × (begin_of pl ≤ now))
begun_from Vacant begin now at some = absurd (omega (arith, some))
begun_from Idle begin now at some = absurd (omega (arith, some))
begun_from (Begun tail) begin now at some = absurd (omega (arith, some))
begun_from (Announced tail) begin now at some = inr (tt, at.1)
begun_from (Active tail) begin now at some = inl (tt, at.announced)
begun_from (Sealing tail) begin now at some = inl (tt, at.announced)
begun_from (Drawn tail stamp) begin now at some = inl (tt, at.is_begin.announced)
begun_from (Sealed tail stamp) begin now at some = inl (tt, at.is_begin.announced)
begun_from (Decided tail stamp) begin now at some = inl (tt, at.is_begin.announced)
begun_from (Leaving stamp) begin now at some = absurd (omega (arith, some))

stands : (pl : Place) (begin now : ℕ) → BeginsAt pl begin now → HasBegun pl → 0 < begin_of pl
stands (Active tail) begin now at begun = at.positive
stands (Sealing tail) begin now at begun = at.positive
stands (Drawn tail stamp) begin now at begun = at.is_begin.positive
stands (Sealed tail stamp) begin now at begun = at.is_begin.positive
stands (Decided tail stamp) begin now at begun = at.is_begin.positive
stands _ begin now at begun = absurd begun

pub begun_is : (c : Core) (other : ℕ) → Sound c → 0 < begin_of (c.seats other).place → IsBegunFrom c other (begin_of (c.seats other).place)
begun_is c other sound some = begun_from (c.seats other).place (c.seats other).current.begin c.shared.tail (sound.own other).begins.begins some

pub begin_stands : (c : Core) (other : ℕ) → Sound c → HasBegun (c.seats other).place → 0 < begin_of (c.seats other).place
begin_stands c other sound begun = stands (c.seats other).place (c.seats other).current.begin c.shared.tail (sound.own other).begins.begins begun

pub back_is : (c : Core) (other : ℕ) → Sound c → 0 < (c.seats other).back → HasGoneBack c other (c.seats other).back
back_is c other sound some =
    ⊎_elim
    (λ (none : (c.seats other).back ≡ 0). absurd (omega (arith, none, some)))
    (λ (h : (t : Attempt) × (t ∈ all_of (c.seats other)) × GoesBack t × (t.stamp ≡ (c.seats other).back)).
    let t = h.0 in
    let low = sound.common.decided.seats_of other t h.1 h.2.commit in
    record {
      by = record_of other t;
      committed = in_history c.seats other t low h.1 h.2.commit;
      seat_is = refl;
      stamp_is = h.3;
      less = let less = h.2.less in let is = h.3 in omega (arith, less, is);
    }) (sound.own other).back.of
