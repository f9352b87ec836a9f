-- What was gathered is cleared in the ring, and then flushed.
use Rattle.std.proofs.Common.{◌≡◌, ℕ, ◌+◌, ◌<◌, ◌≤◌, ⊎_elim, true, Some, refl, sym, ap, ◌∙◌, subst, arith}
use Rattle.std.proofs.lemmas.Bool.{cases_eq, eqb-true}
use Rattle.std.proofs.lemmas.Option.{same_Some}
use Rattle.erm_model.specs.declared.limits.TheConstants.{LAST_RUN}
use Rattle.erm_machine.specs.declared.attempt.Attempt.{Attempt}
use Rattle.erm_machine.specs.declared.event.Kind.{Kind}
use Rattle.erm_machine.specs.declared.event.Kind.TheVariants as kind
use Rattle.erm_machine.specs.declared.limits.TheConstants.{FLUSH_SEAT}
use Rattle.erm_machine.specs.declared.part.Flushing.{Flushing}
use Rattle.erm_machine.specs.declared.part.Flushing.TheVariants as flushing
use Rattle.erm_machine.specs.declared.place.Place.{Place}
use Rattle.erm_machine.specs.declared.task.Task.{Task}
use Rattle.erm_machine.specs.Core.{Core, Shared}
use Rattle.erm_machine.specs.Life.{is_between}
use Rattle.erm_machine.specs.Log.{Gathering, IsFlushing}
use Rattle.erm_machine.specs.Sound.{Sound}
use Rattle.erm_machine.specs.Step.{after_event}
use Rattle.erm_machine.specs.Seat.{is_snapshot}
use Rattle.erm_core_flush.specs.Turns.{Turns}
use Rattle.erm_core_flush.proofs.Turns.{clear_turns, first_turns, store_turns}
use Rattle.erm_core_view.specs.Views.{IsBetween, IsQuiet, IsStill, pin_of}
use Rattle.erm_core_turns.specs.Turns.{Flushes, HasCleared, HasToClear, PinStays, blocks_below, gathered_place, log_of}
use Rattle.erm_core_turns.proofs.Blocks.{place_of}
use Rattle.erm_core_turns.proofs.Gathers.{TurnStep, turn_step}
use Rattle.erm_core_turns.proofs.Turns.{flushes_both, flushes_none, log_same, pin_both, pin_none, quiet_turn}

abbrev F : ℕ
F = FLUSH_SEAT

-- Where something is gathered beyond flushed, the flush seat is between two blocks, and so it may clear.
record MayClear (flushed : ℕ) (f : Flushing) : Type 0 where
  tail : ℕ
  from : ℕ
  block : ℕ
  end : ℕ
  is : f ≡ flushing.Gathers tail from block end end
  place : gathered_place flushed f ≡ block

may_clear : (flushed : ℕ) (f : Flushing) → is_between f ≡ true → flushed < gathered_place flushed f → MayClear flushed f
may_clear flushed (flushing.Gathers tail from block next end) e less = record {
  tail = tail;
  from = from;
  block = block;
  end = end;
  is = ap (λ (k : ℕ). flushing.Gathers tail from block k end) (eqb-true next end e);
  place = refl;
}
may_clear flushed _ e less = absurd (omega (arith, less))

pub has_to_clear : (sessions end : ℕ) (c : Core) → Sound c → IsQuiet sessions c → end ≡ place_of c → c.shared.flushed < end → HasToClear c.shared.flushed end c
has_to_clear sessions end c sound quiet is less =
    let m = may_clear c.shared.flushed (c.seats F).flushing (quiet.flusher F refl).turn (omega (arith, is, less)) in
    let turn : Gathering c.shared c.seats (c.seats F).gathered_to m.tail m.from m.block m.end m.end = subst (IsFlushing c.shared c.seats (c.seats F).gathered_to) m.is sound.common.log.turn in
    let here : m.block ≡ m.end = turn.between refl in
    let all : m.block ≡ end = sym m.place ∙ sym is in
    let last : m.end ≡ end = sym here ∙ all in
    record {
      some = less;
      tail = m.tail;
      is =
          m.is ∙ ap (λ (n : ℕ). flushing.Gathers m.tail n m.block m.end m.end) turn.from_flushed ∙ ap (λ (n : ℕ). flushing.Gathers m.tail c.shared.flushed n m.end m.end) all
          ∙ ap (λ (n : ℕ). flushing.Gathers m.tail c.shared.flushed end n n) last;
    }

-- THE CLEARS. It is about to clear the word at a place: the first, or a later one.
pub record Clears (from end at : ℕ) (b c : Core) : Type 0 where
  pub flushes : Flushes b c
  pub pin : PinStays b c
  pub flushed : c.shared.flushed ≡ b.shared.flushed
  pub first : at ≡ from → HasToClear from end c
  pub later : from < at → (c.seats F).flushing ≡ flushing.Clears at end

pub clears_none : (from end : ℕ) (b : Core) → HasToClear from end b → Clears from end from b b
clears_none from end b has = record { flushes = flushes_none b; pin = pin_none b; flushed = refl; first = λ e. has; later = λ less. absurd (omega (arith, less)) }

module _ (from end at : ℕ) (b c : Core) (sound : Sound c) (have : Clears from end at b c) (low : from ≤ at) (less : at < end) where
  turns : Turns c (kind.ClearRing at) (flushing.Clears (at + 1) end)
  turns =
      ⊎_elim
      (λ (e : at ≡ from).
      let has = have.first e in
      subst (λ (n : ℕ). Turns c (kind.ClearRing n) (flushing.Clears (n + 1) end)) (sym e)
      (first_turns c sound has.tail from end end end has.is refl (omega (arith, e, less))))
      (λ (ne : at ≡ from → ⊥). clear_turns c sound at end (have.later (omega (arith, ne, low))) less)
      (cases_eq at from)

  pub clear_taken : (d : Core) × (after_event c F (kind.ClearRing at) ≡ Some d)
  clear_taken = (turns.after, turns.takes)

  pub clears_more : (d : Core) → after_event c F (kind.ClearRing at) ≡ Some d → Clears from end (at + 1) b d
  clears_more d e =
      let step : TurnStep c d (kind.ClearRing at) = turn_step c d (kind.ClearRing at) tt e in
      let leads : (d.seats F).flushing ≡ flushing.Clears (at + 1) end = ap (λ (x : Core). (x.seats F).flushing) (same_Some d turns.after (sym e ∙ turns.takes)) ∙ turns.leads in
      record {
        flushes = flushes_both b c d have.flushes step.flushes;
        pin = pin_both b c d have.pin step.pin;
        flushed = ap (λ (s : Shared). s.flushed) step.shared ∙ have.flushed;
        first = λ e. absurd (omega (arith, e, low));
        later = λ on. leads;
      }

pub all_cleared : (from end : ℕ) (b c : Core) → from < end → Clears from end end b c → HasCleared end end b c
all_cleared from end b c less have = record { flushes = have.flushes; pin = have.pin; flushed = have.flushed; clears = have.later less }

-- FLUSHED is stored.
pub store_taken : (end : ℕ) (b c : Core) → Sound c → HasCleared end end b c → (d : Core) × (after_event c F (kind.StoreFlushed end) ≡ Some d)
store_taken end b c sound has = let t = store_turns c sound end has.clears in (t.0.after, t.0.takes)

pub flush_done : (sessions end : ℕ) (b c d : Core) → Sound c → IsQuiet sessions b → b.shared.flushed < end → end ≡ place_of b → end ≤ b.shared.tail → HasCleared end end b c
    → after_event c F (kind.StoreFlushed end) ≡ Some d → Flushes b d × IsQuiet sessions d × (log_of sessions d ≡ record (log_of sessions b) { flushed = end })
flush_done sessions end b c d sound quiet above is within has e =
    let k : Kind = kind.StoreFlushed end in
    let step : TurnStep c d k = turn_step c d k tt e in
    let t = store_turns c sound end has.clears in
    let still : (d.seats F).flushing ≡ flushing.Still = ap (λ (x : Core). (x.seats F).flushing) (same_Some d t.0.after (sym e ∙ t.0.takes)) ∙ t.0.leads in
    let flushed : d.shared.flushed ≡ end = ap (λ (s : Shared). s.flushed) step.shared in
    let all : Flushes b d = flushes_both b c d has.flushes step.flushes in
    let pin : PinStays b d = pin_both b c d has.pin step.pin in
    let was = quiet.flusher F refl in
    let after : IsStill (d.seats F) = record {
      over = all.over ∙ was.over;
      reads = ap (λ (t : Attempt). t.reads) pin.current ∙ was.reads;
      writes = ap (λ (t : Attempt). t.writes) pin.current ∙ was.writes;
      made = ap (λ (t : Attempt). t.made) pin.current ∙ was.made;
      rests = subst (λ (p : Place). IsBetween p (d.seats F).task) (sym pin.place) (subst (λ (u : Task). IsBetween (b.seats F).place u) (sym pin.task) was.rests);
      plain = ap is_snapshot pin.task ∙ was.plain;
      turn = ap is_between still;
      run = subst (λ (n : ℕ). n ≤ LAST_RUN) (sym pin.run) was.run;
    } in
    let opening = all.shared.opening in
    let last = all.shared.tail in
    let low = quiet.flushed.0 in
    let place : gathered_place d.shared.flushed (d.seats F).flushing ≡ place_of b = ap (gathered_place d.shared.flushed) still ∙ flushed ∙ is in (
      all,
      quiet_turn sessions b d quiet all after (omega (arith, opening, flushed, low, above), omega (arith, flushed, last, within)),
      log_same sessions b d quiet all
          ∙ ap (λ (n : ℕ). record (log_of sessions b) { flushed = d.shared.flushed; gathered = blocks_below b n; pinned = pin_of (d.seats F).place (d.seats F).current }) place
          ∙ ap (λ (n : ℕ). record (log_of sessions b) { flushed = n; pinned = pin_of (d.seats F).place (d.seats F).current }) flushed
          ∙ ap (λ (p : Place). record (log_of sessions b) { flushed = end; pinned = pin_of p (d.seats F).current }) pin.place
          ∙ ap (λ (t : Attempt). record (log_of sessions b) { flushed = end; pinned = pin_of (b.seats F).place t }) pin.current,
    )
