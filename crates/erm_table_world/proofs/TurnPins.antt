-- A pin and its end: their steps in the one state.
use Rattle.std.proofs.Common.{◌≡◌, ℕ, true, Some, None, refl, sym, ap, ◌∙◌, subst}
use Rattle.std.specs.Prelude.{IsSome}
use Rattle.std.proofs.lemmas.Option.{same_Some}
use Rattle.erm_core_turns.proofs.Pins.{is_pinned, pin_done, unpin_done, unpinned}
use Rattle.erm_core_view.specs.Views.{pin_of}
use Rattle.erm_machine.specs.declared.event.Kind.TheVariants as kind
use Rattle.erm_machine.specs.declared.event.TailUse.TheVariants as purpose
use Rattle.erm_machine.specs.declared.limits.TheConstants.{FLUSH_SEAT}
use Rattle.erm_machine.specs.declared.attempt.Attempt.{Attempt}
use Rattle.erm_machine.specs.declared.part.Part.{Part}
use Rattle.erm_machine.specs.declared.place.Place.{Place}
use Rattle.erm_machine.specs.declared.place.Place.TheVariants.{Active}
use Rattle.erm_machine.specs.Seat.{is_active}
use Rattle.erm_machine.specs.Step.{after_event}
use Rattle.erm_cells.specs.Calls.{starts_anew}
use Rattle.erm_model.specs.RowTransaction.{Law}
use Rattle.erm_rule.specs.declared.view.Book.{Book}
use Rattle.erm_rule.specs.Steps.{Booked}
use Rattle.erm_rule.specs.Views.{part_of}
use Rattle.erm_rule.specs.Went.{core_of}
use Rattle.erm_seats.specs.Took.{TookBegin}
use Rattle.erm_world.specs.Log.{Log}
use Rattle.erm_pin.specs.Pins.{DidUnpin, IsPinned, IsUnpinned, unpinned_part}
use Rattle.erm_table_world.proofs.Covered.{turn_covered}
use Rattle.erm_table_world.specs.Stands.{IsStateful, StandsAt}
use Rattle.erm_table_world.specs.Flusher.{pin_in, task_in}
use Rattle.erm_table_world.specs.Turns.{Turned, book_log}
use Rattle.erm_table_world.proofs.Beginning.{took_alone}
use Rattle.erm_table_world.proofs.Wholly.{part_is, part_set, runs}

abbrev F : ℕ
F = FLUSH_SEAT

-- the place pinned is the begin stamp
pin_begins : (pl : Place) (t : Attempt) (place : ℕ) → pin_of pl t ≡ Some place → place ≡ t.begin
pin_begins (Active tail) t place e = sym (same_Some t.begin place e)
pin_begins _ t place e = absurd (cc)

pub begins_at : (b : Book) (place : ℕ) → pin_in b ≡ Some place → place ≡ ((core_of b).seats F).current.begin
begins_at b place is = pin_begins ((core_of b).seats F).place ((core_of b).seats F).current place is

pub begin_in_view : (law : Law) (b : Book) (place : ℕ) → IsStateful law b → pin_in b ≡ Some place → (part_of b.view F).current.begin ≡ place
begin_in_view law b place state is = ap (λ (x : Part). x.current.begin) (part_is law b F state refl) ∙ sym (begins_at b place is)

-- where the flush seat stands in its call, by the pass's view
starts_in_view : (law : Law) (b : Book) → IsStateful law b → starts_anew (part_of b.view F).task ≡ true → starts_anew (task_in b) ≡ true
starts_in_view law b state starts = ap (λ (x : Part). starts_anew x.task) (sym (part_is law b F state refl)) ∙ starts

unpinned_starts : (law : Law) (b e : Book) → IsStateful law b → IsStateful law e → DidUnpin b.view e.view → starts_anew (task_in e) ≡ true
unpinned_starts law b e before after did =
    ap (λ (x : Part). starts_anew x.task) (part_set law b e F (unpinned_part (part_of b.view F)) before after refl did.view_is)

module _ (law : Law) (sessions : ℕ) (b e : Book) (at : StandsAt law sessions b) where
  -- what a pin asks of the pass's view, and what other calls as of one do
  pub is_unpinned : (book_log sessions b).pinned ≡ None → IsUnpinned b.view
  is_unpinned none = ap (λ (x : Part). x.place) (part_is law b F at.state refl) ∙ unpinned sessions (core_of b) at.state.sound.sound at.quiet none

  pub pin_in_view : IsSome (book_log sessions b).pinned → IsPinned b.view
  pin_in_view some =
      let is = part_is law b F at.state refl in
      let still = at.quiet.flusher F refl in
      let pinned = is_pinned sessions (core_of b) at.state.sound.sound at.quiet some in
      record {
        active = ap (λ (x : Part). is_active x.place) is ∙ ap is_active pinned.place;
        reads = ap (λ (x : Part). x.current.reads) is ∙ still.reads;
        writes = ap (λ (x : Part). x.current.writes) is ∙ still.writes;
        starts = ap (λ (x : Part). starts_anew x.task) is ∙ at.starts;
      }

  pub record Pins (place : ℕ) : Type 0 where
    pub turned : Turned law sessions b e
    pub place_is : place ≡ (core_of b).shared.tail
    pub log_is : book_log sessions e ≡ record (book_log sessions b) { tail = place; pinned = Some place }

  pub pins : (place : ℕ) → (book_log sessions b).pinned ≡ None → TookBegin law F place b e → starts_anew (part_of e.view F).task ≡ true → Pins place
  pins place none took starts =
      let steps = took.took in
      let first = took_alone law F (kind.LoadTail purpose.Begin, took.announced) b steps.1.0 steps.1.1 in
      let one = runs law b F (kind.LoadTail purpose.Begin) took.announced steps.1.0 first at.state in
      let two = runs law steps.1.0 F (kind.StoreBegin took.announced) took.word steps.0 steps.1.2 one.state in
      let three = runs law steps.0 F (kind.LoadTail purpose.Begin) place e steps.2 two.state in
      let found : (core_of b).shared.tail ≡ took.announced = one.met in
      let idle = unpinned sessions (core_of b) at.state.sound.sound at.quiet none in
      let done =
      pin_done sessions (core_of b) (core_of steps.1.0) (core_of steps.0) (core_of e) at.quiet idle one.event
      (subst (λ (n : ℕ). after_event (core_of steps.1.0) F (kind.StoreBegin n) ≡ Some (core_of steps.0)) (sym found) two.event) three.event
      in
      let met : (core_of steps.0).shared.tail ≡ place = three.met in
      let same : place ≡ (core_of b).shared.tail = sym met ∙ done.3 in
      record {
        turned = record {
          at = record {
            state = three.state;
            quiet = done.1;
            covered = turn_covered sessions (core_of b) (core_of e) at.quiet done.0 at.covered;
            starts = starts_in_view law e three.state starts;
          };
          flushes = done.0;
        };
        place_is = same;
        log_is = done.2 ∙ ap (λ (n : ℕ). let log : Log = record (book_log sessions b) { tail = n; pinned = Some n } in log) (sym same);
      }

  pub record Unpins : Type 0 where
    pub turned : Turned law sessions b e
    pub log_is : book_log sessions e ≡ record (book_log sessions b) { pinned = None }

  pub unpins : (found : ℕ) → IsSome (book_log sessions b).pinned → Booked law b F (kind.StoreBegin 0) found e → DidUnpin b.view e.view → Unpins
  unpins found some booked did =
      let run = runs law b F (kind.StoreBegin 0) found e booked at.state in
      let done = unpin_done sessions (core_of b) (core_of e) at.quiet (is_pinned sessions (core_of b) at.state.sound.sound at.quiet some) run.event in
      record {
        turned = record {
          at = record {
            state = run.state;
            quiet = done.1;
            covered = turn_covered sessions (core_of b) (core_of e) at.quiet done.0 at.covered;
            starts = unpinned_starts law b e at.state run.state did;
          };
          flushes = done.0;
        };
        log_is = done.2;
      }
