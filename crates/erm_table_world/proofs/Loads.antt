-- Loads of an active session, which the world doesn't show.
use Rattle.std.proofs.Common.{◌≡◌, ℕ, true, List, [], ◌∷◌, Some, sym, subst, false}
use Rattle.erm_model.specs.RowTransaction.{Law}
use Rattle.erm_machine.specs.declared.event.Kind.{Kind}
use Rattle.erm_machine.specs.declared.event.Kind.TheVariants as kind
use Rattle.erm_machine.specs.declared.event.TailUse.TheVariants as purpose
use Rattle.erm_machine.specs.declared.part.Part.{Part}
use Rattle.erm_machine.specs.declared.place.Place.{Place}
use Rattle.erm_machine.specs.declared.place.Place.TheVariants.{Active}
use Rattle.erm_machine.specs.declared.task.Task.{Task}
use Rattle.erm_machine.specs.declared.task.Task.TheVariants as task
use Rattle.erm_machine.specs.Core.{Core, spot_of, word_at}
use Rattle.erm_machine.specs.Life.{load_back, load_tail_to_begin}
use Rattle.erm_machine.specs.Seat.{is_active, is_snapshot}
use Rattle.erm_machine.specs.Step.{after_event}
use Rattle.erm_machine.proofs.QuietKinds.{moves}
use Rattle.erm_core_view.specs.Views.{session_of}
use Rattle.erm_core_view.proofs.Moved.{calm_shows}
use Rattle.erm_core_steps.specs.Reads.{GoesOn, IsAtWork}
use Rattle.erm_core_steps.proofs.Unseen.{unseen_step}
use Rattle.erm_core_steps.proofs.Ways.{active_kept, goes_both, goes_none}
use Rattle.erm_rule.specs.declared.view.Book.{Book}
use Rattle.erm_rule.specs.Steps.{Booked}
use Rattle.erm_rule.specs.Went.{AllSteps, IsLoadStep, IsStillStep, Took, Went, core_of}
use Rattle.erm_table_world.specs.Stands.{IsStateful}
use Rattle.erm_table_world.proofs.Still.{still_drawn, still_flushed}
use Rattle.erm_table_world.proofs.Wholly.{runs, took_ran}

pub load_still : (k : Kind) (found : ℕ) → IsLoadStep k found → IsStillStep k found
load_still (kind.AddTail size) found is = is
load_still (kind.StoreFlushed value) found is = is
load_still (kind.Split other) found is = is
load_still (kind.Join other) found is = is
load_still _ found is = tt

-- an active session doesn't load the tail to begin
no_begin : (seat found : ℕ) (x y : Part) (pl : Place) → is_active pl ≡ true → load_tail_to_begin seat found x pl ≡ Some y → ⊥
no_begin seat found x y (Active tail) active e = absurd (cc)
no_begin seat found x y _ active e = absurd (cc)

-- one without a snapshot looks at no back word
no_look : (other found : ℕ) (x : Part) (t : Task) (y : Part) → is_snapshot t ≡ false → load_back other found x t ≡ Some y → ⊥
no_look other found x (task.Behind next) y plain e = absurd (cc)
no_look other found x _ y plain e = absurd (cc)

-- a seat that may not begin shows nothing of its loads
pub load_shows : (seat : ℕ) (c d : Core) (k : Kind) (found : ℕ) → IsLoadStep k found → is_snapshot (c.seats seat).task ≡ false → ((y : Part) → load_tail_to_begin seat c.shared.tail (c.seats seat) (c.seats seat).place ≡ Some y → ⊥)
    → after_event c seat k ≡ Some d → session_of (d.seats seat) ≡ session_of (c.seats seat)
load_shows seat c d (kind.LoadTail purpose.Begin) found is plain none e =
    let m = moves c seat (kind.LoadTail purpose.Begin) d tt e in
    absurd (none m.part m.after)
load_shows seat c d (kind.LoadTail purpose.Horizon) found is plain none e = calm_shows seat c d (kind.LoadTail purpose.Horizon) tt e
load_shows seat c d (kind.LoadTail purpose.Gather) found is plain none e = calm_shows seat c d (kind.LoadTail purpose.Gather) tt e
load_shows seat c d (kind.LoadBegin q) found is plain none e = calm_shows seat c d (kind.LoadBegin q) plain e
load_shows seat c d (kind.LoadState q bound) found is plain none e = calm_shows seat c d (kind.LoadState q bound) tt e
load_shows seat c d (kind.LoadEntry oid) found is plain none e = calm_shows seat c d (kind.LoadEntry oid) tt e
load_shows seat c d (kind.LoadCell v w) found is plain none e = calm_shows seat c d (kind.LoadCell v w) tt e
load_shows seat c d (kind.LoadCounter counter) found is plain none e = calm_shows seat c d (kind.LoadCounter counter) tt e
load_shows seat c d (kind.LoadReaders v) found is plain none e = calm_shows seat c d (kind.LoadReaders v) tt e
load_shows seat c d (kind.LoadStamp v w) found is plain none e = calm_shows seat c d (kind.LoadStamp v w) tt e
load_shows seat c d (kind.LoadRing at) found is plain none e = calm_shows seat c d (kind.LoadRing at) tt e
load_shows seat c d kind.LoadFlushed found is plain none e = calm_shows seat c d kind.LoadFlushed tt e
load_shows seat c d (kind.LoadDetached v) found is plain none e = calm_shows seat c d (kind.LoadDetached v) tt e
load_shows seat c d (kind.LoadBack q) found is plain none e =
    let m = moves c seat (kind.LoadBack q) d tt e in
    absurd (no_look q (word_at c (spot_of seat (kind.LoadBack q))) (c.seats seat) (c.seats seat).task m.part plain m.after)
load_shows seat c d _ found is plain none e = absurd is

pub load_goes : (law : Law) (sessions seat : ℕ) (k : Kind) (found : ℕ) (b e : Book) → Booked law b seat k found e → IsStateful law b → IsLoadStep k found → IsAtWork seat (core_of b)
    → GoesOn sessions seat (core_of b) (core_of e)
load_goes law sessions seat k found b e booked state is at =
    let run = runs law b seat k found e booked state in
    let same = load_shows seat (core_of b) (core_of e) k found is at.plain (λ y. no_begin seat (core_of b).shared.tail ((core_of b).seats seat) y ((core_of b).seats seat).place at.active) run.event in
    let still = load_still k found is in
    let kept = active_kept ((core_of b).seats seat) ((core_of e).seats seat) same at.active at.plain in
    record {
      unseen =
          unseen_step sessions seat (core_of b) (core_of e) k state.sound.sound run.one (still_drawn k found still) (still_flushed k found (core_of b).shared.flushed still) run.event same;
      at = record { session = at.session; active = kept.0; plain = kept.1 };
    }

pub loads_go : (law : Law) (sessions seat : ℕ) (steps : List (Kind × ℕ)) (b e : Book) → Took law seat steps b e → AllSteps IsLoadStep steps → IsStateful law b → IsAtWork seat (core_of b)
    → GoesOn sessions seat (core_of b) (core_of e)
loads_go law sessions seat [] b e same all state at = subst (λ (z : Book). GoesOn sessions seat (core_of b) (core_of z)) (sym same) (goes_none sessions seat (core_of b) at)
loads_go law sessions seat (s ∷ steps) b e took all state at =
    let first = loads_go law sessions seat steps b took.0 took.1 all.1 state at in
    goes_both sessions seat (core_of b) (core_of took.0) (core_of e) first
    (load_goes law sessions seat s.0 s.1 took.0 e took.2 (took_ran law sessions seat steps b took.0 took.1 state).state all.0 first.at)

pub went_go : (law : Law) (sessions seat : ℕ) (b e : Book) → Went law seat IsLoadStep b e → IsStateful law b → IsAtWork seat (core_of b) → GoesOn sessions seat (core_of b) (core_of e)
went_go law sessions seat b e went state at = loads_go law sessions seat went.steps b e went.took went.all state at
