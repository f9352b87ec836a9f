-- A session of the word table where its calls begin, and where they end.
use Rattle.std.proofs.Common.{◌≡◌, ℕ, ◌≤◌, true, false, List, Some, refl, sym, ap, ◌∙◌, subst}
use Rattle.erm_model.specs.declared.outcome.Phase.TheVariants as phase
use Rattle.erm_model.specs.RowTransaction.{Law}
use Rattle.erm_machine.specs.declared.event.Kind.{Kind}
use Rattle.erm_machine.specs.declared.part.Part.{Part}
use Rattle.erm_machine.specs.declared.place.Place.{Place}
use Rattle.erm_machine.specs.declared.place.Place.TheVariants as place
use Rattle.erm_machine.specs.Core.{Core}
use Rattle.erm_machine.specs.Seat.{is_active, is_sealed, is_vacant}
use Rattle.erm_machine.specs.Sound.{Sound}
use Rattle.erm_machine.specs.Step.{after_event}
use Rattle.erm_machine.specs.Tasks.{TaskFits}
use Rattle.erm_core_stays.specs.Staying.{Rises}
use Rattle.erm_core_view.specs.Views.{IsBetween}
use Rattle.erm_rule.specs.declared.rule.Table.{Table}
use Rattle.erm_rule.specs.declared.view.Book.{Book}
use Rattle.erm_rule.specs.Books.{IsAfter, IsBookOf, book}
use Rattle.erm_rule.specs.Hands.{IsKnown}
use Rattle.erm_rule.specs.Steps.{Fits}
use Rattle.erm_rule.specs.Views.{part_in, part_of, view}
use Rattle.erm_rule.specs.Went.{Took}
use Rattle.erm_rule.proofs.Telling.{held_part}
use Rattle.erm_session.specs.declared.session.Session.{Session}
use Rattle.erm_session.specs.declared.session.Stage.{Stage}
use Rattle.erm_session.specs.declared.session.Stage.TheVariants as stage
use Rattle.erm_session.specs.Session.{IsSession, StageIs, phase_of}
use Rattle.erm_beside.specs.Laws.{GoesOnward}
use Rattle.erm_beside.specs.Later.{IsLater}
use Rattle.erm_world.specs.Snapshots.{snapshot_not_active, snapshot_not_idle}
use Rattle.erm_world.specs.World.{Stand, View, phase_at}
use Rattle.erm_world.specs.World as world
use Rattle.erm_own_view.specs.Own.{EndsIn, MayCall, own_view}
use Rattle.erm_own_view.proofs.Own.{own_is}
use Rattle.erm_table_world.proofs.Sessions.{phase_shown, stage_between}
use Rattle.erm_shared_session.specs.declared.session.TableSession.{TableSession}
use Rattle.erm_shared_session.specs.Stands.{Ends, Stands, bare_of, seat_of}

-- A SESSION has its seat.
pub active_held : (pl : Place) → is_active pl ≡ true → is_vacant pl ≡ false
active_held (place.Active tail) is = refl
active_held _ is = absurd (cc)

sealed_held : (pl : Place) → is_sealed pl ≡ true → is_vacant pl ≡ false
sealed_held (place.Sealed tail stamp) is = refl
sealed_held _ is = absurd (cc)

stage_held : (g : Stage) (x : Part) → StageIs g x → is_vacant x.place ≡ false
stage_held stage.Idle x is = ap is_vacant is
stage_held (stage.Active t) x is = active_held x.place is.0
stage_held (stage.Sealed t) x is = sealed_held x.place is.0
stage_held (stage.Pending begin next) x is = active_held x.place is.0
stage_held (stage.Safe begin) x is = active_held x.place is.0

pub session_held : (s : Session) (b : Book) (seat : ℕ) → IsSession s (part_of b.view seat) → part_in b.view seat ≡ Some (part_of b.view seat)
session_held s b seat is = held_part b.view seat (stage_held s.stage (part_of b.view seat) is.kept.stage)

-- and stands between two calls
session_between : (s : Session) (b : Book) (seat : ℕ) → IsSession s (part_of b.view seat) → IsKnown b.view → IsBetween (part_of b.view seat).place (part_of b.view seat).task
session_between s b seat is known =
    let x = part_of b.view seat in
    let here : known.core.seats seat ≡ x = known.is_view seat x (session_held s b seat is) in
    stage_between s.stage x is.kept.stage (subst (λ (y : Part). TaskFits y.place y.current y.task) here (known.sound.own seat).task.fits)

-- THE CALL. What it may ask of what the session knows.
pub own_phase : {L : Type 0} (s : TableSession L) → IsSession s.session (part_of (view s.pass) s.session.seat) → phase_of s.session.stage ≡ phase_at (bare_of s) (seat_of s)
own_phase s is =
    phase_shown s.session.stage (part_of (view s.pass) s.session.seat) is.kept.stage
    ∙ sym (ap (λ (r : world.Session). world.phase_of r.stand) (own_is s.session.seat s.tail s.flushed (book s.pass)))

active_stand : (st : Stand) → world.phase_of st ≡ phase.Active → st ≡ world.active (world.work_of st)
active_stand world.idle active = absurd (cc)
active_stand (world.active w) active = refl
active_stand (world.sealed w stamp) active = absurd (cc)
active_stand (world.snapshot s) active = absurd (snapshot_not_active s active)

pub own_active : {L : Type 0} (s : TableSession L) → phase_at (bare_of s) (seat_of s) ≡ phase.Active → ((bare_of s).session (seat_of s)).stand ≡ world.active (world.work_of ((bare_of s).session (seat_of s)).stand)
own_active s active = active_stand ((bare_of s).session (seat_of s)).stand active

idle_stand : (st : Stand) → world.phase_of st ≡ phase.Idle → st ≡ world.idle
idle_stand world.idle idle = refl
idle_stand (world.active w) idle = absurd (cc)
idle_stand (world.sealed w stamp) idle = absurd (cc)
idle_stand (world.snapshot s) idle = absurd (snapshot_not_idle s idle)

pub own_idle : {L : Type 0} (s : TableSession L) → phase_at (bare_of s) (seat_of s) ≡ phase.Idle → ((bare_of s).session (seat_of s)).stand ≡ world.idle
own_idle s idle = idle_stand ((bare_of s).session (seat_of s)).stand idle

-- the own view after a call, where the session keeps its seat
pub own_at : {L : Type 0} (s t : TableSession L) → t.session.seat ≡ s.session.seat → bare_of t ≡ own_view s.session.seat t.tail t.flushed (book t.pass)
own_at s t same = ap (λ (n : ℕ). own_view n t.tail t.flushed (book t.pass)) same

abbrev pub IsSeen : ℕ → ℕ → Book → Type 0
IsSeen tail flushed e = (c : Core) → IsBookOf e c → (tail ≤ c.shared.tail) × (flushed ≤ c.shared.flushed)

-- a call may begin again after steps of the seat
abbrev pub Again : Law → Type 0
Again law = (seat tail flushed then_tail then_flushed : ℕ) (steps : List (Kind × ℕ)) (b e : Book) → MayCall law seat tail flushed b → Took law seat steps b e
    → IsBetween (part_of e.view seat).place (part_of e.view seat).task → IsSeen then_tail then_flushed e → MayCall law seat then_tail then_flushed e

pub stands_again : {L : Type 0} (law : Law) → Again law → (table : Table L) (s t : TableSession L) (steps : List (Kind × ℕ)) → Stands law table s → Fits table.words.shared.table_id t.pass
    → t.session.seat ≡ s.session.seat → IsSession t.session (part_of (view t.pass) s.session.seat) → IsKnown (view t.pass) → Took law s.session.seat steps (book s.pass) (book t.pass)
    → IsSeen t.tail t.flushed (book t.pass) → Stands law table t
stands_again law again table s t steps stands fits same is known took seen = record {
  fits = fits;
  session = subst (λ (n : ℕ). IsSession t.session (part_of (view t.pass) n)) (sym same) is;
  may =
      subst (λ (n : ℕ). MayCall law n t.tail t.flushed (book t.pass)) (sym same)
      (again s.session.seat s.tail s.flushed t.tail t.flushed steps (book s.pass) (book t.pass) stands.may took (session_between t.session (book t.pass) s.session.seat is known) seen);
}

-- what all may end in now was one in which all might end before
abbrev pub Onward : Law → Type 0
Onward law = (seat tail flushed then_tail then_flushed : ℕ) (b e : Book) (f : View) → IsAfter b e → e.start ≡ b.start → tail ≤ then_tail → flushed ≤ then_flushed
    → IsLater ((own_view seat tail flushed b).session seat) ((own_view seat then_tail then_flushed e).session seat)
    → EndsIn law seat e (own_view seat then_tail then_flushed e) f → EndsIn law seat b (own_view seat tail flushed b) f

pub goes_onward : {L : Type 0} (law : Law) → Onward law → (s t : TableSession L) → t.session.seat ≡ s.session.seat → IsAfter (book s.pass) (book t.pass) → (book t.pass).start ≡ (book s.pass).start
    → s.tail ≤ t.tail → s.flushed ≤ t.flushed
    → IsLater ((own_view s.session.seat s.tail s.flushed (book s.pass)).session s.session.seat) ((own_view s.session.seat t.tail t.flushed (book t.pass)).session s.session.seat)
    → GoesOnward (seat_of s) (seat_of t) (Ends law s) (Ends law t)
goes_onward law onward s t same goes start tail flushed later = record {
  seat_is = same;
  ends_so = λ f end.
      onward s.session.seat s.tail s.flushed t.tail t.flushed (book s.pass) (book t.pass) f goes start tail flushed later
      (subst (λ (n : ℕ). EndsIn law n (book t.pass) (own_view n t.tail t.flushed (book t.pass)) f) same end);
}

-- the log never falls back, and in each later book it has come as far as it was seen
abbrev pub Rise : Type 0
Rise = (c d : Core) (q : ℕ) (k : Kind) → Sound c → after_event c q k ≡ Some d → Rises c.shared d.shared

abbrev pub SeenThen : ℕ → ℕ → Book → Type 0
SeenThen tail flushed b = (z : Book) → IsAfter b z → IsSeen tail flushed z
