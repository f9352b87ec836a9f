-- A look at the place flushed: a sealed transaction may have begun its settle by it, or begun it anew.
use Rattle.std.proofs.Common.{◌≡◌, ◌∙◌, ℕ, Bool, true, false, Option, Some, is_some, refl, sym, ap, subst}
use Rattle.std.specs.Prelude.{if◌then◌else◌, ◌&&◌, not, IsSome}
use Rattle.std.proofs.lemmas.Bool.{and_parts}
use Rattle.erm_machine.specs.declared.event.Kind.TheVariants as kind
use Rattle.erm_machine.specs.declared.part.Flushing.{Flushing}
use Rattle.erm_machine.specs.declared.part.Flushing.TheVariants.{Still}
use Rattle.erm_machine.specs.declared.part.Part.{Part}
use Rattle.erm_machine.specs.declared.task.Task.TheVariants as task
use Rattle.erm_machine.specs.Core.{Core, Shared}
use Rattle.erm_machine.specs.Flushing.{load_flushed}
use Rattle.erm_machine.specs.Seat.{is_sealed, is_vacant, with_task}
use Rattle.erm_machine.specs.Settling.{has_room, load_flushed_to_settle, may_settle}
use Rattle.erm_machine.specs.Sound.{Sound}
use Rattle.erm_machine.specs.Step.{part_after}
use Rattle.erm_rule.specs.declared.view.View.{View}
use Rattle.erm_rule.specs.Hands.{IsKnown}
use Rattle.erm_rule.specs.Steps.{Ready, Told}
use Rattle.erm_rule.specs.Views.{part_in, part_of, with_part}
use Rattle.erm_rule.proofs.Telling.{held_part, is_held, part_of-changed, ready_by}
use Rattle.erm_cells.proofs.After.{after_known}
use Rattle.erm_cells.proofs.Views.{active_taken, active_unsealed, when_true, told_is}
use Rattle.erm_ends.proofs.Leaves.{session_not_flusher}
use Rattle.erm_precommit.proofs.Standing.{pre_same, sealed_taken}
use Rattle.erm_session.specs.declared.session.Session.{Session}
use Rattle.erm_session.specs.declared.session.Stage.{Stage}
use Rattle.erm_session.specs.declared.session.Stage.TheVariants as stage
use Rattle.erm_session.specs.Making.{LooksAtFlushed}
use Rattle.erm_session.specs.Session.{IsSession, StageIs}
use Rattle.erm_session.proofs.Keeps.{made_session}

-- a session's seat isn't vacant
taken_by : (s : Stage) (x : Part) → StageIs s x → is_vacant x.place ≡ false
taken_by stage.Idle x is = ap (λ pl. is_vacant pl) is
taken_by (stage.Active t) x is = active_taken x.place is.0
taken_by (stage.Sealed t) x is = sealed_taken x.place is.0
taken_by (stage.Pending begin next) x is = active_taken x.place is.0
taken_by (stage.Safe begin) x is = active_taken x.place is.0

-- the part of a seat whose settle has passed no version yet
abbrev settling : Part → Part
settling x = with_task (task.Settles 0 0) x

-- only a sealed transaction begins a settle, and waits to be decided still
settling_stage : (s : Stage) (x : Part) → is_sealed x.place ≡ true → StageIs s x → StageIs s (settling x)
settling_stage stage.Idle x sealed is = is
settling_stage (stage.Active t) x sealed is = absurd (let none = active_unsealed x.place is.0 in cc)
settling_stage (stage.Sealed t) x sealed is =
    (is.0, refl, pre_same t x (task.Settles 0 0) x.current.succ_from x.clear is.2, is.3, is.4)
settling_stage (stage.Pending begin next) x sealed is = absurd (let none = active_unsealed x.place is.0 in cc)
settling_stage (stage.Safe begin) x sealed is = absurd (let none = active_unsealed x.place is.0 in cc)

settling_session : (s : Session) (x : Part) (b : Bool) → (b ≡ true → is_sealed x.place ≡ true) → IsSession s x → IsSession s (if b then settling x else x)
settling_session s x true sealed is = made_session s (task.Settles 0 0) x.current.made x (settling_stage s.stage x (sealed refl) is.kept.stage) is
settling_session s x false sealed is = is

module _ (s : Session) (v : View) (is : IsSession s (part_of v s.seat)) where
  abbrev who : ℕ
  who = s.seat

  abbrev x : Part
  x = part_of v s.seat

  taken : is_vacant (part_of v s.seat).place ≡ false
  taken = taken_by s.stage x is.kept.stage

  there : part_in v s.seat ≡ Some x
  there = held_part v s.seat taken

  -- a session gathers no blocks
  still : (c : Core) → Sound c → c.seats s.seat ≡ x → x.flushing ≡ Still
  still c sound at = subst (λ (z : Part). z.flushing ≡ Still) at ((sound.own who).log.still (session_not_flusher who is.kept.session))

  after_flushed : (found : ℕ) (h : Shared) → x.flushing ≡ Still → part_after who kind.LoadFlushed found h x ≡ Some (load_flushed_to_settle found x)
  after_flushed found h none =
      subst (λ (f : Flushing). load_flushed found x f ≡ Some (load_flushed_to_settle found x)) (sym none)
      (when_true (not (is_vacant x.place)) (load_flushed_to_settle found x) (ap not taken))

  pub held_there : IsSome (part_in v s.seat)
  held_there = is_held v s.seat x there

  pub ready_flushed : Ready v s.seat kind.LoadFlushed
  ready_flushed =
      ready_by v who kind.LoadFlushed x there
      (λ c sound at. ap (λ (o : Option Part). is_some o) (after_flushed c.shared.flushed c.shared (still c sound at)))

  module _ (found : ℕ) (w : View) (told : Told v s.seat kind.LoadFlushed found w) where
    looked_is : w ≡ with_part who (load_flushed_to_settle found x) v
    looked_is =
        told_is v who kind.LoadFlushed found w x (load_flushed_to_settle found x) there told
        (after_flushed found told.before.shared (still told.before told.sound (told.is_view who x there)))

    pub known_looked : IsKnown w
    known_looked = after_known v who kind.LoadFlushed found w told

    pub looks : LooksAtFlushed v s.seat w
    looks = record { found = found; view_is = looked_is }

    pub looked_session : IsSession s (part_of w s.seat)
    looked_session =
        subst (λ (z : Part). IsSession s z) (sym (part_of-changed v who w (load_flushed_to_settle found x) x there looked_is))
        (settling_session s x (is_sealed x.place && may_settle x.task && has_room found x.current)
        (λ (all : (is_sealed x.place && may_settle x.task && has_room found x.current) ≡ true).
        (and_parts (is_sealed x.place) (may_settle x.task) (and_parts (is_sealed x.place && may_settle x.task) (has_room found x.current) all).0).0)
        is)

    settled_writes : (all : Bool) → (if all then with_task (task.Settles 0 0) x else x).current.writes ≡ x.current.writes
    settled_writes true = refl
    settled_writes false = refl

    pub looked_writes : (part_of w s.seat).current.writes ≡ x.current.writes
    looked_writes =
        ap (λ (z : Part). z.current.writes) (part_of-changed v who w (load_flushed_to_settle found x) x there looked_is)
        ∙ settled_writes (is_sealed x.place && may_settle x.task && has_room found x.current)
