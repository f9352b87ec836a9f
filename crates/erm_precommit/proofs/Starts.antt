-- The step with which a settle begins.
use Rattle.std.proofs.Common.{◌≡◌, ℕ, Bool, true, false, Option, Some, is_some, refl, sym, ap, ◌∙◌}
use Rattle.std.specs.Prelude.{if◌then◌else◌, ◌&&◌, ◌-◌, nat_le}
use Rattle.erm_machine.specs.declared.event.Kind.TheVariants as kind
use Rattle.erm_machine.specs.declared.limits.TheConstants.{RING_WORDS}
use Rattle.erm_machine.specs.declared.part.Part.{Part}
use Rattle.erm_machine.specs.declared.task.Task.TheVariants as task
use Rattle.erm_machine.specs.Seat.{is_sealed, with_task}
use Rattle.erm_machine.specs.Settling.{has_room, may_settle}
use Rattle.erm_machine.specs.Step.{part_after}
use Rattle.erm_rule.specs.declared.view.View.{View}
use Rattle.erm_rule.specs.Steps.{Ready, Told}
use Rattle.erm_rule.specs.Views.{part_of}
use Rattle.erm_rule.proofs.Parts.{with_part-same}
use Rattle.erm_rule.proofs.Telling.{ready_by}
use Rattle.erm_cells.proofs.Views.{told_is}
use Rattle.erm_precommit.specs.declared.pre.Pre.{Pre}
use Rattle.erm_precommit.specs.Pre.{fits_ring, IsPre}
use Rattle.erm_precommit.specs.Settle.{task_of, Stands, WaitsForRing, WentOn}
use Rattle.erm_precommit.proofs.Standing.{has, went, comes_to, stands_with, step_leads, pre_same, Leads}
use Rattle.erm_precommit.proofs.Steps.{after_flushed, still_seat}

module _ (pre : Pre) (v : View) (who : ℕ) (sealed : is_sealed (part_of v who).place ≡ true) (may : may_settle (task_of v who) ≡ true) (kept : IsPre pre (part_of v who)) where
  abbrev x : Part
  x = part_of v who

  pub start_ready : Ready v who kind.LoadFlushed
  start_ready =
      ready_by v who kind.LoadFlushed x (has v who sealed)
      (λ c sound is. ap (λ (o : Option Part). is_some o) (after_flushed who x sealed c.shared.flushed c.shared (has_room c.shared.flushed x.current) (still_seat c who x sound is sealed) refl may))

  -- the room of the transaction kept is the transaction's
  room_is : (flushed : ℕ) → fits_ring pre flushed ≡ has_room flushed x.current
  room_is flushed =
      ap (λ (n : ℕ). nat_le n RING_WORDS && nat_le (pre.stamp - (RING_WORDS - n)) flushed) kept.size ∙ ap (λ (n : ℕ). nat_le x.current.size RING_WORDS && nat_le (n - (RING_WORDS - x.current.size)) flushed) kept.stamp

  module _ (flushed : ℕ) (w : View) (told : Told v who kind.LoadFlushed flushed w) where
    after : (b : Bool) → fits_ring pre flushed ≡ b → part_after who kind.LoadFlushed flushed told.before.shared x ≡ Some (if b then with_task (task.Settles 0 0) x else x)
    after b room = after_flushed who x sealed flushed told.before.shared b (still_seat told.before who x told.sound (told.is_view who x (has v who sealed)) sealed) (sym (room_is flushed) ∙ room) may

    -- there is room
    module _ (room : fits_ring pre flushed ≡ true) where
      pub start_room : has_room flushed x.current ≡ true
      start_room = sym (room_is flushed) ∙ room

      leads : Leads v who (task.Settles 0 0) x.current.succ x.current.succ_from x.current.pred x.clear w
      leads = step_leads v who sealed kind.LoadFlushed flushed w (task.Settles 0 0) x.current.succ x.current.succ_from x.current.pred told (after true room)

      pub start_went : WentOn v who w
      start_went = went v who sealed _ _ _ _ _ w leads

      pub start_stands : Stands pre w who
      start_stands = stands_with v who sealed _ _ _ _ _ w leads refl pre (pre_same pre x (task.Settles 0 0) x.current.succ_from x.clear kept)

      pub start_comes : task_of w who ≡ task.Settles 0 0
      start_comes = comes_to v who sealed _ _ _ _ _ w leads

    -- there is none
    module _ (none : fits_ring pre flushed ≡ false) where
      same : w ≡ v
      same = told_is v who kind.LoadFlushed flushed w x x (has v who sealed) told (after false none) ∙ with_part-same who x v told.in_order (has v who sealed)

      full_leads : Leads v who x.task x.current.succ x.current.succ_from x.current.pred x.clear w
      full_leads = step_leads v who sealed kind.LoadFlushed flushed w x.task x.current.succ x.current.succ_from x.current.pred told (after false none)

      pub full_went : WentOn v who w
      full_went = went v who sealed _ _ _ _ _ w full_leads

      pub full_stands : Stands pre w who
      full_stands = stands_with v who sealed _ _ _ _ _ w full_leads may pre (pre_same pre x x.task x.current.succ_from x.clear kept)

      pub full_waits : WaitsForRing v who flushed w
      full_waits = record {
        core = told.before;
        sound = told.sound;
        is_view = told.is_view;
        flushed_is = told.met;
        full = sym (room_is flushed) ∙ none;
        same = same;
      }
