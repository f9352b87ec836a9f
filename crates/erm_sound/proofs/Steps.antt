-- A sound state put together from what the laws of its parts say of each event.
use Rattle.std.proofs.Common.{◌≡◌, ◌≢◌, ℕ, Option, Some, None, refl}
use Rattle.erm_machine.specs.declared.event.Answer.{Answer}
use Rattle.erm_machine.specs.declared.event.Event.{Event}
use Rattle.erm_machine.specs.declared.event.Kind.{Kind}
use Rattle.erm_machine.specs.Core.{Core, spot_of, word_at}
use Rattle.erm_machine.specs.Sound.{Sound, Common, Own, Both}
use Rattle.erm_machine.specs.Step.{after_event, told, step_to, core_step}

-- what the laws say of the state after one event
pub record Laws (d : Core) : Type 0 where
  pub common : Common d.shared d.seats
  pub own : (p : ℕ) → Own d.shared p (d.seats p)
  pub both : (p q : ℕ) → p ≢ q → Both (d.seats p) q (d.seats q)

pub sound_by : (d : Core) → Laws d → Sound d
sound_by d laws = record { common = laws.common; own = laws.own; both = laws.both }

sound_from : (c : Core) (seat : ℕ) (k : Kind) (a : Answer) (o : Option Core) → ((d : Core) → after_event c seat k ≡ Some d → Sound d) → Sound c →
    after_event c seat k ≡ o → Sound (step_to c a o).1
sound_from c seat k a None law sound e = sound
sound_from c seat k a (Some d) law sound e = law d e

-- a step is the event, or changes nothing
pub step_sound : (c : Core) (e : Event) → ((d : Core) → after_event c e.seat e.kind ≡ Some d → Sound d) → Sound c → Sound (core_step c e).1
step_sound c e law sound = sound_from c e.seat e.kind (told e.kind (word_at c (spot_of e.seat e.kind))) (after_event c e.seat e.kind) law sound refl
