use Rattle.std.proofs.Common.{◌≡◌, ℕ, refl, ap, sym, subst, ◌∙◌}
use Rattle.erm_machine.specs.declared.event.Answer.{Answer}
use Rattle.erm_machine.specs.declared.event.Event.{Event}
use Rattle.erm_machine.specs.declared.event.Kind.{Kind}
use Rattle.erm_machine.specs.declared.event.Kind.TheVariants as kind
use Rattle.erm_machine.specs.Core.{Core}
use Rattle.erm_machine.specs.Sound.{Sound}
use Rattle.erm_machine.specs.Step.{core_step}
use Rattle.erm_core.specs.Cores.{core_of}
use Rattle.erm_core.specs.Kinds.{MeetsOne, event_at}
use Rattle.erm_core.proofs.Steps.{failed_step}
use Rattle.erm_core.proofs.Vacant.{vacant_none, seat_above}
use Rattle.erm_core.proofs.state.State.step.Goals as goal

-- the state after a step, as the law speaks of it
after : (c d : Core) (a : Answer) (e : Event) → ◌≡◌ {A = Answer × Core} (a, d) (core_step c e) → Sound (core_step c e).1 → Sound d
after c d a e step sound = subst Sound (sym (ap (λ (r : Answer × Core). r.1) step)) sound

-- a kind that is neither a split nor a join meets one word, or a device
meets_one : (k : Kind) → ((other : ℕ) → k ≡ kind.Split other → ⊥) → ((other : ℕ) → k ≡ kind.Join other → ⊥) → MeetsOne k
meets_one (kind.Split other) split join = absurd (split other refl)
meets_one (kind.Join other) split join = absurd (join other refl)
meets_one _ split join = tt

pub step_word-requires : goal.step_word-requires
step_word-requires c = record {
  one = meets_one c.args.event.kind c.in_default.not-Split c.in_default.not-Join;
  seat = c.if-event-ge-ANNOUNCERS.false;
  room = c.requires.room;
  sound = c.requires.sound;
}

pub returns-in-Split-clause-sound : goal.returns-in-Split-clause-sound
returns-in-Split-clause-sound c =
    let e = event_at c.args.event.seat (kind.Split c.in-Split.seat) in
    after (core_of c.args.self.now) (core_of c.split.new.self) c.split.result e c.split.ensures.step (c.steps_keep_sound.ensures (core_of c.args.self.now) e c.requires.sound)

pub returns-in-Join-clause-sound : goal.returns-in-Join-clause-sound
returns-in-Join-clause-sound c =
    let e = event_at c.args.event.seat (kind.Join c.in-Join.seat) in
    after (core_of c.args.self.now) (core_of c.join.new.self) c.join.result e c.join.ensures.step (c.steps_keep_sound.ensures (core_of c.args.self.now) e c.requires.sound)

pub returns-in_default : goal.returns-in_default
returns-in_default c = record {
  step = c.step_word.ensures.step;
  sound =
      after (core_of c.args.self.now) (core_of c.step_word.new.self) c.step_word.result c.args.event c.step_word.ensures.step
      (c.steps_keep_sound.ensures (core_of c.args.self.now) c.args.event c.requires.sound);
  left = c.step_word.ensures.left;
}

pub returns-then-event-ge-ANNOUNCERS-clause-step : goal.returns-then-event-ge-ANNOUNCERS-clause-step
returns-then-event-ge-ANNOUNCERS-clause-step c =
    let s = c.args.self.now in
    let e = c.args.event in
    failed_step (core_of s) e.seat e.kind (core_of s) (vacant_none (core_of s) e.seat s.run s.opening (seat_above s e.seat c.if-event-ge-ANNOUNCERS.true) e.kind) refl

-- the core step of an event of this kind
step_of_kind : (c : Core) (e : Event) (k : Kind) → e.kind ≡ k → core_step c (event_at e.seat k) ≡ core_step c e
step_of_kind c e k is = ap (λ (m : Kind). core_step c (event_at e.seat m)) (sym is)

pub returns-in-Split-clause-step : goal.returns-in-Split-clause-step
returns-in-Split-clause-step c = c.split.ensures.step ∙ step_of_kind (core_of c.args.self.now) c.args.event (kind.Split c.in-Split.seat) c.in-Split.is

pub returns-in-Join-clause-step : goal.returns-in-Join-clause-step
returns-in-Join-clause-step c = c.join.ensures.step ∙ step_of_kind (core_of c.args.self.now) c.args.event (kind.Join c.in-Join.seat) c.in-Join.is
