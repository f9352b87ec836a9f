use Rattle.std.proofs.Common.{◌≡◌, ℕ, Option, None, refl, ap, sym, ◌∙◌}
use Rattle.erm_machine.specs.declared.event.Kind.{Kind}
use Rattle.erm_machine.specs.declared.event.Kind.TheVariants as kind
use Rattle.erm_machine.specs.declared.part.Part.{Part}
use Rattle.erm_machine.specs.declared.version.Version.{Version}
use Rattle.erm_machine.specs.Step.{core_step}
use Rattle.erm_core.specs.Cores.{core_of, added_in}
use Rattle.erm_core.specs.Kinds.{event_at}
use Rattle.erm_core.proofs.state.State.step_word.Goals as goal

-- a step of another kind than an install adds no version
none_added : (k : Kind) (x : Part) → ((oid head : ℕ) → k ≡ kind.Install oid head → ⊥) → ◌≡◌ {A = Option Version} None (added_in k x)
none_added (kind.Install oid head) x not = absurd (not oid head refl)
none_added _ x not = refl

pub step_adding-requires-in_default : goal.step_adding-requires-in_default
step_adding-requires-in_default c = record {
  one = c.requires.one;
  seat = c.requires.seat;
  room = c.requires.room;
  sound = c.requires.sound;
  added = none_added c.args.kind ((core_of c.args.self.now).seats c.args.seat) c.in_default.not-Install;
}

pub returns-in-Install-clause-step : goal.returns-in-Install-clause-step
returns-in-Install-clause-step c =
    c.step_adding.ensures.step ∙ ap (λ (k : Kind). core_step (core_of c.args.self.now) (event_at c.args.seat k)) (sym c.in-Install.is)
