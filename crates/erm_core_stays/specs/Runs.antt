-- Events that lead from one state to another, one after another.
use Rattle.std.specs.Prelude.{◌≡◌, List, [], ◌∷◌, Some}
use Rattle.erm_machine.specs.declared.event.Event.{Event}
use Rattle.erm_machine.specs.Core.{Core}
use Rattle.erm_machine.specs.Step.{after_event}

-- these events, the first one first, lead from a state to another, each taken
abbrev pub Runs : List Event → Core → Core → Type 0
Runs [] c d = c ≡ d
Runs (e ∷ es) c d = (b : Core) × (after_event c e.seat e.kind ≡ Some b) × Runs es b d
