-- Groups of kinds of step, by what they change of what is shared.
use Rattle.std.specs.Prelude.{ℕ}
use Rattle.erm_machine.specs.declared.event.Kind.{Kind}
use Rattle.erm_machine.specs.declared.event.Kind.TheVariants as kind
use Rattle.erm_machine.specs.declared.event.Event.{Event}

-- kinds that change an object
abbrev pub ChangesObject : Kind → Type 0
ChangesObject (kind.Claim oid seen number) = Unit {0}
ChangesObject (kind.Install oid head) = Unit {0}
ChangesObject (kind.SetReader v) = Unit {0}
ChangesObject (kind.ClearReader v) = Unit {0}
ChangesObject (kind.RaiseReader v value) = Unit {0}
ChangesObject (kind.StoreSucc v value) = Unit {0}
ChangesObject (kind.StoreOverwriter v value) = Unit {0}
ChangesObject (kind.SwapLink v) = Unit {0}
ChangesObject _ = ⊥

-- kinds that change another word that is shared
abbrev pub ChangesPlain : Kind → Type 0
ChangesPlain (kind.Claim oid seen number) = ⊥
ChangesPlain (kind.Install oid head) = ⊥
ChangesPlain (kind.SetReader v) = ⊥
ChangesPlain (kind.ClearReader v) = ⊥
ChangesPlain (kind.RaiseReader v value) = ⊥
ChangesPlain (kind.StoreSucc v value) = ⊥
ChangesPlain (kind.StoreOverwriter v value) = ⊥
ChangesPlain (kind.SwapLink v) = ⊥
ChangesPlain _ = Unit {0}

-- kinds that meet one word, or a device: all but splits and joins
abbrev pub MeetsOne : Kind → Type 0
MeetsOne (kind.Split other) = ⊥
MeetsOne (kind.Join other) = ⊥
MeetsOne _ = Unit {0}

-- a step of a seat
abbrev pub event_at : ℕ → Kind → Event
event_at seat k = record { seat = seat; kind = k }
