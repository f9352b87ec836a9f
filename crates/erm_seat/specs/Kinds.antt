-- Groups of kinds of step, by what a seat's step meets.
use Rattle.std.specs.Prelude.{ℕ, length}
use Rattle.erm_machine.specs.declared.event.Kind.{Kind}
use Rattle.erm_machine.specs.declared.event.Kind.TheVariants as kind
use Rattle.erm_machine.specs.Core.{Object}
use Rattle.erm_machine.specs.Reading.{cut_off}

-- kinds that meet no word of an object or of an own cell
abbrev pub IsPlain : Kind → Type 0
IsPlain (kind.LoadEntry oid) = ⊥
IsPlain (kind.Claim oid seen number) = ⊥
IsPlain (kind.Install oid head) = ⊥
IsPlain (kind.LoadCell v w) = ⊥
IsPlain (kind.StoreCell place cell w value) = ⊥
IsPlain (kind.SetReader v) = ⊥
IsPlain (kind.ClearReader v) = ⊥
IsPlain (kind.LoadReaders v) = ⊥
IsPlain (kind.LoadStamp v w) = ⊥
IsPlain (kind.RaiseReader v value) = ⊥
IsPlain (kind.StoreSucc v value) = ⊥
IsPlain (kind.StoreOverwriter v value) = ⊥
IsPlain (kind.SwapLink v) = ⊥
IsPlain (kind.LoadDetached v) = ⊥
IsPlain _ = Unit {0}

-- the object that a kind names, or 0
abbrev pub object_in : Kind → ℕ
object_in (kind.LoadEntry oid) = oid
object_in (kind.Claim oid seen number) = oid
object_in (kind.Install oid head) = oid
object_in (kind.LoadCell v w) = v.oid
object_in (kind.SetReader v) = v.oid
object_in (kind.ClearReader v) = v.oid
object_in (kind.LoadReaders v) = v.oid
object_in (kind.LoadStamp v w) = v.oid
object_in (kind.RaiseReader v value) = v.oid
object_in (kind.StoreSucc v value) = v.oid
object_in (kind.StoreOverwriter v value) = v.oid
object_in (kind.SwapLink v) = v.oid
object_in (kind.LoadDetached v) = v.oid
object_in _ = 0

-- kinds whose part after takes something of the object
abbrev pub IsEntry : Kind → Type 0
IsEntry (kind.LoadEntry oid) = Unit {0}
IsEntry (kind.Claim oid seen number) = Unit {0}
IsEntry (kind.SetReader v) = Unit {0}
IsEntry (kind.SwapLink v) = Unit {0}
IsEntry _ = ⊥

-- how many cells of an object a step of this kind makes spare
abbrev pub cells_in : Kind → Object → ℕ
cells_in (kind.SwapLink v) o = length (cut_off v.place o)
cells_in _ o = 0
