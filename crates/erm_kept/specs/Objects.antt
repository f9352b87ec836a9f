-- What a kept object is, as the definitions have it.
use Rattle.std.specs.Prelude.{ℕ, ◌-◌, ◌^◌, ◌<◌, max, length, Option, vec_len, vec_capacity}
use Rattle.erm_machine.specs.declared.version.CellWord.{CellWord}
use Rattle.erm_machine.specs.Core.{Object, version_at, with_version}
use Rattle.erm_machine.specs.declared.event.Kind.{Kind}
use Rattle.erm_machine.specs.declared.event.Kind.TheVariants as kind
use Rattle.erm_machine.specs.declared.version.CellWord.TheVariants as word
use Rattle.erm_machine.specs.declared.version.Version.{Version}
use Rattle.erm_machine.specs.Step.{stored, installed}
use Rattle.erm_machine.specs.Words.{set_word, with_bit, without_bit}
use Rattle.erm_kept.specs.declared.object.ObjectState.{ObjectState}

-- an object
abbrev pub object_of : ObjectState → Object
object_of o = record { entry = o.entry; versions = o.versions.items; cut = o.cut }

-- how many versions an object's chain has
abbrev pub chain_len : Object → ℕ
chain_len o = length o.versions - o.cut

-- an object with a word of the version at a place changed
abbrev pub object_with_word : Object → ℕ → CellWord → ℕ → Object
object_with_word o place w value = with_version o place (set_word w value (version_at o place).words)

-- what a step of a seat leaves of the object that its kind names, where an install adds this version
abbrev pub object_after : ℕ → Kind → ℕ → Option Version → Object → Object
object_after seat (kind.Claim oid seen number) found v o = record o { entry = stored seat (kind.Claim oid seen number) found }
object_after seat (kind.Install oid head) found v o = installed head v o
object_after seat (kind.SetReader u) found v o = object_with_word o u.place word.Readers (with_bit found seat)
object_after seat (kind.ClearReader u) found v o = object_with_word o u.place word.Readers (without_bit found seat)
object_after seat (kind.RaiseReader u value) found v o = object_with_word o u.place word.ReaderStamp (max found value)
object_after seat (kind.StoreSucc u value) found v o = object_with_word o u.place word.OverwriterSucc value
object_after seat (kind.StoreOverwriter u value) found v o = object_with_word o u.place word.Overwriter value
object_after seat (kind.SwapLink u) found v o = record (object_with_word o u.place word.Link 0) { cut = u.place }
object_after seat _ found v o = o

-- kinds that change one word of a version, or none
abbrev pub ChangesWord : Kind → Type 0
ChangesWord (kind.Claim oid seen number) = ⊥
ChangesWord (kind.Install oid head) = ⊥
ChangesWord (kind.SwapLink v) = ⊥
ChangesWord _ = Unit {0}

-- The object has room for a version that a step of this kind adds to it, or its transaction adds later on account of it. A head
-- that is installed is a cell that an entry can name.
abbrev pub HasObjectRoom : ObjectState → Kind → Type 0
HasObjectRoom o (kind.Claim oid seen number) = vec_len o.versions < vec_capacity o.versions
HasObjectRoom o (kind.Install oid head) = (head < 2 ^ 24) × (vec_len o.versions < vec_capacity o.versions)
HasObjectRoom o _ = Unit {0}
