use Rattle.std.proofs.Common.{◌≡◌, ℕ, refl}
use Rattle.erm_machine.specs.declared.event.Kind.{Kind}
use Rattle.erm_machine.specs.declared.event.Kind.TheVariants as kind
use Rattle.erm_machine.specs.declared.version.CellWord.{CellWord}
use Rattle.erm_machine.specs.declared.version.VersionAt.{VersionAt}
use Rattle.erm_seat.specs.Kinds.{IsPlain}
use Rattle.erm_seat.proofs.seat.SeatState.turn.Goals as goal

-- a kind that is none of those that meet an object or an own cell
plain : (k : Kind)
    → ((oid : ℕ) → k ≡ kind.LoadEntry oid → ⊥)
    → ((oid seen number : ℕ) → k ≡ kind.Claim oid seen number → ⊥)
    → ((oid head : ℕ) → k ≡ kind.Install oid head → ⊥)
    → ((v : VersionAt) (w : CellWord) → k ≡ kind.LoadCell v w → ⊥)
    → ((place cell : ℕ) (w : CellWord) (value : ℕ) → k ≡ kind.StoreCell place cell w value → ⊥)
    → ((v : VersionAt) → k ≡ kind.SetReader v → ⊥)
    → ((v : VersionAt) → k ≡ kind.ClearReader v → ⊥)
    → ((v : VersionAt) → k ≡ kind.LoadReaders v → ⊥)
    → ((v : VersionAt) (w : CellWord) → k ≡ kind.LoadStamp v w → ⊥)
    → ((v : VersionAt) (value : ℕ) → k ≡ kind.RaiseReader v value → ⊥)
    → ((v : VersionAt) (value : ℕ) → k ≡ kind.StoreSucc v value → ⊥)
    → ((v : VersionAt) (value : ℕ) → k ≡ kind.StoreOverwriter v value → ⊥)
    → ((v : VersionAt) → k ≡ kind.SwapLink v → ⊥)
    → ((v : VersionAt) → k ≡ kind.LoadDetached v → ⊥)
    → IsPlain k
plain (kind.LoadEntry oid) a b c d e f g h i j l m n o = a oid refl
plain (kind.Claim oid seen number) a b c d e f g h i j l m n o = b oid seen number refl
plain (kind.Install oid head) a b c d e f g h i j l m n o = c oid head refl
plain (kind.LoadCell v w) a b c d e f g h i j l m n o = d v w refl
plain (kind.StoreCell place cell w value) a b c d e f g h i j l m n o = e place cell w value refl
plain (kind.SetReader v) a b c d e f g h i j l m n o = f v refl
plain (kind.ClearReader v) a b c d e f g h i j l m n o = g v refl
plain (kind.LoadReaders v) a b c d e f g h i j l m n o = h v refl
plain (kind.LoadStamp v w) a b c d e f g h i j l m n o = i v w refl
plain (kind.RaiseReader v value) a b c d e f g h i j l m n o = j v value refl
plain (kind.StoreSucc v value) a b c d e f g h i j l m n o = l v value refl
plain (kind.StoreOverwriter v value) a b c d e f g h i j l m n o = m v value refl
plain (kind.SwapLink v) a b c d e f g h i j l m n o = n v refl
plain (kind.LoadDetached v) a b c d e f g h i j l m n o = o v refl
plain _ a b c d e f g h i j l m n o = tt

pub returns-in_default : goal.returns-in_default
returns-in_default c =
    let d = c.in_default in
    let is = plain c.args.kind d.not-LoadEntry d.not-Claim d.not-Install d.not-LoadCell d.not-StoreCell d.not-SetReader d.not-ClearReader d.not-LoadReaders d.not-LoadStamp d.not-RaiseReader
    d.not-StoreSucc d.not-StoreOverwriter d.not-SwapLink d.not-LoadDetached in
    record { turn = λ s cells same. c.turn_plain.ensures.turn is s cells; kept = c.turn_plain.ensures.kept; room = c.turn_plain.ensures.room _ }
