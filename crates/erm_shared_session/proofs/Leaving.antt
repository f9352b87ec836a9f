-- The pass of a session that may be called may be taken in by another.
use Rattle.std.proofs.Common.{◌≡◌, ℕ, false, sym, subst, arith}
use Rattle.erm_machine.specs.Seat.{is_vacant}
use Rattle.erm_model.specs.RowTransaction.{Law}
use Rattle.erm_own_view.specs.Own.{MayCall}
use Rattle.erm_own_view.proofs.Own.{between_held}
use Rattle.erm_rule.specs.declared.view.Book.{Book}
use Rattle.erm_rule.specs.declared.view.View.{View}
use Rattle.erm_rule.specs.Views.{MayJoin, one_seat, part_of}

one_joins : (seat : ℕ) (v : View) → v ≡ one_seat seat (part_of v seat) → is_vacant (part_of v seat).place ≡ false → MayJoin v
one_joins seat v lone here = subst MayJoin (sym lone) (record { some_held = omega arith; taken = here })

pub may_join : (law : Law) (seat tail flushed : ℕ) (b : Book) → MayCall law seat tail flushed b → MayJoin b.view
may_join law seat tail flushed b may = one_joins seat b.view may.lone (between_held (part_of b.view seat).place (part_of b.view seat).task may.between)
