use Rattle.std.proofs.Common.{◌≡◌}
use Rattle.erm_model.specs.RowTransaction.{any_law}
use Rattle.erm_shared_session.specs.Stands.{Stands, seat_of}
use Rattle.erm_beside_cases.proofs.races.play_all.Given as goal

abbrev pub invariant-loop-k : goal.invariant-loop-k
invariant-loop-k l = Stands any_law l.table l.session × (seat_of l.session ≡ seat_of l.fn.session)
