use Rattle.std.proofs.Common.{◌≡◌}
use Rattle.erm_model.specs.RowTransaction.{any_law}
use Rattle.erm_ring.specs.Turns.{MayGather}
use Rattle.erm_rule.specs.Steps.{Fits}
use Rattle.erm_rule.specs.Views.{view}
use Rattle.erm_shared_session.specs.Stands.{Stands, seat_of}
use Rattle.erm_beside_cases.proofs.races.draw.Given as goal

abbrev pub invariant-loop-number : goal.invariant-loop-number
invariant-loop-number l = record {
  stands : Stands any_law l.table l.session;
  seat : seat_of l.session ≡ seat_of l.fn.session;
  fits : Fits l.table.words.shared.table_id l.pass;
  may : MayGather (view l.pass);
}
