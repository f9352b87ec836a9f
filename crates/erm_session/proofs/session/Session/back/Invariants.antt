use Rattle.std.proofs.Common.{◌≡◌, ◌-◌, [], slice_index_or}
use Rattle.erm_model.specs.declared.outcome.Phase.TheVariants.{Active}
use Rattle.erm_rule.specs.Steps.{Fits}
use Rattle.erm_rule.specs.Views.{part_of}
use Rattle.erm_session.specs.Saving.{TookBacks}
use Rattle.erm_session.specs.Session.{IsSession, phase_of}
use Rattle.erm_session.proofs.Backs.{SoFar}
use Rattle.erm_session.proofs.session.Session.back.Given as goal

abbrev pub invariant-loop-place : goal.invariant-loop-place
invariant-loop-place g l =
    let saved = slice_index_or l.fn.self.saves.points (l.n - 1) [] in
    record {
      fits : Fits l.t.words.shared.table_id l.p;
      seat : l.self.seat ≡ l.fn.self.seat;
      stands : IsSession l.self (part_of l.p.me.0.view l.fn.self.seat);
      active : phase_of l.self.stage ≡ Active;
      points : l.self.saves.points ≡ l.fn.self.saves.points;
      sofar : SoFar l.fn.p.me.0.view l.fn.self.seat saved l.place l.p.me.0.view;
      took : TookBacks g.L.RowLaw.law l.fn.self.seat saved l.place l.fn.p.me.0 l.p.me.0;
    }
