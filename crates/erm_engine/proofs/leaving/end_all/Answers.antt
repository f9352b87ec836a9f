use Rattle.std.proofs.Common.{◌∙◌, List, length, ap}
use Rattle.std.specs.Prelude.{slice_get}
use Rattle.erm_shared_session.specs.declared.session.TableSession.{TableSession}
use Rattle.erm_engine.proofs.Popped.{at_before, at_last}
use Rattle.erm_engine.proofs.leaving.end_all.Goals as goal

pub into_pass-requires : goal.into_pass-requires
into_pass-requires g c =
    let rest = c.pop.new.self.items in
    record {
      idle =
          c.loop-session.invariant (length rest) c.in-Some.session
          (ap (λ (ss : List (TableSession g.row.L.Denot)). slice_get ss (length rest)) c.in-Some.ensures.items ∙ at_last rest c.in-Some.session);
    }

pub loop-session-preserved : goal.loop-session-preserved
loop-session-preserved g c k s at =
    c.loop-session.invariant k s
    (ap (λ (ss : List (TableSession g.row.L.Denot)). slice_get ss k) c.in-Some.ensures.items ∙ at_before c.pop.new.self.items c.in-Some.session s k at)
