use Rattle.std.proofs.Common.{rules, sym, ◌∙◌}
use Rattle.erm_core.specs.Cores.{core_of}
use Rattle.erm_core_steps.proofs.Finishing.{drop_rests, drop_shows, drop_taken, finish_rests}
use Rattle.erm_lists.proofs.lists.Lists.finish_claim.Goals as goal

pub go-requires-clause-taken : goal.go-requires-clause-taken
go-requires-clause-taken g c =
    drop_taken c.args.seat (core_of c.finish_steps.new.self.state) c.newest-version.result c.finish_steps.ensures.sound.sound c.finish_steps.ensures.goes.at
    (sym c.in-Refused.ensures) c.newest-version.ensures

pub returns-clause-rests : goal.returns-clause-rests
returns-clause-rests g c =
    (drop_rests c.args.seat c.newest-version.result.oid c.newest-version.result.cell (core_of c.finish_steps.new.self.state) (core_of c.go.new.self.state)
    c.finish_steps.ensures.goes.at (sym c.in-Refused.ensures) c.go.ensures.after).0

pub returns-clause-active : goal.returns-clause-active
returns-clause-active g c =
    (drop_rests c.args.seat c.newest-version.result.oid c.newest-version.result.cell (core_of c.finish_steps.new.self.state) (core_of c.go.new.self.state)
    c.finish_steps.ensures.goes.at (sym c.in-Refused.ensures) c.go.ensures.after).1

pub returns-clause-dropped : goal.returns-clause-dropped
returns-clause-dropped g c = λ _.
    drop_shows c.args.self.now.sessions c.args.seat c.newest-version.result.oid c.newest-version.result.cell (core_of c.args.self.now.state)
    (core_of c.finish_steps.new.self.state) (core_of c.go.new.self.state) c.finish_steps.ensures.sound.sound c.finish_steps.ensures.goes (sym c.in-Refused.ensures)
    c.go.ensures.after

pub returns-in_default : goal.returns-in_default
returns-in_default g c =
    record {
      sound = c.finish_steps.ensures.sound;
      sessions = c.finish_steps.ensures.sessions;
      rests =
          finish_rests ((core_of c.finish_steps.new.self.state).seats c.args.seat) ((core_of c.finish_steps.new.self.state).seats c.args.seat).task
          c.finish_steps.ensures.finishes c.finish_steps.ensures.done (λ e. c.in_default.not-Refused (c.task.ensures ∙ e));
      active = c.finish_steps.ensures.goes.at.active;
      done = λ _. c.finish_steps.ensures.goes.unseen;
      dropped = λ e. search rules;
    }
