use Rattle.std.proofs.Common.{◌≡◌, length, sym, ap, ◌∙◌, subst, ℕ}
use Rattle.std.proofs.lemmas.List.{length-map}
use Rattle.erm_model.specs.declared.limits.TheConstants.{SESSIONS}
use Rattle.erm_engine.specs.Opened.{AreIdle}
use Rattle.erm_run_beside.proofs.Over.{all_done, all_rest, ran_beside}
use Rattle.erm_run_beside.proofs.end.end_sessions.Goals as goal

pub close_sessions-disk-requires-clause-sessions : goal.close_sessions-disk-requires-clause-sessions
close_sessions-disk-requires-clause-sessions g c =
    let w = c.requires.worked in
    all_done g.L.RowLaw.law c.args.table c.args.opening.now w.0 c.args.done.items _ c.take.ensures.sessions w.1

pub close_sessions-disk-requires-clause-rests : goal.close_sessions-disk-requires-clause-rests
close_sessions-disk-requires-clause-rests g c =
    let w = c.requires.worked in
    all_rest g.L.RowLaw.law c.args.table c.args.opening.now w.0 c.args.done.items _ c.take.ensures.sessions w.1

pub close_sessions-disk-requires-clause-idle : goal.close_sessions-disk-requires-clause-idle
close_sessions-disk-requires-clause-idle g c =
    let i = c.requires.idle in
    let long : length c.take.new.self.sessions.items ≡ length c.args.done.items = ap (λ l. length l) c.take.ensures.sessions ∙ length-map c.args.done.items _ in
    (i.0, i.1, subst (λ (n : ℕ). AreIdle c.args.table.words.shared.table_id i.0 i.1 n SESSIONS c.args.idle.items) (sym long) i.2)

pub returns : goal.returns
returns g c = record {
  ran = λ parts worked unless.
      ran_beside g.L.RowLaw.law c.args.table c.args.opening.now g.B.Naming.began g.B.Naming.faults _ _ _ parts c.args.done.items _ c.take.new.self.works.items c.requires.begins c.take.ensures.sessions c.take.ensures.works
      c.close_sessions-disk.ensures.closes worked unless;
  failed = c.close_sessions-disk.ensures.failed;
}
