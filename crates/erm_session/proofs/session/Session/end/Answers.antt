use Rattle.std.proofs.Common.{ap, sym, ◌∙◌}
use Rattle.erm_session.specs.declared.session.Stage.{Stage}
use Rattle.erm_session.specs.Session.{phase_of}
use Rattle.erm_session.proofs.Goes.{not_active}
use Rattle.erm_session.proofs.Rests.{ended_session, may_abort}
use Rattle.erm_session.proofs.Sought.{in_box}
use Rattle.erm_session.proofs.session.Session.end.Goals as goal

pub abort-requires-clause-may : goal.abort-requires-clause-may
abort-requires-clause-may g c =
    may_abort c.args.self.now c.in-Active.txn _ _ _ c.requires.kept (sym c.replace.ensures.value ∙ c.in-Active.is) (in_box c.as_slice-reads.ensures.value c.deref.ensures) (in_box c.as_slice-claims.ensures.value c.deref-2.ensures)

pub returns-clause-stands : goal.returns-clause-stands
returns-clause-stands g c =
    ended_session c.args.self.now c.in-Active.txn _ c.requires.kept (sym c.replace.ensures.value ∙ c.in-Active.is) c.replace.new.dest c.replace.ensures.after _ c.abort.new.spare c.clear.new.self c.clear-2.new.self _
    c.abort.ensures.aborted c.abort.ensures.spare c.clear.ensures.items c.clear.ensures.capacity c.clear-2.ensures.items c.clear-2.ensures.capacity

pub unreachable-requires : goal.unreachable-requires
unreachable-requires g c = not_active c.replace.result (ap (λ (a : Stage). phase_of a) c.replace.ensures.value ∙ c.requires.active) c.in_default.not-Active
