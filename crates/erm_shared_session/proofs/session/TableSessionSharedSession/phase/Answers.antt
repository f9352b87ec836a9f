use Rattle.std.proofs.Common.{◌∙◌}
use Rattle.erm_shared_session.proofs.Standing.{own_phase}
use Rattle.erm_shared_session.proofs.session.TableSessionSharedSession.phase.Goals as goal

pub returns : goal.returns
returns g c = c.phase.ensures ∙ own_phase c.args.self.now c.requires.stands.session
