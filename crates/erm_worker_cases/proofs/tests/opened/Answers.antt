use Rattle.erm_model.specs.Rows.{rows_of}
use Rattle.erm_node.specs.declared.laws.SoundRows.{SoundRows}
use Rattle.erm_plain.specs.Stands.{plain_view}
use Rattle.erm_plain.specs.declared.plain.Plain.{Plain}
use Rattle.erm_worker_cases.proofs.Opened.{just_opened, so_many}
use Rattle.erm_worker_cases.proofs.tests.opened.Goals as goal

pub returns-clause-opened : goal.returns-clause-opened
returns-clause-opened g c = just_opened (λ (p : Plain SoundRows). plain_view p) c.open_world.result (rows_of c.deref-2.result.now) 13 1 2 c.open_world.ensures.opened

pub returns-clause-sessions : goal.returns-clause-sessions
returns-clause-sessions g c = so_many (λ (p : Plain SoundRows). plain_view p) c.open_world.result (rows_of c.deref-2.result.now) 13 1 2 c.open_world.ensures.opened
