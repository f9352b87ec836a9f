use Rattle.erm_core_view.proofs.Made.{drawn_made}
use Rattle.erm_core_view.proofs.drawn_objects_are_made.Goals as goal

pub returns : goal.returns
returns c sessions oid core sound quiet from below known = drawn_made sessions core sound quiet oid from below known
