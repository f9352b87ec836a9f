use Rattle.erm_core_shown.proofs.Made.{drawn_shown}
use Rattle.erm_core_shown.proofs.drawn_objects_are_shown.Goals as goal

pub returns : goal.returns
returns c sessions oid core sound only from below known = drawn_shown sessions core sound only oid from below known
