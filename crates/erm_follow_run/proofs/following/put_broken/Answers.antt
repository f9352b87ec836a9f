use Rattle.std.proofs.Common.{◌∙◌, refl, inl}
use Rattle.erm_follow_run.proofs.Puts.{prints_same}
use Rattle.erm_follow_run.proofs.following.put_broken.Goals as goal

pub returns-in-Ok : goal.returns-in-Ok
returns-in-Ok g c = inl (refl, prints_same _ _ _ _ _ _ (c.deref.ensures.value ∙ c.in-Ok.ensures) c.print.ensures)
