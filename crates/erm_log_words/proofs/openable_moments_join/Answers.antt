use Rattle.erm_log_words.proofs.openable_moments_join.Goals as goal

pub returns : goal.returns
returns g c = c.moments_join.ensures.joined tt
