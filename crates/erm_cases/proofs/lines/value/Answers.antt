use Rattle.erm_cases.proofs.lines.value.Goals as goal

pub unwrap-requires : goal.unwrap-requires
unwrap-requires c = c.new.ensures.fits.1 c.requires
