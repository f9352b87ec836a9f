use Rattle.erm_cases.proofs.report.name.Goals as goal

pub unwrap-requires : goal.unwrap-requires
unwrap-requires c = c.new.ensures.fits.1 c.requires
