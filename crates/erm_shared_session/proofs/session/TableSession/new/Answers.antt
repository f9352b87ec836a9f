use Rattle.std.proofs.Common.{refl}
use Rattle.erm_shared_session.proofs.session.TableSession.new.Goals as goal

pub returns : goal.returns
returns g c = record { stands = record { fits = c.requires.fits; session = c.requires.session; may = c.requires.may }; own = refl; seat = refl }
