use Rattle.erm_core_view.proofs.Begun.{begins, begun_rests, refused, refused_rests}
use Rattle.erm_core_view.proofs.begins_show.Goals as goal

pub returns-clause-begins : goal.returns-clause-begins
returns-clause-begins g sessions seat c sound session idle left below = begins seat c sound session idle left sessions below

pub returns-clause-rests : goal.returns-clause-rests
returns-clause-rests g seat c sound session idle left below = begun_rests seat c sound session idle left below

pub returns-clause-refused : goal.returns-clause-refused
returns-clause-refused g sessions seat c sound session idle left above = refused seat c sound session idle left sessions above

pub returns-clause-idle : goal.returns-clause-idle
returns-clause-idle g seat c sound session idle left above = refused_rests seat c sound session idle left above
