use Rattle.erm_follow.proofs.Fronts.{front, never_breaks}
use Rattle.erm_follow.proofs.laws.lines_stay_in_front.Goals as goal

pub returns-clause-front : goal.returns-clause-front
returns-clause-front c = λ base log more lines order f has goes shipped serial. front base log lines f has more order goes shipped serial

pub returns-clause-whole : goal.returns-clause-whole
returns-clause-whole c = λ base log lines f g s b has shipped breaks. never_breaks base log lines f has g s b shipped breaks
