use Rattle.erm_rule.specs.Steps.{Fits}
use Rattle.erm_rule.specs.Went.{IsLoadStep, Went}
use Rattle.erm_seats.proofs.Surveying.{SurveyLoop}
use Rattle.erm_seats.proofs.snapshots.survey.Given as goal

-- the sessions below this one are passed
abbrev pub invariant-loop-seat : goal.invariant-loop-seat
invariant-loop-seat g l = Fits l.t.words.shared.table_id l.p × SurveyLoop l.fn.p.me.0.view l.who l.seat l.p.me.0.view × Went g.L.RowLaw.law l.who IsLoadStep l.fn.p.me.0 l.p.me.0
