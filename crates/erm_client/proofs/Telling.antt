-- What a refusal tells of the transcript behind it.
use Rattle.std.proofs.Common.{◌≡◌, Some, refl, sym, ◌∙◌, subst}
use Rattle.erm_client.specs.declared.refusal.Refusal.{Refusal}
use Rattle.erm_client.specs.declared.refusal.Refusal.TheVariants as refusal
use Rattle.erm_client.specs.declared.transcript.Standing.{Standing}
use Rattle.erm_client.specs.declared.transcript.Standing.TheVariants as standing
use Rattle.erm_client.specs.Laws.{AnswersRefuse, MemoryLeavesNothing, StopsAreStops}
use Rattle.erm_client.specs.Refusals.{IsByAnswer, refusal_told}
use Rattle.erm_client.specs.Transcripts.{over_told}
use Rattle.erm_client.specs.Transcripts as refused
use Rattle.erm_report.specs.declared.answer.Answer.{Answer}
use Rattle.erm_report.specs.declared.answer.Answer.TheVariants as answer

-- no answer tells that the client was told to stop, or that memory ran out
never_stops : (a : Answer) → refusal_told a ≡ Some refusal.Stopped → ⊥
never_stops answer.NotIdle is = cc
never_stops a is = cc

never_starves : (a : Answer) → refusal_told a ≡ Some refusal.Memory → ⊥
never_starves answer.NotIdle is = cc
never_starves a is = cc

the_refusal : (x why : Refusal) → Some x ≡ Some why → x ≡ why
the_refusal x why is = cc

-- the refusal of a client that is asked no more is one of these two
over_stopped : (s : Standing) → over_told s ≡ Some refusal.Stopped → s ≡ standing.Stopped
over_stopped standing.Open is = absurd (cc)
over_stopped standing.Stopped is = refl
over_stopped standing.Starved is = absurd (cc)

over_by : (s : Standing) (why : Refusal) → over_told s ≡ Some why → IsByAnswer why → ⊥
over_by standing.Open why is by = cc
over_by standing.Stopped why is by = subst (λ (x : Refusal). IsByAnswer x) (sym (the_refusal refusal.Stopped why is)) by
over_by standing.Starved why is by = subst (λ (x : Refusal). IsByAnswer x) (sym (the_refusal refusal.Memory why is)) by

pub stopped_now : StopsAreStops
stopped_now c d asked (refused.answered a did is) = absurd (never_stops a is)
stopped_now c d asked (refused.untold table low high found scans did is) = absurd (cc)
stopped_now c d asked (refused.stopped number opened is ends) = ends.standing_so
stopped_now c d asked (refused.starved opened is starves) = absurd (cc)
stopped_now c d asked (refused.unasked opened is none same) = absurd (cc)
stopped_now c d asked (refused.over is same) = same.standing_so ∙ over_stopped c.standing is

pub answers_refuse : AnswersRefuse
answers_refuse c d asked why by (refused.answered a did is) = (a, did, is)
answers_refuse c d asked why by (refused.untold table low high found scans did is) = absurd (subst (λ (x : Refusal). IsByAnswer x) is by)
answers_refuse c d asked why by (refused.stopped number opened is ends) = absurd (subst (λ (x : Refusal). IsByAnswer x) is by)
answers_refuse c d asked why by (refused.starved opened is starves) = absurd (subst (λ (x : Refusal). IsByAnswer x) is by)
answers_refuse c d asked why by (refused.unasked opened is none same) = absurd (subst (λ (x : Refusal). IsByAnswer x) is by)
answers_refuse c d asked why by (refused.over is same) = absurd (over_by c.standing why is by)

pub memory_leaves : MemoryLeavesNothing
memory_leaves c d asked other (refused.answered a did is) = absurd (never_starves a is)
memory_leaves c d asked other (refused.untold table low high found scans did is) = absurd (other table low high scans)
memory_leaves c d asked other (refused.stopped number opened is ends) = absurd (cc)
memory_leaves c d asked other (refused.starved opened is starves) = (starves.lines, starves.answers)
memory_leaves c d asked other (refused.unasked opened is none same) = (same.lines, same.answers)
memory_leaves c d asked other (refused.over is same) = (same.lines, same.answers)
