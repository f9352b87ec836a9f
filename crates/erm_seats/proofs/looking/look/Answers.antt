use Rattle.std.proofs.Common.{sym, ◌∙◌, refl}
use Rattle.erm_rule.proofs.Courses.{seen_once}
use Rattle.erm_rule.proofs.Telling.{held_part}
use Rattle.erm_seats.proofs.Looks.{ready_look, did_wait, did_clear, stays_clear}
use Rattle.erm_seats.proofs.looking.look.Goals as goal

pub load_state-seen-requires-clause-ready : goal.load_state-seen-requires-clause-ready
load_state-seen-requires-clause-ready g c =
    ready_look c.args.p.now.me.0.view c.args.who _ (held_part c.args.p.now.me.0.view c.args.who c.requires.taken) c.args.seat c.args.bound c.requires.taken c.requires.other c.requires.bound

pub returns-then-is_clear_for-clause-looked : goal.returns-then-is_clear_for-clause-looked
returns-then-is_clear_for-clause-looked g c =
    did_clear c.args.p.now.me.0.view c.args.who _ (held_part c.args.p.now.me.0.view c.args.who c.requires.taken) c.args.seat c.args.bound c.load_state-seen.result _ c.load_state-seen.ensures.told.told
    (sym c.is_clear_for.ensures ∙ c.if-is_clear_for.true)

pub returns-then-is_clear_for-clause-stays : goal.returns-then-is_clear_for-clause-stays
returns-then-is_clear_for-clause-stays g c =
    stays_clear c.args.p.now.me.0.view c.args.who _ (held_part c.args.p.now.me.0.view c.args.who c.requires.taken) c.args.seat c.args.bound c.load_state-seen.result _ c.load_state-seen.ensures.told.told
    c.notes_hold.ensures c.requires.other c.requires.seat (sym c.is_clear_for.ensures ∙ c.if-is_clear_for.true)

pub returns-else-is_clear_for-clause-looked : goal.returns-else-is_clear_for-clause-looked
returns-else-is_clear_for-clause-looked g c =
    did_wait c.args.p.now.me.0.view c.args.who _ (held_part c.args.p.now.me.0.view c.args.who c.requires.taken) c.args.seat c.args.bound c.load_state-seen.result _ c.load_state-seen.ensures.told.told
    (sym c.is_clear_for.ensures ∙ c.if-is_clear_for.false)

pub returns-else-is_clear_for-clause-met : goal.returns-else-is_clear_for-clause-met
returns-else-is_clear_for-clause-met g c = seen_once _ c.args.p.now.me.0 _ _ _ _ _ c.load_state-seen.ensures.booked (λ core is met. met)

pub returns-then-is_clear_for-clause-took : goal.returns-then-is_clear_for-clause-took
returns-then-is_clear_for-clause-took g c = (c.load_state-seen.result, sym c.is_clear_for.ensures ∙ c.if-is_clear_for.true, c.load_state-seen.ensures.booked)

pub returns-else-is_clear_for-clause-took : goal.returns-else-is_clear_for-clause-took
returns-else-is_clear_for-clause-took g c = (refl, sym c.is_clear_for.ensures ∙ c.if-is_clear_for.false, c.load_state-seen.ensures.booked)
