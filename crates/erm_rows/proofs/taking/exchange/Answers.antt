use Rattle.std.proofs.Common.{ap, sym, subst, ◌∙◌, refl}
use Rattle.erm_model.specs.declared.row_stop.RowStop.{RowStop}
use Rattle.erm_rule.proofs.Telling.{is_held}
use Rattle.erm_entries.specs.declared.entries.Entry.{Entry}
use Rattle.erm_entries.specs.Spelling.{word_of}
use Rattle.erm_rows.specs.Claims.{DidNotExchange}
use Rattle.erm_rows.proofs.Missed.{cell_passed, did_meet, enters_lost, has_passes, object_passed, ready_passed}
use Rattle.erm_rows.proofs.Taken.{meets_owner}
use Rattle.erm_rows.proofs.taking.exchange.Goals as goal
use Rattle.erm_rule.specs.Hands.{in_hand}
use Rattle.erm_rule.specs.Views.{part_of}
use Rattle.erm_rows.specs.Took.{TookOther}

pub returns-then-found-ne0-clause-lost : goal.returns-then-found-ne0-clause-lost
returns-then-found-ne0-clause-lost g c =
    subst (λ (s : RowStop). DidNotExchange c.args.p.now.me.0.view c.args.who c.args.oid (word_of c.args.seen.now) s c.claim.new.p.me.0.view) (sym c.owned.ensures)
    (meets_owner c.args.p.now.me.0.view c.args.who c.args.oid c.requires.active c.requires.object c.requires.unclaimed (word_of c.in-Err.found) _
    (enters_lost c.args.p.now.me.0.view c.args.who c.args.oid (word_of c.args.seen.now) (word_of c.in-Err.found) _
    (λ none. c.if-found-ne0.true (sym (ap (λ (e : Entry). e.owner) c.in-Err.ensures.lost.spelled) ∙ none)) c.in-Err.ensures.lost.loses)
    c.in-Err.found c.in-Err.ensures.lost.spelled c.if-found-ne0.true)

pub load_walked-stamp-requires-clause-held : goal.load_walked-stamp-requires-clause-held
load_walked-stamp-requires-clause-held g c =
    is_held _ c.args.who _
    (has_passes c.args.p.now.me.0.view c.args.who c.requires.active c.args.oid (word_of c.args.seen.now) (word_of c.in-Err.found) c.requires.object c.claim.new.p.me.0.view c.in-Err.ensures.lost.loses
    (ap (λ (e : Entry). e.owner) c.in-Err.ensures.lost.spelled ∙ c.if-found-ne0.false) c.in-Err.ensures.lost.other c.requires.plain)

pub load_walked-stamp-requires-clause-object : goal.load_walked-stamp-requires-clause-object
load_walked-stamp-requires-clause-object g c =
    object_passed c.args.p.now.me.0.view c.args.who c.requires.active c.args.oid (word_of c.args.seen.now) (word_of c.in-Err.found) c.requires.object c.claim.new.p.me.0.view c.in-Err.ensures.lost.loses
    (ap (λ (e : Entry). e.owner) c.in-Err.ensures.lost.spelled ∙ c.if-found-ne0.false) c.in-Err.ensures.lost.other c.requires.plain

pub load_walked-stamp-requires-clause-cell : goal.load_walked-stamp-requires-clause-cell
load_walked-stamp-requires-clause-cell g c =
    cell_passed c.args.p.now.me.0.view c.args.who c.requires.active c.args.oid (word_of c.args.seen.now) (word_of c.in-Err.found) c.requires.object c.claim.new.p.me.0.view c.in-Err.ensures.lost.loses
    (ap (λ (e : Entry). e.owner) c.in-Err.ensures.lost.spelled ∙ c.if-found-ne0.false) c.in-Err.ensures.lost.other c.requires.plain c.in-Err.found.head (sym (ap (λ (e : Entry). e.head) c.in-Err.ensures.lost.spelled))

pub load_walked-stamp-requires-clause-ready : goal.load_walked-stamp-requires-clause-ready
load_walked-stamp-requires-clause-ready g c =
    ready_passed c.args.p.now.me.0.view c.args.who c.requires.active c.args.oid (word_of c.args.seen.now) (word_of c.in-Err.found) c.requires.object c.claim.new.p.me.0.view c.in-Err.ensures.lost.loses
    (ap (λ (e : Entry). e.owner) c.in-Err.ensures.lost.spelled ∙ c.if-found-ne0.false) c.in-Err.ensures.lost.other c.requires.plain

pub returns-clause-lost : goal.returns-clause-lost
returns-clause-lost g c =
    did_meet c.args.p.now.me.0.view c.args.who c.requires.active c.args.oid (word_of c.args.seen.now) (word_of c.in-Err.found) c.requires.object c.claim.new.p.me.0.view c.in-Err.ensures.lost.loses
    (ap (λ (e : Entry). e.owner) c.in-Err.ensures.lost.spelled ∙ c.if-found-ne0.false) c.in-Err.ensures.lost.other c.requires.plain
    c.load_walked-stamp.result _ c.load_walked-stamp.ensures.told.told

pub returns-then-found-ne0-clause-took_other : goal.returns-then-found-ne0-clause-took_other
returns-then-found-ne0-clause-took_other g c =
    subst (λ (s : RowStop). TookOther g.L.RowLaw.law c.args.who c.args.oid (word_of c.args.seen.now) c.args.number s c.args.p.now.me.0 c.claim.new.p.me.0) (sym c.owned.ensures) (
      word_of c.in-Err.found,
      c.in-Err.ensures.lost.other,
      record { seat_is = ap (λ (e : Entry). e.owner) c.in-Err.ensures.lost.spelled; number_is = ap (λ (e : Entry). e.number) c.in-Err.ensures.lost.spelled },
      (c.args.p.now.me.0, refl, c.in-Err.ensures.took_other),
    )

pub returns-clause-took_other : goal.returns-clause-took_other
returns-clause-took_other g c = (
  word_of c.in-Err.found,
  c.in-Err.ensures.lost.other,
  ap (λ (e : Entry). e.owner) c.in-Err.ensures.lost.spelled ∙ c.if-found-ne0.false,
  in_hand (part_of c.claim.new.p.me.0.view c.args.who).task,
  (c.claim.new.p.me.0, (c.args.p.now.me.0, refl, c.in-Err.ensures.took_other), c.load_walked-stamp.ensures.booked),
)
