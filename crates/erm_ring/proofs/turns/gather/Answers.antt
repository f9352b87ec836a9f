use Rattle.std.proofs.Common.{◌∙◌, inl, inr, ⊎_elim, arith, length-set}
use Rattle.erm_ring.proofs.Gathering.{at_low, gather_full, gather_stops, flushed_held, flushed_ready, gather_goes_on, gather_starts, has, loop_held, tail_ready, word_ready}
use Rattle.erm_ring.proofs.TookWords.{took_full, took_gather, words_more, words_none}
use Rattle.erm_ring.proofs.turns.gather.Goals as goal
use Rattle.erm_rule.proofs.Wents.{went_more, went_one, went_step}

pub load_tail-tail-requires-clause-ready : goal.load_tail-tail-requires-clause-ready
load_tail-tail-requires-clause-ready g c = tail_ready c.args.p.now.me.0.view c.requires.may

pub load_flushed-from-requires-clause-held : goal.load_flushed-from-requires-clause-held
load_flushed-from-requires-clause-held g c = flushed_held c.args.p.now.me.0 c.requires.may g.L.RowLaw.law c.load_tail-tail.result c.load_tail-tail.new.p.me.0 c.load_tail-tail.ensures.booked

pub load_flushed-from-requires-clause-ready : goal.load_flushed-from-requires-clause-ready
load_flushed-from-requires-clause-ready g c = flushed_ready c.args.p.now.me.0 c.requires.may g.L.RowLaw.law c.load_tail-tail.result c.load_tail-tail.new.p.me.0 c.load_tail-tail.ensures.booked

pub loop-count-init : goal.loop-count-init
loop-count-init g c = (
  c.load_flushed-from.ensures.fits,
  c.requires.room,
  gather_starts c.args.p.now.me.0 c.requires.may g.L.RowLaw.law c.load_tail-tail.result c.load_flushed-from.result c.load_tail-tail.new.p.me.0 c.load_flushed-from.new.p.me.0 c.load_tail-tail.ensures.booked c.load_flushed-from.ensures.booked c.args.words.now,
  went_step _ _ _ _ _ _ _ _ (went_one _ _ _ _ _ _ _ tt c.load_tail-tail.ensures.booked) tt c.load_flushed-from.ensures.booked,
  words_none g.L.RowLaw.law c.load_tail-tail.result c.load_flushed-from.result c.args.p.now.me.0 c.args.words.now c.load_tail-tail.new.p.me.0 c.load_flushed-from.new.p.me.0 c.load_tail-tail.ensures.booked c.load_flushed-from.ensures.booked,
)

pub next_word-requires-clause-fits : goal.next_word-requires-clause-fits
next_word-requires-clause-fits g c = c.loop-count.invariant.0

pub next_word-requires-clause-held : goal.next_word-requires-clause-held
next_word-requires-clause-held g c = loop_held c.args.p.now.me.0 (has c.args.p.now.me.0 c.requires.may) _ _ _ _ _ _ c.loop-count.invariant.2

pub next_word-requires-clause-ready : goal.next_word-requires-clause-ready
next_word-requires-clause-ready g c may =
    word_ready c.args.p.now.me.0 (has c.args.p.now.me.0 c.requires.may) c.load_tail-tail.result c.load_flushed-from.result c.loop-count.count c.loop-count.end c.loop-count.words c.loop-count.p.me.0 c.loop-count.invariant.2
    (let less = c.loop-count-test.true in let room = c.requires.room in omega (arith, less, room)) may

pub next_word-requires-clause-low : goal.next_word-requires-clause-low
next_word-requires-clause-low g c =
    let low = at_low c.args.p.now.me.0 (has c.args.p.now.me.0 c.requires.may) c.load_tail-tail.result c.load_flushed-from.result c.loop-count.count c.loop-count.end c.loop-count.words c.loop-count.p.me.0 c.loop-count.invariant.2 in
    omega (arith, low)

pub returns-in_default-clause-gathers : goal.returns-in_default-clause-gathers
returns-in_default-clause-gathers g c =
    gather_stops c.args.p.now.me.0 (has c.args.p.now.me.0 c.requires.may) c.load_tail-tail.result c.load_flushed-from.result c.loop-count.count c.loop-count.end c.loop-count.words c.loop-count.p.me.0 c.loop-count.invariant.2
    g.L.RowLaw.law c.next_word.new.p.me.0 (let less = c.loop-count-test.true in let room = c.requires.room in omega (arith, less, room)) (let room = c.loop-count.invariant.1 in let less = c.loop-count-test.true in let own = c.requires.room in omega (arith, room, less, own))
    (c.next_word.ensures.none c.in_default.is) c.gathered.result c.gathered.ensures.words c.gathered.ensures.empty c.gathered.ensures.unfilled

pub loop-count-preserved : goal.loop-count-preserved
loop-count-preserved g c =
    let less = c.loop-count-test.true in
    let room = c.requires.room in
    let own = c.loop-count.invariant.1 in
    let next = c.in-Some.ensures.some in (
      c.next_word.ensures.fits,
      length-set c.loop-count.words c.loop-count.count c.in-Some.word ∙ c.loop-count.invariant.1,
      gather_goes_on c.args.p.now.me.0 (has c.args.p.now.me.0 c.requires.may) c.load_tail-tail.result c.load_flushed-from.result c.loop-count.count c.loop-count.end c.loop-count.words c.loop-count.p.me.0 c.loop-count.invariant.2
          g.L.RowLaw.law c.in-Some.word c.in-Some.to c.next_word.new.p.me.0 next.0 next.1 (omega (arith, less, room, own)) (omega (arith, less, room)) next.2,
      went_more _ _ _ _ _ _ c.loop-count.invariant.3 c.next_word.ensures.loads,
      words_more g.L.RowLaw.law c.load_tail-tail.result c.load_flushed-from.result c.args.p.now.me.0 c.loop-count.count c.in-Some.word c.loop-count.words c.loop-count.p.me.0 c.next_word.new.p.me.0 (omega (arith, less, room, own)) c.loop-count.invariant.4 next.0,
    )

pub returns-clause-fits : goal.returns-clause-fits
returns-clause-fits g c = c.loop-count.invariant.0

pub returns-clause-gathers : goal.returns-clause-gathers
returns-clause-gathers g c =
    gather_full c.args.p.now.me.0 (has c.args.p.now.me.0 c.requires.may) c.load_tail-tail.result c.load_flushed-from.result c.loop-count.count c.loop-count.end c.loop-count.words c.loop-count.p.me.0 c.loop-count.invariant.2
    (let less = c.loop-count-test.false in let most = c.loop-count.auto.count-end in let room = c.requires.room in omega (arith, less, most, room)) c.loop-count.invariant.1
    c.gathered-2.result c.gathered-2.ensures.words c.gathered-2.ensures.empty c.gathered-2.ensures.unfilled

pub returns-in_default-clause-loads : goal.returns-in_default-clause-loads
returns-in_default-clause-loads g c = went_more _ _ _ _ _ _ c.loop-count.invariant.3 c.next_word.ensures.loads

pub returns-clause-loads : goal.returns-clause-loads
returns-clause-loads g c = c.loop-count.invariant.3

pub returns-in_default-clause-took : goal.returns-in_default-clause-took
returns-in_default-clause-took g c =
    took_gather g.L.RowLaw.law c.load_tail-tail.result c.load_flushed-from.result c.args.p.now.me.0 c.loop-count.count c.loop-count.words c.next_word.new.p.me.0
    (record { few = (let less = c.loop-count-test.true in let room = c.loop-count.invariant.1 in omega (arith, less, room)); gathered = c.loop-count.p.me.0; loads = c.loop-count.invariant.4; stop = ⊎_elim (λ ended. inl (inl ended.0, ended.1)) (λ open_here. inr (open_here.0, (let less = c.loop-count-test.true in let room = c.loop-count.invariant.1 in omega (arith, less, room)), open_here.1)) (c.next_word.ensures.none c.in_default.is).1 })
    c.gathered.result c.gathered.ensures.words c.gathered.ensures.empty c.gathered.ensures.unfilled

pub returns-clause-took : goal.returns-clause-took
returns-clause-took g c =
    took_full g.L.RowLaw.law c.load_tail-tail.result c.load_flushed-from.result c.args.p.now.me.0 c.loop-count.count c.loop-count.words c.loop-count.p.me.0
    (let less = c.loop-count-test.false in let most = c.loop-count.auto.count-end in let room = c.requires.room in omega (arith, less, most, room)) c.loop-count.invariant.1 c.loop-count.invariant.4
    c.gathered-2.result c.gathered-2.ensures.words c.gathered-2.ensures.empty c.gathered-2.ensures.unfilled
