use Rattle.std.proofs.Common.{length, ap, arith, length-append, ◌∷◌, []}
use Rattle.erm_explain.proofs.Explaining.{each_more}
use Rattle.erm_explain.proofs.Found.{at_within, read_at}
use Rattle.erm_explain.proofs.causes.explain.Goals as goal

pub loop-place-init : goal.loop-place-init
loop-place-init c = record {
  seats = c.in_ok-books.ensures.seats;
  told = record {
    progress = λ s some. c.in_ok-books.ensures.progress c.args.script.now c.args.answers.now s;
    none = c.in_ok-books.ensures.progress c.args.script.now c.args.answers.now 0;
    placed = c.in_ok-books.ensures.placed c.args.script.now c.args.answers.now;
  };
  count = ap length c.new-causes.ensures.items;
  within = omega arith;
  each = λ i l a lt. absurd (omega (arith, lt));
}

pub cause_of-requires-clause-line : goal.cause_of-requires-clause-line
cause_of-requires-clause-line c =
    read_at c.args.script.now c.loop-place.place c.index-script-place.result (omega (arith, c.loop-place-test.true, c.min-count.ensures)) c.index-script-place.is

pub loop-place-preserved : goal.loop-place-preserved
loop-place-preserved c =
    let here = c.loop-place.invariant in
    let at = read_at c.args.script.now c.loop-place.place c.index-script-place.result (omega (arith, c.loop-place-test.true, c.min-count.ensures)) c.index-script-place.is in
    let told = read_at c.args.answers.now c.loop-place.place c.index-answers-place.result (omega (arith, c.loop-place-test.true, c.min-count.ensures)) c.index-answers-place.is in
    record {
      seats = c.in_ok-hear_line.ensures.seats;
      told = c.in_ok-hear_line.ensures.told c.args.script.now c.args.answers.now at told here.told;
      count = omega (arith, here.count, ap length c.in_ok-push.ensures.items, length-append c.loop-place.causes.items (c.in_ok-cause.cause ∷ []));
      within = omega (arith, c.loop-place-test.true, c.min-count.ensures);
      each = each_more c.args.script.now c.args.answers.now c.loop-place.causes.items _ c.loop-place.place c.index-script-place.result c.index-answers-place.result c.in_ok-cause.cause here.count
          c.in_ok-push.ensures.items at told c.in_ok-cause.ensures.itself (c.in_ok-cause.ensures.names c.args.answers.now here.told told) here.each;
    }

pub returns : goal.returns
returns c = record {
  count = omega (arith, c.loop-place.invariant.count, c.loop-place.invariant.within, c.min-count.ensures, c.loop-place-test.false);
  each = λ place l a at told.
      let low = at_within c.args.script.now place l at in
      let short = at_within c.args.answers.now place a told in
      c.loop-place.invariant.each place l a (omega (arith, low, short, c.min-count.ensures, c.loop-place-test.false)) at told;
}
