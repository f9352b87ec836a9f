use Rattle.std.proofs.Common.{◌≡◌, ℕ, refl, subst, arith}
use Rattle.erm_rule.specs.Views.{part_of}
use Rattle.erm_cells.specs.Heads.{head_value_at, head_word_at}
use Rattle.erm_cells.specs.Placed.{place_of}
use Rattle.erm_cells.specs.Took.{TookStores}
use Rattle.erm_cells.proofs.Took.{stores_more}
use Rattle.erm_rule.proofs.Telling.{is_held}
use Rattle.erm_cells.proofs.Heading.{did_head, head_goes_on, head_held, head_owns, head_place, head_ready, head_starts, head_within}
use Rattle.erm_cells.proofs.head_words.store_head.Goals as goal

pub loop-step-init : goal.loop-step-init
loop-step-init g c = (c.requires.fits, head_starts c.args.p.now.me.0.view c.args.who c.args.cell c.args.stamp c.args.link c.link_word-older.result c.link_word-older.ensures c.requires.known c.requires.may c.args.p.now.me.0.view refl, refl)

pub store_placed-requires-clause-held : goal.store_placed-requires-clause-held
store_placed-requires-clause-held g c = is_held c.loop-step.p.me.0.view c.args.who _ (head_held c.args.p.now.me.0.view c.args.who c.args.cell c.args.stamp c.args.link c.link_word-older.result c.link_word-older.ensures c.requires.known c.requires.may c.loop-step.p.me.0.view c.loop-step.step c.loop-step-test.true c.loop-step.invariant.1)

pub store_placed-requires-clause-known : goal.store_placed-requires-clause-known
store_placed-requires-clause-known g c = c.loop-step.invariant.1.known

pub store_placed-requires-clause-owned : goal.store_placed-requires-clause-owned
store_placed-requires-clause-owned g c = head_owns c.args.p.now.me.0.view c.args.who c.args.cell c.args.stamp c.args.link c.link_word-older.result c.link_word-older.ensures c.requires.known c.requires.may c.loop-step.p.me.0.view c.loop-step.step c.loop-step-test.true c.loop-step.invariant.1

pub store_placed-requires-clause-word : goal.store_placed-requires-clause-word
store_placed-requires-clause-word g c = head_within c.args.p.now.me.0.view c.args.who c.args.cell c.args.stamp c.args.link c.link_word-older.result c.link_word-older.ensures c.requires.known c.requires.may c.loop-step.p.me.0.view c.loop-step.step c.loop-step-test.true c.loop-step.invariant.1 c.head_word-word.result.0 c.head_word-word.ensures.word c.head_word-word.result.1 c.head_word-word.ensures.value

pub store_placed-requires-clause-ready : goal.store_placed-requires-clause-ready
store_placed-requires-clause-ready g c = head_ready c.args.p.now.me.0.view c.args.who c.args.cell c.args.stamp c.args.link c.link_word-older.result c.link_word-older.ensures c.requires.known c.requires.may c.loop-step.p.me.0.view c.loop-step.step c.loop-step-test.true c.loop-step.invariant.1 c.head_word-word.result.0 c.head_word-word.ensures.word c.head_word-word.result.1 c.head_word-word.ensures.value

pub loop-step-preserved : goal.loop-step-preserved
loop-step-preserved g c = (
  c.store_placed.ensures.fits,
  head_goes_on c.args.p.now.me.0.view c.args.who c.args.cell c.args.stamp c.args.link c.link_word-older.result c.link_word-older.ensures c.requires.known c.requires.may c.loop-step.p.me.0.view c.loop-step.step c.loop-step-test.true c.loop-step.invariant.1 c.head_word-word.result.0 c.head_word-word.ensures.word c.head_word-word.result.1 c.head_word-word.ensures.value c.store_placed.new.p.me.0.view (c.store_placed.ensures.told.0, c.store_placed.ensures.told.1.told),
  stores_more g.L.RowLaw.law c.args.who (place_of c.args.cell (part_of c.args.p.now.me.0.view c.args.who)) c.args.cell head_word_at (λ n. head_value_at c.args.stamp c.link_word-older.result (head_word_at n)) c.loop-step.step (part_of c.loop-step.p.me.0.view c.args.who)
      c.args.p.now.me.0 c.loop-step.p.me.0 c.store_placed.new.p.me.0 (head_place c.args.p.now.me.0.view c.args.who c.args.cell c.args.stamp c.args.link c.link_word-older.result c.link_word-older.ensures c.requires.known c.requires.may c.loop-step.p.me.0.view c.loop-step.step c.loop-step-test.true c.loop-step.invariant.1) c.loop-step.invariant.2 c.head_word-word.result.0 c.head_word-word.ensures.word c.head_word-word.result.1 c.head_word-word.ensures.value c.store_placed.ensures.booked,
)

pub returns-clause-stored : goal.returns-clause-stored
returns-clause-stored g c = did_head c.args.p.now.me.0.view c.args.who c.args.cell c.args.stamp c.args.link c.link_word-older.result c.link_word-older.ensures c.requires.known c.requires.may c.loop-step.p.me.0.view c.loop-step.step (omega arith) c.loop-step.invariant.1

pub returns-clause-stores : goal.returns-clause-stores
returns-clause-stores g c =
    let full : c.loop-step.step ≡ 6 = omega arith in
    subst (λ (older : ℕ). TookStores g.L.RowLaw.law c.args.who (place_of c.args.cell (part_of c.args.p.now.me.0.view c.args.who)) c.args.cell head_word_at (λ n. head_value_at c.args.stamp older (head_word_at n)) 6 c.args.p.now.me.0 c.loop-step.p.me.0) c.link_word-older.ensures
    (subst (λ (m : ℕ). TookStores g.L.RowLaw.law c.args.who (place_of c.args.cell (part_of c.args.p.now.me.0.view c.args.who)) c.args.cell head_word_at (λ n. head_value_at c.args.stamp c.link_word-older.result (head_word_at n)) m c.args.p.now.me.0 c.loop-step.p.me.0) full c.loop-step.invariant.2)
