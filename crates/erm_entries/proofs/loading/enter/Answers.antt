use Rattle.std.proofs.Common.{ap, ◌∙◌, refl, sym, inl, inr}
use Rattle.erm_rule.proofs.Courses.{seen_after}
use Rattle.erm_entries.specs.declared.entries.Entry.{Entry}
use Rattle.erm_entries.specs.Spelling.{word_of}
use Rattle.erm_entries.proofs.Loads.{may_load}
use Rattle.erm_entries.proofs.Reaching.{did_reach_free, look_taken, is_other, look_bound, did_wait, again_active, again_cleared, again_starts, did_reach_again}
use Rattle.erm_entries.proofs.loading.enter.Goals as goal

pub load-first-requires-clause-starts : goal.load-first-requires-clause-starts
load-first-requires-clause-starts g c = may_load c.args.oid _ c.requires.starts

pub returns-then-first-eq0-clause-reached : goal.returns-then-first-eq0-clause-reached
returns-then-first-eq0-clause-reached g c =
    did_reach_free c.args.p.now.me.0.view c.args.who c.requires.active c.args.oid c.args.begin c.requires.object c.requires.begin (word_of c.load-first.result) c.load-first.new.p.me.0.view
    (c.load-first.ensures.loaded c.requires.starts) (ap (λ (e : Entry). e.owner) c.load-first.ensures.spelled ∙ c.if-first-eq0.true)

pub look-found-requires-clause-taken : goal.look-found-requires-clause-taken
look-found-requires-clause-taken g c =
    look_taken c.args.p.now.me.0.view c.args.who c.requires.active c.args.oid c.args.begin c.requires.object c.requires.begin (word_of c.load-first.result) c.load-first.new.p.me.0.view
    (c.load-first.ensures.loaded c.requires.starts) c.requires.unclaimed c.load-first.result.owner (ap (λ (e : Entry). e.owner) c.load-first.ensures.spelled) c.if-first-eq0.false

pub look-found-requires-clause-other : goal.look-found-requires-clause-other
look-found-requires-clause-other g c =
    (is_other c.args.p.now.me.0.view c.args.who c.requires.active c.args.oid c.args.begin c.requires.object c.requires.begin (word_of c.load-first.result) c.load-first.new.p.me.0.view
    (c.load-first.ensures.loaded c.requires.starts) c.requires.unclaimed c.load-first.result.owner (ap (λ (e : Entry). e.owner) c.load-first.ensures.spelled) c.if-first-eq0.false).another

pub look-found-requires-clause-seat : goal.look-found-requires-clause-seat
look-found-requires-clause-seat g c =
    (is_other c.args.p.now.me.0.view c.args.who c.requires.active c.args.oid c.args.begin c.requires.object c.requires.begin (word_of c.load-first.result) c.load-first.new.p.me.0.view
    (c.load-first.ensures.loaded c.requires.starts) c.requires.unclaimed c.load-first.result.owner (ap (λ (e : Entry). e.owner) c.load-first.ensures.spelled) c.if-first-eq0.false).has_words

pub look-found-requires-clause-bound : goal.look-found-requires-clause-bound
look-found-requires-clause-bound g c =
    look_bound c.args.p.now.me.0.view c.args.who c.requires.active c.args.oid c.args.begin c.requires.object c.requires.begin (word_of c.load-first.result) c.load-first.new.p.me.0.view
    (c.load-first.ensures.loaded c.requires.starts) c.requires.unclaimed c.load-first.result.owner (ap (λ (e : Entry). e.owner) c.load-first.ensures.spelled) c.if-first-eq0.false

pub load-requires-clause-active : goal.load-requires-clause-active
load-requires-clause-active g c =
    again_active c.args.p.now.me.0.view c.args.who c.requires.active c.args.oid c.args.begin c.requires.object c.requires.begin (word_of c.load-first.result) c.load-first.new.p.me.0.view
    (c.load-first.ensures.loaded c.requires.starts) c.requires.unclaimed c.load-first.result.owner (ap (λ (e : Entry). e.owner) c.load-first.ensures.spelled) c.if-first-eq0.false
    c.look-found.new.p.me.0.view c.in-Clear.ensures.looked

pub load-requires-clause-starts : goal.load-requires-clause-starts
load-requires-clause-starts g c =
    again_starts c.args.p.now.me.0.view c.args.who c.requires.active c.args.oid c.args.begin c.requires.object c.requires.begin (word_of c.load-first.result) c.load-first.new.p.me.0.view
    (c.load-first.ensures.loaded c.requires.starts) c.requires.unclaimed c.load-first.result.owner (ap (λ (e : Entry). e.owner) c.load-first.ensures.spelled) c.if-first-eq0.false
    c.look-found.new.p.me.0.view c.in-Clear.ensures.looked

pub returns-in-Clear-clause-reached : goal.returns-in-Clear-clause-reached
returns-in-Clear-clause-reached g c =
    did_reach_again c.args.p.now.me.0.view c.args.who c.requires.active c.args.oid c.args.begin c.requires.object c.requires.begin (word_of c.load-first.result) c.load-first.new.p.me.0.view
    (c.load-first.ensures.loaded c.requires.starts) c.requires.unclaimed c.load-first.result.owner (ap (λ (e : Entry). e.owner) c.load-first.ensures.spelled) c.if-first-eq0.false
    c.look-found.new.p.me.0.view c.in-Clear.ensures.looked (word_of c.load.result) c.load.new.p.me.0.view
    (c.load.ensures.reloaded
    (again_cleared c.args.p.now.me.0.view c.args.who c.requires.active c.args.oid c.args.begin c.requires.object c.requires.begin (word_of c.load-first.result) c.load-first.new.p.me.0.view
    (c.load-first.ensures.loaded c.requires.starts) c.requires.unclaimed c.load-first.result.owner (ap (λ (e : Entry). e.owner) c.load-first.ensures.spelled) c.if-first-eq0.false
    c.look-found.new.p.me.0.view c.in-Clear.ensures.looked))

pub returns-in-NotYet-clause-waits : goal.returns-in-NotYet-clause-waits
returns-in-NotYet-clause-waits g c =
    did_wait c.args.p.now.me.0.view c.args.who c.requires.active c.args.oid c.args.begin c.requires.object c.requires.begin (word_of c.load-first.result) c.load-first.new.p.me.0.view
    (c.load-first.ensures.loaded c.requires.starts) c.requires.unclaimed c.load-first.result.owner (ap (λ (e : Entry). e.owner) c.load-first.ensures.spelled) c.if-first-eq0.false
    c.in-NotYet.seat c.in-NotYet.seen c.look-found.new.p.me.0.view c.in-NotYet.ensures.looked

pub returns-in-NotYet-clause-met : goal.returns-in-NotYet-clause-met
returns-in-NotYet-clause-met g c = seen_after c.args.p.now.me.0 _ _ _ c.load-first.ensures.goes c.in-NotYet.ensures.met

pub returns-then-first-eq0-clause-took : goal.returns-then-first-eq0-clause-took
returns-then-first-eq0-clause-took g c = inl (ap (λ (e : Entry). e.owner) c.load-first.ensures.spelled ∙ c.if-first-eq0.true, (c.args.p.now.me.0, refl, c.load-first.ensures.booked))

pub returns-in-Clear-clause-took : goal.returns-in-Clear-clause-took
returns-in-Clear-clause-took g c = inr (record {
  first = word_of c.load-first.result;
  owner = c.load-first.result.owner;
  state = c.in-Clear.ensures.took.0;
  owner_is = ap (λ (e : Entry). e.owner) c.load-first.ensures.spelled;
  clear = c.in-Clear.ensures.took.1;
  took = (c.look-found.new.p.me.0, (c.load-first.new.p.me.0, (c.args.p.now.me.0, refl, c.load-first.ensures.booked), c.in-Clear.ensures.took.2), c.load.ensures.booked);
})

pub returns-in-NotYet-clause-took_wait : goal.returns-in-NotYet-clause-took_wait
returns-in-NotYet-clause-took_wait g c = record {
  entry = word_of c.load-first.result;
  owner_is = ap (λ (e : Entry). e.owner) c.load-first.ensures.spelled ∙ sym c.in-NotYet.ensures.took.0;
  unclear = c.in-NotYet.ensures.took.1;
  took = (c.load-first.new.p.me.0, (c.args.p.now.me.0, refl, c.load-first.ensures.booked), c.in-NotYet.ensures.took.2);
}
