use Rattle.std.proofs.Common.{ap, sym, subst, ◌∙◌, ℕ, ◌<◌, ◌≤◌}
use Rattle.erm_model.specs.declared.row_stop.RowStop.{RowStop}
use Rattle.erm_entries.specs.declared.entries.Entry.{Entry}
use Rattle.erm_rows.specs.Claims.{DidNotFind}
use Rattle.erm_rows.proofs.Taken.{meets_owner}
use Rattle.erm_rows.proofs.taking.find_free.Goals as goal
use Rattle.erm_rows.specs.Took.{TookFree, TookNotFree}
use Rattle.erm_rows.proofs.Took.{owned_stop}

pub returns-in-Owned-clause-refused : goal.returns-in-Owned-clause-refused
returns-in-Owned-clause-refused g c =
    subst (λ (s : RowStop). DidNotFind c.args.p.now.me.0.view c.args.who c.args.oid s c.find_head.new.p.me.0.view) (sym c.owned.ensures)
    (meets_owner c.args.p.now.me.0.view c.args.who c.args.oid c.requires.active c.requires.object c.requires.unclaimed c.in-Owned.entry _ c.in-Owned.ensures.found.1 c.of.result (sym c.of.ensures.entry)
    (λ none. c.in-Owned.ensures.found.0 (sym (ap (λ (e : Entry). e.owner) c.of.ensures.entry) ∙ none)))

pub returns-in-Owned-clause-took_none : goal.returns-in-Owned-clause-took_none
returns-in-Owned-clause-took_none g c =
    subst (λ (s : RowStop). TookNotFree g.L.RowLaw.law c.args.who c.args.oid s c.args.p.now.me.0 c.find_head.new.p.me.0) (sym c.owned.ensures)
    (owned_stop g.L.RowLaw.law c.args.who c.args.oid c.in-Owned.entry c.of.result c.args.p.now.me.0 c.find_head.new.p.me.0 c.of.ensures.entry c.in-Owned.ensures.took)

pub returns-then-begin-stamp-clause-took_none : goal.returns-then-begin-stamp-clause-took_none
returns-then-begin-stamp-clause-took_none g c = (
  c.in-Walked.entry,
  subst (λ (n : ℕ). n ≤ c.in-Walked.stamp) (sym c.requires.begin) c.if-begin-stamp.true,
  record { version = c.in-Walked.ensures.took.0; unowned = c.in-Walked.ensures.found.unowned; took = c.in-Walked.ensures.took.1 },
)

pub returns-else-begin-stamp-clause-took : goal.returns-else-begin-stamp-clause-took
returns-else-begin-stamp-clause-took g c =
    subst (λ (n : ℕ). TookFree g.L.RowLaw.law c.args.who c.args.oid n c.args.p.now.me.0 c.find_head.new.p.me.0) (sym c.of-in-Walked.ensures.spelled)
    (record {
      stamp = c.in-Walked.stamp;
      below = subst (λ (n : ℕ). c.in-Walked.stamp < n) (sym c.requires.begin) c.if-begin-stamp.false;
      head = record { version = c.in-Walked.ensures.took.0; unowned = c.in-Walked.ensures.found.unowned; took = c.in-Walked.ensures.took.1 };
    })
