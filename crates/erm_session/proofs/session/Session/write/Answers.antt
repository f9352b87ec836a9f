use Rattle.std.proofs.Common.{◌≡◌, ◌∙◌, ℕ, subst, sym}
use Rattle.erm_rule.specs.Views.{part_of}
use Rattle.erm_session.specs.Saves.{saves_of}
use Rattle.erm_session.specs.Calls.{IsClaimedAt, SetsRow}
use Rattle.erm_session.proofs.session.Session.write.Goals as goal
use Rattle.erm_session.proofs.Took.{write_still}
use Rattle.erm_cells.specs.Placed.{place_of}
use Rattle.erm_cells.specs.Took.{TookRow}

pub returns-clause-written : goal.returns-clause-written
returns-clause-written g c =
    record {
      between = c.claim_at.new.p.me.0.view;
      claimed = c.in_ok-place.ensures.claimed;
      place = c.in_ok-place.place;
      of = c.in_ok-place.ensures.place;
      set = subst (λ n. SetsRow c.claim_at.new.p.me.0.view n c.in_ok-place.place c.args.row.now c.set_row.new.p.me.0.view) c.in_ok-place.ensures.seat c.set_row.ensures.set;
    }

pub returns-clause-took : goal.returns-clause-took
returns-clause-took g c = record {
  claimed = c.claim_at.new.p.me.0;
  count = _;
  claim = c.in_ok-place.ensures.took;
  cell = c.set_row.ensures.stores.0;
  of = subst (λ (n : ℕ). IsClaimedAt (part_of c.claim_at.new.p.me.0.view c.args.self.now.seat) c.args.oid n)
      (sym (subst (λ (n : ℕ). place_of c.set_row.ensures.stores.0 (part_of c.claim_at.new.p.me.0.view n) ≡ c.in_ok-place.place) c.in_ok-place.ensures.seat c.set_row.ensures.stores.1)) c.in_ok-place.ensures.place;
  stores = subst (λ (n : ℕ). TookRow g.L.RowLaw.law n c.set_row.ensures.stores.0 c.args.row.now c.claim_at.new.p.me.0 c.set_row.new.p.me.0) c.in_ok-place.ensures.seat c.set_row.ensures.stores.2;
}

pub returns-clause-still : goal.returns-clause-still
returns-clause-still g c = write_still g.L.RowLaw.law c.args.self.now.seat c.args.oid c.args.row.now c.args.p.now.me.0 c.set_row.new.p.me.0 (returns-clause-took g c)

pub returns-clause-saves : goal.returns-clause-saves
returns-clause-saves g c = λ still.
    subst (λ (n : ℕ). saves_of c.set_row.new.self (part_of c.set_row.new.p.me.0.view n) ≡ saves_of c.claim_at.new.self (part_of c.claim_at.new.p.me.0.view n)) c.in_ok-place.ensures.seat (c.set_row.ensures.saves still)
    ∙ c.in_ok-place.ensures.saves c.in_ok-place.ensures.active
