use Rattle.std.proofs.Common.{ℕ, List, ◌∙◌, subst}
use Rattle.erm_world.specs.Calls.{Works}
use Rattle.erm_world.specs.World.{work_at}
use Rattle.erm_world.specs.Works.{setting}
use Rattle.erm_lists.specs.Stands.{lists_view}
use Rattle.erm_core_steps.proofs.Stored.{claim_active, claim_claims, claim_session, claim_then_set}
use Rattle.erm_lists.proofs.lists.Lists.write.Goals as goal

pub set_row-requires-clause-session : goal.set_row-requires-clause-session
set_row-requires-clause-session g c =
    claim_session (lists_view c.args.self.now) (lists_view c.claim.new.self) c.args.seat c.args.oid c.in_ok-claim.ensures.ok c.requires.session

pub set_row-requires-clause-active : goal.set_row-requires-clause-active
set_row-requires-clause-active g c =
    claim_active (lists_view c.args.self.now) (lists_view c.claim.new.self) c.args.seat c.args.oid c.in_ok-claim.ensures.ok c.requires.active

pub set_row-requires-clause-claimed : goal.set_row-requires-clause-claimed
set_row-requires-clause-claimed g c = claim_claims (lists_view c.args.self.now) (lists_view c.claim.new.self) c.args.seat c.args.oid c.in_ok-claim.ensures.ok

pub set_row-requires-clause-all : goal.set_row-requires-clause-all
set_row-requires-clause-all g c = c.words_of.ensures.all

pub returns-clause-ok : goal.returns-clause-ok
returns-clause-ok g c =
    let v = lists_view c.args.self.now in
    let t = lists_view c.set_row.new.self in
    let between = lists_view c.claim.new.self in
    record {
      between = between;
      claim = c.in_ok-claim.ensures.ok;
      set =
          subst (λ (row : List ℕ). Works v c.args.seat (setting c.args.oid row (work_at between c.args.seat)) t) c.words_of.ensures.same
          (claim_then_set v between t c.args.seat c.args.oid _ c.in_ok-claim.ensures.ok c.set_row.ensures.set);
    }

pub returns-clause-open_still : goal.returns-clause-open_still
returns-clause-open_still g c = λ none. c.set_row.ensures.window ∙ c.in_ok-claim.ensures.open_still none
