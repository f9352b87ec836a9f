use Rattle.std.proofs.Common.{subst}
use Rattle.erm_core_ready.specs.Next.{FoundAt, FoundBelow, HasBegin, HasStamp}
use Rattle.erm_core_ready.proofs.Seats.{first_found, kept_found, lower_found, one_begun, one_sealed, stays_found}
use Rattle.erm_core_ready.proofs.lesser.Goals as goal

pub returns-in-None-default-clause-sealed : goal.returns-in-None-default-clause-sealed
returns-in-None-default-clause-sealed c core found before =
    stays_found (HasStamp core) c.args.seat (one_sealed core c.args.seat) c.args.least (subst (FoundAt (HasStamp core) c.args.seat) c.in-None-default.is-0 found) before

pub returns-in-None-default-clause-begun : goal.returns-in-None-default-clause-begun
returns-in-None-default-clause-begun c core found before =
    stays_found (HasBegin core) c.args.seat (one_begun core c.args.seat) c.args.least (subst (FoundAt (HasBegin core) c.args.seat) c.in-None-default.is-0 found) before

pub returns-in-Some-None-clause-sealed : goal.returns-in-Some-None-clause-sealed
returns-in-Some-None-clause-sealed c core found before =
    first_found (HasStamp core) c.args.seat (one_sealed core c.args.seat) c.in-Some-None.stamp c.requires (subst (FoundAt (HasStamp core) c.args.seat) c.in-Some-None.is-0 found)
    (subst (FoundBelow (HasStamp core) c.args.seat) c.in-Some-None.is-1 before)

pub returns-in-Some-None-clause-begun : goal.returns-in-Some-None-clause-begun
returns-in-Some-None-clause-begun c core found before =
    first_found (HasBegin core) c.args.seat (one_begun core c.args.seat) c.in-Some-None.stamp c.requires (subst (FoundAt (HasBegin core) c.args.seat) c.in-Some-None.is-0 found)
    (subst (FoundBelow (HasBegin core) c.args.seat) c.in-Some-None.is-1 before)

pub returns-then-found-stamp-clause-sealed : goal.returns-then-found-stamp-clause-sealed
returns-then-found-stamp-clause-sealed c core found before =
    kept_found (HasStamp core) c.args.seat (one_sealed core c.args.seat) c.in-Some-Some.found c.in-Some-Some.stamp (subst (FoundAt (HasStamp core) c.args.seat) c.in-Some-Some.is-0 found)
    c.if-found-stamp.true (subst (FoundBelow (HasStamp core) c.args.seat) c.in-Some-Some.is-1 before)

pub returns-then-found-stamp-clause-begun : goal.returns-then-found-stamp-clause-begun
returns-then-found-stamp-clause-begun c core found before =
    kept_found (HasBegin core) c.args.seat (one_begun core c.args.seat) c.in-Some-Some.found c.in-Some-Some.stamp (subst (FoundAt (HasBegin core) c.args.seat) c.in-Some-Some.is-0 found)
    c.if-found-stamp.true (subst (FoundBelow (HasBegin core) c.args.seat) c.in-Some-Some.is-1 before)

pub returns-else-found-stamp-clause-sealed : goal.returns-else-found-stamp-clause-sealed
returns-else-found-stamp-clause-sealed c core found before =
    lower_found (HasStamp core) c.args.seat (one_sealed core c.args.seat) c.in-Some-Some.found c.in-Some-Some.stamp c.requires
    (subst (FoundAt (HasStamp core) c.args.seat) c.in-Some-Some.is-0 found) c.if-found-stamp.false (subst (FoundBelow (HasStamp core) c.args.seat) c.in-Some-Some.is-1 before)

pub returns-else-found-stamp-clause-begun : goal.returns-else-found-stamp-clause-begun
returns-else-found-stamp-clause-begun c core found before =
    lower_found (HasBegin core) c.args.seat (one_begun core c.args.seat) c.in-Some-Some.found c.in-Some-Some.stamp c.requires
    (subst (FoundAt (HasBegin core) c.args.seat) c.in-Some-Some.is-0 found) c.if-found-stamp.false (subst (FoundBelow (HasBegin core) c.args.seat) c.in-Some-Some.is-1 before)
