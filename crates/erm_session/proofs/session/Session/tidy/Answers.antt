use Rattle.std.proofs.Common.{inl}
use Rattle.erm_rule.specs.Views.{part_of}
use Rattle.erm_session.specs.Calls.{again_tidied}
use Rattle.erm_session.proofs.Goes.{active, kept, not_active, starts}
use Rattle.erm_session.proofs.Sought.{claimed, in_box, unclaimed}
use Rattle.erm_session.proofs.Saved.{shows_same}
use Rattle.erm_session.proofs.Tidied.{claims_too, tidied_session, tidied_writes, took_too}
use Rattle.erm_session.proofs.session.Session.tidy.Goals as goal

pub tidy_claimed-requires-clause-session : goal.tidy_claimed-requires-clause-session
tidy_claimed-requires-clause-session g c = c.requires.stands.kept.session

pub tidy_claimed-requires-clause-active : goal.tidy_claimed-requires-clause-active
tidy_claimed-requires-clause-active g c = active c.args.self.now (part_of c.args.p.now.me.0.view c.args.self.now.seat) c.requires.stands.kept c.in-Active.txn c.in-Active.is

pub tidy_claimed-requires-clause-kept : goal.tidy_claimed-requires-clause-kept
tidy_claimed-requires-clause-kept g c = (c.in-Active.txn, kept c.args.self.now (part_of c.args.p.now.me.0.view c.args.self.now.seat) c.requires.stands.kept c.in-Active.txn c.in-Active.is)

pub tidy_claimed-requires-clause-spare : goal.tidy_claimed-requires-clause-spare
tidy_claimed-requires-clause-spare g c = c.requires.stands.kept.spare

pub tidy_claimed-requires-clause-starts : goal.tidy_claimed-requires-clause-starts
tidy_claimed-requires-clause-starts g c = starts c.args.self.now (part_of c.args.p.now.me.0.view c.args.self.now.seat) c.requires.stands.kept c.in-Active.txn c.in-Active.is

pub tidy_claimed-requires-clause-claimed : goal.tidy_claimed-requires-clause-claimed
tidy_claimed-requires-clause-claimed g c =
    let s = c.args.self.now in
    let x = part_of c.args.p.now.me.0.view s.seat in
    let at = claimed c.in-Active.txn x (kept s x c.requires.stands.kept c.in-Active.txn c.in-Active.is) c.args.oid _ (in_box c.as_slice.ensures.value c.deref.ensures) c.in-Some.field-0 c.in-Some.ensures.found.0 c.in-Some.ensures.found.1 in
    (c.in-Some.field-0, at.within, at.oid_is)

pub returns-in-Some-clause-known : goal.returns-in-Some-clause-known
returns-in-Some-clause-known g c = c.tidy_claimed.ensures.tidied.known

pub returns-in-Some-clause-stands : goal.returns-in-Some-clause-stands
returns-in-Some-clause-stands g c =
    tidied_session c.args.self.now c.args.p.now.me.0.view c.requires.stands c.in-Active.txn c.in-Active.is c.tidy_claimed.result c.tidy_claimed.new.p.me.0.view c.tidy_claimed.ensures.tidied c.requires.active c.tidy_claimed.new.spare
    c.tidy_claimed.ensures.spare

pub returns-in-Some-clause-tidied : goal.returns-in-Some-clause-tidied
returns-in-Some-clause-tidied g c =
    let s = c.args.self.now in
    let x = part_of c.args.p.now.me.0.view s.seat in
    let at = claimed c.in-Active.txn x (kept s x c.requires.stands.kept c.in-Active.txn c.in-Active.is) c.args.oid _ (in_box c.as_slice.ensures.value c.deref.ensures) c.in-Some.field-0 c.in-Some.ensures.found.0 c.in-Some.ensures.found.1 in
    again_tidied (c.in-Some.field-0, at.within, at.oid_is) c.tidy_claimed.ensures.tidied

pub returns-in-Some-clause-took : goal.returns-in-Some-clause-took
returns-in-Some-clause-took g c = inl c.tidy_claimed.ensures.took

pub returns-in-None-clause-tidied : goal.returns-in-None-clause-tidied
returns-in-None-clause-tidied g c =
    let s = c.args.self.now in
    let x = part_of c.args.p.now.me.0.view s.seat in
    claims_too c.args.p.now.me.0.view s.seat c.args.oid c.claim.new.p.me.0.view
    (unclaimed c.in-Active.txn x (kept s x c.requires.stands.kept c.in-Active.txn c.in-Active.is) c.args.oid _ (in_box c.as_slice.ensures.value c.deref.ensures) c.in-None.ensures.none) c.claim.result c.claim.ensures.claimed

pub returns-in-None-clause-took : goal.returns-in-None-clause-took
returns-in-None-clause-took g c =
    let s = c.args.self.now in
    let x = part_of c.args.p.now.me.0.view s.seat in
    took_too g.L.RowLaw.law s.seat c.args.oid c.args.p.now.me.0 c.claim.new.p.me.0
    (unclaimed c.in-Active.txn x (kept s x c.requires.stands.kept c.in-Active.txn c.in-Active.is) c.args.oid _ (in_box c.as_slice.ensures.value c.deref.ensures) c.in-None.ensures.none) c.claim.result c.claim.ensures.took

pub unreachable-requires : goal.unreachable-requires
unreachable-requires g c = not_active c.args.self.now.stage c.requires.active c.in_default.not-Active

pub returns-in-Some-clause-saves : goal.returns-in-Some-clause-saves
returns-in-Some-clause-saves g c = λ still.
    let s = c.args.self.now in
    shows_same s.stage s.saves.points _ _ (tidied_writes s c.args.p.now.me.0.view c.requires.stands c.in-Active.txn c.in-Active.is c.tidy_claimed.result c.tidy_claimed.new.p.me.0.view c.tidy_claimed.ensures.tidied)
