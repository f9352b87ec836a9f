use Rattle.std.proofs.Common.{◌≤◌, ap, refl, arith, sym, subst, inl, inr}
use Rattle.erm_machine.specs.declared.limits.TheConstants.{WRITE_LIMIT}
use Rattle.erm_machine.specs.declared.attempt.Attempt.{Attempt}
use Rattle.erm_rule.specs.Views.{part_of}
use Rattle.erm_session.specs.Calls.{before, now, is_end}
use Rattle.erm_session.proofs.Goes.{active, goes_on, kept, known_where, not_active, same_rows, starts, with_rows}
use Rattle.erm_session.proofs.RowsClaimed.{claimed_last, count_told, few_claimed, go_claimed, saves_claimed, goes_claimed, goes_unclaimed, known_unclaimed, refuses_claim, room_claimed, rows_claimed, rows_stay, same_unclaimed}
use Rattle.erm_session.proofs.Sought.{claimed, has_row, in_box, unclaimed}
use Rattle.erm_savepoints.specs.Saves.{KeptSaves}
use Rattle.erm_session.specs.Saves.{AreSaves}
use Rattle.erm_session.proofs.Saved.{found_few, go_same, has_at, saves_on, shows_on, stays_where}
use Rattle.erm_session.proofs.session.Session.claim_at.Goals as goal
use Rattle.erm_rows.specs.Claims.{DidNotClaim}
use Rattle.erm_rows.specs.Took.{TookNoClaim}
use Rattle.erm_rule.specs.declared.view.Book.{Book}
use Rattle.erm_rule.proofs.Wents.{went_none}
use Rattle.erm_session.proofs.Took.{refused_then, where_still}

pub claim_first-requires-clause-unclaimed : goal.claim_first-requires-clause-unclaimed
claim_first-requires-clause-unclaimed g c =
    let s = c.args.self.now in
    let x = part_of c.args.p.now.me.0.view s.seat in
    unclaimed c.in-Active.txn x (kept s x c.requires.stands.kept c.in-Active.txn c.in-Active.is) c.args.oid _ (in_box c.as_slice.ensures.value c.deref.ensures) c.in_default-find_claim.ensures.none

pub push_reserved-requires : goal.push_reserved-requires
push_reserved-requires g c =
    let s = c.args.self.now in
    let v = c.args.p.now.me.0.view in
    let on = active s (part_of v s.seat) c.requires.stands.kept c.in-Active.txn c.in-Active.is in
    let few =
    room_claimed v s.seat c.args.oid on c.in-Ok.claimed.row _ c.in-Ok.ensures.claimed s.rows_claimed.items s.rows_claimed.cap c.requires.stands.rows_claimed c.requires.stands.kept.room_claimed
    in
    let count = s.rows_claimed.ok.0 in
    omega (arith, few, count)

pub end_where-requires-clause-known : goal.end_where-requires-clause-known
end_where-requires-clause-known g c =
    let s = c.args.self.now in
    let v = c.args.p.now.me.0.view in
    let on = active s (part_of v s.seat) c.requires.stands.kept c.in-Active.txn c.in-Active.is in
    known_unclaimed v s.seat c.args.oid on c.requires.known c.in-Err.why _ c.in-Err.ensures.refused

pub end_where-requires-clause-kept : goal.end_where-requires-clause-kept
end_where-requires-clause-kept g c =
    let s = c.args.self.now in
    let v = c.args.p.now.me.0.view in
    let x = part_of v s.seat in
    let is = c.requires.stands.kept in
    let on = active s x is c.in-Active.txn c.in-Active.is in
    goes_on s _ x _ is (goes_unclaimed v s.seat c.args.oid on (starts s x is c.in-Active.txn c.in-Active.is) c.in-Err.why _ c.in-Err.ensures.refused) c.claim_first.ensures.stands
    c.claim_first.ensures.active c.claim_first.ensures.spare refl refl refl is.room_read is.room_claimed refl

pub end_where-requires-clause-stands : goal.end_where-requires-clause-stands
end_where-requires-clause-stands g c = λ goes.
    let s = c.args.self.now in
    let v = c.args.p.now.me.0.view in
    let x = part_of v s.seat in
    let is = c.requires.stands.kept in
    let on = active s x is c.in-Active.txn c.in-Active.is in
    same_rows s _ x _ c.requires.stands c.requires.active (end_where-requires-clause-kept g c) (same_unclaimed v s.seat c.args.oid on c.in-Err.why _ c.in-Err.ensures.refused goes) refl refl refl

pub returns-in-Some-clause-place : goal.returns-in-Some-clause-place
returns-in-Some-clause-place g c =
    let s = c.args.self.now in
    let x = part_of c.args.p.now.me.0.view s.seat in
    claimed c.in-Active.txn x (kept s x c.requires.stands.kept c.in-Active.txn c.in-Active.is) c.args.oid _ (in_box c.as_slice.ensures.value c.deref.ensures) c.in-Some.place c.in-Some.ensures.found.0
    c.in-Some.ensures.found.1

pub returns-in-Some-clause-claimed : goal.returns-in-Some-clause-claimed
returns-in-Some-clause-claimed g c =
    let x = part_of c.args.p.now.me.0.view c.args.self.now.seat in
    before refl _ (has_row x c.args.oid c.in-Some.place (returns-in-Some-clause-place g c))

pub returns-in-Ok-clause-stands : goal.returns-in-Ok-clause-stands
returns-in-Ok-clause-stands g c =
    let s = c.args.self.now in
    let v = c.args.p.now.me.0.view in
    let x = part_of v s.seat in
    let is = c.requires.stands.kept in
    let on = active s x is c.in-Active.txn c.in-Active.is in
    let did = c.in-Ok.ensures.claimed in
    with_rows _ _
    (goes_on s _ x _ is (goes_claimed v s.seat c.args.oid on c.in-Ok.claimed.row _ did) c.claim_first.ensures.stands c.claim_first.ensures.active c.claim_first.ensures.spare refl refl refl is.room_read
    (subst (λ n. WRITE_LIMIT ≤ n) (sym c.push_reserved.ensures.capacity) is.room_claimed) refl)
    (rows_stay v s.seat c.args.oid on c.in-Ok.claimed.row _ did s.rows_read.items c.requires.stands.rows_read)
    (rows_claimed v s.seat c.args.oid on c.in-Ok.claimed.row _ did s.rows_claimed.items _ c.requires.stands.rows_claimed c.push_reserved.ensures.items) c.in-Ok.ensures.window
    (saves_on s.stage _ s.saves _ x _ c.requires.active c.requires.stands.saves (λ kept. subst (λ (n : KeptSaves). AreSaves n (part_of c.claim_first.new.p.me.0.view s.seat)) (sym c.claim.ensures) (saves_claimed v s.seat c.args.oid on c.in-Ok.claimed.row _ did s.saves kept)))

pub claim-requires : goal.claim-requires
claim-requires g c =
    let s = c.args.self.now in
    let v = c.args.p.now.me.0.view in
    let x = part_of v s.seat in
    let on = active s x c.requires.stands.kept c.in-Active.txn c.in-Active.is in
    found_few s.saves x _ (has_at s.stage s.saves x c.in-Active.txn c.in-Active.is c.requires.stands.saves) (few_claimed v s.seat c.args.oid on c.in-Ok.claimed.row _ c.in-Ok.ensures.claimed)

pub returns-in-Ok-clause-saves : goal.returns-in-Ok-clause-saves
returns-in-Ok-clause-saves g c = λ still.
    let s = c.args.self.now in
    let v = c.args.p.now.me.0.view in
    let x = part_of v s.seat in
    let on = active s x c.requires.stands.kept c.in-Active.txn c.in-Active.is in
    shows_on s.stage c.claim_first.new.stage s.saves c.claim.new.self x (part_of c.claim_first.new.p.me.0.view s.seat) c.requires.active c.requires.stands.saves (ap (λ (n : KeptSaves). n.points) c.claim.ensures)
    (go_claimed v s.seat c.args.oid on c.in-Ok.claimed.row _ c.in-Ok.ensures.claimed) still

pub returns-in-Err-clause-saves : goal.returns-in-Err-clause-saves
returns-in-Err-clause-saves g c =
    let s = c.args.self.now in
    let v = c.args.p.now.me.0.view in
    let x = part_of v s.seat in
    let on = active s x c.requires.stands.kept c.in-Active.txn c.in-Active.is in
    stays_where _ c.end_where.new.self s c.end_where.new.p.me.0.view c.claim_first.new.p.me.0.view s.seat c.in-Err.why x c.end_where.ensures.phase c.end_where.ensures.left c.end_where.ensures.stays
    (λ goes still. shows_on s.stage c.claim_first.new.stage s.saves s.saves x (part_of c.claim_first.new.p.me.0.view s.seat) c.requires.active c.requires.stands.saves refl
    (go_same x.current.writes _ (ap (λ (n : Attempt). n.writes) (same_unclaimed v s.seat c.args.oid on c.in-Err.why _ c.in-Err.ensures.refused goes).same)) still)

pub returns-in-Ok-clause-claimed : goal.returns-in-Ok-clause-claimed
returns-in-Ok-clause-claimed g c =
    let s = c.args.self.now in
    let x = part_of c.args.p.now.me.0.view s.seat in
    let acts = kept s x c.requires.stands.kept c.in-Active.txn c.in-Active.is in
    now (unclaimed c.in-Active.txn x acts c.args.oid _ (in_box c.as_slice.ensures.value c.deref.ensures) c.in_default-find_claim.ensures.none) c.in-Ok.claimed.row c.in-Ok.ensures.claimed

pub returns-in-Ok-clause-place : goal.returns-in-Ok-clause-place
returns-in-Ok-clause-place g c =
    let s = c.args.self.now in
    let v = c.args.p.now.me.0.view in
    let on = active s (part_of v s.seat) c.requires.stands.kept c.in-Active.txn c.in-Active.is in
    let all = c.len.ensures in
    let more = c.push_reserved.ensures.len in
    let count = s.rows_claimed.ok.0 in
    claimed_last v s.seat c.args.oid on c.in-Ok.claimed.row _ c.in-Ok.ensures.claimed s.rows_claimed.items _ c.requires.stands.rows_claimed (omega (arith, all, more, count))

pub returns-in-Err-clause-known : goal.returns-in-Err-clause-known
returns-in-Err-clause-known g c =
    let s = c.args.self.now in
    let v = c.args.p.now.me.0.view in
    let on = active s (part_of v s.seat) c.requires.stands.kept c.in-Active.txn c.in-Active.is in
    known_where _ s.seat _ _ (known_unclaimed v s.seat c.args.oid on c.requires.known c.in-Err.why _ c.in-Err.ensures.refused) c.end_where.ensures.ended c.end_where.ensures.stays

pub returns-in-Err-clause-refused : goal.returns-in-Err-clause-refused
returns-in-Err-clause-refused g c =
    let s = c.args.self.now in
    let v = c.args.p.now.me.0.view in
    let x = part_of v s.seat in
    let on = active s x c.requires.stands.kept c.in-Active.txn c.in-Active.is in
    let acts = kept s x c.requires.stands.kept c.in-Active.txn c.in-Active.is in
    refuses_claim v s.seat c.args.oid on (unclaimed c.in-Active.txn x acts c.args.oid _ (in_box c.as_slice.ensures.value c.deref.ensures) c.in_default-find_claim.ensures.none) c.in-Err.why _ _
    c.in-Err.ensures.refused c.end_where.ensures.ended c.end_where.ensures.stays

pub returns-in-Err-clause-counted : goal.returns-in-Err-clause-counted
returns-in-Err-clause-counted g c = count_told c.args.p.now.me.0 _ _ c.in-Err.why c.in-Err.ensures.counted c.end_where.ensures.same

pub returns-in-Some-clause-took : goal.returns-in-Some-clause-took
returns-in-Some-clause-took g c = inl (refl, refl)

pub returns-in-Some-clause-still : goal.returns-in-Some-clause-still
returns-in-Some-clause-still g c = went_none _ _ _ _

pub returns-in-Ok-clause-took : goal.returns-in-Ok-clause-took
returns-in-Ok-clause-took g c = inr c.in-Ok.ensures.took

pub returns-in-Err-clause-took_none : goal.returns-in-Err-clause-took_none
returns-in-Err-clause-took_none g c =
    refused_then g.L.RowLaw.law c.args.self.now.seat (is_end c.in-Err.why)
    (λ (m : Book). TookNoClaim g.L.RowLaw.law c.args.self.now.seat c.args.oid c.in-Err.why c.args.p.now.me.0 m × DidNotClaim c.args.p.now.me.0.view c.args.self.now.seat c.args.oid c.in-Err.why m.view)
    c.claim_first.new.p.me.0 c.end_where.new.p.me.0 (c.in-Err.ensures.took_none, c.in-Err.ensures.refused) c.end_where.ensures.ends c.end_where.ensures.took c.end_where.ensures.ended c.end_where.ensures.same

pub returns-in-Err-clause-still : goal.returns-in-Err-clause-still
returns-in-Err-clause-still g c =
    where_still g.L.RowLaw.law c.args.self.now.seat (is_end c.in-Err.why) c.args.p.now.me.0 c.claim_first.new.p.me.0 c.end_where.new.p.me.0 c.claim_first.ensures.still c.end_where.ensures.ends c.end_where.ensures.same

pub unreachable-requires : goal.unreachable-requires
unreachable-requires g c = not_active c.args.self.now.stage c.requires.active c.in_default.not-Active
