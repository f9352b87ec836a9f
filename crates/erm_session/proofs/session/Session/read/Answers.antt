use Rattle.std.proofs.Common.{◌≤◌, refl, arith, sym, subst, inl, inr}
use Rattle.erm_machine.specs.declared.limits.TheConstants.{READ_LIMIT}
use Rattle.erm_rule.specs.Views.{part_of}
use Rattle.erm_session.specs.Calls.{again, first, own, is_end}
use Rattle.erm_session.proofs.Goes.{active, goes_on, kept, known_where, not_active, same_current, same_rows, starts, with_rows}
use Rattle.erm_session.proofs.RowsRead.{goes_read, goes_unread, known_unread, owner_met, refuses_read, room_read, rows_read, rows_stay, same_unread, spare_read, spare_unread, writes_read}
use Rattle.erm_session.proofs.Sought.{has_claimed, has_read_row, in_box, unclaimed, unread}
use Rattle.std.proofs.Common.{ap, refl}
use Rattle.erm_machine.specs.declared.attempt.Attempt.{Attempt}
use Rattle.erm_session.proofs.Saved.{go_same, saves_on, saves_stay, shows_on, stays_where}
use Rattle.erm_session.proofs.session.Session.read.Goals as goal
use Rattle.erm_rows.specs.Reads.{DidNotRead}
use Rattle.erm_rows.specs.Took.{TookNotRead}
use Rattle.erm_rule.specs.declared.view.Book.{Book}
use Rattle.erm_rule.proofs.Wents.{went_none}
use Rattle.erm_session.proofs.Took.{refused_then, where_still}

pub returns-in-Some-clause-read : goal.returns-in-Some-clause-read
returns-in-Some-clause-read g c =
    let s = c.args.self.now in
    let x = part_of c.args.p.now.me.0.view s.seat in
    own refl
    (has_claimed c.in-Active.txn x (kept s x c.requires.stands.kept c.in-Active.txn c.in-Active.is) c.args.oid _ (in_box c.as_slice.ensures.value c.deref.ensures) c.in-Some.place c.in-Some.ensures.found.0
    c.in-Some.ensures.found.1 s.rows_claimed.items _ c.index.ensures c.requires.stands.rows_claimed)

pub returns-in-Some-find_read-clause-read : goal.returns-in-Some-find_read-clause-read
returns-in-Some-find_read-clause-read g c =
    let s = c.args.self.now in
    let x = part_of c.args.p.now.me.0.view s.seat in
    let acts = kept s x c.requires.stands.kept c.in-Active.txn c.in-Active.is in
    again refl (unclaimed c.in-Active.txn x acts c.args.oid _ (in_box c.as_slice.ensures.value c.deref.ensures) c.in_default-find_claim.ensures.none)
    (has_read_row c.in-Active.txn x acts c.args.oid _ (in_box c.as_slice-2.ensures.value c.deref-2.ensures) c.in-Some-find_read.place c.in-Some-find_read.ensures.found.0 c.in-Some-find_read.ensures.found.1
    s.rows_read.items _ c.index-in-Some-find_read.ensures c.requires.stands.rows_read)

pub read_first-requires-clause-unread : goal.read_first-requires-clause-unread
read_first-requires-clause-unread g c =
    let s = c.args.self.now in
    let x = part_of c.args.p.now.me.0.view s.seat in
    unread c.in-Active.txn x (kept s x c.requires.stands.kept c.in-Active.txn c.in-Active.is) c.args.oid _ (in_box c.as_slice-2.ensures.value c.deref-2.ensures) c.in_default-find_read.ensures.none

pub read_first-requires-clause-unclaimed : goal.read_first-requires-clause-unclaimed
read_first-requires-clause-unclaimed g c =
    let s = c.args.self.now in
    let x = part_of c.args.p.now.me.0.view s.seat in
    unclaimed c.in-Active.txn x (kept s x c.requires.stands.kept c.in-Active.txn c.in-Active.is) c.args.oid _ (in_box c.as_slice.ensures.value c.deref.ensures) c.in_default-find_claim.ensures.none

pub push_reserved-requires : goal.push_reserved-requires
push_reserved-requires g c =
    let s = c.args.self.now in
    let v = c.args.p.now.me.0.view in
    let on = active s (part_of v s.seat) c.requires.stands.kept c.in-Active.txn c.in-Active.is in
    let few = room_read v s.seat c.args.oid on c.in-Ok.row _ c.in-Ok.ensures.read s.rows_read.items s.rows_read.cap c.requires.stands.rows_read c.requires.stands.kept.room_read in
    let count = s.rows_read.ok.0 in
    omega (arith, few, count)

pub end_where-requires-clause-known : goal.end_where-requires-clause-known
end_where-requires-clause-known g c =
    let s = c.args.self.now in
    let v = c.args.p.now.me.0.view in
    let on = active s (part_of v s.seat) c.requires.stands.kept c.in-Active.txn c.in-Active.is in
    known_unread v s.seat c.args.oid on c.requires.known c.in-Err.why _ c.in-Err.ensures.refused

pub end_where-requires-clause-kept : goal.end_where-requires-clause-kept
end_where-requires-clause-kept g c =
    let s = c.args.self.now in
    let v = c.args.p.now.me.0.view in
    let x = part_of v s.seat in
    let is = c.requires.stands.kept in
    let on = active s x is c.in-Active.txn c.in-Active.is in
    goes_on s _ x _ is (goes_unread v s.seat c.args.oid on (starts s x is c.in-Active.txn c.in-Active.is) c.in-Err.why _ c.in-Err.ensures.refused) c.read_first.ensures.stands
    c.read_first.ensures.active (spare_unread v s.seat c.args.oid on s.spare is.spare c.in-Err.why _ c.in-Err.ensures.refused) refl refl refl is.room_read is.room_claimed refl

pub end_where-requires-clause-stands : goal.end_where-requires-clause-stands
end_where-requires-clause-stands g c = λ goes.
    let s = c.args.self.now in
    let v = c.args.p.now.me.0.view in
    let x = part_of v s.seat in
    let is = c.requires.stands.kept in
    let on = active s x is c.in-Active.txn c.in-Active.is in
    same_rows s _ x _ c.requires.stands c.requires.active (end_where-requires-clause-kept g c) (same_current x _ (same_unread v s.seat c.args.oid on c.in-Err.why _ c.in-Err.ensures.refused goes)) refl refl refl

pub returns-in-Ok-clause-stands : goal.returns-in-Ok-clause-stands
returns-in-Ok-clause-stands g c =
    let s = c.args.self.now in
    let v = c.args.p.now.me.0.view in
    let x = part_of v s.seat in
    let is = c.requires.stands.kept in
    let on = active s x is c.in-Active.txn c.in-Active.is in
    let did = c.in-Ok.ensures.read in
    with_rows _ _
    (goes_on s _ x _ is (goes_read v s.seat c.args.oid on c.in-Ok.row _ did) c.read_first.ensures.stands c.read_first.ensures.active (spare_read v s.seat c.args.oid on c.in-Ok.row _ did s.spare is.spare) refl refl refl
    (subst (λ n. READ_LIMIT ≤ n) (sym c.push_reserved.ensures.capacity) is.room_read) is.room_claimed refl)
    (rows_read v s.seat c.args.oid on c.in-Ok.row _ did s.rows_read.items _ c.requires.stands.rows_read c.push_reserved.ensures.items)
    (rows_stay v s.seat c.args.oid on c.in-Ok.row _ did s.rows_claimed.items c.requires.stands.rows_claimed) c.in-Ok.ensures.window
    (saves_on s.stage _ s.saves s.saves x _ c.requires.active c.requires.stands.saves (saves_stay s.saves x _ (writes_read v s.seat c.args.oid on c.in-Ok.row _ did)))

pub returns-in-Ok-clause-read : goal.returns-in-Ok-clause-read
returns-in-Ok-clause-read g c =
    let s = c.args.self.now in
    let x = part_of c.args.p.now.me.0.view s.seat in
    let acts = kept s x c.requires.stands.kept c.in-Active.txn c.in-Active.is in
    first (unclaimed c.in-Active.txn x acts c.args.oid _ (in_box c.as_slice.ensures.value c.deref.ensures) c.in_default-find_claim.ensures.none)
    (unread c.in-Active.txn x acts c.args.oid _ (in_box c.as_slice-2.ensures.value c.deref-2.ensures) c.in_default-find_read.ensures.none) c.in-Ok.ensures.read

pub returns-in-Err-clause-known : goal.returns-in-Err-clause-known
returns-in-Err-clause-known g c =
    let s = c.args.self.now in
    let v = c.args.p.now.me.0.view in
    let on = active s (part_of v s.seat) c.requires.stands.kept c.in-Active.txn c.in-Active.is in
    known_where _ s.seat _ _ (known_unread v s.seat c.args.oid on c.requires.known c.in-Err.why _ c.in-Err.ensures.refused) c.end_where.ensures.ended c.end_where.ensures.stays

pub returns-in-Err-clause-refused : goal.returns-in-Err-clause-refused
returns-in-Err-clause-refused g c =
    let s = c.args.self.now in
    let v = c.args.p.now.me.0.view in
    let x = part_of v s.seat in
    let on = active s x c.requires.stands.kept c.in-Active.txn c.in-Active.is in
    let acts = kept s x c.requires.stands.kept c.in-Active.txn c.in-Active.is in
    refuses_read v s.seat c.args.oid on
    (unclaimed c.in-Active.txn x acts c.args.oid _ (in_box c.as_slice.ensures.value c.deref.ensures) c.in_default-find_claim.ensures.none)
    (unread c.in-Active.txn x acts c.args.oid _ (in_box c.as_slice-2.ensures.value c.deref-2.ensures) c.in_default-find_read.ensures.none) c.in-Err.why _ _ c.in-Err.ensures.refused
    c.end_where.ensures.ended c.end_where.ensures.stays

pub returns-in-Err-clause-met : goal.returns-in-Err-clause-met
returns-in-Err-clause-met g c = owner_met c.args.p.now.me.0 _ _ c.in-Err.why c.in-Err.ensures.met c.end_where.ensures.same

pub returns-in-Some-clause-took : goal.returns-in-Some-clause-took
returns-in-Some-clause-took g c = inl refl

pub returns-in-Some-clause-still : goal.returns-in-Some-clause-still
returns-in-Some-clause-still g c = went_none _ _ _ _

pub returns-in-Some-find_read-clause-took : goal.returns-in-Some-find_read-clause-took
returns-in-Some-find_read-clause-took g c = inl refl

pub returns-in-Some-find_read-clause-still : goal.returns-in-Some-find_read-clause-still
returns-in-Some-find_read-clause-still g c = went_none _ _ _ _

pub returns-in-Ok-clause-took : goal.returns-in-Ok-clause-took
returns-in-Ok-clause-took g c = inr c.in-Ok.ensures.took

pub returns-in-Err-clause-took_none : goal.returns-in-Err-clause-took_none
returns-in-Err-clause-took_none g c =
    refused_then g.L.RowLaw.law c.args.self.now.seat (is_end c.in-Err.why)
    (λ (m : Book). TookNotRead g.L.RowLaw.law c.args.self.now.seat c.args.oid c.in-Err.why c.args.p.now.me.0 m × DidNotRead c.args.p.now.me.0.view c.args.self.now.seat c.args.oid c.in-Err.why m.view)
    c.read_first.new.p.me.0 c.end_where.new.p.me.0 (c.in-Err.ensures.took_none, c.in-Err.ensures.refused) c.end_where.ensures.ends c.end_where.ensures.took c.end_where.ensures.ended c.end_where.ensures.same

pub returns-in-Err-clause-still : goal.returns-in-Err-clause-still
returns-in-Err-clause-still g c =
    where_still g.L.RowLaw.law c.args.self.now.seat (is_end c.in-Err.why) c.args.p.now.me.0 c.read_first.new.p.me.0 c.end_where.new.p.me.0 c.read_first.ensures.still c.end_where.ensures.ends c.end_where.ensures.same

pub unreachable-requires : goal.unreachable-requires
unreachable-requires g c = not_active c.args.self.now.stage c.requires.active c.in_default.not-Active

pub returns-in-Ok-clause-saves : goal.returns-in-Ok-clause-saves
returns-in-Ok-clause-saves g c = λ still.
    let s = c.args.self.now in
    let v = c.args.p.now.me.0.view in
    let x = part_of v s.seat in
    let on = active s x c.requires.stands.kept c.in-Active.txn c.in-Active.is in
    shows_on s.stage c.read_first.new.stage s.saves s.saves x (part_of c.read_first.new.p.me.0.view s.seat) c.requires.active c.requires.stands.saves refl
    (go_same x.current.writes _ (writes_read v s.seat c.args.oid on c.in-Ok.row _ c.in-Ok.ensures.read)) still

pub returns-in-Err-clause-saves : goal.returns-in-Err-clause-saves
returns-in-Err-clause-saves g c =
    let s = c.args.self.now in
    let v = c.args.p.now.me.0.view in
    let x = part_of v s.seat in
    let on = active s x c.requires.stands.kept c.in-Active.txn c.in-Active.is in
    stays_where _ c.end_where.new.self s c.end_where.new.p.me.0.view c.read_first.new.p.me.0.view s.seat c.in-Err.why x c.end_where.ensures.phase c.end_where.ensures.left c.end_where.ensures.stays
    (λ goes still. shows_on s.stage c.read_first.new.stage s.saves s.saves x (part_of c.read_first.new.p.me.0.view s.seat) c.requires.active c.requires.stands.saves refl
    (go_same x.current.writes _ (ap (λ (n : Attempt). n.writes) (same_unread v s.seat c.args.oid on c.in-Err.why _ c.in-Err.ensures.refused goes))) still)
