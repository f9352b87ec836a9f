-- The claims given up: a call of a world gives none up, whether it was answered or refused.
use Rattle.std.proofs.Common.{◌≡◌, ℕ, List, ap, ◌∙◌}
use Rattle.erm_model.specs.declared.row_stop.RowStop.{RowStop}
use Rattle.erm_model.specs.declared.row_stop.RowStop.TheVariants as stop
use Rattle.erm_model.specs.RowTransaction.{Asked, Event, asked_claim, asked_make, asked_read, did_claim, did_make, did_read, did_write}
use Rattle.erm_world.specs.Calls.{DidClaim, DidNotClaim, DidNotMake, DidNotRead, DidRead}
use Rattle.erm_world.specs.Calls as calls
use Rattle.erm_world.specs.Face.{Answered, WasRefused}
use Rattle.erm_world.specs.World.{GivenUp, View}
use Rattle.erm_beside.specs.Face.{AnsweredAfter}

pub given_same : (v t : View) → t ≡ v → t.given_up ≡ v.given_up
given_same v t is = ap (λ (u : View). u.given_up) is

-- ANSWERED
given_read : (seat oid : ℕ) (row : List ℕ) (v t : View) → DidRead v seat oid row t → t.given_up ≡ v.given_up
given_read seat oid row v t (calls.own is claimed row_is) = given_same v t is
given_read seat oid row v t (calls.again is none found) = given_same v t is
given_read seat oid row v t (calls.first stamp none unread few now) = now.given_up

given_claim : (seat oid : ℕ) (v t : View) → DidClaim v seat oid t → t.given_up ≡ v.given_up
given_claim seat oid v t (calls.before is claimed) = given_same v t is
given_claim seat oid v t (calls.now stamp base none few free newest now) = now.given_up

pub given_answered : (seat : ℕ) (event : Event) (v t : View) → Answered v seat event t → t.given_up ≡ v.given_up
given_answered seat (did_read oid row) v t did = given_read seat oid row v t did
given_answered seat (did_claim oid) v t did = given_claim seat oid v t did
given_answered seat (did_write oid row) v t did = did.set.given_up
given_answered seat (did_make oid) v t did = did.given_up

-- after others went on
pub given_after : (seat : ℕ) (event : Event) (v t : View) → AnsweredAfter seat event v t → t.given_up seat ≡ v.given_up seat
given_after seat event v t (u, passes, did) = ap (λ (given : ℕ → List GivenUp). given seat) (given_answered seat event u t did) ∙ passes.given_up

-- REFUSED
not_read : (seat oid : ℕ) (why : RowStop) (v t : View) → DidNotRead v seat oid why t → t.given_up ≡ v.given_up
not_read seat oid stop.ReadsFull v t did = given_same v t did.0
not_read seat oid (stop.NotYet other seen) v t did = given_same v t did.0
not_read seat oid (stop.Excluded succ pred) v t (new, few, clear, (r, at, done, shut)) = done.given_up
not_read seat oid stop.Memory v t did = given_same v t did.0
not_read seat oid (stop.Owned other number) v t did = absurd did
not_read seat oid (stop.Newer stamp) v t did = absurd did
not_read seat oid stop.WritesFull v t did = absurd did
not_read seat oid (stop.CellsFull drawn) v t did = absurd did
not_read seat oid (stop.OidsFull drawn) v t did = absurd did

not_claimed : (seat oid : ℕ) (why : RowStop) (v t : View) → DidNotClaim v seat oid why t → t.given_up ≡ v.given_up
not_claimed seat oid stop.WritesFull v t did = given_same v t did.0
not_claimed seat oid (stop.Owned other number) v t did = did.1.given_up
not_claimed seat oid (stop.Newer stamp) v t did = did.1.given_up
not_claimed seat oid (stop.CellsFull drawn) v t did = given_same v t did.1
not_claimed seat oid (stop.Excluded succ pred) v t (may, unowned, current, (c, at, done, shut)) = done.given_up
not_claimed seat oid stop.Memory v t did = given_same v t did.0
not_claimed seat oid (stop.NotYet other seen) v t did = absurd did
not_claimed seat oid stop.ReadsFull v t did = absurd did
not_claimed seat oid (stop.OidsFull drawn) v t did = absurd did

not_made : (seat : ℕ) (why : RowStop) (v t : View) → DidNotMake v seat why t → t.given_up ≡ v.given_up
not_made seat (stop.OidsFull drawn) v t did = given_same v t did.0
not_made seat stop.Memory v t did = given_same v t did
not_made seat (stop.NotYet other seen) v t did = absurd did
not_made seat stop.ReadsFull v t did = absurd did
not_made seat (stop.Owned other number) v t did = absurd did
not_made seat (stop.Newer stamp) v t did = absurd did
not_made seat stop.WritesFull v t did = absurd did
not_made seat (stop.CellsFull drawn) v t did = absurd did
not_made seat (stop.Excluded succ pred) v t did = absurd did

pub given_refused : (seat : ℕ) (asked : Asked) (why : RowStop) (v t : View) → WasRefused v seat asked why t → t.given_up ≡ v.given_up
given_refused seat (asked_read oid) why v t did = not_read seat oid why v t did
given_refused seat (asked_claim oid) why v t did = not_claimed seat oid why v t did
given_refused seat asked_make why v t did = not_made seat why v t did
