-- How much calls in turn make and claim, by their events.
use Rattle.std.proofs.Common.{◌≡◌, ℕ, ◌+◌, ◌<◌, ◌≤◌, Bool, true, false, cond, ◌==◌, List, [], ◌∷◌, ◌++◌, map, length, Option, Some, None, refl, sym, ap, ◌∙◌, subst, inl, inr, eq-eqb, arith}
use Rattle.std.proofs.lemmas.Bool.Decides.{eqb_tells}
use Rattle.std.proofs.lemmas.List.{length-append, length-map}
use Rattle.erm_model.specs.declared.history.VersionRead.{VersionRead}
use Rattle.erm_model.specs.declared.history.VersionWritten.{VersionWritten}
use Rattle.erm_model.specs.declared.limits.TheConstants.{WRITE_LIMIT}
use Rattle.erm_model.specs.declared.outcome.Phase.TheVariants.{Active}
use Rattle.erm_model.specs.RowTransaction.{Event, OnlyReads, WritesNothing, did_claim, did_make, did_read, did_write}
use Rattle.erm_node.specs.Sound.{sound_law}
use Rattle.erm_tree.specs.Change.{count_claims, count_makes, count_writes}
use Rattle.erm_world.specs.Calls.{DidClaim, DidMake, DidRead, DidWrite}
use Rattle.erm_world.specs.Calls as calls
use Rattle.erm_world.specs.Face.{Answered}
use Rattle.erm_world.specs.Works.{claiming, is_claimed, making, reading, row_read, setting, with_row}
use Rattle.erm_world.specs.World.{Session, View, Work, phase_at, phase_of, work_at, work_of}
use Rattle.erm_world.proofs.Txns.{went}
use Rattle.erm_lines.specs.Operations.{Ran}

-- COUNTS of events in two parts
pub makes-append : (es fs : List Event) → count_makes (es ++ fs) ≡ count_makes es + count_makes fs
makes-append [] fs = omega arith
makes-append (did_read oid row ∷ es) fs = makes-append es fs
makes-append (did_claim oid ∷ es) fs = makes-append es fs
makes-append (did_write oid row ∷ es) fs = makes-append es fs
makes-append (did_make oid ∷ es) fs = omega (arith, makes-append es fs)

pub claims-append : (es fs : List Event) → count_claims (es ++ fs) ≡ count_claims es + count_claims fs
claims-append [] fs = omega arith
claims-append (did_read oid row ∷ es) fs = claims-append es fs
claims-append (did_claim oid ∷ es) fs = omega (arith, claims-append es fs)
claims-append (did_write oid row ∷ es) fs = claims-append es fs
claims-append (did_make oid ∷ es) fs = claims-append es fs

pub writes-append : (es fs : List Event) → count_writes (es ++ fs) ≡ count_writes es + count_writes fs
writes-append [] fs = omega arith
writes-append (did_read oid row ∷ es) fs = writes-append es fs
writes-append (did_claim oid ∷ es) fs = writes-append es fs
writes-append (did_write oid row ∷ es) fs = omega (arith, writes-append es fs)
writes-append (did_make oid ∷ es) fs = writes-append es fs

-- what sets no row
pub no_writes : (es : List Event) → WritesNothing es → count_writes es ≡ 0
no_writes [] none = refl
no_writes (did_read oid row ∷ es) none = no_writes es none
no_writes (did_claim oid ∷ es) none = no_writes es none
no_writes (did_write oid row ∷ es) none = absurd none
no_writes (did_make oid ∷ es) none = no_writes es none

-- reads alone
pub only_none : (es : List Event) → OnlyReads es → (count_makes es ≡ 0) × (count_claims es ≡ 0) × (count_writes es ≡ 0)
only_none [] only = (refl, refl, refl)
only_none (did_read oid row ∷ es) only = only_none es only
only_none (did_claim oid ∷ es) only = absurd only
only_none (did_write oid row ∷ es) only = absurd only
only_none (did_make oid ∷ es) only = absurd only

-- no object is read twice
unfoldable pub Apart : List VersionRead → Type 0
Apart [] = Unit {0}
Apart (r ∷ rs) = (row_read rs r.oid ≡ None) × Apart rs

apart_two : (here : Bool) (row : List ℕ) (rest : Option (List ℕ)) → cond here (Some row) rest ≡ None → (here ≡ false) × (rest ≡ None)
apart_two true row rest e = cc
apart_two false row rest e = (refl, e)

unread_push : (rs : List VersionRead) (r : VersionRead) (x : ℕ) → row_read rs x ≡ None → (r.oid == x) ≡ false → row_read (rs ++ r ∷ []) x ≡ None
unread_push [] r x none other = ap (λ (here : Bool). cond here (Some r.row) None) other
unread_push (q ∷ rs) r x none other =
    let parts = apart_two (q.oid == x) q.row (row_read rs x) none in
    ap (λ (here : Bool). cond here (Some q.row) (row_read (rs ++ r ∷ []) x)) parts.0 ∙ unread_push rs r x parts.1 other

turned : (a b : ℕ) → (a == b) ≡ false → (b == a) ≡ false
turned a b e = elim (eqb_tells b a) as (λ _. (b == a) ≡ false) [
  | inl same ↦ let no : (a == b) ≡ true = eq-eqb a b (sym same.1) in cc
  | inr other ↦ other.0
]

pub apart_push : (rs : List VersionRead) (r : VersionRead) → Apart rs → row_read rs r.oid ≡ None → Apart (rs ++ r ∷ [])
unfolding Apart
apart_push [] r apart none = (refl, tt)
apart_push (q ∷ rs) r apart none =
    let parts = apart_two (q.oid == r.oid) q.row (row_read rs r.oid) none in
    (unread_push rs r q.oid apart.0 (turned q.oid r.oid parts.0), apart_push rs r apart.1 parts.1)

-- A transaction's work has grown: by at most so many objects made and so many claimed.
pub record Grew (w u : Work) (makes claims : ℕ) : Type 0 where
  pub made : length u.made ≤ length w.made + makes
  pub claimed : length u.claims ≤ length w.claims + claims
  pub few : length w.claims ≤ WRITE_LIMIT → length u.claims ≤ WRITE_LIMIT
  pub apart : Apart w.reads → Apart u.reads

pub grew_nothing : (w : Work) → Grew w w 0 0
grew_nothing w = record { made = omega arith; claimed = omega arith; few = λ few. few; apart = λ apart. apart }

pub grew_then : (w u x : Work) (m k n l : ℕ) → Grew w u m k → Grew u x n l → Grew w x (m + n) (k + l)
grew_then w u x m k n l first second = record {
  made = omega (arith, first.made, second.made);
  claimed = omega (arith, first.claimed, second.claimed);
  few = λ few. second.few (first.few few);
  apart = λ apart. second.apart (first.apart apart);
}

-- within larger bounds
pub grew_within : (w u : Work) (m k n l : ℕ) → m ≤ n → k ≤ l → Grew w u m k → Grew w u n l
grew_within w u m k n l less fewer grew = record {
  made = omega (arith, grew.made, less);
  claimed = omega (arith, grew.claimed, fewer);
  few = grew.few;
  apart = grew.apart;
}

-- what each call does to it
grew_reading : (w : Work) (r : VersionRead) → row_read w.reads r.oid ≡ None → Grew w (reading r w) 0 0
grew_reading w r none = record { made = omega arith; claimed = omega arith; few = λ few. few; apart = λ apart. apart_push w.reads r apart none }

grew_claiming : (w : Work) (c : VersionWritten) → length w.claims < WRITE_LIMIT → Grew w (claiming c w) 0 1
grew_claiming w c less =
    let more = length-append w.claims (c ∷ []) in
    record { made = omega arith; claimed = omega (arith, more); few = λ few. omega (arith, more, less); apart = λ apart. apart }

grew_setting : (w : Work) (oid : ℕ) (row : List ℕ) → Grew w (setting oid row w) 0 0
grew_setting w oid row =
    let same = length-map w.claims (with_row oid row) in
    record { made = omega arith; claimed = omega (arith, same); few = λ few. omega (arith, same, few); apart = λ apart. apart }

grew_making : (w : Work) (oid : ℕ) → Grew w (making oid w) 1 0
grew_making w oid =
    let more = length-append w.made (oid ∷ []) in
    record { made = omega (arith, more); claimed = omega arith; few = λ few. few; apart = λ apart. apart }

module _ (v : View) (seat : ℕ) where
  same_view : (t : View) → t ≡ v → Grew (work_at v seat) (work_at t seat) 0 0
  same_view t is = subst (λ (x : View). Grew (work_at v seat) (work_at x seat) 0 0) (sym is) (grew_nothing (work_at v seat))

  by_works : (t : View) (w : Work) (m k : ℕ) → calls.Works v seat w t → Grew (work_at v seat) w m k → Grew (work_at v seat) (work_at t seat) m k
  by_works t w m k works grew = subst (λ (x : Work). Grew (work_at v seat) x m k) (sym (ap (λ (s : Session). work_of s.stand) works.own)) grew

  grew_read : (oid : ℕ) (row : List ℕ) (t : View) → DidRead v seat oid row t → Grew (work_at v seat) (work_at t seat) 0 0
  grew_read oid row t (calls.own is claimed row_is) = same_view t is
  grew_read oid row t (calls.again is none found) = same_view t is
  grew_read oid row t (calls.first stamp none unread less works) =
      by_works t (reading (record { oid = oid; stamp = stamp; row = row }) (work_at v seat)) 0 0 works (grew_reading (work_at v seat) (record { oid = oid; stamp = stamp; row = row }) unread)

  grew_claim : (oid : ℕ) (t : View) → DidClaim v seat oid t → Grew (work_at v seat) (work_at t seat) 0 1
  grew_claim oid t (calls.before is claimed) = grew_within (work_at v seat) (work_at t seat) 0 0 0 1 (omega arith) (omega arith) (same_view t is)
  grew_claim oid t (calls.now stamp base none less free newest works) =
      let c : VersionWritten = record { oid = oid; stamp = stamp; base = base; row = base; is_set = false } in
      by_works t (claiming c (work_at v seat)) 0 1 works (grew_claiming (work_at v seat) c less)

  -- an object that is claimed is claimed no more
  grew_again : (oid : ℕ) (t : View) → is_claimed (work_at v seat).claims oid ≡ true → DidClaim v seat oid t → Grew (work_at v seat) (work_at t seat) 0 0
  grew_again oid t is_so (calls.before is claimed) = same_view t is
  grew_again oid t is_so (calls.now stamp base none less free newest works) = absurd (cc)

pub grew_write : (v : View) (seat oid : ℕ) (row : List ℕ) (t : View) (k : ℕ) → (did : DidWrite v seat oid row t) → Grew (work_at v seat) (work_at did.between seat) 0 k → Grew (work_at v seat) (work_at t seat) 0 k
grew_write v seat oid row t k did grew =
    let u = work_at did.between seat in
    by_works v seat t (setting oid row u) 0 k did.set
    (grew_within (work_at v seat) (setting oid row u) (0 + 0) (k + 0) 0 k (omega arith) (omega arith)
    (grew_then (work_at v seat) u (setting oid row u) 0 k 0 0 grew (grew_setting u oid row)))

-- one call, and calls in turn
pub grew_one : (v : View) (seat : ℕ) (event : Event) (t : View) → Answered v seat event t
    → Grew (work_at v seat) (work_at t seat) (count_makes (event ∷ [])) (count_claims (event ∷ []) + count_writes (event ∷ []))
grew_one v seat (did_read oid row) t did = grew_read v seat oid row t did
grew_one v seat (did_claim oid) t did = grew_claim v seat oid t did
grew_one v seat (did_write oid row) t did = grew_write v seat oid row t 1 did (grew_claim v seat oid did.between did.claim)
grew_one v seat (did_make oid) t did = by_works v seat t (making oid (work_at v seat)) 1 0 did (grew_making (work_at v seat) oid)

pub grew_all : (v : View) (seat : ℕ) (events : List Event) (t : View) → Ran v seat events t
    → Grew (work_at v seat) (work_at t seat) (count_makes events) (count_claims events + count_writes events)
grew_all v seat [] t is = same_view v seat t is
grew_all v seat (event ∷ events) t ran =
    let m = makes-append (event ∷ []) events in
    let k = claims-append (event ∷ []) events in
    let l = writes-append (event ∷ []) events in
    grew_within (work_at v seat) (work_at t seat)
    (count_makes (event ∷ []) + count_makes events) ((count_claims (event ∷ []) + count_writes (event ∷ [])) + (count_claims events + count_writes events))
    (count_makes (event ∷ events)) (count_claims (event ∷ events) + count_writes (event ∷ events))
    (omega (arith, m)) (omega (arith, k, l))
    (grew_then (work_at v seat) (work_at ran.0 seat) (work_at t seat) _ _ _ _ (grew_one v seat event ran.0 ran.1) (grew_all ran.0 seat events t ran.2))

-- CLAIMED objects stay so.
still_one : (v : View) (seat : ℕ) (event : Event) (t : View) (x : ℕ) → phase_at v seat ≡ Active → Answered v seat event t → is_claimed (work_at v seat).claims x ≡ true
    → is_claimed (work_at t seat).claims x ≡ true
still_one v seat event t x active did claimed =
    let it = went sound_law v seat event t active did in
    subst (λ (w : Work). is_claimed w.claims x ≡ true) (sym (ap work_of it.stand)) ((it.moves.claims x).1 (inl claimed))

pub still_active : (v : View) (seat : ℕ) (event : Event) (t : View) → phase_at v seat ≡ Active → Answered v seat event t → phase_at t seat ≡ Active
still_active v seat event t active did = ap phase_of (went sound_law v seat event t active did).stand

pub still_claimed : (events : List Event) (v : View) (seat : ℕ) (t : View) (x : ℕ) → phase_at v seat ≡ Active → Ran v seat events t → is_claimed (work_at v seat).claims x ≡ true
    → is_claimed (work_at t seat).claims x ≡ true
still_claimed [] v seat t x active is claimed = subst (λ (y : View). is_claimed (work_at y seat).claims x ≡ true) (sym is) claimed
still_claimed (event ∷ events) v seat t x active ran claimed =
    still_claimed events ran.0 seat t x (still_active v seat event ran.0 active ran.1) ran.2 (still_one v seat event ran.0 x active ran.1 claimed)

pub all_active : (events : List Event) (v : View) (seat : ℕ) (t : View) → phase_at v seat ≡ Active → Ran v seat events t → phase_at t seat ≡ Active
all_active [] v seat t active is = subst (λ (y : View). phase_at y seat ≡ Active) (sym is) active
all_active (event ∷ events) v seat t active ran = all_active events ran.0 seat t (still_active v seat event ran.0 active ran.1) ran.2

-- all objects of rows are claimed
pub AllClaimed : List VersionWritten → List (ℕ × List ℕ) → Type 0
AllClaimed cs [] = Unit {0}
AllClaimed cs (entry ∷ rows) = (is_claimed cs entry.0 ≡ true) × AllClaimed cs rows

all_still : (cs ds : List VersionWritten) (rows : List (ℕ × List ℕ)) → ((x : ℕ) → is_claimed cs x ≡ true → is_claimed ds x ≡ true) → AllClaimed cs rows → AllClaimed ds rows
unfolding AllClaimed
all_still cs ds [] still all = tt
all_still cs ds (entry ∷ rows) still all = (still entry.0 all.0, all_still cs ds rows still all.1)

pub claims_claim : (rows : List (ℕ × List ℕ)) (v : View) (seat : ℕ) (t : View) → phase_at v seat ≡ Active → Ran v seat (map (λ entry. did_claim entry.0) rows) t → AllClaimed (work_at t seat).claims rows
unfolding AllClaimed
claims_claim [] v seat t active ran = tt
claims_claim (entry ∷ rows) v seat t active ran =
    let it = went sound_law v seat (did_claim entry.0) ran.0 active ran.1 in
    let here : is_claimed (work_at ran.0 seat).claims entry.0 ≡ true =
    subst (λ (w : Work). is_claimed w.claims entry.0 ≡ true) (sym (ap work_of it.stand)) ((it.moves.claims entry.0).1 (inr refl)) in
    let then_active = still_active v seat (did_claim entry.0) ran.0 active ran.1 in
    (still_claimed (map (λ (e : ℕ × List ℕ). did_claim e.0) rows) ran.0 seat t entry.0 then_active ran.2 here, claims_claim rows ran.0 seat t then_active ran.2)

-- rows of claimed objects are set: nothing more is claimed
pub writes_stay : (rows : List (ℕ × List ℕ)) (v : View) (seat : ℕ) (t : View) → phase_at v seat ≡ Active → AllClaimed (work_at v seat).claims rows → Ran v seat (map (λ entry. did_write entry.0 entry.1) rows) t
    → Grew (work_at v seat) (work_at t seat) 0 0
unfolding AllClaimed
writes_stay [] v seat t active all is = same_view v seat t is
writes_stay (entry ∷ rows) v seat t active all ran =
    let first = grew_write v seat entry.0 entry.1 ran.0 0 ran.1 (grew_again v seat entry.0 ran.1.between all.0 ran.1.claim) in
    let still : AllClaimed (work_at ran.0 seat).claims rows =
    all_still (work_at v seat).claims (work_at ran.0 seat).claims rows (λ x. still_one v seat (did_write entry.0 entry.1) ran.0 x active ran.1) all.1 in
    grew_then (work_at v seat) (work_at ran.0 seat) (work_at t seat) 0 0 0 0 first
    (writes_stay rows ran.0 seat t (still_active v seat (did_write entry.0 entry.1) ran.0 active ran.1) still ran.2)

-- calls in two parts
pub ran_parts : (es fs : List Event) (v : View) (seat : ℕ) (t : View) → Ran v seat (es ++ fs) t → (u : View) × Ran v seat es u × Ran u seat fs t
ran_parts [] fs v seat t ran = (v, refl, ran)
ran_parts (event ∷ es) fs v seat t ran =
    let rest = ran_parts es fs ran.0 seat t ran.2 in
    (rest.0, (ran.0, ran.1, rest.1), rest.2)

-- one that has read nothing
pub nothing_apart : Apart []
unfolding Apart
nothing_apart = tt
