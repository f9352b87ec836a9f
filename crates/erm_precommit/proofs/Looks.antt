-- Looks of a settle at other seats.
use Rattle.std.specs.Int.{bit_at, trailing_zeros, w64}
use Rattle.std.proofs.Common.{◌≡◌, ◌≢◌, ℕ, ◌<◌, ◌≤◌, ◌^◌, ⊎_elim, true, false, eqb, List, length, get_or, max, refl, sym, ap, ◌∙◌, subst, arith, get_or-set_same, get_or-set_other}
use Rattle.std.specs.Int.{bit_not}
use Rattle.std.proofs.lemmas.Bool.{and_from, cases_eq, cases_lt, eq-eqb, le-leb, cond-true}
use Rattle.std.proofs.lemmas.List.{get_or_past}
use Rattle.std.proofs.lemmas.Nat.{and_le_l}
use Rattle.erm_machine.specs.declared.limits.TheConstants.{ANNOUNCERS}
use Rattle.erm_machine.specs.declared.part.Part.{Part}
use Rattle.erm_machine.specs.declared.task.Task.{Task}
use Rattle.erm_machine.specs.declared.task.Task.TheVariants as task
use Rattle.erm_machine.specs.Bounds.{IsBounded, IsOther}
use Rattle.erm_machine.specs.Life.{after_clear, noted}
use Rattle.erm_machine.specs.Seat.{is_vacant}
use Rattle.erm_machine.specs.Settling.{may_settle}
use Rattle.erm_machine.specs.Words.{is_clear, without_bit}
use Rattle.erm_core_calls.proofs.Bits.{bit_left, least_bit, Least}
use Rattle.erm_core_calls.proofs.GoesSettled.{fewer}
use Rattle.erm_core_calls.proofs.Seats.{seat_low}
use Rattle.erm_rule.specs.declared.view.View.{View}
use Rattle.erm_rule.specs.Views.{part_of, with_part}
use Rattle.erm_seats.specs.declared.answer.Look.TheVariants.{Clear, NotYet}
use Rattle.erm_seats.specs.Calls.{DidLook, FindsState}
use Rattle.erm_precommit.specs.declared.pre.Pre.{Pre}
use Rattle.erm_precommit.specs.Settle.{readers_task, task_of, Stands, StopsAt, WentOn}
use Rattle.erm_precommit.proofs.Standing.{sealed_taken, stays, went, comes_to, stands_with, may_either, pre_same, bounded, stamp_seen, Leads}

-- a bound that is noted is at least the old one
noted_more : (other bound q : ℕ) (l : List ℕ) → get_or l q 0 ≤ get_or (noted other bound l) q 0
noted_more other bound q l =
    ⊎_elim
    (λ (same : q ≡ other).
    ⊎_elim
    (λ (within : other < length l).
    let is : get_or (noted other bound l) other 0 ≡ max (get_or l other 0) bound = get_or-set_same l other (max (get_or l other 0) bound) 0 within in
    subst (λ (n : ℕ). get_or l n 0 ≤ get_or (noted other bound l) n 0) (sym same) (omega (arith, is)))
    (λ (past : length l ≤ other). let none : get_or l q 0 ≡ 0 = get_or_past l q 0 (omega (arith, past, same)) in omega (arith, none))
    (cases_lt other (length l)))
    (λ (ne : q ≡ other → ⊥). let is : get_or (noted other bound l) q 0 ≡ get_or l q 0 = get_or-set_other l other q (max (get_or l other 0) bound) 0 ne in omega (arith, is))
    (cases_eq q other)

-- a settle may begin anew where readers are left, and where none are
pub may_readers : (place bits : ℕ) → may_settle (readers_task place bits) ≡ true
may_readers place bits = may_either (eqb bits 0) (task.WriteClear place) (task.ReadersLeft place bits) refl refl

module _ (pre : Pre) (v : View) (who : ℕ) (stands : Stands pre v who) where
  abbrev x : Part
  x = part_of v who

  pub look_taken : is_vacant x.place ≡ false
  look_taken = sealed_taken x.place stands.sealed

  pub look_bound : pre.stamp ≤ x.seen
  look_bound = subst (λ (n : ℕ). n ≤ x.seen) (sym stands.kept.stamp) (stamp_seen v who stands.sealed stands.known)

  -- a seat that is found clear, for a task that goes on then
  module _ (seat : ℕ) (w : View) (did : DidLook v who seat pre.stamp Clear w) (next : Task) (on : after_clear seat pre.stamp x x.task ≡ next) where
    leads : Leads v who next x.current.succ x.current.succ_from x.current.pred (noted seat pre.stamp x.clear) w
    leads = record {
      is = did.1 ∙ ap (λ (t : Task). with_part who (record x { task = t; clear = noted seat pre.stamp x.clear }) v) on;
      noted = λ q. noted_more seat pre.stamp q x.clear;
      known = did.2;
    }

    pub look_went : WentOn v who w
    look_went = went v who stands.sealed _ _ _ _ _ w leads

    pub look_comes : task_of w who ≡ next
    look_comes = comes_to v who stands.sealed _ _ _ _ _ w leads

    pub look_stands : may_settle next ≡ true → Stands pre w who
    look_stands may = stands_with v who stands.sealed _ _ _ _ _ w leads may pre (pre_same pre x next x.current.succ_from (noted seat pre.stamp x.clear) stands.kept)

  -- a seat that isn't
  module _ (other seat seen : ℕ) (w : View) (did : DidLook v who other pre.stamp (NotYet seat seen) w) where
    pub wait_went : WentOn v who w
    wait_went = subst (λ (u : View). WentOn v who u) (sym did.3) (stays v who stands.sealed stands.known)

    pub wait_stands : Stands pre w who
    wait_stands = subst (λ (u : View). Stands pre u who) (sym did.3) stands

    pub wait_stops : other ≢ who → StopsAt v who other (record { seat = seat; seen = seen }) w
    wait_stops another = (
      did.0,
      record {
        another = λ (same : seat ≡ who). another (sym did.0 ∙ same);
        finds = subst (λ (q : ℕ). FindsState v q seen) (sym did.0) did.1;
        unclear = subst (λ (n : ℕ). is_clear seen n ≡ false) stands.kept.stamp did.2;
        same = did.3;
      },
    )

  -- the owner of a version read
  module _ (place owner : ℕ) (at : task_of v who ≡ task.ReadOwned place owner) where
    pub owner_other : IsOther who owner
    owner_other = (bounded v who stands.sealed stands.known (task.ReadOwned place owner) at).1

    pub owner_next : after_clear owner pre.stamp x x.task ≡ task.ReadClear place
    owner_next =
        ap (λ (t : Task). after_clear owner pre.stamp x t) at
        ∙ cond-true _ _ _ (and_from _ _ (eq-eqb owner owner refl) (le-leb x.current.stamp pre.stamp (let same = stands.kept.stamp in omega (arith, same))))

  -- the least of the readers of a version overwritten
  module _ (place bits : ℕ) (at : task_of v who ≡ task.ReadersLeft place bits) where
    bound : IsBounded who x.current (task.ReadersLeft place bits)
    bound = bounded v who stands.sealed stands.known (task.ReadersLeft place bits) at

    abbrev least : ℕ
    least = trailing_zeros w64 bits

    least_is : Least bits
    least_is = least_bit bits bound.1 (λ q one. seat_low q (bound.2 q one).has_words)

    pub least_other : IsOther who least
    least_other = bound.2 least least_is.set

    pub least_set : bit_at bits least ≡ 1
    least_set = least_is.set

    pub least_low : least < ANNOUNCERS
    least_low = seat_low least least_other.has_words

    pub least_next : after_clear least pre.stamp x x.task ≡ readers_task place (without_bit bits least)
    least_next =
        ap (λ (t : Task). after_clear least pre.stamp x t) at
        ∙ cond-true _ _ _ (and_from _ _ least_is.least (le-leb x.current.stamp pre.stamp (let same = stands.kept.stamp in omega (arith, same))))

    pub least_fewer : without_bit bits least < bits
    least_fewer =
        let low : without_bit bits least ≤ bits = and_le_l bits (bit_not w64 (2 ^ least)) in
        let other = fewer bits least least_low least_is.set in
        omega (arith, low, other)

    pub least_among : (q : ℕ) → bit_at (without_bit bits least) q ≡ 1 → bit_at bits q ≡ 1
    least_among q one = bit_left bits least q one
