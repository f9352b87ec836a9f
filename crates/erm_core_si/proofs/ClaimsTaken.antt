-- The exchange that claims an object.
use Rattle.std.proofs.Common.{◌≡◌, ◌≢◌, ℕ, ◌+◌, ◌<◌, ◌≤◌, ⊎_elim, Bool, true, false, eqb, List, [], ◌∷◌, ◌++◌, length, get_or, Some, refl, sym, ap, ◌∙◌, subst, inr, arith}
use Rattle.std.specs.Prelude.{if◌then◌else◌}
use Rattle.std.proofs.lemmas.Bool.{and_parts, cases_eq, cases_lt, eqb-true, ltb-true, leb-true}
use Rattle.std.proofs.lemmas.List.{length_push, get_or_push, get_or_append_left}
use Rattle.erm_machine.specs.declared.limits.TheConstants.{OBJECT_LIMIT, SESSIONS}
use Rattle.erm_machine.specs.declared.attempt.Attempt.{Attempt}
use Rattle.erm_machine.specs.declared.attempt.Claim.{Claim}
use Rattle.erm_machine.specs.declared.event.Kind.TheVariants as kind
use Rattle.erm_machine.specs.declared.part.Part.{Part}
use Rattle.erm_machine.specs.declared.place.Place.TheVariants.{Vacant}
use Rattle.erm_machine.specs.declared.task.Task.{Task}
use Rattle.erm_machine.specs.declared.task.Task.TheVariants as task
use Rattle.erm_machine.specs.declared.version.VersionAt.{VersionAt}
use Rattle.erm_machine.specs.Chains.{NamedInHand, IsNamed, HeadInHand, IsHead}
use Rattle.erm_machine.specs.Claims.{ObjectFits, ClaimFits, OwnClaims, claims_over, step_of}
use Rattle.erm_machine.specs.Core.{Core, Shared, Object, blank, claim_at, no_claim, version_at}
use Rattle.erm_machine.specs.Facts.{Holds, IsCurrent}
use Rattle.erm_machine.specs.Reading.{lost, new_claim, claim}
use Rattle.erm_machine.specs.Snapshot.{InHand, IsNewestAt}
use Rattle.erm_machine.specs.Sound.{Sound}
use Rattle.erm_machine.specs.Step.{with_object}
use Rattle.erm_machine.specs.Words.{put, head_of, owner_of, claimed, is_session}
use Rattle.erm_machine.proofs.Frames.{put_same, put_other}
use Rattle.erm_machine.proofs.Guards.{when_then}
use Rattle.erm_machine.proofs.Holders.{owner_holds}
use Rattle.erm_machine.proofs.QuietKinds.{Moves}
use Rattle.erm_core_si.proofs.ClaimsObjects.{Alike, alike_same, alike_refl, alike_put, install_waits, claimed_head, claimed_owner, claimed_number, object_claimed}
use Rattle.erm_core_si.proofs.ClaimsOwn.{ClaimOk, ok_at, own_from, ok_goes, held_at, holds_of, holds_claim, Kept, kept_alike, kept_changed, stands_own}
use Rattle.erm_core_si.proofs.ClaimsGentle.{NoEnd, no_end, NotLeaving, over_known, Gentle, gentle_stands, gentle_current, lost_no_end}
use Rattle.erm_core_si.proofs.ClaimsRefilled.{active_stays}

-- a seat gains one claim, of an object that it doesn't hold
pub record Gains (s r : Shared) (seat : ℕ) (x y : Part) (w : Claim) : Type 0 where
  pub writes : y.current.writes ≡ x.current.writes ++ w ∷ []
  pub number : y.current.number ≡ x.current.number
  pub begin : y.current.begin ≡ x.current.begin
  pub from : NotLeaving x.place
  pub to : NotLeaving y.place
  pub old : NoEnd x.task
  pub new : NoEnd y.task
  pub objects : (oid : ℕ) → oid ≢ w.version.oid → Alike (s.objects oid) (r.objects oid)
  pub free : Holds x w.version.oid → ⊥
  pub known : w.version.oid < OBJECT_LIMIT
  pub held : w.held ≡ true
  pub fit : ClaimFits seat y.current.number y.current.begin (r.objects w.version.oid) w
  pub unmarked : (version_at (r.objects w.version.oid) w.version.place).words.overwriter ≡ 0
  pub unset : (version_at (r.objects w.version.oid) w.version.place).words.overwriter_succ ≡ 0

pub gains_own : (s r : Shared) (seat : ℕ) (x y : Part) (w : Claim) → Gains s r seat x y w → OwnClaims s seat x → OwnClaims r seat y
gains_own s r seat x y w g own = own_from r seat y ok once owned
  where
    none_over : claims_over x ≡ 0
    none_over = over_known x.place x.task (length x.current.writes) g.from ∙ g.old.ended

    none_over_now : claims_over y ≡ 0
    none_over_now = over_known y.place y.task (length y.current.writes) g.to ∙ g.new.ended

    many : length y.current.writes ≡ length x.current.writes + 1
    many = ap (λ (ws : List Claim). length ws) g.writes ∙ length_push x.current.writes w

    low_same : (k : ℕ) → k < length x.current.writes → claim_at y.current k ≡ claim_at x.current k
    low_same k low = ap (λ ws. get_or ws k no_claim) g.writes ∙ get_or_append_left x.current.writes (w ∷ []) no_claim k low

    last_is : (k : ℕ) → k ≡ length x.current.writes → claim_at y.current k ≡ w
    last_is k e = ap (λ ws. get_or ws k no_claim) g.writes ∙ get_or_push x.current.writes w no_claim k (sym e)

    by_place : (P : Claim → Type 0) (k : ℕ) → k < length y.current.writes → (k < length x.current.writes → P (claim_at x.current k)) → (k ≡ length x.current.writes → P w) → P (claim_at y.current k)
    by_place P k within f h =
        ⊎_elim
        (λ (low : k < length x.current.writes). subst P (sym (low_same k low)) (f low))
        (λ (high : length x.current.writes ≤ k).
        let n = many in
        let e : k ≡ length x.current.writes = omega (arith, n, within, high) in
        subst P (sym (last_is k e)) (h e))
        (cases_lt k (length x.current.writes))

    held_low : (k : ℕ) → k < length x.current.writes → (claim_at x.current k).held ≡ true
    held_low k low = own.held k low (let z = none_over in omega (arith, z))

    apart : (k : ℕ) → k < length x.current.writes → (claim_at x.current k).version.oid ≢ w.version.oid
    apart k low = λ e. g.free (subst (λ n. Holds x n) e (holds_claim x k low (held_low k low)))

    ok : (k : ℕ) → k < length y.current.writes → ClaimOk r seat y.current (claims_over y) (step_of y.task k) k (claim_at y.current k)
    ok k within =
        by_place (λ v. ClaimOk r seat y.current (claims_over y) (step_of y.task k) k v) k within
        (λ low.
        ok_goes s r seat x.current y.current (claims_over x) (claims_over y) (step_of x.task k) (step_of y.task k) k (claim_at x.current k)
        (record {
          number = g.number;
          begin = g.begin;
          less = λ h. let a = none_over_now in absurd (omega (arith, a, h));
          more = λ h. let a = none_over in omega (arith, a);
          step = λ _. let z = g.old.step k in inr (g.new.step k, omega (arith, z));
        })
        (λ _. g.objects (claim_at x.current k).version.oid (apart k low)) (ok_at s seat x own k low))
        (λ _. record {
          known = g.known;
          over = λ h. let a = none_over_now in absurd (omega (arith, a, h));
          none = λ h. let a = none_over_now in absurd (omega (arith, a, h));
          held = λ _. g.held;
          fit = λ _. g.fit;
          install = λ _. install_waits y.current (r.objects w.version.oid) w (step_of y.task k) (g.new.step k) g.unmarked g.unset;
        })

    once : (j k : ℕ) → j < k → k < length y.current.writes → (claim_at y.current j).version.oid ≢ (claim_at y.current k).version.oid
    once j k less within =
        let n = many in
        let low : j < length x.current.writes = omega (arith, n, less, within) in
        let same = ap (λ (v : Claim). v.version.oid) (low_same j low) in
        by_place (λ v. (claim_at y.current j).version.oid ≢ v.version.oid) k within
        (λ inside. λ e. own.once j k less inside (sym same ∙ e))
        (λ _. λ e. apart j low (sym same ∙ e))

    owned : (oid : ℕ) → 0 < seat → oid < OBJECT_LIMIT → owner_of (r.objects oid).entry ≡ seat → Holds y oid
    owned oid positive known owner =
        let n = many in
        ⊎_elim
        (λ (e : oid ≡ w.version.oid).
        let last = last_is (length x.current.writes) refl in
        holds_of y oid (record {
          place = length x.current.writes;
          within = omega (arith, n);
          held = ap (λ (v : Claim). v.held) last ∙ g.held;
          oid_is = ap (λ (v : Claim). v.version.oid) last ∙ sym e;
        }))
        (λ (ne : oid ≡ w.version.oid → ⊥).
        let h = held_at x oid (own.owned oid positive known (ap owner_of (sym (g.objects oid ne).entry) ∙ owner)) in
        let same = low_same h.place h.within in
        holds_of y oid (record {
          place = h.place;
          within = let low = h.within in omega (arith, n, low);
          held = ap (λ (v : Claim). v.held) same ∙ h.held;
          oid_is = ap (λ (v : Claim). v.version.oid) same ∙ h.oid_is;
        }))
        (cases_eq oid w.version.oid)

-- the seat of number 0 holds nothing
pub zero_holds : (c : Core) (q oid : ℕ) → Sound c → q ≡ 0 → Holds (c.seats q) oid → ⊥
zero_holds c q oid sound zero_is h =
    let vacant : (c.seats 0).place ≡ Vacant = (sound.own 0).ranges.seat_of refl in
    let cur : (c.seats 0).current ≡ blank = subst (λ p. IsCurrent p (c.seats 0).current) vacant (sound.own 0).ranges.current in
    let at = held_at (c.seats 0) oid (subst (λ n. Holds (c.seats n) oid) zero_is h) in
    let low = at.within in
    let n : length (c.seats 0).current.writes ≡ 0 = ap (λ (t : Attempt). length t.writes) cur in
    omega (arith, low, n)

-- an object whose entry has no owner is held by none
pub unowned_free : (c : Core) (q oid : ℕ) → Sound c → owner_of (c.shared.objects oid).entry ≡ 0 → Holds (c.seats q) oid → ⊥
unowned_free c q oid sound free h = zero_holds c q oid sound (sym (owner_holds c q oid sound h) ∙ free) h

-- a session's number
pub session_low : (seat : ℕ) → is_session seat ≡ true → (0 < seat) × (seat < 256)
session_low seat e =
    let parts = and_parts _ _ e in
    let low = ltb-true 0 seat parts.0 in
    let high = leb-true seat SESSIONS parts.1 in
    (low, omega (arith, high))

-- the exchange of an entry that still is the one seen
taken_own : (c : Core) (p oid number entry stamp : ℕ) (v : VersionAt) (y : Part) → Sound c → (c.seats p).task ≡ task.Found v stamp (Some entry) → NotLeaving (c.seats p).place
    → 0 < p → p < 256 → oid ≡ v.oid → (c.shared.objects oid).entry ≡ entry → number ≡ (c.seats p).current.number
    → y.place ≡ (c.seats p).place → y.current.number ≡ (c.seats p).current.number → y.current.begin ≡ (c.seats p).current.begin → NoEnd y.task
    → y.current.writes ≡ (c.seats p).current.writes ++ new_claim v stamp (version_at (c.shared.objects oid) v.place).words.row ∷ []
    → OwnClaims (with_object oid (record (c.shared.objects oid) { entry = claimed entry p number }) c.shared) p y
taken_own c p oid number entry stamp v y sound at from positive low is_oid is_entry is_number place same_number same_begin none writes =
    gains_own c.shared r p (c.seats p) y w (record {
      writes = writes;
      number = same_number;
      begin = same_begin;
      from = from;
      to = subst NotLeaving (sym place) from;
      old = subst NoEnd (sym at) (no_end _ tt);
      new = none;
      objects = λ o ne. alike_same (c.shared.objects o) (r.objects o) (put_other c.shared.objects oid u o (λ e. ne (e ∙ is_oid)));
      free = λ h. unowned_free c p oid sound unowned (subst (λ n. Holds (c.seats p) n) (sym is_oid) h);
      known = named.object;
      held = refl;
      fit = subst (λ n. ClaimFits p n y.current.begin (r.objects v.oid) w) (sym same_number)
          (subst (λ n. ClaimFits p (c.seats p).current.number n (r.objects v.oid) w) (sym same_begin)
          (subst (λ o. ClaimFits p (c.seats p).current.number (c.seats p).current.begin o w) (sym there) fit));
      unmarked = ap (λ (o : Object). (version_at o v.place).words.overwriter) there ∙ unmarked;
      unset = ap (λ (o : Object). (version_at o v.place).words.overwriter_succ) there ∙ unset;
    }) (sound.own p).claims
  where
    u : Object
    u = record (c.shared.objects oid) { entry = claimed entry p number }

    r : Shared
    r = with_object oid u c.shared

    w : Claim
    w = new_claim v stamp (version_at (c.shared.objects oid) v.place).words.row

    there : r.objects v.oid ≡ u
    there = ap (λ n. r.objects n) (sym is_oid) ∙ put_same c.shared.objects oid u

    named : IsNamed c.shared v
    named = subst (λ t. NamedInHand c.shared t) at (sound.own p).chains.named

    head : IsHead (c.shared.objects oid) v (Some entry)
    head = subst (λ n. IsHead (c.shared.objects n) v (Some entry)) (sym is_oid) (subst (λ t. HeadInHand c.shared t) at (sound.own p).chains.head)

    in_hand : IsNewestAt (c.shared.objects oid) v.place (c.seats p).current.begin stamp
    in_hand = subst (λ n. IsNewestAt (c.shared.objects n) v.place (c.seats p).current.begin stamp) (sym is_oid)
        (subst (λ t. InHand c.shared (c.seats p).current.begin t) at (sound.own p).snapshot.in_hand)

    unowned : owner_of (c.shared.objects oid).entry ≡ 0
    unowned = ap owner_of is_entry ∙ head.0

    old : ObjectFits c.shared.tail (c.shared.objects oid)
    old = sound.common.claims.objects oid (let h = named.object in omega (arith, h, is_oid))

    unmarked : (version_at (c.shared.objects oid) v.place).words.overwriter ≡ 0
    unmarked = ap (λ n. (version_at (c.shared.objects oid) n).words.overwriter) (head.2 is_entry) ∙ old.unmarked unowned

    unset : (version_at (c.shared.objects oid) v.place).words.overwriter_succ ≡ 0
    unset = ap (λ n. (version_at (c.shared.objects oid) n).words.overwriter_succ) (head.2 is_entry) ∙ old.unset unowned

    fit : ClaimFits p (c.seats p).current.number (c.seats p).current.begin u w
    fit = record {
      owner = claimed_owner entry p number low;
      numbered = claimed_number entry p number low ∙ is_number;
      place = head.2 is_entry;
      cell = head.1 ∙ sym (claimed_head entry p number low);
      stamp = sym in_hand.stamp_is;
      base = refl;
      first = in_hand.below;
    }

-- CLAIM: the exchange
exchange_kept : (c : Core) (p oid seen number : ℕ) (d : Core) (t : Task) (y : Part) → Sound c → (c.seats p).task ≡ t
    → claim p oid seen number (c.shared.objects oid).entry (c.shared.objects oid) (c.seats p) t ≡ Some y
    → record {
      shared = with_object oid (record (c.shared.objects oid) {
        entry = if eqb (c.shared.objects oid).entry seen then claimed seen p number else (c.shared.objects oid).entry;
      }) c.shared;
      seats = put c.seats p y;
    } ≡ d
    → Kept d
exchange_kept c p oid seen number d (task.Found v stamp (Some entry)) y sound at e =
    when_then
    (λ z. record {
      shared = with_object oid (record (c.shared.objects oid) {
        entry = if eqb (c.shared.objects oid).entry seen then claimed seen p number else (c.shared.objects oid).entry;
      }) c.shared;
      seats = put c.seats p z;
    } ≡ d → Kept d) _ _ y e
    (λ g is.
    let g1 = and_parts _ _ g in
    let g2 = and_parts _ _ g1.0 in
    let g3 = and_parts _ _ g2.0 in
    let g4 = and_parts _ _ g3.0 in
    let g5 = and_parts _ _ g4.0 in
    let low = session_low p g5.1 in
    by_test (eqb (c.shared.objects oid).entry seen) refl (active_stays (c.seats p).place g5.0) low.0 low.1 (eqb-true oid v.oid g4.1) (eqb-true seen entry g3.1)
    (eqb-true number (c.seats p).current.number g2.1) is)
  where
    by_test : (b : Bool) → eqb (c.shared.objects oid).entry seen ≡ b → NotLeaving (c.seats p).place → 0 < p → p < 256 → oid ≡ v.oid → seen ≡ entry → number ≡ (c.seats p).current.number
        → record {
          shared = with_object oid (record (c.shared.objects oid) { entry = if b then claimed seen p number else (c.shared.objects oid).entry }) c.shared;
          seats = put c.seats p (record (c.seats p) {
            task = if b then task.Claimed v else lost p oid (c.shared.objects oid).entry v (c.shared.objects oid);
            current = record (c.seats p).current {
              writes = if b then (c.seats p).current.writes ++ new_claim v stamp (version_at (c.shared.objects oid) v.place).words.row ∷ [] else (c.seats p).current.writes;
            };
          });
        } ≡ d
        → Kept d
    by_test true test stays positive low is_oid is_seen is_number is =
        let is_entry : (c.shared.objects oid).entry ≡ seen = eqb-true (c.shared.objects oid).entry seen test in
        let u = record (c.shared.objects oid) { entry = claimed seen p number } in
        let known : v.oid < OBJECT_LIMIT = (subst (λ t. NamedInHand c.shared t) at (sound.own p).chains.named).object in
        let unowned : owner_of (c.shared.objects oid).entry ≡ 0 =
        ap owner_of (is_entry ∙ is_seen) ∙ (subst (λ t. HeadInHand c.shared t) at (sound.own p).chains.head).0 in
        kept_changed c p _ (with_object oid u c.shared) d oid sound refl
        (λ o ne. alike_same (c.shared.objects o) (put c.shared.objects oid u o) (put_other c.shared.objects oid u o ne))
        (λ in_range. subst (λ z. ObjectFits c.shared.tail z) (sym (put_same c.shared.objects oid u))
        (object_claimed c.shared.tail (c.shared.objects oid) (claimed seen p number) (claimed_head seen p number low ∙ ap head_of (sym is_entry))
        (λ zero_is. let o = claimed_owner seen p number low in omega (arith, zero_is, o, positive)) (sound.common.claims.objects oid in_range)))
        (λ q ne h. unowned_free c q oid sound unowned h)
        (λ q ne _ owner.
        let o = claimed_owner seen p number low in
        let same = ap (λ (z : Object). owner_of z.entry) (put_same c.shared.objects oid u) in
        ne (sym owner ∙ same ∙ o))
        (taken_own c p oid number seen stamp v _ sound (at ∙ ap (λ n. task.Found v stamp (Some n)) (sym is_seen)) stays positive low is_oid is_entry is_number refl refl refl (no_end _ tt) refl)
        is
    by_test false test stays positive low is_oid is_seen is_number is =
        let alike = alike_put c.shared.objects oid (record (c.shared.objects oid) { entry = (c.shared.objects oid).entry }) (alike_refl (c.shared.objects oid)) in
        let none : NoEnd (lost p oid (c.shared.objects oid).entry v (c.shared.objects oid)) = lost_no_end p oid (c.shared.objects oid).entry v (c.shared.objects oid) in
        let z : Part = record (c.seats p) {
          task = lost p oid (c.shared.objects oid).entry v (c.shared.objects oid);
          current = record (c.seats p).current { writes = (c.seats p).current.writes };
        } in
        let gentle : Gentle (c.seats p) (task.Found v stamp (Some entry)) z =
        gentle_current (c.seats p) (task.Found v stamp (Some entry)) (lost p oid (c.shared.objects oid).entry v (c.shared.objects oid)) (c.seats p).current (c.seats p).spare (no_end _ tt) none
        (record { number = refl; begin = refl; stamp = refl; writes = refl }) in
        kept_alike c p z (with_object oid (record (c.shared.objects oid) { entry = (c.shared.objects oid).entry }) c.shared) d sound (omega arith) alike
        (stands_own c.shared (with_object oid (record (c.shared.objects oid) { entry = (c.shared.objects oid).entry }) c.shared) p (c.seats p) z alike
        (gentle_stands (c.seats p) z (subst (λ t. Gentle (c.seats p) t z) (sym at) gentle))
        (sound.own p).claims)
        is
exchange_kept c p oid seen number d _ y sound at e = absurd (cc)

pub taken_kept : (c : Core) (p oid seen number : ℕ) (d : Core) → Sound c → Moves c p (kind.Claim oid seen number) d → Kept d
taken_kept c p oid seen number d sound m = exchange_kept c p oid seen number d (c.seats p).task m.part sound refl m.after (sym m.is)
