-- The marks of an overwriter on the version that it overwrites.
use Rattle.std.proofs.Common.{◌≡◌, ℕ, ◌+◌, ◌-◌, ◌<◌, ◌≤◌, ⊎_elim, Bool, true, ◌&&◌, eqb, ltb, length, Some, refl, sym, ap, ◌∙◌, subst, inr, arith, get_or-set_same}
use Rattle.std.proofs.lemmas.Bool.{and_parts, cases_lt, eqb-true, ltb-true}
use Rattle.erm_machine.specs.declared.limits.TheConstants.{OBJECT_LIMIT}
use Rattle.erm_machine.specs.declared.attempt.Attempt.{Attempt}
use Rattle.erm_machine.specs.declared.attempt.Claim.{Claim}
use Rattle.erm_machine.specs.declared.event.Kind.TheVariants as kind
use Rattle.erm_machine.specs.declared.part.Part.{Part}
use Rattle.erm_machine.specs.declared.place.Place.TheVariants.{Vacant}
use Rattle.erm_machine.specs.declared.task.Task.{Task}
use Rattle.erm_machine.specs.declared.task.Task.TheVariants as task
use Rattle.erm_machine.specs.declared.version.Cell.{Cell}
use Rattle.erm_machine.specs.declared.version.CellWord.TheVariants as word
use Rattle.erm_machine.specs.declared.version.Version.{Version}
use Rattle.erm_machine.specs.declared.version.VersionAt.{VersionAt}
use Rattle.erm_machine.specs.Claims.{ObjectFits, ClaimFits, InstallFits, claims_over, step_of}
use Rattle.erm_machine.specs.Core.{Core, Shared, Object, claim_at, no_version, newest, version_at, with_version}
use Rattle.erm_machine.specs.Facts.{Holds}
use Rattle.erm_machine.specs.Seat.{is_decided, is_commit, same_version}
use Rattle.erm_machine.specs.Settling.{installs, mark_overwritten}
use Rattle.erm_machine.specs.Sound.{Sound}
use Rattle.erm_machine.specs.Step.{with_object, with_version_word}
use Rattle.erm_machine.specs.Words.{put, set_word, owner_of}
use Rattle.erm_machine.proofs.Frames.{put_same, put_other}
use Rattle.erm_machine.proofs.Guards.{when_then}
use Rattle.erm_machine.proofs.Holders.{held_once}
use Rattle.erm_machine.proofs.QuietKinds.{Moves}
use Rattle.erm_core_si.proofs.ClaimsObjects.{alike_same, seen_same, many_same, newest_within, object_words}
use Rattle.erm_core_si.proofs.ClaimsOwn.{ClaimOk, holds_claim, Changes, changed_own, Kept, kept_changed}
use Rattle.erm_core_si.proofs.ClaimsGentle.{ended_of, NotLeaving, over_known}
use Rattle.erm_core_si.proofs.ClaimsRefilled.{step_here, step_there, decided_stays}
use Rattle.erm_core_si.proofs.ClaimsInstalled.{decided_taken}

-- two names of one version
same_parts : (v w : VersionAt) → same_version v w ≡ true → (v.oid ≡ w.oid) × (v.place ≡ w.place)
same_parts v w e =
    let parts = and_parts _ _ (and_parts _ _ e).0 in
    (eqb-true v.oid w.oid parts.0, eqb-true v.place w.place parts.1)

-- the first and the last of four tests
first_last : (a b c d : Bool) → (a && b && c && d) ≡ true → (a ≡ true) × (d ≡ true)
first_last a b c d e =
    let last = and_parts _ _ e in
    ((and_parts _ _ (and_parts _ _ last.0).0).0, last.1)

-- the version whose words are changed
version_here : (o : Object) (place : ℕ) (words : Cell) → place < length o.versions → version_at (with_version o place words) place ≡ record (version_at o place) { words = words }
version_here o place words within = get_or-set_same o.versions place (record (version_at o place) { words = words }) no_version within

-- a claim fits where a version's words are changed in others than its stamp and its row
claim_words : (seat number begin : ℕ) (o : Object) (w : Claim) (place : ℕ) (words : Cell) → words.stamp ≡ (version_at o place).words.stamp → words.row ≡ (version_at o place).words.row
    → ClaimFits seat number begin o w → ClaimFits seat number begin (with_version o place words) w
claim_words seat number begin o w place words stamp row f = record {
  owner = f.owner;
  numbered = f.numbered;
  place = f.place ∙ ap (λ m. m - 1) (sym (many_same o place words));
  cell = f.cell;
  stamp = f.stamp ∙ sym (seen_same (λ (v : Version). v.words.stamp) o place words stamp w.version.place);
  base = f.base ∙ sym (seen_same (λ (v : Version). v.words.row) o place words row w.version.place);
  first = f.first;
}

-- seat 0 is vacant
seat_positive : (c : Core) (p : ℕ) → Sound c → ((c.seats p).place ≡ Vacant → ⊥) → 0 < p
seat_positive c p sound taken =
    ⊎_elim (λ (some : 0 < p). some)
    (λ (none : p ≤ 0). absurd (taken (subst (λ n. (c.seats n).place ≡ Vacant) (let e : 0 ≡ p = omega (arith, none) in e) ((sound.own 0).ranges.seat_of refl))))
    (cases_lt 0 p)

-- an install goes on by a word of the version overwritten
word_kept : (c : Core) (p : ℕ) (v : VersionAt) (d : Core) (words : Cell) (raised ended step cleared : ℕ) → Sound c
    → (c.seats p).task ≡ task.Ends raised ended step cleared → installs raised ended step (c.seats p) ≡ true
    → same_version v (claim_at (c.seats p).current ended).version ≡ true
    → words.stamp ≡ (version_at (c.shared.objects v.oid) v.place).words.stamp → words.row ≡ (version_at (c.shared.objects v.oid) v.place).words.row
    → (0 < p → v.place ≡ newest (c.shared.objects v.oid) → owner_of (c.shared.objects v.oid).entry ≡ p → ObjectFits c.shared.tail (c.shared.objects v.oid)
    → ObjectFits c.shared.tail (with_version (c.shared.objects v.oid) v.place words))
    → (v.place < length (c.shared.objects v.oid).versions
    → InstallFits (c.seats p).current (c.shared.objects v.oid) (claim_at (c.seats p).current ended) step
    → v.place ≡ (claim_at (c.seats p).current ended).version.place
    → InstallFits (c.seats p).current (with_version (c.shared.objects v.oid) v.place words) (claim_at (c.seats p).current ended) (step + 1))
    → record {
      shared = with_object v.oid (with_version (c.shared.objects v.oid) v.place words) c.shared;
      seats = put c.seats p (record (c.seats p) { task = task.Ends raised ended (step + 1) cleared });
    } ≡ d
    → Kept d
word_kept c p v d words raised ended step cleared sound at commits same stamp row marks goes_on is =
    kept_changed c p y r d v.oid sound refl
    (λ k ne. alike_same (c.shared.objects k) (put c.shared.objects v.oid u k) (put_other c.shared.objects v.oid u k ne))
    (λ _. subst (λ z. ObjectFits c.shared.tail z) (sym (put_same c.shared.objects v.oid u)) fits)
    (λ q ne h. ne (held_once c q p v.oid sound h holds))
    (λ q ne _ owner.
    let e : owner_of (put c.shared.objects v.oid u v.oid).entry ≡ owner_of o.entry = ap (λ (z : Object). owner_of z.entry) (put_same c.shared.objects v.oid u) in
    ne (sym owner ∙ e ∙ fit.owner))
    (changed_own c.shared r p (c.seats p) y ended within changes ok (λ _ _. held) (sound.own p).claims)
    is
  where
    o : Object
    o = c.shared.objects v.oid

    u : Object
    u = with_version o v.place words

    r : Shared
    r = with_object v.oid u c.shared

    y : Part
    y = record (c.seats p) { task = task.Ends raised ended (step + 1) cleared }

    w : Claim
    w = claim_at (c.seats p).current ended

    is_oid : v.oid ≡ w.version.oid
    is_oid = (same_parts v w.version same).0

    is_place : v.place ≡ w.version.place
    is_place = (same_parts v w.version same).1

    tests : (is_decided (c.seats p).place ≡ true) × (ltb ended (length (c.seats p).current.writes) ≡ true)
    tests = first_last (is_decided (c.seats p).place) (is_commit (c.seats p).current.decision) (eqb raised (length (c.seats p).current.reads))
        (ltb ended (length (c.seats p).current.writes)) commits

    decided : is_decided (c.seats p).place ≡ true
    decided = tests.0

    within : ended < length (c.seats p).current.writes
    within = ltb-true ended (length (c.seats p).current.writes) tests.1

    from : NotLeaving (c.seats p).place
    from = decided_stays (c.seats p).place decided

    over_was : claims_over (c.seats p) ≡ ended
    over_was = over_known (c.seats p).place (c.seats p).task (length (c.seats p).current.writes) from ∙ ap ended_of at

    over_now : claims_over y ≡ ended
    over_now = over_known (c.seats p).place (task.Ends raised ended (step + 1) cleared) (length (c.seats p).current.writes) from

    held : w.held ≡ true
    held = (sound.own p).claims.held ended within (let e = over_was in omega (arith, e))

    holds : Holds (c.seats p) v.oid
    holds = subst (λ m. Holds (c.seats p) m) (sym is_oid) (holds_claim (c.seats p) ended within held)

    fit : ClaimFits p (c.seats p).current.number (c.seats p).current.begin o w
    fit = subst (λ n. ClaimFits p (c.seats p).current.number (c.seats p).current.begin (c.shared.objects n) w) (sym is_oid) ((sound.own p).claims.fit ended within held)

    known : v.oid < OBJECT_LIMIT
    known = let h = (sound.own p).claims.objects ended within in let e = is_oid in omega (arith, h, e)

    old : ObjectFits c.shared.tail o
    old = sound.common.claims.objects v.oid known

    newest_is : v.place ≡ newest o
    newest_is = is_place ∙ fit.place

    fits : ObjectFits c.shared.tail u
    fits = marks (seat_positive c p sound (decided_taken (c.seats p).place decided)) newest_is fit.owner old

    was : InstallFits (c.seats p).current o w step
    was = subst (λ n. InstallFits (c.seats p).current (c.shared.objects n) w step) (sym is_oid)
        (subst (λ n. InstallFits (c.seats p).current (c.shared.objects w.version.oid) w n)
        (ap (λ (t : Task). step_of t ended) at ∙ step_here raised ended step cleared ended refl) ((sound.own p).claims.install ended within held))

    now : InstallFits (c.seats p).current u w (step + 1)
    now = goes_on (let e = newest_is in let h = newest_within c.shared.tail o old in omega (arith, e, h)) was is_place

    there : r.objects w.version.oid ≡ u
    there = ap (λ m. put c.shared.objects v.oid u m) (sym is_oid) ∙ put_same c.shared.objects v.oid u

    ok : ClaimOk r p y.current (claims_over y) (step_of y.task ended) ended (claim_at y.current ended)
    ok = record {
      known = (sound.own p).claims.objects ended within;
      over = λ low. let e = over_now in absurd (omega (arith, e, low));
      none = λ low. let e = over_now in absurd (omega (arith, e, low));
      held = λ _. held;
      fit = λ _. subst (λ z. ClaimFits p (c.seats p).current.number (c.seats p).current.begin z w) (sym there)
          (claim_words p (c.seats p).current.number (c.seats p).current.begin o w v.place words stamp row fit);
      install = λ _. subst (λ z. InstallFits (c.seats p).current z w (step_of y.task ended)) (sym there)
          (subst (λ n. InstallFits (c.seats p).current u w n) (sym (step_here raised ended (step + 1) cleared ended refl)) now);
    }

    changes : Changes c.shared r (c.seats p) y ended
    changes = record {
      many = refl;
      same = λ k ne. refl;
      oid_is = refl;
      objects = λ k ne. alike_same (c.shared.objects k) (put c.shared.objects v.oid u k) (put_other c.shared.objects v.oid u k (λ e. ne (e ∙ is_oid)));
      goes = λ k ne. record {
        number = refl;
        begin = refl;
        less = λ low. let a = over_was in let b = over_now in omega (arith, a, b, low);
        more = λ high. let a = over_was in let b = over_now in omega (arith, a, b, high);
        step = λ _.
            let z : step_of (c.seats p).task k ≡ 0 = ap (λ (t : Task). step_of t k) at ∙ step_there raised ended step cleared k ne in
            inr (step_there raised ended (step + 1) cleared k ne, omega (arith, z));
      };
    }

-- END: the overwriter's successor stamp
succ_marks : (c : Core) (p : ℕ) (v : VersionAt) (value : ℕ) (d : Core) (t : Task) (y : Part) → Sound c → (c.seats p).task ≡ t
    → mark_overwritten 6 v value (c.seats p).current.succ (c.seats p) t ≡ Some y
    → record { shared = with_version_word v word.OverwriterSucc value c.shared; seats = put c.seats p y } ≡ d → Kept d
succ_marks c p v value d (task.Ends raised ended step cleared) y sound at e =
    when_then (λ z. record { shared = with_version_word v word.OverwriterSucc value c.shared; seats = put c.seats p z } ≡ d → Kept d) _ _ y e
    (λ g is.
    let g1 = and_parts _ _ g in
    let g2 = and_parts _ _ g1.0 in
    let g3 = and_parts _ _ g2.0 in
    let six : step ≡ 6 = eqb-true step 6 g3.1 in
    let value_is : value ≡ (c.seats p).current.succ = eqb-true value _ g1.1 in
    word_kept c p v d (set_word word.OverwriterSucc value (version_at (c.shared.objects v.oid) v.place).words) raised ended step cleared sound at g3.0 g2.1 refl refl
    (λ positive _ owner old.
    object_words c.shared.tail (c.shared.objects v.oid) v.place _ refl (λ i low same. refl) (λ free. refl) (λ free. absurd (omega (arith, free, owner, positive))) old)
    (λ within was is_place. succ_on (c.seats p).current (c.shared.objects v.oid) (claim_at (c.seats p).current ended) v.place value step six value_is within is_place was)
    is)
  where
    succ_on : (t : Attempt) (o : Object) (w : Claim) (place value step : ℕ) → step ≡ 6 → value ≡ t.succ → place < length o.versions → place ≡ w.version.place → InstallFits t o w step
        → InstallFits t (with_version o place (set_word word.OverwriterSucc value (version_at o place).words)) w (step + 1)
    succ_on t o w place value step six value_is within is_place was =
        let words = set_word word.OverwriterSucc value (version_at o place).words in
        record {
          stamp = λ _. was.stamp (omega (arith, six));
          link = λ _. was.link (omega (arith, six));
          unread = λ _. was.unread (omega (arith, six));
          reader_stamp = λ _. was.reader_stamp (omega (arith, six));
          unmarked = λ _. was.unmarked (omega (arith, six));
          unset = λ _. was.unset (omega (arith, six));
          succ = λ _.
              ap (λ n. (version_at (with_version o place words) n).words.overwriter_succ) (sym is_place)
              ∙ ap (λ (n : Version). n.words.overwriter_succ) (version_here o place words within) ∙ value_is;
          mark = λ h. absurd (omega (arith, six, h));
          no_succ = λ h. absurd (omega (arith, six, h));
          no_mark = λ _. seen_same (λ (n : Version). n.words.overwriter) o place words refl w.version.place ∙ was.no_mark (omega (arith, six));
        }
succ_marks c p v value d _ y sound at e = absurd (cc)

-- END: the overwriter's stamp
stamp_marks : (c : Core) (p : ℕ) (v : VersionAt) (value : ℕ) (d : Core) (t : Task) (y : Part) → Sound c → (c.seats p).task ≡ t
    → mark_overwritten 7 v value (c.seats p).current.stamp (c.seats p) t ≡ Some y
    → record { shared = with_version_word v word.Overwriter value c.shared; seats = put c.seats p y } ≡ d → Kept d
stamp_marks c p v value d (task.Ends raised ended step cleared) y sound at e =
    when_then (λ z. record { shared = with_version_word v word.Overwriter value c.shared; seats = put c.seats p z } ≡ d → Kept d) _ _ y e
    (λ g is.
    let g1 = and_parts _ _ g in
    let g2 = and_parts _ _ g1.0 in
    let g3 = and_parts _ _ g2.0 in
    let seven : step ≡ 7 = eqb-true step 7 g3.1 in
    let value_is : value ≡ (c.seats p).current.stamp = eqb-true value _ g1.1 in
    word_kept c p v d (set_word word.Overwriter value (version_at (c.shared.objects v.oid) v.place).words) raised ended step cleared sound at g3.0 g2.1 refl refl
    (λ positive newest_is owner old.
    object_words c.shared.tail (c.shared.objects v.oid) v.place _ refl (λ i low same. absurd (omega (arith, low, same, newest_is)))
    (λ free. absurd (omega (arith, free, owner, positive))) (λ free. refl) old)
    (λ within was is_place. mark_on (c.seats p).current (c.shared.objects v.oid) (claim_at (c.seats p).current ended) v.place value step seven value_is within is_place was)
    is)
  where
    mark_on : (t : Attempt) (o : Object) (w : Claim) (place value step : ℕ) → step ≡ 7 → value ≡ t.stamp → place < length o.versions → place ≡ w.version.place → InstallFits t o w step
        → InstallFits t (with_version o place (set_word word.Overwriter value (version_at o place).words)) w (step + 1)
    mark_on t o w place value step seven value_is within is_place was =
        let words = set_word word.Overwriter value (version_at o place).words in
        record {
          stamp = λ _. was.stamp (omega (arith, seven));
          link = λ _. was.link (omega (arith, seven));
          unread = λ _. was.unread (omega (arith, seven));
          reader_stamp = λ _. was.reader_stamp (omega (arith, seven));
          unmarked = λ _. was.unmarked (omega (arith, seven));
          unset = λ _. was.unset (omega (arith, seven));
          succ = λ _. seen_same (λ (n : Version). n.words.overwriter_succ) o place words refl w.version.place ∙ was.succ (omega (arith, seven));
          mark = λ _.
              ap (λ n. (version_at (with_version o place words) n).words.overwriter) (sym is_place)
              ∙ ap (λ (n : Version). n.words.overwriter) (version_here o place words within) ∙ value_is;
          no_succ = λ h. absurd (omega (arith, seven, h));
          no_mark = λ h. absurd (omega (arith, seven, h));
        }
stamp_marks c p v value d _ y sound at e = absurd (cc)

pub succ_kept : (c : Core) (p : ℕ) (v : VersionAt) (value : ℕ) (d : Core) → Sound c → Moves c p (kind.StoreSucc v value) d → Kept d
succ_kept c p v value d sound m = succ_marks c p v value d (c.seats p).task m.part sound refl m.after (sym m.is)

pub mark_kept : (c : Core) (p : ℕ) (v : VersionAt) (value : ℕ) (d : Core) → Sound c → Moves c p (kind.StoreOverwriter v value) d → Kept d
mark_kept c p v value d sound m = stamp_marks c p v value d (c.seats p).task m.part sound refl m.after (sym m.is)
