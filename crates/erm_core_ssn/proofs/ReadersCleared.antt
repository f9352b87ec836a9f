-- Readers at the end of a transaction: an own bit is cleared, a reader stamp raised.
use Rattle.std.proofs.Common.{◌≡◌, ◌≢◌, ℕ, ◌+◌, ◌<◌, ◌≤◌, ◌⊎◌, ⊎_elim, Bool, true, false, not, ◌||◌, length, Option, Some, None, refl, sym, ap, ◌∙◌, subst, arith}
use Rattle.std.proofs.lemmas.Bool.{and_parts, cases_eq, eqb-true, ltb-true}
use Rattle.erm_machine.specs.declared.attempt.Decision.{Decision}
use Rattle.erm_machine.specs.declared.attempt.Decision.TheVariants.{Commit}
use Rattle.erm_machine.specs.declared.limits.TheConstants.{OBJECT_LIMIT}
use Rattle.erm_machine.specs.declared.part.Part.{Part}
use Rattle.erm_machine.specs.declared.place.Place.{Place}
use Rattle.erm_machine.specs.declared.place.Place.TheVariants.{Active, Decided}
use Rattle.erm_machine.specs.declared.task.Task.{Task}
use Rattle.erm_machine.specs.declared.task.Task.TheVariants as task
use Rattle.erm_machine.specs.declared.version.CellWord.TheVariants as word
use Rattle.erm_machine.specs.declared.version.VersionAt.{VersionAt}
use Rattle.erm_machine.specs.Core.{Core, Shared, version_at}
use Rattle.erm_machine.specs.Readers.{OwnReaders, bit_of, cleared, raised}
use Rattle.erm_machine.specs.Seat.{is_active, is_commit, is_decided, end_of, read_at}
use Rattle.erm_machine.specs.Settling.{raise_reader, clear_reader}
use Rattle.erm_machine.specs.Sound.{Sound}
use Rattle.erm_machine.specs.Step.{with_version_word}
use Rattle.erm_machine.specs.Words.{without_bit}
use Rattle.erm_machine.proofs.Guards.{when_then}
use Rattle.erm_core_ssn.proofs.ReadersLists.{same_is, read_in}
use Rattle.erm_core_ssn.proofs.ReadersBits.{bit_cleared}
use Rattle.erm_core_ssn.proofs.ReadersSteps.{Left, Grown, RatedBy, reader_seat, current_within, old_bit, over_stays, raising_stays, own_stays}
use Rattle.erm_core_ssn.proofs.ReadersWords.{rebit_grown, bit_there, bit_cases, with_raised, raised_grown, raised_bits, raised_to}
use Rattle.erm_core_ssn.proofs.ReadersCalm.{bits_cleared, stamps_raised, ends_at}
use Rattle.erm_core_ssn.proofs.ReadersOwn.{own_holds, Raises, recalls_from, Stays, cleared_in, raised_in}

-- places of an end
ending_stays : (pl : Place) → (is_decided pl || is_active pl) ≡ true → Stays pl
ending_stays (Active tail) e = tt
ending_stays (Decided tail stamp) e = tt
ending_stays _ e = absurd (cc)

decided_stays : (pl : Place) → is_decided pl ≡ true → Stays pl
decided_stays (Decided tail stamp) e = tt
decided_stays _ e = absurd (cc)

commit_is : (d : Decision) → is_commit d ≡ true → d ≡ Commit
commit_is Commit e = refl
commit_is _ e = absurd (cc)

if_commit : (b a : Bool) → (not b || a) ≡ true → b ≡ true → a ≡ true
if_commit true a g e = g
if_commit false a g e = absurd (cc)

-- the bit of a version read is cleared
abbrev pub clears_bit : Core → ℕ → VersionAt → Shared
clears_bit c p v = with_version_word v word.Readers (without_bit (version_at (c.shared.objects v.oid) v.place).words.readers p) c.shared

module _ (c : Core) (p : ℕ) (sound : Sound c) (v : VersionAt) (at : ℕ) (within : at < length (c.seats p).current.reads) (is : v ≡ (read_at (c.seats p).current at).version) where
  place_within : v.place < length (c.shared.objects v.oid).versions
  place_within = subst (λ (n : VersionAt). n.place < length (c.shared.objects n.oid).versions) (sym is) (current_within c p at sound within)

  bit_gone : bit_of (clears_bit c p v) p v.oid v.place ≡ 0
  bit_gone =
      let bits = (version_at (c.shared.objects v.oid) v.place).words.readers in
      bit_there c.shared v (without_bit bits p) p place_within ∙ bit_cleared bits p (reader_seat c p at sound within)

  cleared_grown : Grown c.shared (clears_bit c p v) (c.seats p)
  cleared_grown = rebit_grown c.shared v (without_bit (version_at (c.shared.objects v.oid) v.place).words.readers p) (c.seats p)

  cases : (oid k : ℕ) → ((oid ≡ v.oid) × (k ≡ v.place)) ⊎ (bit_of (clears_bit c p v) p oid k ≡ bit_of c.shared p oid k)
  cases oid k = bit_cases c.shared v (without_bit (version_at (c.shared.objects v.oid) v.place).words.readers p) p oid k

  -- the bit at another version stays
  stands_cleared : cleared (c.seats p) ≡ at → (k : ℕ) → at + 1 ≤ k → k < length (c.seats p).current.reads →
      bit_of (clears_bit c p v) p (read_at (c.seats p).current k).version.oid (read_at (c.seats p).current k).version.place ≡ 1
  stands_cleared now k from low =
      let r = (read_at (c.seats p).current k).version in
      ⊎_elim
      (λ (here : (r.oid ≡ v.oid) × (r.place ≡ v.place)).
      absurd ((sound.own p).readers.once at k (omega (arith, from)) low (sym (here.0 ∙ ap (λ (n : VersionAt). n.oid) is))))
      (λ (same : bit_of (clears_bit c p v) p r.oid r.place ≡ bit_of c.shared p r.oid r.place). same ∙ (sound.own p).readers.stands k (omega (arith, from, now)) low)
      (cases r.oid r.place)

  only_cleared : cleared (c.seats p) ≡ at → (oid place : ℕ) → oid < OBJECT_LIMIT → place < length ((clears_bit c p v).objects oid).versions → bit_of (clears_bit c p v) p oid place ≡ 1 →
      (k : ℕ) × (at + 1 ≤ k) × (k < length (c.seats p).current.reads) × ((read_at (c.seats p).current k).version.oid ≡ oid) × ((read_at (c.seats p).current k).version.place ≡ place)
  only_cleared now oid place known inside set =
      ⊎_elim
      (λ (here : (oid ≡ v.oid) × (place ≡ v.place)). absurd (gone oid place here.0 here.1 set))
      (λ (same : bit_of (clears_bit c p v) p oid place ≡ bit_of c.shared p oid place).
      let b = old_bit c.shared (clears_bit c p v) (c.seats p) p oid place cleared_grown inside set in
      let was = (sound.own p).readers.only oid place known b.within (sym same ∙ set) in
      let from = was.1 in
      let another = other was.0 oid place was.3 was.4 set in
      (was.0, omega (arith, from, now, another), was.2, was.3, was.4))
      (cases oid place)
    where
      gone : (oid place : ℕ) → oid ≡ v.oid → place ≡ v.place → bit_of (clears_bit c p v) p oid place ≡ 1 → ⊥
      gone oid place e f set =
          let none = ap (λ n. bit_of (clears_bit c p v) p n place) e ∙ (ap (bit_of (clears_bit c p v) p v.oid) f ∙ bit_gone) in
          omega (arith, none, set)

      other : (k oid place : ℕ) → (read_at (c.seats p).current k).version.oid ≡ oid → (read_at (c.seats p).current k).version.place ≡ place → bit_of (clears_bit c p v) p oid place ≡ 1 → k ≢ at
      other k oid place e f set same =
          let one : (read_at (c.seats p).current k).version ≡ v = ap (λ n. (read_at (c.seats p).current n).version) same ∙ sym is in
          gone oid place (sym e ∙ ap (λ (n : VersionAt). n.oid) one) (sym f ∙ ap (λ (n : VersionAt). n.place) one) set

  own_cleared : (u : Task) → cleared (c.seats p) ≡ at → cleared (record (c.seats p) { task = u }) ≡ at + 1 → Raises (clears_bit c p v) (record (c.seats p) { task = u }) →
      OwnReaders (clears_bit c p v) p (record (c.seats p) { task = u })
  own_cleared u was now raises = record {
    once = (sound.own p).readers.once;
    stands = λ k from low. stands_cleared was k (omega (arith, from, now)) low;
    only = λ oid place known inside set. let o = only_cleared was oid place known inside set in let from = o.1 in (o.0, omega (arith, from, now), o.2, o.3, o.4);
    before = raises.before;
    raising = raises.raising;
    over = over_stays c (clears_bit c p v) (c.seats p) p sound cleared_grown;
  }

clear_from : (c : Core) (p : ℕ) (v : VersionAt) (o : Option (ℕ × ℕ × ℕ × ℕ)) (y : Part) → Sound c → end_of (c.seats p).task ≡ o → clear_reader v (c.seats p) o ≡ Some y → Left c (clears_bit c p v) p y
clear_from c p v None y sound at e = absurd (cc)
clear_from c p v (Some n) y sound at e =
    let x = c.seats p in
    when_then (Left c (clears_bit c p v) p) _ _ y e (λ g.
    let raises = (and_parts _ _ (and_parts _ _ g).0).1 in
    let less = and_parts _ _ (and_parts _ _ (and_parts _ _ g).0).0 in
    let within = ltb-true n.3 (length x.current.reads) less.1 in
    let stays = ending_stays x.place (and_parts _ _ less.0).0 in
    let ends = ends_at x.task n at in
    let is = same_is v (read_at x.current n.3).version (and_parts _ _ g).1 in
    let u = task.Ends n.0 n.1 n.2 (n.3 + 1) in
    let was : cleared x ≡ n.3 = cleared_in x.place x.task (length x.current.reads) stays ∙ sym ends.cleared in
    let now : cleared (record x { task = u }) ≡ n.3 + 1 = cleared_in x.place u (length x.current.reads) stays in
    let up : raised (record x { task = u }) ≡ n.0 = raised_in x.place u (length x.current.reads) stays in
    let upped : raised x ≡ n.0 = raised_in x.place x.task (length x.current.reads) stays ∙ sym ends.raised in
    record {
      own = own_cleared c p sound v n.3 within is u was now (record {
        before = λ commit _. let all = eqb-true n.0 (length x.current.reads) (if_commit (is_commit x.current.decision) _ raises (ap is_commit commit)) in omega (arith, all, up);
        raising = λ commit k low inside. raising_stays c (clears_bit c p v) x p sound (cleared_grown c p sound v n.3 within is) commit k (omega (arith, low, up, upped)) inside;
      });
      recalls = recalls_from x _ refl (λ commit. (commit, refl, refl));
    })

pub clear_reader_left : (c : Core) (p : ℕ) (v : VersionAt) (y : Part) → Sound c → clear_reader v (c.seats p) (end_of (c.seats p).task) ≡ Some y → Left c (clears_bit c p v) p y
clear_reader_left c p v y sound e = clear_from c p v (end_of (c.seats p).task) y sound refl e

-- a bit is cleared by a seat with words
clear_seat_from : (c : Core) (p : ℕ) (v : VersionAt) (o : Option (ℕ × ℕ × ℕ × ℕ)) (y : Part) → Sound c → clear_reader v (c.seats p) o ≡ Some y → p < 64
clear_seat_from c p v None y sound e = absurd (cc)
clear_seat_from c p v (Some n) y sound e =
    when_then (λ _. p < 64) _ _ y e (λ g. reader_seat c p n.3 sound (ltb-true _ _ (and_parts _ _ (and_parts _ _ (and_parts _ _ g).0).0).1))

pub clear_seat : (c : Core) (p : ℕ) (v : VersionAt) (y : Part) → Sound c → clear_reader v (c.seats p) (end_of (c.seats p).task) ≡ Some y → p < 64
clear_seat c p v y sound e = clear_seat_from c p v (end_of (c.seats p).task) y sound e

-- the reader stamp of a version read is raised by a commit
pub raised_by : (c : Core) (p : ℕ) (v : VersionAt) (value : ℕ) (u : Task) (y : Part) → raise_reader v value (c.seats p) u ≡ Some y → RatedBy (c.seats p) v.oid v.place value
raised_by c p v value (task.Ends raised ended step cleared) y e =
    let x = c.seats p in
    when_then (λ _. RatedBy x v.oid v.place value) _ _ y e (λ g.
    let front = and_parts _ _ (and_parts _ _ g).0 in
    let less = and_parts _ _ front.0 in
    let is = same_is v (read_at x.current raised).version front.1 in
    record {
      commit = commit_is x.current.decision (and_parts _ _ less.0).1;
      stamp_is = sym (eqb-true value x.current.stamp (and_parts _ _ g).1);
      read = read_at x.current raised;
      stands = read_in x.current raised (ltb-true _ _ less.1);
      oid_is = ap (λ (n : VersionAt). n.oid) (sym is);
      place_is = ap (λ (n : VersionAt). n.place) (sym is);
    })
raised_by c p v value _ y e = absurd (cc)

module _ (c : Core) (p : ℕ) (v : VersionAt) (value : ℕ) (sound : Sound c) (by : RatedBy (c.seats p) v.oid v.place value) where
  abbrev raises : Shared
  raises = with_raised c.shared v value (c.seats p) by

  own_old : OwnReaders raises p (c.seats p)
  own_old = own_stays c raises (c.seats p) p sound (raised_grown c.shared v value (c.seats p) by) (raised_bits c.shared v value (c.seats p) by p)

  pub raise_reader_left : (u : Task) (y : Part) → (c.seats p).task ≡ u → raise_reader v value (c.seats p) u ≡ Some y → Left c raises p y
  raise_reader_left (task.Ends up ended step down) y at e =
      let x = c.seats p in
      when_then (Left c raises p) _ _ y e (λ g.
      let front = and_parts _ _ (and_parts _ _ g).0 in
      let less = and_parts _ _ front.0 in
      let within = ltb-true up (length x.current.reads) less.1 in
      let stays = decided_stays x.place (and_parts _ _ less.0).0 in
      let is = same_is v (read_at x.current up).version front.1 in
      let stamp : value ≡ x.current.stamp = eqb-true value x.current.stamp (and_parts _ _ g).1 in
      let u = task.Ends (up + 1) ended step down in
      let was : cleared x ≡ down = cleared_in x.place x.task (length x.current.reads) stays ∙ ap bits_cleared at in
      let now : cleared (record x { task = u }) ≡ down = cleared_in x.place u (length x.current.reads) stays in
      let upped : raised x ≡ up = raised_in x.place x.task (length x.current.reads) stays ∙ ap stamps_raised at in
      let more : raised (record x { task = u }) ≡ up + 1 = raised_in x.place u (length x.current.reads) stays in
      let here = subst (λ (n : VersionAt). value ≤ (version_at (raises.objects n.oid) n.place).words.reader_stamp) is
      (raised_to c.shared v value x by (subst (λ (n : VersionAt). n.place < length (c.shared.objects n.oid).versions) (sym is) (current_within c p up sound within))) in
      record {
        own = own_holds raises p x _ (record { over = refl; reads = refl; cleared = now ∙ sym was }) (record {
          before = λ commit some. let all = own_old.before commit (omega (arith, some, now, was)) in omega (arith, all, upped, more);
          raising = λ commit k low inside. ⊎_elim
              (λ (same : k ≡ up). subst (λ n. x.current.stamp ≤ (version_at (raises.objects (read_at x.current n).version.oid) (read_at x.current n).version.place).words.reader_stamp) (sym same) (omega (arith, here, stamp)))
              (λ (other : k ≡ up → ⊥). own_old.raising commit k (omega (arith, low, other, more, upped)) inside)
              (cases_eq k up);
        }) own_old;
        recalls = recalls_from x _ refl (λ commit. (commit, refl, refl));
      })
  raise_reader_left _ y at e = absurd (cc)
