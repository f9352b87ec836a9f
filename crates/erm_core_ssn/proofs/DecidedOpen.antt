-- Seats with a range that isn't decided: they hold their claims, their reader bits stand, and what they read and overwrote.
use Rattle.std.proofs.Common.{◌≡◌, ℕ, ◌<◌, ◌≤◌, ⊎_elim, true, length, map, refl, sym, ap, ◌∙◌, subst, arith}
use Rattle.std.proofs.lemmas.Bool.{cases_lt}
use Rattle.std.proofs.lemmas.Option.{slice_get_within, get_or_from_slice_get}
use Rattle.erm_model.specs.declared.history.VersionRead.{VersionRead}
use Rattle.erm_model.specs.declared.history.VersionWritten.{VersionWritten}
use Rattle.erm_model.specs.History.{Overwrites, Makes}
use Rattle.erm_model.specs.Member.{◌∈◌}
use Rattle.erm_model.proofs.Members.{∈-at}
use Rattle.erm_machine.specs.declared.attempt.Attempt.{Attempt}
use Rattle.erm_machine.specs.declared.attempt.Read.{Read}
use Rattle.erm_machine.specs.declared.attempt.Decision.TheVariants.{Undecided}
use Rattle.erm_machine.specs.declared.place.Place.{Place}
use Rattle.erm_machine.specs.declared.place.Place.TheVariants.{Vacant, Idle, Begun, Announced, Active, Sealing, Drawn, Sealed, Decided, Leaving}
use Rattle.erm_machine.specs.declared.task.Task.{Task}
use Rattle.erm_machine.specs.declared.task.Task.TheVariants as task
use Rattle.erm_machine.specs.Claims.{ObjectFits, ClaimFits}
use Rattle.erm_machine.specs.Core.{Core, Object, version_at, newest, claim_at, no_claim}
use Rattle.erm_machine.specs.Decided.{bare, read_of, written_of, IsOpen, Reading}
use Rattle.erm_machine.specs.Facts.{IsCurrent, over_of}
use Rattle.erm_machine.specs.Readers.{cleared_of, cleared}
use Rattle.erm_machine.specs.Seat.{read_at, no_read}
use Rattle.erm_machine.specs.Snapshot.{Overwriting}
use Rattle.erm_machine.specs.Sound.{Sound}
use Rattle.erm_machine.specs.Tasks.{TaskFits, InSettle}
use Rattle.erm_machine.proofs.Holders.{stands_in}
use Rattle.erm_machine.proofs.Listed.{∈-map}
use Rattle.erm_core_ssn.proofs.DecidedVersions.{current_stands, claim_of_read}

-- no claim is over, no bit cleared
pub record NoneOver (pl : Place) (u : Task) (n : ℕ) : Type 0 where
  pub claims : over_of pl u n ≡ 0
  pub bits : cleared_of pl u n ≡ 0

settles_none : (tail stamp : ℕ) (u : Task) (n : ℕ) → InSettle u → NoneOver (Sealed tail stamp) u n
settles_none tail stamp (task.Ends raised ended step cleared) n f = absurd f
settles_none tail stamp _ n f = record { claims = refl; bits = refl }

pub open_none : (pl : Place) (t : Attempt) (u : Task) (n : ℕ) → IsCurrent pl t → TaskFits pl t u → 0 < t.stamp → t.decision ≡ Undecided → NoneOver pl u n
open_none Vacant t u n cur fits positive un = absurd (omega (arith, ap (λ (w : Attempt). w.stamp) cur, positive))
open_none Idle t u n cur fits positive un = absurd (omega (arith, ap (λ (w : Attempt). w.stamp) cur, positive))
open_none (Begun tail) t u n cur fits positive un = absurd (omega (arith, ap (λ (w : Attempt). w.stamp) cur, positive))
open_none (Announced tail) t u n cur fits positive un = absurd (omega (arith, ap (λ (w : Attempt). w.stamp) cur, positive))
open_none (Active tail) t u n cur fits positive un = absurd (let z = cur.stamp in omega (arith, z, positive))
open_none (Sealing tail) t u n cur fits positive un = absurd (let z = cur.stamp in omega (arith, z, positive))
open_none (Drawn tail stamp) t u n cur fits positive un = subst (λ (w : Task). NoneOver (Drawn tail stamp) w n) (sym fits) (record { claims = refl; bits = refl })
open_none (Sealed tail stamp) t u n cur fits positive un = settles_none tail stamp u n fits
open_none (Decided tail stamp) t u n cur fits positive un = absurd (cur.decision un)
open_none (Leaving stamp) t u n cur fits positive un = absurd (cur.decision un)

-- the place of a read, of a claim, that the history has
pub record ReadPlace (t : Attempt) (r : VersionRead) : Type 0 where
  pub place : ℕ
  pub within : place < length t.reads
  pub is : read_of (read_at t place) ≡ r

pub record ClaimPlace (t : Attempt) (w : VersionWritten) : Type 0 where
  pub place : ℕ
  pub within : place < length t.writes
  pub is : written_of (claim_at t place) ≡ w

pub read_place : (t : Attempt) (r : VersionRead) → r ∈ map read_of t.reads → ReadPlace t r
read_place t r m =
    let h = ∈-map read_of t.reads r m in
    record {
      place = h.1.0;
      within = slice_get_within t.reads h.1.0 h.0 h.1.1;
      is = ap read_of (get_or_from_slice_get t.reads h.1.0 h.0 no_read h.1.1) ∙ h.2;
    }

pub claim_place : (t : Attempt) (w : VersionWritten) → w ∈ map written_of t.writes → ClaimPlace t w
claim_place t w m =
    let h = ∈-map written_of t.writes w m in
    record {
      place = h.1.0;
      within = slice_get_within t.writes h.1.0 h.0 h.1.1;
      is = ap written_of (get_or_from_slice_get t.writes h.1.0 h.0 no_claim h.1.1) ∙ h.2;
    }

pub newest_most : (now : ℕ) (o : Object) (i : ℕ) → ObjectFits now o → i < length o.versions → (version_at o i).words.stamp ≤ (version_at o (newest o)).words.stamp
newest_most now o i fits within =
    ⊎_elim
    (λ (older : i < newest o). let h = fits.ascend i (newest o) older (omega (arith, older, within)) in omega (arith, h))
    (λ (most : newest o ≤ i). let same : i ≡ newest o = omega (arith, most, within) in let e = ap (λ n. (version_at o n).words.stamp) same in omega (arith, e))
    (cases_lt i (newest o))

module _ (c : Core) (sound : Sound c) where
  pub none_over : (q n : ℕ) → IsOpen (c.seats q).current → NoneOver (c.seats q).place (c.seats q).task n
  none_over q n h = open_none (c.seats q).place (c.seats q).current (c.seats q).task n (sound.own q).ranges.current (sound.own q).task.fits h.0 h.1

  -- an open range holds its claims
  pub open_held : (q k : ℕ) → IsOpen (c.seats q).current → k < length (c.seats q).current.writes → (claim_at (c.seats q).current k).held ≡ true
  open_held q k h within = let z = (none_over q (length (c.seats q).current.writes) h).claims in (sound.own q).claims.held k within (omega (arith, z))

  -- an open range that overwrote a version which another has read
  pub overwriting : (q b k bound : ℕ) → IsOpen (c.seats q).current → (c.seats q).current.stamp < bound → k < length (c.seats b).current.reads →
      Overwrites (bare (c.seats q).current) (read_at (c.seats b).current k).version.oid (read_at (c.seats b).current k).stamp → Overwriting (c.seats q) (read_at (c.seats b).current k).version bound
  overwriting q b k bound h low within over =
      let x = c.seats q in
      let w = claim_place x.current over.0 over.1 in
      let oid : (claim_at x.current w.place).version.oid ≡ (read_at (c.seats b).current k).version.oid = ap (λ (v : VersionWritten). v.oid) w.is ∙ over.2 in
      let stamp : (claim_at x.current w.place).stamp ≡ (read_at (c.seats b).current k).stamp = ap (λ (v : VersionWritten). v.stamp) w.is ∙ over.3 in
      let m = stands_in x.current w.place w.within in (
        h.0,
        low,
        (
          claim_at x.current w.place,
          m,
          open_held q w.place h w.within,
          oid,
          claim_of_read c sound q b x.current (c.seats b).current (claim_at x.current w.place) (read_at (c.seats b).current k) (current_stands x) (current_stands (c.seats b)) m (∈-at (c.seats b).current.reads k no_read within) oid stamp,
        ),
      )

  -- an open range that has read a version which another overwrites
  pub reading : (q b k bound : ℕ) → IsOpen (c.seats q).current → (c.seats q).current.stamp < bound → k < length (c.seats b).current.writes →
      ((r : VersionRead) × (r ∈ map read_of (c.seats q).current.reads) × (r.oid ≡ (claim_at (c.seats b).current k).version.oid) × (r.stamp ≡ (claim_at (c.seats b).current k).stamp)) →
      Reading (c.seats q) (claim_at (c.seats b).current k).version bound
  reading q b k bound h low within has =
      let x = c.seats q in
      let r = read_place x.current has.0 has.1 in
      let z = (none_over q (length x.current.reads) h).bits in
      let oid : (read_at x.current r.place).version.oid ≡ (claim_at (c.seats b).current k).version.oid = ap (λ (v : VersionRead). v.oid) r.is ∙ has.2 in
      let stamp : (read_at x.current r.place).stamp ≡ (claim_at (c.seats b).current k).stamp = ap (λ (v : VersionRead). v.stamp) r.is ∙ has.3 in (
        h.0,
        low,
        (
          r.place,
          omega (arith, z),
          r.within,
          oid,
          sym (claim_of_read c sound b q (c.seats b).current x.current (claim_at (c.seats b).current k) (read_at x.current r.place) (current_stands (c.seats b)) (current_stands x) (stands_in (c.seats b).current k within)
              (∈-at x.current.reads r.place no_read r.within) (sym oid) (sym stamp)),
        ),
      )

  -- a version that an open range makes isn't read yet
  pub not_made : (q b : ℕ) (r : Read) → IsOpen (c.seats q).current → r ∈ (c.seats b).current.reads → r.stamp ≡ (c.seats q).current.stamp → Makes (bare (c.seats q).current) r.version.oid → ⊥
  not_made q b r h m stamp makes =
      let x = c.seats q in
      let w = claim_place x.current makes.0 makes.1 in
      let oid : (claim_at x.current w.place).version.oid ≡ r.version.oid = ap (λ (v : VersionWritten). v.oid) w.is ∙ makes.2 in
      let claim = claim_at x.current w.place in
      let fits = subst (λ n. ClaimFits q x.current.number x.current.begin (c.shared.objects n) claim) oid ((sound.own q).claims.fit w.place w.within (open_held q w.place h w.within)) in
      let read = (sound.own b).snapshot.reads (c.seats b).current r (current_stands (c.seats b)) m in
      let o = c.shared.objects r.version.oid in
      let most = newest_most c.shared.tail o r.version.place (sound.common.claims.objects r.version.oid read.named.object) read.named.within in
      let is = read.newest.stamp_is in
      let at : claim.stamp ≡ (version_at o (newest o)).words.stamp = fits.stamp ∙ ap (λ n. (version_at o n).words.stamp) fits.place in
      let first = fits.first in
      let begun = ((sound.own q).snapshot.past x.current (current_stands x)).drawn_later h.0 in
      omega (arith, most, is, at, first, begun, stamp)
