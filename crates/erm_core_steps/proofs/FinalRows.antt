-- An object's newest version is the one that all commits leave.
use Rattle.std.proofs.Common.{◌≡◌, ℕ, zero, suc, ◌+◌, ◌<◌, ⊎_elim, Bool, true, false, length, refl, sym, ap, ◌∙◌, subst, inl, inr, arith}
use Rattle.erm_model.specs.declared.history.TransactionRecord.{TransactionRecord}
use Rattle.erm_model.specs.History.{History, IsVersion}
use Rattle.erm_model.specs.Member.{◌∈◌}
use Rattle.erm_model.specs.RowTransaction.{Law}
use Rattle.erm_model.proofs.Members.{∈-push}
use Rattle.erm_machine.specs.declared.attempt.Attempt.{Attempt}
use Rattle.erm_machine.specs.declared.attempt.Claim.{Claim}
use Rattle.erm_machine.specs.declared.limits.TheConstants.{OBJECT_LIMIT}
use Rattle.erm_machine.specs.Claims.{ObjectFits}
use Rattle.erm_machine.specs.Core.{Core, Object, newest, version_at}
use Rattle.erm_machine.specs.Decided as machine
use Rattle.erm_machine.specs.Decided.{written_of}
use Rattle.erm_machine.specs.Facts.{all_of}
use Rattle.erm_machine.specs.Lawful.{opening_rows}
use Rattle.erm_machine.specs.Sound.{Sound}
use Rattle.erm_machine.proofs.Histories.{in_history}
use Rattle.erm_machine.proofs.Holders.{stands_at}
use Rattle.erm_machine.proofs.Listed.{∈-map_from}
use Rattle.erm_world.specs.Laws.{IsSerializable}
use Rattle.erm_world.specs.World.{View, history_of}
use Rattle.erm_world.specs.World as world
use Rattle.erm_world.proofs.Commits.{tells_commits}
use Rattle.erm_core_ssn.specs.Laws.{AllBelow}
use Rattle.erm_core_view.specs.Views.{IsQuiet, view_of}
use Rattle.erm_core_view.proofs.Commits.{has_the_history}
use Rattle.erm_core_steps.specs.Pinned.{IsNewestRow}
use Rattle.erm_core_steps.proofs.Newest.{newest_shown}

-- commits are below the end of the log
pub commits_below : (law : Law) (v : View) → IsSerializable law v → AllBelow v.tail (history_of v)
commits_below law v lawful t m =
    let is = (tells_commits v).only t m in
    let stamps = lawful.stamps is.seat is.work is.stamp is.session (inl (record { work = is.work; fate = world.commits is.stamp is.succ is.pred }, is.over, refl, refl)) in
    let high = stamps.1 in
    let same : t.stamp ≡ is.stamp = ap (λ (u : TransactionRecord). u.stamp) is.is in
    omega (arith, same, high)

module _ (c : Core) (sound : Sound c) where
  -- a claim of a commit on a version that isn't the newest has installed the next
  not_held : (q : ℕ) (t : Attempt) (w : Claim) → t ∈ all_of (c.seats q) → w ∈ t.writes → w.version.place + 1 < length (c.shared.objects w.version.oid).versions → w.held ≡ false
  not_held q t w stands writes next = by_held w.held refl
    where
      by_held : (b : Bool) → w.held ≡ b → w.held ≡ false
      by_held false over = over
      by_held true held =
          ⊎_elim
          (λ (before : t ∈ (c.seats q).over). absurd (let none = (sound.own q).marks.over t w before writes in cc))
          (λ (now : t ≡ (c.seats q).current).
          let at = stands_at (c.seats q).current w (subst (λ (u : Attempt). w ∈ u.writes) now writes) in
          let fit = (sound.own q).claims.fit at.place at.within (ap (λ (v : Claim). v.held) at.is ∙ held) in
          let place : w.version.place ≡ newest (c.shared.objects w.version.oid) = subst (λ (v : Claim). v.version.place ≡ newest (c.shared.objects v.version.oid)) at.is fit.place in
          absurd (omega (arith, place, next)))
          (∈-push (c.seats q).over (c.seats q).current t stands)

  -- a version is the opening's, or a commit made it with its row
  version_shown : (oid place : ℕ) → oid < OBJECT_LIMIT → place < length (c.shared.objects oid).versions
      → IsVersion (machine.history_of c.seats) (opening_rows c.shared) oid (version_at (c.shared.objects oid) place).words.stamp (version_at (c.shared.objects oid) place).words.row
  version_shown oid zero known within = inl (sound.common.marks.opened oid known, refl)
  version_shown oid (suc place) known within =
      let same : place + 1 ≡ suc place = omega arith in
      let next : place + 1 < length (c.shared.objects oid).versions = omega (arith, within) in
      let made = sound.common.marks.made oid place known next in
      let q = made.0 in
      let t = made.1 in
      let w = made.2 in
      let at : w.version.place ≡ place = made.9 in
      let there : w.version.place + 1 < length (c.shared.objects w.version.oid).versions =
      subst (λ n. w.version.place + 1 < length (c.shared.objects n).versions) (sym made.8) (omega (arith, at, next))
      in
      let row : (version_at (c.shared.objects oid) (place + 1)).words.row ≡ w.row =
      subst (λ n. (version_at (c.shared.objects oid) (n + 1)).words.row ≡ w.row) at
      (subst (λ n. (version_at (c.shared.objects n) (w.version.place + 1)).words.row ≡ w.row) made.8
      ((sound.own q).written.installed t w made.3 made.4 made.7 (not_held q t w made.3 made.7 there)))
      in
      subst (λ n. IsVersion (machine.history_of c.seats) (opening_rows c.shared) oid (version_at (c.shared.objects oid) n).words.stamp (version_at (c.shared.objects oid) n).words.row) same
      (inr (machine.record_of q t, written_of w, in_history c.seats q t (sound.common.decided.seats_of q t made.3 made.4) made.3 made.4, made.5, ∈-map_from written_of t.writes w made.7, made.8, sym row))

-- the row of the newest version
pub final_row : (sessions oid : ℕ) (c : Core) → Sound c → IsQuiet sessions c → oid < OBJECT_LIMIT
    → IsNewestRow (view_of sessions c) oid (version_at (c.shared.objects oid) (newest (c.shared.objects oid))).words.row (view_of sessions c).tail
final_row sessions oid c sound quiet known =
    let o : Object = c.shared.objects oid in
    let fits : ObjectFits c.shared.tail o = sound.common.claims.objects oid known in
    let within : newest o < length o.versions = (let some = fits.some in omega (arith, some)) in
    record {
      stamp = (version_at o (newest o)).words.stamp;
      newest = record {
        version =
            subst (λ (h : History). IsVersion h (opening_rows c.shared) oid (version_at o (newest o)).words.stamp (version_at o (newest o)).words.row) (sym (has_the_history sessions c sound quiet))
            (version_shown c sound oid (newest o) known within);
        below = fits.below (newest o) within;
        newest = λ u committed makes low. newest_shown sessions oid (newest o) c sound refl u committed makes;
      };
    }
