-- A safe snapshot of a session beside others as a transaction that reads: some array fits it, each of its reads is of one of the rows below its begin
-- stamp, and so is what reads in turn tell, in each world in which all may end.
use Rattle.std.proofs.Common.{◌≡◌, ℕ, ◌<◌, List, [], ◌∷◌, ◌++◌, inl, inr, ⊎_elim, refl, sym, ap, ◌∙◌, subst, arith}
use Rattle.erm_model.specs.declared.outcome.Phase.TheVariants.{Safe}
use Rattle.erm_model.specs.Member.{◌∈◌}
use Rattle.erm_model.specs.Rows.{Rows}
use Rattle.erm_model.specs.RowTransaction.{Does, Event, Face, IsPossible, Law, OnlyReads, Runs, SameLaw, Saw, TellsAll, did_claim, did_make, did_read, did_write}
use Rattle.erm_world.proofs.Lists.{∈-after}
use Rattle.erm_world.specs.Laws.{IsSerializable}
use Rattle.erm_world.specs.World.{Fate, Finished, Has, IsCurrent, Session, Stand, View, Work, phase_at, phase_of, work_at, work_of}
use Rattle.erm_world.specs.World as world
use Rattle.erm_beside.specs.Calls.{Passes}
use Rattle.erm_beside.specs.Later.{WentOn}
use Rattle.erm_beside.specs.Laws.{GoesOnward, IsWithin}
use Rattle.erm_beside.specs.Safe.{IsRowBelow}
use Rattle.erm_beside.specs.SafeFace.{AreRowsBelow, FindsRows, safe_beside_face}

-- THE STAMP. A session with a safe snapshot has its work in progress.
current_of : (stand : Stand) → phase_of stand ≡ Safe → IsCurrent stand (work_of stand)
current_of world.idle safe = absurd (cc)
current_of (world.active w) safe = absurd (cc)
current_of (world.sealed w stamp) safe = absurd (cc)
current_of (world.snapshot s) safe = refl

-- what has gone on since is there
went_there : (f : View) (seat : ℕ) (before more : List Finished) (w : Work) → (f.session seat).over ≡ before ++ more → (went : WentOn w more (f.session seat).stand) → Has f seat went.0
went_there f seat before more w over (u, extends, inl ended) =
    let last : Finished = record { work = u; fate = ended.0 } in
    inl (last, subst (λ (l : List Finished). last ∈ l) (sym over) (∈-after before more last ended.1), refl)
went_there f seat before more w over (u, extends, inr current) = inr current

begins_above : (law : Law) (v f : View) (seat : ℕ) → IsWithin seat v f → IsSerializable law f → phase_at v seat ≡ Safe → 0 < (work_at v seat).begin
begins_above law v f seat within holds safe =
    let w : Work = work_at v seat in
    let went = within.own.current w (current_of (v.session seat).stand safe) in
    let has : Has f seat went.0 = went_there f seat (v.session seat).over within.own.more w within.own.over went in
    let same = went.1.begin in
    omega (arith, holds.opened, (holds.begins seat went.0 within.session has).0, same)

-- two laws that say the same find the same rows
pub finds_same : (a b : Law) → SameLaw a b → ((v : View) → IsSerializable a v → IsSerializable b v) → FindsRows b → FindsRows a
finds_same a b same serial finds = record {
  rows = λ v bound holds above.
      let found = finds.rows v bound (serial v holds) above in
      (found.0, (same.meets found.0).1 found.1, found.2);
  one = λ v oid bound stamp other row other_row holds first second. finds.one v oid bound stamp other row other_row (serial v holds) first second;
}

-- THE FACE.
module _ {S : Type 0} (law : Law) (own : S → View) (seat : S → ℕ) (stands : S → Type 0) (ends : S → View → Type 0) (one : S → S → Type 0)
    (within : (s : S) (f : View) → ends s f → IsWithin (seat s) (own s) f) (some : (s : S) → stands s → (f : View) × ends s f) (lasting : (s : S) (f : View) → ends s f → IsSerializable law f) where
  abbrev pub snapshot_face : Face S
  snapshot_face = safe_beside_face law own seat stands ends one

  abbrev begin_of : S → ℕ
  begin_of s = (work_at (own s) (seat s)).begin

  pub possible : (s : S) → snapshot_face.active s → IsPossible snapshot_face s
  possible s active =
      let end = some s active.1 in
      let f : View = end.0 in
      let holds = lasting s f end.1 in
      let found = active.0.rows f (begin_of s) holds (begins_above law (own s) f (seat s) (within s f end.1) holds active.2) in
      (found.0, found.1, (f, end.1, found.2))

  -- the session passes on, as it is
  same_session : (s t : S) → seat t ≡ seat s → Passes (seat s) (own s) (own t) → (own t).session (seat t) ≡ (own s).session (seat s)
  same_session s t is passes = ap (λ (q : ℕ). (own t).session q) is ∙ passes.own

  same_begin : (s t : S) → seat t ≡ seat s → Passes (seat s) (own s) (own t) → begin_of t ≡ begin_of s
  same_begin s t is passes = ap (λ (x : Session). (work_of x.stand).begin) (same_session s t is passes)

  still_active : (s t : S) → stands t → seat t ≡ seat s → Passes (seat s) (own s) (own t) → snapshot_face.active s → snapshot_face.active t
  still_active s t standing is passes active = (active.0, standing, ap (λ (x : Session). phase_of x.stand) (same_session s t is passes) ∙ active.2)

  -- what was below in a world in which all may end later was so before
  back : (s t : S) → GoesOnward (seat s) (seat t) (ends s) (ends t) → Passes (seat s) (own s) (own t) → (begun : Rows) → snapshot_face.fits t begun → snapshot_face.fits s begun
  back s t onward passes begun (f, end, below) =
      (f, onward.ends_so f end, subst (λ (n : ℕ). AreRowsBelow f n begun) (same_begin s t onward.seat_is passes) below)

  pub does : (s t : S) (oid : ℕ) (row : List ℕ) → snapshot_face.active s → stands t → one s t → GoesOnward (seat s) (seat t) (ends s) (ends t) → Passes (seat s) (own s) (own t)
      → ((f : View) → ends t f → IsRowBelow f (begin_of s) oid row) → Does snapshot_face s (did_read oid row) t
  does s t oid row active standing same_one onward passes read =
      let then = still_active s t standing onward.seat_is passes active in
      record {
        step = record {
          answered = (onward, passes, read);
          fitted = λ begun fits. back s t onward passes begun fits;
          told = λ begun fits.
              let f : View = fits.0 in
              let newest = subst (λ (n : ℕ). AreRowsBelow f n begun) (same_begin s t onward.seat_is passes) fits.2 oid in
              let was = read f fits.1 in
              active.0.one f oid (begin_of s) newest.0 was.0 (begun oid) row (lasting t f fits.1) newest.1 was.1;
          seen = λ begun fits. refl;
          made = λ x. refl;
          once = λ x. omega arith;
          claims = λ x. (λ claimed. inl claimed, λ claimed. ⊎_elim (λ (before : ⊥). before) (λ (now : ⊥). now) claimed);
          reads = λ x. (λ read_so. inl tt, λ read_so. tt);
        };
        active = then;
        possible = possible t then;
        follows = (same_one, λ before. standing, onward, passes);
      }

  -- READS IN TURN. What fits at last fitted at first, and agrees with them.
  fitted_before : (es : List Event) (s t : S) → Runs snapshot_face s es t → (begun : Rows) → snapshot_face.fits t begun → snapshot_face.fits s begun
  fitted_before [] s t runs begun fits = subst (λ (x : S). snapshot_face.fits x begun) runs fits
  fitted_before (e ∷ es) s t (u, step, rest) begun fits = step.fitted begun (fitted_before es u t rest begun fits)

  agrees : (es : List Event) (s t : S) → OnlyReads es → Runs snapshot_face s es t → (begun : Rows) → snapshot_face.fits t begun → TellsAll law es begun begun
  agrees [] s t only runs begun fits = tt
  agrees (did_read oid row ∷ es) s t only (u, step, rest) begun fits = (step.told begun (fitted_before es u t rest begun fits), agrees es u t only rest begun fits)
  agrees (did_claim oid ∷ es) s t only runs begun fits = absurd only
  agrees (did_write oid row ∷ es) s t only runs begun fits = absurd only
  agrees (did_make oid ∷ es) s t only runs begun fits = absurd only

  -- what several calls saw is so of the rows below the begin stamp, in each world in which all may end
  pub saw_below : (s t : S) (fact : Rows → Type 0) → Saw snapshot_face s t fact → (f : View) → ends t f → (rows : Rows) → law.meets rows → AreRowsBelow f (begin_of s) rows → fact rows
  saw_below s t fact saw f end rows meets below =
      let passes = saw.follows.3 in
      let onward = saw.follows.2 in
      let fits : snapshot_face.fits t rows = (f, end, subst (λ (n : ℕ). AreRowsBelow f n rows) (sym (same_begin s t onward.seat_is passes)) below) in
      saw.saw rows meets (agrees saw.events s t saw.reads saw.goes_on.runs rows fits)
