-- The newest rows below a transaction's begin stamp fit it.
use Rattle.std.proofs.Common.{◌≡◌, ℕ, ◌+◌, ◌<◌, ◌≤◌, ◌⊎◌, ⊎_elim, List, inl, inr, refl, sym, ap, ◌∙◌, subst, arith}
use Rattle.std.proofs.lemmas.List.Sorted.{IsPermutation-sym, sum_by-IsPermutation}
use Rattle.erm_model.specs.declared.history.TransactionRecord.{TransactionRecord}
use Rattle.erm_model.specs.declared.history.VersionRead.{VersionRead}
use Rattle.erm_model.specs.declared.history.VersionWritten.{VersionWritten}
use Rattle.erm_model.specs.History.{History, IsNewestBelow, IsSnapshot, below, rows_after}
use Rattle.erm_model.specs.Lawful.{times_made}
use Rattle.erm_model.specs.Member.{◌∈◌}
use Rattle.erm_model.specs.RowTransaction.{Law}
use Rattle.erm_model.specs.Rows.{Rows}
use Rattle.erm_model.proofs.Members.{none_in_nil, ∈-push}
use Rattle.erm_machine.specs.declared.attempt.Attempt.{Attempt}
use Rattle.erm_machine.specs.declared.attempt.Claim.{Claim}
use Rattle.erm_machine.specs.declared.attempt.Read.{Read}
use Rattle.erm_machine.specs.declared.place.Place.{Place}
use Rattle.erm_machine.specs.declared.place.Place.TheVariants.{Vacant, Idle, Begun, Announced}
use Rattle.erm_machine.specs.Core.{Core, blank}
use Rattle.erm_machine.specs.Decided.{history_of, read_of, written_of}
use Rattle.erm_machine.specs.Facts.{IsCurrent, all_of}
use Rattle.erm_machine.specs.Lawful.{opening_rows}
use Rattle.erm_machine.specs.Lives.{in_progress}
use Rattle.erm_machine.proofs.Listed.{∈-map}
use Rattle.erm_core_ssn.specs.Laws.{KeepsLaw, made_in_history}
use Rattle.erm_core_ssn.proofs.Members.{∈-permutation}
use Rattle.erm_core_ssn.proofs.Prefixes.{in_below, version_below}
use Rattle.erm_core_ssn.proofs.Turns.{AreNew, IsKept, RunsBelow, turns}
use Rattle.erm_core_view.specs.Views.{work_of}
use Rattle.erm_log_list.proofs.Meets.{FoundVersions, keeps_law}
use Rattle.erm_sound.specs.Kept.{SoundUnder}
use Rattle.erm_world.specs.Laws.{FitsWork}
use Rattle.erm_core_possible.proofs.Beside.{made_beside, opening_unreached}

-- a transaction that has a begin stamp above 0, or is none
begun_or_blank : (pl : Place) (t : Attempt) → IsCurrent pl t → (in_progress pl ≡ 1) ⊎ (t ≡ blank)
begun_or_blank Vacant t cur = inr cur
begun_or_blank Idle t cur = inr cur
begun_or_blank (Begun tail) t cur = inr cur
begun_or_blank (Announced tail) t cur = inr cur
begun_or_blank pl t cur = inl refl

-- what the transaction read
abbrev pub FoundReads : Core → Type 0
FoundReads c = (seat : ℕ) (t : Attempt) (r : Read) → t ∈ all_of (c.seats seat) → r ∈ t.reads
    → IsNewestBelow (history_of c.seats) (opening_rows c.shared) r.version.oid t.begin r.stamp r.row

module _ (law : Law) (c : Core) (under : SoundUnder law c) (found : FoundVersions c) (read : FoundReads c) (q : ℕ) (t : Attempt) (m : t ∈ all_of (c.seats q)) where
  pub begins : (0 < t.begin) ⊎ (t ≡ blank)
  begins =
      let x = c.seats q in
      let lives = (under.sound.own q).lives in
      let some = under.sound.common.ranges.positive in
      ⊎_elim
      (λ (over : t ∈ x.over). inl (let up = lives.opened t over in omega (arith, up, some)))
      (λ (now : t ≡ x.current).
      ⊎_elim
      (λ (going : in_progress x.place ≡ 1). inl (let up = lives.opened_now going in let same = ap (λ (u : Attempt). u.begin) now in omega (arith, up, same, some)))
      (λ (none : x.current ≡ blank). inr (now ∙ none))
      (begun_or_blank x.place x.current (under.sound.own q).ranges.current))
      (∈-push x.over x.current t m)

  -- one that hasn't begun fits the opening's rows
  fits_opening : t ≡ blank → FitsWork law (work_of t) (opening_rows c.shared)
  fits_opening none =
      subst (λ (u : Attempt). FitsWork law (work_of u) (opening_rows c.shared)) (sym none)
      (record {
        meets = under.lawful.opening;
        reads = λ r of_r. absurd (none_in_nil r of_r);
        claims = λ w of_w. absurd (none_in_nil w of_w);
        unreached = λ x made. absurd (omega (arith, made));
      })

  pub possible_blank : t ≡ blank → (rows : Rows) × law.meets rows × FitsWork law (work_of t) rows
  possible_blank none = (opening_rows c.shared, under.lawful.opening, fits_opening none)

  -- the rows that the commits below the begin stamp leave
  module _ (snapshot : IsSnapshot (history_of c.seats) (opening_rows c.shared)) (order : History) (runs : RunsBelow (history_of c.seats) (opening_rows c.shared) t.begin order)
      (one : (oid stamp other_stamp : ℕ) (row other : List ℕ) → IsNewestBelow (history_of c.seats) (opening_rows c.shared) oid t.begin stamp row →
      IsNewestBelow (history_of c.seats) (opening_rows c.shared) oid t.begin other_stamp other → row ≡ other) where
    keeps : KeepsLaw law (history_of c.seats) (opening_rows c.shared)
    keeps = keeps_law law c under found

    kept : (u : TransactionRecord) → u ∈ order → IsKept law (below t.begin (history_of c.seats)) (opening_rows c.shared) u
    kept u of_u =
        let h = history_of c.seats in
        let there = in_below h t.begin u (∈-permutation u order (below t.begin h) (IsPermutation-sym (below t.begin h) order runs.serial.same) of_u) in
        record {
          lawful = keeps.lawful u there.0;
          bases = λ w of_w.
              let first = ((snapshot u there.0).writes w of_w).first in
              let sealed = (snapshot u there.0).sealed in
              let low = there.1 in
              version_below h t.begin (opening_rows c.shared) w.oid w.stamp w.base (keeps.bases u w there.0 of_w) (omega (arith, first, sealed, low));
        }

    new : AreNew law (times_made t.made) order (opening_rows c.shared)
    new x made =
        let h = history_of c.seats in
        let same : made_in_history order x ≡ made_in_history (below t.begin h) x = sum_by-IsPermutation (λ (u : TransactionRecord). times_made u.made x) (below t.begin h) order runs.serial.same in
        let once = made_beside law c under q t m x in
        let unreached = opening_unreached law c under q t m x (omega (arith, made, same)) in
        omega (arith, same, once, unreached)

    left : Rows
    left = rows_after order (opening_rows c.shared)

    newest_read : (r : Read) → r ∈ t.reads → left r.version.oid ≡ r.row
    unfolding left
    newest_read r of_r =
        let there = runs.newest r.version.oid in
        one r.version.oid there.0 r.stamp (rows_after order (opening_rows c.shared) r.version.oid) r.row there.1 (read q t r m of_r)

    newest_found : (w : Claim) → w ∈ t.writes → left w.version.oid ≡ w.base
    unfolding left
    newest_found w of_w =
        let there = runs.newest w.version.oid in
        one w.version.oid there.0 w.stamp (rows_after order (opening_rows c.shared) w.version.oid) w.base there.1 (found q t w m of_w)

    fits_newest : FitsWork law (work_of t) left
    unfolding left
    fits_newest =
        let all = turns law (below t.begin (history_of c.seats)) (opening_rows c.shared) runs.one_row (times_made t.made) order (opening_rows c.shared) runs.run kept keeps.meets new in
        record {
          meets = all.1;
          reads = λ r of_r. let from = ∈-map read_of t.reads r of_r in subst (λ (v : VersionRead). left v.oid ≡ v.row) from.2 (newest_read from.0 from.1);
          claims = λ w of_w. let from = ∈-map written_of t.writes w of_w in subst (λ (v : VersionWritten). left v.oid ≡ v.base) from.2 (newest_found from.0 from.1);
          unreached = λ x made.
              let last : law.reach (rows_after order (opening_rows c.shared)) x + (0 + times_made t.made x) ≤ 1 = all.2 x (omega (arith, made)) in
              omega (arith, made, last);
        }

    pub possible_newest : (rows : Rows) × law.meets rows × FitsWork law (work_of t) rows
    possible_newest = let fits = fits_newest in (left, fits.meets, fits)
