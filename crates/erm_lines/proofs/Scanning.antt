-- A scan as a walk of looks for the next key.
use Rattle.std.proofs.Common.{◌≡◌, ℕ, ◌+◌, ◌^◌, ◌<◌, ◌≤◌, max, List, [], ◌∷◌, ◌++◌, Option, Some, None, arith}
use Rattle.erm_model.specs.declared.row_stop.RowStop.{RowStop}
use Rattle.erm_model.specs.Database.{AreFound, IsNextAt, value_at}
use Rattle.erm_model.specs.Rows.{Rows}
use Rattle.erm_model.specs.RowTransaction.{Face, IsLawful, IsStopped}
use Rattle.erm_node.specs.TreeMap.{map_of_rows}
use Rattle.erm_tree.specs.Calls.{AsksReads, IsReady, Reads, SawIn}
use Rattle.erm_tree.specs.Reads.{IsMetIn}
use Rattle.erm_tree.specs.Walk.{IsMetByNext, last_sought}
use Rattle.erm_tree.proofs.Calls.{IsStopped-both, SawIn-both, SawIn-possible, SawIn-ready, SawIn-start, SawIn-weaker}
use Rattle.erm_tree.proofs.Meetings.{IsMetIn-wider}
use Rattle.erm_lines.specs.Operations.{IsMetByScan}
use Rattle.erm_lines.proofs.Found.{AreFoundBelow, found_all, found_more, found_none, next_from, no_further}

-- a scan has found all up to below this key
pub record Scans {S : Type 0} (face : Face S) (s t : S) (table low high from : ℕ) (found : List (ℕ × List ℕ)) : Type 0 where
  pub above : low ≤ from
  pub top : from ≤ max low (high + 1)
  pub seen : SawIn face (IsMetByScan table low high) s t (λ rows. AreFoundBelow (map_of_rows rows) table low from found)

-- a look for the next key found this
abbrev pub Looks : {S : Type 0} → Face S → ℕ → ℕ → S → S → Option (ℕ × List ℕ) → Type 0
Looks {S} face table from t u next = SawIn face (λ rows x. IsMetIn rows table from (last_sought (2 ^ 64) next) x) t u (λ rows. IsNextAt (map_of_rows rows) table from next)

-- a scan found these
abbrev pub Scanned : {S : Type 0} → Face S → ℕ → ℕ → ℕ → S → S → List (ℕ × List ℕ) → Type 0
Scanned {S} face table low high s t found = SawIn face (IsMetByScan table low high) s t (λ rows. AreFound (map_of_rows rows) table low high found)

-- what a look from some key in the range on meets, the scan meets
met_by : (rows : Rows) (table low high from : ℕ) (next : Option (ℕ × List ℕ)) (x : ℕ) → low < 2 ^ 64 → high < 2 ^ 64 → low ≤ from → from ≤ max low (high + 1) → IsNextAt (map_of_rows rows) table from next
    → IsMetIn rows table from (last_sought (2 ^ 64) next) x → IsMetByScan table low high rows x
met_by rows table low high from next x small few above top is on =
    let (later, then_is) = next_from (map_of_rows rows) table (max low (high + 1)) (omega (arith, small, few)) in
    (later, then_is, IsMetIn-wider rows table from (last_sought (2 ^ 64) next) low (last_sought (2 ^ 64) later) x above (no_further (map_of_rows rows) table from (max low (high + 1)) next later top is then_is) on)

module _ {S : Type 0} (face : Face S) (goes_on : (a b c : S) → face.follows a b → face.follows b c → face.follows a c) (table low high : ℕ) (small : low < 2 ^ 64) (few : high < 2 ^ 64) where
  abbrev ByScan : Rows → ℕ → Type 0
  ByScan = IsMetByScan table low high

  abbrev ByNext : ℕ → Option (ℕ × List ℕ) → Rows → ℕ → Type 0
  ByNext from next rows x = IsMetIn rows table from (last_sought (2 ^ 64) next) x

  abbrev Below : ℕ → List (ℕ × List ℕ) → Rows → Type 0
  Below from found rows = AreFoundBelow (map_of_rows rows) table low from found

  abbrev Next : ℕ → Option (ℕ × List ℕ) → Rows → Type 0
  Next from next rows = IsNextAt (map_of_rows rows) table from next

  abbrev Whole : List (ℕ × List ℕ) → Rows → Type 0
  Whole found rows = AreFound (map_of_rows rows) table low high found

  -- it begins
  pub scan_start : (s : S) → IsReady face s → face.follows s s → Scans face s s table low high low []
  scan_start s ready stands = record {
    above = omega arith;
    top = omega arith;
    seen = SawIn-start face goes_on ByScan s (Below low []) ready stands (λ array meets. found_none (map_of_rows array) table low low (omega arith));
  }

  -- the transaction may be called on
  pub scan_ready : (s t : S) (from : ℕ) (found : List (ℕ × List ℕ)) → IsLawful face s → Scans face s t table low high from found → IsReady face t
  scan_ready s t from found lawful scans = SawIn-ready face goes_on ByScan s t (Below from found) lawful scans.seen

  module _ (s t u : S) (from : ℕ) (found : List (ℕ × List ℕ)) (scans : Scans face s t table low high from found) where
    both : (next : Option (ℕ × List ℕ)) → SawIn face (ByNext from next) t u (Next from next) → SawIn face ByScan s u (λ rows. Below from found rows × Next from next rows)
    both next look =
        SawIn-both face goes_on ByScan (ByNext from next) ByScan s t u (Below from found) (Next from next) scans.seen look
        (λ array meets is then_is x on. on)
        (λ array meets is then_is x on. met_by array table low high from next x small few scans.above scans.top then_is on)

    -- it found one more
    pub scan_more : (pair : ℕ × List ℕ) → IsLawful face s → SawIn face (ByNext from (Some pair)) t u (Next from (Some pair)) → pair.0 ≤ high
        → Scans face s u table low high (pair.0 + 1) (found ++ pair ∷ []) × (from ≤ pair.0)
    scan_more pair lawful look under =
        let seen = both (Some pair) look in
        let (array, meets, is) = SawIn-possible face goes_on ByScan s u (λ rows. Below from found rows × Next from (Some pair) rows) lawful seen in
        let more : from ≤ pair.0 = is.1.0 in
        let above = scans.above in (
          record {
            above = omega arith;
            top = omega (arith, under);
            seen = SawIn-weaker face goes_on ByScan ByScan s u (λ rows. Below from found rows × Next from (Some pair) rows) (Below (pair.0 + 1) (found ++ pair ∷ []))
                (λ array meets is. found_more (map_of_rows array) table low from found pair scans.above is.0 is.1) (λ array meets is x on. on) seen;
          },
          more,
        )

    -- it found all
    ends : (next : Option (ℕ × List ℕ)) → ((rows : Rows) → Next from next rows → (k : ℕ) → from ≤ k → k ≤ high → k < 2 ^ 64 → value_at (map_of_rows rows) table k ≡ None)
        → SawIn face (ByNext from next) t u (Next from next) → SawIn face ByScan s u (Whole found)
    ends next none look =
        SawIn-weaker face goes_on ByScan ByScan s u (λ rows. Below from found rows × Next from next rows) (Whole found)
        (λ array meets is. found_all (map_of_rows array) table low from high found scans.top (none array is.1) is.0) (λ array meets is x on. on) (both next look)

    pub scan_last : SawIn face (ByNext from None) t u (Next from None) → SawIn face ByScan s u (Whole found)
    scan_last look = ends None (λ rows is k over under small. is k over small) look

    pub scan_beyond : (pair : ℕ × List ℕ) → high < pair.0 → SawIn face (ByNext from (Some pair)) t u (Next from (Some pair)) → SawIn face ByScan s u (Whole found)
    scan_beyond pair beyond look = ends (Some pair) (λ rows is k over under small. is.3 k over (omega arith)) look

    -- a look was cut off
    pub scan_stopped : (may : RowStop → Type 0) (stop : RowStop) → IsStopped face may (Reads face.law (IsMetByNext table from)) (AsksReads (IsMetByNext table from)) t stop u
        → IsStopped face may (Reads face.law ByScan) (AsksReads ByScan) s stop u
    scan_stopped may stop stopped =
        IsStopped-both face goes_on ByScan (IsMetByNext table from) ByScan may s t u stop (Below from found) scans.seen stopped
        (λ array meets is x on. on)
        (λ array meets is x on. met_by array table low high from on.0 x small few scans.above scans.top on.1 on.2)

  -- it found the greatest key that there may be
  pub scan_whole : (s t : S) (from : ℕ) (found : List (ℕ × List ℕ)) → from ≡ high + 1 → Scans face s t table low high from found → SawIn face ByScan s t (Whole found)
  scan_whole s t from found end scans =
      SawIn-weaker face goes_on ByScan ByScan s t (Below from found) (Whole found)
      (λ array meets is. found_all (map_of_rows array) table low from high found scans.top (λ k over under small. absurd (omega arith)) is) (λ array meets is x on. on) scans.seen
