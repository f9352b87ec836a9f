-- The running numbers of a transaction without a stamp.
use Rattle.std.proofs.Common.{◌≡◌, ℕ, ◌<◌, ◌≤◌, ◌⊎◌, ⊎_elim, Bool, true, false, cond, not, is_none, ltb, filter, List, length, get_or, map, sym, ap, ◌∙◌, subst, inl, inr, arith}
use Rattle.std.proofs.lemmas.Option.{slice_get-get_or, slice_get_within, get_or_from_slice_get}
use Rattle.erm_model.specs.declared.history.TransactionRecord.{TransactionRecord}
use Rattle.erm_model.specs.declared.history.VersionRead.{VersionRead}
use Rattle.erm_model.specs.declared.history.VersionWritten.{VersionWritten}
use Rattle.erm_model.specs.History.{History, Makes, OverwritesReadOf, ReadsFrom, OverwritesFrom}
use Rattle.erm_model.specs.Member.{◌∈◌}
use Rattle.erm_machine.specs.declared.attempt.Attempt.{Attempt}
use Rattle.erm_machine.specs.declared.attempt.Claim.{Claim}
use Rattle.erm_machine.specs.declared.attempt.Read.{Read}
use Rattle.erm_machine.specs.declared.part.Part.{Part}
use Rattle.erm_machine.specs.Core.{claim_at, no_claim}
use Rattle.erm_machine.specs.Decided.{bare, written_of, record_of, bound_of, counted, writes_rated, RunningFits}
use Rattle.erm_machine.specs.Seat.{read_at, no_read}
use Rattle.erm_machine.proofs.Listed.{∈-filter, ∈-filter_from, ∈-map, ∈-map_from}

-- a claim with a cell
abbrev pub has_cell : Claim → Bool
has_cell w = not (is_none w.own)

-- a commit made a version that a claim with a cell overwrites, or has read it
abbrev pub ClaimFrom : Attempt → TransactionRecord → Type 0
ClaimFrom t u = (k : ℕ) × (k < length t.writes) × (has_cell (claim_at t k) ≡ true) × ((claim_at t k).stamp ≡ u.stamp) × Makes u (claim_at t k).version.oid

abbrev pub ClaimRead : Attempt → TransactionRecord → Type 0
ClaimRead t u = (k : ℕ) × (k < length t.writes) × (has_cell (claim_at t k) ≡ true)
    × ((r : VersionRead) × (r ∈ u.reads) × (r.oid ≡ (claim_at t k).version.oid) × (r.stamp ≡ (claim_at t k).stamp))

-- the running numbers before a stamp is drawn
pub record ActiveFits (h : History) (now : ℕ) (t : Attempt) : Type 0 where
  pub succ : (t.succ ≡ 0) ⊎ ((u : TransactionRecord) × (u ∈ h) × (u.stamp < now) × OverwritesReadOf u (bare t) × (t.succ ≡ u.succ))
  pub reads : (k : ℕ) → k < length t.reads → (read_at t k).stamp ≤ t.pred
  pub pred : (t.pred ≡ 0) ⊎ ((u : TransactionRecord) × (u ∈ h) × (u.stamp < now) × (t.pred ≡ u.stamp) × (ReadsFrom (bare t) u ⊎ ClaimFrom t u ⊎ ClaimRead t u))

no_stamp : (t : Attempt) → t.stamp ≡ 0 → ltb 0 t.stamp ≡ false
no_stamp t e = ap (λ n. ltb 0 n) e

bound_now : (now : ℕ) (t : Attempt) → t.stamp ≡ 0 → bound_of now t ≡ now
bound_now now t e = ap (λ b. cond b t.stamp now) (no_stamp t e)

-- the claims that count
counts_now : (t : Attempt) → t.stamp ≡ 0 → counted t ≡ record t { writes = filter has_cell t.writes }
counts_now t e = ap (λ b. record t { writes = cond b t.writes (filter has_cell t.writes) }) (no_stamp t e)

claim_in : (t : Attempt) (v : VersionWritten) → v ∈ map written_of (filter has_cell t.writes) → (k : ℕ) × (k < length t.writes) × (has_cell (claim_at t k) ≡ true) × (written_of (claim_at t k) ≡ v)
claim_in t v m =
    let w = ∈-map written_of (filter has_cell t.writes) v m in
    let f = ∈-filter has_cell w.0 t.writes w.1 in
    let k = f.0.0 in
    let is : claim_at t k ≡ w.0 = get_or_from_slice_get t.writes k w.0 no_claim f.0.1 in
    (k, slice_get_within t.writes k w.0 f.0.1, ap has_cell is ∙ f.1, ap written_of is ∙ w.2)

in_claims : (t : Attempt) (k : ℕ) → k < length t.writes → has_cell (claim_at t k) ≡ true → written_of (claim_at t k) ∈ map written_of (filter has_cell t.writes)
in_claims t k within has = ∈-map_from written_of (filter has_cell t.writes) (claim_at t k) (∈-filter_from has_cell (claim_at t k) t.writes (k, slice_get-get_or t.writes k no_claim within) has)

-- what counts, by claims with cells
abbrev pub Counts : TransactionRecord → TransactionRecord → Type 0
Counts t u = ReadsFrom t u ⊎ OverwritesFrom t u ⊎ OverwritesReadOf t u

counts_from : (q : ℕ) (t : Attempt) (u : TransactionRecord) → Counts (record_of q (record t { writes = filter has_cell t.writes })) u → ReadsFrom (bare t) u ⊎ ClaimFrom t u ⊎ ClaimRead t u
counts_from q t u h =
    ⊎_elim
    (λ (r : ReadsFrom (record_of q (record t { writes = filter has_cell t.writes })) u). inl r)
    (λ rest. inr (⊎_elim
    (λ (o : OverwritesFrom (record_of q (record t { writes = filter has_cell t.writes })) u).
    let w = claim_in t o.0 o.1 in
    inl (w.0, w.1, w.2, ap (λ (v : VersionWritten). v.stamp) w.3 ∙ o.2, (o.3.0, o.3.1, o.3.2 ∙ sym (ap (λ (v : VersionWritten). v.oid) w.3))))
    (λ (o : OverwritesReadOf (record_of q (record t { writes = filter has_cell t.writes })) u).
    let w = claim_in t o.2.0 o.2.1 in
    inr (w.0, w.1, w.2, (o.0, o.1, sym o.2.2 ∙ sym (ap (λ (v : VersionWritten). v.oid) w.3), sym o.2.3 ∙ sym (ap (λ (v : VersionWritten). v.stamp) w.3))))
    rest))
    h

counts_to : (q : ℕ) (t : Attempt) (u : TransactionRecord) → ReadsFrom (bare t) u ⊎ ClaimFrom t u ⊎ ClaimRead t u → Counts (record_of q (record t { writes = filter has_cell t.writes })) u
counts_to q t u h =
    ⊎_elim
    (λ (r : ReadsFrom (bare t) u). inl r)
    (λ rest. inr (⊎_elim
    (λ (o : ClaimFrom t u). inl (written_of (claim_at t o.0), in_claims t o.0 o.1 o.2, o.3, o.4))
    (λ (o : ClaimRead t u). inr (o.3.0, o.3.1, (written_of (claim_at t o.0), in_claims t o.0 o.1 o.2, sym o.3.2, sym o.3.3)))
    rest))
    h

pub active_from : (h : History) (now q : ℕ) (x : Part) → x.current.stamp ≡ 0 → RunningFits h now q x → ActiveFits h now x.current
active_from h now q x e f = record {
  succ = ⊎_elim (λ own. inl (own ∙ e)) (λ each. inr (each.0, each.1, subst (λ n. each.0.stamp < n) (bound_now now x.current e) each.2, each.3, each.4)) f.succ_attained;
  reads = f.pred_reads;
  pred = ⊎_elim (λ none. inl none)
      (λ each. inr (
        each.0,
        each.1,
        subst (λ n. each.0.stamp < n) (bound_now now x.current e) each.2,
        each.3,
        counts_from q x.current each.0 (subst (λ (t : Attempt). Counts (record_of q t) each.0) (counts_now x.current e) each.4),
      ))
      f.pred_attained;
}

pub active_to : (h : History) (now q : ℕ) (x : Part) → x.current.stamp ≡ 0 → writes_rated x.task (length x.current.writes) ≡ 0 → ActiveFits h now x.current → RunningFits h now q x
active_to h now q x e unrated f = record {
  succ_least = λ u m low _. absurd (omega (arith, low, e));
  succ_own = λ positive. absurd (omega (arith, positive, e));
  succ_attained = ⊎_elim (λ own. inl (own ∙ sym e)) (λ each. inr (each.0, each.1, subst (λ n. each.0.stamp < n) (sym (bound_now now x.current e)) each.2, each.3, each.4)) f.succ;
  pred_readers = λ u m low _. absurd (omega (arith, low, e));
  pred_reads = f.reads;
  pred_writes = λ k low _. absurd (omega (arith, low, unrated));
  pred_attained = ⊎_elim (λ none. inl none)
      (λ each. inr (
        each.0,
        each.1,
        subst (λ n. each.0.stamp < n) (sym (bound_now now x.current e)) each.2,
        each.3,
        subst (λ (t : Attempt). Counts (record_of q t) each.0) (sym (counts_now x.current e)) (counts_to q x.current each.0 each.4),
      ))
      f.pred;
}

-- each claim with a cell is one of these, on the same version
pub record Claims (t u : Attempt) : Type 0 where
  pub at : (k : ℕ) → k < length t.writes → has_cell (claim_at t k) ≡ true
      → (j : ℕ) × (j < length u.writes) × (has_cell (claim_at u j) ≡ true) × ((claim_at u j).version.oid ≡ (claim_at t k).version.oid) × ((claim_at u j).stamp ≡ (claim_at t k).stamp)

-- the reads are the same, and the claims with cells stand
pub active_moves : (h : History) (now : ℕ) (t u : Attempt) → u.succ ≡ t.succ → u.pred ≡ t.pred → u.reads ≡ t.reads → Claims t u → ActiveFits h now t → ActiveFits h now u
active_moves h now t u succ pred reads claims f = record {
  succ = ⊎_elim (λ none. inl (succ ∙ none))
      (λ each. inr (each.0, each.1, each.2, subst (λ (rs : List Read). OverwritesReadOf each.0 (bare (record t { reads = rs }))) (sym reads) each.3, succ ∙ each.4)) f.succ;
  reads = λ k within.
      subst (λ n. (get_or u.reads k no_read).stamp ≤ n) (sym pred)
      (subst (λ (rs : List Read). (get_or rs k no_read).stamp ≤ t.pred) (sym reads) (f.reads k (subst (λ (rs : List Read). k < length rs) reads within)));
  pred = ⊎_elim (λ none. inl (pred ∙ none))
      (λ each. inr (
        each.0,
        each.1,
        each.2,
        pred ∙ each.3,
        ⊎_elim
            (λ (r : ReadsFrom (bare t) each.0). inl (subst (λ (rs : List Read). ReadsFrom (bare (record t { reads = rs })) each.0) (sym reads) r))
            (λ rest. inr (⊎_elim
            (λ (o : ClaimFrom t each.0). let w = claims.at o.0 o.1 o.2 in inl (w.0, w.1, w.2, w.4 ∙ o.3, (o.4.0, o.4.1, o.4.2 ∙ sym w.3)))
            (λ (o : ClaimRead t each.0). let w = claims.at o.0 o.1 o.2 in inr (w.0, w.1, w.2, (o.3.0, o.3.1, o.3.2 ∙ sym w.3, o.3.3 ∙ sym w.4)))
            rest))
            each.4,
      ))
      f.pred;
}
