-- The versions of one object: each was made by overwriting the one before, so its writers and its readers stand in the
-- serial order as their versions do.
use Rattle.std.proofs.Common.{◌≡◌, ℕ, zero, suc, ◌<◌, ◌≤◌, ◌⊎◌, ⊎_elim, inl, inr, List, sym, ◌∙◌, subst, arith}
use Rattle.std.proofs.lemmas.Bool.{cases_order, cases_eq}
use Rattle.erm_model.specs.declared.history.TransactionRecord.{TransactionRecord}
use Rattle.erm_model.specs.Member.{◌∈◌}
use Rattle.erm_model.specs.SerialOrder.{ComesBefore}
use Rattle.erm_model.specs.History.{History, IsSnapshot, IsCertified, OverwritesNewest, IsMade, IsVersion, Makes, rank_of}
use Rattle.erm_model.specs.Rows.{Rows}
use Rattle.erm_core_ssn.proofs.Members.{one_element}
use Rattle.erm_core_ssn.proofs.Orders.{ComesBefore-trans}
use Rattle.erm_core_ssn.proofs.Forward.{Reads, goes_forward}

-- some transaction of the history made the version of this object that has this stamp
abbrev pub HasMaker : History → ℕ → ℕ → Type 0
HasMaker h oid stamp = (u : TransactionRecord) × (u ∈ h) × (u.stamp ≡ stamp) × Makes u oid

-- a version is the opening's or has a maker
pub maker_of : (h : History) (opening : Rows) (oid stamp : ℕ) (row : List ℕ) → IsVersion h opening oid stamp row → (stamp ≡ 0) ⊎ HasMaker h oid stamp
maker_of h opening oid stamp row version =
    ⊎_elim
    (λ (first : (stamp ≡ 0) × (row ≡ opening oid)). inl first.0)
    (λ (made : IsMade h oid stamp row). inr (made.0, made.2, made.3, (made.1, made.4, made.5)))
    version

module _ (h : History) (opening : Rows) (snapshot : IsSnapshot h opening) (certified : IsCertified h) where
  -- transactions with one stamp are one
  pub one_transaction : (t u : TransactionRecord) → t ∈ h → u ∈ h → t.stamp ≡ u.stamp → t ≡ u
  one_transaction t u of_t of_u same = one_element (λ x. x.stamp) h certified.differ t u of_t of_u same

  -- what a write overwrote
  newest_overwritten : (u : TransactionRecord) → u ∈ h → (oid : ℕ) (makes : Makes u oid) → OverwritesNewest h opening u makes.0
  newest_overwritten u of_u oid makes = (snapshot u of_u).writes makes.0 makes.1

  -- other makers below the stamp of a write made versions up to the one that it overwrote
  pub no_newer : (u : TransactionRecord) → u ∈ h → (oid : ℕ) (makes : Makes u oid) → (t : TransactionRecord) → t ∈ h → Makes t oid → t.stamp < u.stamp → t.stamp ≤ makes.0.stamp
  no_newer u of_u oid makes t of_t made low =
      (newest_overwritten u of_u oid makes).newest.newest t of_t (made.0, made.1, made.2 ∙ sym makes.2) low

  -- who made what a write overwrote
  pub overwritten_maker : (u : TransactionRecord) → u ∈ h → (oid : ℕ) (makes : Makes u oid) → (makes.0.stamp ≡ 0) ⊎ HasMaker h oid makes.0.stamp
  overwritten_maker u of_u oid makes =
      let over = newest_overwritten u of_u oid makes in
      subst (λ x. (makes.0.stamp ≡ 0) ⊎ HasMaker h x makes.0.stamp) makes.2 (maker_of h opening makes.0.oid makes.0.stamp over.row over.newest.version)

  -- who made what a write overwrote comes before the writer
  pub overwritten_before : (u : TransactionRecord) → u ∈ h → (oid : ℕ) (makes : Makes u oid) (maker : HasMaker h oid makes.0.stamp) → ComesBefore (rank_of maker.0) (rank_of u)
  overwritten_before u of_u oid makes maker =
      let over = newest_overwritten u of_u oid makes in
      goes_forward h opening snapshot certified maker.0 u maker.1 of_u
      ((λ same. omega (arith, over.newest.below, maker.2)), inr (inl (makes.0, makes.1, sym maker.2, (maker.3.0, maker.3.1, maker.3.2 ∙ sym makes.2))))

  -- the writers of an object stand in the order of their commit stamps
  writers_below : (bound : ℕ) (t u : TransactionRecord) → t ∈ h → u ∈ h → (oid : ℕ) → Makes t oid → Makes u oid → t.stamp < u.stamp → u.stamp < bound → ComesBefore (rank_of t) (rank_of u)
  writers_below zero t u of_t of_u oid makes_t makes_u less low = absurd (omega arith)
  writers_below (suc bound) t u of_t of_u oid makes_t makes_u less low =
      let up_to = no_newer u of_u oid makes_u t of_t makes_t less in
      ⊎_elim
      (λ (first : makes_u.0.stamp ≡ 0). absurd (omega (arith, up_to, first, (snapshot t of_t).begun, (snapshot t of_t).sealed)))
      (λ (maker : HasMaker h oid makes_u.0.stamp).
      let last = overwritten_before u of_u oid makes_u maker in
      ⊎_elim
      (λ (same : t.stamp ≡ maker.0.stamp).
      subst (λ x. ComesBefore (rank_of x) (rank_of u)) (one_transaction maker.0 t maker.1 of_t (sym same)) last)
      (⊎_elim
      (λ (between : t.stamp < maker.0.stamp).
      ComesBefore-trans (rank_of t) (rank_of maker.0) (rank_of u)
      (writers_below bound t maker.0 of_t maker.1 oid makes_t maker.3 between (omega (arith, maker.2, (newest_overwritten u of_u oid makes_u).newest.below)))
      last)
      (λ (more : maker.0.stamp < t.stamp). absurd (omega (arith, maker.2, up_to))))
      (cases_order t.stamp maker.0.stamp))
      (overwritten_maker u of_u oid makes_u)

  pub writers_in_order : (t u : TransactionRecord) → t ∈ h → u ∈ h → (oid : ℕ) → Makes t oid → Makes u oid → t.stamp < u.stamp → ComesBefore (rank_of t) (rank_of u)
  writers_in_order t u of_t of_u oid makes_t makes_u less =
      writers_below (suc u.stamp) t u of_t of_u oid makes_t makes_u less (omega arith)

  -- a version read has a maker below its readers' begin, or is the opening's
  pub read_maker : (t : TransactionRecord) → t ∈ h → (oid stamp : ℕ) → Reads t oid stamp → (stamp ≡ 0) ⊎ HasMaker h oid stamp
  read_maker t of_t oid stamp read =
      let r = read.0 in
      let n = (snapshot t of_t).reads r read.1 in
      subst (λ x. (stamp ≡ 0) ⊎ HasMaker h x stamp) read.2 (subst (λ s. (s ≡ 0) ⊎ HasMaker h r.oid s) read.3 (maker_of h opening r.oid r.stamp r.row n.version))

  -- the reader of a version comes before all others that made a later version of its object
  reader_below : (bound : ℕ) (t u : TransactionRecord) → t ∈ h → u ∈ h → (oid stamp : ℕ) → Reads t oid stamp → Makes u oid → stamp < u.stamp → (t.stamp ≡ u.stamp → ⊥) → u.stamp < bound → ComesBefore (rank_of t) (rank_of u)
  reader_below zero t u of_t of_u oid stamp read makes less other low = absurd (omega arith)
  reader_below (suc bound) t u of_t of_u oid stamp read makes less other low =
      let up_to : stamp ≤ makes.0.stamp =
      ⊎_elim
      (λ (first : stamp ≡ 0). omega (arith, first))
      (λ (m : HasMaker h oid stamp). omega (arith, m.2, no_newer u of_u oid makes m.0 m.1 m.3 (omega (arith, m.2))))
      (read_maker t of_t oid stamp read)
      in
      ⊎_elim
      (λ (same : stamp ≡ makes.0.stamp).
      goes_forward h opening snapshot certified t u of_t of_u (other, inr (inr (read.0, read.1, (makes.0, makes.1, makes.2 ∙ sym read.2, sym same ∙ sym read.3)))))
      (⊎_elim
      (λ (between : stamp < makes.0.stamp).
      ⊎_elim
      (λ (first : makes.0.stamp ≡ 0). absurd (omega (arith, first, between)))
      (λ (maker : HasMaker h oid makes.0.stamp).
      let last = overwritten_before u of_u oid makes maker in
      ⊎_elim
      (λ (same : t.stamp ≡ maker.0.stamp).
      subst (λ x. ComesBefore (rank_of x) (rank_of u)) (one_transaction maker.0 t maker.1 of_t (sym same)) last)
      (λ (differ : t.stamp ≡ maker.0.stamp → ⊥).
      ComesBefore-trans (rank_of t) (rank_of maker.0) (rank_of u)
      (reader_below bound t maker.0 of_t maker.1 oid stamp read maker.3 (omega (arith, maker.2, between)) differ (omega (arith, maker.2, (newest_overwritten u of_u oid makes).newest.below)))
      last)
      (cases_eq t.stamp maker.0.stamp))
      (overwritten_maker u of_u oid makes))
      (λ (more : makes.0.stamp < stamp). absurd (omega (arith, up_to, more))))
      (cases_order stamp makes.0.stamp)

  pub reader_in_order : (t u : TransactionRecord) → t ∈ h → u ∈ h → (oid stamp : ℕ) → Reads t oid stamp → Makes u oid → stamp < u.stamp → (t.stamp ≡ u.stamp → ⊥) → ComesBefore (rank_of t) (rank_of u)
  reader_in_order t u of_t of_u oid stamp read makes less other =
      reader_below (suc u.stamp) t u of_t of_u oid stamp read makes less other (omega arith)
