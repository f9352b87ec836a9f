-- The ends come nearer to the end: of a transaction that is decided, and of one that aborts.
use Rattle.std.proofs.Common.{◌≡◌, ℕ, ◌+◌, ◌-◌, ◌*◌, ◌<◌, ◌≤◌, Bool, true, false, not, eqb, length, refl, sym, ap, ◌∙◌, subst, arith, length-set}
use Rattle.std.specs.Prelude.{if◌then◌else◌, nat_lt, ◌==◌, slice_index_or}
use Rattle.std.proofs.lemmas.Bool.{and_from, and_left, and_right, cond-false, cond-true, eq-eqb}
use Rattle.erm_machine.specs.declared.attempt.Attempt.{Attempt}
use Rattle.erm_machine.specs.declared.attempt.Claim.{Claim}
use Rattle.erm_machine.specs.declared.event.Kind.{Kind}
use Rattle.erm_machine.specs.declared.event.Kind.TheVariants as kind
use Rattle.erm_machine.specs.declared.part.Part.{Part}
use Rattle.erm_machine.specs.declared.place.Place.{Place}
use Rattle.erm_machine.specs.declared.place.Place.TheVariants.{Idle, Active, Decided, Leaving}
use Rattle.erm_machine.specs.declared.task.Task.TheVariants as task
use Rattle.erm_machine.specs.declared.version.CellWord.{CellWord}
use Rattle.erm_machine.specs.declared.version.CellWord.TheVariants as word
use Rattle.erm_machine.specs.Core.{Core, blank, claim_at}
use Rattle.erm_machine.specs.Back.{goes_back}
use Rattle.erm_machine.specs.Life.{store_back, store_begin}
use Rattle.erm_machine.specs.Seat.{end_of, over, is_active, is_commit, is_decided, read_at}
use Rattle.erm_machine.specs.declared.attempt.Decision.TheVariants.{Abort}
use Rattle.erm_machine.specs.Settling.{adds_version, clear_reader, head_value, install, install_new, mark_overwritten, raise_reader, release_old, store_head_word}
use Rattle.erm_machine.specs.Words.{is_flusher}
use Rattle.erm_machine.proofs.Guards.{either_way}
use Rattle.erm_machine.proofs.QuietKinds.{MeetsOne}
use Rattle.erm_core_calls.specs.Ending.{IsLess, ComesNearer, ahead_at, ahead_by, back_left, end_left, fewer_stages, less_left}
use Rattle.erm_core_calls.specs.Going.{MovesOn, head_words, next_back, next_clear, next_commit, next_end, next_head_word, next_install, next_release, overwrites, own_at, wants_back}
use Rattle.erm_core_calls.proofs.Moving.{below_way, same_way, branch, other_branch}
use Rattle.erm_core_calls.proofs.Nearer.{Leads, from_to}

-- a back word that is to be stored, where it counts
abbrev back_counts : Bool → Attempt → ℕ → ℕ
back_counts counts t back = if counts then back_left t back else 0

left_less : (a b m n : ℕ) → a ≡ b → m < n → a + m < b + n
left_less a b m n same less = omega (arith, same, less)

no_more : (n : ℕ) → n ≡ 0 + n
no_more n = omega arith

-- an install is nine steps
over_less : (writes ended step : ℕ) → ended < writes → step ≤ 8 → 9 * (writes - (ended + 1)) < 9 * (writes - ended) - step
over_less writes ended step within low = omega (arith, within, low)

module _ (c : Core) (p : ℕ) (raised ended step cleared : ℕ) (at : (c.seats p).task ≡ task.Ends raised ended step cleared) where
  -- An end at a place of so many stages, where a back word to store counts, or doesn't. What its steps lead to is told by four numbers.
  module _ (pl : Place) (stages : ℕ) (counts : Bool) (is : (c.seats p).place ≡ pl)
      (ending : (t : Attempt) (back r e s n : ℕ) → ahead_at t back pl (task.Ends r e s n) ≡ ahead_by stages (back_counts counts t back + end_left t r e s n)) where
    ends_on : (k : Kind) → MeetsOne k → (m : MovesOn c p k) (b : Bool) (z : Part) → Leads c p k b z → z.place ≡ pl → (r e s n : ℕ) → z.task ≡ task.Ends r e s n →
        back_counts counts z.current z.back ≡ back_counts counts (c.seats p).current (c.seats p).back →
        (b ≡ true → end_left z.current r e s n < end_left (c.seats p).current raised ended step cleared) → ComesNearer c p k m
    ends_on k one m b z leads there r e s n to same less =
        from_to c p pl pl (task.Ends raised ended step cleared) is at k one m b z leads there (λ g.
        subst (λ u. IsLess (ahead_at z.current z.back pl u) (ahead_at (c.seats p).current (c.seats p).back pl (task.Ends raised ended step cleared))) (sym to)
        (subst (λ a. IsLess a (ahead_at (c.seats p).current (c.seats p).back pl (task.Ends raised ended step cleared))) (sym (ending z.current z.back r e s n))
        (subst (IsLess (ahead_by stages (back_counts counts z.current z.back + end_left z.current r e s n))) (sym (ending (c.seats p).current (c.seats p).back raised ended step cleared))
        (less_left refl (left_less _ _ _ _ same (less g))))))

    -- the entry is stored with its old head
    n_releases : adds_version (c.seats p) ≡ false → step ≤ 8 → ended < length (c.seats p).current.writes → (m : MovesOn c p (kind.Install (overwrites (c.seats p).current ended).oid (overwrites (c.seats p).current ended).cell)) →
        ComesNearer c p (kind.Install (overwrites (c.seats p).current ended).oid (overwrites (c.seats p).current ended).cell) m
    n_releases adds low within m =
        let v = overwrites (c.seats p).current ended in
        let fewer = over_less (length (c.seats p).current.writes) ended step within low in
        ends_on (kind.Install v.oid v.cell) tt m _ _
        (ap (install v.oid v.cell (c.seats p)) at
        ∙ other_branch (adds_version (c.seats p)) (install_new v.oid v.cell (c.seats p) (raised, ended, step, cleared)) (release_old v.oid v.cell (c.seats p) (raised, ended, step, cleared)) _ adds refl)
        is raised (ended + 1) 0 cleared refl refl (λ _. omega (arith, fewer, length-set {A = Claim}))

    -- the last steps of each end
    n_clears : ((m : MovesOn c p (kind.StoreBegin 0)) → ComesNearer c p (kind.StoreBegin 0) m) → (m : MovesOn c p (next_clear (c.seats p).current cleared)) → ComesNearer c p (next_clear (c.seats p).current cleared) m
    n_clears leaves =
        let t = (c.seats p).current in
        let v = (read_at t cleared).version in
        below_way (λ k. (m : MovesOn c p k) → ComesNearer c p k m) cleared (length t.reads) (kind.ClearReader v) (kind.StoreBegin 0)
        (λ (within : cleared < length t.reads) m.
        ends_on (kind.ClearReader v) tt m _ _ (ap (λ u. clear_reader v (c.seats p) (end_of u)) at) is raised ended step (cleared + 1) refl refl (λ _. omega (arith, within)))
        (λ _. leaves)

    -- the end of one that installs nothing
    n_releasing : adds_version (c.seats p) ≡ false → step ≤ 8 → ((m : MovesOn c p (kind.StoreBegin 0)) → ComesNearer c p (kind.StoreBegin 0) m) → (m : MovesOn c p (next_release (c.seats p).current ended cleared)) →
        ComesNearer c p (next_release (c.seats p).current ended cleared) m
    n_releasing adds low leaves =
        let t = (c.seats p).current in
        below_way (λ k. (m : MovesOn c p k) → ComesNearer c p k m) ended (length t.writes) (kind.Install (overwrites t ended).oid (overwrites t ended).cell) (next_clear t cleared)
        (n_releases adds low) (λ _. n_clears leaves)

  -- an active transaction aborts
  pub n_aborts : (tail : ℕ) → (c.seats p).place ≡ Active tail → step ≡ 0 → (m : MovesOn c p (next_release (c.seats p).current ended cleared)) → ComesNearer c p (next_release (c.seats p).current ended cleared) m
  n_aborts tail pl none =
      let gone : Part = record (c.seats p) { place = Idle; task = task.Rest } in
      n_releasing (Active tail) 1 false pl (λ t _ r e s n. ap (ahead_by 1) (no_more (end_left t r e s n))) (and_left (is_decided (c.seats p).place) _ (ap is_decided pl)) (omega (arith, none))
      (λ m.
      from_to c p (Active tail) Idle (task.Ends raised ended step cleared) pl at (kind.StoreBegin 0) tt m _ _ (ap (store_begin p 0 (c.seats p)) pl)
      (either_way (λ (y : Part). y.place ≡ Idle) (is_flusher p) (record gone { current = blank }) (over Abort gone) (λ _. refl) (λ _. refl)) (λ _. fewer_stages (omega arith)))

  -- the end of a decided one
  module _ (tail stamp : ℕ) (pl : (c.seats p).place ≡ Decided tail stamp) (low : step ≤ 8) where
    leaves : (m : MovesOn c p (kind.StoreBegin 0)) → ComesNearer c p (kind.StoreBegin 0) m
    leaves m =
        from_to c p (Decided tail stamp) (Leaving stamp) (task.Ends raised ended step cleared) pl at (kind.StoreBegin 0) tt m _ _ (ap (store_begin p 0 (c.seats p)) pl) refl (λ _. fewer_stages (omega arith))

    -- a step that leaves the seat decided
    stays : (k : Kind) → MeetsOne k → (m : MovesOn c p k) (b : Bool) (z : Part) → Leads c p k b z → z.place ≡ Decided tail stamp → (r e s n : ℕ) → z.task ≡ task.Ends r e s n →
        back_counts true z.current z.back ≡ back_counts true (c.seats p).current (c.seats p).back →
        (b ≡ true → end_left z.current r e s n < end_left (c.seats p).current raised ended step cleared) → ComesNearer c p k m
    stays = ends_on (Decided tail stamp) 2 true pl (λ _ _ _ _ _ _. refl)

    n_raises : raised < length (c.seats p).current.reads → (m : MovesOn c p (kind.RaiseReader (read_at (c.seats p).current raised).version (c.seats p).current.stamp)) →
        ComesNearer c p (kind.RaiseReader (read_at (c.seats p).current raised).version (c.seats p).current.stamp) m
    n_raises within m =
        let v = (read_at (c.seats p).current raised).version in
        let value = (c.seats p).current.stamp in
        stays (kind.RaiseReader v value) tt m _ _ (ap (raise_reader v value (c.seats p)) at) pl (raised + 1) ended step cleared refl refl (λ _. omega (arith, within))

    -- the steps of an install
    module _ (commit : is_commit (c.seats p).current.decision ≡ true) (within : ended < length (c.seats p).current.writes) where
      n_stores_head : (w : CellWord) → step < 6 → (m : MovesOn c p (next_head_word (c.seats p).current ended w)) → ComesNearer c p (next_head_word (c.seats p).current ended w) m
      n_stores_head w early m =
          let number = own_at (c.seats p).current ended in
          let value = head_value (c.seats p).current (claim_at (c.seats p).current ended) w in
          stays (kind.StoreCell ended number w value) tt m _ _ (other_branch _ _ _ _ (ap is_active pl) (ap (store_head_word ended number w value (c.seats p)) at)) pl raised ended (step + 1) cleared refl refl
          (λ _. omega (arith, within, early, length-set {A = Claim}))

      n_stores_succ : step ≡ 6 → (m : MovesOn c p (kind.StoreSucc (overwrites (c.seats p).current ended) (c.seats p).current.succ)) → ComesNearer c p (kind.StoreSucc (overwrites (c.seats p).current ended) (c.seats p).current.succ) m
      n_stores_succ sixth m =
          let v = overwrites (c.seats p).current ended in
          let value = (c.seats p).current.succ in
          stays (kind.StoreSucc v value) tt m _ _ (ap (mark_overwritten 6 v value value (c.seats p)) at) pl raised ended (step + 1) cleared refl refl (λ _. omega (arith, within, sixth))

      n_stores_overwriter : step ≡ 7 → (m : MovesOn c p (kind.StoreOverwriter (overwrites (c.seats p).current ended) (c.seats p).current.stamp)) →
          ComesNearer c p (kind.StoreOverwriter (overwrites (c.seats p).current ended) (c.seats p).current.stamp) m
      n_stores_overwriter seventh m =
          let v = overwrites (c.seats p).current ended in
          let value = (c.seats p).current.stamp in
          stays (kind.StoreOverwriter v value) tt m _ _ (ap (mark_overwritten 7 v value value (c.seats p)) at) pl raised ended (step + 1) cleared refl refl (λ _. omega (arith, within, seventh))

      n_stores_entry : (m : MovesOn c p (kind.Install (overwrites (c.seats p).current ended).oid (own_at (c.seats p).current ended))) → ComesNearer c p (kind.Install (overwrites (c.seats p).current ended).oid (own_at (c.seats p).current ended)) m
      n_stores_entry m =
          let v = overwrites (c.seats p).current ended in
          let number = own_at (c.seats p).current ended in
          let fewer = over_less (length (c.seats p).current.writes) ended step within low in
          stays (kind.Install v.oid number) tt m _ _
          (ap (install v.oid number (c.seats p)) at
          ∙ branch (adds_version (c.seats p)) (install_new v.oid number (c.seats p) (raised, ended, step, cleared)) (release_old v.oid number (c.seats p) (raised, ended, step, cleared)) _
          (and_from (is_decided (c.seats p).place) (is_commit (c.seats p).current.decision) (ap is_decided pl) commit) refl)
          pl raised (ended + 1) 0 cleared refl refl (λ _. omega (arith, fewer, length-set {A = Claim}))

      n_steps : (m : MovesOn c p (next_install (c.seats p).current ended step)) → ComesNearer c p (next_install (c.seats p).current ended step) m
      n_steps =
          let t = (c.seats p).current in
          let overwriter = if step == 7 then kind.StoreOverwriter (overwrites t ended) t.stamp else kind.Install (overwrites t ended).oid (own_at t ended) in
          let head = slice_index_or head_words step word.Stamp in
          below_way (λ k. (m : MovesOn c p k) → ComesNearer c p k m) step 6 (next_head_word t ended head) (if step == 6 then kind.StoreSucc (overwrites t ended) t.succ else overwriter) (n_stores_head head)
          (λ _.
          same_way (λ k. (m : MovesOn c p k) → ComesNearer c p k m) step 6 (kind.StoreSucc (overwrites t ended) t.succ) overwriter n_stores_succ
          (λ _.
          same_way (λ k. (m : MovesOn c p k) → ComesNearer c p k m) step 7 (kind.StoreOverwriter (overwrites t ended) t.stamp) (kind.Install (overwrites t ended).oid (own_at t ended)) n_stores_overwriter
          (λ _. n_stores_entry)))

    -- the back word is stored
    n_stores_back : wants_back (c.seats p).current (c.seats p).back ≡ true → (m : MovesOn c p (kind.StoreBack (c.seats p).current.stamp)) → ComesNearer c p (kind.StoreBack (c.seats p).current.stamp) m
    n_stores_back wants m =
        let t = (c.seats p).current in
        let rest = end_left t raised ended step cleared in
        let stands : not (eqb t.stamp t.stamp) ≡ false = ap not (eq-eqb t.stamp t.stamp refl) in
        let none : back_left t t.stamp ≡ 0 = cond-false (wants_back t t.stamp) 1 0 (and_right (goes_back t) (not (eqb t.stamp t.stamp)) stands) in
        let one : back_left t (c.seats p).back ≡ 1 = cond-true (wants_back t (c.seats p).back) 1 0 wants in
        let less : (back_left t t.stamp + rest) < (back_left t (c.seats p).back + rest) = one_less (back_left t t.stamp) (back_left t (c.seats p).back) rest none one in
        from_to c p (Decided tail stamp) (Decided tail stamp) (task.Ends raised ended step cleared) pl at (kind.StoreBack t.stamp) tt m _ _ (ap (store_back t.stamp (c.seats p)) pl) pl (λ _.
        subst (λ u. IsLess (ahead_at t t.stamp (Decided tail stamp) u) (ahead_at t (c.seats p).back (Decided tail stamp) (task.Ends raised ended step cleared))) (sym at) (less_left refl less))
      where
        one_less : (a b n : ℕ) → a ≡ 0 → b ≡ 1 → a + n < b + n
        one_less a b n none one = omega (arith, none, one)

    n_commits : is_commit (c.seats p).current.decision ≡ true → (m : MovesOn c p (next_commit (c.seats p).current (c.seats p).back raised ended step cleared)) →
        ComesNearer c p (next_commit (c.seats p).current (c.seats p).back raised ended step cleared) m
    n_commits commit =
        let t = (c.seats p).current in
        let later = if nat_lt ended (length t.writes) then next_install t ended step else next_back t (c.seats p).back cleared in
        below_way (λ k. (m : MovesOn c p k) → ComesNearer c p k m) raised (length t.reads) (kind.RaiseReader (read_at t raised).version t.stamp) later n_raises
        (λ _.
        below_way (λ k. (m : MovesOn c p k) → ComesNearer c p k m) ended (length t.writes) (next_install t ended step) (next_back t (c.seats p).back cleared) (n_steps commit)
        (λ _.
        either_way (λ k. (m : MovesOn c p k) → ComesNearer c p k m) (wants_back t (c.seats p).back) (kind.StoreBack t.stamp) (next_clear t cleared) n_stores_back
        (λ _. n_clears (Decided tail stamp) 2 true pl (λ _ _ _ _ _ _. refl) leaves)))

    pub n_ends : (m : MovesOn c p (next_end (c.seats p).current (c.seats p).back (task.Ends raised ended step cleared))) →
        ComesNearer c p (next_end (c.seats p).current (c.seats p).back (task.Ends raised ended step cleared)) m
    n_ends =
        either_way (λ k. (m : MovesOn c p k) → ComesNearer c p k m) (is_commit (c.seats p).current.decision) (next_commit (c.seats p).current (c.seats p).back raised ended step cleared) (next_release (c.seats p).current ended cleared)
        n_commits
        (λ skip. n_releasing (Decided tail stamp) 2 true pl (λ _ _ _ _ _ _. refl) (and_right (is_decided (c.seats p).place) (is_commit (c.seats p).current.decision) skip) low leaves)
