-- The ends go on: of a transaction that is decided, and of one that aborts.
use Rattle.std.proofs.Common.{◌≡◌, ℕ, ◌+◌, ◌<◌, ◌≤◌, ⊎_elim, Bool, true, false, not, ◌&&◌, ◌||◌, eqb, length, refl, sym, ap, ◌∙◌, subst, arith}
use Rattle.std.specs.Prelude.{if◌then◌else◌, nat_lt, ◌==◌, slice_index_or}
use Rattle.std.proofs.lemmas.Bool.{and_from, and_parts, or_left, or_right, and_left, and_right, cases_eq, eq-eqb, eqb-false, lt-ltb, not_from_false}
use Rattle.erm_machine.specs.declared.limits.TheConstants.{OBJECT_LIMIT}
use Rattle.erm_machine.specs.declared.attempt.Decision.TheVariants.{Abort}
use Rattle.erm_machine.specs.declared.event.Kind.TheVariants as kind
use Rattle.erm_machine.specs.declared.part.Part.{Part}
use Rattle.erm_machine.specs.declared.place.Place.TheVariants.{Idle, Active, Decided}
use Rattle.erm_machine.specs.declared.task.Task.TheVariants as task
use Rattle.erm_machine.specs.declared.version.CellWord.{CellWord}
use Rattle.erm_machine.specs.declared.version.CellWord.TheVariants as word
use Rattle.erm_machine.specs.Back.{goes_back}
use Rattle.erm_machine.specs.Core.{Core, blank, claim_at}
use Rattle.erm_machine.specs.Facts.{IsCurrent, over_of}
use Rattle.erm_machine.specs.Life.{has_ended, store_back, store_begin}
use Rattle.erm_machine.specs.Seat.{end_of, over, is_active, is_commit, is_decided, is_own, read_at}
use Rattle.erm_machine.specs.Settling.{adds_version, clear_reader, head_value, head_word, install, install_new, installs, mark_overwritten, raise_reader, release_old, store_head_word}
use Rattle.erm_machine.specs.Sound.{Sound}
use Rattle.erm_machine.specs.Words.{is_flusher}
use Rattle.erm_machine.proofs.Guards.{either_way}
use Rattle.erm_core_calls.specs.Going.{MovesOn, head_words, next_back, next_clear, next_commit, next_end, next_head_word, next_install, next_release, overwrites, own_at, wants_back}
use Rattle.erm_core_calls.proofs.GoesActive.{bound_at}
use Rattle.erm_core_calls.proofs.GoesClaims.{claim_cell}
use Rattle.erm_core_calls.proofs.GoesSettled.{read_known}
use Rattle.erm_core_calls.proofs.Moving.{Apart, placed, ends_at, more, to_task, to_place, to_back, below_way, same_way, same_self, branch, other_branch}

not_is : (b : Bool) → not b ≡ true → b ≡ false
not_is true e = absurd (cc)
not_is false e = refl

-- what a commit that doesn't want to store its back word says of it
no_more : (goes stands : Bool) → (goes && not stands) ≡ false → (not goes || stands) ≡ true
no_more true true e = refl
no_more true false e = absurd (cc)
no_more false stands e = refl

module _ (c : Core) (p : ℕ) (sound : Sound c) (raised ended step cleared : ℕ) (at : (c.seats p).task ≡ task.Ends raised ended step cleared) where
  -- an end that has come further
  further : (e : ℕ × ℕ × ℕ × ℕ) → ((raised, ended, step, cleared) ≡ e → ⊥) → Apart (task.Ends raised ended step cleared) (task.Ends e.0 e.1 e.2 e.3)
  further e ne = record { apart = λ same. ne (sym (ap ends_at same)) }

  -- the entry is stored with its old head
  releases : adds_version (c.seats p) ≡ false → (is_decided (c.seats p).place || is_active (c.seats p).place) ≡ true → ended < length (c.seats p).current.writes →
      MovesOn c p (kind.Install (overwrites (c.seats p).current ended).oid (overwrites (c.seats p).current ended).cell)
  releases adds ending within =
      let v = overwrites (c.seats p).current ended in
      to_task c p (kind.Install v.oid v.cell) (task.Ends raised ended step cleared) _ _ at tt (lt-ltb v.oid OBJECT_LIMIT ((sound.own p).claims.objects ended within))
      (ap (install v.oid v.cell (c.seats p)) at
      ∙ other_branch (adds_version (c.seats p)) (install_new v.oid v.cell (c.seats p) (raised, ended, step, cleared)) (release_old v.oid v.cell (c.seats p) (raised, ended, step, cleared)) _ adds refl)
      (and_from _ _ (and_from _ _ (and_from _ _ ending (lt-ltb ended (length (c.seats p).current.writes) within)) (eq-eqb v.oid v.oid refl)) (eq-eqb v.cell v.cell refl))
      (further (raised, ended + 1, 0, cleared) (λ e. more ended (sym (ap (λ (q : ℕ × ℕ × ℕ × ℕ). q.1) e))))

  -- the next reader bit is cleared
  clears : (is_decided (c.seats p).place || is_active (c.seats p).place) ≡ true → ended ≡ length (c.seats p).current.writes → cleared < length (c.seats p).current.reads →
      (not (is_commit (c.seats p).current.decision) || eqb raised (length (c.seats p).current.reads)) ≡ true → MovesOn c p (kind.ClearReader (read_at (c.seats p).current cleared).version)
  clears ending all within raises =
      let v = (read_at (c.seats p).current cleared).version in
      to_task c p (kind.ClearReader v) (task.Ends raised ended step cleared) _ _ at tt (lt-ltb v.oid OBJECT_LIMIT (read_known c p sound cleared within))
      (ap (λ u. clear_reader v (c.seats p) (end_of u)) at)
      (and_from _ _ (and_from _ _ (and_from _ _ (and_from _ _ ending (eq-eqb ended (length (c.seats p).current.writes) all)) (lt-ltb cleared (length (c.seats p).current.reads) within)) raises) (same_self v))
      (further (raised, ended, step, cleared + 1) (λ e. more cleared (sym (ap (λ (q : ℕ × ℕ × ℕ × ℕ). q.3) e))))

  all_ended : ended ≡ length (c.seats p).current.writes → cleared ≡ length (c.seats p).current.reads → has_ended (c.seats p).current (end_of (c.seats p).task) ≡ true
  all_ended writes reads =
      ap (λ u. has_ended (c.seats p).current (end_of u)) at
      ∙ and_from (eqb ended (length (c.seats p).current.writes)) (eqb cleared (length (c.seats p).current.reads)) (eq-eqb ended (length (c.seats p).current.writes) writes) (eq-eqb cleared (length (c.seats p).current.reads) reads)

  -- the last steps of each end, by what is over
  rest_of : (is_decided (c.seats p).place || is_active (c.seats p).place) ≡ true → ended ≡ length (c.seats p).current.writes →
      (not (is_commit (c.seats p).current.decision) || eqb raised (length (c.seats p).current.reads)) ≡ true →
      (has_ended (c.seats p).current (end_of (c.seats p).task) ≡ true → MovesOn c p (kind.StoreBegin 0)) → MovesOn c p (next_clear (c.seats p).current cleared)
  rest_of ending writes raises leaves =
      let b = bound_at c p sound (task.Ends raised ended step cleared) at in
      let few = b.2 in
      let t = (c.seats p).current in
      below_way (MovesOn c p) cleared (length t.reads) (kind.ClearReader (read_at t cleared).version) (kind.StoreBegin 0)
      (λ (within : cleared < length t.reads). clears ending writes within raises)
      (λ (all : length t.reads ≤ cleared). leaves (all_ended writes (omega (arith, few, all))))

  -- the end of one that installs nothing
  releasing : adds_version (c.seats p) ≡ false → (is_decided (c.seats p).place || is_active (c.seats p).place) ≡ true → is_commit (c.seats p).current.decision ≡ false →
      (has_ended (c.seats p).current (end_of (c.seats p).task) ≡ true → MovesOn c p (kind.StoreBegin 0)) → MovesOn c p (next_release (c.seats p).current ended cleared)
  releasing adds ending commit leaves =
      let b = bound_at c p sound (task.Ends raised ended step cleared) at in
      let few = b.1 in
      let t = (c.seats p).current in
      below_way (MovesOn c p) ended (length t.writes) (kind.Install (overwrites t ended).oid (overwrites t ended).cell) (next_clear t cleared)
      (λ (within : ended < length t.writes). releases adds ending within)
      (λ (all : length t.writes ≤ ended). rest_of ending (omega (arith, few, all)) (or_left _ _ (not_from_false _ commit)) leaves)

  -- an active transaction aborts
  pub aborts : (tail : ℕ) → (c.seats p).place ≡ Active tail → MovesOn c p (next_release (c.seats p).current ended cleared)
  aborts tail pl =
      let cur : IsCurrent (Active tail) (c.seats p).current = subst (λ q. IsCurrent q (c.seats p).current) pl (sound.own p).ranges.current in
      releasing (and_left (is_decided (c.seats p).place) _ (ap is_decided pl)) (or_right (is_decided (c.seats p).place) (is_active (c.seats p).place) (ap is_active pl)) (ap is_commit cur.decision)
      (λ ends.
      to_place c p (kind.StoreBegin 0) (Active tail) _ _ pl tt refl (ap (store_begin p 0 (c.seats p)) pl) ends
      (either_way (λ (y : Part). eqb (placed y.place) 4 ≡ false) (is_flusher p) (record (c.seats p) { place = Idle; task = task.Rest; current = blank })
      (over Abort (record (c.seats p) { place = Idle; task = task.Rest })) (λ _. refl) (λ _. refl)))

  module _ (tail stamp : ℕ) (pl : (c.seats p).place ≡ Decided tail stamp) where
    decided : is_decided (c.seats p).place ≡ true
    decided = ap is_decided pl

    ending : (is_decided (c.seats p).place || is_active (c.seats p).place) ≡ true
    ending = or_left (is_decided (c.seats p).place) (is_active (c.seats p).place) decided

    leaves : (not (goes_back (c.seats p).current) || eqb (c.seats p).back (c.seats p).current.stamp) ≡ true → has_ended (c.seats p).current (end_of (c.seats p).task) ≡ true → MovesOn c p (kind.StoreBegin 0)
    leaves stands ends = to_place c p (kind.StoreBegin 0) (Decided tail stamp) _ _ pl tt refl (ap (store_begin p 0 (c.seats p)) pl) (and_from _ _ (and_from _ _ refl ends) stands) refl

    -- a commit that goes back stores its stamp
    stores_back : wants_back (c.seats p).current (c.seats p).back ≡ true → MovesOn c p (kind.StoreBack (c.seats p).current.stamp)
    stores_back wants =
        let value = (c.seats p).current.stamp in
        let g = and_parts (goes_back (c.seats p).current) (not (eqb (c.seats p).back value)) wants in
        to_back c p (kind.StoreBack value) _ _ tt refl (ap (store_back value (c.seats p)) pl) (and_from _ _ g.0 (eq-eqb value value refl))
        (λ (same : value ≡ (c.seats p).back). eqb-false (c.seats p).back value (not_is _ g.1) (sym same))

    -- a commit raises a reader stamp
    raises : is_commit (c.seats p).current.decision ≡ true → raised < length (c.seats p).current.reads → MovesOn c p (kind.RaiseReader (read_at (c.seats p).current raised).version (c.seats p).current.stamp)
    raises commit within =
        let v = (read_at (c.seats p).current raised).version in
        let value = (c.seats p).current.stamp in
        to_task c p (kind.RaiseReader v value) (task.Ends raised ended step cleared) _ _ at tt (lt-ltb v.oid OBJECT_LIMIT (read_known c p sound raised within))
        (ap (raise_reader v value (c.seats p)) at)
        (and_from _ _ (and_from _ _ (and_from _ _ (and_from _ _ decided commit) (lt-ltb raised (length (c.seats p).current.reads) within)) (same_self v)) (eq-eqb value value refl))
        (further (raised + 1, ended, step, cleared) (λ e. more raised (sym (ap (λ (q : ℕ × ℕ × ℕ × ℕ). q.0) e))))

    -- the steps of an install
    module _ (commit : is_commit (c.seats p).current.decision ≡ true) (all : raised ≡ length (c.seats p).current.reads) (within : ended < length (c.seats p).current.writes) where
      installing : installs raised ended step (c.seats p) ≡ true
      installing = and_from _ _ (and_from _ _ (and_from _ _ decided commit) (eq-eqb raised (length (c.seats p).current.reads) all)) (lt-ltb ended (length (c.seats p).current.writes) within)

      -- the claim at hand has its cell
      own : is_own (own_at (c.seats p).current ended) (claim_at (c.seats p).current ended).own ≡ true
      own =
          let none = ap (λ q. over_of q (c.seats p).task (length (c.seats p).current.writes)) pl ∙ ap (λ u. over_of (Decided tail stamp) u (length (c.seats p).current.writes)) at in
          claim_cell c p sound (task.Ends raised ended step cleared) ended at (λ never. never) within (omega (arith, none))

      next_step : Apart (task.Ends raised ended step cleared) (task.Ends raised ended (step + 1) cleared)
      next_step = further (raised, ended, step + 1, cleared) (λ e. more step (sym (ap (λ (q : ℕ × ℕ × ℕ × ℕ). q.2) e)))

      stores_head : (w : CellWord) → head_word step w ≡ true → step < 6 → MovesOn c p (next_head_word (c.seats p).current ended w)
      stores_head w is low =
          let number = own_at (c.seats p).current ended in
          let value = head_value (c.seats p).current (claim_at (c.seats p).current ended) w in
          to_task c p (kind.StoreCell ended number w value) (task.Ends raised ended step cleared) _ _ at tt refl
          (other_branch _ _ _ _ (ap is_active pl) (ap (store_head_word ended number w value (c.seats p)) at))
          (and_from _ _ (and_from _ _ (and_from _ _ (and_from _ _ (and_from _ _ installing (eq-eqb ended ended refl)) own) is) (lt-ltb step 6 low)) (eq-eqb value value refl))
          next_step

      stores_succ : step ≡ 6 → MovesOn c p (kind.StoreSucc (overwrites (c.seats p).current ended) (c.seats p).current.succ)
      stores_succ is =
          let v = (claim_at (c.seats p).current ended).version in
          let value = (c.seats p).current.succ in
          to_task c p (kind.StoreSucc v value) (task.Ends raised ended step cleared) _ _ at tt (lt-ltb v.oid OBJECT_LIMIT ((sound.own p).claims.objects ended within))
          (ap (mark_overwritten 6 v value value (c.seats p)) at)
          (and_from _ _ (and_from _ _ (and_from _ _ installing (eq-eqb step 6 is)) (same_self v)) (eq-eqb value value refl)) next_step

      stores_overwriter : step ≡ 7 → MovesOn c p (kind.StoreOverwriter (overwrites (c.seats p).current ended) (c.seats p).current.stamp)
      stores_overwriter is =
          let v = (claim_at (c.seats p).current ended).version in
          let value = (c.seats p).current.stamp in
          to_task c p (kind.StoreOverwriter v value) (task.Ends raised ended step cleared) _ _ at tt (lt-ltb v.oid OBJECT_LIMIT ((sound.own p).claims.objects ended within))
          (ap (mark_overwritten 7 v value value (c.seats p)) at)
          (and_from _ _ (and_from _ _ (and_from _ _ installing (eq-eqb step 7 is)) (same_self v)) (eq-eqb value value refl)) next_step

      stores_entry : step ≡ 8 → MovesOn c p (kind.Install (overwrites (c.seats p).current ended).oid (own_at (c.seats p).current ended))
      stores_entry is =
          let number = own_at (c.seats p).current ended in
          let v = (claim_at (c.seats p).current ended).version in
          to_task c p (kind.Install v.oid number) (task.Ends raised ended step cleared) _ _ at tt (lt-ltb v.oid OBJECT_LIMIT ((sound.own p).claims.objects ended within))
          (ap (install v.oid number (c.seats p)) at
          ∙ branch (adds_version (c.seats p)) (install_new v.oid number (c.seats p) (raised, ended, step, cleared)) (release_old v.oid number (c.seats p) (raised, ended, step, cleared)) _
          (and_from (is_decided (c.seats p).place) (is_commit (c.seats p).current.decision) decided commit) refl)
          (and_from _ _ (and_from _ _ (and_from _ _ installing (eq-eqb step 8 is)) (eq-eqb v.oid v.oid refl)) own)
          (further (raised, ended + 1, 0, cleared) (λ e. more ended (sym (ap (λ (q : ℕ × ℕ × ℕ × ℕ). q.1) e))))

      -- the head word of this step
      head_step : (n : ℕ) → step ≡ n → n < 6 → head_word n (slice_index_or head_words n word.Stamp) ≡ true → MovesOn c p (next_head_word (c.seats p).current ended (slice_index_or head_words step word.Stamp))
      head_step n is low fits =
          subst (λ k. MovesOn c p (next_head_word (c.seats p).current ended (slice_index_or head_words k word.Stamp))) (sym is)
          (stores_head (slice_index_or head_words n word.Stamp) (subst (λ k. head_word k (slice_index_or head_words n word.Stamp) ≡ true) (sym is) fits) (omega (arith, is, low)))

      stores_heads : step < 6 → MovesOn c p (next_head_word (c.seats p).current ended (slice_index_or head_words step word.Stamp))
      stores_heads low =
          is_or_not 0 (λ is. head_step 0 is (omega arith) refl) (λ a.
          is_or_not 1 (λ is. head_step 1 is (omega arith) refl) (λ b.
          is_or_not 2 (λ is. head_step 2 is (omega arith) refl) (λ d.
          is_or_not 3 (λ is. head_step 3 is (omega arith) refl) (λ e.
          is_or_not 4 (λ is. head_step 4 is (omega arith) refl) (λ f.
          head_step 5 (last_head step low a b d e f) (omega arith) refl)))))
        where
          is_or_not : {X : Type 0} (n : ℕ) → (step ≡ n → X) → ((step ≡ n → ⊥) → X) → X
          is_or_not n here there = ⊎_elim here there (cases_eq step n)

          last_head : (n : ℕ) → n < 6 → (n ≡ 0 → ⊥) → (n ≡ 1 → ⊥) → (n ≡ 2 → ⊥) → (n ≡ 3 → ⊥) → (n ≡ 4 → ⊥) → n ≡ 5
          last_head n low a b d e f = grind arith

      steps : step ≤ 8 → MovesOn c p (next_install (c.seats p).current ended step)
      steps low =
          let t = (c.seats p).current in
          let overwriter = if step == 7 then kind.StoreOverwriter (overwrites t ended) t.stamp else kind.Install (overwrites t ended).oid (own_at t ended) in
          below_way (MovesOn c p) step 6 (next_head_word t ended (slice_index_or head_words step word.Stamp)) (if step == 6 then kind.StoreSucc (overwrites t ended) t.succ else overwriter) stores_heads
          (λ (past : 6 ≤ step).
          same_way (MovesOn c p) step 6 (kind.StoreSucc (overwrites t ended) t.succ) overwriter stores_succ
          (λ (a : step ≡ 6 → ⊥).
          same_way (MovesOn c p) step 7 (kind.StoreOverwriter (overwrites t ended) t.stamp) (kind.Install (overwrites t ended).oid (own_at t ended)) stores_overwriter
          (λ (b : step ≡ 7 → ⊥). stores_entry (last_step step low past a b))))
        where
          last_step : (n : ℕ) → n ≤ 8 → 6 ≤ n → (n ≡ 6 → ⊥) → (n ≡ 7 → ⊥) → n ≡ 8
          last_step n low past a b = grind arith

    -- a commit: the reader stamps, the claims, the back word, the bits, and the begin word
    commits : is_commit (c.seats p).current.decision ≡ true → step ≤ 8 → MovesOn c p (next_commit (c.seats p).current (c.seats p).back raised ended step cleared)
    commits commit low =
        let b = bound_at c p sound (task.Ends raised ended step cleared) at in
        let reads = b.0 in
        let writes = b.1 in
        let t = (c.seats p).current in
        let later = if nat_lt ended (length t.writes) then next_install t ended step else next_back t (c.seats p).back cleared in
        below_way (MovesOn c p) raised (length t.reads) (kind.RaiseReader (read_at t raised).version t.stamp) later
        (λ (within : raised < length t.reads). raises commit within)
        (λ (none : length t.reads ≤ raised).
        let all : raised ≡ length t.reads = omega (arith, none, reads) in
        below_way (MovesOn c p) ended (length t.writes) (next_install t ended step) (next_back t (c.seats p).back cleared)
        (λ (within : ended < length t.writes). steps commit all within low)
        (λ (over : length t.writes ≤ ended).
        either_way (MovesOn c p) (wants_back t (c.seats p).back) (kind.StoreBack t.stamp) (next_clear t cleared) stores_back
        (λ (none : wants_back t (c.seats p).back ≡ false).
        rest_of ending (omega (arith, over, writes)) (or_right (not (is_commit t.decision)) (eqb raised (length t.reads)) (eq-eqb raised (length t.reads) all))
        (leaves (no_more (goes_back t) (eqb (c.seats p).back t.stamp) none)))))

    pub ends : step ≤ 8 → MovesOn c p (next_end (c.seats p).current (c.seats p).back (task.Ends raised ended step cleared))
    ends low =
        either_way (MovesOn c p) (is_commit (c.seats p).current.decision) (next_commit (c.seats p).current (c.seats p).back raised ended step cleared) (next_release (c.seats p).current ended cleared)
        (λ (commit : is_commit (c.seats p).current.decision ≡ true). commits commit low)
        (λ (skip : is_commit (c.seats p).current.decision ≡ false). releasing (and_right (is_decided (c.seats p).place) (is_commit (c.seats p).current.decision) skip) ending skip
        (leaves (or_left (not (goes_back (c.seats p).current)) (eqb (c.seats p).back (c.seats p).current.stamp) (not_from_false _ (and_left (is_commit (c.seats p).current.decision) _ skip)))))
