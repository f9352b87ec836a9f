-- The last steps of an end.
use Rattle.std.proofs.Common.{◌≡◌, ℕ, ◌≤◌, leb, ltb, eqb, Bool, true, false, not, ◌&&◌, ◌||◌, List, length, Option, Some, refl, sym, ap, ◌∙◌, subst, arith}
use Rattle.std.specs.Prelude.{IsSome}
use Rattle.std.proofs.lemmas.Bool.{and_parts, eq-eqb, leb-true, ne_eqb}
use Rattle.erm_machine.specs.declared.attempt.Attempt.{Attempt}
use Rattle.erm_machine.specs.declared.attempt.Decision.TheVariants.{Abort, Commit, Undecided}
use Rattle.erm_machine.specs.declared.event.Kind.TheVariants as kind
use Rattle.erm_machine.specs.declared.part.Part.{Part}
use Rattle.erm_machine.specs.declared.place.Place.{Place}
use Rattle.erm_machine.specs.declared.place.Place.TheVariants.{Active, Decided, Idle, Leaving}
use Rattle.erm_machine.specs.declared.task.Task.TheVariants as task
use Rattle.erm_machine.specs.Back.{GoesBack, goes_back}
use Rattle.erm_machine.specs.Core.{blank}
use Rattle.erm_machine.specs.Facts.{IsCurrent}
use Rattle.erm_machine.specs.Life.{has_ended, store_begin, store_state}
use Rattle.erm_machine.specs.Seat.{end_of, is_active, is_commit, is_decided, with_current, with_task}
use Rattle.erm_machine.specs.Settling.{adds_version}
use Rattle.erm_machine.specs.Words.{is_flusher, is_seat, is_session}
use Rattle.erm_machine.proofs.Backs.{goes_back_is}
use Rattle.erm_model.specs.RowTransaction.{Law}
use Rattle.erm_rule.specs.declared.view.Book.{Book}
use Rattle.erm_rule.specs.declared.view.View.{View}
use Rattle.erm_rule.specs.Hands.{IsKnown}
use Rattle.erm_rule.specs.Steps.{Booked, Ready, Told}
use Rattle.erm_rule.specs.Views.{part_in, part_of, with_part}
use Rattle.erm_rule.proofs.Numbered.{known_after}
use Rattle.erm_rule.proofs.Telling.{changed_here, held_part, is_held, part_of-changed}
use Rattle.erm_cells.proofs.Views.{both, ready_at, refuse, told_is, told_next, when_true}
use Rattle.erm_cells.specs.Spare.{SpareIs}
use Rattle.erm_machine.specs.declared.limits.TheConstants.{FLUSH_SEAT, SESSIONS}
use Rattle.erm_precommit.specs.declared.pre.KeptClaim.{KeptClaim}
use Rattle.erm_precommit.specs.declared.pre.KeptRead.{KeptRead}
use Rattle.erm_precommit.specs.declared.pre.Pre.{Pre}
use Rattle.erm_precommit.specs.Pre.{IsPre}
use Rattle.erm_ends.specs.Ends.{AreReads, DidAbort, DidClearReads, DidLeave, DidReleaseClaims, DidSkip, HasCome, left_part, MayAbort, MayClearReads, MayLeave, MayReleaseClaims, MaySkip, released_all}
use Rattle.erm_ends.specs.Took.{TookAbort, TookBitClears, TookLeave, TookReleases, TookSkip}
use Rattle.erm_ends.proofs.Going.{chain, come_on, come_part, ending_taken}
use Rattle.erm_ends.proofs.Over.{over_length}

-- a session has words, and isn't the flush seat
pub session_seat : (who : ℕ) → is_session who ≡ true → is_seat who ≡ true
session_seat who e = ap (λ b. b || is_flusher who) e

decided_ending : (pl : Place) → is_decided pl ≡ true → (is_decided pl || is_active pl) ≡ true
decided_ending pl e = ap (λ b. b || is_active pl) e

ended_all : (t : Attempt) (raised step : ℕ) (o : Option (ℕ × ℕ × ℕ × ℕ)) → o ≡ Some (raised, length t.writes, step, length t.reads) → has_ended t o ≡ true
ended_all t raised step o is = ap (has_ended t) is ∙ both _ _ (eq-eqb (length t.writes) (length t.writes) refl) (eq-eqb (length t.reads) (length t.reads) refl)

-- where a commit goes back its stamp stands in the back word
back_stored : (x : Part) → (GoesBack x.current → x.back ≡ x.current.stamp) → (not (goes_back x.current) || eqb x.back x.current.stamp) ≡ true
back_stored x stored = by (goes_back x.current) refl
  where
    by : (b : Bool) → goes_back x.current ≡ b → (not b || eqb x.back x.current.stamp) ≡ true
    by true e = eq-eqb x.back x.current.stamp (stored (goes_back_is x.current e))
    by false e = refl

-- where a decided seat is once its begin word is cleared
abbrev leaving : Place → Place
leaving (Decided tail stamp) = Leaving stamp
leaving p = p

-- LEAVE
module _ (v : View) (who : ℕ) (may : MayLeave (part_of v who)) where
  abbrev x : Part
  x = part_of v who

  has : part_in v who ≡ Some x
  has = held_part v who (ending_taken x.place (decided_ending x.place may.decided))

  pub leave_held : IsSome (part_in v who)
  leave_held = is_held v who x has

  abbrev between : Part
  between = record x { place = leaving x.place; task = task.Rest }

  begin_at : (pl : Place) → is_decided pl ≡ true → store_begin who 0 x pl ≡ Some (record x { place = leaving pl; task = task.Rest })
  begin_at (Decided tail stamp) e =
      when_true _ (record x { place = Leaving stamp; task = task.Rest })
      (both _ _ (both _ _ refl (ended_all x.current may.raised may.step (end_of x.task) may.ends)) (back_stored x may.back))
  begin_at _ e = absurd (cc)

  state_at : (pl : Place) → is_decided pl ≡ true → store_state who 0 (record x { place = leaving pl; task = task.Rest }) (leaving pl) ≡ Some (left_part x.current.decision x)
  state_at (Decided tail stamp) e = refl
  state_at _ e = absurd (cc)

  pub leave_begin : Ready v who (kind.StoreBegin 0)
  leave_begin = ready_at v who (kind.StoreBegin 0) x has (λ _. between) (λ c sound. begin_at x.place may.decided)

  module _ (found : ℕ) (u : View) (told : Told v who (kind.StoreBegin 0) found u) where
    is : u ≡ with_part who between v
    is = told_is v who (kind.StoreBegin 0) found u x between has told (begin_at x.place may.decided)

    here : part_in u who ≡ Some between
    here = changed_here v who u between x has is

    pub leave_held_2 : IsSome (part_in u who)
    leave_held_2 = is_held u who between here

    pub leave_state : Ready u who (kind.StoreState 0)
    leave_state = ready_at u who (kind.StoreState 0) between here (λ _. left_part x.current.decision x) (λ c sound. state_at x.place may.decided)

    pub did_leave : (found : ℕ) (w : View) → Told u who (kind.StoreState 0) found w → DidLeave v who w
    did_leave found w last = record {
      view_is = told_next v who (kind.StoreState 0) found u w between x (left_part x.current.decision x) has is last (state_at x.place may.decided);
      known = known_after u who (kind.StoreState 0) found w last;
    }

-- after the claims are released
module _ (v : View) (who : ℕ) (place : (is_decided (part_of v who).place || is_active (part_of v who).place) ≡ true) (excluded : (part_of v who).current.decision ≡ Commit → ⊥)
    (u : View) (did : DidReleaseClaims v who u) where
  abbrev z : Part
  z = part_of v who

  has_z : part_in v who ≡ Some z
  has_z = held_part v who (ending_taken z.place place)

  come_z : part_of u who ≡ with_task did.come.task (released_all z)
  come_z = come_part v who z (released_all z) (0, length z.current.writes, 0, 0) u has_z did.come

  pub may_clear : (reads : List KeptRead) → AreReads reads z.current → MayClearReads reads (part_of u who)
  may_clear reads kept =
      subst (MayClearReads reads) (sym come_z)
      (record {
        raised = 0;
        step = 0;
        place = place;
        ends = did.come.ends ∙ ap (λ (m : ℕ). Some (0, m, 0, 0)) (sym (over_length (length z.current.writes) z.current.writes));
        all_raised = λ e. absurd (excluded e);
        reads = record { count = kept.count; each = kept.each };
      })

  -- the steps, one after another
  module _ (law : Law) (b releasing clearing e : Book) (same : b.view ≡ v) (releases : TookReleases law who z.current b releasing) (clears : TookBitClears law who (part_of u who).current releasing clearing) where
    part_b : z ≡ part_of b.view who
    part_b = ap (λ (q : View). part_of q who) (sym same)

    all_releases : TookReleases law who (part_of b.view who).current b releasing
    all_releases = subst (λ (y : Part). TookReleases law who y.current b releasing) part_b releases

    all_clears : TookBitClears law who (part_of b.view who).current releasing clearing
    all_clears = subst (λ (y : Part). TookBitClears law who y.current releasing clearing) part_b (subst (λ (y : Part). TookBitClears law who y.current releasing clearing) come_z clears)

    pub took_skip : TookLeave law who clearing e → TookSkip law who b e
    took_skip leaves = record { released = releasing; releases = all_releases; cleared = clearing; clears = all_clears; leaves = leaves }

    pub took_abort : (begin : ℕ) → Booked law clearing who (kind.StoreBegin 0) begin e → TookAbort law who b e
    took_abort begin leaves = record { released = releasing; releases = all_releases; cleared = clearing; clears = all_clears; begin = begin; leaves = leaves }

  -- and after the bits are cleared
  module _ (w : View) (cleared : DidClearReads u who w) where
    abbrev all_ended : ℕ × ℕ × ℕ × ℕ
    all_ended = (cleared.raised, length (part_of u who).current.writes, cleared.step, length (part_of u who).current.reads)

    come_w : HasCome v who (released_all z) all_ended w
    come_w = come_on v who z (released_all z) (0, length z.current.writes, 0, 0) u has_z did.come all_ended w cleared.come

    part_w : part_of w who ≡ with_task come_w.task (released_all z)
    part_w = come_part v who z (released_all z) all_ended w has_z come_w

    ends_w : end_of come_w.task ≡ Some (cleared.raised, length (released_all z).current.writes, cleared.step, length (released_all z).current.reads)
    ends_w = come_w.ends ∙ ap (λ (y : Part). Some (cleared.raised, length y.current.writes, cleared.step, length y.current.reads)) come_z

    -- SKIP
    pub may_leave : is_decided z.place ≡ true → MayLeave (part_of w who)
    may_leave decided = subst MayLeave (sym part_w) (record { raised = cleared.raised; step = cleared.step; decided = decided; ends = ends_w; back = λ g. absurd (excluded g.commit) })

    module _ (t : View) (left : DidLeave w who t) where
      skipped : t ≡ with_part who (left_part z.current.decision (released_all z)) v
      skipped = chain v who w t z (with_task come_w.task (released_all z)) (λ y. left_part y.current.decision y) has_z come_w.view_is left.view_is

      pub did_skip : DidSkip v who t
      did_skip = record { view_is = skipped; known = left.known }

      pub skip_spare : (spare : List ℕ) → SpareIs spare (part_of u who) → SpareIs spare (part_of t who)
      skip_spare spare is =
          subst (SpareIs spare) (sym (part_of-changed v who t (left_part z.current.decision (released_all z)) z has_z skipped)) (subst (SpareIs spare) come_z is)

    -- ABORT
    abbrev y : Part
    y = with_task come_w.task (released_all z)

    in_w : part_in w who ≡ Some y
    in_w = changed_here v who w y z has_z come_w.view_is

    pub abort_held : IsSome (part_in w who)
    abort_held = is_held w who y in_w

    abort_at : (pl : Place) → is_active pl ≡ true → is_flusher who ≡ false → store_begin who 0 y pl ≡ Some (left_part Abort (released_all z))
    abort_at (Active tail) e session =
        when_true _ _ (ended_all y.current cleared.raised cleared.step (end_of y.task) ends_w)
        ∙ ap (λ (q : Part). Some q) (refuse (is_flusher who) (with_current blank (record y { place = Idle; task = task.Rest })) (left_part Abort (released_all z)) session)
    abort_at _ e session = absurd (cc)

    module _ (active : is_active z.place ≡ true) (session : is_flusher who ≡ false) where
      pub abort_ready : Ready w who (kind.StoreBegin 0)
      abort_ready = ready_at w who (kind.StoreBegin 0) y in_w (λ _. left_part Abort (released_all z)) (λ c sound. abort_at z.place active session)

      module _ (found : ℕ) (t : View) (told : Told w who (kind.StoreBegin 0) found t) where
        aborts : t ≡ with_part who (left_part Abort (released_all z)) v
        aborts = told_next v who (kind.StoreBegin 0) found w t y z (left_part Abort (released_all z)) has_z come_w.view_is told (abort_at z.place active session)

        pub did_abort : DidAbort v who t
        did_abort = record { view_is = aborts; known = known_after w who (kind.StoreBegin 0) found t told }

        pub abort_spare : (spare : List ℕ) → SpareIs spare (part_of u who) → SpareIs spare (part_of t who)
        abort_spare spare is =
            subst (SpareIs spare) (sym (part_of-changed v who t (left_part Abort (released_all z)) z has_z aborts)) (subst (SpareIs spare) come_z is)

-- an active transaction isn't decided, and one that adds no version isn't a commit
active_undecided : (pl : Place) (t : Attempt) → is_active pl ≡ true → IsCurrent pl t → t.decision ≡ Undecided
active_undecided (Active tail) t e is = is.decision
active_undecided _ t e is = absurd (cc)

pub active_excluded : (v : View) (who : ℕ) → IsKnown v → is_active (part_of v who).place ≡ true → (part_of v who).current.decision ≡ Commit → ⊥
active_excluded v who known active e =
    let x = part_of v who in
    let has = held_part v who (ending_taken x.place (active_ending x.place active)) in
    let there : known.core.seats who ≡ x = known.is_view who x has in
    let none = active_undecided x.place x.current active (subst (λ (z : Part). IsCurrent z.place z.current) there (known.sound.own who).ranges.current) in
    let same = sym none ∙ e in
    absurd (cc)
  where
    active_ending : (pl : Place) → is_active pl ≡ true → (is_decided pl || is_active pl) ≡ true
    active_ending (Active tail) e = refl
    active_ending _ e = absurd (cc)

pub active_ends : (pl : Place) → is_active pl ≡ true → ((is_decided pl || is_active pl) ≡ true) × (is_decided pl ≡ false)
active_ends (Active tail) e = (refl, refl)
active_ends _ e = absurd (cc)

pub skip_excluded : (x : Part) → is_decided x.place ≡ true → adds_version x ≡ false → x.current.decision ≡ Commit → ⊥
skip_excluded x decided excluded e =
    let commits : is_commit x.current.decision ≡ true = ap is_commit e in
    let both_hold : adds_version x ≡ true = both (is_decided x.place) (is_commit x.current.decision) decided commits in
    let same = sym excluded ∙ both_hold in
    absurd (cc)

pub session_not_flusher : (who : ℕ) → is_session who ≡ true → is_flusher who ≡ false
session_not_flusher who e = let low : who ≤ SESSIONS = leb-true who SESSIONS (and_parts (ltb 0 who) (leb who SESSIONS) e).1 in ne_eqb who FLUSH_SEAT (λ is. omega (arith, low, is))

pub decided_ends : (pl : Place) → is_decided pl ≡ true → (is_decided pl || is_active pl) ≡ true
decided_ends pl e = decided_ending pl e

pub may_release : (claims : List KeptClaim) (reads : List KeptRead) (x : Part) → MayAbort reads claims x → MayReleaseClaims claims x
may_release claims reads x may = record {
  excluded = ap (λ b. b && is_commit x.current.decision) (active_ends x.place may.active).1;
  place = (active_ends x.place may.active).0;
  ends = may.ends;
  claims = may.claims_kept;
}

pub skip_claims : (pre : Pre) (x : Part) → IsPre pre x → MaySkip x → MayReleaseClaims pre.claims.value.items x
skip_claims pre x kept may = record {
  excluded = may.excluded;
  place = decided_ending x.place may.decided;
  ends = ap end_of may.ends;
  claims = record { count = kept.claim_count; each = kept.claims };
}

pub skip_reads : (pre : Pre) (x : Part) → IsPre pre x → AreReads pre.reads.value.items x.current
skip_reads pre x kept = record { count = kept.read_count; each = kept.reads }
