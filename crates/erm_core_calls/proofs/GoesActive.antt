-- The calls of an active transaction go on.
use Rattle.std.proofs.Common.{◌≡◌, ◌≢◌, ℕ, ◌+◌, ◌-◌, ◌<◌, ◌≤◌, ◌⊎◌, ⊎_elim, true, false, eqb, Option, Some, None, refl, sym, ap, ◌∙◌, subst, inl, inr, arith}
use Rattle.std.specs.Prelude.{◌&&◌, nat_lt}
use Rattle.std.proofs.lemmas.Bool.{and_from, cases_Bool, eq-eqb, eqb-false, ne_eqb, lt-ltb, le-leb, cond-true, not_from_false}
use Rattle.erm_machine.specs.declared.limits.TheConstants.{ANNOUNCERS, OBJECT_LIMIT}
use Rattle.erm_machine.specs.declared.event.Kind.TheVariants as kind
use Rattle.erm_machine.specs.declared.event.Counter.TheVariants.{Objects}
use Rattle.erm_machine.specs.declared.event.TailUse.TheVariants as purpose
use Rattle.erm_machine.specs.declared.place.Place.TheVariants.{Active}
use Rattle.erm_machine.specs.declared.task.Task.{Task}
use Rattle.erm_machine.specs.declared.task.Task.TheVariants as task
use Rattle.erm_machine.specs.declared.version.CellWord.TheVariants as word
use Rattle.erm_machine.specs.declared.version.VersionAt.{VersionAt}
use Rattle.erm_machine.specs.Bounds.{IsBounded}
use Rattle.erm_machine.specs.Chains.{IsNamed, NamedInHand, IsDetached, CutInHand}
use Rattle.erm_machine.specs.Core.{Core, Object, version_at}
use Rattle.erm_machine.specs.Life.{load_tail_for_horizon, load_begin, lower, after_clear}
use Rattle.erm_machine.specs.Reading.{head_version, entered, load_entry, load_walked_stamp, load_walked_link, older, after_cut, swap_link, load_detached, add_counter, load_active_stamp}
use Rattle.erm_machine.specs.Seat.{is_active, is_sealed, is_vacant, same_version}
use Rattle.erm_machine.specs.Snapshot.{InHand}
use Rattle.erm_machine.specs.Sound.{Sound}
use Rattle.erm_machine.specs.Words.{begin_of, is_clear, is_seat, is_session, owner_of, state_of}
use Rattle.erm_machine.proofs.Guards.{either_way}
use Rattle.erm_machine.proofs.Holders.{begun_attached}
use Rattle.erm_machine.proofs.QuietKinds.{begun_active}
use Rattle.erm_core_calls.specs.Going.{MovesOn, Waits, for_owner}
use Rattle.erm_core_calls.proofs.Moving.{rank, Apart, unlike, unlike_if, place_at, next_at, more, to_task, same_self, branch, other_branch}

-- a task to which the load of an entry doesn't lead
pub entered_other : (p oid entry : ℕ) (o : Object) (t : Task) → eqb 1 (rank t) ≡ false → eqb 3 (rank t) ≡ false → eqb 10 (rank t) ≡ false → Apart t (entered p oid entry o)
entered_other p oid entry o t owned walks claimed =
    unlike_if t (eqb (owner_of entry) 0) (task.Walks (head_version oid entry o) (Some entry)) _ (unlike t _ walks)
    (unlike_if t (eqb (owner_of entry) p) (task.Claimed (head_version oid entry o)) (task.Owned oid (owner_of entry)) (unlike t _ claimed) (unlike t _ owned))

module _ (c : Core) (p : ℕ) (sound : Sound c) where
  -- what is known of the task at hand
  pub bound_at : (t : Task) → (c.seats p).task ≡ t → IsBounded p (c.seats p).current t
  bound_at t at = subst (IsBounded p (c.seats p).current) at (sound.own p).bounds.bounded

  pub named_at : (t : Task) → (c.seats p).task ≡ t → NamedInHand c.shared t
  named_at t at = subst (NamedInHand c.shared) at (sound.own p).chains.named

  -- a look that finds another seat clear
  pub looks_on : (other bound : ℕ) (t u : Task) → (c.seats p).task ≡ t → is_vacant (c.seats p).place ≡ false → is_seat other ≡ true → other ≢ p → bound ≤ (c.seats p).seen →
      is_clear (state_of (c.seats other).place) bound ≡ true → after_clear other bound (c.seats p) t ≡ u → Apart t u → MovesOn c p (kind.LoadState other bound)
  looks_on other bound t u at there words another low clear leads ne =
      to_task c p (kind.LoadState other bound) t _ _ at tt words refl
      (and_from _ _ (and_from _ _ (not_from_false _ there) (not_from_false _ (ne_eqb other p another))) (le-leb bound (c.seats p).seen low))
      (record { apart = λ same. ne.apart (sym (cond-true (is_clear (state_of (c.seats other).place) bound) (after_clear other bound (c.seats p) (c.seats p).task) (c.seats p).task clear ∙ ap (after_clear other bound (c.seats p)) at ∙ leads) ∙ same) })

  module _ (tail : ℕ) (pl : (c.seats p).place ≡ Active tail) where
    active : is_active (c.seats p).place ≡ true
    active = ap is_active pl

    not_sealed : is_sealed (c.seats p).place ≡ false
    not_sealed = ap is_sealed pl

    pub g_owned : (oid owner : ℕ) → (c.seats p).task ≡ task.Owned oid owner → MovesOn c p (kind.LoadState owner (c.seats p).current.begin) ⊎ Waits c p
    g_owned oid owner at =
        let b = bound_at (task.Owned oid owner) at in
        let begin = (c.seats p).current.begin in
        ⊎_elim
        (λ (clear : is_clear (state_of (c.seats owner).place) begin ≡ true).
        inl (looks_on owner begin (task.Owned oid owner) (task.Cleared oid) at (ap is_vacant pl) b.has_words b.another (sound.own p).bounds.begin_seen clear
        (cond-true _ _ _ (and_from _ _ (eq-eqb owner owner refl) (le-leb begin begin (omega arith)))) (search unlike)))
        (λ (waits : is_clear (state_of (c.seats owner).place) begin ≡ false). inr (for_owner oid owner at waits))
        (cases_Bool _)

    pub g_cleared : (oid : ℕ) → (c.seats p).task ≡ task.Cleared oid → MovesOn c p (kind.LoadEntry oid)
    g_cleared oid at =
        let known : oid < OBJECT_LIMIT = named_at (task.Cleared oid) at in
        to_task c p (kind.LoadEntry oid) (task.Cleared oid) _ _ at tt (lt-ltb oid OBJECT_LIMIT known)
        (other_branch _ _ _ _ not_sealed (ap (load_entry p oid (c.shared.objects oid).entry (c.shared.objects oid) (c.seats p)) at)) active
        (unlike_if (task.Cleared oid) (eqb oid oid) (task.Walks (head_version oid (c.shared.objects oid).entry (c.shared.objects oid)) None) (entered p oid (c.shared.objects oid).entry (c.shared.objects oid)) (unlike _ _ refl)
        (entered_other p oid (c.shared.objects oid).entry (c.shared.objects oid) (task.Cleared oid) refl refl refl))

    pub g_walks : (v : VersionAt) (head : Option ℕ) → (c.seats p).task ≡ task.Walks v head → MovesOn c p (kind.LoadCell v word.Stamp)
    g_walks v head at =
        let known = (named_at (task.Walks v head) at).object in
        to_task c p (kind.LoadCell v word.Stamp) (task.Walks v head) _ _ at tt (and_from _ _ (lt-ltb v.oid OBJECT_LIMIT known) refl)
        (branch _ _ _ _ active (ap (load_walked_stamp _ v (c.seats p)) at)) (same_self v)
        (search (unlike_if, unlike))

    -- a version that isn't below the begin stamp isn't the oldest that is attached: its link leads on
    pub leads_on : (v : VersionAt) → IsNamed c.shared v → InHand c.shared (c.seats p).current.begin (task.Passed v) →
        (same_version v v && nat_lt 0 (version_at (c.shared.objects v.oid) v.place).words.link && nat_lt 0 v.place) ≡ true
    leads_on v named in_hand =
        let linked = sound.common.chains.linked v.oid named.object in
        let begun = begun_active (c.seats p).place active in
        let low = (sound.own p).attached.below v.oid named.object begun in
        let cut = begun_attached c p v.oid v.place sound named.object begun in_hand.0 in
        let high = in_hand.1 in
        let above : (c.shared.objects v.oid).cut < v.place = above_cut (c.shared.objects v.oid).cut v.place cut (λ (same : (c.shared.objects v.oid).cut ≡ v.place).
        let h = ap (λ n. (version_at (c.shared.objects v.oid) n).words.stamp) same in omega (arith, low, high, h)) in
        let link = linked.older v.place above named.within in
        and_from _ _ (and_from _ _ (same_self v) (lt-ltb 0 (version_at (c.shared.objects v.oid) v.place).words.link (omega (arith, link)))) (lt-ltb 0 v.place (omega (arith, above)))
      where
        above_cut : (m n : ℕ) → m ≤ n → (m ≡ n → ⊥) → m < n
        above_cut m n le ne = grind arith

    pub g_passed : (v : VersionAt) → (c.seats p).task ≡ task.Passed v → MovesOn c p (kind.LoadCell v word.Link)
    g_passed v at =
        let named = named_at (task.Passed v) at in
        let in_hand : InHand c.shared (c.seats p).current.begin (task.Passed v) = subst (InHand c.shared (c.seats p).current.begin) at (sound.own p).snapshot.in_hand in
        to_task c p (kind.LoadCell v word.Link) (task.Passed v) _ _ at tt (and_from _ _ (lt-ltb v.oid OBJECT_LIMIT named.object) refl)
        (branch _ _ _ _ active (ap (load_walked_link _ v (c.seats p)) at))
        (leads_on v named in_hand)
        (search unlike)

    pub g_registered : (v : VersionAt) → (c.seats p).task ≡ task.Registered v → MovesOn c p (kind.LoadStamp v word.Overwriter)
    g_registered v at =
        let known = (named_at (task.Registered v) at).object in
        to_task c p (kind.LoadStamp v word.Overwriter) (task.Registered v) _ _ at tt (lt-ltb v.oid OBJECT_LIMIT known)
        (branch _ _ _ _ active (ap (load_active_stamp _ v word.Overwriter (c.seats p)) at)) (same_self v)
        (search (unlike_if, unlike))

    pub g_overtaken : (v : VersionAt) (overwriter : ℕ) → (c.seats p).task ≡ task.Overtaken v overwriter → MovesOn c p (kind.LoadStamp v word.OverwriterSucc)
    g_overtaken v overwriter at =
        let known = (named_at (task.Overtaken v overwriter) at).object in
        to_task c p (kind.LoadStamp v word.OverwriterSucc) (task.Overtaken v overwriter) _ _ at tt (lt-ltb v.oid OBJECT_LIMIT known)
        (branch _ _ _ _ active (ap (load_active_stamp _ v word.OverwriterSucc (c.seats p)) at)) (same_self v) (search unlike)

    -- A session draws a number.
    pub g_numbers : is_session p ≡ true → (c.seats p).task ≡ task.Numbers → MovesOn c p (kind.AddCounter Objects)
    g_numbers session at =
        to_task c p (kind.AddCounter Objects) task.Numbers _ _ at tt refl (ap (add_counter c.shared.cell_limit p Objects c.shared.objects_drawn (c.seats p)) at) (and_from _ _ active session) (search unlike)

    -- The flush seat, which may see the counter too, goes on with a read of some object.
    pub g_leaves_numbers : (oid : ℕ) → oid < OBJECT_LIMIT → (c.seats p).task ≡ task.Numbers → MovesOn c p (kind.LoadEntry oid)
    g_leaves_numbers oid known at =
        to_task c p (kind.LoadEntry oid) task.Numbers _ _ at tt (lt-ltb oid OBJECT_LIMIT known)
        (other_branch _ _ _ _ not_sealed (ap (load_entry p oid (c.shared.objects oid).entry (c.shared.objects oid) (c.seats p)) at)) (and_from _ _ active refl)
        (entered_other p oid (c.shared.objects oid).entry (c.shared.objects oid) task.Numbers refl refl refl)

    pub g_claimed : (v : VersionAt) → (c.seats p).task ≡ task.Claimed v → MovesOn c p (kind.LoadTail purpose.Horizon)
    g_claimed v at = to_task c p (kind.LoadTail purpose.Horizon) (task.Claimed v) _ _ at tt refl (ap (load_tail_for_horizon _ (c.seats p)) at) active (search unlike)

    pub g_horizon : (v : VersionAt) (least next : ℕ) → (c.seats p).task ≡ task.Horizon v least next → MovesOn c p (kind.LoadBegin next)
    g_horizon v least next at =
        let low : next < ANNOUNCERS = bound_at (task.Horizon v least next) at in
        to_task c p (kind.LoadBegin next) (task.Horizon v least next) _ _ at tt refl (ap (load_begin p next _ (c.seats p)) at)
        (and_from _ _ (and_from _ _ active (eq-eqb next next refl)) (lt-ltb next ANNOUNCERS low))
        (unlike_if (task.Horizon v least next) (eqb (next + 1) ANNOUNCERS) (task.CutWalks v (lower least (begin_of (c.seats next).place))) (task.Horizon v (lower least (begin_of (c.seats next).place)) (next + 1))
        (search unlike) (record { apart = λ e. more next (ap next_at e) }))

    pub g_cut_walks : (v : VersionAt) (horizon : ℕ) → (c.seats p).task ≡ task.CutWalks v horizon → MovesOn c p (kind.LoadCell v word.Stamp)
    g_cut_walks v horizon at =
        let known = (named_at (task.CutWalks v horizon) at).object in
        to_task c p (kind.LoadCell v word.Stamp) (task.CutWalks v horizon) _ _ at tt (and_from _ _ (lt-ltb v.oid OBJECT_LIMIT known) refl)
        (branch _ _ _ _ active (ap (load_walked_stamp _ v (c.seats p)) at)) (same_self v)
        (search (unlike_if, unlike))

    -- a cut that is done
    after_cut_other : (t : Task) → eqb 16 (rank t) ≡ false → eqb 0 (rank t) ≡ false → Apart t (after_cut (c.seats p))
    after_cut_other t draws rest = unlike_if t _ task.Draws task.Rest (unlike t _ draws) (unlike t _ rest)

    pub g_cut_passed : (v : VersionAt) (horizon : ℕ) → (c.seats p).task ≡ task.CutPassed v horizon → MovesOn c p (kind.LoadCell v word.Link)
    g_cut_passed v horizon at =
        let known = (named_at (task.CutPassed v horizon) at).object in
        to_task c p (kind.LoadCell v word.Link) (task.CutPassed v horizon) _ _ at tt (and_from _ _ (lt-ltb v.oid OBJECT_LIMIT known) refl)
        (branch _ _ _ _ active (ap (load_walked_link _ v (c.seats p)) at)) (same_self v)
        (search (unlike_if, unlike, after_cut_other))

    pub g_cut_found : (v : VersionAt) (horizon : ℕ) → (c.seats p).task ≡ task.CutFound v horizon → MovesOn c p (kind.SwapLink v)
    g_cut_found v horizon at =
        let known = (named_at (task.CutFound v horizon) at).object in
        to_task c p (kind.SwapLink v) (task.CutFound v horizon) _ _ at tt (lt-ltb v.oid OBJECT_LIMIT known)
        (ap (swap_link _ v (c.shared.objects v.oid) (c.seats p)) at) (and_from _ _ active (same_self v))
        (search (unlike_if, unlike, after_cut_other))

    -- A link that isn't 0 isn't that of the last version cut off: an older one is behind.
    pub g_detaches : (v : VersionAt) → (c.seats p).task ≡ task.Detaches v → MovesOn c p (kind.LoadDetached v)
    g_detaches v at =
        let known = (named_at (task.Detaches v) at).object in
        let cut : IsDetached c.shared (c.seats p) v = subst (CutInHand c.shared (c.seats p)) at (sound.own p).chains.cut in
        let link = (version_at (c.shared.objects v.oid) v.place).words.link in
        let below = cut.below in
        to_task c p (kind.LoadDetached v) (task.Detaches v) _ _ at tt (lt-ltb v.oid OBJECT_LIMIT known)
        (ap (load_detached _ v (c.seats p)) at) (and_from _ _ active (same_self v))
        (either_way (Apart (task.Detaches v)) (eqb link 0) (after_cut (c.seats p)) (task.Detaches (older v link)) (λ _. after_cut_other (task.Detaches v) refl refl)
        (λ some.
        let not_last : cut.last ≡ v.place → ⊥ = λ (same : cut.last ≡ v.place). eqb-false link 0 some (subst (λ n. (version_at (c.shared.objects v.oid) n).words.link ≡ 0) same cut.ends) in
        record { apart = λ e. before v.place cut.last below not_last (ap place_at e) }))
      where
        before : (n last : ℕ) → last ≤ n → (last ≡ n → ⊥) → n - 1 ≢ n
        before n last le ne = grind arith
