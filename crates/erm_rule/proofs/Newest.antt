-- Each event keeps this: a cut in progress cuts behind the newest version below its horizon.
use Rattle.std.proofs.Common.{◌≡◌, ◌≢◌, ℕ, ◌+◌, ◌-◌, ◌<◌, ◌≤◌, ⊎_elim, Bool, true, false, ◌&&◌, ◌||◌, length, Option, Some, None, inl, inr, refl, sym, ap, ◌∙◌, subst, arith}
use Rattle.std.specs.Prelude.{if◌then◌else◌, nat_le, ◌==◌}
use Rattle.std.proofs.lemmas.Bool.{and_parts, cases_eq, cases_lt, eqb-true, ltb-false}
use Rattle.std.proofs.lemmas.List.{get_or_past}
use Rattle.std.proofs.lemmas.Option.{same_Some}
use Rattle.erm_machine.specs.declared.event.Kind.{Kind}
use Rattle.erm_machine.specs.declared.event.Kind.TheVariants as kind
use Rattle.erm_machine.specs.declared.event.TailUse.{TailUse}
use Rattle.erm_machine.specs.declared.event.TailUse.TheVariants as purpose
use Rattle.erm_machine.specs.declared.limits.TheConstants.{ANNOUNCERS}
use Rattle.erm_machine.specs.declared.part.Part.{Part}
use Rattle.erm_machine.specs.declared.task.Task.{Task}
use Rattle.erm_machine.specs.declared.task.Task.TheVariants as task
use Rattle.erm_machine.specs.declared.version.CellWord.{CellWord}
use Rattle.erm_machine.specs.declared.version.CellWord.TheVariants as word
use Rattle.erm_machine.specs.declared.version.Version.{Version}
use Rattle.erm_machine.specs.declared.version.VersionAt.{VersionAt}
use Rattle.erm_machine.specs.Chains.{CutInHand, HeadInHand}
use Rattle.erm_machine.specs.Core.{Core, Object, Shared, no_version, claim_at, spot_of, word_at, version_at, newest}
use Rattle.erm_machine.specs.Facts.{Holds}
use Rattle.erm_machine.specs.Life.{load_tail_for_horizon, lower, after_passed, after_survey, load_begin, after_clear, load_state, split, join}
use Rattle.erm_machine.specs.Reading.{after_cut, head_version, older, entered, lost, load_entry, claim, set_reader, load_walked_stamp, load_walked_link, load_cell, swap_link, detached, load_detached, load_active_stamp}
use Rattle.erm_machine.specs.Seat.{end_of, is_active, is_sealed}
use Rattle.erm_machine.specs.Settling.{load_read_entry, load_settled_stamp, load_stamp}
use Rattle.erm_machine.specs.Snapshot.{NewerFrom}
use Rattle.erm_machine.specs.Sound.{Sound}
use Rattle.erm_machine.specs.Step.{shared_after, after_event, with_part, installed, added}
use Rattle.erm_machine.specs.Words.{put, is_clear, is_least_bit, owner_of, without_bit}
use Rattle.erm_machine.proofs.Backs.{entry_then}
use Rattle.erm_machine.proofs.Frames.{at_cases, each_seat}
use Rattle.erm_machine.proofs.Guards.{when_then, if_then, either_way, unless_some}
use Rattle.erm_machine.proofs.Holders.{held_once, stands_in}
use Rattle.erm_machine.proofs.QuietKinds.{MeetsOne, Moves, moves}
use Rattle.erm_core_cells.proofs.ChainsFrames.{CutsNone, grows_after, KeepsHeads, heads_after, put_object, same_name}
use Rattle.erm_core_cells.proofs.ChainsInstalls.{Adds, Releases, Ends, install_outcome}
use Rattle.erm_core_cells.proofs.ChainsStays.{IsBare, Stays, KeepsHand, stays_kind, over_install, s_load_read_entry, s_settled_stamp}
use Rattle.erm_rule.specs.Newest.{NewestInHand, CutsAtNewest}

-- the versions stay, with their stamps
record SameVersions (o u : Object) : Type 0 where
  pub as_long : length u.versions ≡ length o.versions
  pub stamp : (k : ℕ) → (version_at u k).words.stamp ≡ (version_at o k).words.stamp

same_versions : (o : Object) → SameVersions o o
same_versions o = record { as_long = refl; stamp = λ k. refl }

same_from : (o u : Object) → length u.versions ≡ length o.versions → ((k : ℕ) → k < length o.versions → (version_at u k).words.stamp ≡ (version_at o k).words.stamp) → SameVersions o u
same_from o u as_long stamps = record {
  as_long = as_long;
  stamp = λ k.
      ⊎_elim (λ (within : k < length o.versions). stamps k within)
      (λ (past : length o.versions ≤ k).
      ap (λ (v : Version). v.words.stamp) (get_or_past u.versions k no_version (omega (arith, past, as_long)))
      ∙ sym (ap (λ (v : Version). v.words.stamp) (get_or_past o.versions k no_version past)))
      (cases_lt k (length o.versions));
}

newer_kept : (o u : Object) (place bound : ℕ) → SameVersions o u → NewerFrom o place bound → NewerFrom u place bound
newer_kept o u place bound g newer k above below =
    let long = g.as_long in
    let within : k < length o.versions = omega (arith, below, long) in
    let old = newer k above within in
    let same = g.stamp k in
    omega (arith, old, same)

top_kept : (o u : Object) (place : ℕ) → SameVersions o u → place ≡ newest o → place ≡ newest u
top_kept o u place g is = let long = g.as_long in omega (arith, is, long)

passed_kept : (o u : Object) (place bound : ℕ) → SameVersions o u → bound ≤ (version_at o place).words.stamp → bound ≤ (version_at u place).words.stamp
passed_kept o u place bound g above = let same = g.stamp place in omega (arith, above, same)

-- at the head none is newer
none_newer : (o : Object) (place bound : ℕ) → place ≡ newest o → NewerFrom o place bound
none_newer o place bound top k above below = absurd (omega (arith, top, above, below))

-- nor is one that was passed below the horizon
one_older : (o : Object) (place bound : ℕ) → NewerFrom o place bound → bound ≤ (version_at o place).words.stamp → NewerFrom o (place - 1) bound
one_older o place bound newer here k above below =
    ⊎_elim (λ (same : k ≡ place). let e = ap (λ n. (version_at o n).words.stamp) same in omega (arith, e, here))
    (λ (ne : k ≡ place → ⊥). newer k (omega (arith, above, ne)) below) (cases_eq k place)

-- what is in hand, where all versions stay, or those of claimed objects
module _ (s t : Shared) where
  all_kept : (u : Task) → ((oid : ℕ) → SameVersions (s.objects oid) (t.objects oid)) → NewestInHand s u → NewestInHand t u
  all_kept (task.Claimed version) g h = top_kept _ _ version.place (g version.oid) h
  all_kept (task.Horizon version least next) g h = top_kept _ _ version.place (g version.oid) h
  all_kept (task.CutWalks version horizon) g h = newer_kept _ _ version.place horizon (g version.oid) h
  all_kept (task.CutPassed version horizon) g h = (newer_kept _ _ version.place horizon (g version.oid) h.0, passed_kept _ _ version.place horizon (g version.oid) h.1)
  all_kept (task.CutFound version horizon) g h = newer_kept _ _ version.place horizon (g version.oid) h
  all_kept _ g h = tt

  held_kept : (x : Part) (u : Task) → CutInHand s x u → ((oid : ℕ) → Holds x oid → SameVersions (s.objects oid) (t.objects oid)) → NewestInHand s u → NewestInHand t u
  held_kept x (task.Claimed version) a g h = top_kept _ _ version.place (g version.oid a.claimed) h
  held_kept x (task.Horizon version least next) a g h = top_kept _ _ version.place (g version.oid a.claimed) h
  held_kept x (task.CutWalks version horizon) a g h = newer_kept _ _ version.place horizon (g version.oid a.claimed) h
  held_kept x (task.CutPassed version horizon) a g h =
      (newer_kept _ _ version.place horizon (g version.oid a.claimed) h.0, passed_kept _ _ version.place horizon (g version.oid a.claimed) h.1)
  held_kept x (task.CutFound version horizon) a g h = newer_kept _ _ version.place horizon (g version.oid a.0.claimed) h
  held_kept x _ a g h = tt

bare_newest : (s : Shared) (t : Task) → IsBare t → NewestInHand s t
bare_newest s (task.Claimed version) b = absurd b
bare_newest s (task.Horizon version least next) b = absurd b
bare_newest s (task.CutWalks version horizon) b = absurd b
bare_newest s (task.CutPassed version horizon) b = absurd b
bare_newest s (task.CutFound version horizon) b = absurd b
bare_newest s _ b = tt

stays_newest : (s : Shared) (x y : Part) → Stays x y → NewestInHand s x.task → NewestInHand s y.task
stays_newest s x y st h = elim st.stays [ inl b ↦ bare_newest s y.task b.bare | inr same ↦ subst (NewestInHand s) (sym same.0) h ]

newest_if : (s : Shared) (b : Bool) (t u : Task) → (b ≡ true → NewestInHand s t) → (b ≡ false → NewestInHand s u) → NewestInHand s (if b then t else u)
newest_if s b t u f g = either_way (NewestInHand s) b t u f g

abbrev After : Shared → Part → Type 0
After s y = NewestInHand s y.task

-- OWN STEPS
n_after_cut : (s : Shared) (x : Part) → NewestInHand s (after_cut x)
n_after_cut s x = newest_if s _ task.Draws task.Rest (λ _. tt) (λ _. tt)

n_off : (s : Shared) (found : ℕ) (v : VersionAt) (x : Part) → NewestInHand s (detached found v x)
n_off s found v x = newest_if s _ (after_cut x) (task.Detaches (older v found)) (λ _. n_after_cut s x) (λ _. tt)

n_horizon : (s : Shared) (found : ℕ) (x : Part) (t : Task) (y : Part) → NewestInHand s t → load_tail_for_horizon found x t ≡ Some y → After s y
n_horizon s found x (task.Claimed version) y h e = when_then (After s) _ _ y e (λ _. h)
n_horizon s found x _ y h e = absurd (cc)

n_passed : (s : Shared) (next : ℕ) → NewestInHand s (after_passed next)
n_passed s next = newest_if s _ task.Safe (task.Surveys (next + 1)) (λ _. tt) (λ _. tt)

n_survey : (s : Shared) (seat begin found next : ℕ) → NewestInHand s (after_survey seat begin found next)
n_survey s seat begin found next =
    newest_if s (next == seat) (after_passed next) (if (found == 0) || nat_le begin found then task.Behind next else task.Surveys next) (λ _. n_passed s next)
    (λ _. newest_if s _ (task.Behind next) (task.Surveys next) (λ _. tt) (λ _. tt))

n_begin_word : (s : Shared) (seat other found : ℕ) (x : Part) (t : Task) (y : Part) → NewestInHand s t → load_begin seat other found x t ≡ Some y → After s y
n_begin_word s seat other found x (task.Horizon version least next) y h e =
    when_then (After s) _ _ y e (λ _.
    newest_if s (next + 1 == ANNOUNCERS) (task.CutWalks version (lower least found)) (task.Horizon version (lower least found) (next + 1))
    (λ _. none_newer (s.objects version.oid) version.place (lower least found) h) (λ _. h))
n_begin_word s seat other found x (task.Surveys next) y h e = when_then (After s) _ _ y e (λ _. n_survey s seat x.current.begin found next)
n_begin_word s seat other found x _ y h e = absurd (cc)

n_clear : (s : Shared) (other bound : ℕ) (x : Part) (t : Task) → NewestInHand s t → NewestInHand s (after_clear other bound x t)
n_clear s other bound x (task.Owned oid owner) h = newest_if s _ (task.Cleared oid) (task.Owned oid owner) (λ _. tt) (λ _. tt)
n_clear s other bound x (task.ReadOwned read owner) h = newest_if s _ (task.ReadClear read) (task.ReadOwned read owner) (λ _. tt) (λ _. tt)
n_clear s other bound x (task.ReadersLeft write bits) h =
    newest_if s (is_least_bit bits other && nat_le x.current.stamp bound)
    (if without_bit bits other == 0 then task.WriteClear write else task.ReadersLeft write (without_bit bits other)) (task.ReadersLeft write bits)
    (λ _. newest_if s (without_bit bits other == 0) (task.WriteClear write) (task.ReadersLeft write (without_bit bits other)) (λ _. tt) (λ _. tt)) (λ _. tt)
n_clear s other bound x _ h = h

n_state : (s : Shared) (seat other bound found : ℕ) (x y : Part) → NewestInHand s x.task → load_state seat other bound found x ≡ Some y → After s y
n_state s seat other bound found x y h e =
    when_then (After s) _ _ y e (λ _. newest_if s (is_clear found bound) (after_clear other bound x x.task) x.task (λ _. n_clear s other bound x x.task h) (λ _. h))

n_entered : (s : Shared) (seat oid entry : ℕ) → NewestInHand s (entered seat oid entry (s.objects oid))
n_entered s seat oid entry =
    newest_if s (owner_of entry == 0) (task.Walks (head_version oid entry (s.objects oid)) (Some entry))
    (if owner_of entry == seat then task.Claimed (head_version oid entry (s.objects oid)) else task.Owned oid (owner_of entry)) (λ _. tt)
    (λ _. newest_if s (owner_of entry == seat) (task.Claimed (head_version oid entry (s.objects oid))) (task.Owned oid (owner_of entry)) (λ _. refl) (λ _. tt))

n_lost : (s : Shared) (seat oid entry : ℕ) (v : VersionAt) → NewestInHand s (lost seat oid entry v (s.objects oid))
n_lost s seat oid entry v = newest_if s _ (task.Passed (head_version oid entry (s.objects oid))) (entered seat oid entry (s.objects oid)) (λ _. tt) (λ _. n_entered s seat oid entry)

n_load_entry : (s : Shared) (seat oid found : ℕ) (x : Part) (t : Task) (y : Part) → load_entry seat oid found (s.objects oid) x t ≡ Some y → After s y
n_load_entry s seat oid found x (task.Cleared cleared) y e =
    when_then (After s) _ _ y e (λ _. newest_if s (oid == cleared) (task.Walks (head_version oid found (s.objects oid)) None) (entered seat oid found (s.objects oid)) (λ _. tt) (λ _. n_entered s seat oid found))
n_load_entry s seat oid found x t y e = entry_then (After s) seat oid found (s.objects oid) x t y e (λ _ _. tt) (λ _. n_entered s seat oid found)

n_claim : (s : Shared) (seat oid seen number : ℕ) (x : Part) (t : Task) (y : Part) → HeadInHand s t → claim seat oid seen number (s.objects oid).entry (s.objects oid) x t ≡ Some y → After s y
n_claim s seat oid seen number x (task.Found version stamp (Some entry)) y head e =
    when_then (After s) _ _ y e (λ g.
    let oid_is : oid ≡ version.oid = eqb-true _ _ (and_parts _ _ (and_parts _ _ (and_parts _ _ (and_parts _ _ g).0).0).0).1 in
    let seen_is : seen ≡ entry = eqb-true _ _ (and_parts _ _ (and_parts _ _ (and_parts _ _ g).0).0).1 in
    newest_if s ((s.objects oid).entry == seen) (task.Claimed version) (lost seat oid (s.objects oid).entry version (s.objects oid))
    (λ same. head.2 (ap (λ n. (s.objects n).entry) (sym oid_is) ∙ eqb-true _ _ same ∙ seen_is))
    (λ _. n_lost s seat oid (s.objects oid).entry version))
n_claim s seat oid seen number x _ y head e = absurd (cc)

n_set_reader : (s : Shared) (seat : ℕ) (v : VersionAt) (o : Object) (x : Part) (t : Task) (y : Part) → set_reader seat v o x t ≡ Some y → After s y
n_set_reader s seat v o x (task.Found found stamp head) y e = when_then (After s) _ _ y e (λ _. tt)
n_set_reader s seat v o x _ y e = absurd (cc)

n_active_stamp : (s : Shared) (found : ℕ) (v : VersionAt) (w : CellWord) (x : Part) (t : Task) (y : Part) → load_active_stamp found v w x t ≡ Some y → After s y
n_active_stamp s found v word.Overwriter x (task.Registered version) y e =
    when_then (After s) _ _ y e (λ _. newest_if s _ (task.Rated version) (task.Overtaken version found) (λ _. tt) (λ _. tt))
n_active_stamp s found v word.OverwriterSucc x (task.Overtaken version overwriter) y e = when_then (After s) _ _ y e (λ _. tt)
n_active_stamp s found v word.ReaderStamp x task.Draws y e = when_then (After s) _ _ y e (λ _. tt)
n_active_stamp s found v word.ReaderStamp x task.Fetched y e = when_then (After s) _ _ y e (λ _. tt)
n_active_stamp s found v _ x _ y e = absurd (cc)

n_load_stamp : (s : Shared) (found : ℕ) (v : VersionAt) (w : CellWord) (x y : Part) → NewestInHand s x.task → load_stamp found v w x ≡ Some y → After s y
n_load_stamp s found v w x y h e =
    if_then (After s) _ _ _ y e (λ _ f. n_active_stamp s found v w x x.task y f)
    (λ _ rest. if_then (After s) (is_sealed x.place) (load_settled_stamp found v w x x.task) None y rest (λ _ f. stays_newest s x y (s_settled_stamp found v w x x.task y f) h) (λ _ f. absurd (cc)))

n_detached : (s : Shared) (found : ℕ) (v : VersionAt) (x : Part) (t : Task) (y : Part) → load_detached found v x t ≡ Some y → After s y
n_detached s found v x (task.Detaches version) y e = when_then (After s) _ _ y e (λ _. n_off s found version x)
n_detached s found v x _ y e = absurd (cc)

abbrev stamp_of : Shared → VersionAt → ℕ
stamp_of s v = (version_at (s.objects v.oid) v.place).words.stamp

n_walked_stamp : (s : Shared) (v : VersionAt) (x : Part) (t : Task) (y : Part) → NewestInHand s t → load_walked_stamp (stamp_of s v) v x t ≡ Some y → After s y
n_walked_stamp s v x (task.Walks version head) y h e =
    when_then (After s) _ _ y e (λ _. newest_if s _ (task.Found version (stamp_of s v) head) (task.Passed version) (λ _. tt) (λ _. tt))
n_walked_stamp s v x (task.CutWalks version horizon) y h e =
    when_then (After s) _ _ y e (λ g.
    newest_if s _ (task.CutFound version horizon) (task.CutPassed version horizon) (λ _. h)
    (λ high. (h, subst (λ n. horizon ≤ stamp_of s n) (same_name v version g) (ltb-false (stamp_of s v) horizon high))))
n_walked_stamp s v x (task.SafeWalks version) y h e =
    when_then (After s) _ _ y e (λ _. newest_if s _ (task.SafeFound version) (task.SafePassed version) (λ _. tt) (λ _. tt))
n_walked_stamp s v x (task.Passed version) y h e = when_then (After s) _ _ y e (λ _. tt)
n_walked_stamp s v x _ y h e = absurd (cc)

n_walked_link : (s : Shared) (found : ℕ) (v : VersionAt) (x : Part) (t : Task) (y : Part) → NewestInHand s t → load_walked_link found v x t ≡ Some y → After s y
n_walked_link s found v x (task.Passed version) y h e = when_then (After s) _ _ y e (λ _. tt)
n_walked_link s found v x (task.SafePassed version) y h e = when_then (After s) _ _ y e (λ _. tt)
n_walked_link s found v x (task.CutPassed version horizon) y h e =
    when_then (After s) _ _ y e (λ _.
    newest_if s _ (after_cut x) (task.CutWalks (older version found) horizon) (λ _. n_after_cut s x) (λ _. one_older (s.objects version.oid) version.place horizon h.0 h.1))
n_walked_link s found v x _ y h e = absurd (cc)

n_cell : (c : Core) (p : ℕ) (v : VersionAt) (w : CellWord) (y : Part) → NewestInHand c.shared (c.seats p).task → load_cell (word_at c (spot_of p (kind.LoadCell v w))) v w (c.seats p) ≡ Some y → After c.shared y
n_cell c p v word.Stamp y h e =
    if_then (After c.shared) (is_active (c.seats p).place) (load_walked_stamp (stamp_of c.shared v) v (c.seats p) (c.seats p).task) None y e
    (λ _ f. n_walked_stamp c.shared v (c.seats p) (c.seats p).task y h f) (λ _ f. absurd (cc))
n_cell c p v word.Link y h e =
    if_then (After c.shared) (is_active (c.seats p).place) (load_walked_link _ v (c.seats p) (c.seats p).task) None y e
    (λ _ f. n_walked_link c.shared _ v (c.seats p) (c.seats p).task y h f) (λ _ f. absurd (cc))
n_cell c p v (word.Row k) y h e = when_then (After c.shared) _ _ y e (λ _. h)
n_cell c p v _ y h e = absurd (cc)

-- a swap is one of a claimed object's links, and leaves no place to find
n_swap : (s u : Shared) (found : ℕ) (v : VersionAt) (o : Object) (x : Part) (t : Task) (y : Part) → CutInHand s x t → swap_link found v o x t ≡ Some y → After u y
n_swap s u found v o x (task.CutFound version horizon) y a e = when_then (After u) _ _ y e (λ _. n_off u found version x)
n_swap s u found v o x _ y a e = absurd (cc)

swap_holds : (s : Shared) (found : ℕ) (v : VersionAt) (o : Object) (x : Part) (t : Task) (y : Part) → CutInHand s x t → swap_link found v o x t ≡ Some y → Holds x v.oid
swap_holds s found v o x (task.CutFound version horizon) y a e =
    when_then (λ _. Holds x v.oid) _ _ y e (λ g. subst (λ (n : VersionAt). Holds x n.oid) (sym (same_name v version (and_parts _ _ g).1)) a.0.claimed)
swap_holds s found v o x _ y a e = absurd (cc)

-- EVENTS
kept_from : (c : Core) (p : ℕ) (y : Part) (t : Shared) (d : Core) → After t y → ((q : ℕ) → q ≢ p → After t (c.seats q)) → record { shared = t; seats = put c.seats p y } ≡ d → CutsAtNewest d
kept_from c p y t d mine others is = subst CutsAtNewest is (each_seat (λ _ (z : Part). NewestInHand t z.task) c.seats p y mine others)

plain_kept : (c : Core) (p : ℕ) (k : Kind) (d : Core) → CutsNone k → KeepsHeads k → CutsAtNewest c → (m : Moves c p k d) → After c.shared m.part → CutsAtNewest d
plain_kept c p k d none heads all m mine =
    let found = word_at c (spot_of p k) in
    let t = shared_after p k found (c.seats p) c.shared in
    let same : (oid : ℕ) → SameVersions (c.shared.objects oid) (t.objects oid) =
    λ oid. same_from (c.shared.objects oid) (t.objects oid) (heads_after p k found (c.seats p) c.shared heads oid).as_long (grows_after p k found (c.seats p) c.shared none oid).stamp in
    kept_from c p m.part t d (all_kept c.shared t m.part.task same mine) (λ q _. all_kept c.shared t (c.seats q).task same (all q)) (sym m.is)

steady_kept : (c : Core) (p : ℕ) (k : Kind) (d : Core) → CutsNone k → KeepsHeads k → KeepsHand k → MeetsOne k → Sound c → CutsAtNewest c → after_event c p k ≡ Some d → CutsAtNewest d
steady_kept c p k d none heads keeps one sound all e =
    let m = moves c p k d one e in
    plain_kept c p k d none heads all m
    (stays_newest c.shared (c.seats p) m.part (stays_kind p k (word_at c (spot_of p k)) c.shared (c.seats p) m.part keeps (sound.own p).task m.after) (all p))

-- another seat's claimed object isn't the one that the step changes
module _ (c : Core) (p at : ℕ) (u : Object) (sound : Sound c) (mine : Holds (c.seats p) at) where
  apart : (q : ℕ) → q ≢ p → (oid : ℕ) → Holds (c.seats q) oid → SameVersions (c.shared.objects oid) (put c.shared.objects at u oid)
  apart q ne oid its =
      at_cases (λ (o : Object). SameVersions (c.shared.objects oid) o) c.shared.objects at u oid
      (λ same. absurd (ne (held_once c q p at sound (subst (Holds (c.seats q)) same its) mine))) (λ _. same_versions (c.shared.objects oid))

claim_kept : (c : Core) (p oid seen number : ℕ) (d : Core) → Sound c → CutsAtNewest c → after_event c p (kind.Claim oid seen number) ≡ Some d → CutsAtNewest d
claim_kept c p oid seen number d sound all e =
    let k = kind.Claim oid seen number in
    let m = moves c p k d tt e in
    let t = shared_after p k (c.shared.objects oid).entry (c.seats p) c.shared in
    let same : (at : ℕ) → SameVersions (c.shared.objects at) (t.objects at) =
    λ at. put_object SameVersions c.shared.objects oid _ same_versions (record { as_long = refl; stamp = λ n. refl }) at in
    kept_from c p m.part t d
    (all_kept c.shared t m.part.task same (n_claim c.shared p oid seen number (c.seats p) (c.seats p).task m.part (sound.own p).chains.head m.after))
    (λ q _. all_kept c.shared t (c.seats q).task same (all q)) (sym m.is)

ends_holds : (c : Core) (p oid claim : ℕ) → Ends c p oid claim → Holds (c.seats p) oid
ends_holds c p oid claim ends = (claim_at (c.seats p).current claim, stands_in (c.seats p).current claim ends.within, ends.held, sym ends.oid_is)

install_kept : (c : Core) (p oid head : ℕ) (d : Core) → Sound c → CutsAtNewest c → after_event c p (kind.Install oid head) ≡ Some d → CutsAtNewest d
install_kept c p oid head d sound all e =
    let k = kind.Install oid head in
    let m = moves c p k d tt e in
    let w = installed head (added head (c.seats p) (end_of (c.seats p).task)) (c.shared.objects oid) in
    let t = shared_after p k (c.shared.objects oid).entry (c.seats p) c.shared in
    let mine : Holds (c.seats p) oid =
    ⊎_elim (λ (a : Adds c p oid head). ends_holds c p oid a.claim a.ends) (λ (r : Releases c p oid head). ends_holds c p oid r.claim r.ends) (install_outcome c p oid head sound m.part m.after) in
    let bare = over_install oid head (c.seats p) (c.seats p).task m.part m.after in
    kept_from c p m.part t d (bare_newest t m.part.task bare.bare)
    (λ q ne. held_kept c.shared t (c.seats q) (c.seats q).task (sound.own q).chains.cut (apart c p oid w sound mine q ne) (all q)) (sym m.is)

swap_kept : (c : Core) (p : ℕ) (v : VersionAt) (d : Core) → Sound c → CutsAtNewest c → after_event c p (kind.SwapLink v) ≡ Some d → CutsAtNewest d
swap_kept c p v d sound all e =
    let k = kind.SwapLink v in
    let m = moves c p k d tt e in
    let found = word_at c (spot_of p k) in
    let t = shared_after p k found (c.seats p) c.shared in
    let mine = swap_holds c.shared found v (c.shared.objects v.oid) (c.seats p) (c.seats p).task m.part (sound.own p).chains.cut m.after in
    kept_from c p m.part t d (n_swap c.shared t found v (c.shared.objects v.oid) (c.seats p) (c.seats p).task m.part (sound.own p).chains.cut m.after)
    (λ q ne. held_kept c.shared t (c.seats q) (c.seats q).task (sound.own q).chains.cut (apart c p v.oid _ sound mine q ne) (all q)) (sym m.is)

split_kept : (c : Core) (p other : ℕ) (d : Core) → CutsAtNewest c → after_event c p (kind.Split other) ≡ Some d → CutsAtNewest d
split_kept c p other d all e = by_test _ e
  where
    from : (o : Option Part) → split (c.seats p) (c.seats other) ≡ o → with_part c other o ≡ Some d → CutsAtNewest d
    from None at e = absurd (cc)
    from (Some y) at e =
        when_then (λ z. record c { seats = put c.seats other z } ≡ d → CutsAtNewest d) _ _ y at
        (λ _ is. kept_from c other _ c.shared d (all other) (λ q _. all q) is) (same_Some _ _ e)

    by_test : (b : Bool) → (if b then with_part c other (split (c.seats p) (c.seats other)) else None) ≡ Some d → CutsAtNewest d
    by_test true e = from _ refl e
    by_test false e = absurd (cc)

join_kept : (c : Core) (p other : ℕ) (d : Core) → CutsAtNewest c → after_event c p (kind.Join other) ≡ Some d → CutsAtNewest d
join_kept c p other d all e = by_test _ e
  where
    from : (o : Option Part) → join (c.seats p) (c.seats other) ≡ o → with_part c p o ≡ Some d → CutsAtNewest d
    from None at e = absurd (cc)
    from (Some y) at e =
        when_then (λ z. record c { seats = put c.seats p z } ≡ d → CutsAtNewest d) _ _ y at
        (λ _ is. kept_from c p _ c.shared d (all p) (λ q _. all q) is) (same_Some _ _ e)

    by_test : (b : Bool) → (if b then None else with_part c p (join (c.seats p) (c.seats other))) ≡ Some d → CutsAtNewest d
    by_test true e = absurd (cc)
    by_test false e = from _ refl e

tail_kept : (c : Core) (p : ℕ) (reason : TailUse) (d : Core) → Sound c → CutsAtNewest c → after_event c p (kind.LoadTail reason) ≡ Some d → CutsAtNewest d
tail_kept c p purpose.Begin d sound all e = steady_kept c p (kind.LoadTail purpose.Begin) d tt tt tt tt sound all e
tail_kept c p purpose.Horizon d sound all e =
    let m = moves c p (kind.LoadTail purpose.Horizon) d tt e in
    plain_kept c p (kind.LoadTail purpose.Horizon) d tt tt all m (n_horizon c.shared c.shared.tail (c.seats p) (c.seats p).task m.part (all p) m.after)
tail_kept c p purpose.Gather d sound all e = steady_kept c p (kind.LoadTail purpose.Gather) d tt tt tt tt sound all e

-- Each event keeps it.
pub newest_kept : (c : Core) (p : ℕ) (k : Kind) (d : Core) → Sound c → CutsAtNewest c → after_event c p k ≡ Some d → CutsAtNewest d
newest_kept c p (kind.LoadTail reason) d sound all e = tail_kept c p reason d sound all e
newest_kept c p (kind.LoadBegin other) d sound all e =
    let m = moves c p (kind.LoadBegin other) d tt e in
    plain_kept c p (kind.LoadBegin other) d tt tt all m (n_begin_word c.shared p other (word_at c (spot_of p (kind.LoadBegin other))) (c.seats p) (c.seats p).task m.part (all p) m.after)
newest_kept c p (kind.LoadState other bound) d sound all e =
    let m = moves c p (kind.LoadState other bound) d tt e in
    plain_kept c p (kind.LoadState other bound) d tt tt all m (n_state c.shared p other bound (word_at c (spot_of p (kind.LoadState other bound))) (c.seats p) m.part (all p) m.after)
newest_kept c p (kind.Split other) d sound all e = split_kept c p other d all e
newest_kept c p (kind.Join other) d sound all e = join_kept c p other d all e
newest_kept c p (kind.LoadEntry oid) d sound all e =
    let m = moves c p (kind.LoadEntry oid) d tt e in
    plain_kept c p (kind.LoadEntry oid) d tt tt all m
    (if_then (After c.shared) (is_sealed (c.seats p).place) (load_read_entry p oid (c.shared.objects oid).entry (c.seats p) (c.seats p).task)
    (load_entry p oid (c.shared.objects oid).entry (c.shared.objects oid) (c.seats p) (c.seats p).task) m.part m.after
    (λ _ h. stays_newest c.shared (c.seats p) m.part (s_load_read_entry p oid (c.shared.objects oid).entry (c.seats p) (c.seats p).task m.part h) (all p))
    (λ _ h. n_load_entry c.shared p oid (c.shared.objects oid).entry (c.seats p) (c.seats p).task m.part h))
newest_kept c p (kind.Claim oid seen number) d sound all e = claim_kept c p oid seen number d sound all e
newest_kept c p (kind.Install oid head) d sound all e = install_kept c p oid head d sound all e
newest_kept c p (kind.LoadCell v w) d sound all e =
    let m = moves c p (kind.LoadCell v w) d tt e in
    plain_kept c p (kind.LoadCell v w) d tt tt all m (n_cell c p v w m.part (all p) (unless_some _ _ m.part m.after))
newest_kept c p (kind.SetReader v) d sound all e =
    let m = moves c p (kind.SetReader v) d tt e in
    plain_kept c p (kind.SetReader v) d tt tt all m (n_set_reader c.shared p v (c.shared.objects v.oid) (c.seats p) (c.seats p).task m.part m.after)
newest_kept c p (kind.LoadStamp v w) d sound all e =
    let m = moves c p (kind.LoadStamp v w) d tt e in
    plain_kept c p (kind.LoadStamp v w) d tt tt all m (n_load_stamp c.shared (word_at c (spot_of p (kind.LoadStamp v w))) v w (c.seats p) m.part (all p) m.after)
newest_kept c p (kind.SwapLink v) d sound all e = swap_kept c p v d sound all e
newest_kept c p (kind.LoadDetached v) d sound all e =
    let m = moves c p (kind.LoadDetached v) d tt e in
    plain_kept c p (kind.LoadDetached v) d tt tt all m (n_detached c.shared (word_at c (spot_of p (kind.LoadDetached v))) v (c.seats p) (c.seats p).task m.part m.after)
newest_kept c p k d sound all e = steady_kept c p k d tt tt tt tt sound all e
