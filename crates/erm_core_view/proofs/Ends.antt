-- An abort: its claims are released, its reader bits cleared, and then it is over.
use Rattle.std.proofs.Common.{◌≡◌, ℕ, suc, ◌+◌, ◌<◌, not, eqb, true, false, List, [], ◌∷◌, get_or, set, length, Option, Some, None, refl, sym, ap, ◌∙◌, subst, arith, length-set}
use Rattle.std.proofs.Math.ListN as listn
use Rattle.std.proofs.Math.Seq.{map-set_same}
use Rattle.std.proofs.lemmas.Bool.{and_from, and_left, cond-false, cond-true, eq-eqb, lt-ltb, or_left, or_right}
use Rattle.erm_model.proofs.Members.{∈-at}
use Rattle.erm_machine.specs.declared.limits.TheConstants.{OBJECT_LIMIT}
use Rattle.erm_machine.specs.declared.attempt.Attempt.{Attempt}
use Rattle.erm_machine.specs.declared.attempt.Claim.{Claim}
use Rattle.erm_machine.specs.declared.attempt.Decision.{Decision}
use Rattle.erm_machine.specs.declared.attempt.Decision.TheVariants.{Undecided}
use Rattle.erm_machine.specs.declared.attempt.Read.{Read}
use Rattle.erm_machine.specs.declared.event.Kind.{Kind}
use Rattle.erm_machine.specs.declared.event.Kind.TheVariants as kind
use Rattle.erm_machine.specs.declared.part.Part.{Part}
use Rattle.erm_machine.specs.declared.place.Place.{Place}
use Rattle.erm_machine.specs.declared.place.Place.TheVariants.{Active}
use Rattle.erm_machine.specs.declared.task.Task.{Task}
use Rattle.erm_machine.specs.declared.task.Task.TheVariants as task
use Rattle.erm_machine.specs.declared.version.VersionAt.{VersionAt}
use Rattle.erm_machine.specs.Core.{Core, claim_at, no_claim, spot_of, word_at}
use Rattle.erm_machine.specs.Facts.{IsCurrent}
use Rattle.erm_machine.specs.Seat.{end_of, is_active, is_commit, is_decided, is_snapshot, no_read, read_at, same_version, with_task}
use Rattle.erm_machine.specs.Settling.{adds_version, clear_reader, given_back, install, install_claim, release_old}
use Rattle.erm_machine.specs.Sound.{Sound}
use Rattle.erm_machine.specs.Step.{after_event, run_from, shared_after}
use Rattle.erm_machine.specs.Words.{is_flusher, put}
use Rattle.erm_machine.proofs.Frames.{put_same}
use Rattle.erm_machine.proofs.Objects.{extends}
use Rattle.erm_world.specs.Calls.{Becomes}
use Rattle.erm_core_view.specs.Steps.{IsEnding, clear_steps, release_steps}
use Rattle.erm_core_view.specs.Views.{session_of, view_of}
use Rattle.erm_core_view.proofs.Chained.{becomes_same, goes, taken, unsaved}
use Rattle.erm_core_view.proofs.Moved.{calm_shows, end_shows, one_becomes}
use Rattle.erm_core_view.proofs.Parts.{current_stands}
use Rattle.erm_core_view.proofs.Snapshots.{IsNewSnapshot, reads_plain, snapshots_new, writes_plain}

-- an active seat isn't decided, and its transaction isn't
pub not_decided : (place : Place) → is_active place ≡ true → is_decided place ≡ false
not_decided (Active tail) e = refl
not_decided _ e = absurd (cc)

undecided : (place : Place) (t : Attempt) → is_active place ≡ true → IsCurrent place t → t.decision ≡ Undecided
undecided (Active tail) t e current = current.decision
undecided _ t e current = absurd (cc)

-- where an end may begin, no entry is released for want of a cell
pub installs_by : (oid head : ℕ) (x : Part) (t : Task) (e : ℕ × ℕ × ℕ × ℕ) → end_of t ≡ Some e → install oid head x t ≡ install_claim oid head x (Some e)
installs_by oid head x task.Refused e is = absurd (cc)
installs_by oid head x t e is = ap (λ (o : Option (ℕ × ℕ × ℕ × ℕ)). install_claim oid head x o) is

is_ending : (t : Task) (e : ℕ × ℕ × ℕ × ℕ) → end_of t ≡ Some e → is_snapshot t ≡ false → IsEnding t
is_ending task.Refused e is plain = absurd (cc)
is_ending t e is plain = plain

-- a claim that is released keeps the name of the version that it overwrites
version_kept : (ws : List Claim) (place : ℕ) (w : Claim) (k : ℕ) → w.version ≡ (get_or ws place no_claim).version
    → (get_or (set ws place w) k no_claim).version ≡ (get_or ws k no_claim).version
version_kept ws place w k same =
    let name : Claim → VersionAt = λ u. u.version in
    sym (listn.get_or-map name (set ws place w) k no_claim)
    ∙ ap (λ (names : List VersionAt). get_or names k no_claim.version) (map-set_same name ws place w no_claim same)
    ∙ listn.get_or-map name ws k no_claim

same_itself : (v u : VersionAt) → v ≡ u → same_version v u ≡ true
same_itself v u same =
    and_from _ _ (and_from _ _ (eq-eqb v.oid u.oid (ap (λ (w : VersionAt). w.oid) same)) (eq-eqb v.place u.place (ap (λ (w : VersionAt). w.place) same)))
    (eq-eqb v.cell u.cell (ap (λ (w : VersionAt). w.cell) same))

-- the part after a release, after a bit is cleared
abbrev released : ℕ → Part → Part
released k x = with_task (task.Ends 0 (k + 1) 0 0) (given_back k x)

abbrev cleared_bit : (ended k : ℕ) → Part → Part
cleared_bit ended k x = with_task (task.Ends 0 ended 0 (k + 1)) x

releases : (oid head k : ℕ) (x : Part) → is_active x.place ≡ true → end_of x.task ≡ Some (0, k, 0, 0) → k < length x.current.writes
    → oid ≡ (claim_at x.current k).version.oid → head ≡ (claim_at x.current k).version.cell → install oid head x x.task ≡ Some (released k x)
releases oid head k x active ends within oid_is head_is =
    installs_by oid head x x.task (0, k, 0, 0) ends
    ∙ cond-false (adds_version x) _ (release_old oid head x (0, k, 0, 0)) (and_left (is_decided x.place) (is_commit x.current.decision) (not_decided x.place active))
    ∙ cond-true _ (Some (released k x)) None
    (and_from _ _ (and_from _ _ (and_from _ _ (or_right (is_decided x.place) (is_active x.place) active) (lt-ltb k (length x.current.writes) within))
    (eq-eqb oid (claim_at x.current k).version.oid oid_is)) (eq-eqb head (claim_at x.current k).version.cell head_is))

clears : (v : VersionAt) (ended k : ℕ) (x : Part) → is_active x.place ≡ true → end_of x.task ≡ Some (0, ended, 0, k) → ended ≡ length x.current.writes → k < length x.current.reads
    → x.current.decision ≡ Undecided → v ≡ (read_at x.current k).version → clear_reader v x (end_of x.task) ≡ Some (cleared_bit ended k x)
clears v ended k x active ends all within none is =
    let commits_not : not (is_commit x.current.decision) ≡ true = ap (λ (d : Decision). not (is_commit d)) none in
    ap (λ (o : Option (ℕ × ℕ × ℕ × ℕ)). clear_reader v x o) ends
    ∙ cond-true _ (Some (cleared_bit ended k x)) None
    (and_from _ _ (and_from _ _ (and_from _ _ (and_from _ _ (or_right (is_decided x.place) (is_active x.place) active) (eq-eqb ended (length x.current.writes) all))
    (lt-ltb k (length x.current.reads) within)) (or_left (not (is_commit x.current.decision)) (eqb 0 (length x.current.reads)) commits_not))
    (same_itself v (read_at x.current k).version is))

module _ (sessions seat : ℕ) (c : Core) (sound : Sound c) (session : is_flusher seat ≡ false) (active : is_active (c.seats seat).place ≡ true) where
  abbrev x : Part
  x = c.seats seat

  -- how far an abort has come: so many claims are released, so many bits cleared, and the world looks as it did
  pub record Ending (ended cleared : ℕ) (d : Core) : Type 0 where
    pub shows : Becomes (view_of sessions c) seat (session_of (c.seats seat)) (view_of sessions d)
    pub place : (d.seats seat).place ≡ (c.seats seat).place
    pub task : end_of (d.seats seat).task ≡ Some (0, ended, 0, cleared)
    pub new : IsNewSnapshot (d.seats seat).task (d.seats seat).current
    pub decision : (d.seats seat).current.decision ≡ Undecided
    pub reads : (d.seats seat).current.reads ≡ (c.seats seat).current.reads
    pub count : length (d.seats seat).current.writes ≡ length (c.seats seat).current.writes
    pub names : (k : ℕ) → (claim_at (d.seats seat).current k).version ≡ (claim_at (c.seats seat).current k).version
    pub some : (oid : ℕ) → oid < OBJECT_LIMIT → 0 < length (d.shared.objects oid).versions

  -- one step of it
  record Goes (ended cleared : ℕ) (k : Kind) (d : Core) : Type 0 where
    next : Core
    goes : after_event d seat k ≡ Some next
    ending : Ending ended cleared next

  still_active : (ended cleared : ℕ) (d : Core) → Ending ended cleared d → is_active (d.seats seat).place ≡ true
  still_active ended cleared d at = ap is_active at.place ∙ active

  pub nothing_ended : end_of (c.seats seat).task ≡ Some (0, 0, 0, 0) → Ending 0 0 c
  nothing_ended may = record {
    shows = record { own = refl; others = λ q other. refl; opening = refl; tail = refl; flushed = refl; pinned = refl; given_up = refl; saves = unsaved sessions seat c c (session_of (c.seats seat)) };
    place = refl;
    task = may;
    new = snapshots_new c seat sound;
    decision = undecided x.place x.current active (sound.own seat).ranges.current;
    reads = refl;
    count = refl;
    names = λ k. refl;
    some = λ oid below. (sound.common.claims.objects oid below).some;
  }

  release_goes : (k : ℕ) (d : Core) (v : VersionAt) → Ending k 0 d → k < length x.current.writes → v ≡ (claim_at x.current k).version
      → Goes (k + 1) 0 (kind.Install v.oid v.cell) d
  release_goes k d v at within is =
      let y : Part = d.seats seat in
      let z : Part = released k y in
      let k_is : Kind = kind.Install v.oid v.cell in
      let found : ℕ = word_at d (spot_of seat k_is) in
      let e : Core = record { shared = shared_after seat k_is found y d.shared; seats = put d.seats seat z } in
      let named : v ≡ (claim_at y.current k).version = is ∙ sym (at.names k) in
      let object : (claim_at x.current k).version.oid < OBJECT_LIMIT = (sound.own seat).claims.objects k within in
      let below : v.oid < OBJECT_LIMIT = subst (λ (u : VersionAt). u.oid < OBJECT_LIMIT) (sym is) object in
      let within_now : k < length y.current.writes = let n = at.count in omega (arith, n, within) in
      let taken_is : after_event d seat k_is ≡ Some e =
      goes d seat k_is z tt (lt-ltb v.oid OBJECT_LIMIT below)
      (releases v.oid v.cell k y (still_active k 0 d at) at.task within_now (ap (λ (u : VersionAt). u.oid) named) (ap (λ (u : VersionAt). u.cell) named)) in
      let same : session_of (e.seats seat) ≡ session_of y = end_shows seat v.oid v.cell d e (is_ending y.task (0, k, 0, 0) at.task (writes_plain y.task y.current at.new (omega (arith, within_now)))) taken_is in
      let own : e.seats seat ≡ z = put_same d.seats seat z in
      record {
        next = e;
        goes = taken_is;
        ending = record {
          shows = becomes_same sessions seat c d e at.shows (one_becomes sessions seat d e k_is (session_of y) session (at.some v.oid below) tt refl refl taken_is same);
          place = ap (λ (u : Part). u.place) own ∙ at.place;
          task = ap (λ (u : Part). end_of u.task) own;
          new = λ snapshot. let plain : is_snapshot (e.seats seat).task ≡ false = ap (λ (u : Part). is_snapshot u.task) own in absurd (cc);
          decision = ap (λ (u : Part). u.current.decision) own ∙ at.decision;
          reads = ap (λ (u : Part). u.current.reads) own ∙ at.reads;
          count = ap (λ (u : Part). length u.current.writes) own ∙ length-set y.current.writes k _ ∙ at.count;
          names = λ j. ap (λ (u : Part). (claim_at u.current j).version) own ∙ version_kept y.current.writes k _ j refl ∙ at.names j;
          some = λ oid limit. let grows = (extends seat k_is found y d.shared oid).grows in let old = at.some oid limit in omega (arith, grows, old);
        };
      }

  clear_goes : (k : ℕ) (d : Core) (v : VersionAt) → Ending (length x.current.writes) k d → k < length x.current.reads → v ≡ (read_at x.current k).version
      → Goes (length x.current.writes) (k + 1) (kind.ClearReader v) d
  clear_goes k d v at within is =
      let y : Part = d.seats seat in
      let all : ℕ = length x.current.writes in
      let z : Part = cleared_bit all k y in
      let k_is : Kind = kind.ClearReader v in
      let found : ℕ = word_at d (spot_of seat k_is) in
      let e : Core = record { shared = shared_after seat k_is found y d.shared; seats = put d.seats seat z } in
      let read : read_at y.current k ≡ read_at x.current k = ap (λ (rs : List Read). get_or rs k no_read) at.reads in
      let named : v ≡ (read_at y.current k).version = is ∙ sym (ap (λ (r : Read). r.version) read) in
      let object = ((sound.own seat).snapshot.reads x.current (read_at x.current k) (current_stands x) (∈-at x.current.reads k no_read within)).named.object in
      let below : v.oid < OBJECT_LIMIT = subst (λ (u : VersionAt). u.oid < OBJECT_LIMIT) (sym is) object in
      let within_now : k < length y.current.reads = subst (λ (rs : List Read). k < length rs) (sym at.reads) within in
      let taken_is : after_event d seat k_is ≡ Some e =
      goes d seat k_is z tt (lt-ltb v.oid OBJECT_LIMIT below)
      (clears v all k y (still_active all k d at) at.task (sym at.count) within_now at.decision named) in
      let same : session_of (e.seats seat) ≡ session_of y = calm_shows seat d e k_is (reads_plain y.task y.current at.new (omega (arith, within_now))) taken_is in
      let own : e.seats seat ≡ z = put_same d.seats seat z in
      record {
        next = e;
        goes = taken_is;
        ending = record {
          shows = becomes_same sessions seat c d e at.shows (one_becomes sessions seat d e k_is (session_of y) session tt tt refl refl taken_is same);
          place = ap (λ (u : Part). u.place) own ∙ at.place;
          task = ap (λ (u : Part). end_of u.task) own;
          new = λ snapshot. let plain : is_snapshot (e.seats seat).task ≡ false = ap (λ (u : Part). is_snapshot u.task) own in absurd (cc);
          decision = ap (λ (u : Part). u.current.decision) own ∙ at.decision;
          reads = ap (λ (u : Part). u.current.reads) own ∙ at.reads;
          count = ap (λ (u : Part). length u.current.writes) own ∙ at.count;
          names = λ j. ap (λ (u : Part). (claim_at u.current j).version) own ∙ at.names j;
          some = λ oid limit. let grows = (extends seat k_is found y d.shared oid).grows in let old = at.some oid limit in omega (arith, grows, old);
        };
      }

  -- the claims from the k-th on, one after another
  pub all_released : (ws : List Claim) (k : ℕ) (d : Core) → Ending k 0 d → k + length ws ≡ length x.current.writes
      → ((j : ℕ) → j < length ws → get_or ws j no_claim ≡ claim_at x.current (k + j)) → Ending (length x.current.writes) 0 (run_from d (release_steps seat ws))
  all_released [] k d at all same = let end : k ≡ length x.current.writes = omega (arith, all) in subst (λ (n : ℕ). Ending n 0 d) end at
  all_released (w ∷ ws) k d at all same =
      let here : w ≡ claim_at x.current k = same 0 (omega arith) ∙ ap (λ (n : ℕ). claim_at x.current n) (omega arith) in
      let step = release_goes k d w.version at (omega (arith, all)) (ap (λ (u : Claim). u.version) here) in
      subst (λ (e : Core). Ending (length x.current.writes) 0 e) (sym (taken d step.next seat (kind.Install w.version.oid w.version.cell) (release_steps seat ws) step.goes))
      (all_released ws (k + 1) step.next step.ending (omega (arith, all))
      (λ j inside. same (suc j) (omega (arith, inside)) ∙ ap (λ (n : ℕ). claim_at x.current n) (omega arith)))

  -- the reads from the k-th on
  pub all_cleared : (rs : List Read) (k : ℕ) (d : Core) → Ending (length x.current.writes) k d → k + length rs ≡ length x.current.reads
      → ((j : ℕ) → j < length rs → get_or rs j no_read ≡ read_at x.current (k + j)) → Ending (length x.current.writes) (length x.current.reads) (run_from d (clear_steps seat rs))
  all_cleared [] k d at all same = let end : k ≡ length x.current.reads = omega (arith, all) in subst (λ (n : ℕ). Ending (length x.current.writes) n d) end at
  all_cleared (r ∷ rs) k d at all same =
      let here : r ≡ read_at x.current k = same 0 (omega arith) ∙ ap (λ (n : ℕ). read_at x.current n) (omega arith) in
      let step = clear_goes k d r.version at (omega (arith, all)) (ap (λ (u : Read). u.version) here) in
      subst (λ (e : Core). Ending (length x.current.writes) (length x.current.reads) e) (sym (taken d step.next seat (kind.ClearReader r.version) (clear_steps seat rs) step.goes))
      (all_cleared rs (k + 1) step.next step.ending (omega (arith, all))
      (λ j inside. same (suc j) (omega (arith, inside)) ∙ ap (λ (n : ℕ). read_at x.current n) (omega arith)))
