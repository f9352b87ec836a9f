-- A read of a safe snapshot: its steps are taken, they come to the newest version below its begin stamp, and its row is loaded word by word.
use Rattle.std.proofs.Common.{◌≡◌, ℕ, ◌+◌, ◌<◌, ◌≤◌, true, ◌&&◌, ◌||◌, ltb, List, length, take, set, Option, Some, None, refl, sym, ap, ◌∙◌, subst, arith}
use Rattle.std.specs.Prelude.{if◌then◌else◌, slice_index}
use Rattle.std.proofs.lemmas.Bool.{and_from, and_parts, lt-ltb, ltb-true, or_left}
use Rattle.std.proofs.lemmas.List.{get_or-set_same, length-set, take-set, take_all, take_more_same}
use Rattle.std.proofs.lemmas.Option.{same_Some}
use Rattle.erm_model.specs.History.{History, IsNewestBelow}
use Rattle.erm_machine.specs.declared.event.Kind.{Kind}
use Rattle.erm_machine.specs.declared.event.Kind.TheVariants as kind
use Rattle.erm_machine.specs.declared.limits.TheConstants.{OBJECT_LIMIT}
use Rattle.erm_machine.specs.declared.part.Part.{Part}
use Rattle.erm_machine.specs.declared.task.Task.{Task}
use Rattle.erm_machine.specs.declared.task.Task.TheVariants as task
use Rattle.erm_machine.specs.declared.version.CellWord.TheVariants as word
use Rattle.erm_machine.specs.declared.version.VersionAt.{VersionAt}
use Rattle.erm_machine.specs.Chains.{IsNamed}
use Rattle.erm_machine.specs.Core.{Core, Object, Shared, version_at}
use Rattle.erm_machine.specs.Lawful.{opening_rows}
use Rattle.erm_machine.specs.Reading.{head_version, load_cell, load_entry, load_safe_entry, load_walked_link, load_walked_stamp, may_copy_row, may_load_row, older}
use Rattle.erm_machine.specs.Seat.{is_active, is_safe, same_version, when, with_task}
use Rattle.erm_machine.specs.Snapshot.{InHand}
use Rattle.erm_machine.specs.Sound.{Sound}
use Rattle.erm_machine.specs.Step.{after_event, reads_early, unless}
use Rattle.erm_machine.proofs.Backs.{safe_snapshot}
use Rattle.erm_machine.proofs.Guards.{either_way, when_then}
use Rattle.erm_world.specs.Safe.{DidSafeRead}
use Rattle.erm_world.specs.World.{IsSession, View, history_of}
use Rattle.erm_core_calls.proofs.GoesActive.{named_at}
use Rattle.erm_core_calls.proofs.GoesSnapshots.{g_safe_passed, g_safe_walks}
use Rattle.erm_core_calls.proofs.Moving.{met, other_branch, same_self, stepped, taken}
use Rattle.erm_core_safe.proofs.Stamps.{reads_snapshot}
use Rattle.erm_core_turns.proofs.Turns.{part_stepped}
use Rattle.erm_core_view.specs.Views.{IsQuiet, is_standing, view_of}
use Rattle.erm_core_view.proofs.Commits.{has_the_history}
use Rattle.erm_core_steps.specs.Reads.{IsLoad}
use Rattle.erm_core_steps.specs.Steps.{IsTaken}
use Rattle.erm_core_steps.proofs.Places.{active_at, active_unsealed}
use Rattle.erm_core_steps.proofs.Ways.{chosen, part_is}
use Rattle.erm_lists.specs.Snapshots.{IsSafeReader, OnlyLooks, has_found, object_in_hand, row_found, version_found, walk_left, walk_step}
use Rattle.erm_lists.proofs.SafeLooks.{Looked, looked, looks_active, looks_both, looks_quiet, looks_unseen, snapshot_begins}

-- THE ENTRY. The head is in hand, whoever owns it.
entry_safe : (seat oid found : ℕ) (o : Object) (x : Part) (t : Task) → is_safe t ≡ true → load_entry seat oid found o x t ≡ load_safe_entry oid found o x
entry_safe seat oid found o x task.Safe e = refl
entry_safe seat oid found o x (task.SafeWalks version) e = refl
entry_safe seat oid found o x (task.SafePassed version) e = refl
entry_safe seat oid found o x (task.SafeFound version) e = refl
entry_safe seat oid found o x _ e = absurd (cc)

abbrev pub head_task : Core → ℕ → Task
head_task c oid = task.SafeWalks (head_version oid (c.shared.objects oid).entry (c.shared.objects oid))

entry_steps : (c : Core) (seat oid : ℕ) → IsSafeReader seat c → oid < OBJECT_LIMIT
    → after_event c seat (kind.LoadEntry oid) ≡ Some (stepped c seat (kind.LoadEntry oid) (with_task (head_task c oid) (c.seats seat)))
entry_steps c seat oid at known =
    let x = c.seats seat in
    let o = c.shared.objects oid in
    taken c seat (kind.LoadEntry oid) (with_task (head_task c oid) x) tt (lt-ltb oid OBJECT_LIMIT known)
    (met _ _ _ (other_branch _ _ _ _ (active_unsealed x.place at.active) (entry_safe seat oid o.entry o x x.task at.safe)) at.active)

pub entry_taken : (c : Core) (seat oid : ℕ) → IsSafeReader seat c → oid < OBJECT_LIMIT → IsTaken c seat (kind.LoadEntry oid)
entry_taken c seat oid at known = (_, entry_steps c seat oid at known)

pub entry_looks : (c d : Core) (seat oid : ℕ) → IsSafeReader seat c → oid < OBJECT_LIMIT → after_event c seat (kind.LoadEntry oid) ≡ Some d → Looked seat (head_task c oid) c d
entry_looks c d seat oid at known e =
    let k : Kind = kind.LoadEntry oid in
    let y : Part = with_task (head_task c oid) (c.seats seat) in
    looked c d seat k (head_task c oid) tt tt e (part_stepped c d seat k y (entry_steps c seat oid at known) e)

-- it reads on
pub still_reads : (seat : ℕ) (u : Task) (c d : Core) → IsSafeReader seat c → Looked seat u c d → is_safe u ≡ true → IsSafeReader seat d
still_reads seat u c d at l safe = record { session = at.session; active = looks_active seat c d l.looks at.active; safe = ap is_safe l.task_is ∙ safe }

-- THE WALK. Each of its steps is a load, and is taken.
pub walk_goes : (c : Core) (seat : ℕ) (k : Kind) → Sound c → IsSafeReader seat c → (t : Task) → (c.seats seat).task ≡ t → walk_step t ≡ Some k → IsLoad k × IsTaken c seat k
walk_goes c seat k sound at (task.SafeWalks v) is e =
    let pl = active_at (c.seats seat).place at.active in
    let m = g_safe_walks c seat sound pl.0 pl.1 v is in
    subst (λ (j : Kind). IsLoad j × IsTaken c seat j) (same_Some (kind.LoadCell v word.Stamp) k e) (tt, (m.after, m.taken))
walk_goes c seat k sound at (task.SafePassed v) is e =
    let pl = active_at (c.seats seat).place at.active in
    let m = g_safe_passed c seat sound pl.0 pl.1 v is in
    subst (λ (j : Kind). IsLoad j × IsTaken c seat j) (same_Some (kind.LoadCell v word.Link) k e) (tt, (m.after, m.taken))
walk_goes c seat k sound at _ is e = absurd (cc)

-- It stays at its object, and leaves fewer steps.
pub record Nearer (t u : Task) : Type 0 where
  pub object : object_in_hand u ≡ object_in_hand t
  pub safe : is_safe u ≡ true
  pub falls : walk_left u < walk_left t

pub record Walked (seat : ℕ) (t : Task) (c d : Core) : Type 0 where
  pub looks : OnlyLooks seat c d
  pub nearer : Nearer t (d.seats seat).task

walked : (seat : ℕ) (t u : Task) (c d : Core) → Looked seat u c d → Nearer t u → Walked seat t c d
walked seat t u c d l near = record { looks = l.looks; nearer = subst (Nearer t) (sym l.task_is) near }

abbrev after_stamp : (found begin : ℕ) → VersionAt → Task
after_stamp found begin v = if ltb found begin then task.SafeFound v else task.SafePassed v

stamp_part : (found : ℕ) (v : VersionAt) (x y : Part) → is_active x.place ≡ true → x.task ≡ task.SafeWalks v → load_cell found v word.Stamp x ≡ Some y
    → y ≡ with_task (after_stamp found x.current.begin v) x
stamp_part found v x y active at e =
    let walks = subst (λ (u : Task). load_walked_stamp found v x u ≡ Some y) at (chosen (is_active x.place) (load_walked_stamp found v x x.task) y active e) in
    when_then (λ (z : Part). z ≡ with_task (after_stamp found x.current.begin v) x) _ _ y walks (λ _. refl)

stamp_nearer : (found begin : ℕ) (v : VersionAt) → Nearer (task.SafeWalks v) (after_stamp found begin v)
stamp_nearer found begin v =
    either_way (Nearer (task.SafeWalks v)) (ltb found begin) (task.SafeFound v) (task.SafePassed v)
    (λ _. record { object = refl; safe = refl; falls = omega arith }) (λ _. record { object = refl; safe = refl; falls = omega arith })

-- a link leads to an older version
pub record LinkPart (found : ℕ) (v : VersionAt) (x y : Part) : Type 0 where
  pub is : y ≡ with_task (task.SafeWalks (older v found)) x
  pub above : 0 < v.place

link_part : (found : ℕ) (v : VersionAt) (x y : Part) → is_active x.place ≡ true → x.task ≡ task.SafePassed v → load_cell found v word.Link x ≡ Some y → LinkPart found v x y
link_part found v x y active at e =
    let walks = subst (λ (u : Task). load_walked_link found v x u ≡ Some y) at (chosen (is_active x.place) (load_walked_link found v x x.task) y active e) in
    when_then (LinkPart found v x) _ _ y walks (λ g.
    record { is = refl; above = ltb-true 0 v.place (and_parts (same_version v v && ltb 0 found) (ltb 0 v.place) g).1 })

link_nearer : (found : ℕ) (v : VersionAt) → 0 < v.place → Nearer (task.SafePassed v) (task.SafeWalks (older v found))
link_nearer found v above = record { object = refl; safe = refl; falls = omega (arith, above) }

stamp_walks : (c d : Core) (seat : ℕ) (v : VersionAt) → is_active (c.seats seat).place ≡ true → (c.seats seat).task ≡ task.SafeWalks v
    → after_event c seat (kind.LoadCell v word.Stamp) ≡ Some d → Walked seat (task.SafeWalks v) c d
stamp_walks c d seat v active at e =
    let x = c.seats seat in
    let found : ℕ = (version_at (c.shared.objects v.oid) v.place).words.stamp in
    let u : Task = after_stamp found x.current.begin v in
    let is = stamp_part found v x (d.seats seat) active at (part_is c d seat (kind.LoadCell v word.Stamp) tt e) in
    walked seat (task.SafeWalks v) u c d (looked c d seat (kind.LoadCell v word.Stamp) u tt tt e is) (stamp_nearer found x.current.begin v)

link_walks : (c d : Core) (seat : ℕ) (v : VersionAt) → is_active (c.seats seat).place ≡ true → (c.seats seat).task ≡ task.SafePassed v
    → after_event c seat (kind.LoadCell v word.Link) ≡ Some d → Walked seat (task.SafePassed v) c d
link_walks c d seat v active at e =
    let x = c.seats seat in
    let found : ℕ = (version_at (c.shared.objects v.oid) v.place).words.link in
    let u : Task = task.SafeWalks (older v found) in
    let part = link_part found v x (d.seats seat) active at (part_is c d seat (kind.LoadCell v word.Link) tt e) in
    walked seat (task.SafePassed v) u c d (looked c d seat (kind.LoadCell v word.Link) u tt tt e part.is) (link_nearer found v part.above)

taken_as : (c d : Core) (seat : ℕ) (j k : Kind) → ◌≡◌ {A = Option Kind} (Some j) (Some k) → after_event c seat k ≡ Some d → after_event c seat j ≡ Some d
taken_as c d seat j k same e = subst (λ (i : Kind). after_event c seat i ≡ Some d) (sym (same_Some j k same)) e

pub walk_nears : (c d : Core) (seat : ℕ) (k : Kind) → is_active (c.seats seat).place ≡ true → after_event c seat k ≡ Some d → (t : Task) → (c.seats seat).task ≡ t
    → walk_step t ≡ Some k → Walked seat t c d
walk_nears c d seat k active e (task.SafeWalks v) is next = stamp_walks c d seat v active is (taken_as c d seat (kind.LoadCell v word.Stamp) k next e)
walk_nears c d seat k active e (task.SafePassed v) is next = link_walks c d seat v active is (taken_as c d seat (kind.LoadCell v word.Link) k next e)
walk_nears c d seat k active e _ is next = absurd (cc)

pub walk_reads : (c d : Core) (seat : ℕ) (t : Task) → IsSafeReader seat c → Walked seat t c d → IsSafeReader seat d
walk_reads c d seat t at w = record { session = at.session; active = looks_active seat c d w.looks at.active; safe = w.nearer.safe }

-- where no step is left, and an object is in hand, its version is found
pub found_at : (u : Task) (oid : ℕ) → object_in_hand u ≡ Some oid → walk_step u ≡ None → (u ≡ task.SafeFound (version_found u)) × ((version_found u).oid ≡ oid)
found_at (task.SafeWalks v) oid e none = absurd (cc)
found_at (task.SafePassed v) oid e none = absurd (cc)
found_at (task.SafeFound v) oid e none = (refl, same_Some v.oid oid e)
found_at _ oid e none = absurd (cc)

pub has_found_at : (u : Task) → has_found u ≡ true → u ≡ task.SafeFound (version_found u)
has_found_at (task.SafeFound v) e = refl
has_found_at _ e = absurd (cc)

-- THE ROW. The load of one of its words leaves the seat as it is.
word_loads : (seat k : ℕ) (x : Part) (u : Task) (v : VersionAt) → is_active x.place ≡ true → u ≡ task.SafeFound v
    → unless (reads_early seat (word.Row k) u) (when (is_active x.place && (may_load_row v u || may_copy_row v x u)) x) ≡ Some x
word_loads seat k x u v active at =
    subst (λ (w : Task). unless (reads_early seat (word.Row k) w) (when (is_active x.place && (may_load_row v w || may_copy_row v x w)) x) ≡ Some x) (sym at)
    (met _ _ _ refl (and_from _ _ active (or_left _ _ (same_self v))))

found_named : (c : Core) (seat : ℕ) (v : VersionAt) → Sound c → (c.seats seat).task ≡ task.SafeFound v → IsNamed c.shared v
found_named c seat v sound at = named_at c seat sound (task.SafeFound v) at

word_steps : (c : Core) (seat k : ℕ) (v : VersionAt) → Sound c → is_active (c.seats seat).place ≡ true → (c.seats seat).task ≡ task.SafeFound v → k < 16
    → after_event c seat (kind.LoadCell v (word.Row k)) ≡ Some (stepped c seat (kind.LoadCell v (word.Row k)) (c.seats seat))
word_steps c seat k v sound active at low =
    taken c seat (kind.LoadCell v (word.Row k)) (c.seats seat) tt (and_from _ _ (lt-ltb v.oid OBJECT_LIMIT (found_named c seat v sound at).object) (lt-ltb k 16 low))
    (word_loads seat k (c.seats seat) (c.seats seat).task v active at)

pub word_taken : (c : Core) (seat k : ℕ) (v : VersionAt) → Sound c → is_active (c.seats seat).place ≡ true → (c.seats seat).task ≡ task.SafeFound v → k < 16
    → IsTaken c seat (kind.LoadCell v (word.Row k))
word_taken c seat k v sound active at low = (_, word_steps c seat k v sound active at low)

pub word_looks : (c d : Core) (seat k : ℕ) (v : VersionAt) → Sound c → is_active (c.seats seat).place ≡ true → (c.seats seat).task ≡ task.SafeFound v → k < 16
    → after_event c seat (kind.LoadCell v (word.Row k)) ≡ Some d → Looked seat (c.seats seat).task c d
word_looks c d seat k v sound active at low e =
    looked c d seat (kind.LoadCell v (word.Row k)) (c.seats seat).task tt tt e
    (part_stepped c d seat (kind.LoadCell v (word.Row k)) (c.seats seat) (word_steps c seat k v sound active at low) e)

-- So many of its words are loaded.
pub record RowLoop (seat k : ℕ) (row : List ℕ) (b c : Core) : Type 0 where
  pub looks : OnlyLooks seat b c
  pub stays : (c.seats seat).task ≡ (b.seats seat).task
  pub size : length row ≡ 16
  pub front : take k row ≡ take k (row_found b seat)

pub row_starts : (seat : ℕ) (row : List ℕ) (b : Core) → length row ≡ 16 → RowLoop seat 0 row b b
row_starts seat row b size = record { looks = record { others = λ q other. refl; shared = refl; own = refl }; stays = refl; size = size; front = refl }

row_size : (seat : ℕ) (b : Core) (v : VersionAt) → Sound b → (b.seats seat).task ≡ task.SafeFound v → v ≡ version_found (b.seats seat).task → length (row_found b seat) ≡ 16
row_size seat b v sound at is =
    let named = found_named b seat v sound at in
    subst (λ (w : VersionAt). length (version_at (b.shared.objects w.oid) w.place).words.row ≡ 16) is (sound.common.rowed.rows v.oid v.place named.object named.within)

module _ (seat : ℕ) (b : Core) (sound : Sound b) (at : IsSafeReader seat b) (found : has_found (b.seats seat).task ≡ true) where
  abbrev version : VersionAt
  version = version_found (b.seats seat).task

  is_there : (b.seats seat).task ≡ task.SafeFound version
  is_there = has_found_at (b.seats seat).task found

  long : length (row_found b seat) ≡ 16
  long = row_size seat b version sound is_there refl

  module _ (k : ℕ) (row : List ℕ) (c : Core) (sound_now : Sound c) (loop : RowLoop seat k row b c) where
    there : (c.seats seat).task ≡ task.SafeFound version
    there = loop.stays ∙ is_there

    active_now : is_active (c.seats seat).place ≡ true
    active_now = looks_active seat b c loop.looks at.active

    pub row_taken : k < 16 → IsTaken c seat (kind.LoadCell version (word.Row k))
    row_taken low = word_taken c seat k version sound_now active_now there low

    pub row_goes_on : (d : Core) (w : ℕ) → k < 16 → after_event c seat (kind.LoadCell version (word.Row k)) ≡ Some d
        → w ≡ slice_index (version_at (c.shared.objects version.oid) version.place).words.row k → RowLoop seat (k + 1) (set row k w) b d
    row_goes_on d w low e is =
        let l = word_looks c d seat k version sound_now active_now there low e in
        let size = loop.size in
        let same_size = length-set row k w in
        let all = long in
        let word_is : w ≡ slice_index (row_found b seat) k =
        is ∙ ap (λ (s : Shared). slice_index (version_at (s.objects version.oid) version.place).words.row k) loop.looks.shared
        in
        record {
          looks = looks_both seat b c d loop.looks l.looks;
          stays = l.task_is ∙ loop.stays;
          size = length-set row k w ∙ loop.size;
          front =
              take_more_same (set row k w) (row_found b seat) k 0 (omega (arith, same_size, size, low)) (omega (arith, all, low)) (take-set row k w ∙ loop.front)
              (get_or-set_same row k w 0 (omega (arith, size, low)) ∙ word_is);
        }

    pub row_loaded : 16 ≤ k → row ≡ row_found b seat
    row_loaded last =
        let size = loop.size in
        let all = long in
        sym (take_all k row (omega (arith, size, last))) ∙ loop.front ∙ take_all k (row_found b seat) (omega (arith, all, last))

-- THE READ. What it leaves, and what its row is.
pub record IsRead (sessions seat oid : ℕ) (row : List ℕ) (b e : Core) : Type 0 where
  pub quiet : IsQuiet sessions e
  pub same : view_of sessions e ≡ view_of sessions b
  pub reads : DidSafeRead (view_of sessions b) seat oid row

pub read_done : (sessions seat oid : ℕ) (row : List ℕ) (b e : Core) (v : VersionAt) → Sound e → IsQuiet sessions b → IsSession (view_of sessions b) seat → IsSafeReader seat b
    → OnlyLooks seat b e → (e.seats seat).task ≡ task.SafeFound v → v.oid ≡ oid → oid < OBJECT_LIMIT
    → row ≡ (version_at (e.shared.objects v.oid) v.place).words.row → IsRead sessions seat oid row b e
read_done sessions seat oid row b e v sound quiet session at looks there of known is =
    let x = e.seats seat in
    let begin : ℕ = x.current.begin in
    let stamp : ℕ = (version_at (e.shared.objects v.oid) v.place).words.stamp in
    let found : List ℕ = (version_at (e.shared.objects v.oid) v.place).words.row in
    let safe : is_safe x.task ≡ true = ap is_safe there in
    let after = looks_quiet sessions seat b e quiet session looks at.active (ap is_standing there) in
    let same =
    (looks_unseen sessions seat b e at.session looks at.active (safe_snapshot (b.seats seat).task at.safe) (safe_snapshot x.task safe) (safe ∙ sym at.safe)).view
    in
    let in_hand : InHand e.shared begin (task.SafeFound v) = subst (InHand e.shared begin) there (sound.own seat).snapshot.in_hand in
    let low : v.oid < OBJECT_LIMIT = omega (arith, of, known) in
    let newest = reads_snapshot e seat v.oid v.place stamp sound safe low in_hand in
    let named = subst (λ (n : ℕ). IsNewestBelow (history_of (view_of sessions e)) (opening_rows e.shared) n begin stamp found) of
    (subst (λ (h : History). IsNewestBelow h (opening_rows e.shared) v.oid begin stamp found) (sym (has_the_history sessions e sound after)) newest)
    in
    let begins = snapshot_begins x.place x.task x.current (looks_active seat b e looks at.active) in
    let shown : DidSafeRead (view_of sessions e) seat oid found =
    (stamp, subst (λ (n : ℕ). IsNewestBelow (history_of (view_of sessions e)) (opening_rows e.shared) oid n stamp found) (sym begins) named)
    in
    record {
      quiet = after;
      same = same;
      reads = subst (λ (w : View). DidSafeRead w seat oid row) same (subst (λ (r : List ℕ). DidSafeRead (view_of sessions e) seat oid r) (sym is) shown);
    }
