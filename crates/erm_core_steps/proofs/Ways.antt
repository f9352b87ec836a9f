-- The way to a version of an object: which steps are taken, and what they leave.
use Rattle.std.proofs.Common.{◌≡◌, ◌≢◌, ℕ, ◌<◌, Bool, true, false, ◌&&◌, eqb, leb, ltb, Option, Some, None, refl, sym, ap, ◌∙◌, subst, arith}
use Rattle.std.specs.Prelude.{if◌then◌else◌}
use Rattle.std.proofs.lemmas.Bool.{and_from, and_parts, cond-true, eq-eqb, eqb-false, le-leb, lt-ltb, ltb-true, ne_eqb, not_from_false}
use Rattle.std.proofs.lemmas.Option.{same_Some}
use Rattle.erm_machine.specs.declared.attempt.Attempt.{Attempt}
use Rattle.erm_machine.specs.declared.event.Kind.{Kind}
use Rattle.erm_machine.specs.declared.event.Kind.TheVariants as kind
use Rattle.erm_machine.specs.declared.limits.TheConstants.{OBJECT_LIMIT}
use Rattle.erm_machine.specs.declared.part.Part.{Part}
use Rattle.erm_machine.specs.declared.place.Place.{Place}
use Rattle.erm_machine.specs.declared.place.Place.TheVariants.{Active}
use Rattle.erm_machine.specs.declared.task.Task.{Task}
use Rattle.erm_machine.specs.declared.task.Task.TheVariants as task
use Rattle.erm_machine.specs.declared.version.CellWord.TheVariants as word
use Rattle.erm_machine.specs.declared.version.VersionAt.{VersionAt}
use Rattle.erm_machine.specs.Core.{Core, Object, spot_of, word_at}
use Rattle.erm_machine.specs.Life.{after_clear, noted}
use Rattle.erm_machine.specs.Reading.{entered, head_version, load_active_stamp, load_cell, load_entry, load_safe_entry, load_walked_link, load_walked_stamp}
use Rattle.erm_machine.specs.Seat.{is_active, is_safe, is_sealed, may_start, same_version, when, with_task, is_snapshot}
use Rattle.erm_machine.specs.Settling.{load_stamp}
use Rattle.erm_machine.specs.Sound.{Sound}
use Rattle.erm_machine.specs.Step.{after_event, part_after}
use Rattle.erm_machine.specs.Words.{is_clear, owner_of, state_of}
use Rattle.erm_machine.proofs.Backs.{entry_then}
use Rattle.erm_machine.proofs.Guards.{either_way, if_then, when_then}
use Rattle.erm_machine.proofs.QuietKinds.{moves}
use Rattle.erm_machine.proofs.QuietKinds as machine
use Rattle.erm_world.specs.World.{Session, View, Work}
use Rattle.erm_world.specs.World as world
use Rattle.erm_core_calls.proofs.GoesActive.{bound_at, g_cleared, g_overtaken, g_passed, g_registered, g_walks}
use Rattle.erm_core_calls.proofs.Moving.{met, other_branch, stepped, taken}
use Rattle.erm_core_view.specs.Views.{session_of, stand_of, view_of, work_of}
use Rattle.erm_core_view.proofs.Moved.{calm_shows, own_after}
use Rattle.erm_core_view.proofs.Shown.{stands_active, work_active}
use Rattle.erm_core_view.proofs.Snapshots.{active_plain, plain_new}
use Rattle.erm_core_steps.specs.Reads.{GoesOn, IsAtWork, IsLoad, finds, read_step, stage_of, steps_left}
use Rattle.erm_core_steps.specs.Steps.{IsTaken}
use Rattle.erm_core_steps.proofs.Unseen.{unseen_both, unseen_none, unseen_step}
use Rattle.erm_core_turns.proofs.Turns.{part_stepped}
use Rattle.erm_core_steps.proofs.Places.{active_at, active_unsealed, active_there}
use Rattle.erm_core_steps.proofs.Loads.{loads}

-- where a session shows a transaction that is active, it is
pub active_stand : (pl : Place) (u : Task) (t : Attempt) (w : Work) → stand_of pl u t ≡ world.active w → (is_active pl ≡ true) × (is_snapshot u ≡ false)
active_stand (Active tail) u t w e = (refl, active_plain u t (ap world.phase_of e))
active_stand _ u t w e = absurd (cc)

pub active_kept : (x y : Part) → session_of y ≡ session_of x → is_active x.place ≡ true → is_snapshot x.task ≡ false → (is_active y.place ≡ true) × (is_snapshot y.task ≡ false)
active_kept x y same active plain =
    active_stand y.place y.task y.current (work_of x.current) (ap (λ (s : Session). s.stand) same ∙ stands_active x.place x.task x.current active plain)

-- the seat goes on
pub load_goes : (sessions seat : ℕ) (c d : Core) (k : Kind) → Sound c → IsAtWork seat c → IsLoad k → after_event c seat k ≡ Some d → GoesOn sessions seat c d
load_goes sessions seat c d k sound at load e =
    let l = loads k load in
    let same = calm_shows seat c d k (l.calm (c.seats seat).task) e in
    let kept = active_kept (c.seats seat) (d.seats seat) same at.active at.plain in
    record {
      unseen = unseen_step sessions seat c d k sound l.one l.drawn (l.flushed c.shared.flushed) e same;
      at = record { session = at.session; active = kept.0; plain = kept.1 };
    }

pub goes_none : (sessions seat : ℕ) (c : Core) → IsAtWork seat c → GoesOn sessions seat c c
goes_none sessions seat c at = record { unseen = unseen_none sessions seat c; at = at }

pub goes_both : (sessions seat : ℕ) (b c d : Core) → GoesOn sessions seat b c → GoesOn sessions seat c d → GoesOn sessions seat b d
goes_both sessions seat b c d first second = record { unseen = unseen_both sessions seat b c d first.unseen second.unseen; at = second.at }

-- the seat's part after a step
pub part_is : (c d : Core) (seat : ℕ) (k : Kind) → machine.MeetsOne k → after_event c seat k ≡ Some d
    → part_after seat k (word_at c (spot_of seat k)) c.shared (c.seats seat) ≡ Some (d.seats seat)
part_is c d seat k one e = let m = moves c seat k d one e in m.after ∙ ap (λ (y : Part). Some y) (sym (own_after c seat k d m))

-- STEPS OF A READ. Each stays in its part, and leaves fewer.
pub record Nearer (t u : Task) : Type 0 where
  pub stage : stage_of u ≡ stage_of t
  pub falls : steps_left u < steps_left t

pub chosen : (b : Bool) (l : Option Part) (y : Part) → b ≡ true → (if b then l else None) ≡ Some y → l ≡ Some y
chosen true l y e f = f
chosen false l y e f = absurd (cc)

stamp_nearer : (found : ℕ) (v : VersionAt) (head : Option ℕ) (x y : Part) → is_active x.place ≡ true → x.task ≡ task.Walks v head
    → load_cell found v word.Stamp x ≡ Some y → Nearer (task.Walks v head) y.task
stamp_nearer found v head x y active at e =
    let walked = subst (λ (u : Task). load_walked_stamp found v x u ≡ Some y) at (chosen (is_active x.place) (load_walked_stamp found v x x.task) y active e) in
    when_then (λ (z : Part). Nearer (task.Walks v head) z.task) _ _ y walked (λ _.
    either_way (Nearer (task.Walks v head)) (ltb found x.current.begin) (task.Found v found head) (task.Passed v)
    (λ _. record { stage = refl; falls = omega arith }) (λ _. record { stage = refl; falls = omega arith }))

link_nearer : (found : ℕ) (v : VersionAt) (x y : Part) → is_active x.place ≡ true → x.task ≡ task.Passed v
    → load_cell found v word.Link x ≡ Some y → Nearer (task.Passed v) y.task
link_nearer found v x y active at e =
    let walked = subst (λ (u : Task). load_walked_link found v x u ≡ Some y) at (chosen (is_active x.place) (load_walked_link found v x x.task) y active e) in
    when_then (λ (z : Part). Nearer (task.Passed v) z.task) _ _ y walked (λ g.
    let above : 0 < v.place = ltb-true 0 v.place (and_parts (same_version v v && ltb 0 found) (ltb 0 v.place) g).1 in
    record { stage = refl; falls = omega (arith, above) })

overwriter_nearer : (found : ℕ) (v : VersionAt) (x y : Part) → is_active x.place ≡ true → x.task ≡ task.Registered v
    → load_stamp found v word.Overwriter x ≡ Some y → Nearer (task.Registered v) y.task
overwriter_nearer found v x y active at e =
    if_then (λ (z : Part). Nearer (task.Registered v) z.task) (is_active x.place) (load_active_stamp found v word.Overwriter x x.task) _ y e
    (λ _ h.
    let rated = subst (λ (u : Task). load_active_stamp found v word.Overwriter x u ≡ Some y) at h in
    when_then (λ (z : Part). Nearer (task.Registered v) z.task) _ _ y rated (λ _.
    either_way (Nearer (task.Registered v)) (eqb found 0) (task.Rated v) (task.Overtaken v found)
    (λ _. record { stage = refl; falls = omega arith }) (λ _. record { stage = refl; falls = omega arith })))
    (λ none _. absurd (cc))

succ_nearer : (found : ℕ) (v : VersionAt) (mark : ℕ) (x y : Part) → is_active x.place ≡ true → x.task ≡ task.Overtaken v mark
    → load_stamp found v word.OverwriterSucc x ≡ Some y → Nearer (task.Overtaken v mark) y.task
succ_nearer found v mark x y active at e =
    if_then (λ (z : Part). Nearer (task.Overtaken v mark) z.task) (is_active x.place) (load_active_stamp found v word.OverwriterSucc x x.task) _ y e
    (λ _ h.
    let rated = subst (λ (u : Task). load_active_stamp found v word.OverwriterSucc x u ≡ Some y) at h in
    when_then (λ (z : Part). Nearer (task.Overtaken v mark) z.task) _ _ y rated (λ _. record { stage = refl; falls = omega arith }))
    (λ none _. absurd (cc))

-- a step of a read is a load, and is taken
pub read_goes : (c : Core) (seat : ℕ) (k : Kind) → Sound c → IsAtWork seat c → (t : Task) → (c.seats seat).task ≡ t → read_step t ≡ Some k
    → IsLoad k × IsTaken c seat k
read_goes c seat k sound at (task.Walks v head) is e =
    let pl = active_at (c.seats seat).place at.active in
    let m = g_walks c seat sound pl.0 pl.1 v head is in
    subst (λ (j : Kind). IsLoad j × IsTaken c seat j) (same_Some (kind.LoadCell v word.Stamp) k e) (tt, (m.after, m.taken))
read_goes c seat k sound at (task.Passed v) is e =
    let pl = active_at (c.seats seat).place at.active in
    let m = g_passed c seat sound pl.0 pl.1 v is in
    subst (λ (j : Kind). IsLoad j × IsTaken c seat j) (same_Some (kind.LoadCell v word.Link) k e) (tt, (m.after, m.taken))
read_goes c seat k sound at (task.Registered v) is e =
    let pl = active_at (c.seats seat).place at.active in
    let m = g_registered c seat sound pl.0 pl.1 v is in
    subst (λ (j : Kind). IsLoad j × IsTaken c seat j) (same_Some (kind.LoadStamp v word.Overwriter) k e) (tt, (m.after, m.taken))
read_goes c seat k sound at (task.Overtaken v mark) is e =
    let pl = active_at (c.seats seat).place at.active in
    let m = g_overtaken c seat sound pl.0 pl.1 v mark is in
    subst (λ (j : Kind). IsLoad j × IsTaken c seat j) (same_Some (kind.LoadStamp v word.OverwriterSucc) k e) (tt, (m.after, m.taken))
read_goes c seat k sound at _ is e = absurd (cc)

taken_as : (c d : Core) (seat : ℕ) (j k : Kind) → ◌≡◌ {A = Option Kind} (Some j) (Some k) → after_event c seat k ≡ Some d → after_event c seat j ≡ Some d
taken_as c d seat j k same e = subst (λ (i : Kind). after_event c seat i ≡ Some d) (sym (same_Some j k same)) e

pub read_nears : (c d : Core) (seat : ℕ) (k : Kind) → IsAtWork seat c → after_event c seat k ≡ Some d → (t : Task) → (c.seats seat).task ≡ t
    → read_step t ≡ Some k → Nearer t (d.seats seat).task
read_nears c d seat k at e (task.Walks v head) is next =
    stamp_nearer _ v head (c.seats seat) (d.seats seat) at.active is
    (part_is c d seat (kind.LoadCell v word.Stamp) tt (taken_as c d seat (kind.LoadCell v word.Stamp) k next e))
read_nears c d seat k at e (task.Passed v) is next =
    link_nearer _ v (c.seats seat) (d.seats seat) at.active is
    (part_is c d seat (kind.LoadCell v word.Link) tt (taken_as c d seat (kind.LoadCell v word.Link) k next e))
read_nears c d seat k at e (task.Registered v) is next =
    overwriter_nearer _ v (c.seats seat) (d.seats seat) at.active is
    (part_is c d seat (kind.LoadStamp v word.Overwriter) tt (taken_as c d seat (kind.LoadStamp v word.Overwriter) k next e))
read_nears c d seat k at e (task.Overtaken v mark) is next =
    succ_nearer _ v mark (c.seats seat) (d.seats seat) at.active is
    (part_is c d seat (kind.LoadStamp v word.OverwriterSucc) tt (taken_as c d seat (kind.LoadStamp v word.OverwriterSucc) k next e))
read_nears c d seat k at e _ is next = absurd (cc)

-- THE OWNER of an entry is looked at with the begin stamp.
abbrev looked : ℕ → ℕ → ℕ → Part → Part
looked owner bound found x = record x {
  task = if is_clear found bound then after_clear owner bound x x.task else x.task;
  clear = if is_clear found bound then noted owner bound x.clear else x.clear;
}

look_steps : (c : Core) (seat oid owner bound : ℕ) → Sound c → IsAtWork seat c → (c.seats seat).task ≡ task.Owned oid owner → bound ≡ (c.seats seat).current.begin
    → after_event c seat (kind.LoadState owner bound)
    ≡ Some (stepped c seat (kind.LoadState owner bound) (looked owner bound (state_of (c.seats owner).place) (c.seats seat)))
look_steps c seat oid owner bound sound at is begins =
    let b = bound_at c seat sound (task.Owned oid owner) is in
    let low = (sound.own seat).bounds.begin_seen in
    taken c seat (kind.LoadState owner bound) (looked owner bound (state_of (c.seats owner).place) (c.seats seat)) tt b.has_words
    (met _ _ _ refl
    (and_from _ _ (and_from _ _ (not_from_false _ (active_there (c.seats seat).place at.active)) (not_from_false _ (ne_eqb owner seat b.another)))
    (le-leb bound (c.seats seat).seen (omega (arith, begins, low)))))

pub look_taken : (c : Core) (seat oid owner bound : ℕ) → Sound c → IsAtWork seat c → (c.seats seat).task ≡ task.Owned oid owner → bound ≡ (c.seats seat).current.begin
    → IsTaken c seat (kind.LoadState owner bound)
look_taken c seat oid owner bound sound at is begins = (_, look_steps c seat oid owner bound sound at is begins)

-- one that isn't clear leaves the seat there; else the entry is loaded once more
pub look_waits : (c d : Core) (seat oid owner bound : ℕ) → Sound c → IsAtWork seat c → (c.seats seat).task ≡ task.Owned oid owner → bound ≡ (c.seats seat).current.begin
    → after_event c seat (kind.LoadState owner bound) ≡ Some d → is_clear (state_of (c.seats owner).place) bound ≡ false → (d.seats seat).task ≡ task.Owned oid owner
look_waits c d seat oid owner bound sound at is begins e unclear =
    ap (λ (y : Part). y.task)
    (part_stepped c d seat (kind.LoadState owner bound) (looked owner bound (state_of (c.seats owner).place) (c.seats seat)) (look_steps c seat oid owner bound sound at is begins) e)
    ∙ ap (λ (b : Bool). if b then after_clear owner bound (c.seats seat) (c.seats seat).task else (c.seats seat).task) unclear ∙ is

pub look_clears : (c d : Core) (seat oid owner bound : ℕ) → Sound c → IsAtWork seat c → (c.seats seat).task ≡ task.Owned oid owner → bound ≡ (c.seats seat).current.begin
    → after_event c seat (kind.LoadState owner bound) ≡ Some d → is_clear (state_of (c.seats owner).place) bound ≡ true → (d.seats seat).task ≡ task.Cleared oid
look_clears c d seat oid owner bound sound at is begins e clear =
    ap (λ (y : Part). y.task)
    (part_stepped c d seat (kind.LoadState owner bound) (looked owner bound (state_of (c.seats owner).place) (c.seats seat)) (look_steps c seat oid owner bound sound at is begins) e)
    ∙ ap (λ (b : Bool). if b then after_clear owner bound (c.seats seat) (c.seats seat).task else (c.seats seat).task) clear
    ∙ ap (after_clear owner bound (c.seats seat)) is
    ∙ cond-true (eqb owner owner && leb (c.seats seat).current.begin bound) (task.Cleared oid) (task.Owned oid owner)
    (and_from _ _ (eq-eqb owner owner refl) (le-leb (c.seats seat).current.begin bound (omega (arith, begins))))

pub cleared_taken : (c : Core) (seat oid : ℕ) → Sound c → IsAtWork seat c → (c.seats seat).task ≡ task.Cleared oid → IsTaken c seat (kind.LoadEntry oid)
cleared_taken c seat oid sound at is =
    let pl = active_at (c.seats seat).place at.active in
    let m = g_cleared c seat sound pl.0 pl.1 oid is in (m.after, m.taken)

-- ENTRIES. What is loaded of one leads to a walk from the head, to a look at its owner, or to the own claim.
pub entry_part : (c d : Core) (seat oid : ℕ) → IsAtWork seat c → after_event c seat (kind.LoadEntry oid) ≡ Some d
    → load_entry seat oid (c.shared.objects oid).entry (c.shared.objects oid) (c.seats seat) (c.seats seat).task ≡ Some (d.seats seat)
entry_part c d seat oid at e = unsealed_part (is_sealed (c.seats seat).place) _ _ (d.seats seat) (active_unsealed (c.seats seat).place at.active) (part_is c d seat (kind.LoadEntry oid) tt e)
  where
    unsealed_part : (b : Bool) (l r : Option Part) (y : Part) → b ≡ false → (if b then l else r) ≡ Some y → r ≡ Some y
    unsealed_part true l r y none f = absurd (cc)
    unsealed_part false l r y none f = f

pub cleared_walks : (c d : Core) (seat oid : ℕ) → IsAtWork seat c → (c.seats seat).task ≡ task.Cleared oid → after_event c seat (kind.LoadEntry oid) ≡ Some d
    → stage_of (d.seats seat).task ≡ finds oid
cleared_walks c d seat oid at is e =
    let o = c.shared.objects oid in
    let x = c.seats seat in
    let h = subst (λ (u : Task). load_entry seat oid o.entry o x u ≡ Some (d.seats seat)) is (entry_part c d seat oid at e) in
    when_then (λ (z : Part). stage_of z.task ≡ finds oid) _ _ (d.seats seat) h (λ _.
    either_way (λ (u : Task). stage_of u ≡ finds oid) (eqb oid oid) (task.Walks (head_version oid o.entry o) None) (entered seat oid o.entry o)
    (λ _. refl) (λ other. absurd (eqb-false oid oid other refl)))

-- what an entry leads to where the own seat isn't its owner
pub data Arrives (oid entry : ℕ) (t : Task) : Type 0 where
  walks : stage_of t ≡ finds oid → Arrives oid entry t
  owned : (owner : ℕ) → t ≡ task.Owned oid owner → owner_of entry ≡ owner → 0 < owner → Arrives oid entry t

entered_arrives : (seat oid entry : ℕ) (o : Object) → owner_of entry ≢ seat → Arrives oid entry (entered seat oid entry o)
entered_arrives seat oid entry o other =
    either_way (Arrives oid entry) (eqb (owner_of entry) 0) (task.Walks (head_version oid entry o) (Some entry)) _ (λ _. walks refl)
    (λ some. either_way (Arrives oid entry) (eqb (owner_of entry) seat) (task.Claimed (head_version oid entry o)) (task.Owned oid (owner_of entry))
    (λ own. absurd (other (eqb_is (owner_of entry) seat own)))
    (λ _. owned (owner_of entry) refl refl (positive (owner_of entry) (eqb-false (owner_of entry) 0 some))))
  where
    positive : (n : ℕ) → (n ≡ 0 → ⊥) → 0 < n
    positive n ne = grind arith

    eqb_is : (m n : ℕ) → eqb m n ≡ true → m ≡ n
    eqb_is m n e = grind arith

-- where a call may start no snapshot is safe
pub starts_plain : (t : Task) → may_start t ≡ true → is_safe t ≡ false
starts_plain task.Safe e = absurd (cc)
starts_plain (task.SafeWalks version) e = absurd (cc)
starts_plain (task.SafePassed version) e = absurd (cc)
starts_plain (task.SafeFound version) e = absurd (cc)
starts_plain _ e = refl

load_arrives : (seat oid entry : ℕ) (o : Object) (x y : Part) (t : Task) → may_start t ≡ true → owner_of entry ≢ seat → load_entry seat oid entry o x t ≡ Some y → Arrives oid entry y.task
load_arrives seat oid entry o x y (task.Cleared cleared) starts other e =
    when_then (λ (z : Part). Arrives oid entry z.task) _ _ y e (λ _.
    either_way (Arrives oid entry) (eqb oid cleared) (task.Walks (head_version oid entry o) None) (entered seat oid entry o)
    (λ _. walks refl) (λ _. entered_arrives seat oid entry o other))
load_arrives seat oid entry o x y t starts other e =
    entry_then (λ (z : Part). Arrives oid entry z.task) seat oid entry o x t y e
    (λ safe _. absurd (let plain = starts_plain t starts in cc)) (λ _. entered_arrives seat oid entry o other)

pub entry_arrives : (c d : Core) (seat oid : ℕ) → IsAtWork seat c → may_start (c.seats seat).task ≡ true → owner_of (c.shared.objects oid).entry ≢ seat → after_event c seat (kind.LoadEntry oid) ≡ Some d
    → Arrives oid (c.shared.objects oid).entry (d.seats seat).task
entry_arrives c d seat oid at starts other e =
    load_arrives seat oid (c.shared.objects oid).entry (c.shared.objects oid) (c.seats seat) (d.seats seat) (c.seats seat).task starts other (entry_part c d seat oid at e)

entry_starts : (seat oid entry : ℕ) (o : Object) (x : Part) (t : Task) → is_active x.place ≡ true → may_start t ≡ true
    → (y : Part) × (load_entry seat oid entry o x t ≡ Some y)
entry_starts seat oid entry o x (task.Cleared cleared) active starts = (_, met _ _ _ refl active)
entry_starts seat oid entry o x t active starts = (
  with_task (entered seat oid entry o) x,
  other_branch (is_safe t) (load_safe_entry oid entry o x) (when (is_active x.place && may_start t) (with_task (entered seat oid entry o) x)) _ (starts_plain t starts)
      (met _ _ _ refl (and_from _ _ active starts)),
)

pub entry_taken : (c : Core) (seat oid : ℕ) → IsAtWork seat c → may_start (c.seats seat).task ≡ true → oid < OBJECT_LIMIT → IsTaken c seat (kind.LoadEntry oid)
entry_taken c seat oid at starts known =
    let y = entry_starts seat oid (c.shared.objects oid).entry (c.shared.objects oid) (c.seats seat) (c.seats seat).task at.active starts in
    (_, taken c seat (kind.LoadEntry oid) y.0 tt (lt-ltb oid OBJECT_LIMIT known) (other_branch _ _ _ _ (active_unsealed (c.seats seat).place at.active) y.1))

-- where another seat is the owner, and where a walk begins
pub record IsOwned (oid entry owner : ℕ) (t : Task) : Type 0 where
  pub is : t ≡ task.Owned oid owner
  pub owns : owner_of entry ≡ owner
  pub some : 0 < owner

finds_owned : (oid n owner : ℕ) (t : Task) → t ≡ task.Owned n owner → stage_of t ≡ finds oid → ⊥
finds_owned oid n owner t is at = let none = ap stage_of is in absurd (cc)

pub arrived_owner : (oid entry : ℕ) (t : Task) (n owner : ℕ) → Arrives oid entry t → t ≡ task.Owned n owner → IsOwned oid entry owner t
arrived_owner oid entry t n owner (walks at) is = absurd (finds_owned oid n owner t is at)
arrived_owner oid entry t n owner (owned q at owns some) is =
    let same : q ≡ owner = cc in
    record { is = at ∙ ap (λ (p : ℕ). task.Owned oid p) same; owns = owns ∙ same; some = subst (λ (p : ℕ). 0 < p) same some }

pub arrived_walks : (oid entry : ℕ) (t : Task) → Arrives oid entry t → ((n owner : ℕ) → t ≡ task.Owned n owner → ⊥) → stage_of t ≡ finds oid
arrived_walks oid entry t (walks at) none = at
arrived_walks oid entry t (owned q at owns some) none = absurd (none oid q at)

-- the transaction stays the one that the view shows
pub begin_stays : (sessions seat : ℕ) (b c : Core) → GoesOn sessions seat b c → (c.seats seat).current.begin ≡ (world.work_at (view_of sessions b) seat).begin
begin_stays sessions seat b c goes =
    sym (ap (λ (w : Work). w.begin) (work_active (c.seats seat).place (c.seats seat).task (c.seats seat).current goes.at.active (plain_new (c.seats seat).task (c.seats seat).current goes.at.plain)))
    ∙ ap (λ (v : View). (world.work_at v seat).begin) goes.unseen.view
