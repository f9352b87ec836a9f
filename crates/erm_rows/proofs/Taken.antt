-- A claim's way to an object's entry: what stops it, and what taking the entry leaves.
use Rattle.std.proofs.Common.{◌≡◌, ◌≢◌, ℕ, ◌<◌, ◌≤◌, true, ⊎_elim, inl, inr, Option, Some, List, length, refl, sym, ap, ◌∙◌, subst, ltb, arith}
use Rattle.std.proofs.lemmas.Bool.{lt-ltb}
use Rattle.erm_model.specs.declared.row_stop.RowStop.{RowStop}
use Rattle.erm_model.specs.declared.row_stop.RowStop.TheVariants as stop
use Rattle.erm_machine.specs.declared.limits.TheConstants.{OBJECT_LIMIT, WRITE_LIMIT}
use Rattle.erm_machine.specs.declared.part.Part.{Part}
use Rattle.erm_machine.specs.declared.task.Task.{Task}
use Rattle.erm_machine.specs.declared.task.Task.TheVariants as task
use Rattle.erm_machine.specs.declared.version.VersionAt.{VersionAt}
use Rattle.erm_machine.specs.Bounds.{IsOther}
use Rattle.erm_machine.specs.Facts.{Holds}
use Rattle.erm_machine.specs.Seat.{is_active, with_task}
use Rattle.erm_machine.specs.Words.{claimed, head_of, owner_of}
use Rattle.erm_rule.specs.declared.view.View.{View}
use Rattle.erm_rule.specs.Views.{part_of, with_part}
use Rattle.erm_rule.proofs.Parts.{with_part-again}
use Rattle.erm_rule.proofs.Telling.{part_of-changed}
use Rattle.erm_cells.specs.Calls.{DidEnter, DidTake, IsFoundHead, taken_part, walked}
use Rattle.erm_cells.specs.Spare.{SpareIs}
use Rattle.erm_cells.proofs.Heads.{has}
use Rattle.erm_cells.proofs.Views.{choose}
use Rattle.erm_entries.specs.declared.entries.Entry.{Entry}
use Rattle.erm_entries.specs.Spelling.{entry_of}
use Rattle.erm_entries.proofs.Reaching.{is_other, owned_entered}
use Rattle.erm_rows.specs.declared.active.Active.{Active}
use Rattle.erm_rows.specs.Active.{IsActive}
use Rattle.erm_rows.specs.Claims.{DidFindFree, DidMeetNewer, DidMeetOwner, DidMissHead, DidNotExchange, DidNotFind, DidNotTake, DidTakeEntry}
use Rattle.erm_rows.proofs.Kept.{kept_same}

same_version_found : (a b : VersionAt) (m n : ℕ) (h k : Option ℕ) → task.Found a m h ≡ task.Found b n k → a ≡ b
same_version_found a b m n h k e = cc

same_stamp_found : (a b : VersionAt) (m n : ℕ) (h k : Option ℕ) → task.Found a m h ≡ task.Found b n k → m ≡ n
same_stamp_found a b m n h k e = cc

-- claims that aren't as many as may be leave room
pub room_left : (n many : ℕ) → n ≤ WRITE_LIMIT → (n ≡ WRITE_LIMIT → ⊥) → n ≡ many → many < WRITE_LIMIT
room_left n many most other is = grind (arith, most, other, is)

module _ (v : View) (who oid : ℕ) (active : is_active (part_of v who).place ≡ true) (object : oid < OBJECT_LIMIT) (unclaimed : Holds (part_of v who) oid → ⊥) where
  abbrev x : Part
  x = part_of v who

  -- another seat owns the entry that was loaded
  pub meets_owner : (entry : ℕ) (u : View) → DidEnter v who oid entry u → (e : Entry) → entry_of entry ≡ e → e.owner ≢ 0 → DidMeetOwner v who oid e.owner e.number u
  meets_owner entry u enter e spelled some =
      let owner_is : owner_of entry ≡ e.owner = ap (λ (z : Entry). z.owner) spelled in
      let other : IsOther who e.owner = is_other v who active oid x.current.begin object refl entry u enter unclaimed e.owner owner_is some in
      record {
        entry = entry;
        owner_is = owner_is;
        number_is = ap (λ (z : Entry). z.number) spelled;
        other = other;
        view_is = enter.view_is ∙ ap (λ (t : Task). with_part who (with_task t x) v) (owned_entered who oid entry e.owner enter.object owner_is some other.another);
        known = enter.known;
        met = enter.met;
      }

  -- a head was found that may be claimed
  module _ (entry : ℕ) (u : View) (found : DidFindFree v who oid entry u) where
    abbrev a : Part
    a = with_task (task.Found found.walk.version found.stamp (Some entry)) x

    u_is : u ≡ with_part who a v
    u_is = found.walk.view_is
        ∙ ap (λ (t : Task). with_part who (with_task t x) v)
        (choose (ltb found.stamp x.current.begin) (task.Found found.walk.version found.stamp (Some entry)) (task.Passed found.walk.version) (lt-ltb _ _ found.below))

    a_is : part_of u who ≡ a
    a_is = part_of-changed v who u a x (has v who active) u_is

    pub active_found : is_active (part_of u who).place ≡ true
    active_found = ap (λ (z : Part). is_active z.place) a_is ∙ active

    pub head_found : IsFoundHead (part_of u who).task oid entry
    head_found = subst (λ (z : Part). IsFoundHead z.task oid entry) (sym a_is) (found.walk.oid_is, refl)

    pub number_found : (n : ℕ) → n ≡ x.current.number → (part_of u who).current.number ≡ n
    number_found n is = ap (λ (z : Part). z.current.number) a_is ∙ sym is

    pub room_found : length x.current.writes < WRITE_LIMIT → length (part_of u who).current.writes < WRITE_LIMIT
    room_found low = subst (λ (z : Part). length z.current.writes < WRITE_LIMIT) (sym a_is) low

    pub unclaimed_found : Holds (part_of u who) oid → ⊥
    unclaimed_found h = unclaimed (subst (λ (z : Part). Holds z oid) a_is h)

    pub takes : (head : ℕ) (w : View) → head_of entry ≡ head → DidTake u who oid entry w → DidTakeEntry v who oid head w
    takes head w head_is take =
        let same : task.Found found.walk.version found.stamp (Some entry) ≡ task.Found take.version take.stamp (Some entry) = sym (ap (λ (z : Part). z.task) a_is) ∙ take.found in
        let version : found.walk.version ≡ take.version = same_version_found _ _ _ _ _ _ same in
        let stamp : found.stamp ≡ take.stamp = same_stamp_found _ _ _ _ _ _ same in
        record {
          version = take.version;
          stamp = take.stamp;
          base = take.base;
          oid_is = take.oid_is;
          cell_is = ap (λ (z : VersionAt). z.cell) (sym version) ∙ found.walk.cell_is ∙ head_is;
          below = subst (λ (n : ℕ). n < x.current.begin) stamp found.below;
          view_is =
              take.view_is
              ∙ ap (λ (z : Part). with_part who (taken_part take.version take.stamp take.base z) u) a_is
              ∙ ap (λ (t : View). with_part who (taken_part take.version take.stamp take.base a) t) u_is
              ∙ with_part-again who a (taken_part take.version take.stamp take.base a) v;
          known = take.known;
          entry = take.entry ∙ ap (λ (z : Part). claimed entry who z.current.number) a_is ∙ ap (λ (n : ℕ). claimed n who x.current.number) (found.walk.plain ∙ head_is);
        }

    set_again : (t : Part → Task) (w : View) → (t (part_of u who) ≡ t x) → w ≡ with_part who (with_task (t (part_of u who)) (part_of u who)) u → w ≡ with_part who (with_task (t x) x) v
    set_again t w same is =
        is
        ∙ ap (λ (n : Task). with_part who (with_task n (part_of u who)) u) same
        ∙ ap (λ (z : Part). with_part who (with_task (t x) z) u) a_is
        ∙ ap (λ (s : View). with_part who (with_task (t x) a) s) u_is
        ∙ with_part-again who a (with_task (t x) a) v

    pub misses : (why : RowStop) (w : View) → DidNotExchange u who oid entry why w → DidNotTake v who oid why w
    misses (stop.Owned seat number) w did = record {
      entry = did.entry;
      owner_is = did.owner_is;
      number_is = did.number_is;
      other = did.other;
      view_is = set_again (λ z. task.Owned oid seat) w refl did.view_is;
      known = did.known;
      met = did.met;
    }
    misses (stop.Newer stamp) w did =
        inr (record {
          seen = entry;
          first = u;
          found = found;
          lost = did;
          view_is = set_again (λ z. task.Passed did.version) w refl did.view_is;
          newer = subst (λ (z : Part). z.current.begin ≤ stamp) a_is did.newer;
        })
    misses _ w did = absurd did

  pub stops : (why : RowStop) (w : View) → DidNotFind v who oid why w → DidNotTake v who oid why w
  stops (stop.Owned seat number) w did = did
  stops (stop.Newer stamp) w did = inl did
  stops _ w did = absurd did

  -- where the entry isn't taken, all of the seat's part but its task is as before
  changed_task : (n : Task) (w : View) → w ≡ with_part who (with_task n x) v → (t : Task) × (part_of w who ≡ with_task t x)
  changed_task n w changed = (n, part_of-changed v who w (with_task n x) x (has v who active) changed)

  pub part_stopped : (why : RowStop) (w : View) → DidNotTake v who oid why w → (t : Task) × (part_of w who ≡ with_task t x)
  part_stopped stop.WritesFull w did = (x.task, ap (λ (s : View). part_of s who) did.1)
  part_stopped (stop.Owned seat number) w did = changed_task (task.Owned oid seat) w did.view_is
  part_stopped (stop.Newer stamp) w did =
      ⊎_elim (λ (newer : DidMeetNewer v who oid stamp w). changed_task (walked newer.walk.version newer.entry stamp x) w newer.walk.view_is)
      (λ (missed : DidMissHead v who oid stamp w). changed_task (task.Passed missed.lost.version) w missed.view_is) did
  part_stopped _ w did = absurd did

  pub kept_stopped : (t : Active) → IsActive t (part_of v who) → (why : RowStop) (w : View) → DidNotTake v who oid why w → IsActive t (part_of w who)
  kept_stopped t is why w did =
      let same = part_stopped why w did in
      subst (λ (z : Part). IsActive t z) (sym same.1) (kept_same t x (with_task same.0 x) refl is)

  pub spare_stopped : (cells : List ℕ) → SpareIs cells (part_of v who) → (why : RowStop) (w : View) → DidNotTake v who oid why w → SpareIs cells (part_of w who)
  spare_stopped cells is why w did = subst (λ (z : Part). SpareIs cells z) (sym (part_stopped why w did).1) is
