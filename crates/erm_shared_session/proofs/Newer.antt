-- A claim of a session of the word table that met a newer version: by whose commit, in each world in which all may end.
use Rattle.std.proofs.Common.{◌≡◌, ℕ, ◌^◌, ◌<◌, ◌≤◌, ⊎_elim, Bool, true, false, [], ◌∷◌, Option, Some, None, refl, sym, ap, ◌∙◌, subst, arith}
use Rattle.std.specs.Prelude.{if◌then◌else◌, nat_lt}
use Rattle.erm_model.specs.declared.row_stop.RowStop.TheVariants as stop
use Rattle.erm_model.specs.History.{History}
use Rattle.erm_model.specs.Member.{◌∈◌}
use Rattle.erm_model.specs.RowTransaction.{Law}
use Rattle.erm_machine.specs.declared.attempt.Attempt.{Attempt}
use Rattle.erm_machine.specs.declared.attempt.Decision.TheVariants.{Undecided}
use Rattle.erm_machine.specs.declared.event.Kind.TheVariants as kind
use Rattle.erm_machine.specs.declared.part.Part.{Part}
use Rattle.erm_machine.specs.declared.place.Place.{Place}
use Rattle.erm_machine.specs.declared.place.Place.TheVariants as place
use Rattle.erm_machine.specs.declared.task.Task.{Task}
use Rattle.erm_machine.specs.declared.task.Task.TheVariants as task
use Rattle.erm_machine.specs.declared.version.CellWord.TheVariants as word
use Rattle.erm_machine.specs.declared.version.VersionAt.{VersionAt}
use Rattle.erm_machine.specs.Chains.{IsNamed, NamedInHand}
use Rattle.erm_machine.specs.Core.{Core, Shared, spot_of, word_at}
use Rattle.erm_machine.specs.Facts.{IsCurrent}
use Rattle.erm_machine.specs.Lives.{in_progress}
use Rattle.erm_machine.specs.Reading.{load_walked_stamp}
use Rattle.erm_machine.specs.Seat.{is_active, with_task}
use Rattle.erm_machine.specs.Sound.{Sound}
use Rattle.erm_machine.proofs.Guards.{when_then}
use Rattle.erm_machine.proofs.QuietKinds.{quiet_kind}
use Rattle.erm_core_cells.proofs.ChainsFrames.{same_name}
use Rattle.erm_core_met.specs.Met.{IsNewer}
use Rattle.erm_core_met.proofs.Others.{newer_is}
use Rattle.erm_core_shown.proofs.Only.{none_after, only_sessions}
use Rattle.erm_core_stays.proofs.Commits.{event_commits}
use Rattle.erm_cells.specs.Calls.{walked}
use Rattle.erm_cells.specs.Took.{IsEndStep}
use Rattle.erm_rows.specs.Claims as rows
use Rattle.erm_rows.specs.Took.{TookMissed, TookNotFree}
use Rattle.erm_rule.specs.declared.view.Book.{Book}
use Rattle.erm_rule.specs.Books.{IsAfter, IsBookOf, Passes}
use Rattle.erm_rule.specs.Steps.{Booked}
use Rattle.erm_rule.specs.Views.{part_in, part_of}
use Rattle.erm_rule.proofs.Telling.{part_of-changed}
use Rattle.erm_rule.proofs.Wents.{went_goes}
use Rattle.erm_session.specs.Took.{TookClaimStop}
use Rattle.erm_beside.specs.Ends.{WasNewer}
use Rattle.erm_world.specs.World.{View}
use Rattle.erm_world.specs.World as world
use Rattle.erm_own_view.specs.Own.{EndsIn, WasOf}
use Rattle.erm_own_view.proofs.Along.{found_then, none_of, of_later, was_before, was_itself}
use Rattle.erm_shared_session.proofs.Claiming.{AtWork}
use Rattle.erm_shared_session.proofs.Meeting.{Shows, stamp_low}
use Rattle.erm_shared_session.proofs.Tidying.{Held, held_took}

-- A STAMP WAS LOADED, and its version passed: it was in hand.
passed_is : (b : Bool) (w u : VersionAt) (found : ℕ) (head : Option ℕ) → (if b then task.Found w found head else task.Passed w) ≡ task.Passed u → w ≡ u
passed_is true w u found head is = absurd (cc)
passed_is false w u found head is = cc

cut_never : (b : Bool) (w u : VersionAt) (horizon : ℕ) (P : Type 0) → (if b then task.CutFound w horizon else task.CutPassed w horizon) ≡ task.Passed u → P
cut_never true w u horizon P is = absurd (cc)
cut_never false w u horizon P is = absurd (cc)

safe_never : (b : Bool) (w u : VersionAt) (P : Type 0) → (if b then task.SafeFound w else task.SafePassed w) ≡ task.Passed u → P
safe_never true w u P is = absurd (cc)
safe_never false w u P is = absurd (cc)

-- the version is named by each state in which the task is in hand
record Names (s : Shared) (v u : VersionAt) : Type 0 where
  named : IsNamed s v
  same : v ≡ u

names : (s : Shared) (found : ℕ) (v u : VersionAt) (x y : Part) (t : Task) → load_walked_stamp found v x t ≡ Some y → y.task ≡ task.Passed u → NamedInHand s t → Names s v u
names s found v u x y (task.Walks w head) e is named =
    when_then (λ (z : Part). z.task ≡ task.Passed u → Names s v u) _ _ y e
    (λ g passes.
    let one = same_name v w g in
    record { named = subst (IsNamed s) (sym one) named; same = one ∙ passed_is (nat_lt found x.current.begin) w u found head passes }) is
names s found v u x y (task.CutWalks w horizon) e is named =
    when_then (λ (z : Part). z.task ≡ task.Passed u → Names s v u) _ _ y e (λ g passes. cut_never (nat_lt found horizon) w u horizon (Names s v u) passes) is
names s found v u x y (task.SafeWalks w) e is named =
    when_then (λ (z : Part). z.task ≡ task.Passed u → Names s v u) _ _ y e (λ g passes. safe_never (nat_lt found x.current.begin) w u (Names s v u) passes) is
names s found v u x y (task.Passed w) e is named =
    when_then (λ (z : Part). z.task ≡ task.Passed u → Names s v u) _ _ y e
    (λ g passes. let one = same_name v w g in let last : w ≡ u = cc in record { named = subst (IsNamed s) (sym one) named; same = one ∙ last }) is
names s found v u x y _ e is named = absurd (cc)

active_names : (b : Bool) (s : Shared) (found : ℕ) (v u : VersionAt) (x y : Part) → (if b then load_walked_stamp found v x x.task else None) ≡ Some y → y.task ≡ task.Passed u → NamedInHand s x.task → Names s v u
active_names true s found v u x y e is named = names s found v u x y x.task e is named
active_names false s found v u x y e is named = absurd (cc)

active_progress : (pl : Place) → is_active pl ≡ true → in_progress pl ≡ 1
active_progress (place.Active tail) active = refl
active_progress _ active = absurd (cc)

active_undecided : (pl : Place) (t : Attempt) → is_active pl ≡ true → IsCurrent pl t → t.decision ≡ Undecided
active_undecided (place.Active tail) t active current = current.decision
active_undecided _ t active current = absurd (cc)

-- a newer version stays one
newer_passes : (seat oid stamp : ℕ) (c d : Core) → Passes c d → IsNewer c seat oid stamp → IsNewer d seat oid stamp
newer_passes seat oid stamp c d passes newer = record {
  by = newer.by;
  committed = event_commits c d passes.1.0 passes.1.1 passes.0 passes.1.2 newer.by newer.committed;
  another = newer.another;
  stamp_is = newer.stamp_is;
  makes = newer.makes;
}

-- THE STEP that loaded the stamp, and left the seat's part but for its task
module _ (law : Law) (seat oid : ℕ) (version u : VersionAt) (stamp : ℕ) (m e : Book) (booked : Booked law m seat (kind.LoadCell version word.Stamp) stamp e) (held : Held seat m) (x : Part)
    (after : part_of e.view seat ≡ with_task (task.Passed u) x) (oid_is : u.oid ≡ oid) (active : is_active x.place ≡ true) (above : x.current.begin ≤ stamp) where
  told_part : booked.under.told.part ≡ with_task (task.Passed u) x
  told_part = sym (part_of-changed m.view seat e.view booked.under.told.part (part_of m.view seat) held booked.under.told.view_is) ∙ after

  before_is : booked.under.told.before.seats seat ≡ part_of m.view seat
  before_is = booked.under.told.is_view seat (part_of m.view seat) held

  begin_before : (part_of m.view seat).current.begin ≡ x.current.begin
  begin_before =
      let told = booked.under.told in
      let steady = (quiet_kind seat (kind.LoadCell version word.Stamp) stamp told.before.shared (told.before.seats seat) told.part tt told.part_is).steady in
      ap (λ (y : Part). y.current.begin) (sym before_is) ∙ sym steady.begin ∙ ap (λ (y : Part). y.current.begin) told_part

  active_before : is_active (part_of m.view seat).place ≡ true
  active_before =
      let told = booked.under.told in
      let steady = (quiet_kind seat (kind.LoadCell version word.Stamp) stamp told.before.shared (told.before.seats seat) told.part tt told.part_is).steady in
      ap (λ (y : Part). is_active y.place) (sym before_is) ∙ ap is_active (sym steady.place) ∙ ap (λ (y : Part). is_active y.place) told_part ∙ active

  newer_there : (c : Core) → IsBookOf m c → word_at c (spot_of seat (kind.LoadCell version word.Stamp)) ≡ stamp → IsNewer c seat oid stamp
  newer_there c is met =
      let told = booked.under.told in
      let here : c.seats seat ≡ part_of m.view seat = is.is_view seat (part_of m.view seat) held in
      let before : told.before.seats seat ≡ c.seats seat = before_is ∙ sym here in
      let named : NamedInHand c.shared (told.before.seats seat).task = subst (λ (y : Part). NamedInHand c.shared y.task) (sym before) (is.sound.own seat).chains.named in
      let it = active_names (is_active (told.before.seats seat).place) c.shared stamp version u (told.before.seats seat) told.part told.part_is (ap (λ (y : Part). y.task) told_part) named in
      let now : is_active (c.seats seat).place ≡ true = ap (λ (y : Part). is_active y.place) here ∙ active_before in
      let begin : (c.seats seat).current.begin ≡ x.current.begin = ap (λ (y : Part). y.current.begin) here ∙ begin_before in
      let newer = newer_is c seat version.oid version.place is.sound it.named.object it.named.within (active_progress (c.seats seat).place now)
      (active_undecided (c.seats seat).place (c.seats seat).current now (is.sound.own seat).ranges.current) (omega (arith, above, begin, met)) in
      subst (λ (n : ℕ). IsNewer c seat n stamp) (ap (λ (v : VersionAt). v.oid) it.same ∙ oid_is) (subst (λ (n : ℕ). IsNewer c seat version.oid n) met newer)

  pub newer_then : (c : Core) → IsBookOf e c → IsNewer c seat oid stamp
  newer_then = found_then law (λ (d : Core). IsNewer d seat oid stamp) (newer_passes seat oid stamp) m seat (kind.LoadCell version word.Stamp) stamp e booked newer_there

-- IN THE END
newer_end : Shows → (law : Law) (seat begin oid stamp : ℕ) (m e : Book) (v f : View) → IsAfter m e → EndsIn law seat e v f → begin ≤ stamp → ((c : Core) → IsBookOf m c → IsNewer c seat oid stamp)
    → WasNewer f seat begin oid stamp
newer_end shows law seat begin oid stamp m e v f goes end above so =
    let was : WasOf m end.core = was_before m e end.core goes end.was in
    let newer = of_later (λ (c : Core). IsNewer c seat oid stamp) (newer_passes seat oid stamp) m end.core so was in
    let only = only_sessions end.core end.under.sound (none_of none_after m end.core (λ q none. refl) was) in record {
      by = newer.by;
      committed = subst (λ (w : View). newer.by ∈ world.history_of w) (sym end.shows) (subst (λ (h : History). newer.by ∈ h) (sym (shows end.core end.under.sound only)) newer.committed);
      another = newer.another;
      stamp_is = newer.stamp_is;
      makes = newer.makes;
      above = above;
    }

-- a stamp at or above the begin lets the version be passed
walks_past : (v : VersionAt) (entry stamp : ℕ) (x : Part) → x.current.begin ≤ stamp → walked v entry stamp x ≡ task.Passed v
walks_past v entry stamp x above = by (nat_lt stamp x.current.begin) refl
  where
    by : (b : Bool) → nat_lt stamp x.current.begin ≡ b → (if b then task.Found v stamp (Some entry) else task.Passed v) ≡ task.Passed v
    by true is = absurd (grind (arith, is, above))
    by false is = refl

-- THE REFUSAL. A book after which no event of the call changed anything of it, in each of whose states the version was newer.
pub record NewerMet (law : Law) (seat begin oid stamp : ℕ) (e : Book) : Type 0 where
  pub at : Book
  pub goes : IsAfter at e
  pub above : begin ≤ stamp
  pub newer : (c : Core) → IsBookOf at c → IsNewer c seat oid stamp
  pub state : Core
  pub is : IsBookOf at state

module _ (law : Law) (seat : ℕ) (b e : Book) (held : part_in b.view seat ≡ Some (part_of b.view seat)) (at : AtWork (part_of b.view seat)) (oid : ℕ) where
  abbrev part : Part
  part = part_of b.view seat

  pub newer_met : (stamp : ℕ) → TookClaimStop law seat oid (stop.Newer stamp) b e → NewerMet law seat part.current.begin oid stamp e
  newer_met stamp took =
      let n = took.between in
      let goes = went_goes law seat IsEndStep n e took.ends in
      let by_step : (version u : VersionAt) (m : Book) → Booked law m seat (kind.LoadCell version word.Stamp) stamp n → Held seat m → part_of n.view seat ≡ with_task (task.Passed u) part → u.oid ≡ oid → part.current.begin ≤ stamp
      → NewerMet law seat part.current.begin oid stamp e =
      λ version u m booked there after oid_is above.
      let told = booked.under.told in
      record {
        at = n;
        goes = goes;
        above = above;
        newer = newer_then law seat oid version u stamp m n booked there part after oid_is at.active above;
        state = told.after;
        is = record { sound = told.sound_after; is_view = told.is_view_after; course = booked.course_after };
      } in
      let by_took : (u : VersionAt) → part_of n.view seat ≡ with_task (task.Passed u) part → u.oid ≡ oid → part.current.begin ≤ stamp → NewerMet law seat part.current.begin oid stamp e =
      λ u after oid_is above.
      ⊎_elim
      (λ (load : TookNotFree law seat oid (stop.Newer stamp) b n).
      let steps = load.2.took in
      by_step load.2.version u steps.0 steps.2 (held_took law seat ((kind.LoadEntry oid, load.0) ∷ []) b steps.0 held steps.1) after oid_is above)
      (λ (missed : TookMissed law seat oid (stop.Newer stamp) b n).
      let first = held_took law seat ((kind.LoadCell missed.free.head.version word.Stamp, missed.free.stamp) ∷ (kind.LoadEntry oid, missed.entry) ∷ []) b missed.at held missed.free.head.took in
      let steps = missed.other.4 in
      by_step missed.other.3 u steps.0 steps.2 (held_took law seat ((kind.Claim oid missed.entry missed.number, missed.other.0) ∷ []) missed.at steps.0 first steps.1) after oid_is above)
      took.refused.0.1 in
      ⊎_elim
      (λ (met : rows.DidMeetNewer b.view seat oid stamp n.view).
      let walk = met.walk in
      by_took walk.version
      (part_of-changed b.view seat n.view (with_task (walked walk.version met.entry stamp part) part) part held walk.view_is
      ∙ ap (λ (t : Task). with_task t part) (walks_past walk.version met.entry stamp part met.newer)) walk.oid_is met.newer)
      (λ (met : rows.DidMissHead b.view seat oid stamp n.view).
      by_took met.lost.version (part_of-changed b.view seat n.view (with_task (task.Passed met.lost.version) part) part held met.view_is) met.lost.oid_is met.newer)
      took.refused.1

-- the stamp lies below the log's end since
stamp_under : (seat oid stamp : ℕ) (c : Core) → Sound c → IsNewer c seat oid stamp → stamp < c.shared.tail
stamp_under seat oid stamp c sound newer = let low = stamp_low c newer.by sound newer.committed in let is = newer.stamp_is in omega (arith, low, is)

module _ (law : Law) (seat begin oid stamp : ℕ) (e : Book) (met : NewerMet law seat begin oid stamp e) where
  pub newer_below : (c : Core) → IsBookOf e c → stamp < c.shared.tail
  newer_below c is =
      stamp_under seat oid stamp c is.sound
      (of_later (λ (d : Core). IsNewer d seat oid stamp) (newer_passes seat oid stamp) met.at c met.newer (was_before met.at e c met.goes (was_itself e c is)))

  pub newer_low : stamp < 2 ^ 61
  newer_low =
      let low = stamp_under seat oid stamp met.state met.is.sound (met.newer met.state met.is) in
      let below = met.is.sound.common.ranges.below in
      omega (arith, low, below)

  pub newer_was : Shows → (v f : View) → EndsIn law seat e v f → WasNewer f seat begin oid stamp
  newer_was shows v f end = newer_end shows law seat begin oid stamp met.at e v f met.goes end met.above met.newer
