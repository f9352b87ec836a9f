-- The second half of a claim: which steps are taken, and what they leave.
use Rattle.std.proofs.Common.{◌≡◌, ℕ, ◌+◌, ◌-◌, ◌*◌, ◌<◌, ◌≤◌, Bool, true, false, eqb, length, map, take, List, Option, Some, None, refl, sym, ap, ◌∙◌, subst, arith}
use Rattle.std.specs.Prelude.{if◌then◌else◌}
use Rattle.std.proofs.lemmas.Bool.{eqb-false}
use Rattle.std.proofs.lemmas.List.{length-map, take-map}
use Rattle.std.proofs.lemmas.Option.{same_Some}
use Rattle.erm_model.specs.declared.history.VersionWritten.{VersionWritten}
use Rattle.erm_machine.specs.declared.attempt.Attempt.{Attempt}
use Rattle.erm_machine.specs.declared.event.Counter.TheVariants.{Cells}
use Rattle.erm_machine.specs.declared.event.Kind.{Kind}
use Rattle.erm_machine.specs.declared.event.Kind.TheVariants as kind
use Rattle.erm_machine.specs.declared.event.TailUse.TheVariants as purpose
use Rattle.erm_machine.specs.declared.limits.TheConstants.{ANNOUNCERS}
use Rattle.erm_machine.specs.declared.part.Part.{Part}
use Rattle.erm_machine.specs.declared.place.Place.TheVariants.{Active}
use Rattle.erm_machine.specs.declared.task.Task.{Task}
use Rattle.erm_machine.specs.declared.task.Task.TheVariants as task
use Rattle.erm_machine.specs.declared.version.CellWord.TheVariants as word
use Rattle.erm_machine.specs.declared.version.VersionAt.{VersionAt}
use Rattle.erm_machine.specs.Chains.{CutInHand, IsAttached, IsDetached}
use Rattle.erm_machine.specs.Core.{Core, spot_of, version_at, word_at}
use Rattle.erm_machine.specs.Decided.{written_of}
use Rattle.erm_machine.specs.Life.{load_begin, load_tail_for_horizon, lower}
use Rattle.erm_machine.specs.Reading.{add_counter, after_cut, load_active_stamp, load_counter, load_detached, load_walked_link, load_walked_stamp, older, store_row_word, swap_link}
use Rattle.erm_machine.specs.Seat.{is_active, last_claim, when, is_snapshot}
use Rattle.erm_machine.specs.Settling.{install, without_newest}
use Rattle.erm_machine.specs.Sound.{Sound}
use Rattle.erm_machine.specs.Step.{after_event, part_after}
use Rattle.erm_machine.specs.Words.{begin_of}
use Rattle.erm_machine.proofs.Guards.{either_way, when_then}
use Rattle.erm_machine.proofs.QuietKinds as machine
use Rattle.erm_world.specs.Calls.{Works}
use Rattle.erm_world.specs.World.{Session, View, Work, work_at}
use Rattle.erm_world.specs.World as world
use Rattle.erm_core.specs.Rooms.{AddsNothing, IsOfNone, LeavesChain, ranges_in}
use Rattle.erm_core_calls.specs.Going.{MovesOn, newest_of, next_copy, next_draw, own_at}
use Rattle.erm_core_calls.proofs.GoesActive.{bound_at, g_claimed, g_cut_found, g_cut_passed, g_cut_walks, g_detaches, g_horizon, named_at}
use Rattle.erm_core_calls.proofs.GoesClaims.{g_copies, g_draws, g_fetched, g_pool, g_refused}
use Rattle.erm_core_calls.proofs.Moving.{below_way, branch}
use Rattle.erm_core_view.specs.Steps.{IsCalm, MeetsOne, drawn_by, flushed_by}
use Rattle.erm_core_view.specs.Views.{session_of, view_of, work_of}
use Rattle.erm_core_view.proofs.Chained.{unsaved}
use Rattle.erm_core_view.proofs.Moved.{calm_shows, changes_one}
use Rattle.erm_core_view.proofs.Shown.{shows_work, work_active}
use Rattle.erm_core_view.proofs.Words.{copy_shows}
use Rattle.erm_core_view.proofs.Snapshots.{plain_new}
use Rattle.erm_core_steps.specs.Finishes.{IsDropped, finish_step, is_finishing}
use Rattle.erm_core_steps.specs.Reads.{GoesOn, IsAtWork}
use Rattle.erm_core_steps.specs.Steps.{IsTaken, IsUnpromised}
use Rattle.erm_core_steps.proofs.Aborts.{no_flusher}
use Rattle.erm_core_steps.proofs.Unseen.{others_stay, unseen_step}
use Rattle.erm_core_steps.proofs.Ways.{active_kept, part_is}
use Rattle.erm_core_steps.proofs.Places.{active_at}

-- how many steps of that half are left at most
abbrev pub finish_left : Task → ℕ
finish_left (task.Claimed version) = 2 * version.place + 24 + ANNOUNCERS
finish_left (task.Horizon version least next) = 2 * version.place + 23 + (ANNOUNCERS - next)
finish_left (task.CutWalks version horizon) = 2 * version.place + 23
finish_left (task.CutPassed version horizon) = 2 * version.place + 22
finish_left (task.CutFound version horizon) = version.place + 21
finish_left (task.Detaches version) = version.place + 20
finish_left task.Draws = 19
finish_left task.Pool = 18
finish_left task.Fetched = 17
finish_left (task.Copies k) = 16 - k
finish_left t = 0

-- the object whose chain is still to be cut
abbrev pub object_to_cut : Task → Option ℕ
object_to_cut (task.Claimed version) = Some version.oid
object_to_cut (task.Horizon version least next) = Some version.oid
object_to_cut (task.CutWalks version horizon) = Some version.oid
object_to_cut (task.CutPassed version horizon) = Some version.oid
object_to_cut (task.CutFound version horizon) = Some version.oid
object_to_cut t = None

-- the steps of that half
abbrev IsStep : Kind → Type 0
IsStep (kind.LoadTail purpose.Horizon) = Unit {0}
IsStep (kind.LoadBegin other) = Unit {0}
IsStep (kind.LoadCell v w) = Unit {0}
IsStep (kind.LoadStamp v w) = Unit {0}
IsStep (kind.LoadCounter Cells) = Unit {0}
IsStep (kind.AddCounter Cells) = Unit {0}
IsStep (kind.SwapLink v) = Unit {0}
IsStep (kind.LoadDetached v) = Unit {0}
IsStep (kind.StoreCell place cell w value) = Unit {0}
IsStep k = ⊥

-- they meet one word, neither draw a range nor decide, and leave the place flushed
pub record Still (k : Kind) : Type 0 where
  pub free : IsUnpromised k
  pub one : MeetsOne k
  pub drawn : drawn_by k ≡ 0
  pub flushed : (n : ℕ) → flushed_by k n ≡ n

step_still : (k : Kind) → IsStep k → Still k
step_still (kind.LoadTail purpose.Horizon) step = record { free = tt; one = tt; drawn = refl; flushed = λ n. refl }
step_still (kind.LoadBegin other) step = record { free = tt; one = tt; drawn = refl; flushed = λ n. refl }
step_still (kind.LoadCell v w) step = record { free = tt; one = tt; drawn = refl; flushed = λ n. refl }
step_still (kind.LoadStamp v w) step = record { free = tt; one = tt; drawn = refl; flushed = λ n. refl }
step_still (kind.LoadCounter Cells) step = record { free = tt; one = tt; drawn = refl; flushed = λ n. refl }
step_still (kind.AddCounter Cells) step = record { free = tt; one = tt; drawn = refl; flushed = λ n. refl }
step_still (kind.SwapLink v) step = record { free = tt; one = tt; drawn = refl; flushed = λ n. refl }
step_still (kind.LoadDetached v) step = record { free = tt; one = tt; drawn = refl; flushed = λ n. refl }
step_still (kind.StoreCell place cell w value) step = record { free = tt; one = tt; drawn = refl; flushed = λ n. refl }
step_still _ step = absurd step

-- a step's room: most need none; the swap has what is kept for the cut
pub data Needs (t : Task) (k : Kind) : Type 0 where
  nothing : ranges_in k ≡ 0 → IsOfNone k → Needs t k
  cut : (v : VersionAt) → k ≡ kind.SwapLink v → object_to_cut t ≡ Some v.oid → Needs t k

-- what a step leaves of it: all, or nothing is to be cut off any more
pub data Lasts (k : Kind) (u : Task) : Type 0 where
  all_left : AddsNothing k → ((oid : ℕ) → LeavesChain k oid) → Lasts k u
  none_to_cut : object_to_cut u ≡ None → Lasts k u

-- from one task of that half to the next
pub record Near (t u : Task) : Type 0 where
  pub finishing : is_finishing u ≡ true
  pub cuts : (oid : ℕ) → object_to_cut u ≡ Some oid → object_to_cut t ≡ Some oid
  pub falls : finish_left u < finish_left t

near_if : (t : Task) (b : Bool) (u v : Task) → (b ≡ true → Near t u) → (b ≡ false → Near t v) → Near t (if b then u else v)
near_if t b u v f g = either_way (Near t) b u v f g

-- where nothing is to be cut off any more
near_done : (t u : Task) → is_finishing u ≡ true → object_to_cut u ≡ None → finish_left u < finish_left t → Near t u
near_done t u finishing none falls = record { finishing = finishing; cuts = λ oid some. absurd (let e : ◌≡◌ {A = Option ℕ} None (Some oid) = sym none ∙ some in cc); falls = falls }

-- where the version in hand is one of the same object
near_same : (t u : Task) → is_finishing u ≡ true → object_to_cut u ≡ object_to_cut t → finish_left u < finish_left t → Near t u
near_same t u finishing same falls = record { finishing = finishing; cuts = λ oid some. sym same ∙ some; falls = falls }

near_cut : (t : Task) (x : Part) → 19 < finish_left t → Near t (after_cut x)
near_cut t x more = near_if t _ task.Draws task.Rest (λ _. near_done t task.Draws refl refl more) (λ _. near_done t task.Rest refl refl (omega (arith, more)))

-- a step that is taken, and what it leads to
pub record Goes (seat : ℕ) (c : Core) (t : Task) (k : Kind) : Type 0 where
  pub taken : IsTaken c seat k
  pub still : Still k
  pub needs : Needs t k
  pub unseen : (d : Core) → after_event c seat k ≡ Some d → session_of (d.seats seat) ≡ session_of (c.seats seat)
  pub near : (d : Core) → after_event c seat k ≡ Some d → Near t (d.seats seat).task
  pub lasts : (d : Core) → after_event c seat k ≡ Some d → Lasts k (d.seats seat).task

module _ (seat : ℕ) (c : Core) (sound : Sound c) (tail : ℕ) (pl : (c.seats seat).place ≡ Active tail) where
  active : is_active (c.seats seat).place ≡ true
  active = ap is_active pl

  -- by what the step's guard leads to
  leads : (P : Task → Type 0) (k : Kind) (d : Core) → machine.MeetsOne k → after_event c seat k ≡ Some d → (b : Bool) (z : Part)
      → part_after seat k (word_at c (spot_of seat k)) c.shared (c.seats seat) ≡ when b z → (b ≡ true → P z.task) → P (d.seats seat).task
  leads P k d one e b z to holds = when_then (λ y. P y.task) b z (d.seats seat) (sym to ∙ part_is c d seat k one e) holds

  -- a load
  loads : (t : Task) (k : Kind) → IsStep k → IsCalm k (c.seats seat).task → ranges_in k ≡ 0 → IsOfNone k → AddsNothing k → ((oid : ℕ) → LeavesChain k oid) → MovesOn c seat k
      → ((d : Core) → after_event c seat k ≡ Some d → Near t (d.seats seat).task) → Goes seat c t k
  loads t k step calm ranges none adds chain m near = record {
    taken = (m.after, m.taken);
    still = step_still k step;
    needs = nothing ranges none;
    unseen = λ d e. calm_shows seat c d k calm e;
    near = near;
    lasts = λ d e. all_left adds chain;
  }

  goes_claimed : (v : VersionAt) → (c.seats seat).task ≡ task.Claimed v → Goes seat c (task.Claimed v) (kind.LoadTail purpose.Horizon)
  goes_claimed v at =
      loads (task.Claimed v) (kind.LoadTail purpose.Horizon) tt tt refl tt tt (λ oid. record { versions = refl; cut = tt }) (g_claimed c seat sound tail pl v at)
      (λ d e. leads (Near (task.Claimed v)) (kind.LoadTail purpose.Horizon) d tt e _ _ (ap (load_tail_for_horizon _ (c.seats seat)) at) (λ _. near_same (task.Claimed v) _ refl refl (omega arith)))

  goes_horizon : (v : VersionAt) (least next : ℕ) → (c.seats seat).task ≡ task.Horizon v least next → Goes seat c (task.Horizon v least next) (kind.LoadBegin next)
  goes_horizon v least next at =
      let t = task.Horizon v least next in
      let now = lower least (begin_of (c.seats next).place) in
      let low : next < ANNOUNCERS = bound_at c seat sound t at in
      loads t (kind.LoadBegin next) tt (ap is_snapshot at) refl tt tt (λ oid. record { versions = refl; cut = tt }) (g_horizon c seat sound tail pl v least next at)
      (λ d e. leads (Near t) (kind.LoadBegin next) d tt e _ _ (ap (load_begin seat next _ (c.seats seat)) at)
      (λ _. near_if t (eqb (next + 1) ANNOUNCERS) (task.CutWalks v now) (task.Horizon v now (next + 1)) (λ _. near_same t _ refl refl (omega (arith, low))) (λ _. near_same t _ refl refl (omega (arith, low)))))

  goes_cut_walks : (v : VersionAt) (horizon : ℕ) → (c.seats seat).task ≡ task.CutWalks v horizon → Goes seat c (task.CutWalks v horizon) (kind.LoadCell v word.Stamp)
  goes_cut_walks v horizon at =
      let t = task.CutWalks v horizon in
      loads t (kind.LoadCell v word.Stamp) tt tt refl tt tt (λ oid. record { versions = refl; cut = tt }) (g_cut_walks c seat sound tail pl v horizon at)
      (λ d e. leads (Near t) (kind.LoadCell v word.Stamp) d tt e _ _ (branch _ _ _ _ active (ap (load_walked_stamp _ v (c.seats seat)) at))
      (λ _. near_if t _ (task.CutFound v horizon) (task.CutPassed v horizon) (λ _. near_same t _ refl refl (omega arith)) (λ _. near_same t _ refl refl (omega arith))))

  goes_cut_passed : (v : VersionAt) (horizon : ℕ) → (c.seats seat).task ≡ task.CutPassed v horizon → Goes seat c (task.CutPassed v horizon) (kind.LoadCell v word.Link)
  goes_cut_passed v horizon at =
      let t = task.CutPassed v horizon in
      let known = (named_at c seat sound t at).object in
      let here : IsAttached c.shared (c.seats seat) v = subst (CutInHand c.shared (c.seats seat)) at (sound.own seat).chains.cut in
      let oldest = (sound.common.chains.linked v.oid known).oldest in
      let link = (version_at (c.shared.objects v.oid) v.place).words.link in
      loads t (kind.LoadCell v word.Link) tt tt refl tt tt (λ oid. record { versions = refl; cut = tt }) (g_cut_passed c seat sound tail pl v horizon at)
      (λ d e. leads (Near t) (kind.LoadCell v word.Link) d tt e _ _ (branch _ _ _ _ active (ap (load_walked_link _ v (c.seats seat)) at))
      (λ _. near_if t (eqb link 0) (after_cut (c.seats seat)) (task.CutWalks (older v link) horizon) (λ _. near_cut t (c.seats seat) (omega arith))
      (λ some.
      let not_last : (c.shared.objects v.oid).cut ≡ v.place → ⊥ = λ same. eqb-false link 0 some (subst (λ n. (version_at (c.shared.objects v.oid) n).words.link ≡ 0) same oldest) in
      near_same t _ refl refl (below (c.shared.objects v.oid).cut v.place here.attached not_last))))
    where
      below : (m n : ℕ) → m ≤ n → (m ≡ n → ⊥) → 2 * (n - 1) + 23 < 2 * n + 22
      below m n le ne = grind arith

  goes_cut_found : (v : VersionAt) (horizon : ℕ) → (c.seats seat).task ≡ task.CutFound v horizon → Goes seat c (task.CutFound v horizon) (kind.SwapLink v)
  goes_cut_found v horizon at =
      let t = task.CutFound v horizon in
      let k : Kind = kind.SwapLink v in
      let m = g_cut_found c seat sound tail pl v horizon at in
      let link = (version_at (c.shared.objects v.oid) v.place).words.link in
      let to = ap (swap_link _ v (c.shared.objects v.oid) (c.seats seat)) at in
      record {
        taken = (m.after, m.taken);
        still = step_still k tt;
        needs = cut v refl refl;
        unseen = λ d e. calm_shows seat c d k tt e;
        near = λ d e. leads (Near t) k d tt e _ _ to
            (λ _. near_if t (eqb link 0) (after_cut (c.seats seat)) (task.Detaches (older v link)) (λ _. near_cut t (c.seats seat) (omega arith)) (λ _. near_done t _ refl refl (omega arith)));
        lasts = λ d e. leads (Lasts k) k d tt e _ _ to
            (λ _. either_way (Lasts k) (eqb link 0) (after_cut (c.seats seat)) (task.Detaches (older v link))
            (λ _. either_way (Lasts k) _ task.Draws task.Rest (λ _. none_to_cut refl) (λ _. none_to_cut refl)) (λ _. none_to_cut refl));
      }

  goes_detaches : (v : VersionAt) → (c.seats seat).task ≡ task.Detaches v → Goes seat c (task.Detaches v) (kind.LoadDetached v)
  goes_detaches v at =
      let t = task.Detaches v in
      let off : IsDetached c.shared (c.seats seat) v = subst (CutInHand c.shared (c.seats seat)) at (sound.own seat).chains.cut in
      let link = (version_at (c.shared.objects v.oid) v.place).words.link in
      loads t (kind.LoadDetached v) tt tt refl tt tt (λ oid. record { versions = refl; cut = tt }) (g_detaches c seat sound tail pl v at)
      (λ d e. leads (Near t) (kind.LoadDetached v) d tt e _ _ (ap (load_detached _ v (c.seats seat)) at)
      (λ _. near_if t (eqb link 0) (after_cut (c.seats seat)) (task.Detaches (older v link)) (λ _. near_cut t (c.seats seat) (omega arith))
      (λ some.
      let not_last : off.last ≡ v.place → ⊥ = λ same. eqb-false link 0 some (subst (λ n. (version_at (c.shared.objects v.oid) n).words.link ≡ 0) same off.ends) in
      near_done t _ refl refl (below off.last v.place off.below not_last))))
    where
      below : (m n : ℕ) → m ≤ n → (m ≡ n → ⊥) → n - 1 + 20 < n + 20
      below m n le ne = grind arith

  goes_draws : (c.seats seat).task ≡ task.Draws → Goes seat c task.Draws (next_draw (c.seats seat))
  goes_draws at =
      let v = newest_of (c.seats seat).current in
      below_way (λ k. MovesOn c seat k → Goes seat c task.Draws k) 0 (length (c.seats seat).spare) (kind.LoadStamp v word.ReaderStamp) (kind.LoadCounter Cells)
      (λ _ m.
      loads task.Draws (kind.LoadStamp v word.ReaderStamp) tt tt refl tt tt (λ oid. record { versions = refl; cut = tt }) m
      (λ d e. leads (Near task.Draws) (kind.LoadStamp v word.ReaderStamp) d tt e _ _ (branch _ _ _ _ active (ap (load_active_stamp _ v word.ReaderStamp (c.seats seat)) at))
      (λ _. near_done task.Draws _ refl refl (omega arith))))
      (λ _ m.
      loads task.Draws (kind.LoadCounter Cells) tt tt refl tt tt (λ oid. record { versions = refl; cut = tt }) m
      (λ d e. leads (Near task.Draws) (kind.LoadCounter Cells) d tt e _ _ (ap (load_counter c.shared.cell_limit Cells c.shared.cells_drawn (c.seats seat)) at)
      (λ _. near_if task.Draws _ task.Pool task.Refused (λ _. near_done task.Draws _ refl refl (omega arith)) (λ _. near_done task.Draws _ refl refl (omega arith)))))
      (g_draws c seat sound tail pl at)

  goes_pool : (c.seats seat).task ≡ task.Pool → Goes seat c task.Pool (kind.AddCounter Cells)
  goes_pool at =
      let k : Kind = kind.AddCounter Cells in
      let m = g_pool c seat sound tail pl at in
      let to = ap (add_counter c.shared.cell_limit seat Cells c.shared.cells_drawn (c.seats seat)) at in
      record {
        taken = (m.after, m.taken);
        still = step_still k tt;
        needs = nothing refl tt;
        unseen = λ d e. calm_shows seat c d k tt e;
        near = λ d e. leads (Near task.Pool) k d tt e _ _ to
            (λ _. near_if task.Pool _ task.Fetched task.Refused (λ _. near_done task.Pool _ refl refl (omega arith)) (λ _. near_done task.Pool _ refl refl (omega arith)));
        lasts = λ d e. leads (Lasts k) k d tt e _ _ to (λ _. either_way (Lasts k) _ task.Fetched task.Refused (λ _. none_to_cut refl) (λ _. none_to_cut refl));
      }

  goes_fetched : (c.seats seat).task ≡ task.Fetched → Goes seat c task.Fetched (kind.LoadStamp (newest_of (c.seats seat).current) word.ReaderStamp)
  goes_fetched at =
      let v = newest_of (c.seats seat).current in
      loads task.Fetched (kind.LoadStamp v word.ReaderStamp) tt tt refl tt tt (λ oid. record { versions = refl; cut = tt }) (g_fetched c seat sound tail pl at)
      (λ d e. leads (Near task.Fetched) (kind.LoadStamp v word.ReaderStamp) d tt e _ _ (branch _ _ _ _ active (ap (load_active_stamp _ v word.ReaderStamp (c.seats seat)) at))
      (λ _. near_done task.Fetched _ refl refl (omega arith)))

  goes_copies : (w : ℕ) → (c.seats seat).task ≡ task.Copies w → Goes seat c (task.Copies w) (next_copy (c.seats seat).current w)
  goes_copies w at =
      let t = task.Copies w in
      let x = c.seats seat in
      let last = last_claim x.current in
      let k : Kind = next_copy x.current w in
      let m = g_copies c seat sound tail pl w at in
      let low : w < 16 = (bound_at c seat sound t at).1 in
      record {
        taken = (m.after, m.taken);
        still = step_still k tt;
        needs = nothing refl tt;
        unseen = λ d e. copy_shows seat last (own_at x.current last) w _ w c d sound active at e;
        near = λ d e. leads (Near t) k d tt e _ _ (branch _ _ _ _ active (ap (store_row_word last (own_at x.current last) w _ x) at))
            (λ _. near_if t (eqb (w + 1) 16) task.Rest (task.Copies (w + 1)) (λ _. near_done t _ refl refl (omega (arith, low))) (λ _. near_done t _ refl refl (omega (arith, low))));
        lasts = λ d e. all_left tt (λ oid. record { versions = refl; cut = tt });
      }

  -- the next step of that half
  finish_active : (k : Kind) (t : Task) → (c.seats seat).task ≡ t → finish_step (c.seats seat) t ≡ Some k → Goes seat c t k
  finish_active k (task.Claimed v) at e = subst (Goes seat c (task.Claimed v)) (same_Some _ k e) (goes_claimed v at)
  finish_active k (task.Horizon v least next) at e = subst (Goes seat c (task.Horizon v least next)) (same_Some _ k e) (goes_horizon v least next at)
  finish_active k (task.CutWalks v horizon) at e = subst (Goes seat c (task.CutWalks v horizon)) (same_Some _ k e) (goes_cut_walks v horizon at)
  finish_active k (task.CutPassed v horizon) at e = subst (Goes seat c (task.CutPassed v horizon)) (same_Some _ k e) (goes_cut_passed v horizon at)
  finish_active k (task.CutFound v horizon) at e = subst (Goes seat c (task.CutFound v horizon)) (same_Some _ k e) (goes_cut_found v horizon at)
  finish_active k (task.Detaches v) at e = subst (Goes seat c (task.Detaches v)) (same_Some _ k e) (goes_detaches v at)
  finish_active k task.Draws at e = subst (Goes seat c task.Draws) (same_Some _ k e) (goes_draws at)
  finish_active k task.Pool at e = subst (Goes seat c task.Pool) (same_Some _ k e) (goes_pool at)
  finish_active k task.Fetched at e = subst (Goes seat c task.Fetched) (same_Some _ k e) (goes_fetched at)
  finish_active k (task.Copies w) at e = subst (Goes seat c (task.Copies w)) (same_Some _ k e) (goes_copies w at)
  finish_active k _ at e = absurd (cc)

pub finish_goes : (seat : ℕ) (c : Core) (k : Kind) → Sound c → IsAtWork seat c → Some k ≡ finish_step (c.seats seat) (c.seats seat).task → Goes seat c (c.seats seat).task k
finish_goes seat c k sound at e = let pl = active_at (c.seats seat).place at.active in finish_active seat c sound pl.0 pl.1 k (c.seats seat).task refl (sym e)

-- it doesn't show
pub finish_unseen : (sessions seat : ℕ) (c d : Core) (k : Kind) → Sound c → IsAtWork seat c → Goes seat c (c.seats seat).task k → after_event c seat k ≡ Some d
    → GoesOn sessions seat c d
finish_unseen sessions seat c d k sound at goes e =
    let same = goes.unseen d e in
    let kept = active_kept (c.seats seat) (d.seats seat) same at.active at.plain in
    record {
      unseen = unseen_step sessions seat c d k sound goes.still.one goes.still.drawn (goes.still.flushed c.shared.flushed) e same;
      at = record { session = at.session; active = kept.0; plain = kept.1 };
    }

-- where no step is left the row is copied, or no cell was left
pub finish_rests : (x : Part) (t : Task) → is_finishing t ≡ true → finish_step x t ≡ None → (t ≡ task.Refused → ⊥) → t ≡ task.Rest
finish_rests x task.Rest finishing none some = refl
finish_rests x task.Refused finishing none some = absurd (some refl)
finish_rests x _ finishing none some = absurd (cc)

-- NO CELL was left: the entry is stored with its old head, and the newest claim is none.
abbrev dropped : Part → Part
dropped x = record x { task = task.Rest; current = without_newest x.current }

pub drop_taken : (seat : ℕ) (c : Core) (v : VersionAt) → Sound c → IsAtWork seat c → (c.seats seat).task ≡ task.Refused → v ≡ newest_of (c.seats seat).current → IsTaken c seat (kind.Install v.oid v.cell)
drop_taken seat c v sound at refused is =
    let pl = active_at (c.seats seat).place at.active in
    let m = g_refused c seat sound pl.0 pl.1 refused in
    subst (λ (u : VersionAt). IsTaken c seat (kind.Install u.oid u.cell)) (sym is) (m.after, m.taken)

dropped_is : (seat oid head : ℕ) (c d : Core) → (c.seats seat).task ≡ task.Refused → after_event c seat (kind.Install oid head) ≡ Some d → d.seats seat ≡ dropped (c.seats seat)
dropped_is seat oid head c d refused e =
    let x = c.seats seat in
    let h : install oid head x task.Refused ≡ Some (d.seats seat) = subst (λ (t : Task). install oid head x t ≡ Some (d.seats seat)) refused (part_is c d seat (kind.Install oid head) tt e) in
    when_then (λ (y : Part). y ≡ dropped x) _ _ (d.seats seat) h (λ _. refl)

-- the claims that are left
claims_left : (t : Attempt) → map written_of (take (last_claim t) t.writes) ≡ take (length (map written_of t.writes) - 1) (map written_of t.writes)
claims_left t =
    let long : length t.writes ≡ length (map written_of t.writes) = sym (length-map t.writes written_of) in
    sym (take-map written_of (last_claim t) t.writes) ∙ ap (λ n. take (n - 1) (map written_of t.writes)) long

abbrev without_last : Work → Work
without_last w = record w { claims = take (length w.claims - 1) w.claims }

pub drop_shows : (sessions seat oid head : ℕ) (b c d : Core) → Sound c → GoesOn sessions seat b c → (c.seats seat).task ≡ task.Refused → after_event c seat (kind.Install oid head) ≡ Some d
    → IsDropped sessions seat b d
drop_shows sessions seat oid head b c d sound goes refused e =
    let k : Kind = kind.Install oid head in
    let x = c.seats seat in
    let is = dropped_is seat oid head c d refused e in
    let change = changes_one sessions seat c d k sound tt e in
    let tail = change.tail in
    let work : work_of (dropped x).current ≡ without_last (work_of x.current) = ap (λ (ws : List VersionWritten). record (work_of x.current) { claims = ws }) (claims_left x.current) in
    let shows = shows_work x (without_last (work_of x.current)) (dropped x) refl goes.at.active refl work in
    let now : Works (view_of sessions c) seat (without_last (work_at (view_of sessions c) seat)) (view_of sessions d) = record {
      own = ap session_of is ∙ shows.shows ∙ ap (λ (w : Work). let s : Session = record { over = (session_of x).over; stand = world.active (without_last w) } in s) (sym (work_active x.place x.task x.current goes.at.active (plain_new x.task x.current goes.at.plain)));
      others = change.others;
      opening = change.opening;
      tail = omega (arith, tail);
      flushed = change.flushed;
      pinned = change.pinned (no_flusher seat goes.at.session);
      given_up = refl;
      saves = unsaved sessions seat c d (record { over = (session_of x).over; stand = world.active (without_last (work_at (view_of sessions c) seat)) });
    }
    in
    record {
      others = λ q other. others_stay c d seat k tt e q other ∙ goes.unseen.others q other;
      shows = subst (λ (v : View). Works v seat (without_last (work_at v seat)) (view_of sessions d)) goes.unseen.view now;
    }

pub drop_rests : (seat oid head : ℕ) (c d : Core) → IsAtWork seat c → (c.seats seat).task ≡ task.Refused → after_event c seat (kind.Install oid head) ≡ Some d
    → ((d.seats seat).task ≡ task.Rest) × (is_active (d.seats seat).place ≡ true)
drop_rests seat oid head c d at refused e =
    let is = dropped_is seat oid head c d refused e in (ap (λ (y : Part). y.task) is, ap (λ (y : Part). is_active y.place) is ∙ at.active)
