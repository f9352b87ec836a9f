-- What the view shows of a step that meets one word.
use Rattle.std.proofs.Common.{◌≡◌, ℕ, ◌+◌, false, Some, refl, sym, ap, ◌∙◌, subst, arith}
use Rattle.std.proofs.Math.Path.{fun_ext}
use Rattle.std.proofs.lemmas.Bool.{eqb-false}
use Rattle.erm_machine.specs.declared.event.Counter.{Counter}
use Rattle.erm_machine.specs.declared.event.Counter.TheVariants.{Objects, Cells}
use Rattle.erm_machine.specs.declared.event.Kind.{Kind}
use Rattle.erm_machine.specs.declared.event.Kind.TheVariants as kind
use Rattle.erm_machine.specs.declared.limits.TheConstants.{FLUSH_SEAT}
use Rattle.erm_machine.specs.declared.part.Part.{Part}
use Rattle.erm_machine.specs.declared.task.Task.{Task}
use Rattle.erm_machine.specs.Core.{Core, Shared, spot_of, word_at}
use Rattle.erm_machine.specs.Lawful.{opening_rows}
use Rattle.erm_machine.specs.Sound.{Sound}
use Rattle.erm_machine.specs.Step.{after_event, shared_after, with_counter}
use Rattle.erm_machine.specs.Words.{is_flusher, put}
use Rattle.erm_machine.proofs.Frames.{put_other, put_same}
use Rattle.erm_machine.proofs.OpeningRows.{HasVersion, first_stays, installs_version, rows_stay}
use Rattle.erm_machine.proofs.QuietKinds.{Moves, moves}
use Rattle.erm_machine.proofs.QuietKinds as quiet
use Rattle.erm_world.specs.Calls.{Becomes}
use Rattle.erm_world.specs.World.{Session}
use Rattle.erm_core_view.specs.Steps.{ChangesOne, IsCalm, IsEnding, MeetsOne, drawn_by, flushed_by}
use Rattle.erm_core_view.specs.Views.{pin_of, session_of, view_of}
use Rattle.erm_core_view.proofs.Calm.{calm_kind, install_same}
use Rattle.erm_core_view.proofs.Chained.{unsaved}

-- kinds that meet one word
pub meets_one : (k : Kind) → MeetsOne k → quiet.MeetsOne k
meets_one (kind.Split other) one = one
meets_one (kind.Join other) one = one
meets_one _ one = tt

calm_meets : (k : Kind) (u : Task) → IsCalm k u → quiet.MeetsOne k
calm_meets (kind.Split other) u calm = absurd calm
calm_meets (kind.Join other) u calm = absurd calm
calm_meets _ u calm = tt

-- the own part after a step
pub own_after : (c : Core) (p : ℕ) (k : Kind) (d : Core) (m : Moves c p k d) → d.seats p ≡ m.part
own_after c p k d m = ap (λ (to : Core). to.seats p) m.is ∙ put_same c.seats p m.part

-- a counter is neither the end of the log nor the place flushed
counter_tail : (c : Counter) (n : ℕ) (s : Shared) → (with_counter c n s).tail ≡ s.tail + 0
counter_tail Objects n s = omega arith
counter_tail Cells n s = omega arith

counter_flushed : (c : Counter) (n : ℕ) (s : Shared) → (with_counter c n s).flushed ≡ s.flushed
counter_flushed Objects n s = refl
counter_flushed Cells n s = refl

counter_cells : (c : Counter) (n : ℕ) (s : Shared) → (with_counter c n s).cell_limit ≡ s.cell_limit
counter_cells Objects n s = refl
counter_cells Cells n s = refl

counter_opening : (c : Counter) (n : ℕ) (s : Shared) → (with_counter c n s).opening ≡ s.opening
counter_opening Objects n s = refl
counter_opening Cells n s = refl

-- what a step leaves of the log, and of how it was opened
tail_moves : (c : Core) (p : ℕ) (k : Kind) (x : Part) → (shared_after p k (word_at c (spot_of p k)) x c.shared).tail ≡ c.shared.tail + drawn_by k
tail_moves c p (kind.AddTail size) x = refl
tail_moves c p (kind.AddCounter counter) x = counter_tail counter _ c.shared
tail_moves c p k x = omega arith

flushed_moves : (p : ℕ) (k : Kind) (found : ℕ) (x : Part) (s : Shared) → (shared_after p k found x s).flushed ≡ flushed_by k s.flushed
flushed_moves p (kind.AddCounter counter) found x s = counter_flushed counter _ s
flushed_moves p k found x s = refl

cells_stay : (p : ℕ) (k : Kind) (found : ℕ) (x : Part) (s : Shared) → (shared_after p k found x s).cell_limit ≡ s.cell_limit
cells_stay p (kind.AddCounter counter) found x s = counter_cells counter _ s
cells_stay p k found x s = refl

counter_run : (c : Counter) (n : ℕ) (s : Shared) → (with_counter c n s).run ≡ s.run
counter_run Objects n s = refl
counter_run Cells n s = refl

run_stays : (p : ℕ) (k : Kind) (found : ℕ) (x : Part) (s : Shared) → (shared_after p k found x s).run ≡ s.run
run_stays p (kind.AddCounter counter) found x s = counter_run counter _ s
run_stays p k found x s = refl

opening_stays : (p : ℕ) (k : Kind) (found : ℕ) (x : Part) (s : Shared) → (shared_after p k found x s).opening ≡ s.opening
opening_stays p (kind.AddCounter counter) found x s = counter_opening counter _ s
opening_stays p k found x s = refl

has_version : (c : Core) (p : ℕ) (k : Kind) (d : Core) → Sound c → after_event c p k ≡ Some d → HasVersion k c.shared
has_version c p (kind.Install oid head) d sound e = installs_version c p oid head d sound e
has_version c p k d sound e = tt

-- a step that meets one word changes its seat's session alone
pub moved_one : (sessions p : ℕ) (c d : Core) (k : Kind) → HasVersion k c.shared → Moves c p k d → ChangesOne p k (view_of sessions c) (view_of sessions d)
moved_one sessions p c d k has m =
    let found : ℕ = word_at c (spot_of p k) in
    let after = shared_after p k found (c.seats p) c.shared in
    let e : Core = record { shared = after; seats = put c.seats p m.part } in
    let rows : opening_rows after ≡ opening_rows c.shared = fun_ext (λ oid. rows_stay p k found (c.seats p) c.shared oid has) in
    let tail = opening_stays p k found (c.seats p) c.shared in
    let first = first_stays p k found (c.seats p) c.shared in
    let run = run_stays p k found (c.seats p) c.shared in
    let cells = cells_stay p k found (c.seats p) c.shared in
    let opening : (view_of sessions e).opening ≡ (view_of sessions c).opening = cc in
    subst (λ (to : Core). ChangesOne p k (view_of sessions c) (view_of sessions to)) (sym m.is)
    (record {
      others = λ q other. ap session_of (put_other c.seats p m.part q other);
      opening = opening;
      tail = tail_moves c p k (c.seats p);
      flushed = flushed_moves p k found (c.seats p) c.shared;
      pinned = λ other. ap (λ (x : Part). pin_of x.place x.current) (put_other c.seats p m.part FLUSH_SEAT (λ same. other (sym same)));
    })

pub changes_one : (sessions p : ℕ) (c d : Core) (k : Kind) → Sound c → MeetsOne k → after_event c p k ≡ Some d → ChangesOne p k (view_of sessions c) (view_of sessions d)
changes_one sessions p c d k sound one e = moved_one sessions p c d k (has_version c p k d sound e) (moves c p k d (meets_one k one) e)

pub calm_shows : (p : ℕ) (c d : Core) (k : Kind) → IsCalm k (c.seats p).task → after_event c p k ≡ Some d → session_of (d.seats p) ≡ session_of (c.seats p)
calm_shows p c d k calm e =
    let m = moves c p k d (calm_meets k (c.seats p).task calm) e in
    ap session_of (own_after c p k d m) ∙ (calm_kind p k (word_at c (spot_of p k)) c.shared (c.seats p) m.part calm m.after).same

pub end_shows : (p oid head : ℕ) (c d : Core) → IsEnding (c.seats p).task → after_event c p (kind.Install oid head) ≡ Some d → session_of (d.seats p) ≡ session_of (c.seats p)
end_shows p oid head c d ending e =
    let m = moves c p (kind.Install oid head) d tt e in
    ap session_of (own_after c p (kind.Install oid head) d m) ∙ (install_same oid head (c.seats p) m.part ending m.after).same

-- a step of a session that moves neither the end of the log nor the place flushed changes one session
pub one_becomes : (sessions p : ℕ) (c d : Core) (k : Kind) (s : Session) → is_flusher p ≡ false → HasVersion k c.shared → MeetsOne k → drawn_by k ≡ 0 → flushed_by k c.shared.flushed ≡ c.shared.flushed
    → after_event c p k ≡ Some d → session_of (d.seats p) ≡ s → Becomes (view_of sessions c) p s (view_of sessions d)
one_becomes sessions p c d k s plain has one none still e shows =
    let changes = moved_one sessions p c d k has (moves c p k d (meets_one k one) e) in
    let tail = changes.tail in
    record {
      own = shows;
      others = changes.others;
      opening = changes.opening;
      tail = omega (arith, tail, none);
      flushed = changes.flushed ∙ still;
      pinned = changes.pinned (eqb-false p FLUSH_SEAT plain);
      given_up = refl;
      saves = unsaved sessions p c d s;
    }
