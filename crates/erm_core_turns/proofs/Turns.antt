-- What steps of the flush seat leave: the sessions, and the log but for what is gathered, flushed and pinned.
use Rattle.std.proofs.Common.{◌≡◌, ◌≢◌, ℕ, zero, suc, ◌<◌, ◌≤◌, ⊎_elim, List, Option, Some, refl, sym, ap, ◌∙◌, subst, arith}
use Rattle.std.proofs.Math.Path.{fun_ext}
use Rattle.std.proofs.lemmas.Bool.{cases_eq, eqb-false, eqb-true}
use Rattle.std.proofs.lemmas.Option.{same_Some}
use Rattle.erm_model.specs.Rows.{Rows}
use Rattle.erm_machine.specs.declared.attempt.Attempt.{Attempt}
use Rattle.erm_machine.specs.declared.event.Kind.{Kind}
use Rattle.erm_machine.specs.declared.event.Kind.TheVariants as kind
use Rattle.erm_machine.specs.declared.limits.TheConstants.{FLUSH_SEAT}
use Rattle.erm_machine.specs.declared.part.Part.{Part}
use Rattle.erm_machine.specs.declared.version.Span.{Span}
use Rattle.erm_machine.specs.Core.{Core, Object, Shared, spot_of, word_at}
use Rattle.erm_machine.specs.Lawful.{opening_rows}
use Rattle.erm_machine.specs.Step.{after_event, shared_after}
use Rattle.erm_machine.proofs.Frames.{put_other, put_same}
use Rattle.erm_block.specs.declared.block.Block.{Block}
use Rattle.erm_core_calls.proofs.Moving.{stepped}
use Rattle.erm_core_view.specs.Views.{IsBetween, IsQuiet, IsStill, pin_of, session_of, view_of, work_of}
use Rattle.erm_log_list.specs.LogOf.{ranges_below}
use Rattle.erm_world.specs.Log.{Log, Start, Undecided}
use Rattle.erm_world.specs.World.{Opening, Session}
use Rattle.erm_world.specs.World as world
use Rattle.erm_core_turns.specs.Turns.{Flushes, PinStays, SharedStays, blocks_below, blocks_in, first_of, gathered_place, log_after, log_of, undecided_at, undecided_upto}

-- one step leads to one state
pub one_after : (c d e : Core) (seat : ℕ) (k : Kind) → after_event c seat k ≡ Some e → after_event c seat k ≡ Some d → d ≡ e
one_after c d e seat k first second = same_Some d e (sym second ∙ first)

pub part_stepped : (c d : Core) (seat : ℕ) (k : Kind) (y : Part) → after_event c seat k ≡ Some (stepped c seat k y) → after_event c seat k ≡ Some d → d.seats seat ≡ y
part_stepped c d seat k y first second = ap (λ (to : Core). to.seats seat) (one_after c d (stepped c seat k y) seat k first second) ∙ put_same c.seats seat y

-- kinds of steps of the flush seat
abbrev pub IsOfFlusher : Kind → Type 0
IsOfFlusher (kind.LoadTail purpose) = Unit {0}
IsOfFlusher (kind.StoreBegin value) = Unit {0}
IsOfFlusher (kind.LoadState other bound) = Unit {0}
IsOfFlusher (kind.LoadEntry oid) = Unit {0}
IsOfFlusher (kind.LoadCell version w) = Unit {0}
IsOfFlusher (kind.LoadRing at) = Unit {0}
IsOfFlusher (kind.ClearRing at) = Unit {0}
IsOfFlusher (kind.StoreFlushed value) = Unit {0}
IsOfFlusher kind.LoadFlushed = Unit {0}
IsOfFlusher k = ⊥

shared_same : (s : Shared) → SharedStays s s
shared_same s = record { opening = refl; run = refl; first = refl; cells = refl; drawn = refl; tail = refl; log = refl; objects = refl }

shared_stays : (k : Kind) → IsOfFlusher k → (found : ℕ) (x : Part) (s : Shared) → SharedStays s (shared_after FLUSH_SEAT k found x s)
shared_stays (kind.LoadTail purpose) is found x s = shared_same s
shared_stays (kind.StoreBegin value) is found x s = shared_same s
shared_stays (kind.LoadState other bound) is found x s = shared_same s
shared_stays (kind.LoadEntry oid) is found x s = shared_same s
shared_stays (kind.LoadCell version w) is found x s = shared_same s
shared_stays (kind.LoadRing at) is found x s = shared_same s
shared_stays (kind.ClearRing at) is found x s = record { opening = refl; run = refl; first = refl; cells = refl; drawn = refl; tail = refl; log = refl; objects = refl }
shared_stays (kind.StoreFlushed value) is found x s = record { opening = refl; run = refl; first = refl; cells = refl; drawn = refl; tail = refl; log = refl; objects = refl }
shared_stays kind.LoadFlushed is found x s = shared_same s
shared_stays _ is found x s = absurd is

shared_both : (s t u : Shared) → SharedStays s t → SharedStays t u → SharedStays s u
shared_both s t u one two = record {
  opening = two.opening ∙ one.opening;
  run = two.run ∙ one.run;
  first = two.first ∙ one.first;
  cells = two.cells ∙ one.cells;
  drawn = two.drawn ∙ one.drawn;
  tail = two.tail ∙ one.tail;
  log = two.log ∙ one.log;
  objects = two.objects ∙ one.objects;
}

-- a step, and several
pub step_leaves : (c d : Core) (k : Kind) (y : Part) → IsOfFlusher k → d ≡ stepped c FLUSH_SEAT k y → y.over ≡ (c.seats FLUSH_SEAT).over → Flushes c d
step_leaves c d k y is e over =
    subst (Flushes c) (sym e)
    (record {
      others = λ q ne. put_other c.seats FLUSH_SEAT y q ne;
      over = ap (λ (x : Part). x.over) (put_same c.seats FLUSH_SEAT y) ∙ over;
      shared = shared_stays k is (word_at c (spot_of FLUSH_SEAT k)) (c.seats FLUSH_SEAT) c.shared;
    })

pub step_flushes : (c d : Core) (k : Kind) (y : Part) → IsOfFlusher k → after_event c FLUSH_SEAT k ≡ Some (stepped c FLUSH_SEAT k y) → after_event c FLUSH_SEAT k ≡ Some d
    → y.over ≡ (c.seats FLUSH_SEAT).over → Flushes c d
step_flushes c d k y is first e over = step_leaves c d k y is (one_after c d (stepped c FLUSH_SEAT k y) FLUSH_SEAT k first e) over

pub flushes_none : (c : Core) → Flushes c c
flushes_none c = record { others = λ q ne. refl; over = refl; shared = shared_same c.shared }

pub flushes_both : (c d e : Core) → Flushes c d → Flushes d e → Flushes c e
flushes_both c d e one two = record {
  others = λ q ne. two.others q ne ∙ one.others q ne;
  over = two.over ∙ one.over;
  shared = shared_both c.shared d.shared e.shared one.shared two.shared;
}

pub pin_none : (c : Core) → PinStays c c
pin_none c = record { place = refl; task = refl; current = refl; run = refl }

pub pin_both : (c d e : Core) → PinStays c d → PinStays d e → PinStays c e
pin_both c d e one two = record { place = two.place ∙ one.place; task = two.task ∙ one.task; current = two.current ∙ one.current; run = two.run ∙ one.run }

-- the blocks below a place stay
over_same : (c d : Core) → Flushes c d → ◌≡◌ {A = ℕ → List Attempt} (λ q. (d.seats q).over) (λ q. (c.seats q).over)
over_same c d stays =
    fun_ext (λ q. ⊎_elim
    (λ (here : q ≡ FLUSH_SEAT). subst (λ n. (d.seats n).over ≡ (c.seats n).over) (sym here) stays.over)
    (λ (there : q ≡ FLUSH_SEAT → ⊥). ap (λ (x : Part). x.over) (stays.others q there))
    (cases_eq q FLUSH_SEAT))

pub blocks_same : (c d : Core) → Flushes c d → (to : ℕ) → blocks_below d to ≡ blocks_below c to
blocks_same c d stays to =
    ap (λ (run : ℕ). blocks_in run (λ q. (d.seats q).over) (ranges_below to d.shared.log)) stays.shared.run
    ∙ ap (λ (rs : List Span). blocks_in c.shared.run (λ q. (d.seats q).over) (ranges_below to rs)) stays.shared.log
    ∙ ap (λ (over : ℕ → List Attempt). blocks_in c.shared.run over (ranges_below to c.shared.log)) (over_same c d stays)

undecided_same : (n : ℕ) (f g : ℕ → Session) (place : ℕ) → ((q : ℕ) → q ≤ n → f q ≡ g q) → undecided_upto n f place ≡ undecided_upto n g place
unfolding undecided_upto
undecided_same zero f g place same = refl
undecided_same (suc n) f g place same =
    ap (λ (s : Session). first_of (undecided_at place (suc n) s.stand) (undecided_upto n f place)) (same (suc n) (omega arith))
    ∙ ap (first_of (undecided_at place (suc n) (g (suc n)).stand)) (undecided_same n f g place (λ q low. same q (omega (arith, low))))

-- a session's number isn't the flush seat's
pub is_other : (sessions q : ℕ) (c : Core) → IsQuiet sessions c → q ≤ sessions → q ≢ FLUSH_SEAT
is_other sessions q c quiet low = eqb-false q FLUSH_SEAT (quiet.few q low)

abbrev made_log : Start → ℕ → ℕ → List Block → (ℕ → Option Undecided) → Option ℕ → Log
made_log opened tail flushed gathered undecided pinned =
    record { opened = opened; tail = tail; flushed = flushed; gathered = gathered; undecided = undecided; pinned = pinned }

pub log_same : (sessions : ℕ) (c d : Core) → IsQuiet sessions c → Flushes c d → log_of sessions d ≡ log_after sessions c d
log_same sessions c d quiet stays =
    let to : ℕ = gathered_place d.shared.flushed (d.seats FLUSH_SEAT).flushing in
    let pin : Option ℕ = pin_of (d.seats FLUSH_SEAT).place (d.seats FLUSH_SEAT).current in
    let f : ℕ = d.shared.flushed in
    let un : Core → ℕ → Option Undecided = λ b place. undecided_upto sessions (view_of sessions b).session place in
    let start : ℕ → ℕ → (ℕ → Object) → Start = λ at run objects. record { at = at; run = run; rows = opening_rows (record c.shared { objects = objects }) } in
    let undecided : un d ≡ un c =
    fun_ext (λ place. undecided_same sessions (view_of sessions d).session (view_of sessions c).session place
    (λ q low. ap session_of (stays.others q (is_other sessions q c quiet low))))
    in
    ap (λ (n : ℕ). made_log (start n d.shared.run d.shared.objects) d.shared.tail f (blocks_below d to) (un d) pin) stays.shared.opening
    ∙ ap (λ (n : ℕ). made_log (start c.shared.opening n d.shared.objects) d.shared.tail f (blocks_below d to) (un d) pin) stays.shared.run
    ∙ ap (λ (o : ℕ → Object). made_log (start c.shared.opening c.shared.run o) d.shared.tail f (blocks_below d to) (un d) pin) stays.shared.objects
    ∙ ap (λ (n : ℕ). made_log (start c.shared.opening c.shared.run c.shared.objects) n f (blocks_below d to) (un d) pin) stays.shared.tail
    ∙ ap (λ (bs : List Block). made_log (start c.shared.opening c.shared.run c.shared.objects) c.shared.tail f bs (un d) pin) (blocks_same c d stays to)
    ∙ ap (λ (u : ℕ → Option Undecided). made_log (start c.shared.opening c.shared.run c.shared.objects) c.shared.tail f (blocks_below c to) u pin) undecided

-- each session is between two calls as before
pub quiet_turn : (sessions : ℕ) (c d : Core) → IsQuiet sessions c → Flushes c d → IsStill (d.seats FLUSH_SEAT)
    → (d.shared.opening ≤ d.shared.flushed) × (d.shared.flushed ≤ d.shared.tail) → IsQuiet sessions d
quiet_turn sessions c d quiet stays still flushed =
    let at : (q : ℕ) → q ≢ FLUSH_SEAT → c.seats q ≡ d.seats q = λ q ne. sym (stays.others q ne) in
    record {
      between = λ q some low. subst (λ (x : Part). IsBetween x.place x.task) (at q (is_other sessions q c quiet low)) (quiet.between q some low);
      others = λ q other plain. ap (λ (x : Part). x.place) (stays.others q (eqb-false q FLUSH_SEAT plain)) ∙ quiet.others q other plain;
      unused = λ q other plain. ap (λ (x : Part). x.over) (stays.others q (eqb-false q FLUSH_SEAT plain)) ∙ quiet.unused q other plain;
      flusher = λ q flusher. subst (λ n. IsStill (d.seats n)) (sym (eqb-true q FLUSH_SEAT flusher)) still;
      sized = λ q some low.
          subst (λ (x : Part). 0 < x.current.stamp → x.current.size ≡ world.size_of (work_of x.current)) (at q (is_other sessions q c quiet low)) (quiet.sized q some low);
      few = quiet.few;
      opened = (let behind = quiet.opened in let same = stays.shared.opening in omega (arith, behind, same));
      flushed = flushed;
    }

abbrev opening_of : Rows → ℕ → ℕ → ℕ → ℕ → ℕ → Opening
opening_of rows tail run first cells sessions = record { rows = rows; tail = tail; run = run; first = first; cells = cells; sessions = sessions; cuts = 0 }

-- the opening stays, and the sessions show the same
pub opening_same : (sessions : ℕ) (c d : Core) → Flushes c d → (view_of sessions d).opening ≡ (view_of sessions c).opening
opening_same sessions c d stays =
    let rows : (ℕ → Object) → Rows = λ objects. opening_rows (record c.shared { objects = objects }) in
    ap (λ (o : ℕ → Object). opening_of (rows o) d.shared.opening d.shared.run d.shared.first d.shared.cell_limit sessions) stays.shared.objects
    ∙ ap (λ (n : ℕ). opening_of (rows c.shared.objects) n d.shared.run d.shared.first d.shared.cell_limit sessions) stays.shared.opening
    ∙ ap (λ (n : ℕ). opening_of (rows c.shared.objects) c.shared.opening n d.shared.first d.shared.cell_limit sessions) stays.shared.run
    ∙ ap (λ (n : ℕ). opening_of (rows c.shared.objects) c.shared.opening c.shared.run n d.shared.cell_limit sessions) stays.shared.first
    ∙ ap (λ (n : ℕ). opening_of (rows c.shared.objects) c.shared.opening c.shared.run c.shared.first n sessions) stays.shared.cells

pub session_same : (sessions : ℕ) (c d : Core) → IsQuiet sessions c → Flushes c d → (q : ℕ) → q ≤ sessions → session_of (d.seats q) ≡ session_of (c.seats q)
session_same sessions c d quiet stays q low = ap session_of (stays.others q (is_other sessions q c quiet low))
