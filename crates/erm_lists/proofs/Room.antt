-- Room for the second half of a claim: it is there for each step, and lasts.
use Rattle.std.proofs.Common.{◌≡◌, ℕ, ◌≤◌, ◌+◌, ◌*◌, true, List, length, Option, Some, None, slice_get, sym, ap, ◌∙◌, subst, arith}
use Rattle.std.specs.Prelude.{vec_len}
use Rattle.std.proofs.lemmas.List.{get_or-map}
use Rattle.std.proofs.lemmas.Option.{same_Some, slice_get_within, get_or_from_slice_get}
use Rattle.erm_machine.specs.declared.event.Kind.{Kind}
use Rattle.erm_machine.specs.declared.event.Kind.TheVariants as kind
use Rattle.erm_machine.specs.declared.part.Part.{Part}
use Rattle.erm_machine.specs.declared.place.Place.TheVariants.{Vacant}
use Rattle.erm_machine.specs.declared.task.Task.{Task}
use Rattle.erm_machine.specs.declared.version.VersionAt.{VersionAt}
use Rattle.erm_machine.specs.Core.{Core, fresh_part}
use Rattle.erm_seat.specs.declared.seat.SeatState.{SeatState}
use Rattle.erm_seat.specs.Parts.{part_of}
use Rattle.erm_core.specs.declared.state.State.{State}
use Rattle.erm_core.specs.Cores.{core_of, parts_of}
use Rattle.erm_core.specs.Rooms.{AddsNothing, HasRoom, HasSwapRoom, IsOfNone, LeavesChain, ranges_in}
use Rattle.erm_core_steps.specs.Finishes.{is_finishing}
use Rattle.erm_core_steps.proofs.Finishing.{Lasts, Near, Needs, all_left, cut, none_to_cut, nothing, object_to_cut}
use Rattle.erm_core_steps.proofs.Stamps.{IsSealing}
use Rattle.erm_lists.specs.Rooms.{MayFinish}

-- there is room for the cells that are still to be cut off
abbrev pub KeepsCutRoom : State → ℕ → Task → Type 0
KeepsCutRoom s seat t = (oid : ℕ) → object_to_cut t ≡ Some oid → HasSwapRoom s seat oid

-- its room is there, and lasts
pub finish_serves : (s : State) (seat : ℕ) (t : Task) (k : Kind) → ((n : ℕ) (j : Kind) → ranges_in j ≡ 0 → IsOfNone j → HasRoom s n j)
    → ((v : VersionAt) → HasSwapRoom s seat v.oid → HasRoom s seat (kind.SwapLink v)) → Needs t k → KeepsCutRoom s seat t → HasRoom s seat k
finish_serves s seat t k none swap (nothing ranges of_none) room = none seat k ranges of_none
finish_serves s seat t k none swap (cut v is object) room = subst (HasRoom s seat) (sym is) (swap v (room v.oid object))

pub finish_lasts : (s r : State) (seat : ℕ) (t u : Task) (k : Kind) → ((oid : ℕ) → AddsNothing k → LeavesChain k oid → HasSwapRoom s seat oid → HasSwapRoom r seat oid)
    → Near t u → Lasts k u → KeepsCutRoom s seat t → KeepsCutRoom r seat u
finish_lasts s r seat t u k keeps near (all_left adds chain) room = λ oid some. keeps oid adds (chain oid) (room oid (near.cuts oid some))
finish_lasts s r seat t u k keeps near (none_to_cut none) room = λ oid some. absurd (let e : ◌≡◌ {A = Option ℕ} None (Some oid) = sym none ∙ some in cc)

pub finish_begins : (s : State) (seat : ℕ) (may : MayFinish s seat) → KeepsCutRoom s seat ((core_of s).seats seat).task × (is_finishing ((core_of s).seats seat).task ≡ true)
finish_begins s seat may = (
  subst (KeepsCutRoom s seat) (sym may.claimed) (λ oid some. subst (HasSwapRoom s seat) (same_Some may.version.oid oid some) may.room),
  ap is_finishing may.claimed,
)

-- a seat that is kept
pub part_there : (run opening : ℕ) (xs : List SeatState) (p : ℕ) (x : SeatState) → slice_get xs p ≡ Some x → parts_of run opening xs p ≡ part_of x
part_there run opening xs p x there =
    get_or-map part_of xs p x (fresh_part Vacant run opening) (slice_get_within xs p x there) ∙ ap part_of (get_or_from_slice_get xs p x x there)

-- the draw is of a block that has a row for each claim at most
pub draw_few : (seat size : ℕ) (b c : Core) (run opening : ℕ) (xs : List SeatState) → IsSealing seat b c → c.seats ≡ parts_of run opening xs → size ≤ 5 + 17 * length (b.seats seat).current.writes
    → (x : SeatState) → slice_get xs seat ≡ Some x → size ≤ 5 + 17 * vec_len x.current.writes
draw_few seat size b c run opening xs at kept few x there =
    let is : c.seats seat ≡ part_of x = ap (λ (f : ℕ → Part). f seat) kept ∙ part_there run opening xs seat x there in
    let same : length x.current.writes.items ≡ length (b.seats seat).current.writes =
    ap (λ (y : Part). length y.current.writes) (sym is) ∙ ap (λ (y : Part). length y.current.writes) at.is
    in
    omega (arith, few, same)
