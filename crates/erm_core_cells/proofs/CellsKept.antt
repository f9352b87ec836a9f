-- Each event keeps each cell in its one place.
use Rattle.std.proofs.Common.{◌≡◌, ℕ, ◌+◌, ◌<◌, ◌≤◌, Bool, true, false, cond, eqb, ltb, ◌&&◌, [], ◌∷◌, ◌++◌, count_by, drop, take, length, Option, Some, None, refl, sym, ap, ◌∙◌, subst, arith}
use Rattle.std.specs.Prelude.{if◌then◌else◌}
use Rattle.std.proofs.lemmas.Bool.Decides.{nat_tests}
use Rattle.std.proofs.lemmas.Bool.{and_parts, eqb-true, ltb-true}
use Rattle.std.proofs.lemmas.List.{drop-append-le}
use Rattle.std.proofs.lemmas.List.Sums.{sum_by_push}
use Rattle.std.proofs.lemmas.Option.{same_Some}
use Rattle.erm_machine.specs.declared.limits.TheConstants.{ANNOUNCERS, OBJECT_LIMIT}
use Rattle.erm_machine.specs.declared.event.Counter.{Counter}
use Rattle.erm_machine.specs.declared.event.Counter.TheVariants.{Objects, Cells}
use Rattle.erm_machine.specs.declared.event.Kind.{Kind}
use Rattle.erm_machine.specs.declared.event.Kind.TheVariants as kind
use Rattle.erm_machine.specs.declared.part.Part.{Part}
use Rattle.erm_machine.specs.declared.task.Task.{Task}
use Rattle.erm_machine.specs.declared.task.Task.TheVariants as task
use Rattle.erm_machine.specs.declared.version.Cell.{Cell}
use Rattle.erm_machine.specs.declared.version.CellWord.TheVariants as word
use Rattle.erm_machine.specs.declared.version.Version.{Version}
use Rattle.erm_machine.specs.declared.version.VersionAt.{VersionAt}
use Rattle.erm_machine.specs.Cells as cells
use Rattle.erm_machine.specs.Cells.{own_times, chain_times, OwnCells, WantsCell}
use Rattle.erm_machine.specs.Chains.{CutInHand}
use Rattle.erm_machine.specs.Core.{Core, Object, Shared, no_version, spot_of, version_at, with_version, word_at}
use Rattle.erm_machine.specs.Facts.{total}
use Rattle.erm_machine.specs.Life.{split, join}
use Rattle.erm_machine.specs.Reading.{swap_link}
use Rattle.erm_machine.specs.Seat.{end_of}
use Rattle.erm_machine.specs.Sound.{Sound}
use Rattle.erm_machine.specs.Step.{added, after_event, installed, shared_after, stored, with_part}
use Rattle.erm_machine.specs.Words.{put, set_word}
use Rattle.erm_machine.proofs.Frames.{each_seat, total-put, total_same}
use Rattle.erm_machine.proofs.Objects.{same_objects}
use Rattle.erm_machine.proofs.QuietKinds.{MeetsOne, moves}
use Rattle.erm_core_cells.proofs.CellsCounts.{count_cut, count_drop_set}
use Rattle.erm_core_cells.proofs.CellsSteps.{LeavesAll, leaves}
use Rattle.erm_core_cells.proofs.CellsGiven.{given, begun_below, has_claim}
use Rattle.erm_core_cells.proofs.CellsLeaves.{BareAt, KeepsCells}
use Rattle.erm_core_cells.proofs.CellsLife.{split_leaves, join_leaves}
use Rattle.erm_core_cells.proofs.CellsMoved.{gained, Installs, install_moves, CutsOff, swap_moves, load_counter_cells, add_object_cells, DrawsCell, add_cell_moves}
use Rattle.erm_core_cells.proofs.NumbersKept.{cells_raised, objects_raised, LeavesCounters, same_drawn}

-- what the law says of a state
pub record Kept (d : Core) : Type 0 where
  pub shared : cells.Cells d.shared d.seats
  pub own : (p : ℕ) → OwnCells (d.seats p)

-- how often a cell stands in all chains
abbrev in_chains : ℕ → (ℕ → Object) → ℕ
in_chains cell f = total (chain_times cell) OBJECT_LIMIT f

-- the words of a version change, and not its cell
chain_word : (cell : ℕ) (o : Object) (place : ℕ) (words : Cell) → chain_times cell (with_version o place words) ≡ chain_times cell o
chain_word cell o place words = count_drop_set (λ (v : Version). eqb v.cell cell) o.cut o.versions place (record (version_at o place) { words = words }) no_version refl

-- kinds that leave the cells of all chains
abbrev LeavesChains : Kind → Type 0
LeavesChains (kind.Install oid head) = ⊥
LeavesChains (kind.SwapLink v) = ⊥
LeavesChains _ = Unit {0}

same_chains : (p : ℕ) (k : Kind) (found : ℕ) (x : Part) (s : Shared) (cell : ℕ) → LeavesChains k → in_chains cell (shared_after p k found x s).objects ≡ in_chains cell s.objects
same_chains p (kind.Claim oid seen number) found x s cell q =
    total_same (chain_times cell) OBJECT_LIMIT s.objects oid (record (s.objects oid) { entry = stored p (kind.Claim oid seen number) found }) refl
same_chains p (kind.Install oid head) found x s cell q = absurd q
same_chains p (kind.SwapLink v) found x s cell q = absurd q
same_chains p (kind.SetReader v) found x s cell q = total_same (chain_times cell) OBJECT_LIMIT s.objects v.oid _ (chain_word cell (s.objects v.oid) v.place _)
same_chains p (kind.ClearReader v) found x s cell q = total_same (chain_times cell) OBJECT_LIMIT s.objects v.oid _ (chain_word cell (s.objects v.oid) v.place _)
same_chains p (kind.RaiseReader v value) found x s cell q = total_same (chain_times cell) OBJECT_LIMIT s.objects v.oid _ (chain_word cell (s.objects v.oid) v.place _)
same_chains p (kind.StoreSucc v value) found x s cell q = total_same (chain_times cell) OBJECT_LIMIT s.objects v.oid _ (chain_word cell (s.objects v.oid) v.place _)
same_chains p (kind.StoreOverwriter v value) found x s cell q = total_same (chain_times cell) OBJECT_LIMIT s.objects v.oid _ (chain_word cell (s.objects v.oid) v.place _)
same_chains p k found x s cell q = ap (λ (f : ℕ → Object). in_chains cell f) (same_objects p k found x s tt)

-- the sum of two sums, of which one gains what the other loses
sums_stay : (chains chains_after seats seats_after old new : ℕ) → seats_after + old ≡ seats + new → chains_after + new ≡ chains + old
    → chains_after + seats_after ≡ chains + seats
sums_stay chains chains_after seats seats_after old new e f = omega (arith, e, f)

sums_same : (chains chains_after seats seats_after : ℕ) → chains_after ≡ chains → seats_after ≡ seats → chains_after + seats_after ≡ chains + seats
sums_same chains chains_after seats seats_after e f = omega (arith, e, f)

-- how often a cell is to stand somewhere, where there are so many
abbrev drawn_once : ℕ → ℕ → ℕ → ℕ
drawn_once limit cell drawn = if ltb cell drawn && ltb cell limit then 1 else 0

-- a state after a step that moves cells between chains and one seat
kept_moved : (c : Core) (p : ℕ) (y : Part) (t : Shared) (d : Core) → Sound c → p < ANNOUNCERS → t.cells_drawn ≡ c.shared.cells_drawn → t.cell_limit ≡ c.shared.cell_limit
    → ((cell : ℕ) → in_chains cell t.objects + own_times cell y ≡ in_chains cell c.shared.objects + own_times cell (c.seats p))
    → OwnCells y → record { shared = t; seats = put c.seats p y } ≡ d → Kept d
kept_moved c p y t d sound within drawn limit times fits is =
    subst Kept is (record {
      shared = record {
        once = λ cell.
            sums_stay (in_chains cell c.shared.objects) (in_chains cell t.objects) (total (own_times cell) ANNOUNCERS c.seats) (total (own_times cell) ANNOUNCERS (put c.seats p y))
            (own_times cell (c.seats p)) (own_times cell y) (total-put (own_times cell) ANNOUNCERS c.seats p y within) (times cell)
            ∙ sound.common.cells.once cell ∙ ap (λ n. drawn_once c.shared.cell_limit cell n) (sym drawn) ∙ ap (λ n. drawn_once n cell t.cells_drawn) (sym limit);
      };
      own = each_seat (λ _ (z : Part). OwnCells z) c.seats p y fits (λ q _. (sound.own q).cells);
    })

-- a state after a step that leaves the cells
kept_same : (c : Core) (p : ℕ) (y : Part) (t : Shared) (d : Core) → Sound c → t.cells_drawn ≡ c.shared.cells_drawn → t.cell_limit ≡ c.shared.cell_limit
    → ((cell : ℕ) → in_chains cell t.objects ≡ in_chains cell c.shared.objects)
    → KeepsCells (c.seats p) (c.seats p).task y → record { shared = t; seats = put c.seats p y } ≡ d → Kept d
kept_same c p y t d sound drawn limit chains keeps is =
    subst Kept is (record {
      shared = record {
        once = λ cell.
            sums_same (in_chains cell c.shared.objects) (in_chains cell t.objects) (total (own_times cell) ANNOUNCERS c.seats) (total (own_times cell) ANNOUNCERS (put c.seats p y))
            (chains cell) (total_same (own_times cell) ANNOUNCERS c.seats p y (keeps.times cell))
            ∙ sound.common.cells.once cell ∙ ap (λ n. drawn_once c.shared.cell_limit cell n) (sym drawn) ∙ ap (λ n. drawn_once n cell t.cells_drawn) (sym limit);
      };
      own = each_seat (λ _ (z : Part). OwnCells z) c.seats p y (record { wants = keeps.wants (sound.own p).cells.wants; bare = keeps.bare (sound.own p).cells.bare }) (λ q _. (sound.own q).cells);
    })

-- a sum where one value grows, or falls, by a number
put_gains : {X : Type 0} (g : X → ℕ) (n : ℕ) (f : ℕ → X) (k : ℕ) (v : X) (more : ℕ) → k < n → g v ≡ g (f k) + more → total g n (put f k v) ≡ total g n f + more
put_gains g n f k v more within e = let sum = total-put g n f k v within in omega (arith, sum, e)

put_loses : {X : Type 0} (g : X → ℕ) (n : ℕ) (f : ℕ → X) (k : ℕ) (v : X) (less : ℕ) → k < n → g v + less ≡ g (f k) → total g n (put f k v) + less ≡ total g n f
put_loses g n f k v less within e = let sum = total-put g n f k v within in omega (arith, sum, e)

-- an object after its entry is installed or released
chain_installed : (cell head : ℕ) (v : Option Version) (o : Object) → o.cut ≤ length o.versions → chain_times cell (installed head v o) ≡ chain_times cell o + gained cell v
chain_installed cell head None o below = omega arith
chain_installed cell head (Some v) o below =
    let front : count_by (λ (u : Version). eqb u.cell cell) (drop o.cut (o.versions ++ v ∷ [])) ≡ count_by (λ (u : Version). eqb u.cell cell) (drop o.cut o.versions ++ v ∷ []) =
    ap (λ us. count_by (λ (u : Version). eqb u.cell cell) us) (drop-append-le o.cut o.versions (v ∷ []) below) in
    let push : count_by (λ (u : Version). eqb u.cell cell) (drop o.cut o.versions ++ v ∷ []) ≡ count_by (λ (u : Version). eqb u.cell cell) (drop o.cut o.versions) + cond (eqb v.cell cell) 1 0 =
    sum_by_push (λ (u : Version). cond (eqb u.cell cell) 1 0) (drop o.cut o.versions) v in
    front ∙ push

-- an object after a cut
chain_cut : (cell : ℕ) (o : Object) (place : ℕ) (words : Cell) → o.cut ≤ place →
    chain_times cell (record (with_version o place words) { cut = place }) + count_by (λ (u : Version). eqb u.cell cell) (drop o.cut (take place o.versions)) ≡ chain_times cell o
chain_cut cell o place words below =
    let same = count_drop_set (λ (v : Version). eqb v.cell cell) place o.versions place (record (version_at o place) { words = words }) no_version refl in
    let both = count_cut (λ (v : Version). eqb v.cell cell) o.versions o.cut place below in
    omega (arith, same, both)

-- an object that a step names is below the limit
known_from : (b : Bool) (o : Option Core) (d : Core) → (if b then o else None) ≡ Some d → b ≡ true
known_from true o d e = refl
known_from false o d e = absurd (cc)

install_known : (c : Core) (p oid head : ℕ) (d : Core) → after_event c p (kind.Install oid head) ≡ Some d → oid < OBJECT_LIMIT
install_known c p oid head d e = ltb-true oid OBJECT_LIMIT (known_from (ltb oid OBJECT_LIMIT) _ d e)

gain_moves : (chains chains_after own own_after gain : ℕ) → chains_after ≡ chains + gain → own_after + gain ≡ own → chains_after + own_after ≡ chains + own
gain_moves chains chains_after own own_after gain e f = omega (arith, e, f)

install_kept : (c : Core) (p oid head : ℕ) (d : Core) → Sound c → after_event c p (kind.Install oid head) ≡ Some d → Kept d
install_kept c p oid head d sound e =
    let m = moves c p (kind.Install oid head) d tt e in
    let known = install_known c p oid head d e in
    let v : Option Version = added head (c.seats p) (end_of (c.seats p).task) in
    let i : Installs (c.seats p) v m.part = install_moves oid head (c.seats p) (c.seats p).task m.part (sound.own p).cells.wants (sound.own p).cells.bare m.after in
    let attached = (sound.common.chains.linked oid known).attached in
    kept_moved c p m.part (shared_after p (kind.Install oid head) (word_at c (spot_of p (kind.Install oid head))) (c.seats p) c.shared) d sound (begun_below c p sound i.begun) refl refl
    (λ cell.
    gain_moves (in_chains cell c.shared.objects) (in_chains cell (put c.shared.objects oid (installed head v (c.shared.objects oid)))) (own_times cell (c.seats p)) (own_times cell m.part) (gained cell v)
    (put_gains (chain_times cell) OBJECT_LIMIT c.shared.objects oid (installed head v (c.shared.objects oid)) (gained cell v) known
    (chain_installed cell head v (c.shared.objects oid) (omega (arith, attached)))) (i.times cell)) (record { wants = i.wants; bare = i.bare }) (sym m.is)

loss_moves : (chains chains_after own own_after loss : ℕ) → chains_after + loss ≡ chains → own_after ≡ own + loss → chains_after + own_after ≡ chains + own
loss_moves chains chains_after own own_after loss e f = omega (arith, e, f)

swap_known : (c : Core) (p : ℕ) (v : VersionAt) (d : Core) → after_event c p (kind.SwapLink v) ≡ Some d → v.oid < OBJECT_LIMIT
swap_known c p v d e = ltb-true v.oid OBJECT_LIMIT (known_from (ltb v.oid OBJECT_LIMIT) _ d e)

-- a cut: of a version in hand that is attached
swap_kept : (c : Core) (p : ℕ) (v : VersionAt) (t : Task) (y : Part) (d : Core) → Sound c → v.oid < OBJECT_LIMIT → (c.seats p).task ≡ t
    → swap_link (word_at c (spot_of p (kind.SwapLink v))) v (c.shared.objects v.oid) (c.seats p) t ≡ Some y
    → record { shared = shared_after p (kind.SwapLink v) (word_at c (spot_of p (kind.SwapLink v))) (c.seats p) c.shared; seats = put c.seats p y } ≡ d → Kept d
swap_kept c p v (task.CutFound version horizon) y d sound known on e is =
    let o : Object = c.shared.objects v.oid in
    let in_hand : CutInHand c.shared (c.seats p) (task.CutFound version horizon) = subst (λ u. CutInHand c.shared (c.seats p) u) on (sound.own p).chains.cut in
    let i : CutsOff (c.seats p) o v version y = swap_moves (word_at c (spot_of p (kind.SwapLink v))) v o (c.seats p) version horizon y (has_claim (c.seats p) version.oid in_hand.0.claimed) e in
    let names = and_parts _ _ (and_parts _ _ i.same).0 in
    let oid_is : v.oid ≡ version.oid = eqb-true _ _ names.0 in
    let place_is : v.place ≡ version.place = eqb-true _ _ names.1 in
    let attached : o.cut ≤ version.place = subst (λ n. (c.shared.objects n).cut ≤ version.place) (sym oid_is) in_hand.0.attached in
    let words : Cell = set_word word.Link 0 (version_at o v.place).words in
    kept_moved c p y (shared_after p (kind.SwapLink v) (word_at c (spot_of p (kind.SwapLink v))) (c.seats p) c.shared) d sound (begun_below c p sound i.begun) refl refl
    (λ cell.
    let off : ℕ = count_by (λ (u : Version). eqb u.cell cell) (drop o.cut (take v.place o.versions)) in
    loss_moves (in_chains cell c.shared.objects) (in_chains cell (put c.shared.objects v.oid (record (with_version o v.place words) { cut = v.place }))) (own_times cell (c.seats p)) (own_times cell y) off
    (put_loses (chain_times cell) OBJECT_LIMIT c.shared.objects v.oid (record (with_version o v.place words) { cut = v.place }) off known
    (chain_cut cell o v.place words (omega (arith, attached, place_is))))
    (i.times cell ∙ ap (λ n. own_times cell (c.seats p) + count_by (λ (u : Version). eqb u.cell cell) (drop o.cut (take n o.versions))) (sym place_is)))
    (record { wants = i.wants; bare = i.bare (subst (λ u. BareAt (c.seats p).current.writes u) on (sound.own p).cells.bare) }) is
swap_kept c p v _ y d sound known on e is = absurd (cc)

-- one more cell is drawn
drawn_more : (limit cell n : ℕ) → drawn_once limit cell (n + 1) ≡ drawn_once limit cell n + cond (ltb n limit) (cond (eqb n cell) 1 0) 0
drawn_more limit cell n = grind (arith, nat_tests)

draw_moves : (chains seats seats_after own own_after more : ℕ) → seats_after + own ≡ seats + own_after → own_after ≡ own + more → chains + seats_after ≡ chains + seats + more
draw_moves chains seats seats_after own own_after more e f = omega (arith, e, f)

-- the counter of cells is raised
add_cell_kept : (c : Core) (p : ℕ) (y : Part) (d : Core) → Sound c → DrawsCell (c.seats p) c.shared.cells_drawn (ltb c.shared.cells_drawn c.shared.cell_limit) y
    → record { shared = record c.shared { cells_drawn = c.shared.cells_drawn + 1 }; seats = put c.seats p y } ≡ d → Kept d
add_cell_kept c p y d sound i is =
    subst Kept is (record {
      shared = record {
        once = λ cell.
            draw_moves (in_chains cell c.shared.objects) (total (own_times cell) ANNOUNCERS c.seats) (total (own_times cell) ANNOUNCERS (put c.seats p y))
            (own_times cell (c.seats p)) (own_times cell y) (cond (ltb c.shared.cells_drawn c.shared.cell_limit) (cond (eqb c.shared.cells_drawn cell) 1 0) 0)
            (total-put (own_times cell) ANNOUNCERS c.seats p y (begun_below c p sound i.begun)) (i.times cell)
            ∙ ap (λ n. n + cond (ltb c.shared.cells_drawn c.shared.cell_limit) (cond (eqb c.shared.cells_drawn cell) 1 0) 0) (sound.common.cells.once cell)
            ∙ sym (drawn_more c.shared.cell_limit cell c.shared.cells_drawn);
      };
      own = each_seat (λ _ (z : Part). OwnCells z) c.seats p y (record { wants = i.wants; bare = i.bare }) (λ q _. (sound.own q).cells);
    })

add_kept : (c : Core) (p : ℕ) (counter : Counter) (d : Core) → Sound c → after_event c p (kind.AddCounter counter) ≡ Some d → Kept d
add_kept c p Objects d sound e =
    let m = moves c p (kind.AddCounter Objects) d tt e in
    kept_same c p m.part (record c.shared { objects_drawn = c.shared.objects_drawn + 1 }) d sound refl refl (λ cell. refl)
    (add_object_cells c.shared.cell_limit p c.shared.objects_drawn (c.seats p) (c.seats p).task m.part m.after) (objects_raised c p m.part d sound (sym m.is))
add_kept c p Cells d sound e =
    let m = moves c p (kind.AddCounter Cells) d tt e in
    add_cell_kept c p m.part d sound (add_cell_moves c.shared.cell_limit p c.shared.cells_drawn (c.seats p) (c.seats p).task m.part (sound.own p).cells.wants (sound.own p).cells.bare m.after) (cells_raised c p m.part d sound (sym m.is))

-- a part of one seat changes, and nothing that is shared
part_kept : (c : Core) (p : ℕ) (y : Part) (d : Core) → Sound c → KeepsCells (c.seats p) (c.seats p).task y → record c { seats = put c.seats p y } ≡ d → Kept d
part_kept c p y d sound keeps is = kept_same c p y c.shared d sound refl refl (λ cell. refl) keeps is

split_kept : (c : Core) (p other : ℕ) (d : Core) → Sound c → after_event c p (kind.Split other) ≡ Some d → Kept d
split_kept c p other d sound e = by_test _ e
  where
    from : (o : Option Part) → split (c.seats p) (c.seats other) ≡ o → with_part c other o ≡ Some d → Kept d
    from None at e = absurd (cc)
    from (Some y) at e = part_kept c other y d sound (split_leaves (c.seats p) (c.seats other) y at).cells (same_Some _ _ e)

    by_test : (b : Bool) → (if b then with_part c other (split (c.seats p) (c.seats other)) else None) ≡ Some d → Kept d
    by_test true e = from _ refl e
    by_test false e = absurd (cc)

join_kept : (c : Core) (p other : ℕ) (d : Core) → Sound c → after_event c p (kind.Join other) ≡ Some d → Kept d
join_kept c p other d sound e = by_test _ e
  where
    from : (o : Option Part) → join (c.seats p) (c.seats other) ≡ o → with_part c p o ≡ Some d → Kept d
    from None at e = absurd (cc)
    from (Some y) at e = part_kept c p y d sound (join_leaves (c.seats p) (c.seats other) y at).cells (same_Some _ _ e)

    by_test : (b : Bool) → (if b then None else with_part c p (join (c.seats p) (c.seats other))) ≡ Some d → Kept d
    by_test true e = absurd (cc)
    by_test false e = from _ refl e

-- kinds that change no chain and leave the seat's cells
step_kept : (c : Core) (p : ℕ) (k : Kind) (d : Core) → LeavesAll k → LeavesChains k → LeavesCounters k → MeetsOne k → Sound c → after_event c p k ≡ Some d → Kept d
step_kept c p k d leaves_all chains counters one sound e =
    let m = moves c p k d one e in
    let found : ℕ = word_at c (spot_of p k) in
    let same = same_drawn p k found (c.seats p) c.shared counters in
    kept_same c p m.part (shared_after p k found (c.seats p) c.shared) d sound same.1 same.2 (λ cell. same_chains p k found (c.seats p) c.shared cell chains)
    (leaves p k found c.shared (c.seats p) m.part leaves_all (given c p sound) m.after).cells (sym m.is)

-- Each event keeps each cell in its one place.
pub kept : (c : Core) (p : ℕ) (k : Kind) (d : Core) → Sound c → after_event c p k ≡ Some d → Kept d
kept c p (kind.Split other) d sound e = split_kept c p other d sound e
kept c p (kind.Join other) d sound e = join_kept c p other d sound e
kept c p (kind.LoadCounter counter) d sound e =
    let m = moves c p (kind.LoadCounter counter) d tt e in
    kept_same c p m.part c.shared d sound refl refl (λ cell. refl) (load_counter_cells c.shared.cell_limit counter (word_at c (spot_of p (kind.LoadCounter counter))) (c.seats p) (c.seats p).task m.part m.after) (sym m.is)
kept c p (kind.AddCounter counter) d sound e = add_kept c p counter d sound e
kept c p (kind.Install oid head) d sound e = install_kept c p oid head d sound e
kept c p (kind.SwapLink v) d sound e =
    let m = moves c p (kind.SwapLink v) d tt e in swap_kept c p v (c.seats p).task m.part d sound (swap_known c p v d e) refl m.after (sym m.is)
kept c p k d sound e = step_kept c p k d tt tt tt tt sound e
