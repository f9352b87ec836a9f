-- Disks that have room: neither nothing to start from nor an end is found there.
use Rattle.std.proofs.Common.{◌≡◌, ◌≢◌, ℕ, List, Option, Some, None, IfSome, refl, sym, ap, ◌∙◌, subst, inl, inr, arith}
use Rattle.erm_block.specs.declared.block.Block.{Block}
use Rattle.erm_node.specs.Sound.{sound_law}
use Rattle.erm_outside.specs.declared.disk.File.TheVariants.{Slot0, Slot1}
use Rattle.erm_outside.specs.Disk.{Image, Step, contents}
use Rattle.erm_ckpt.specs.Checkpoint.{Checkpoint}
use Rattle.erm_ckpt.specs.Recovered.{HasNoBase, Pair, Recovers, Shows, State, base, best, better, state_behind}
use Rattle.erm_recover.specs.Recovering.{NoBaseTold}
use Rattle.erm_disk_run.specs.declared.stops.DiskStop.TheVariants as disk
use Rattle.erm_disk_run.specs.Found.{IsFound, ReadsAs}
use Rattle.erm_disk_run.specs.Stops.{StopsFor}
use Rattle.erm_top.specs.Around.{Around}
use Rattle.erm_top.specs.Runs.{HasRoom, IsAtEnd, TellsState}

-- what an image recovers to is one
abbrev pub OneRecovery : Type 0
OneRecovery = (image : Image) (p q : Pair) (xs ys : List Block) → Recovers sound_law.meets image p xs → Recovers sound_law.meets image q ys → (p ≡ q) × (xs ≡ ys)

-- a file without a checkpoint shows none
shows_none : (file : List ℕ) (shown : Option Checkpoint) → Shows sound_law.meets file None → Shows sound_law.meets file shown → shown ≡ None
shows_none file None none shows = refl
shows_none file (Some c) none shows = absurd (none c shows)

-- an image that recovers has a place to start from
has_base : (image : Image) (pair : Pair) (blocks : List Block) → HasNoBase sound_law.meets image → Recovers sound_law.meets image pair blocks → ⊥
has_base image pair blocks none recovers =
    let first = shows_none (image Slot0) pair.slot0 none.slot0 recovers.slot0 in
    let other = shows_none (image Slot1) pair.slot1 none.slot1 recovers.slot1 in
    let no_best : best pair ≡ None = ap (λ (c : Option Checkpoint). better c pair.slot1) first ∙ ap (λ (c : Option Checkpoint). better None c) other in
    elim (recovers.based no_best) [
      | inl empty ↦ elim none.bytes [ inl bytes ↦ bytes empty.0 | inr bytes ↦ bytes empty.1 ]
      | inr there ↦ there none.gone
    ]

pub recovers_from_some : (state : State) (a : Around) → TellsState state a → NoBaseTold sound_law.meets a.told_before → ⊥
recovers_from_some state a r none =
    has_base (contents r.steps) r.reads.pair r.reads.blocks (subst (λ (told : Option (List Step)). NoBaseTold sound_law.meets told) r.told none) r.reads.recovers

-- a disk recovers to one place and one run
same_end : OneRecovery → (steps : List Step) (s t : State) → ReadsAs s steps → ReadsAs t steps → (s.at ≡ t.at) × (s.run ≡ t.run)
same_end one steps s t x y =
    let same = one (contents steps) x.pair y.pair x.blocks y.blocks x.recovers y.recovers in
    let states : state_behind (base x.pair) x.blocks ≡ state_behind (base y.pair) y.blocks =
    ap (λ (p : Pair). state_behind (base p) x.blocks) same.0 ∙ ap (λ (bs : List Block). state_behind (base y.pair) bs) same.1 in
    (sym x.is.at ∙ ap (λ (z : State). z.at) states ∙ y.is.at, sym x.is.run ∙ ap (λ (z : State). z.run) states ∙ y.is.run)

found_there : OneRecovery → (a : Around) (s t : State) → TellsState s a → IsFound a.told_before t → (s.at ≡ t.at) × (s.run ≡ t.run)
found_there one a s t r found =
    let reads : IfSome (Some r.steps) (ReadsAs t) = subst (λ (told : Option (List Step)). IfSome told (ReadsAs t)) r.told found.told in
    same_end one r.steps s t r.reads reads

-- so no end is found where there is room
pub no_end : OneRecovery → (a : Around) → HasRoom a → IsAtEnd a → ⊥
no_end one a room (inl (run, printed, stops)) =
    let same = found_there one a room.state stops.0.0 room.tells stops.0.1 in
    omega (arith, same.1, stops.0.2, stops.1, room.run)
no_end one a room (inr (tail, printed, stops)) =
    let same = found_there one a room.state stops.0.0 room.tells stops.0.1 in
    omega (arith, same.0, stops.0.2, stops.1, room.place)

-- both together
pub has_room : OneRecovery → (status : ℕ) (a : Around) → (status ≡ 7 → StopsFor disk.NoBase a.told_before a.told_after) → (status ≡ 10 → IsAtEnd a) → HasRoom a → (status ≢ 7) × (status ≢ 10)
has_room one status a seven ten room = (λ e. recovers_from_some room.state a room.tells (seven e).0, λ e. no_end one a room (ten e))
