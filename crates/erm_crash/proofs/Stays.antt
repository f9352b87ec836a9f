-- A log that a disk holds, where calls of sessions leave it; and images that may be opened again.
use Rattle.std.proofs.Common.{◌≡◌, ℕ, ◌+◌, ◌++◌, List, [], ◌∷◌, sym, ap, ◌∙◌, subst}
use Rattle.erm_model.specs.Member.{◌∈◌}
use Rattle.erm_model.specs.RowTransaction.{Law}
use Rattle.erm_model.specs.Rows.{Rows}
use Rattle.erm_block.specs.declared.block.Block.{Block}
use Rattle.erm_log_words.specs.Kept.{MayOpen}
use Rattle.erm_log_words.specs.Tears.{IsFresh}
use Rattle.erm_outside.specs.Disk.{contents, Image, Step}
use Rattle.erm_ckpt.specs.declared.slot.Slots.{Slots}
use Rattle.erm_ckpt.specs.Recovered.{Pair, Recovers, RecoversAt, State, base, state_behind}
use Rattle.erm_ckpt.specs.States.{RecoversTo}
use Rattle.erm_checkpoint.specs.Taken.{HoldsLog, state_at}
use Rattle.erm_checkpoint.proofs.Taken.{place_is, there_from}
use Rattle.erm_world.specs.Laws.{IsSerializable}
use Rattle.erm_world.specs.Log.{IsLog, Log, StandFrom, Start, place_behind}
use Rattle.erm_world.specs.Whole.{IsBlockOf, IsLogOf}
use Rattle.erm_world.specs.World.{Opening, View}
use Rattle.erm_world.proofs.Blocks.{chain_stands, one_list, stays_block}
use Rattle.erm_world.proofs.Lists.{∈-before}
use Rattle.erm_crash.specs.Kept.{KeepsBlocks, KeepsSince, LeavesLog}

stand_front : (at : ℕ) (xs ys : List Block) → StandFrom at (xs ++ ys) → StandFrom at xs
stand_front at [] ys stand = tt
stand_front at (b ∷ xs) ys (here, stand) = (here, stand_front (at + b.size) xs ys stand)

same_start : (a b : Start) → a.at ≡ b.at → a.run ≡ b.run → a.rows ≡ b.rows → a ≡ b
same_start a b at run rows =
    let make : ℕ → ℕ → Rows → Start = λ n r rs. record { at = n; run = r; rows = rs } in
    ap (λ (n : ℕ). make n a.run a.rows) at ∙ ap (λ (r : ℕ). make b.at r a.rows) run ∙ ap (λ (rs : Rows). make b.at b.run rs) rows

module _ (law : Law) (v t : View) (is : IsSerializable law t) (leaves : LeavesLog v t) (before now : Log) (of_before : IsLogOf v before) (of_now : IsLogOf t now)
    (was : IsLog law.meets before) (is_now : IsLog law.meets now) where
  opened_same : now.opened ≡ before.opened
  opened_same = same_start now.opened before.opened
      (of_now.at ∙ ap (λ (o : Opening). o.tail) leaves.opening ∙ sym of_before.at)
      (of_now.run ∙ ap (λ (o : Opening). o.run) leaves.opening ∙ sym of_before.run)
      (of_now.rows ∙ ap (λ (o : Opening). o.rows) leaves.opening ∙ sym of_before.rows)

  flushed_same : now.flushed ≡ before.flushed
  flushed_same = of_now.flushed ∙ leaves.flushed ∙ sym of_before.flushed

  -- the blocks up to the place flushed are the same
  fronts_same : (front rest : List Block) → before.gathered ≡ front ++ rest → place_behind before.opened.at front ≡ before.flushed → front ≡ is_now.flushed.front
  fronts_same front rest split to =
      let e = is_now.flushed in
      let at : before.opened.at ≡ now.opened.at = ap (λ (s : Start). s.at) (sym opened_same) in
      let stand : StandFrom now.opened.at front =
      subst (λ (n : ℕ). StandFrom n front) at (stand_front before.opened.at front rest (subst (StandFrom before.opened.at) split (chain_stands law.meets _ before.gathered was.chain))) in
      let stand_now : StandFrom now.opened.at e.front = stand_front now.opened.at e.front e.rest (subst (StandFrom now.opened.at) e.split (chain_stands law.meets _ now.gathered is_now.chain)) in
      let run : v.opening.run ≡ t.opening.run = ap (λ (o : Opening). o.run) (sym leaves.opening) in
      let are : (b : Block) → b ∈ front → IsBlockOf t t.opening.run b =
      λ b within. subst (λ (n : ℕ). IsBlockOf t n b) run
      (stays_block v t v.opening.run b leaves.opening leaves.over (of_before.blocks b (subst (λ (bs : List Block). b ∈ bs) (sym split) (∈-before front rest b within)))) in
      let are_now : (b : Block) → b ∈ e.front → IsBlockOf t t.opening.run b = λ b within. of_now.blocks b (subst (λ (bs : List Block). b ∈ bs) (sym e.split) (∈-before e.front e.rest b within)) in
      one_list law t is t.opening.run now.opened.at front e.front stand stand_now are are_now
      (ap (λ (n : ℕ). place_behind n front) (sym at) ∙ to ∙ sym flushed_same ∙ e.behind)

  pub held_stays : (slots : Slots) (steps : List Step) → HoldsLog law.meets before slots steps → HoldsLog law.meets now slots steps
  held_stays slots steps h =
      let e = is_now.flushed in
      let from : State = record { at = before.opened.at; run = before.opened.run; rows = before.opened.rows } in
      let fronts : h.front ≡ e.front = fronts_same h.front h.rest h.split (sym (place_is from h.front) ∙ h.to) in
      let run : before.opened.run ≡ now.opened.run = ap (λ (s : Start). s.run) (sym opened_same) in
      let there = there_from law.meets before now slots steps h e.front opened_same fronts in
      record {
        ready = record {
          settled = h.ready.settled;
          fresh = subst (λ (n : ℕ). IsFresh now.opened.run (contents steps) n) (sym flushed_same) (subst (λ (n : ℕ). IsFresh n (contents steps) before.flushed) run h.ready.fresh);
        };
        pair = h.pair;
        names = h.names;
        begins = h.begins;
        front = e.front;
        rest = e.rest;
        split = e.split;
        to = place_is (state_at now []) e.front ∙ sym e.behind;
        there = there.0;
        meets = there.1;
      }

  pub kept_stays : (place : ℕ) (slots : Slots) (old steps : List Step) → KeepsSince law.meets place before slots old steps → KeepsSince law.meets place now slots old steps
  kept_stays place slots old steps k =
      let e = is_now.flushed in
      let fronts : k.front ≡ e.front = fronts_same k.front k.rest k.split k.to in
      let from : state_at before [] ≡ state_at now [] = ap (λ (s : Start). let x : State = record { at = s.at; run = s.run; rows = s.rows } in x) (sym opened_same) in
      record {
        holds = held_stays slots steps k.holds;
        front = e.front;
        rest = e.rest;
        split = e.split;
        to = sym e.behind;
        moments = subst (λ (bs : List Block). KeepsBlocks law.meets (state_at now []) bs place old steps) fronts
            (subst (λ (s : State). KeepsBlocks law.meets s k.front place old steps) from k.moments);
      }

-- what recovers to a state, behind which no block of a later run reads, may be opened
pub may_open : (sound : Rows → Type 0) → ((image : Image) (p q : Pair) (xs ys : List Block) → Recovers sound image p xs → Recovers sound image q ys → (p ≡ q) × (xs ≡ ys))
    → (state : State) (pair : Pair) (image : Image) → RecoversTo sound state pair image → MayOpen (RecoversAt sound) image
may_open sound one state pair image there at run r =
    let same = one image r.pair pair r.blocks there.blocks r.recovers there.recovers in
    let states : state_behind (base r.pair) r.blocks ≡ state_behind (base pair) there.blocks =
    ap (λ (p : Pair). state_behind (base p) r.blocks) same.0 ∙ ap (λ (bs : List Block). state_behind (base pair) bs) same.1 in
    let place : at ≡ state.at = r.at_is ∙ ap (λ (s : State). s.at) states ∙ there.is.at in
    let last : run ≡ state.run = r.run_is ∙ ap (λ (s : State). s.run) states ∙ there.is.run in
    subst (λ (n : ℕ). IsFresh (run + 1) image n) (sym place) (subst (λ (n : ℕ). IsFresh (n + 1) image state.at) (sym last) there.opens)
