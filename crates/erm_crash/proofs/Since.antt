-- A log that is kept from some steps on, and goes on.
use Rattle.std.proofs.Common.{◌≡◌, ℕ, ◌≤◌, ◌++◌, List, [], sym, ap, ◌∙◌, subst, arith, append_assoc, append-nil}
use Rattle.erm_model.specs.Rows.{Rows}
use Rattle.erm_block.specs.declared.block.Block.{Block}
use Rattle.erm_outside.specs.Disk.{Step}
use Rattle.erm_ckpt.specs.declared.slot.Slots.{Slots}
use Rattle.erm_ckpt.specs.Recovered.{State, base, state_behind}
use Rattle.erm_checkpoint.specs.Taken.{HoldsLog, state_at}
use Rattle.erm_checkpoint.proofs.Taken.{place_is}
use Rattle.erm_world.specs.Log.{Log, Start, gathered_to}
use Rattle.erm_crash.specs.Kept.{KeepsBlocks, KeepsSince, RecoversStopped}
use Rattle.erm_crash.proofs.Moments.{at_once, go_on, settled_image}
use Rattle.erm_crash.proofs.Stops.{settled_stops}

module _ (sound : Rows → Type 0) where
  pub kept_begins : (log : Log) (slots : Slots) (steps : List Step) → HoldsLog sound log slots steps → KeepsSince sound log.flushed log slots steps steps
  kept_begins log slots steps h =
      let from : State = state_at log [] in
      let to = h.to in
      record {
        holds = h;
        front = h.front;
        rest = h.rest;
        split = h.split;
        to = sym (place_is from h.front) ∙ h.to;
        moments = at_once _ steps (λ image is tears. settled_image (RecoversStopped sound from h.front log.flushed steps) steps image h.ready.settled is (record {
          past = record {
            front = h.front;
            rest = [];
            split = sym (append-nil h.front);
            low = omega (arith, to);
            pair = h.pair;
            there = h.there;
            meets = h.meets;
          };
          stops = settled_stops (base h.pair).at (state_behind from h.front).at steps h.ready.settled;
        }));
      }

  pub kept_goes_on : (place : ℕ) (before now : Log) (slots later : Slots) (old mid new : List Step) → place ≤ before.flushed → KeepsSince sound place before slots old mid
      → HoldsLog sound now later new → now.opened ≡ before.opened → ((rest : List Block) × (now.gathered ≡ before.gathered ++ rest)) → now.flushed ≡ gathered_to now
      → KeepsBlocks sound (state_at now []) now.gathered before.flushed mid new → KeepsSince sound place now later old new
  kept_goes_on place before now slots later old mid new low k h opened more all keeps =
      let from : state_at before [] ≡ state_at now [] = ap (λ (s : Start). let x : State = record { at = s.at; run = s.run; rows = s.rows } in x) (sym opened) in
      let long : now.gathered ≡ k.front ++ (k.rest ++ more.0) = more.1 ∙ ap (λ (bs : List Block). bs ++ more.0) k.split ∙ append_assoc k.front k.rest more.0 in
      let first : KeepsBlocks sound (state_at now []) k.front place old mid = subst (λ (s : State). KeepsBlocks sound s k.front place old mid) from k.moments in
      let second : KeepsBlocks sound (state_at now []) (k.front ++ (k.rest ++ more.0)) before.flushed mid new =
      subst (λ (bs : List Block). KeepsBlocks sound (state_at now []) bs before.flushed mid new) long keeps in
      record {
        holds = h;
        front = now.gathered;
        rest = [];
        split = sym (append-nil now.gathered);
        to = sym all;
        moments = subst (λ (bs : List Block). KeepsBlocks sound (state_at now []) bs place old new) (sym long)
            (go_on sound (state_at now []) k.front (k.rest ++ more.0) place before.flushed old mid new low first second);
      }
