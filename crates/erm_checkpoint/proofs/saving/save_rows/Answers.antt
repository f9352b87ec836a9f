use Rattle.std.proofs.Common.{ℕ, ◌≤◌, length, subst, sym}
use Rattle.erm_ckpt.specs.Checkpoint.{checkpoint_of, slot_words}
use Rattle.erm_ckpt.proofs.SavedRows.{slot_fits}
use Rattle.erm_checkpoint.proofs.saving.save_rows.Goals as goal

pub encode_slot-size-requires-clause-room : goal.encode_slot-size-requires-clause-room
encode_slot-size-requires-clause-room g c =
    subst (λ (n : ℕ). length (slot_words (checkpoint_of c.args.slot.now c.args.rows.now)) ≤ n) (sym c.requires.words)
    (slot_fits c.args.slot.now c.args.rows.now c.requires.count c.told-rows)
