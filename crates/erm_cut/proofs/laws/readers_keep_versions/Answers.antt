use Rattle.std.proofs.Common.{◌≡◌, ◌≢◌, ℕ, ◌<◌, ◌∷◌, [], sym, ◌∙◌}
use Rattle.erm_machine.specs.declared.attempt.OwnCell.{OwnCell}
use Rattle.erm_machine.specs.declared.attempt.Read.{Read}
use Rattle.erm_machine.specs.declared.limits.TheConstants.{ANNOUNCERS}
use Rattle.erm_machine.specs.Core.{Core}
use Rattle.erm_machine.specs.Facts.{HasBegun}
use Rattle.erm_machine.specs.Sound.{Sound}
use Rattle.erm_machine.proofs.Holders.{begun_attached}
use Rattle.erm_machine.proofs.Listed.{∈-head, ∈-second}
use Rattle.erm_model.specs.Member.{◌∈◌}
use Rattle.erm_cells.specs.Calls.{IsUnchained}
use Rattle.erm_rule.proofs.OnePlace.{own_unchained, spare_counts}
use Rattle.erm_cut.specs.Calls.{IsInChain}
use Rattle.erm_cut.proofs.laws.readers_keep_versions.Goals as goal

read_attached : (c : Core) (q : ℕ) (r : Read) → Sound c → HasBegun (c.seats q).place → r ∈ (c.seats q).current.reads → IsInChain c r.version
read_attached c q r sound begun m =
    let x = c.seats q in
    let fits = (sound.own q).snapshot.reads (c.seats q).current r (∈-second x.over (x.current ∷ []) x.current (∈-head x.current [])) m in
    record {
      object = fits.named.object;
      attached = begun_attached c q r.version.oid r.version.place sound fits.named.object begun fits.newest.newer;
      within = fits.named.within;
      cell = fits.named.cell;
    }

spare_unchained : (c : Core) (p : ℕ) (own : OwnCell) → Sound c → p < ANNOUNCERS → own ∈ (c.seats p).spare → IsUnchained c own.cell
spare_unchained c p own sound seat m =
    own_unchained c.shared c.seats sound.common.cells own.cell p seat (spare_counts own.cell (c.seats p) own m (Rattle.std.proofs.Common.refl))

pub returns : goal.returns
returns c = record {
  reach = λ core q oid place sound known begun newer. begun_attached core q oid place sound known begun newer;
  read = λ core q r sound begun m. read_attached core q r sound begun m;
  spare = λ core p own sound seat m. spare_unchained core p own sound seat m;
  unread = λ core p q own r sound seat m begun there same.
      let in_chain = read_attached core q r sound begun there in
      spare_unchained core p own sound seat m r.version.oid r.version.place in_chain.object in_chain.attached in_chain.within (in_chain.cell ∙ same);
}
