use Rattle.std.proofs.Common.{ℕ, map, sym, ◌∙◌, subst}
use Rattle.erm_model.specs.Lawful.{IsLawfulRecord}
use Rattle.erm_machine.specs.declared.attempt.Claim.{Claim}
use Rattle.erm_machine.specs.declared.part.Part.{Part}
use Rattle.erm_machine.specs.Decided.{record_of}
use Rattle.erm_record.specs.Stored.{block_words}
use Rattle.erm_rule.specs.Books.{book}
use Rattle.erm_rule.specs.Views.{part_of, view}
use Rattle.erm_rule.specs.Went.{core_of}
use Rattle.erm_seats.specs.Took.{TookSeal}
use Rattle.erm_table_world.proofs.Sealing.{lawful, seals}
use Rattle.erm_model.specs.declared.outcome.Phase.TheVariants.{Sealed}
use Rattle.erm_session.proofs.Saved.{stays_past}
use Rattle.erm_table_world.proofs.Held.{keeps_saves}
use Rattle.erm_table_world.proofs.Sessions.{called, here, is_now}
use Rattle.erm_table_world.proofs.table_world.TableWorld.seal.Goals as goal

pub seal-requires : goal.seal-requires
seal-requires g c =
    let law = g.L.RowLaw.law in
    let w = c.args.self.now in
    let seat = c.args.seat in
    let s = c.index_mut.result.now in
    let at = here law w seat s c.requires.stands c.requires.session c.index_mut.ensures.value in
    record {
      fits = c.requires.stands.fits;
      known = at.known;
      stands = at.stands;
      active = at.phase ∙ c.requires.active;
      lawful =
          subst (λ (x : Part). IsLawfulRecord law (record_of s.seat x.current)) (sym at.part)
          (subst (λ (n : ℕ). IsLawfulRecord law (record_of n ((core_of (book w.pass)).seats seat).current)) (sym at.seat)
          (lawful law w.count seat (book w.pass) c.requires.stands.at c.requires.session c.requires.active c.requires.lawful));
    }

pub returns : goal.returns
returns g c =
    let law = g.L.RowLaw.law in
    let w = c.args.self.now in
    let seat = c.args.seat in
    let s = c.index_mut.result.now in
    let at = here law w seat s c.requires.stands c.requires.session c.index_mut.ensures.value in
    let b = book w.pass in
    let e = book c.seal.new.p in
    let stamp = c.seal.result in
    let first = subst (λ (n : ℕ). TookSeal law n (block_words (map (λ (d : Claim). d.row) (part_of (view w.pass) s.seat).current.writes)) stamp b e) at.seat c.seal.ensures.took in
    let took = subst (λ (x : Part). TookSeal law seat (block_words (map (λ (d : Claim). d.row) x.current.writes)) stamp b e) at.part first in
    let done = seals law w.count seat b c.requires.stands.at c.requires.session c.requires.active stamp e took in
    record {
      stands =
          called law w seat c.seal.new.p c.seal.new.self c.requires.stands c.requires.session
          (record {
            fits = c.seal.ensures.fits;
            ran = done.ran;
            quiet = done.quiet;
            seat = c.seal.ensures.seat ∙ at.seat;
            is = is_now law e seat s.seat c.seal.new.self done.ran.state at.seated at.seat c.seal.ensures.stands;
          });
      saves = keeps_saves law w seat s c.requires.stands c.requires.session c.index_mut.ensures.value c.seal.new.p done.ran c.seal.new.self c.seal.ensures.stands (stays_past s c.seal.new.self _ _ Sealed c.seal.ensures.phase (λ e. absurd (cc)));
      sealed = done.did;
    }
