use Rattle.std.proofs.Common.{List, map, refl, sym, ap, ◌∙◌}
use Rattle.erm_core.specs.Cores.{core_of}
use Rattle.erm_core_steps.proofs.Exchanges.{claims_shown}
use Rattle.erm_core_steps.proofs.Quiet.{active_seat}
use Rattle.erm_machine.specs.declared.attempt.Claim.{Claim}
use Rattle.erm_machine.specs.Decided.{written_of}
use Rattle.erm_lists.specs.Stands.{lists_view}
use Rattle.erm_lists.proofs.lists.Lists.claims_made.Goals as goal

pub writes-requires : goal.writes-requires
writes-requires g c =
    let at = active_seat c.args.self.now.sessions c.args.seat (core_of c.args.self.now.state) c.requires.stands.quiet c.requires.session c.requires.active in
    record { session = at.session }

pub returns : goal.returns
returns g c =
    let at = active_seat c.args.self.now.sessions c.args.seat (core_of c.args.self.now.state) c.requires.stands.quiet c.requires.session c.requires.active in
    ap (λ (ws : List Claim). map written_of ws) c.writes.ensures ∙ sym (claims_shown c.args.self.now.sessions c.args.seat (core_of c.args.self.now.state) (lists_view c.args.self.now) at refl)
