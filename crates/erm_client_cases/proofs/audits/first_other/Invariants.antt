use Rattle.erm_client.specs.Clients.{IsClient}
use Rattle.erm_client.specs.Dealings.{AllCommitted}
use Rattle.erm_node.specs.Sound.{sound_law}
use Rattle.erm_shared_session.specs.Stands.{Stands, own_of, seat_of}
use Rattle.erm_tellers.specs.Tellers.{IsOfTellers}
use Rattle.erm_client_cases.proofs.audits.first_other.Given as goal

abbrev pub invariant-loop-place : goal.invariant-loop-place
invariant-loop-place g l = IsClient (λ x s. Stands sound_law x s) seat_of own_of l.first
    × IsClient (λ x s. Stands sound_law x s) seat_of own_of l.teller
    × AllCommitted IsOfTellers l.teller.transcript
