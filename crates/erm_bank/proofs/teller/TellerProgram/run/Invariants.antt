use Rattle.std.proofs.Common.{◌≡◌, ℕ, ◌≤◌, length}
use Rattle.std.specs.Prelude.{max, min, vec_capacity, vec_len}
use Rattle.erm_bank.proofs.teller.TellerProgram.run.Given as goal
use Rattle.erm_bank.specs.declared.teller.Told.TheVariants as told
use Rattle.erm_bank.specs.Tellers.{DidAll, IsServing, IsShown}
use Rattle.erm_client.specs.Clients.{GoesOn}
use Rattle.erm_client.specs.Dealings.{AllCommitted, snapshots_told}
use Rattle.erm_model.specs.Member.{◌∈◌}

-- what the errands so far came to
abbrev pub invariant-errands : goal.invariant-errands
invariant-errands g l = record {
  on : GoesOn g.S.SharedSession.stands g.S.SharedSession.seat g.S.SharedSession.own g.S.SharedSession.ends g.T.Turns.told l.fn.client l.client;
  same : l.self.errands ≡ l.fn.self.errands;
  tries : l.self.tries ≡ l.fn.self.tries;
  few : l.many ≤ vec_len l.fn.self.errands;
  room : l.many ≤ vec_capacity l.self.told;
  all : vec_len l.fn.self.errands ≤ vec_capacity l.fn.self.told → l.many ≡ vec_len l.fn.self.errands;
  least : min (vec_len l.fn.self.errands) (vec_capacity l.fn.self.told) ≤ l.many;
  long : length l.self.told.items ≡ l.place;
  did : DidAll (max l.fn.self.tries 1) l.self.told.items l.fn.self.errands.items l.fn.client.transcript l.client.transcript;
  serves : AllCommitted (IsServing l.fn.self.errands.items) l.client.transcript;
  shown : (low high total : ℕ) → told.Total low high total ∈ l.self.told.items → IsShown low high total (snapshots_told l.client.transcript);
}
