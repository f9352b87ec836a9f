use Rattle.std.proofs.Common.{◌<◌, ℕ, List, subst, arith}
use Rattle.std.specs.List.{All}
use Rattle.erm_client.proofs.client.Client.put.Goals as goal
use Rattle.erm_client.proofs.Steps.{told_err}

pub ask-requires-clause-range : goal.ask-requires-clause-range
ask-requires-clause-range g c =
    ((omega arith, omega arith), (c.as_slice.ensures.short, subst (λ (xs : List ℕ). All (λ b. b < 256) xs) c.as_slice.ensures.bytes c.bytes_are_small.ensures))

pub returns-clause-err : goal.returns-clause-err
returns-clause-err g c = told_err c.args.self.now.transcript c.ask.new.self.transcript _ c.in_ok-ask.ensures.ok c.last.result.now c.last.ensures.last c.done_in.result c.done_in.ensures.err
