use Rattle.std.proofs.Common.{sym, ◌∙◌}
use Rattle.erm_client_cases.proofs.Handed.{first_of, second_of}
use Rattle.erm_client_cases.proofs.clients.two.Goals as goal

pub client-first-requires : goal.client-first-requires
client-first-requires c = record {
  new = (c.requires.new.0, c.requires.new.1.each 0 c.in-Some.first (first_of _ _ _ (sym c.into_iter-left.ensures.rest ∙ c.in-Some.ensures.items)));
}

pub client-second-requires : goal.client-second-requires
client-second-requires c = record {
  new = (
    c.requires.new.0,
    c.requires.new.1.each 1 c.in-Some-next.second (second_of _ _ _ _ _ (sym c.into_iter-left.ensures.rest ∙ c.in-Some.ensures.items) c.in-Some-next.ensures.items),
  );
}
