use Rattle.std.proofs.Common.{arith}
use Rattle.erm_machine.proofs.Backs.{session_within}
use Rattle.erm_rule.proofs.Telling.{is_held}
use Rattle.erm_readers.proofs.Settling.{did_load_readers, has_sealed, object_of_readers, ready_readers}
use Rattle.erm_readers.proofs.settles.readers.Goals as goal

pub load_readers-bits-requires-clause-held : goal.load_readers-bits-requires-clause-held
load_readers-bits-requires-clause-held g c = is_held c.args.p.now.me.0.view c.args.who _ (has_sealed c.args.p.now.me.0.view c.args.who c.requires.known c.requires.sealed)

pub load_readers-bits-requires-clause-object : goal.load_readers-bits-requires-clause-object
load_readers-bits-requires-clause-object g c = object_of_readers c.args.p.now.me.0.view c.args.who c.requires.known c.requires.sealed c.requires.at

pub load_readers-bits-requires-clause-ready : goal.load_readers-bits-requires-clause-ready
load_readers-bits-requires-clause-ready g c = ready_readers c.args.p.now.me.0.view c.args.who c.requires.known c.requires.sealed c.requires.at

pub without_bit-requires : goal.without_bit-requires
without_bit-requires g c = let within = session_within c.args.who c.requires.session in omega (arith, within)

pub returns-clause-loaded : goal.returns-clause-loaded
returns-clause-loaded g c = did_load_readers c.args.p.now.me.0.view c.args.who c.requires.known c.requires.sealed c.requires.at c.load_readers-bits.result c.without_bit.result _ c.without_bit.ensures c.load_readers-bits.ensures.told.told

pub returns-clause-booked : goal.returns-clause-booked
returns-clause-booked g c = (c.load_readers-bits.result, c.without_bit.ensures, c.load_readers-bits.ensures.booked)
