use Rattle.std.proofs.Common.{sym, subst}
use Rattle.erm_rule.specs.Books.{book}
use Rattle.erm_rule.specs.Views.{part_of}
use Rattle.erm_entries.specs.Ends.{next_release}
use Rattle.erm_ends.specs.Took.{WasFreed}
use Rattle.erm_ends.proofs.Freed.{was_freed}
use Rattle.erm_ends.proofs.Releases.{cell_last, release_object, released_held}
use Rattle.erm_ends.proofs.releasing.release_claim.Goals as goal

pub release-requires-clause-object : goal.release-requires-clause-object
release-requires-clause-object g c = release_object c.args.p.now.me.0.view c.args.who c.args.claim.oid c.args.claim.overwritten c.requires.next c.requires.known

pub give_back-requires-clause-known : goal.give_back-requires-clause-known
give_back-requires-clause-known g c = c.release.ensures.released.known

pub give_back-requires-clause-held : goal.give_back-requires-clause-held
give_back-requires-clause-held g c = released_held c.args.p.now.me.0.view c.args.who c.args.claim.oid c.args.claim.overwritten c.requires.next _ c.release.ensures.released

pub give_back-requires-clause-released : goal.give_back-requires-clause-released
give_back-requires-clause-released g c =
    cell_last c.args.p.now.me.0.view c.args.who c.args.claim.oid c.args.claim.overwritten c.requires.next _ c.release.ensures.released _ c.args.claim.own c.requires.own c.requires.spare

pub returns-clause-freed : goal.returns-clause-freed
returns-clause-freed g c =
    let x = part_of c.args.p.now.me.0.view c.args.who in
    subst (λ q. WasFreed g.L.RowLaw.law c.args.who x.current.number (next_release x).version c.args.p.now.me.0 (book q)) (sym c.give_back.ensures.same)
    (was_freed g.L.RowLaw.law c.args.who c.args.p.now.me.0 c.release.new.p.me.0 c.args.claim.oid c.args.claim.overwritten c.requires.next c.release.ensures.released c.release.ensures.booked.0 c.release.ensures.booked.1)
