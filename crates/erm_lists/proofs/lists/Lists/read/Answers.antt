use Rattle.std.proofs.Common.{◌≡◌, true, false, [], refl, ap, ◌∙◌, sym}
use Rattle.erm_core.specs.Cores.{core_of}
use Rattle.erm_core_view.proofs.Shown.{work_active}
use Rattle.erm_core_view.proofs.Snapshots.{starts_new}
use Rattle.erm_world.specs.World.{Work}
use Rattle.erm_world.specs.Calls.{again, own}
use Rattle.erm_world.specs.Works.{is_claimed, own_row, row_read}
use Rattle.erm_core_steps.proofs.Quiet.{active_seat}
use Rattle.erm_core_steps.proofs.Results.{ok_to}
use Rattle.erm_lists.proofs.lists.Lists.read.Goals as goal

pub own_row-requires : goal.own_row-requires
own_row-requires g c =
    let at = active_seat c.args.self.now.sessions c.args.seat (core_of c.args.self.now.state) c.requires.stands.quiet c.requires.session c.requires.active in
    record { session = at.session }

pub row_read-requires : goal.row_read-requires
row_read-requires g c =
    let at = active_seat c.args.self.now.sessions c.args.seat (core_of c.args.self.now.state) c.requires.stands.quiet c.requires.session c.requires.active in
    record { session = at.session }

pub returns-in-Some-clause-open_still : goal.returns-in-Some-clause-open_still
returns-in-Some-clause-open_still g c = λ new.
    let now = core_of c.args.self.now.state in
    let at = active_seat c.args.self.now.sessions c.args.seat now c.requires.stands.quiet c.requires.session c.requires.active in
    let x = now.seats c.args.seat in
    let shown = ap (λ (w : Work). is_claimed w.claims c.args.oid) (work_active x.place x.task x.current at.active (starts_new x.task x.current at.starts)) in
    let both : true ≡ false = sym c.in-Some.ensures.claimed ∙ sym shown ∙ new.unclaimed in
    absurd (cc)

pub returns-in-Some-row_read-clause-open_still : goal.returns-in-Some-row_read-clause-open_still
returns-in-Some-row_read-clause-open_still g c = λ new.
    let now = core_of c.args.self.now.state in
    let at = active_seat c.args.self.now.sessions c.args.seat now c.requires.stands.quiet c.requires.session c.requires.active in
    let x = now.seats c.args.seat in
    let shown = ap (λ (w : Work). row_read w.reads c.args.oid) (work_active x.place x.task x.current at.active (starts_new x.task x.current at.starts)) in
    let none = sym c.row_read.ensures ∙ c.in-Some-row_read.is in
    let both = sym new.unread ∙ shown ∙ none in
    absurd (cc)

pub returns-in-Some-clause-ok : goal.returns-in-Some-clause-ok
returns-in-Some-clause-ok g c =
    let now = core_of c.args.self.now.state in
    let at = active_seat c.args.self.now.sessions c.args.seat now c.requires.stands.quiet c.requires.session c.requires.active in
    let x = now.seats c.args.seat in
    let work = work_active x.place x.task x.current at.active (starts_new x.task x.current at.starts) in
    own refl (ap (λ (w : Work). is_claimed w.claims c.args.oid) work ∙ c.in-Some.ensures.claimed)
    (sym (ap (λ (w : Work). own_row w.claims c.args.oid []) work ∙ c.in-Some.ensures.is))

pub returns-in-Some-row_read-clause-ok : goal.returns-in-Some-row_read-clause-ok
returns-in-Some-row_read-clause-ok g c =
    let now = core_of c.args.self.now.state in
    let at = active_seat c.args.self.now.sessions c.args.seat now c.requires.stands.quiet c.requires.session c.requires.active in
    let x = now.seats c.args.seat in
    let work = work_active x.place x.task x.current at.active (starts_new x.task x.current at.starts) in
    again refl (ap (λ (w : Work). is_claimed w.claims c.args.oid) work ∙ c.in_default.ensures)
    (ap (λ (w : Work). row_read w.reads c.args.oid) work ∙ sym c.row_read.ensures ∙ c.in-Some-row_read.is)

pub read_first-requires-clause-new : goal.read_first-requires-clause-new
read_first-requires-clause-new g c =
    let now = core_of c.args.self.now.state in
    let at = active_seat c.args.self.now.sessions c.args.seat now c.requires.stands.quiet c.requires.session c.requires.active in
    let x = now.seats c.args.seat in
    let work = work_active x.place x.task x.current at.active (starts_new x.task x.current at.starts) in
    record {
      unclaimed = ap (λ (w : Work). is_claimed w.claims c.args.oid) work ∙ c.in_default.ensures;
      unread = ap (λ (w : Work). row_read w.reads c.args.oid) work ∙ sym c.row_read.ensures ∙ c.in_default-row_read.is;
    }

pub returns-clause-open_still : goal.returns-clause-open_still
returns-clause-open_still g c = ok_to c.read_first.result _ _ (λ row holds new. holds) c.read_first.ensures.open_still
