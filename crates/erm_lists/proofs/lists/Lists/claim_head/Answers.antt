use Rattle.std.proofs.Common.{◌≡◌, ap, ◌∙◌, sym, subst, arith}
use Rattle.erm_machine.specs.Core.{version_at}
use Rattle.erm_core.specs.Cores.{core_of}
use Rattle.erm_core.specs.declared.need.Need.TheVariants as need
use Rattle.erm_core_view.specs.Views.{IsQuiet, view_of}
use Rattle.erm_core_view.proofs.Shown.{work_active}
use Rattle.erm_core_view.proofs.Snapshots.{starts_new}
use Rattle.erm_world.specs.Calls.{IsDone, MayClaim}
use Rattle.erm_world.specs.World.{View, Work, work_at}
use Rattle.erm_world.specs.World as world
use Rattle.erm_lists.specs.Stands.{lists_view}
use Rattle.erm_core_steps.specs.Steps.{found_in}
use Rattle.erm_core_steps.proofs.Early.{quiet_goes}
use Rattle.erm_core_steps.proofs.Exchanges.{head_free, head_newer, head_starts, head_taken, head_unowned}
use Rattle.erm_core_steps.proofs.Quiet.{active_seat, at_work}
use Rattle.erm_core_steps.proofs.Ways.{begin_stays}
use Rattle.erm_lists.proofs.lists.Lists.claim_head.Goals as goal

pub version-version-requires : goal.version-version-requires
version-version-requires g c =
    let at = active_seat c.args.self.now.sessions c.args.seat (core_of c.args.self.now.state) c.requires.stands.quiet c.requires.session c.requires.active in
    record { session = at.session }

pub load-requires-clause-at : goal.load-requires-clause-at
load-requires-clause-at g c =
    let at = active_seat c.args.self.now.sessions c.args.seat (core_of c.args.self.now.state) c.requires.stands.quiet c.requires.session c.requires.active in
    at_work at

pub load-requires-clause-taken : goal.load-requires-clause-taken
load-requires-clause-taken g c =
    let before = core_of c.args.self.now.state in
    let at = active_seat c.args.self.now.sessions c.args.seat before c.requires.stands.quiet c.requires.session c.requires.active in
    head_taken before c.args.seat c.args.oid c.args.entry c.version-version.result c.requires.stands.sound.sound (at_work at) c.requires.head
    c.version-version.ensures

pub abort-requires-clause-stands : goal.abort-requires-clause-stands
abort-requires-clause-stands g c =
    let sessions = c.args.self.now.sessions in
    let before = core_of c.args.self.now.state in
    let after = core_of c.load.new.self.state in
    let at = active_seat sessions c.args.seat before c.requires.stands.quiet c.requires.session c.requires.active in
    let starts =
    head_starts before after c.args.seat c.args.oid c.args.entry c.version-version.result (at_work at) c.requires.head c.version-version.ensures
    c.load.ensures.after
    in
    record {
      sound = c.load.ensures.sound;
      quiet =
          subst (λ n. IsQuiet n after) (sym c.load.ensures.sessions)
          (quiet_goes sessions c.args.seat before after c.requires.stands.quiet c.requires.session c.load.ensures.sound.sound c.load.ensures.goes starts);
    }

pub returns-then-begin_stamp-stamp-clause-err : goal.returns-then-begin_stamp-stamp-clause-err
returns-then-begin_stamp-stamp-clause-err g c =
    let sessions = c.args.self.now.sessions in
    let seat = c.args.seat in
    let before = core_of c.args.self.now.state in
    let after = core_of c.load.new.self.state in
    let at = active_seat sessions seat before c.requires.stands.quiet c.requires.session c.requires.active in
    let v = c.version-version.result in
    let word_is : c.found-stamp.result ≡ (version_at (before.shared.objects v.oid) v.place).words.stamp = c.found-stamp.ensures ∙ ap found_in c.load.ensures.answer in
    let begins : c.begin_stamp.result ≡ (work_at (lists_view c.args.self.now) seat).begin =
    c.begin_stamp.ensures ∙ begin_stays sessions seat before after c.load.ensures.goes
    in
    let above = c.if-begin_stamp-stamp.true in
    let shown : lists_view c.load.new.self ≡ lists_view c.args.self.now = ap (λ n. view_of n after) c.load.ensures.sessions ∙ c.load.ensures.goes.unseen.view in (
      c.requires.may,
      subst (λ v. IsDone v seat (work_at v seat) world.aborts (lists_view c.abort.new.self)) shown c.abort.ensures.aborted,
      head_unowned sessions seat c.args.oid c.args.entry before c.requires.stands.sound.sound c.requires.stands.quiet c.requires.head,
      head_newer sessions seat c.args.oid c.args.entry c.found-stamp.result before v c.requires.stands.sound.sound c.requires.stands.quiet at c.requires.head c.version-version.ensures word_is
          (omega (arith, begins, above)),
    )

pub claim_found-requires-clause-stands : goal.claim_found-requires-clause-stands
claim_found-requires-clause-stands g c =
    let sessions = c.args.self.now.sessions in
    let before = core_of c.args.self.now.state in
    let after = core_of c.load.new.self.state in
    let at = active_seat sessions c.args.seat before c.requires.stands.quiet c.requires.session c.requires.active in
    let starts =
    head_starts before after c.args.seat c.args.oid c.args.entry c.version-version.result (at_work at) c.requires.head c.version-version.ensures
    c.load.ensures.after
    in
    record {
      sound = c.load.ensures.sound;
      quiet =
          subst (λ n. IsQuiet n after) (sym c.load.ensures.sessions)
          (quiet_goes sessions c.args.seat before after c.requires.stands.quiet c.requires.session c.load.ensures.sound.sound c.load.ensures.goes starts);
    }

pub claim_found-requires-clause-free : goal.claim_found-requires-clause-free
claim_found-requires-clause-free g c =
    let sessions = c.args.self.now.sessions in
    let seat = c.args.seat in
    let before = core_of c.args.self.now.state in
    let after = core_of c.load.new.self.state in
    let at = active_seat sessions seat before c.requires.stands.quiet c.requires.session c.requires.active in
    let v = c.version-version.result in
    let word_is : c.found-stamp.result ≡ (version_at (before.shared.objects v.oid) v.place).words.stamp = c.found-stamp.ensures ∙ ap found_in c.load.ensures.answer in
    let begins : c.begin_stamp.result ≡ (before.seats seat).current.begin =
    c.begin_stamp.ensures ∙ begin_stays sessions seat before after c.load.ensures.goes ∙ ap (λ (w : Work). w.begin) (work_active (before.seats seat).place (before.seats seat).task (before.seats seat).current at.active (starts_new (before.seats seat).task (before.seats seat).current at.starts))
    in
    let below = c.if-begin_stamp-stamp.false in
    head_free before after seat c.args.oid c.args.entry c.found-stamp.result v (at_work at) c.requires.head c.version-version.ensures word_is
    (omega (arith, begins, below)) c.load.ensures.after

pub claim_found-requires-clause-may : goal.claim_found-requires-clause-may
claim_found-requires-clause-may g c =
    let shown : lists_view c.load.new.self ≡ lists_view c.args.self.now =
    ap (λ n. view_of n (core_of c.load.new.self.state)) c.load.ensures.sessions ∙ c.load.ensures.goes.unseen.view
    in
    subst (λ v. MayClaim (work_at v c.args.seat) c.args.oid) (sym shown) c.requires.may

pub claim_found-requires-clause-room : goal.claim_found-requires-clause-room
claim_found-requires-clause-room g c = c.load.ensures.room (need.Claim c.args.oid) c.requires.room
