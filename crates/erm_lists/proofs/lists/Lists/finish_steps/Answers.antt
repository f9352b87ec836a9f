use Rattle.std.proofs.Common.{◌∙◌, refl}
use Rattle.erm_core.specs.Cores.{core_of}
use Rattle.erm_core_steps.proofs.Finishing.{finish_goes, finish_unseen}
use Rattle.erm_lists.proofs.Room.{finish_begins, finish_lasts, finish_serves}
use Rattle.erm_core_steps.proofs.Taken.{keeps_free}
use Rattle.erm_core_steps.proofs.Ways.{goes_both, goes_none}
use Rattle.erm_lists.proofs.lists.Lists.finish_steps.Goals as goal

pub loop-kind-init : goal.loop-kind-init
loop-kind-init g c =
    let begins = finish_begins c.args.self.now.state c.args.seat c.requires.may in
    record {
      sound = c.requires.sound;
      sessions = refl;
      goes = goes_none c.args.self.now.sessions c.args.seat (core_of c.args.self.now.state) c.requires.at;
      room = begins.0;
      finishes = begins.1;
    }

pub take-requires : goal.take-requires
take-requires g c =
    let inv = c.loop-kind.invariant in
    let state = c.loop-kind.self.state in
    let now = core_of state in
    let goes = finish_goes c.args.seat now c.in-Some.kind inv.sound.sound inv.goes.at c.in-Some.ensures in
    record {
      sound = inv.sound;
      room = finish_serves state c.args.seat (now.seats c.args.seat).task c.in-Some.kind (c.rooms_serve.ensures.none state)
          (λ v room. c.rooms_serve.ensures.swap state c.args.seat v.oid v refl room) goes.needs inv.room;
      keeps = keeps_free g.L.RowLaw.law now c.args.seat c.in-Some.kind goes.still.free;
      taken = goes.taken;
    }

pub loop-kind-smaller : goal.loop-kind-smaller
loop-kind-smaller g c =
    let inv = c.loop-kind.invariant in
    let now = core_of c.loop-kind.self.state in
    ((finish_goes c.args.seat now c.in-Some.kind inv.sound.sound inv.goes.at c.in-Some.ensures).near (core_of c.take.new.self.state) c.take.ensures.after).falls

pub loop-kind-preserved : goal.loop-kind-preserved
loop-kind-preserved g c =
    let inv = c.loop-kind.invariant in
    let old = c.loop-kind.self.state in
    let new = c.take.new.self.state in
    let now = core_of old in
    let after = core_of new in
    let seat = c.args.seat in
    let kind = c.in-Some.kind in
    let goes = finish_goes seat now kind inv.sound.sound inv.goes.at c.in-Some.ensures in
    let near = goes.near after c.take.ensures.after in
    record {
      sound = c.take.ensures.sound;
      sessions = c.take.ensures.sessions ∙ inv.sessions;
      goes =
          goes_both c.args.self.now.sessions seat (core_of c.args.self.now.state) now after inv.goes
          (finish_unseen c.args.self.now.sessions seat now after kind inv.sound.sound inv.goes.at goes c.take.ensures.after);
      room = finish_lasts old new seat (now.seats seat).task (after.seats seat).task kind
          (λ oid adds chain room. c.rooms_last.ensures.swap_own old new seat oid kind c.take.ensures.left adds chain room) near (goes.lasts after c.take.ensures.after) inv.room;
      finishes = near.finishing;
    }
