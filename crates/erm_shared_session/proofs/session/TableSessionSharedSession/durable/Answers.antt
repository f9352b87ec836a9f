use Rattle.std.proofs.Common.{◌≡◌, ℕ, ◌<◌, ◌≤◌, ◌↔◌, IsOk, IfErr, refl, sym, ◌∙◌, subst, arith}
use Rattle.erm_rule.specs.Books.{WasFlushed, book}
use Rattle.erm_machine.specs.declared.event.Kind.TheVariants.{LoadFlushed}
use Rattle.std.specs.Prelude.{[], ◌∷◌}
use Rattle.erm_rule.proofs.Wents.{took_goes}
use Rattle.erm_own_view.proofs.Along.{took_start}
use Rattle.erm_shared_session.proofs.Lifts.{passes_own}
use Rattle.erm_shared_session.proofs.Saved.{saves_here, saves_then}
use Rattle.erm_shared_session.proofs.Looks.{look_same, looked}
use Rattle.erm_shared_session.proofs.Results.{first_told}
use Rattle.erm_shared_session.proofs.Standing.{IsSeen, goes_onward, session_held, stands_again}
use Rattle.erm_shared_session.proofs.session.TableSessionSharedSession.durable.Goals as goal

pub durable-looked-requires : goal.durable-looked-requires
durable-looked-requires g c = record { fits = c.requires.stands.fits; stands = c.requires.stands.session }

pub returns : goal.returns
returns g c =
    let law = g.L.RowLaw.law in
    let s = c.args.self.now in
    let seat = s.session.seat in
    let end = c.args.receipt.now.end in
    let flushed = c.flushed_after-self.result in
    let t = record s { pass = c.durable-looked.new.p; flushed = flushed } in
    let b = book s.pass in
    let e = book c.durable-looked.new.p in
    let r = c.durable-looked.result in
    let held = session_held s.session b seat c.requires.stands.session in
    let done =
    looked law seat s.tail s.flushed end b e held (λ first second q k sound event. c.numbers_rise.ensures.event first second q k sound event)
    (λ z goes. c.own_views_go_on.ensures.seen seat s.tail s.flushed b z c.requires.stands.may goes) r c.durable-looked.ensures.took c.durable-looked.ensures.took_none c.durable-looked.ensures.unsynced
    in
    let steps = (LoadFlushed, done.found) ∷ [] in
    let goes = took_goes law seat steps b e done.took in
    let start = took_start law seat steps b e done.took in
    let is = c.flushed_after-self.ensures in
    let more : s.flushed ≤ flushed = subst (λ (n : ℕ). s.flushed ≤ n) (sym is) done.more in
    let seen : IsSeen s.tail flushed e = subst (λ (n : ℕ). IsSeen s.tail n e) (sym is) done.seen_now in
    let same =
    look_same law seat s.tail s.flushed end b e held (λ first second q k sound event. c.numbers_rise.ensures.event first second q k sound event)
    (λ z goes_on. c.own_views_go_on.ensures.seen seat s.tail s.flushed b z c.requires.stands.may goes_on) done.found done.took c.durable-looked.ensures.looked flushed more
    in
    record {
      stands =
          stands_again law (λ at tail flush then_tail then_flushed taken first last may steps_taken between seen_then.
          c.own_views_go_on.ensures.again at tail flush then_tail then_flushed taken first last may steps_taken between seen_then) c.args.shared.now s t steps c.requires.stands c.durable-looked.ensures.fits refl
          c.durable-looked.ensures.stands c.durable-looked.ensures.known done.took seen;
      onward =
          goes_onward law (λ at tail flush then_tail then_flushed first last f goes_on starts more_tail more_flushed is_later ends.
          c.own_views_go_on.ensures.onward at tail flush then_tail then_flushed first last f goes_on starts more_tail more_flushed is_later ends) s t refl goes start (omega arith) more same.1;
      same = passes_own s t (saves_then s t refl ∙ c.durable-looked.ensures.saves ∙ sym (saves_here s)) same.0;
      ok = subst (λ (n : ℕ). IsOk r ↔ (end ≤ n)) (sym is) done.ok;
      err = subst (λ (n : ℕ). IfErr r (λ stop. stop.flushed ≡ n)) (sym is) done.err;
      looked = first_told r (λ stop. WasFlushed b stop.flushed e) (λ stop. stop.flushed < end) c.durable-looked.ensures.unsynced;
    }
