use Rattle.std.proofs.Common.{◌≡◌, ℕ, ◌+◌, ◌≤◌, ap, sym, subst, ◌∙◌, arith}
use Rattle.std.specs.Prelude.{List, [], ◌∷◌}
use Rattle.erm_beside.specs.Calls.{After}
use Rattle.erm_beside.specs.Later.{IsLater}
use Rattle.erm_machine.specs.declared.event.Kind.{Kind}
use Rattle.erm_machine.specs.declared.event.Kind.TheVariants.{AddTail, StoreState}
use Rattle.erm_machine.specs.declared.part.Part.{Part}
use Rattle.erm_own_view.specs.Own.{own_view}
use Rattle.erm_own_view.proofs.Along.{took_start}
use Rattle.erm_rule.specs.Books.{book}
use Rattle.erm_rule.specs.Views.{part_of, view}
use Rattle.erm_rule.proofs.Telling.{part_of-changed}
use Rattle.erm_rule.proofs.Wents.{took_goes}
use Rattle.erm_seats.specs.Calls.{sealed_part}
use Rattle.erm_world.specs.Calls.{DidSeal}
use Rattle.erm_world.specs.World.{View}
use Rattle.erm_shared_session.proofs.Lifts.{did_seal}
use Rattle.erm_shared_session.proofs.Saved.{keeps_own}
use Rattle.erm_session.proofs.Saved.{stays_past}
use Rattle.erm_model.specs.declared.outcome.Phase.TheVariants.{Sealed}
use Rattle.erm_shared_session.proofs.Sealing.{block_of, drawn, own_lawful, seals}
use Rattle.erm_shared_session.proofs.Standing.{IsSeen, Rise, goes_onward, own_active, own_at, own_phase, session_held, stands_again}
use Rattle.erm_shared_session.proofs.session.TableSessionSharedSession.seal.Goals as goal

pub seal-stamp-requires : goal.seal-stamp-requires
seal-stamp-requires g c =
    let s = c.args.self.now in
    record {
      fits = c.requires.stands.fits;
      known = c.requires.stands.may.known;
      stands = c.requires.stands.session;
      active = own_phase s c.requires.stands.session ∙ c.requires.active;
      lawful = own_lawful g.L.RowLaw.law s.session.seat s.tail s.flushed (book s.pass) c.requires.stands.may c.requires.active c.requires.lawful;
    }

pub overflow_add-self : goal.overflow_add-self
overflow_add-self g c =
    let s = c.args.self.now in
    let seat = s.session.seat in
    let b = book s.pass in
    let e = book c.seal-stamp.new.p in
    let stamp = c.seal-stamp.result in
    let size = block_of b seat in
    let held = session_held s.session b seat c.requires.stands.session in
    let did = c.seal-stamp.ensures.sealed.sealed in
    let here : part_of e.view seat ≡ sealed_part size stamp (part_of b.view seat) =
    part_of-changed b.view seat e.view (sealed_part size stamp (part_of b.view seat)) (part_of b.view seat) held did.view_is
    in
    let is : c.size.result ≡ size = c.size.ensures (part_of (view c.seal-stamp.new.p) seat) c.seal-stamp.ensures.stands ∙ ap (λ (x : Part). x.current.size) here in
    let within = drawn seat size stamp b e held did in
    let few = within.few in
    let low = within.low in
    omega (arith, is, few, low)

pub returns : goal.returns
returns g c =
    let law = g.L.RowLaw.law in
    let s = c.args.self.now in
    let seat = s.session.seat in
    let stamp = c.seal-stamp.result in
    let tail = stamp + c.size.result in
    let t = record s { session = c.seal-stamp.new.self; pass = c.seal-stamp.new.p; tail = tail } in
    let b = book s.pass in
    let e = book c.seal-stamp.new.p in
    let same = c.seal-stamp.ensures.seat in
    let size = block_of b seat in
    let held = session_held s.session b seat c.requires.stands.session in
    let did = c.seal-stamp.ensures.sealed.sealed in
    let here : part_of e.view seat ≡ sealed_part size stamp (part_of b.view seat) =
    part_of-changed b.view seat e.view (sealed_part size stamp (part_of b.view seat)) (part_of b.view seat) held did.view_is
    in
    let is : c.size.result ≡ size = c.size.ensures (part_of (view c.seal-stamp.new.p) seat) c.seal-stamp.ensures.stands ∙ ap (λ (x : Part). x.current.size) here in
    let there : stamp + size ≡ tail = ap (λ (n : ℕ). stamp + n) (sym is) in
    let took = c.seal-stamp.ensures.took in
    let steps : List (Kind × ℕ) = (StoreState stamp, took.last) ∷ (AddTail size, stamp) ∷ (StoreState 1, took.first) ∷ [] in
    let goes = took_goes law seat steps b e took.took in
    let start = took_start law seat steps b e took.took in
    let rises : Rise = λ first second q k sound event. c.numbers_rise.ensures.event first second q k sound event in
    let done =
    seals law seat s.tail s.flushed stamp b e c.requires.stands.may start held rises (λ z goes_on. c.own_views_go_on.ensures.seen seat s.tail s.flushed b z c.requires.stands.may goes_on) took
    c.requires.active (own_active s c.requires.active) did
    in
    let own = own_view seat s.tail s.flushed b in
    let more : s.tail ≤ tail = subst (λ (n : ℕ). s.tail ≤ n) there done.more in
    let seen : IsSeen tail s.flushed e = subst (λ (n : ℕ). IsSeen n s.flushed e) there done.seen_now in
    let later : IsLater (own.session seat) ((own_view seat tail s.flushed e).session seat) = subst (λ (n : ℕ). IsLater (own.session seat) ((own_view seat n s.flushed e).session seat)) there done.later in
    let keeps = keeps_own s t same c.requires.stands.session c.seal-stamp.ensures.stands (stays_past s.session t.session _ _ Sealed c.seal-stamp.ensures.phase (λ e. absurd (cc))) in
    record {
      stands =
          stands_again law (λ at tails flush then_tail then_flushed list first last may steps_taken between seen_then.
          c.own_views_go_on.ensures.again at tails flush then_tail then_flushed list first last may steps_taken between seen_then) c.args.shared.now s t steps c.requires.stands c.seal-stamp.ensures.fits same
          c.seal-stamp.ensures.stands did.known took.took seen;
      onward =
          goes_onward law (λ at tails flush then_tail then_flushed first last f goes_on starts more_tail more_flushed is_later ends.
          c.own_views_go_on.ensures.onward at tails flush then_tail then_flushed first last f goes_on starts more_tail more_flushed is_later ends) s t same goes start more (omega arith) later;
      sealed =
          did_seal s t keeps stamp (subst (λ (v : View). After seat (λ u z. DidSeal u seat stamp z) own v) (sym (own_at s t same))
          (subst (λ (n : ℕ). After seat (λ u z. DidSeal u seat stamp z) own (own_view seat n s.flushed e)) there done.did));
    }
