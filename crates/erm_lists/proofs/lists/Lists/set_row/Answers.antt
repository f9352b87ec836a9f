use Rattle.std.proofs.Common.{List, ◌≡◌, length, get_or, ap, ◌∙◌, sym, subst, refl, arith}
use Rattle.erm_machine.specs.declared.event.Kind.TheVariants as kind
use Rattle.erm_machine.specs.declared.version.CellWord.TheVariants as word
use Rattle.erm_machine.specs.Core.{Core}
use Rattle.erm_core.specs.Cores.{core_of}
use Rattle.erm_core_view.specs.Steps.{MayWrite}
use Rattle.erm_core_view.specs.Views.{IsQuiet, view_of}
use Rattle.erm_core_view.proofs.Rows.{writes_rest}
use Rattle.erm_model.specs.declared.TheConstants.{ROW_WORDS}
use Rattle.erm_world.specs.Calls.{Works}
use Rattle.erm_world.specs.World.{work_at}
use Rattle.erm_model.specs.declared.history.VersionWritten.{VersionWritten}
use Rattle.erm_world.specs.Works.{is_claimed, setting}
use Rattle.erm_lists.specs.Stands.{lists_view}
use Rattle.erm_core_steps.proofs.Exchanges.{claims_shown}
use Rattle.erm_core_steps.proofs.Quiet.{active_seat}
use Rattle.erm_core_steps.proofs.Stored.{may_write, quiet_stored, store_next, store_run, store_taken, store_window, stored_all, stored_shows, storing_first}
use Rattle.erm_core_steps.proofs.Unseen.{others_stay}
use Rattle.erm_lists.proofs.lists.Lists.set_row.Goals as goal

pub place_claimed-claim-requires : goal.place_claimed-claim-requires
place_claimed-claim-requires g c =
    let now = core_of c.args.self.now.state in
    let at = active_seat c.args.self.now.sessions c.args.seat now c.requires.stands.quiet c.requires.session c.requires.active in
    let shown = claims_shown c.args.self.now.sessions c.args.seat now (lists_view c.args.self.now) at refl in
    record { session = at.session; claimed = ap (λ (cs : List VersionWritten). is_claimed cs c.args.oid) (sym shown) ∙ c.requires.claimed }

pub loop-k-init : goal.loop-k-init
loop-k-init g c =
    let before = core_of c.args.self.now.state in
    let at = active_seat c.args.self.now.sessions c.args.seat before c.requires.stands.quiet c.requires.session c.requires.active in
    let may = may_write c.args.seat c.args.oid c.place_claimed-claim.result before c.requires.stands.sound.sound at c.place_claimed-claim.ensures in
    let here = subst (λ n. MayWrite (before.seats c.args.seat) c.place_claimed-claim.result n) (sym c.own_cell-cell.ensures) may in
    record {
      sound = c.requires.stands.sound;
      sessions = refl;
      others = λ q other. refl;
      storing = storing_first c.args.seat c.place_claimed-claim.result c.own_cell-cell.result before at here;
      window = refl;
      runs = refl;
    }

pub go-requires-clause-taken : goal.go-requires-clause-taken
go-requires-clause-taken g c =
    store_taken c.args.seat c.place_claimed-claim.result c.own_cell-cell.result c.loop-k.k _ (core_of c.loop-k.self.state) c.loop-k.invariant.storing c.loop-k-test.true

pub loop-k-preserved : goal.loop-k-preserved
loop-k-preserved g c =
    let now = core_of c.loop-k.self.state in
    let after = core_of c.go.new.self.state in
    let inv = c.loop-k.invariant in
    let k = c.loop-k.k in
    let place = c.place_claimed-claim.result in
    let cell = c.own_cell-cell.result in
    let row = c.args.words.now in
    let value = get_or row k 0 in
    record {
      sound = c.go.ensures.sound;
      sessions = c.go.ensures.sessions ∙ inv.sessions;
      others = λ q other. others_stay now after c.args.seat (kind.StoreCell place cell (word.Row k) value) tt c.go.ensures.after q other ∙ inv.others q other;
      storing = store_next c.args.seat place cell k value now inv.storing c.loop-k-test.true after c.go.ensures.after;
      window = store_window c.args.seat place cell k value now inv.storing c.loop-k-test.true after c.go.ensures.after ∙ inv.window;
      runs = inv.runs ∙ store_run c.args.seat place cell k value now inv.storing c.loop-k-test.true after row c.go.ensures.after (let words : length row ≡ ROW_WORDS = c.requires.all in let low = c.loop-k-test.true in omega (arith, words, low)) refl;
    }

pub returns-clause-stands : goal.returns-clause-stands
returns-clause-stands g c =
    let before = core_of c.args.self.now.state in
    let place = c.place_claimed-claim.result in
    let cell = c.own_cell-cell.result in
    let row = c.args.words.now in
    let at = active_seat c.args.self.now.sessions c.args.seat before c.requires.stands.quiet c.requires.session c.requires.active in
    let may = may_write c.args.seat c.args.oid place before c.requires.stands.sound.sound at c.place_claimed-claim.ensures in
    let here = subst (λ n. MayWrite (before.seats c.args.seat) place n) (sym c.own_cell-cell.ensures) may in
    let inv = c.loop-k.invariant in
    let after = core_of c.loop-k.self.state in
    let words : length row ≡ ROW_WORDS = c.requires.all in
    let last = c.loop-k-test.false in
    let is = stored_all c.args.seat place cell c.loop-k.k row before after inv.runs (omega (arith, words, last)) in
    record {
      sound = inv.sound;
      quiet =
          subst (λ n. IsQuiet n after) (sym inv.sessions)
          (quiet_stored c.args.self.now.sessions c.args.seat place cell row before after c.requires.stands.sound.sound inv.sound.sound c.requires.stands.quiet c.requires.session here words
          inv.others is);
    }

pub returns-clause-set : goal.returns-clause-set
returns-clause-set g c =
    let before = core_of c.args.self.now.state in
    let place = c.place_claimed-claim.result in
    let cell = c.own_cell-cell.result in
    let row = c.args.words.now in
    let at = active_seat c.args.self.now.sessions c.args.seat before c.requires.stands.quiet c.requires.session c.requires.active in
    let may = may_write c.args.seat c.args.oid place before c.requires.stands.sound.sound at c.place_claimed-claim.ensures in
    let here = subst (λ n. MayWrite (before.seats c.args.seat) place n) (sym c.own_cell-cell.ensures) may in
    let inv = c.loop-k.invariant in
    let after = core_of c.loop-k.self.state in
    let words : length row ≡ ROW_WORDS = c.requires.all in
    let last = c.loop-k-test.false in
    let is = stored_all c.args.seat place cell c.loop-k.k row before after inv.runs (omega (arith, words, last)) in
    subst (λ n. Works (lists_view c.args.self.now) c.args.seat (setting c.args.oid row (work_at (lists_view c.args.self.now) c.args.seat)) (view_of n after)) (sym inv.sessions)
    (stored_shows c.args.self.now.sessions c.args.seat c.args.oid place cell row before after c.requires.stands.sound.sound here words c.place_claimed-claim.ensures is)

pub own_cell-cell-requires : goal.own_cell-cell-requires
own_cell-cell-requires g c =
    let at = active_seat c.args.self.now.sessions c.args.seat (core_of c.args.self.now.state) c.requires.stands.quiet c.requires.session c.requires.active in
    record { session = at.session }

pub returns-clause-rests : goal.returns-clause-rests
returns-clause-rests g c =
    let before = core_of c.args.self.now.state in
    let place = c.place_claimed-claim.result in
    let cell = c.own_cell-cell.result in
    let row = c.args.words.now in
    let at = active_seat c.args.self.now.sessions c.args.seat before c.requires.stands.quiet c.requires.session c.requires.active in
    let may = may_write c.args.seat c.args.oid place before c.requires.stands.sound.sound at c.place_claimed-claim.ensures in
    let here = subst (λ n. MayWrite (before.seats c.args.seat) place n) (sym c.own_cell-cell.ensures) may in
    let inv = c.loop-k.invariant in
    let after = core_of c.loop-k.self.state in
    let words : length row ≡ ROW_WORDS = c.requires.all in
    let last = c.loop-k-test.false in
    let is = stored_all c.args.seat place cell c.loop-k.k row before after inv.runs (omega (arith, words, last)) in
    ap (λ (to : Core). (to.seats c.args.seat).task) (sym is) ∙ (writes_rest c.args.seat place cell row before here words).rests
