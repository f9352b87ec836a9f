use Rattle.std.proofs.Common.{◌≡◌, ℕ, ◌-◌, List, Some, sym, subst, arith, slice_get}
use Rattle.erm_explain.specs.declared.links.Touch.{Touch}
use Rattle.erm_explain.specs.declared.told.Told.{Told}
use Rattle.erm_explain.specs.Links.{Apart, IsSought, Links, touch_of}
use Rattle.erm_explain.proofs.Found.{at_read, from_here, read_at}
use Rattle.erm_explain.proofs.links.find_over.Goals as goal

pub loop-place-preserved-then-not-is_sought : goal.loop-place-preserved-then-not-is_sought
loop-place-preserved-then-not-is_sought c =
    let over = c.args.over.now in
    record {
      none = λ k t low at sought.
          from_here (λ (j : ℕ). (u : Told) → slice_get over j ≡ Some u → IsSought c.args.sought u → Apart c.args.script.now (touch_of c.args.sought) u.lines.items c.args.owns.now)
          c.loop-place.place c.loop-place-test.true
          (λ u there is.
          let same : c.index-over-place.result ≡ u = at_read over (c.loop-place.place - 1) c.index-over-place.result u c.index-over-place.is there in
          let e = c.is_sought.ensures.1 (subst (λ (w : Told). IsSought c.args.sought w) (sym same) is) in
          let f = c.if-not-is_sought.true in
          absurd (cc))
          (λ j high u there is. c.loop-place.invariant.none j u high there is)
          k low t at sought;
      within = omega (arith, c.loop-place.invariant.within);
    }

pub returns-in-Some-clause-found : goal.returns-in-Some-clause-found
returns-in-Some-clause-found c =
    let over = c.args.over.now in
    let links = c.in-Some.ensures.found in
    record {
      by = c.index-over-place.result;
      of = (c.loop-place.place - 1, read_at over (c.loop-place.place - 1) c.index-over-place.result (omega (arith, c.loop-place-test.true, c.loop-place.invariant.within)) c.index-over-place.is);
      is = c.is_sought.ensures.0 c.if-not-is_sought.false;
      links = subst (λ (w : Touch). Links c.args.script.now w c.index-over-place.result.lines.items c.args.owns.now c.in-Some.link) c.touch_of-touch.ensures
          (subst (λ (ls : List ℕ). Links c.args.script.now c.touch_of-touch.result ls c.args.owns.now c.in-Some.link) c.deref.ensures.value links);
    }

pub loop-place-preserved : goal.loop-place-preserved
loop-place-preserved c =
    let over = c.args.over.now in
    let none = c.in_default.ensures.none in
    record {
      none = λ k t low at sought.
          from_here (λ (j : ℕ). (u : Told) → slice_get over j ≡ Some u → IsSought c.args.sought u → Apart c.args.script.now (touch_of c.args.sought) u.lines.items c.args.owns.now)
          c.loop-place.place c.loop-place-test.true
          (λ u there is link links.
          let same : c.index-over-place.result ≡ u = at_read over (c.loop-place.place - 1) c.index-over-place.result u c.index-over-place.is there in
          none link
          (subst (λ (ls : List ℕ). Links c.args.script.now c.touch_of-touch.result ls c.args.owns.now link) (sym c.deref.ensures.value)
          (subst (λ (w : Touch). Links c.args.script.now w c.index-over-place.result.lines.items c.args.owns.now link) (sym c.touch_of-touch.ensures)
          (subst (λ (w : Told). Links c.args.script.now (touch_of c.args.sought) w.lines.items c.args.owns.now link) (sym same) links))))
          (λ j high u there is. c.loop-place.invariant.none j u high there is)
          k low t at sought;
      within = omega (arith, c.loop-place.invariant.within);
    }
