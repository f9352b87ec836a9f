-- A commit that goes back stores its stamp in the own back word.
use Rattle.std.proofs.Common.{◌≡◌, ℕ, ◌<◌, Bool, true, false, Some, refl, sym, ap, ◌∙◌, subst, arith}
use Rattle.std.specs.Prelude.{if◌then◌else◌, IsSome}
use Rattle.std.proofs.lemmas.Bool.{eq-eqb, lt-ltb}
use Rattle.erm_machine.specs.declared.event.Kind.TheVariants as kind
use Rattle.erm_machine.specs.declared.part.Part.{Part}
use Rattle.erm_machine.specs.declared.place.Place.{Place}
use Rattle.erm_machine.specs.declared.place.Place.TheVariants.{Decided}
use Rattle.erm_machine.specs.Back.{GoesBack, goes_back}
use Rattle.erm_machine.specs.Life.{store_back}
use Rattle.erm_machine.specs.Seat.{is_commit, is_decided}
use Rattle.erm_machine.proofs.Backs.{goes_back_from, goes_back_is}
use Rattle.erm_model.specs.RowTransaction.{Law}
use Rattle.erm_rule.specs.declared.view.Book.{Book}
use Rattle.erm_rule.specs.declared.view.View.{View}
use Rattle.erm_rule.specs.Hands.{IsKnown}
use Rattle.erm_rule.specs.Steps.{Booked, Ready, Told}
use Rattle.erm_rule.specs.Views.{part_in, part_of, with_part}
use Rattle.erm_rule.proofs.Numbered.{known_after}
use Rattle.erm_rule.proofs.Parts.{with_part-same}
use Rattle.erm_rule.proofs.Telling.{held_part, is_held}
use Rattle.erm_cells.proofs.Views.{both, ready_at, told_is, when_true}
use Rattle.erm_ends.specs.Commits.{back_then, DidGoBack, MayGoBack, with_back}
use Rattle.erm_ends.specs.Took.{TookBack, TookBackWhere}
use Rattle.erm_ends.proofs.Going.{ending_taken}
use Rattle.erm_ends.proofs.Leaves.{decided_ends}

-- once it is stored it is the stamp of a commit that goes back
pub back_there : (x : Part) → GoesBack x.current → (with_back x).back ≡ x.current.stamp
back_there x g = ap (λ (b : Bool). if b then x.current.stamp else x.back) (goes_back_from x.current g)

module _ (v : View) (who stamp succ : ℕ) (may : MayGoBack stamp succ (part_of v who)) where
  abbrev x : Part
  x = part_of v who

  has : part_in v who ≡ Some x
  has = held_part v who (ending_taken x.place (decided_ends x.place may.decided))

  pub back_held : IsSome (part_in v who)
  back_held = is_held v who x has

  goes : succ < stamp → goes_back x.current ≡ true
  goes less =
      let s = may.stamp_is in
      let u = may.succ_is in
      both _ _ (ap is_commit may.committed) (lt-ltb x.current.succ x.current.stamp (omega (arith, s, u, less)))

  stays : (succ < stamp → ⊥) → goes_back x.current ≡ false
  stays none = by (goes_back x.current) refl
    where
      by : (b : Bool) → goes_back x.current ≡ b → goes_back x.current ≡ false
      by true e =
          let s = may.stamp_is in
          let u = may.succ_is in
          let less = (goes_back_is x.current e).less in
          absurd (none (omega (arith, s, u, less)))
      by false e = e

  stored : succ < stamp → stamp ≡ back_then x.current x.back
  stored less = sym (ap (λ (b : Bool). if b then x.current.stamp else x.back) (goes less) ∙ may.stamp_is)

  store_at : (pl : Place) → is_decided pl ≡ true → succ < stamp → store_back stamp x pl ≡ Some (record x { back = stamp })
  store_at (Decided tail drawn) e less = when_true _ (record x { back = stamp }) (both _ _ (goes less) (eq-eqb stamp x.current.stamp (sym may.stamp_is)))
  store_at _ e less = absurd (cc)

  pub back_ready : succ < stamp → Ready v who (kind.StoreBack stamp)
  back_ready less = ready_at v who (kind.StoreBack stamp) x has (λ _. record x { back = stamp }) (λ c sound. store_at x.place may.decided less)

  pub did_store : succ < stamp → (found : ℕ) (w : View) → Told v who (kind.StoreBack stamp) found w → DidGoBack v who w
  did_store less found w told = record {
    view_is =
        told_is v who (kind.StoreBack stamp) found w x (record x { back = stamp }) has told (store_at x.place may.decided less)
        ∙ ap (λ (n : ℕ). with_part who (record x { back = n }) v) (stored less);
    known = known_after v who (kind.StoreBack stamp) found w told;
  }

  pub did_nothing : IsKnown v → (succ < stamp → ⊥) → DidGoBack v who v
  did_nothing known none = record {
    view_is =
        sym
        (ap (λ (b : Bool). with_part who (record x { back = if b then x.current.stamp else x.back }) v) (stays none)
        ∙ with_part-same who x v known.in_order has);
    known = known;
  }

  -- the steps
  pub took_store : succ < stamp → (law : Law) (b : Book) (found : ℕ) (e : Book) → Booked law b who (kind.StoreBack stamp) found e → TookBack law who x.current b e
  took_store less law b found e booked =
      subst (λ (g : Bool). TookBackWhere law who x.current.stamp g b e) (sym (goes less))
      (found, subst (λ (n : ℕ). Booked law b who (kind.StoreBack n) found e) (sym may.stamp_is) booked)

  pub took_nothing : (succ < stamp → ⊥) → (law : Law) (b : Book) → TookBack law who x.current b b
  took_nothing none law b = subst (λ (g : Bool). TookBackWhere law who x.current.stamp g b b) (sym (stays none)) refl
