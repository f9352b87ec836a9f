-- A look at the place flushed, which the world doesn't show; and a transaction that is aborted.
use Rattle.std.proofs.Common.{◌≡◌, ℕ, ◌<◌, ◌≤◌, ◌↔◌, [], ◌∷◌, Result, Ok, Err, IsOk, OnOk, IfErr, refl, sym, subst, arith}
use Rattle.erm_model.specs.RowTransaction.{Law}
use Rattle.erm_machine.specs.declared.event.Kind.TheVariants as kind
use Rattle.erm_core_view.specs.Views.{view_of}
use Rattle.erm_core_view.proofs.Moved.{calm_shows}
use Rattle.erm_core_steps.proofs.Unseen.{unseen_step}
use Rattle.erm_rule.specs.declared.view.Book.{Book}
use Rattle.erm_rule.specs.Books.{WasFlushed}
use Rattle.erm_rule.specs.Went.{Took, core_of}
use Rattle.erm_world.specs.declared.stops.NotFlushed.{NotFlushed}
use Rattle.erm_table_world.specs.Stands.{IsStateful}
use Rattle.erm_table_world.proofs.Beginning.{took_alone}
use Rattle.erm_table_world.proofs.Still.{Stayed, stayed_one}
use Rattle.erm_table_world.proofs.Wholly.{Ran, ran_one, runs}

-- the place that was found is the world's, which stays as it was
pub record Looked (sessions seat flushed : ℕ) (b e : Book) : Type 0 where
  pub same : view_of sessions (core_of e) ≡ view_of sessions (core_of b)
  pub found : (core_of b).shared.flushed ≡ flushed

pub looks : (law : Law) (sessions seat flushed : ℕ) (b e : Book) → IsStateful law b → Took law seat ((kind.LoadFlushed, flushed) ∷ []) b e → Looked sessions seat flushed b e
looks law sessions seat flushed b e state took =
    let one = runs law b seat kind.LoadFlushed flushed e (took_alone law seat (kind.LoadFlushed, flushed) b e took) state in
    let unseen = unseen_step sessions seat (core_of b) (core_of e) kind.LoadFlushed state.sound.sound tt refl refl one.event (calm_shows seat (core_of b) (core_of e) kind.LoadFlushed tt one.event) in
    record { same = unseen.view; found = one.met }

-- whether an end is synced, from the place that was found
pub record Told (r : Result (Unit {0}) NotFlushed) (end flushed : ℕ) : Type 0 where
  pub ok : IsOk r ↔ (end ≤ flushed)
  pub err : IfErr r (λ stop. stop.flushed ≡ flushed)

pub told : (r : Result (Unit {0}) NotFlushed) (end flushed : ℕ) → OnOk r (end ≤ flushed) → IfErr r (λ stop. (stop.flushed ≡ flushed) × (stop.flushed < end)) → Told r end flushed
told (Ok u) end flushed ok err = record { ok = (λ _. ok, λ _. refl); err = tt }
told (Err stop) end flushed ok err = record {
  ok = (λ is. absurd (cc), λ within. absurd (let same = err.0 in let less = err.1 in omega (arith, same, less, within)));
  err = err.0;
}

-- what is known of a look at the place flushed, whatever its answer
pub record Looks (law : Law) (sessions seat end : ℕ) (b e : Book) (r : Result (Unit {0}) NotFlushed) : Type 0 where
  pub ran : Ran law sessions seat b e
  pub stayed : Stayed sessions seat (core_of b) (core_of e)
  pub same : view_of sessions (core_of e) ≡ view_of sessions (core_of b)
  pub told : Told r end (core_of b).shared.flushed

looked_at : (law : Law) (sessions seat end flushed : ℕ) (b e : Book) (r : Result (Unit {0}) NotFlushed) → IsStateful law b → Took law seat ((kind.LoadFlushed, flushed) ∷ []) b e
    → Told r end flushed → Looks law sessions seat end b e r
looked_at law sessions seat end flushed b e r state took is =
    let looked = looks law sessions seat flushed b e state took in
    let step = took_alone law seat (kind.LoadFlushed, flushed) b e took in
    record {
      ran = ran_one law sessions seat kind.LoadFlushed flushed b e step state;
      stayed = stayed_one law sessions seat kind.LoadFlushed flushed b e step state tt;
      same = looked.same;
      told = subst (λ (n : ℕ). Told r end n) (sym looked.found) is;
    }

pub durable_told : (law : Law) (sessions seat end : ℕ) (b e : Book) (r : Result (Unit {0}) NotFlushed) → IsStateful law b
    → OnOk r ((flushed : ℕ) × (end ≤ flushed) × Took law seat ((kind.LoadFlushed, flushed) ∷ []) b e)
    → IfErr r (λ stop. Took law seat ((kind.LoadFlushed, stop.flushed) ∷ []) b e) → IfErr r (λ stop. WasFlushed b stop.flushed e × (stop.flushed < end)) → Looks law sessions seat end b e r
durable_told law sessions seat end b e (Ok u) state ok none low =
    looked_at law sessions seat end ok.0 b e (Ok u) state ok.2 (told (Ok u) end ok.0 ok.1 tt)
durable_told law sessions seat end b e (Err stop) state ok none low =
    looked_at law sessions seat end stop.flushed b e (Err stop) state none (told (Err stop) end stop.flushed tt (refl, low.1))
