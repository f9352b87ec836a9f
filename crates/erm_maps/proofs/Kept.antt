-- Transactions that save and go back, as runs of their operations.
use Rattle.std.proofs.Common.{◌≡◌, refl, ℕ, suc, inl, inr, List, [], ◌∷◌, ◌++◌, Option, None, Some, map, sym, ap, ◌∙◌, subst, arith}
use Rattle.std.specs.List.{slice_get}
use Rattle.std.specs.Option.{option_map}
use Rattle.std.proofs.lemmas.List.{map-append, take-map}
use Rattle.std.proofs.lemmas.Option.{slice_get-map}
use Rattle.erm_model.specs.declared.history.VersionWritten.{VersionWritten}
use Rattle.erm_model.specs.declared.operation.Op.TheVariants.{Back, Save}
use Rattle.erm_model.specs.declared.operation.Reply.TheVariants as reply
use Rattle.erm_model.specs.Database.{Database}
use Rattle.erm_model.specs.History.{after_writes}
use Rattle.erm_model.specs.RowTransaction.{Law}
use Rattle.erm_model.specs.Rows.{Rows}
use Rattle.erm_model.specs.Run.{Saving, Step, after, back_to, begins, saved_as}
use Rattle.erm_model.proofs.Members.{slice_get-push}
use Rattle.erm_model.proofs.Runs.{RunsFrom-push, after_from-ops_of-push}
use Rattle.erm_model.proofs.Savings.{saved_as-map, slice_get-take}
use Rattle.erm_node.specs.Sound.{sound_law}
use Rattle.erm_node.specs.TreeMap.{map_of_rows}
use Rattle.erm_world.specs.Laws.{FitsWork, IsLawfulWork}
use Rattle.erm_world.specs.Saves.{HasClaimed, restored, with_claims}
use Rattle.erm_world.specs.World.{Work}
use Rattle.erm_world.proofs.Restored.{AreSavesOf-more, HasClaimed-restored, OnceOf-restored}
use Rattle.erm_maps.specs.Runs.{Agree, IsRunOf, Kept, going_back, maps_seen, saving}
use Rattle.erm_maps.proofs.Seen.{Agree-before, Agree-saved, seen_restored}

-- a transaction that may have begun on rows may have begun on them without claims that it makes, or with those that found the same
with_agreeing : (law : Law) (w : Work) (claims : List VersionWritten) (rows : Rows) → FitsWork law w rows → Agree rows claims → FitsWork law (with_claims claims w) rows
with_agreeing law w claims rows fits agree = record { meets = fits.meets; reads = fits.reads; claims = agree; unreached = fits.unreached }

lawful_once_more : (k : Kept) (steps : List Step) → IsRunOf k steps → (j : ℕ) (saved : List VersionWritten) → slice_get (k.saves ++ k.work.claims ∷ []) j ≡ Some saved → IsLawfulWork sound_law (with_claims saved k.work)
lawful_once_more k steps run j saved at =
    elim (slice_get-push k.saves k.work.claims saved j at) [
      | inl before ↦ run.lawful_saves j saved before.1
      | inr last ↦ subst (λ (claims : List VersionWritten). IsLawfulWork sound_law (with_claims claims k.work)) last.1 run.lawful
    ]

abbrev pub save_step : Step
save_step = record { op = Save; reply = reply.Done }

abbrev pub back_step : ℕ → Step
back_step n = record { op = Back n; reply = reply.Done }

-- a save
pub IsRunOf-saving : (k : Kept) (steps : List Step) → IsRunOf k steps → IsRunOf (saving k) (steps ++ save_step ∷ [])
IsRunOf-saving k steps run = record {
  run = λ rows sound fits. RunsFrom-push (begins (map_of_rows rows)) steps save_step (run.run rows sound fits) refl;
  after = λ rows sound fits.
      let seen : Saving Database = maps_seen k rows in
      after_from-ops_of-push steps save_step (begins (map_of_rows rows))
      ∙ ap (after Save) (run.after rows sound fits)
      ∙ ap (λ (saved : List Database). let maps : Saving Database = record { now = seen.now; saved = saved } in maps)
      (sym (map-append (λ (claims : List VersionWritten). map_of_rows (after_writes claims rows)) k.saves (k.work.claims ∷ [])));
  lawful = run.lawful;
  once = run.once;
  saves = AreSavesOf-more k.work k.saves run.saves;
  lawful_saves = lawful_once_more k steps run;
}

-- a way back to where there is no savepoint
pub IsRunOf-back_to_none : (k : Kept) (steps : List Step) (n : ℕ) → IsRunOf k steps → saved_as n k.saves ≡ None → IsRunOf k (steps ++ back_step n ∷ [])
IsRunOf-back_to_none k steps n run none = record {
  run = λ rows sound fits. RunsFrom-push (begins (map_of_rows rows)) steps (back_step n) (run.run rows sound fits) refl;
  after = λ rows sound fits.
      let f : List VersionWritten → Database = λ claims. map_of_rows (after_writes claims rows) in
      let found : saved_as n (map f k.saves) ≡ None = saved_as-map f n k.saves ∙ ap (option_map f) none in
      after_from-ops_of-push steps (back_step n) (begins (map_of_rows rows))
      ∙ ap (after (Back n)) (run.after rows sound fits)
      ∙ ap (λ (old : Option Database). back_to n old (maps_seen k rows)) found;
  lawful = run.lawful;
  once = run.once;
  saves = run.saves;
  lawful_saves = run.lawful_saves;
}

module _ (k : Kept) (steps : List Step) (run : IsRunOf k steps) (n : ℕ) (saved : List VersionWritten) (at : slice_get k.saves n ≡ Some saved) where
  has : HasClaimed saved k.work.claims
  has = run.saves n saved at

  left : Kept
  left = going_back (suc n) saved k

  fitted : (rows : Rows) → FitsWork sound_law left.work rows → FitsWork sound_law k.work rows
  unfolding left
  fitted rows fits = with_agreeing sound_law left.work k.work.claims rows fits (Agree-before rows saved k.work.claims has fits.claims)

  -- the rows seen are those of the savepoint
  seen : (rows : Rows) → FitsWork sound_law left.work rows → after_writes (restored saved k.work.claims) rows ≡ after_writes saved rows
  seen rows fits = seen_restored saved k.work.claims rows has run.once (fitted rows fits).claims

  fitted_then : (rows : Rows) → FitsWork sound_law left.work rows → FitsWork sound_law (with_claims saved k.work) rows
  fitted_then rows fits =
      let fits_now = fitted rows fits in
      with_agreeing sound_law k.work saved rows fits_now (Agree-saved rows saved k.work.claims has fits_now.claims)

  -- the maps after going back
  maps_then : (rows : Rows) → FitsWork sound_law left.work rows → after (Back (suc n)) (maps_seen k rows) ≡ maps_seen left rows
  unfolding left
  maps_then rows fits =
      let f : List VersionWritten → Database = λ claims. map_of_rows (after_writes claims rows) in
      let found : slice_get (map f k.saves) n ≡ Some (f saved) = slice_get-map f k.saves n ∙ ap (option_map f) at in
      ap (λ (old : Option Database). back_to (suc n) old (maps_seen k rows)) found
      ∙ (λ i. record { now = map_of_rows (sym (seen rows fits) i); saved = take-map f (suc n) k.saves i })

  lawful_then : IsLawfulWork sound_law left.work
  unfolding left
  lawful_then =
      let then = run.lawful_saves n saved at in record {
        meets = λ rows fits. subst sound_law.meets (sym (seen rows fits)) (then.meets rows (fitted_then rows fits));
        reach = λ rows x fits.
            let same = ap (λ (now : Rows). sound_law.reach now x) (seen rows fits) in
            let most = then.reach rows x (fitted_then rows fits) in
            omega (arith, same, most);
      }

  -- and the way back
  pub IsRunOf-going_back : IsRunOf (going_back (suc n) saved k) (steps ++ back_step (suc n) ∷ [])
  unfolding left
  IsRunOf-going_back = record {
    run = λ rows sound fits. RunsFrom-push (begins (map_of_rows rows)) steps (back_step (suc n)) (run.run rows sound (fitted rows fits)) refl;
    after = λ rows sound fits.
        after_from-ops_of-push steps (back_step (suc n)) (begins (map_of_rows rows))
        ∙ ap (after (Back (suc n))) (run.after rows sound (fitted rows fits))
        ∙ maps_then rows fits;
    lawful = lawful_then;
    once = OnceOf-restored saved k.work.claims has run.once;
    saves = λ j earlier there. HasClaimed-restored earlier saved k.work.claims has (run.saves j earlier (slice_get-take (suc n) k.saves j earlier there));
    lawful_saves = λ j earlier there. run.lawful_saves j earlier (slice_get-take (suc n) k.saves j earlier there);
  }
