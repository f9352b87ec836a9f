-- Tree calls of a session, one after another, as the run of its transaction.
use Rattle.std.proofs.Common.{◌≡◌, ◌⊎◌, inl, inr, ℕ, List, [], ◌∷◌, ◌++◌, sym, ap, ◌∙◌, subst, arith}
use Rattle.erm_model.specs.declared.history.VersionWritten.{VersionWritten}
use Rattle.erm_model.specs.declared.operation.Op.{Op}
use Rattle.erm_model.specs.declared.operation.Op.TheVariants.{Get, Put, Del, Next, Scan, Save, Back}
use Rattle.erm_model.specs.declared.operation.Reply.{Reply}
use Rattle.erm_model.specs.declared.outcome.Phase.TheVariants.{Active}
use Rattle.erm_model.specs.Rows.{Rows}
use Rattle.erm_model.specs.RowTransaction.{Face, IsLawful, Law, SameLaw}
use Rattle.erm_model.specs.Run.{Step}
use Rattle.erm_node.specs.Sound.{sound_law}
use Rattle.erm_tree.specs.Operations.{AreCalled, Call, IsAnswered, OperationsAreRunOne, Stutters, answered, answered_steps, stuttered}
use Rattle.erm_world.specs.Face.{world_face}
use Rattle.erm_world.specs.Going.{Extends}
use Rattle.erm_world.specs.Laws.{FitsWork}
use Rattle.erm_world.specs.Onward.{extends_then}
use Rattle.erm_world.specs.Saves.{OnceOf}
use Rattle.erm_world.specs.Works.{seen_by}
use Rattle.erm_world.specs.World.{View, Work, phase_at, work_at}
use Rattle.erm_maps.specs.Runs.{GoesOnBy, IsRunOf, kept_at}
use Rattle.erm_maps.proofs.GoingOn.{IsRunOf-on_map, extends_itself, grown}

-- what calls of a transaction leave
module _ {S : Type 0} (face : Face S) where
  -- the transaction follows, and is active
  answer_follows : (s t : S) (op : Op) (r : Reply) → IsAnswered face s op r t → face.follows s t × face.active t
  answer_follows s t (Get table key) r (value, is, saw) = (saw.follows, saw.goes_on.active)
  answer_follows s t (Put table key value) r (is, did) = (did.follows, did.goes_on.active)
  answer_follows s t (Del table key) r (is, did) = (did.follows, did.goes_on.active)
  answer_follows s t (Next table from) r (found, is, saw) = (saw.follows, saw.goes_on.active)
  answer_follows s t (Scan table low high) r none = absurd none
  answer_follows s t Save r none = absurd none
  answer_follows s t (Back n) r none = absurd none

  active_then : (calls : List Call) (s t : S) → face.active s → AreCalled face s calls t → face.active t
  active_then [] s t active same = subst (λ (u : S). face.active u) (sym same) active
  active_then (answered step ∷ calls) s t active (u, did, rest) = active_then calls u t (answer_follows s u step.op step.reply did).1 rest
  active_then (stuttered ∷ calls) s t active (u, same, rest) = active_then calls u t same.stays.active rest

  -- after calls there is nothing more, or the transaction is active
  called_active : (calls : List Call) (s t : S) → AreCalled face s calls t → (t ≡ s) ⊎ face.active t
  called_active [] s t same = inl same
  called_active (answered step ∷ calls) s t (u, did, rest) = inr (active_then calls u t (answer_follows s u step.op step.reply did).1 rest)
  called_active (stuttered ∷ calls) s t (u, same, rest) = inr (active_then calls u t same.stays.active rest)

-- two laws that say the same have the same arrays fit
fits_as : (a b : Law) → SameLaw a b → (w : Work) (rows : Rows) → FitsWork a w rows → FitsWork b w rows
fits_as a b same w rows fits = record {
  meets = (same.meets rows).0 fits.meets;
  reads = fits.reads;
  claims = fits.claims;
  unreached = λ x made. sym (same.reach rows x) ∙ fits.unreached x made;
}

module _ {S : Type 0} (law : Law) (view : S → View) (seat : S → ℕ) (stands : S → Type 0) (one : S → S → Type 0) (same : SameLaw law sound_law) where
  abbrev pub face : Face S
  face = world_face law view seat stands one

  abbrev pub work : S → Work
  work s = work_at (view s) (seat s)

  -- the run of operations so far is lawful for the session as a transaction
  pub lawful_before : (s : S) (before : List Step) → IsRunOf (kept_at (view s) (seat s)) before → IsLawful face s
  lawful_before s before run begun meets fits =
      let sound_fits = fits_as law sound_law same (work s) begun fits in (
        (same.meets (seen_by (work s) begun)).1 (run.lawful.meets begun sound_fits),
        λ x.
            let most = run.lawful.reach begun x sound_fits in
            let left = same.reach (seen_by (work s) begun) x in
            let right = same.reach begun x in
            omega (arith, most, left, right),
      )

  back : (s : S) (rows : Rows) → FitsWork sound_law (work s) rows → face.fits s rows
  back s rows fits = record {
    meets = (same.meets rows).1 fits.meets;
    reads = fits.reads;
    claims = fits.claims;
    unreached = λ x made. same.reach rows x ∙ fits.unreached x made;
  }

  -- WHERE IT WENT. Where it follows, and is active, it has gone on, and has the savepoints that it had.
  record Went (s t : S) : Type 0 where
    active : phase_at (view s) (seat s) ≡ Active
    extends : Extends (work s) (work t)
    saves : (view t).saves (seat t) ≡ (view s).saves (seat s)

  went : (s t : S) → face.follows s t → phase_at (view t) (seat t) ≡ Active → Went s t
  went s t (same_one, is, standing, goes) active =
      let now : phase_at (view t) (seat s) ≡ Active = subst (λ (q : ℕ). phase_at (view t) q ≡ Active) is active in
      let own = grown ((view s).session (seat s)) ((view t).session (seat s)) goes.own now in record {
        active = own.0;
        extends = subst (λ (q : ℕ). Extends (work s) (work_at (view t) q)) (sym is) own.1;
        saves = ap (view t).saves is ∙ goes.saves now;
      }

  went_then : (s t u : S) → Went s t → Went t u → Went s u
  went_then s t u first second = record {
    active = first.active;
    extends = extends_then (work s) (work t) (work u) first.extends second.extends;
    saves = second.saves ∙ first.saves;
  }

  -- so it is where it stuttered
  went_stuttered : (s t : S) → Stutters face s t → Went s t
  went_stuttered s t stutters = elim stutters.rests [
    | inl there ↦ subst (λ (u : S). Went s u) (sym there) (went s stutters.at stutters.goes (subst (λ (u : S). face.active u) there stutters.stays.active).2)
    | inr after ↦ let last = went stutters.at t after stutters.stays.active.2 in went_then s stutters.at t (went s stutters.at stutters.goes last.active) last
  ]

  went_called : (calls : List Call) (s t : S) → AreCalled face s calls t → Extends (work s) (work t) × ((view t).saves (seat t) ≡ (view s).saves (seat s))
  went_called [] s t is = (subst (λ (u : S). Extends (work s) (work u)) (sym is) (extends_itself (work s)), ap (λ (u : S). (view u).saves (seat u)) is)
  went_called (answered step ∷ calls) s t (u, did, rest) =
      let there = answer_follows face s u step.op step.reply did in
      let first = went s u there.0 there.1.2 in
      let more = went_called calls u t rest in
      (extends_then (work s) (work u) (work t) first.extends more.0, more.1 ∙ first.saves)
  went_called (stuttered ∷ calls) s t (u, stutters, rest) =
      let first = went_stuttered s u stutters in
      let more = went_called calls u t rest in
      (extends_then (work s) (work u) (work t) first.extends more.0, more.1 ∙ first.saves)

  -- what is kept of it
  kept_now : (u : Work) (xs ys : List (List VersionWritten)) (steps : List Step) → xs ≡ ys → IsRunOf (record { work = u; saves = ys }) steps → IsRunOf (record { work = u; saves = xs }) steps
  kept_now u xs ys steps equal run = subst (λ (saves : List (List VersionWritten)). IsRunOf (record { work = u; saves = saves }) steps) (sym equal) run

  pub called_runs : ((s : S) → face.active s → OnceOf (work s).claims) → OperationsAreRunOne face → (s t : S) (calls : List Call) (before : List Step) → IsRunOf (kept_at (view s) (seat s)) before → AreCalled face s calls t →
      IsRunOf (kept_at (view t) (seat t)) (before ++ answered_steps calls)
  called_runs once one_run s t calls before run called =
      let runs = one_run same s t calls (lawful_before s before run) called in
      let steps = answered_steps calls in
      let gone = went_called calls s t called in
      let goes : GoesOnBy (work s) (work t) steps = record {
        extends = gone.0;
        run = λ rows sound fits. runs.run rows sound (back t rows fits);
        after = λ rows sound fits. runs.after rows sound (back t rows fits);
        lawful = record {
          meets = λ rows fits. (same.meets (seen_by (work t) rows)).0 (runs.lawful rows ((same.meets rows).1 fits.meets) (back t rows fits)).0;
          reach = λ rows x fits.
              let most = (runs.lawful rows ((same.meets rows).1 fits.meets) (back t rows fits)).1 x in
              let left = same.reach (seen_by (work t) rows) x in
              let right = same.reach rows x in
              omega (arith, most, left, right);
        };
        once = elim (called_active face calls s t called) [
          | inl there ↦ subst (λ (u : S). OnceOf (work u).claims) (sym there) run.once
          | inr active ↦ once t active
        ];
      } in
      kept_now (work t) ((view t).saves (seat t)) ((view s).saves (seat s)) (before ++ steps) gone.1
      (IsRunOf-on_map (kept_at (view s) (seat s)) (work t) before steps runs.on_map run goes)
