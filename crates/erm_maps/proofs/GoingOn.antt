-- Transactions that go on by steps on the map.
use Rattle.std.proofs.Common.{◌≡◌, refl, ℕ, ◌+◌, ◌≤◌, eqb, cond, List, [], ◌++◌, map, sym, ap, ◌∙◌, subst, arith}
use Rattle.std.proofs.lemmas.List.{append-nil}
use Rattle.std.proofs.lemmas.List.Sums.{sum_by-append}
use Rattle.erm_model.specs.declared.history.VersionWritten.{VersionWritten}
use Rattle.erm_model.specs.declared.outcome.Phase.TheVariants.{Active, Idle}
use Rattle.erm_model.specs.Database.{Database}
use Rattle.erm_model.specs.Lawful.{times_made}
use Rattle.erm_model.specs.Rows.{Rows}
use Rattle.erm_model.specs.Run.{AreOnMap, RunsFrom, Saving, Step, after_from, begins, ops_of}
use Rattle.erm_model.proofs.OnMap.{after_plainly, runs_plainly}
use Rattle.erm_model.proofs.Runs.{RunsFrom-append, after_from-ops_of-append}
use Rattle.erm_node.specs.Sound.{sound_law}
use Rattle.erm_node.specs.TreeMap.{map_of_rows}
use Rattle.erm_world.specs.Face.{Grows, ends, same, works}
use Rattle.erm_world.specs.Going.{Extends, found_by}
use Rattle.erm_world.specs.Laws.{FitsWork, IsLawfulWork}
use Rattle.erm_world.specs.Saves.{with_claims}
use Rattle.erm_world.specs.World.{Session, Work, begun, phase_of, work_of}
use Rattle.erm_world.proofs.Restored.{AreSavesOf-extended}
use Rattle.erm_maps.specs.Runs.{GoesOnBy, IsRunOf, Kept, WasRun, maps_seen}
use Rattle.erm_maps.proofs.Extended.{fitted_before}

-- a transaction has what it had
pub extends_itself : (w : Work) → Extends w w
extends_itself w = record {
  number = refl;
  begin = refl;
  read = [];
  reads = sym (append-nil w.reads);
  claimed = [];
  claims = sym (append-nil (map found_by w.claims));
  more = [];
  made = sym (append-nil w.made);
}

-- a session that has grown, and is active, was active
pub grown : (v r : Session) → Grows v r → phase_of r.stand ≡ Active → (phase_of v.stand ≡ Active) × Extends (work_of v.stand) (work_of r.stand)
grown v r (same is) active =
    let stand : r.stand ≡ v.stand = ap (λ (x : Session). x.stand) is in (
      sym (ap phase_of stand) ∙ active,
      subst (λ (w : Work). Extends (work_of v.stand) w) (sym (ap work_of stand)) (extends_itself (work_of v.stand)),
    )
grown v r (works w u was over now more) active =
    (ap phase_of was, subst (λ (x : Work). Extends x (work_of r.stand)) (sym (ap work_of was)) (subst (λ (x : Work). Extends w x) (sym (ap work_of now)) more))
grown v r (ends w u was over now more) active =
    let idle : phase_of r.stand ≡ Idle = ap phase_of now in
    absurd (cc (idle, active))

made_more : (w u : Work) (x : ℕ) → Extends w u → times_made w.made x ≤ times_made u.made x
made_more w u x more =
    let all : times_made u.made x ≡ times_made (w.made ++ more.more) x = ap (λ (made : List ℕ). times_made made x) more.made in
    let sum : times_made (w.made ++ more.more) x ≡ times_made w.made x + times_made more.more x = sum_by-append (λ (oid : ℕ). cond (eqb oid x) 1 0) w.made more.more in
    omega (arith, all, sum)

-- with the same claims as before it has gone on too
extends_with : (claims : List VersionWritten) (w u : Work) → Extends w u → Extends (with_claims claims w) (with_claims claims u)
extends_with claims w u more = record {
  number = more.number;
  begin = more.begin;
  read = more.read;
  reads = more.reads;
  claimed = [];
  claims = sym (append-nil (map found_by claims));
  more = more.more;
  made = more.made;
}

-- it would keep the law of rows if it were back at a savepoint
lawful_with : (claims : List VersionWritten) (w u : Work) → Extends w u → IsLawfulWork sound_law (with_claims claims w) → IsLawfulWork sound_law (with_claims claims u)
lawful_with claims w u more lawful =
    let fitted : (rows : Rows) → FitsWork sound_law (with_claims claims u) rows → FitsWork sound_law (with_claims claims w) rows = λ rows fits. fitted_before sound_law (with_claims claims w) (with_claims claims u) (extends_with claims w u more) rows fits in
    record {
      meets = λ rows fits. lawful.meets rows (fitted rows fits);
      reach = λ rows x fits.
          let most = lawful.reach rows x (fitted rows fits) in
          let made = made_more w u x more in
          omega (arith, most, made);
    }

-- steps on the map
pub IsRunOf-on_map : (k : Kept) (u : Work) (steps more : List Step) → AreOnMap more → IsRunOf k steps → GoesOnBy k.work u more → IsRunOf (record { work = u; saves = k.saves }) (steps ++ more)
IsRunOf-on_map k u steps more on_map run goes =
    let fitted : (rows : Rows) → FitsWork sound_law u rows → FitsWork sound_law k.work rows = λ rows fits. fitted_before sound_law k.work u goes.extends rows fits in
    record {
      run = λ rows sound fits.
          let start : Saving Database = begins (map_of_rows rows) in
          RunsFrom-append start steps more (run.run rows sound (fitted rows fits))
          (subst (λ (s : Saving Database). RunsFrom s more) (sym (run.after rows sound (fitted rows fits)))
          ((runs_plainly more (maps_seen k rows) on_map).1 (goes.run rows sound fits)));
      after = λ rows sound fits.
          after_from-ops_of-append steps more (begins (map_of_rows rows))
          ∙ ap (after_from (ops_of more)) (run.after rows sound (fitted rows fits))
          ∙ after_plainly more (maps_seen k rows) on_map
          ∙ (λ i. record { now = sym (goes.after rows sound fits) i; saved = (maps_seen k rows).saved });
      lawful = goes.lawful;
      once = goes.once;
      saves = AreSavesOf-extended k.work u k.saves goes.extends run.saves;
      lawful_saves = λ j saved at. lawful_with saved k.work u goes.extends (run.lawful_saves j saved at);
    }

-- what was a run so far was one, once it is over
pub WasRun-from : (k : Kept) (steps : List Step) → IsRunOf k steps → WasRun k.work steps
WasRun-from k steps run = record {
  run = run.run;
  after = λ rows sound fits. ap (λ (s : Saving Database). s.now) (sym (run.after rows sound fits));
  lawful = run.lawful;
}

-- a transaction that has done nothing
pub IsRunOf-begun : (number begin : ℕ) → IsRunOf (record { work = begun number begin; saves = [] }) []
IsRunOf-begun number begin = record {
  run = λ rows sound fits. tt;
  after = λ rows sound fits. refl;
  lawful = record { meets = λ rows fits. fits.meets; reach = λ rows x fits. omega arith };
  once = λ i j c d at_i at_j same. absurd (cc);
  saves = λ j saved at. absurd (cc);
  lawful_saves = λ j saved at. absurd (cc);
}
