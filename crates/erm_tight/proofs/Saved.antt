-- A transaction in progress: what its lines tell of it, and of each of its savepoints; and what is left of this where it makes one more, or goes back
-- to one.
use Rattle.std.proofs.Common.{◌≡◌, ℕ, suc, ◌+◌, ◌≤◌, true, List, [], ◌∷◌, ◌++◌, length, length-append, length-take-le, take, Option, Some, None, inl, inr, refl, sym, ap, ◌∙◌, subst, arith}
use Rattle.std.specs.List.{slice_get}
use Rattle.std.proofs.lemmas.Option.{slice_get_within}
use Rattle.erm_model.specs.declared.history.VersionWritten.{VersionWritten}
use Rattle.erm_model.specs.declared.operation.Op.TheVariants as op
use Rattle.erm_model.specs.Member.{◌∈◌}
use Rattle.erm_model.specs.Rows.{Rows}
use Rattle.erm_model.specs.Run.{Saving, Step, back_to}
use Rattle.erm_model.proofs.Members.{slice_get-push}
use Rattle.erm_model.proofs.Savings.{slice_get-take}
use Rattle.erm_node.specs.Sound.{sound_law}
use Rattle.erm_node.specs.TreeMap.{record_in}
use Rattle.erm_world.specs.Going.{Extends}
use Rattle.erm_world.specs.Laws.{FitsWork}
use Rattle.erm_world.specs.Saves.{HasClaimed, restored, with_claims}
use Rattle.erm_world.specs.Works.{is_claimed}
use Rattle.erm_world.specs.World.{Work, begun}
use Rattle.erm_world.proofs.Lists.{∈-before}
use Rattle.erm_maps.specs.Runs.{IsRunOf, Kept, going_back, saving}
use Rattle.erm_good_report.specs.Transactions.{Exchange, op_done, table_of}
use Rattle.erm_good_report.specs.Windows.{ChangesKey}
use Rattle.erm_causes.proofs.Beside.{claimed_at}
use Rattle.erm_lines.proofs.Backs.{claimed_back, fits_before, fits_saved, fits_with, seen_back}
use Rattle.erm_tight.proofs.Calls.{KeepsRecords}
use Rattle.erm_tight.proofs.Found.{claimed_in}
use Rattle.erm_tight.proofs.Marks.{HasPut, Marks, MarksBy, Stood, Touching}
use Rattle.erm_tight.proofs.Stays.{at_end, in_front, line_of, one_more, stays_of, taken_both}
use Rattle.erm_tight.proofs.Went.{IsTouched}

-- what the lines tell of a savepoint: which of them stayed there, by its place, and what these tell
pub record StoodAt (lines : List Exchange) (j : ℕ) (w : Work) : Type 0 where
  pub stays : List Exchange
  pub place : slice_get (stays_of lines).saved j ≡ Some stays
  pub stood : Stood stays w

-- A transaction in progress, with its savepoints, of which its lines tell as many
pub record Goes (lines : List Exchange) (k : Kept) : Type 0 where
  pub marks : Marks lines k.work
  pub held : length (stays_of lines).saved ≡ length k.saves
  pub saved : (j : ℕ) (claims : List VersionWritten) → slice_get k.saves j ≡ Some claims → StoodAt lines j (with_claims claims k.work)

-- SAVEPOINTS. What is told of one stays where the transaction goes on, and where lines more leave them.
stood_on : (stays : List Exchange) (claims : List VersionWritten) (w u : Work) → Extends w u → Stood stays (with_claims claims w) → Stood stays (with_claims claims u)
stood_on stays claims w u more stood = record {
  kept = λ rows sound fits. stood.kept rows sound (fits_with claims w u more rows fits);
  puts = λ table key line. let its = stood.puts table key line in (its.0, (its.1.0, λ rows sound fits. its.1.1 rows sound (fits_with claims w u more rows fits)));
}

pub saved_on : (lines more : List Exchange) (held : List (List VersionWritten)) (w u : Work) → Extends w u → (stays_of more).saved ≡ (stays_of lines).saved
    → ((j : ℕ) (claims : List VersionWritten) → slice_get held j ≡ Some claims → StoodAt lines j (with_claims claims w))
    → (j : ℕ) (claims : List VersionWritten) → slice_get held j ≡ Some claims → StoodAt more j (with_claims claims u)
saved_on lines more held w u goes same saved j claims at =
    let it = saved j claims at in record {
      stays = it.stays;
      place = ap (λ (list : List (List Exchange)). slice_get list j) same ∙ it.place;
      stood = stood_on it.stays claims w u goes it.stood;
    }

-- one that has done nothing
pub goes_nothing : (number begin : ℕ) → Marks [] (begun number begin) → Goes [] (record { work = begun number begin; saves = [] })
goes_nothing number begin marks = record { marks = marks; held = refl; saved = λ j claims at. absurd (cc) }

-- LINES that work on no table tell nothing of keys.
of_touching : (table key : ℕ) (e : Exchange) → Touching table key e → table_of e.asked ≡ Some table
of_touching table key e (inl gets) = ap table_of gets.0
of_touching table key e (inr (inl puts)) = ap table_of puts.0.1
of_touching table key e (inr (inr deletes)) = ap table_of deletes.0

of_change : (table key : ℕ) (e : Exchange) → ChangesKey table key e → table_of e.asked ≡ Some table
of_change table key e (inl puts) = ap table_of puts.0.1
of_change table key e (inr (inl deletes)) = ap table_of deletes.0
of_change table key e (inr (inr tidies)) = ap table_of tidies.0

never : (e : Exchange) (table : ℕ) → table_of e.asked ≡ None → table_of e.asked ≡ Some table → ⊥
never e table none named = let no : None ≡ Some table = sym none ∙ named in cc

pub marks_more : (lines stays : List Exchange) (w : Work) (e : Exchange) → table_of e.asked ≡ None → MarksBy lines stays w → MarksBy (lines ++ e ∷ []) stays w
marks_more lines stays w e none marks = record {
  kept = marks.kept;
  touched = λ rows sound fits table key x line is. elim (line_of (Touching table key) lines e line) as (λ _. IsTouched w x) [
    | inl before ↦ marks.touched rows sound fits table key x before is
    | inr last ↦ absurd (never e table none (of_touching table key e last))
  ];
  puts = marks.puts;
  changes = λ rows sound fits table key x line is. elim (line_of (ChangesKey table key) lines e line) as (λ _. is_claimed w.claims x ≡ true) [
    | inl before ↦ marks.changes rows sound fits table key x before is
    | inr last ↦ absurd (never e table none (of_change table key e last))
  ];
  only = λ rows sound fits table key x below is claimed.
      let had = marks.only rows sound fits table key x below is claimed in (had.0, within had.0 had.1, had.2);
}
  where
    within : (d : Exchange) → d ∈ lines → d ∈ (lines ++ e ∷ [])
    within d m = ∈-before lines (e ∷ []) d m

-- A line that does no operation leaves all that stays.
pub goes_still : (lines : List Exchange) (k : Kept) (e : Exchange) → table_of e.asked ≡ None → op_done e ≡ None → Goes lines k → Goes (lines ++ e ∷ []) k
goes_still lines k e none undone goes =
    let same : stays_of (lines ++ e ∷ []) ≡ stays_of lines = one_more lines e None undone in record {
      marks = subst (λ (s : Saving (List Exchange)). MarksBy (lines ++ e ∷ []) s.now k.work) (sym same) (marks_more lines (stays_of lines).now k.work e none goes.marks);
      held = ap (λ (s : Saving (List Exchange)). length s.saved) same ∙ goes.held;
      saved = λ j claims at.
          let it = goes.saved j claims at in
          record { stays = it.stays; place = ap (λ (s : Saving (List Exchange)). slice_get s.saved j) same ∙ it.place; stood = it.stood };
    }

-- SAVE. What stays then is what stayed at the savepoint.
module _ (lines : List Exchange) (k : Kept) (e : Exchange) (none : table_of e.asked ≡ None) (goes : Goes lines k) where
  pub goes_saving : op_done e ≡ Some op.Save → Goes (lines ++ e ∷ []) (saving k)
  goes_saving saves = record {
    marks = subst (λ (s : Saving (List Exchange)). MarksBy (lines ++ e ∷ []) s.now k.work) (sym now) (marks_more lines (stays_of lines).now k.work e none goes.marks);
    held = ap (λ (s : Saving (List Exchange)). length s.saved) now
        ∙ length-append (stays_of lines).saved ((stays_of lines).now ∷ [])
        ∙ ap (λ (n : ℕ). n + 1) goes.held
        ∙ sym (length-append k.saves (k.work.claims ∷ []));
    saved = λ j claims at. elim (slice_get-push k.saves k.work.claims claims j at) as (λ _. StoodAt (lines ++ e ∷ []) j (with_claims claims k.work)) [
      | inl before ↦
          let it = goes.saved j claims before.1 in record {
            stays = it.stays;
            place = ap (λ (s : Saving (List Exchange)). slice_get s.saved j) now ∙ in_front (stays_of lines).saved ((stays_of lines).now ∷ []) j it.stays it.place;
            stood = it.stood;
          }
      | inr last ↦ record {
        stays = (stays_of lines).now;
        place = ap (λ (s : Saving (List Exchange)). slice_get s.saved j) now
            ∙ ap (λ (n : ℕ). slice_get ((stays_of lines).saved ++ (stays_of lines).now ∷ []) n) (last.0 ∙ sym goes.held)
            ∙ at_end (stays_of lines).saved (stays_of lines).now;
        stood = subst (λ (list : List VersionWritten). Stood (stays_of lines).now (with_claims list k.work)) last.1
            (record { kept = goes.marks.kept; puts = goes.marks.puts });
      }
    ];
  }
    where
      now : stays_of (lines ++ e ∷ []) ≡ record { now = (stays_of lines).now; saved = (stays_of lines).saved ++ (stays_of lines).now ∷ [] }
      now = one_more lines e (Some op.Save) saves

-- BACK. What stays then is what stayed at the savepoint; what was read and claimed stays so.
saved_claimed : (saved claims : List VersionWritten) → HasClaimed saved claims → (x : ℕ) → is_claimed saved x ≡ true → is_claimed claims x ≡ true
saved_claimed saved claims has x is =
    let c = claimed_in saved x is in
    let there = has c.1.0 c.0 c.1.1 in
    let oid : there.0.oid ≡ x = ap (λ (f : ℕ × ℕ × List ℕ). f.0) there.2 ∙ c.2 in
    subst (λ (n : ℕ). is_claimed claims n ≡ true) oid (claimed_at claims c.1.0 there.0 there.1)

module _ (lines : List Exchange) (k : Kept) (steps : List Step) (run : IsRunOf k steps) (goes : Goes lines k) (place : ℕ) (claims : List VersionWritten)
    (at : slice_get k.saves place ≡ Some claims) where
  abbrev back : Work
  back = with_claims (restored claims k.work.claims) k.work

  has : HasClaimed claims k.work.claims
  has = run.saves place claims at

  abbrev it : StoodAt lines place (with_claims claims k.work)
  it = goes.saved place claims at

  back_marks : MarksBy lines (goes.saved place claims at).stays (with_claims (restored claims k.work.claims) k.work)
  back_marks = record {
    kept = λ rows sound fits.
        subst (λ (seen : Rows). KeepsRecords rows seen) (sym (seen_back k steps run place claims at rows fits)) (it.stood.kept rows sound (fits_saved k.work claims has rows fits));
    touched = λ rows sound fits table key x line is. elim (goes.marks.touched rows sound (fits_before k.work claims has rows fits) table key x line is) as (λ _. IsTouched back x) [
      | inl read ↦ inl read
      | inr claimed ↦ inr (claimed_back k.work claims has x ∙ claimed)
    ];
    puts = λ table key line. let its = it.stood.puts table key line in (its.0, (its.1.0, λ rows sound fits. back_put table key its.1.0 rows fits (its.1.1 rows sound (fits_saved k.work claims has rows fits))));
    changes = λ rows sound fits table key x line is. claimed_back k.work claims has x ∙ goes.marks.changes rows sound (fits_before k.work claims has rows fits) table key x line is;
    only = λ rows sound fits table key x below is claimed.
        goes.marks.only rows sound (fits_before k.work claims has rows fits) table key x below is (sym (claimed_back k.work claims has x) ∙ claimed);
  }
    where
      back_put : (table key x : ℕ) (rows : Rows) → FitsWork sound_law (with_claims (restored claims k.work.claims) k.work) rows → HasPut (with_claims claims k.work) table key x rows
          → HasPut (with_claims (restored claims k.work.claims) k.work) table key x rows
      back_put table key x rows fits put = (
        ap (λ (seen : Rows). record_in seen table key) (seen_back k steps run place claims at rows fits) ∙ put.0,
        claimed_back k.work claims has x ∙ saved_claimed claims k.work.claims has x put.1,
      )

  module _ (e : Exchange) (none : table_of e.asked ≡ None) (backs : op_done e ≡ Some (op.Back (suc place))) where
    now : stays_of (lines ++ e ∷ []) ≡ record { now = (goes.saved place claims at).stays; saved = take (suc place) (stays_of lines).saved }
    now = one_more lines e (Some (op.Back (suc place))) backs ∙ ap (λ (old : Option (List Exchange)). back_to (suc place) old (stays_of lines)) it.place

    within : suc place ≤ length k.saves
    within = omega (arith, slice_get_within k.saves place claims at)

    pub goes_back : Goes (lines ++ e ∷ []) (going_back (suc place) claims k)
    goes_back = record {
      marks = subst (λ (s : Saving (List Exchange)). MarksBy (lines ++ e ∷ []) s.now back) (sym now) (marks_more lines it.stays back e none back_marks);
      held = ap (λ (s : Saving (List Exchange)). length s.saved) now
          ∙ length-take-le (suc place) (stays_of lines).saved (omega (arith, within, goes.held))
          ∙ sym (length-take-le (suc place) k.saves within);
      saved = λ j earlier there.
          let its = goes.saved j earlier (slice_get-take (suc place) k.saves j earlier there) in record {
            stays = its.stays;
            place = ap (λ (s : Saving (List Exchange)). slice_get s.saved j) now ∙ taken_both (suc place) k.saves (stays_of lines).saved j earlier its.stays there its.place;
            stood = its.stood;
          };
    }
