-- The table of each object of an execution at once: that of the line of the session that made it, or that whose tree reaches it at the opening.
use Rattle.std.proofs.Common.{◌≡◌, ℕ, zero, suc, ◌<◌, ◌≤◌, List, [], ◌∷◌, inl, inr, refl, sym, ap, ◌∙◌, subst, arith}
use Rattle.std.proofs.lemmas.Bool.{cases_eq}
use Rattle.erm_model.specs.declared.limits.TheConstants.{TABLES}
use Rattle.erm_node.specs.Sound.{reached, sound_law}
use Rattle.erm_tree.specs.Tables.{ObjectsHaveOneTable}
use Rattle.erm_tree.proofs.Standing.{reached-table}
use Rattle.erm_world.specs.Laws.{IsSerializable}
use Rattle.erm_world.specs.World.{IsSession, Session, View, made_by_all, made_in, made_upto}
use Rattle.erm_world.specs.World as world
use Rattle.erm_lines.specs.Executions.{Move}
use Rattle.erm_lines_at_once.specs.Executions.{IsOwnPart, IsOwnRun}
use Rattle.erm_causes.specs.Touched.{AreOfTables}
use Rattle.erm_causes.proofs.Made.{made_within}
use Rattle.erm_causes.proofs.Tables.{opened_of, reached_unmade, table_from, table_then, then_made, then_unmade}
use Rattle.erm_causes_at_once.proofs.Walked.{OwnRight, move_made, passes_made, run_made}

-- of one session's part: a table that has objects which it didn't make as they were
record OwnTabled (base : ℕ → ℕ) (f : View) (seat : ℕ) (moves : List Move) (v t : View) (run : IsOwnRun f seat v moves t) : Type 0 where
  table : ℕ → ℕ
  kept : (x : ℕ) → 0 < made_in (v.session seat) x → table x ≡ base x
  unmade : (x : ℕ) → made_in (t.session seat) x ≡ 0 → table x ≡ base x
  right : OwnRight table f seat moves v t run

own_tabled : (f : View) (seat : ℕ) (moves : List Move) (v t : View) (base : ℕ → ℕ) (run : IsOwnRun f seat v moves t) → ((x : ℕ) → made_in (t.session seat) x ≤ 1)
    → OwnTabled base f seat moves v t run
own_tabled f seat [] v t base run once = record { table = base; kept = λ x some. refl; unmade = λ x none. refl; right = tt }
own_tabled f seat (m ∷ moves) v t base (u, w, passes, did, rest) once =
    let before : ℕ → ℕ = λ x. made_in (u.session seat) x in
    let after : ℕ → ℕ = λ x. made_in (w.session seat) x in
    let later = own_tabled f seat moves w t (table_then base before m after) rest once in
    let up = move_made f seat m u w did in
    let rest_up = run_made f seat moves w t rest in record {
      table = later.table;
      kept = λ x some.
          later.kept x (omega (arith, up x, passes_made seat v u passes x, some))
          ∙ then_unmade base before m after x (omega (arith, rest_up x, once x, passes_made seat v u passes x, some));
      unmade = λ x none. later.unmade x none ∙ then_unmade base before m after x (omega (arith, rest_up x, none));
      right = (λ k names x less. later.kept x (omega (arith, less)) ∙ then_made base before m after k x names less, later.right);
    }

-- another table that has what the session made as this has
right_too : (one other : ℕ → ℕ) (f : View) (seat : ℕ) (moves : List Move) (v t : View) (run : IsOwnRun f seat v moves t) → OwnRight one f seat moves v t run
    → ((x : ℕ) → 0 < made_in (t.session seat) x → other x ≡ one x) → OwnRight other f seat moves v t run
right_too one other f seat [] v t run right same = tt
right_too one other f seat (m ∷ moves) v t (u, w, passes, did, rest) right same = (
  λ k names x less. same x (omega (arith, less, run_made f seat moves w t rest x)) ∙ right.0 k names x less,
  right_too one other f seat moves w t rest right.1 same,
)

-- a session's part, by which it comes to stand as in the world in which all end, and for which a table is right
pub record PartRight (table : ℕ → ℕ) (f : View) (seat : ℕ) (v : View) (moves : List Move) : Type 0 where
  pub last : View
  pub run : IsOwnRun f seat v moves last
  pub ends : last.session seat ≡ f.session seat
  pub given_up : last.given_up seat ≡ f.given_up seat
  pub right : OwnRight table f seat moves v last run

part_too : (one other : ℕ → ℕ) (f : View) (seat : ℕ) (v : View) (moves : List Move) → PartRight one f seat v moves → ((x : ℕ) → 0 < made_in (f.session seat) x → other x ≡ one x)
    → PartRight other f seat v moves
part_too one other f seat v moves part same = record {
  last = part.last;
  run = part.run;
  ends = part.ends;
  given_up = part.given_up;
  right = right_too one other f seat moves v part.last part.run part.right (λ x some. same x (omega (arith, ap (λ (s : Session). made_in s x) part.ends, some)));
}

module _ (v f : View) (moves : List Move) (own : (seat : ℕ) → IsSession v seat → IsOwnPart f seat v moves) where
  -- of the sessions up to a number
  record Upto (base : ℕ → ℕ) (n : ℕ) : Type 0 where
    table : ℕ → ℕ
    unmade : (x : ℕ) → made_upto n f.session x ≡ 0 → table x ≡ base x
    right : (seat : ℕ) → 0 < seat → seat ≤ n → PartRight table f seat v moves

  upto : (base : ℕ → ℕ) (n : ℕ) → n ≤ v.opening.sessions → ((x : ℕ) → made_upto n f.session x ≤ 1) → Upto base n
  unfolding made_upto
  upto base zero within once = record { table = base; unmade = λ x none. refl; right = λ seat above below. absurd (omega (arith, above, below)) }
  upto base (suc n) within once =
      let lower = upto base n (omega (arith, within)) (λ x. omega (arith, once x)) in
      let part = own (suc n) (omega arith, within) in
      let one : (x : ℕ) → made_in (part.last.session (suc n)) x ≤ 1 = λ x. omega (arith, ap (λ (s : Session). made_in s x) part.ends, once x) in
      let here = own_tabled f (suc n) moves v part.last lower.table part.run one in
      let others : (x : ℕ) → made_in (f.session (suc n)) x ≡ 0 → here.table x ≡ lower.table x = λ x none. here.unmade x (ap (λ (s : Session). made_in s x) part.ends ∙ none) in
      let own_part : PartRight here.table f (suc n) v moves = record { last = part.last; run = part.run; ends = part.ends; given_up = part.given_up; right = here.right } in record {
        table = here.table;
        unmade = λ x none. others x (omega (arith, none)) ∙ lower.unmade x (omega (arith, none));
        right = λ seat above below. elim (cases_eq seat (suc n)) as (λ _. PartRight here.table f seat v moves) [
          | inl is ↦ subst (λ (q : ℕ). PartRight here.table f q v moves) (sym is) own_part
          | inr another ↦
              let fewer : seat ≤ n = omega (arith, below, another) in
              part_too lower.table here.table f seat v moves (lower.right seat above fewer)
              (λ x some. others x (omega (arith, made_within n f.session seat x above fewer, once x, some)))
        ];
      }

  -- The table of all.
  pub record TableAtOnce : Type 0 where
    pub table : ℕ → ℕ
    pub opened : AreOfTables table f.opening.rows
    pub right : (seat : ℕ) → IsSession v seat → PartRight table f seat v moves

  pub table_at_once : ObjectsHaveOneTable → IsSerializable sound_law f → f.opening ≡ v.opening → TableAtOnce
  table_at_once one holds opening =
      let sessions : f.opening.sessions ≡ v.opening.sessions = ap (λ (o : world.Opening). o.sessions) opening in
      let all = upto (table_from f.opening.rows TABLES) f.opening.sessions (omega (arith, sessions)) holds.made_once in
      let first_of = opened_of one f.opening.rows holds.opening_meets in record {
        table = all.table;
        opened = λ k x below some.
            let there : 0 < reached f.opening.rows x = omega (arith, reached-table f.opening.rows k x below, some) in
            all.unmade x (reached_unmade f holds x there) ∙ first_of k x below some;
        right = λ seat session. all.right seat session.0 (omega (arith, session.1, sessions));
      }
