-- The stamps that the lines of a run tell, in time.
use Rattle.std.proofs.Common.{◌≡◌, ℕ, ◌+◌, ◌<◌, ◌≤◌, List, [], ◌∷◌, IfSome, Some, refl, subst, ⊎_elim, arith, le_trans}
use Rattle.erm_model.specs.declared.limits.TheConstants.{LEAST_BLOCK, STOP}
use Rattle.erm_model.specs.Member.{◌∈◌}
use Rattle.erm_model.proofs.Members.{none_in_nil}
use Rattle.erm_machine.proofs.Listed.{∈-cons}
use Rattle.erm_node.specs.Sound.{sound_law}
use Rattle.erm_report.specs.declared.answer.Answer.{Answer}
use Rattle.erm_script.specs.declared.script.ScriptLine.{ScriptLine}
use Rattle.erm_world.specs.Laws.{IsSerializable}
use Rattle.erm_world.specs.World.{View}
use Rattle.erm_good_report.specs.Opening.{InTurn}
use Rattle.erm_good_report.specs.Stamps.{AllInTime, begin_told, place_told, stamp_drawn, stamp_printed}
use Rattle.erm_good_report.specs.Transactions.{Said, said_of}
use Rattle.erm_lines.specs.Executions.{DidMove, IsExecution, line_moves, move_of}
use Rattle.erm_lines.specs.Laws.{ExecutionsGoOn}
use Rattle.erm_told.proofs.Drawing.{Draws, move_draws}
use Rattle.erm_told.proofs.Endings.{if_told}
use Rattle.erm_told.proofs.Pairs.{Pairs, all_pairs, pairs_from}

-- IN TIME. What a place tells lies at or above a bound.
pub record Later (m : ℕ) (s : Said) : Type 0 where
  pub begin : (stamp : ℕ) → begin_told s.answer ≡ Some stamp → m ≤ stamp
  pub drawn : (stamp : ℕ) → stamp_drawn s.asked s.answer ≡ Some stamp → m ≤ stamp

-- at or below it, with the block of a stamp that it draws
pub record Earlier (n : ℕ) (s : Said) : Type 0 where
  pub begin : (stamp : ℕ) → begin_told s.answer ≡ Some stamp → stamp ≤ n
  pub placed : (place : ℕ) → place_told s.answer ≡ Some place → place ≤ n
  pub drawn : (stamp : ℕ) → stamp_drawn s.asked s.answer ≡ Some stamp → stamp + LEAST_BLOCK ≤ n

earlier_of : (m n k : ℕ) (s : Said) → n ≤ k → Draws m n s.asked s.answer → Earlier k s
earlier_of m n k s more draws = record {
  begin = λ stamp told. le_trans (draws.begin stamp told).1 more;
  placed = λ place told. le_trans (draws.placed place told) more;
  drawn = λ stamp told. le_trans (draws.drawn stamp told).1 more;
}

-- of two places the one is before the other
pub record Before (a b : Said) : Type 0 where
  pub begins : (stamp begin : ℕ) → stamp_printed a.answer ≡ Some stamp → begin_told b.answer ≡ Some begin → stamp < begin
  pub draws : (begin stamp : ℕ) → begin_told a.answer ≡ Some begin → stamp_drawn b.asked b.answer ≡ Some stamp → begin ≤ stamp
  pub ascends : (first later : ℕ) → stamp_drawn a.asked a.answer ≡ Some first → stamp_drawn b.asked b.answer ≡ Some later → first + LEAST_BLOCK ≤ later
  pub flushes : (place begin : ℕ) → place_told a.answer ≡ Some place → begin_told b.answer ≡ Some begin → place ≤ begin
  pub flushes_first : (place stamp : ℕ) → place_told a.answer ≡ Some place → stamp_drawn b.asked b.answer ≡ Some stamp → place ≤ stamp
  pub begins_ascend : (first later : ℕ) → begin_told a.answer ≡ Some first → begin_told b.answer ≡ Some later → first ≤ later

before_of : (m n : ℕ) (a b : Said) → Draws m n a.asked a.answer → Later n b → Before a b
before_of m n a b draws later = record {
  begins = λ stamp begin told then_told. omega (arith, draws.printed stamp told, later.begin begin then_told);
  draws = λ begin stamp told then_told. omega (arith, (draws.begin begin told).1, later.drawn stamp then_told);
  ascends = λ first last told then_told. omega (arith, (draws.drawn first told).1, later.drawn last then_told);
  flushes = λ place begin told then_told. le_trans (draws.placed place told) (later.begin begin then_told);
  flushes_first = λ place stamp told then_told. le_trans (draws.placed place told) (later.drawn stamp then_told);
  begins_ascend = λ first last told then_told. le_trans (draws.begin first told).1 (later.begin last then_told);
}

pub later_still : (m n : ℕ) (s : Said) → m ≤ n → Later n s → Later m s
later_still m n s less later = record {
  begin = λ stamp told. le_trans less (later.begin stamp told);
  drawn = λ stamp told. le_trans less (later.drawn stamp told);
}

later_of : (m n : ℕ) (s : Said) → Draws m n s.asked s.answer → Later m s
later_of m n s draws = record { begin = λ stamp told. (draws.begin stamp told).0; drawn = λ stamp told. (draws.drawn stamp told).0 }

module _ (go : ExecutionsGoOn) where
  -- one line
  pub line_goes : (v : View) (l : ScriptLine) (a : Answer) (u : View) → DidMove v (move_of l a) u → IsSerializable sound_law u
      → Draws v.tail u.tail (Some l.command) a × (v.tail ≤ u.tail)
  line_goes v l a u did lawful =
      let goes = go v u (move_of l a ∷ []) (u, did, lawful, refl) in
      (move_draws v l a u goes.0 lawful did, goes.1)

  pub all_later : (script : List ScriptLine) (answers : List Answer) (v t : View) → IsExecution v (line_moves script answers) t
      → (s : Said) → s ∈ said_of script answers → Later v.tail s
  all_later [] answers v t executed s m = absurd (none_in_nil s m)
  all_later (l ∷ script) [] v t executed s m = absurd (none_in_nil s m)
  all_later (l ∷ script) (a ∷ answers) v t (u, did, lawful, rest) s m =
      let first : Said = record { session = l.session; asked = Some l.command; answer = a } in
      let here = line_goes v l a u did lawful in
      ⊎_elim (λ (same : first ≡ s). subst (λ (x : Said). Later v.tail x) same (later_of v.tail u.tail first here.0))
      (λ (later : s ∈ said_of script answers). later_still v.tail u.tail s here.1 (all_later script answers u t rest s later))
      (∈-cons s first (said_of script answers) m)

  pub all_before : (script : List ScriptLine) (answers : List Answer) (v t : View) → IsExecution v (line_moves script answers) t → Pairs Before (said_of script answers)
  all_before [] answers v t executed = tt
  all_before (l ∷ script) [] v t executed = tt
  all_before (l ∷ script) (a ∷ answers) v t (u, did, lawful, rest) =
      let first : Said = record { session = l.session; asked = Some l.command; answer = a } in (
        λ s m. before_of v.tail u.tail first s (line_goes v l a u did lawful).0 (all_later script answers u t rest s m),
        all_before script answers u t rest,
      )

  -- no line begins where the log stops
  pub all_stop : (script : List ScriptLine) (answers : List Answer) (v t : View) → IsExecution v (line_moves script answers) t
      → (s : Said) → s ∈ said_of script answers → IfSome (begin_told s.answer) (λ begin. begin < STOP)
  all_stop [] answers v t executed s m = absurd (none_in_nil s m)
  all_stop (l ∷ script) [] v t executed s m = absurd (none_in_nil s m)
  all_stop (l ∷ script) (a ∷ answers) v t (u, did, lawful, rest) s m =
      let first : Said = record { session = l.session; asked = Some l.command; answer = a } in
      let here = line_goes v l a u did lawful in
      ⊎_elim (λ (same : first ≡ s). subst (λ (x : Said). IfSome (begin_told x.answer) (λ begin. begin < STOP)) same (if_told (begin_told a) (λ begin. begin < STOP) (λ begin told. (here.0.begin begin told).2)))
      (λ (later : s ∈ said_of script answers). all_stop script answers u t rest s later)
      (∈-cons s first (said_of script answers) m)

  -- at the end all that was told lies below
  pub all_earlier : (script : List ScriptLine) (answers : List Answer) (v t : View) → IsExecution v (line_moves script answers) t
      → (s : Said) → s ∈ said_of script answers → Earlier t.tail s
  all_earlier [] answers v t executed s m = absurd (none_in_nil s m)
  all_earlier (l ∷ script) [] v t executed s m = absurd (none_in_nil s m)
  all_earlier (l ∷ script) (a ∷ answers) v t (u, did, lawful, rest) s m =
      let first : Said = record { session = l.session; asked = Some l.command; answer = a } in
      let here = line_goes v l a u did lawful in
      ⊎_elim (λ (same : first ≡ s). subst (λ (x : Said). Earlier t.tail x) same (earlier_of v.tail u.tail t.tail first (go u t (line_moves script answers) rest).1 here.0))
      (λ (later : s ∈ said_of script answers). all_earlier script answers u t rest s later)
      (∈-cons s first (said_of script answers) m)

-- so is what is so of each two in time
pub in_time : (P : Said → Said → Type 0) (said : List Said) → Pairs Before said → ((a b : Said) → Before a b → P a b) → AllInTime InTurn P said
in_time P said before gives =
    let pairs = pairs_from Before P said before (λ a b m n is. gives a b is) in λ i j d first in_it earlier. all_pairs P said pairs i j d first in_it
