-- A line of a run: what is so before it.
use Rattle.std.proofs.Common.{◌≡◌, ℕ, zero, suc, ◌+◌, ◌*◌, ◌≤◌, true, List, [], ◌∷◌, ◌++◌, Some, length, take, slice_get, is_some, min, append-nil, append_assoc, refl, sym, ap, ◌∙◌, subst, inl, ⊎_elim, arith}
use Rattle.std.proofs.lemmas.List.Sums.{sum_by-append}
use Rattle.erm_model.specs.declared.limits.TheConstants.{GREATEST_BLOCK, WRITE_LIMIT}
use Rattle.erm_model.specs.declared.outcome.Phase.TheVariants.{Active}
use Rattle.erm_node.specs.Sound.{sound_law}
use Rattle.erm_report.specs.declared.answer.Answer.{Answer}
use Rattle.erm_script.specs.declared.script.ScriptLine.{ScriptLine}
use Rattle.erm_world.specs.Laws.{IsSerializable}
use Rattle.erm_world.specs.Works.{row_read}
use Rattle.erm_world.specs.World.{IsSession, Session, View, claims_in, phase_of, work_at, work_of}
use Rattle.erm_world.specs.World as world
use Rattle.erm_good_report.specs.Refusals.{draws_of, total_of}
use Rattle.erm_good_report.specs.Transactions.{Said, Transaction, progress_of, said_of}
use Rattle.erm_lines.specs.Answers.{DidLine}
use Rattle.erm_lines.specs.Executions.{DidLogLine, DidMove, IsExecution, IsOpened, line_moves, move_of}
use Rattle.erm_lines.proofs.Moved.{log_flushes, moved}
use Rattle.erm_told_limits.proofs.Grown.{Apart, nothing_apart}
use Rattle.erm_told_limits.proofs.Heard.{may_claim}
use Rattle.erm_told_limits.proofs.Holds.{Holds, Laws, holds_moved, said_by}
use Rattle.erm_told_limits.proofs.Moved.{mades_in}
use Rattle.erm_told_limits.proofs.Turns.{line_turned}
use Rattle.erm_told_limits.proofs.Totals.{claims_none, total_zero}

-- in a world that was just opened nothing was done
module _ (v : View) (opened : IsOpened v) where
  by_idle : (B : Session → Type 0) → B (record { over = []; stand = world.idle }) → (seat : ℕ) → IsSession v seat → B (v.session seat)
  by_idle B idle seat session = subst B (sym (opened.idle seat session)) idle

  pub opened_holds : Holds [] [] v
  opened_holds = record {
    serializable = opened.serializable;
    runs = λ seat session active. let no = by_idle (λ s. phase_of s.stand ≡ Active → ⊥) (λ e. cc) seat session in absurd (no active);
    mades = omega (arith, total_zero mades_in v.opening.sessions v.session (λ q above within. by_idle (λ s. mades_in s ≡ 0) refl q (above, within)));
    claims = omega (arith, claims_none v (λ q above within. by_idle (λ s. claims_in s ≡ 0) refl q (above, within)));
    tail = omega (arith, opened.tail);
    over = λ seat session. by_idle (λ s. length s.over ≤ 0) (omega arith) seat session;
    few = λ seat session. by_idle (λ s. length (work_of s.stand).claims ≤ WRITE_LIMIT) (omega arith) seat session;
    own = λ seat t session e. let none = by_idle (λ s. length (work_of s.stand).claims ≡ 0) refl seat session in omega (arith, none);
    apart = λ seat session. by_idle (λ s. Apart (work_of s.stand).reads) nothing_apart seat session;
    seeks = λ range seat t session e. let none = by_idle (λ s. length (work_of s.stand).reads ≡ 0) refl seat session in inl (omega (arith, none));
    known = λ range seat x session read.
        let no = by_idle (λ s. is_some (row_read (work_of s.stand).reads x) ≡ true → ⊥) (λ e. cc) seat session in
        absurd (no read);
  }

claims_here : (front : List ScriptLine) (said : List Said) (v end : View) → Holds front said v → end ≡ v → (seat : ℕ) (t : Transaction) → IsSession end seat → (progress_of seat (said ++ [])).current ≡ Some t
    → length (work_at end seat).claims ≤ min WRITE_LIMIT (may_claim t)
claims_here front said v end holds is seat t session e =
    let there : IsSession v seat = subst (λ (x : View). IsSession x seat) is session in
    let told : (progress_of seat said).current ≡ Some t = subst (λ (s : List Said). (progress_of seat s).current ≡ Some t) (append-nil said) e in
    let few = holds.few seat there in
    let own = holds.own seat t there told in
    let same : length (work_at end seat).claims ≡ length (work_at v seat).claims = ap (λ (x : View). length (work_at x seat).claims) is in
    omega (arith, few, own, same)

-- a line of the script that was run, with what is so before it
pub record AtMove (first : View) (ls : List ScriptLine) (said : List Said) (l : ScriptLine) (a : Answer) : Type 0 where
  pub v : View
  pub t : View
  pub holds : Holds ls said v
  pub did : DidMove v (move_of l a) t
  pub serializable : IsSerializable sound_law t
  pub opening : v.opening ≡ first.opening

-- one of a session that was answered
pub record At (first : View) (ls : List ScriptLine) (said : List Said) (l : ScriptLine) (a : Answer) : Type 0 where
  pub v : View
  pub t : View
  pub holds : Holds ls said v
  pub did : DidLine v l a t
  pub serializable : IsSerializable sound_law t
  pub opening : v.opening ≡ first.opening

pub at_session : (first : View) (ls : List ScriptLine) (said : List Said) (l : ScriptLine) (a : Answer) (at : AtMove first ls said l a) → DidLine at.v l a at.t → At first ls said l a
at_session first ls said l a at did = record { v = at.v; t = at.t; holds = at.holds; did = did; serializable = at.serializable; opening = at.opening }

module _ (laws : Laws) (first : View) where
  still_open : (ls : List ScriptLine) (said : List Said) (v : View) (l : ScriptLine) (a : Answer) (t : View) → Holds ls said v → DidMove v (move_of l a) t → IsSerializable sound_law t → t.opening ≡ v.opening
  still_open ls said v l a t holds did serializable =
      ⊎_elim (λ (of_session : DidLine v l a t). (line_turned laws.rows_below laws.ways v l a t of_session serializable (holds.runs l.session of_session.session)).opening)
      (λ (of_log : DidLogLine v l a t). (log_flushes v t l a of_log).opening)
      (moved v l a t did)

  pub at_line : (script : List ScriptLine) (answers : List Answer) (front : List ScriptLine) (said : List Said) (v end : View) → Holds front said v → v.opening ≡ first.opening
      → IsExecution v (line_moves script answers) end → (i : ℕ) (l : ScriptLine) (a : Answer) → slice_get script i ≡ Some l → slice_get answers i ≡ Some a
      → AtMove first (front ++ take i script) (said ++ take i (said_of script answers)) l a
  at_line [] answers front said v end holds opening runs i l a e f = absurd (cc)
  at_line (k ∷ script) [] front said v end holds opening runs i l a e f = absurd (cc)
  at_line (k ∷ script) (b ∷ answers) front said v end holds opening runs zero l a e f =
      let same_line : k ≡ l = cc in
      let same_answer : b ≡ a = cc in
      record {
        v = v;
        t = runs.0;
        holds = subst (λ (ls : List ScriptLine). Holds ls (said ++ []) v) (sym (append-nil front)) (subst (λ (s : List Said). Holds front s v) (sym (append-nil said)) holds);
        did = subst (λ (x : ScriptLine). DidMove v (move_of x a) runs.0) same_line (subst (λ (x : Answer). DidMove v (move_of k x) runs.0) same_answer runs.1);
        serializable = runs.2;
        opening = opening;
      }
  at_line (k ∷ script) (b ∷ answers) front said v end holds opening runs (suc i) l a e f =
      let u = runs.0 in
      let then = holds_moved laws front said v holds k b u runs.1 runs.2 in
      let still : u.opening ≡ first.opening = still_open front said v k b u holds runs.1 runs.2 ∙ opening in
      let later = at_line script answers (front ++ k ∷ []) (said ++ said_by k b ∷ []) u end then still runs.3 i l a e f in
      subst (λ (ls : List ScriptLine). AtMove first ls (said ++ said_by k b ∷ take i (said_of script answers)) l a) (append_assoc front (k ∷ []) (take i script))
      (subst (λ (s : List Said). AtMove first ((front ++ k ∷ []) ++ take i script) s l a) (append_assoc said (said_by k b ∷ []) (take i (said_of script answers))) later)

  -- after all lines
  pub claims_after : (script : List ScriptLine) (answers : List Answer) (front : List ScriptLine) (said : List Said) (v end : View) → Holds front said v → IsExecution v (line_moves script answers) end
      → (seat : ℕ) (t : Transaction) → IsSession end seat → (progress_of seat (said ++ said_of script answers)).current ≡ Some t → length (work_at end seat).claims ≤ min WRITE_LIMIT (may_claim t)
  claims_after [] answers front said v end holds is seat t session e = claims_here front said v end holds is seat t session e
  claims_after (k ∷ script) [] front said v end holds is seat t session e = claims_here front said v end holds is seat t session e
  claims_after (k ∷ script) (b ∷ answers) front said v end holds runs seat t session e =
      claims_after script answers (front ++ k ∷ []) (said ++ said_by k b ∷ []) runs.0 end (holds_moved laws front said v holds k b runs.0 runs.1 runs.2) runs.3 seat t session
      (subst (λ (s : List Said). (progress_of seat s).current ≡ Some t) (sym (append_assoc said (said_by k b ∷ []) (said_of script answers))) e)

  -- where the log ends then
  tail_here : (front more : List ScriptLine) (said : List Said) (v end : View) → Holds front said v → v.opening ≡ first.opening → end ≡ v → end.tail ≤ first.opening.tail + GREATEST_BLOCK * total_of draws_of (front ++ more)
  tail_here front more said v end holds opening is =
      let all = sum_by-append (λ (k : ScriptLine). draws_of k.command) front more in
      omega (arith, all, holds.tail, ap (λ (x : View). x.tail) is, ap (λ (o : world.Opening). o.tail) opening)

  pub tail_after : (script : List ScriptLine) (answers : List Answer) (front : List ScriptLine) (said : List Said) (v end : View) → Holds front said v → v.opening ≡ first.opening → IsExecution v (line_moves script answers) end
      → end.tail ≤ first.opening.tail + GREATEST_BLOCK * total_of draws_of (front ++ script)
  tail_after [] answers front said v end holds opening is = tail_here front [] said v end holds opening is
  tail_after (k ∷ script) [] front said v end holds opening is = tail_here front (k ∷ script) said v end holds opening is
  tail_after (k ∷ script) (b ∷ answers) front said v end holds opening runs =
      let still : runs.0.opening ≡ first.opening = still_open front said v k b runs.0 holds runs.1 runs.2 ∙ opening in
      subst (λ (ls : List ScriptLine). end.tail ≤ first.opening.tail + GREATEST_BLOCK * total_of draws_of ls) (append_assoc front (k ∷ []) script)
      (tail_after script answers (front ++ k ∷ []) (said ++ said_by k b ∷ []) runs.0 end (holds_moved laws front said v holds k b runs.0 runs.1 runs.2) still runs.3)

-- the lines up to one that has been run
pub take_next : (script : List ScriptLine) (i : ℕ) (l : ScriptLine) → slice_get script i ≡ Some l → take (i + 1) script ≡ take i script ++ l ∷ []
take_next [] i l e = absurd (cc)
take_next (k ∷ script) zero l e = let is : k ≡ l = cc in ap (λ (x : ScriptLine). x ∷ []) is
take_next (k ∷ script) (suc i) l e =
    let place : suc i + 1 ≡ suc (i + 1) = omega arith in
    ap (λ (n : ℕ). take n (k ∷ script)) place ∙ ap (λ (ls : List ScriptLine). k ∷ ls) (take_next script i l e)
