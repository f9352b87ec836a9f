-- A line of a run in its world, beside those before it and those behind it.
use Rattle.std.proofs.Common.{◌≡◌, ℕ, zero, suc, ◌+◌, ◌-◌, ◌<◌, ◌≤◌, List, [], ◌∷◌, ◌++◌, take, drop, slice_get, take-take, Some, refl, sym, ap, ◌∙◌, subst, ⊎_elim, arith}
use Rattle.erm_model.specs.Member.{◌∈◌}
use Rattle.erm_model.proofs.Members.{none_in_nil}
use Rattle.erm_machine.proofs.Listed.{∈-cons}
use Rattle.erm_node.specs.Sound.{sound_law}
use Rattle.erm_report.specs.declared.answer.Answer.{Answer}
use Rattle.erm_script.specs.declared.script.ScriptLine.{ScriptLine}
use Rattle.erm_world.specs.Laws.{IsSerializable}
use Rattle.erm_world.specs.World.{View}
use Rattle.erm_good_report.specs.Stamps.{stamp_printed}
use Rattle.erm_good_report.specs.Transactions.{Said, said_of}
use Rattle.erm_good_report.proofs.Places.{said_at, said_by}
use Rattle.erm_lines.specs.Executions.{DidMove, IsExecution, Move, line_moves, move_of, said_in}
use Rattle.erm_lines.specs.Laws.{ExecutionsGoOn}
use Rattle.erm_lines.proofs.Moved.{said_move}
use Rattle.erm_told.proofs.Runs.{AtLine, at_line, executed_both, said_both, said_first, said_lines}
use Rattle.erm_told.proofs.Timing.{line_goes}

-- the moves before the line, which said this, what it did, and those behind it
pub record AtPlace (v t : View) (said : List Said) (l : ScriptLine) (a : Answer) : Type 0 where
  pub before : View
  pub after : View
  pub moves : List Move
  pub start : IsExecution v moves before
  pub says : said_in moves ≡ said
  pub did : DidMove before (move_of l a) after
  pub lawful : IsSerializable sound_law after
  pub more : List Move
  pub onward : IsExecution after more t

-- LISTS, cut in front of a place and behind it
get_taken : {X : Type 0} (xs : List X) (i j : ℕ) (x : X) → i < j → slice_get xs i ≡ Some x → slice_get (take j xs) i ≡ Some x
get_taken [] i j x less at = absurd (cc)
get_taken (y ∷ ys) i zero x less at = absurd (omega (arith, less))
get_taken (y ∷ ys) zero (suc j) x less at = at
get_taken (y ∷ ys) (suc i) (suc j) x less at = get_taken ys i j x (omega (arith, less)) at

pub get_dropped : {X : Type 0} (xs : List X) (j i d : ℕ) (x : X) → i ≡ j + d + 1 → slice_get xs i ≡ Some x → slice_get (drop (suc j) xs) d ≡ Some x
get_dropped [] j i d x is at = absurd (cc)
get_dropped (y ∷ ys) j zero d x is at = absurd (omega (arith, is))
get_dropped {X} (y ∷ ys) zero (suc i) d x is at =
    let same : i ≡ d = omega (arith, is) in subst (λ (k : ℕ). slice_get ys k ≡ Some x) same at
get_dropped (y ∷ ys) (suc j) (suc i) d x is at = get_dropped ys j i d x (omega (arith, is)) at

pub taken_apart : {X : Type 0} (xs : List X) (j i d : ℕ) (x : X) → i ≡ j + d + 1 → slice_get xs j ≡ Some x → take i xs ≡ take j xs ++ x ∷ take d (drop (suc j) xs)
taken_apart [] j i d x is at = absurd (cc)
taken_apart (y ∷ ys) j zero d x is at = absurd (omega (arith, is))
taken_apart {X} (y ∷ ys) zero (suc i) d x is at =
    let same : y ≡ x = cc in
    let place : i ≡ d = omega (arith, is) in
    ap (λ (z : X). z ∷ take i ys) same ∙ ap (λ (k : ℕ). x ∷ take k ys) place
taken_apart {X} (y ∷ ys) (suc j) (suc i) d x is at = ap (λ (zs : List X). y ∷ zs) (taken_apart ys j i d x (omega (arith, is)) at)

-- what lines say, cut so
said_none : (script : List ScriptLine) → said_of script [] ≡ []
said_none [] = refl
said_none (l ∷ script) = refl

pub said_dropped : (n : ℕ) (script : List ScriptLine) (answers : List Answer) → said_of (drop n script) (drop n answers) ≡ drop n (said_of script answers)
said_dropped zero script answers = refl
said_dropped (suc n) [] answers = refl
said_dropped (suc n) (l ∷ script) [] = said_none (drop n script)
said_dropped (suc n) (l ∷ script) (a ∷ answers) = said_dropped n script answers

pub said_taken : (j : ℕ) (script : List ScriptLine) (answers : List Answer) → said_of (take j script) (take j answers) ≡ take j (said_of script answers)
said_taken j script answers = sym (said_lines (take j script) (take j answers)) ∙ said_first j script answers

pub said_before : (script : List ScriptLine) (answers : List Answer) (i j : ℕ) (s : Said) → j < i → slice_get (said_of script answers) j ≡ Some s → s ∈ said_of (take i script) (take i answers)
said_before script answers i j s less at =
    (j, ap (λ (said : List Said). slice_get said j) (said_taken i script answers) ∙ get_taken (said_of script answers) j i s less at)

pub said_behind : (script : List ScriptLine) (answers : List Answer) (i j : ℕ) (s : Said) → i < j → slice_get (said_of script answers) j ≡ Some s
    → s ∈ said_of (drop (suc i) script) (drop (suc i) answers)
said_behind script answers i j s less at =
    let far : j ≡ i + (j - (i + 1)) + 1 = omega (arith, less) in
    (j - (i + 1), ap (λ (said : List Said). slice_get said (j - (i + 1))) (said_dropped (suc i) script answers) ∙ get_dropped (said_of script answers) i j (j - (i + 1)) s far at)

-- A LINE at its place, and one before it, or behind it
module _ (v u t : View) (script : List ScriptLine) (answers : List Answer) (closing : List Move) (closes : IsExecution u closing t) where
  abbrev pub at_place : (i : ℕ) (l : ScriptLine) (a : Answer) → AtLine v script answers u i l a → AtPlace v t (take i (said_of script answers)) l a
  at_place i l a there = record {
    before = there.before;
    after = there.after;
    moves = line_moves (take i script) (take i answers);
    start = there.start;
    says = said_first i script answers;
    did = there.did;
    lawful = there.lawful;
    more = line_moves (drop (suc i) script) (drop (suc i) answers) ++ closing;
    onward = executed_both (line_moves (drop (suc i) script) (drop (suc i) answers)) closing there.after u t there.rest closes;
  }

  module _ (go : ExecutionsGoOn) (j : ℕ) (k : ScriptLine) (b : Answer) (there : AtLine v script answers u j k b) (i : ℕ) (l : ScriptLine) (a : Answer) (at : slice_get script i ≡ Some l) (answered : slice_get answers i ≡ Some a) where
    pub earlier_place : i < j → (x : AtPlace v t (take i (said_of script answers)) l a) × (x.after.tail ≤ there.before.tail)
    earlier_place less =
        let first = at_line (take j script) (take j answers) v there.before i l a there.start (get_taken script i j l less at) (get_taken answers i j a less answered) in
        let rest = line_moves (drop (suc i) (take j script)) (drop (suc i) (take j answers)) in
        let behind = line_moves (drop (suc j) script) (drop (suc j) answers) ++ closing in
        let onward = executed_both (line_moves (drop (suc j) script) (drop (suc j) answers)) closing there.after u t there.rest closes in (
          record {
            before = first.before;
            after = first.after;
            moves = line_moves (take i (take j script)) (take i (take j answers));
            start = first.start;
            says = said_first i (take j script) (take j answers) ∙ ap (λ (said : List Said). take i said) (said_taken j script answers) ∙ take-take i j (said_of script answers) (omega (arith, less));
            did = first.did;
            lawful = first.lawful;
            more = rest ++ move_of k b ∷ behind;
            onward = executed_both rest (move_of k b ∷ behind) first.after there.before t first.rest (there.after, there.did, there.lawful, onward);
          },
          (go first.after there.before rest first.rest).1,
        )

    later_by : (d : ℕ) → i ≡ j + d + 1 → slice_get script j ≡ Some k → slice_get answers j ≡ Some b → (x : AtPlace v t (take i (said_of script answers)) l a) × (there.after.tail ≤ x.before.tail)
    later_by d far at_j answered_j =
        let later = at_line (drop (suc j) script) (drop (suc j) answers) there.after u d l a there.rest (get_dropped script j i d l far at) (get_dropped answers j i d a far answered) in
        let front = line_moves (take j script) (take j answers) in
        let between = line_moves (take d (drop (suc j) script)) (take d (drop (suc j) answers)) in
        let said = said_of script answers in (
          record {
            before = later.before;
            after = later.after;
            moves = front ++ move_of k b ∷ between;
            start = executed_both front (move_of k b ∷ between) v there.before later.before there.start (there.after, there.did, there.lawful, later.start);
            says = said_both front (move_of k b ∷ between)
                ∙ ap (λ (before : List Said). before ++ said_in (move_of k b ∷ between)) (said_first j script answers)
                ∙ ap (λ (behind : List Said). take j said ++ behind) (said_move k b between)
                ∙ ap (λ (behind : List Said). take j said ++ said_by k b ∷ behind)
                (said_first d (drop (suc j) script) (drop (suc j) answers) ∙ ap (λ (rest : List Said). take d rest) (said_dropped (suc j) script answers))
                ∙ sym (taken_apart said j i d (said_by k b) far (said_at script answers j k b at_j answered_j));
            did = later.did;
            lawful = later.lawful;
            more = line_moves (drop (suc d) (drop (suc j) script)) (drop (suc d) (drop (suc j) answers)) ++ closing;
            onward = executed_both (line_moves (drop (suc d) (drop (suc j) script)) (drop (suc d) (drop (suc j) answers))) closing later.after u t later.rest closes;
          },
          (go there.after later.before between later.start).1,
        )

    pub later_place : j < i → slice_get script j ≡ Some k → slice_get answers j ≡ Some b → (x : AtPlace v t (take i (said_of script answers)) l a) × (there.after.tail ≤ x.before.tail)
    later_place less at_j answered_j = later_by (i - (j + 1)) (omega (arith, less)) at_j answered_j

-- THE STAMPS that lines print lie below the end of the log behind them.
module _ (go : ExecutionsGoOn) where
  pub all_printed : (script : List ScriptLine) (answers : List Answer) (v t : View) → IsExecution v (line_moves script answers) t → (s : Said) → s ∈ said_of script answers
      → (stamp : ℕ) → stamp_printed s.answer ≡ Some stamp → stamp < t.tail
  all_printed [] answers v t executed s m stamp told = absurd (none_in_nil s m)
  all_printed (l ∷ script) [] v t executed s m stamp told = absurd (none_in_nil s m)
  all_printed (l ∷ script) (a ∷ answers) v t (u, did, lawful, rest) s m stamp told =
      ⊎_elim
      (λ (same : said_by l a ≡ s).
      let printed = (line_goes go v l a u did lawful).0.printed stamp (ap (λ (x : Said). stamp_printed x.answer) same ∙ told) in
      let onward = (go u t (line_moves script answers) rest).1 in
      omega (arith, printed, onward))
      (λ (later : s ∈ said_of script answers). all_printed script answers u t rest s later stamp told)
      (∈-cons s (said_by l a) (said_of script answers) m)
