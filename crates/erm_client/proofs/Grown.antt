-- A transcript with one line more: whose lines it has, and how it goes on.
use Rattle.std.proofs.Common.{◌≡◌, ℕ, zero, suc, ◌+◌, ◌≤◌, List, [], ◌∷◌, ◌++◌, length, Some, inl, inr, sym, ap, ◌∙◌, subst, arith, le_trans}
use Rattle.std.proofs.lemmas.List.{length-append}
use Rattle.std.specs.List.{slice_get}
use Rattle.erm_client.proofs.Runs.{more_ran, none_ran, stopped_ran}
use Rattle.erm_client.specs.Clients.{HasRun, RanStarved, RanUpTo}
use Rattle.erm_client.specs.declared.transcript.Standing.{Standing}
use Rattle.erm_client.specs.declared.transcript.Standing.TheVariants as standing
use Rattle.erm_client.specs.declared.transcript.Transcript.{Transcript}
use Rattle.erm_client.specs.Refusals.{MayTell}
use Rattle.erm_client.specs.Transcripts.{EndsWith, HasAnswers, HasMore, IsLine, IsNew, IsSame, IsTranscript, KeepsRoom, Starves}
use Rattle.erm_lines_at_once.specs.Answers.{DidLineBeside}
use Rattle.erm_model.proofs.Members.{slice_get-push, ∈-push}
use Rattle.erm_model.specs.Member.{◌∈◌}
use Rattle.erm_report.specs.declared.answer.Answer.{Answer}
use Rattle.erm_script.specs.declared.script.ScriptLine.{ScriptLine}
use Rattle.erm_worker.specs.Work.{RanLines, WasLeft}
use Rattle.erm_world.specs.Face.{Grows}
use Rattle.erm_world.specs.World.{View}

-- ROOM is never given back.
pub room_then : {c d e : Transcript} → KeepsRoom c d → KeepsRoom d e → KeepsRoom c e
room_then first second = record { lines = le_trans first.lines second.lines; answers = le_trans first.answers second.answers }

-- HOW MANY ANSWERS
pub open_each : (c : Transcript) → IsTranscript c → c.standing ≡ standing.Open → length c.answers.items ≡ length c.lines.items
open_each c ok opened = subst (λ (s : Standing). HasAnswers s (length c.lines.items) (length c.answers.items)) opened ok.each

-- LINES
own_more : (c d : Transcript) (l : ScriptLine) → IsTranscript c → IsLine c.seat l → d.seat ≡ c.seat → d.lines.items ≡ c.lines.items ++ l ∷ []
    → (x : ScriptLine) → x ∈ d.lines.items → IsLine d.seat x
own_more c d l ok line seat lines x there =
    let m : x ∈ (c.lines.items ++ l ∷ []) = subst (λ (ls : List ScriptLine). x ∈ ls) lines there in
    subst (λ (n : ℕ). IsLine n x) (sym seat) (elim (∈-push c.lines.items l x m) [
      | inl before ↦ ok.own x before
      | inr same ↦ subst (λ (y : ScriptLine). IsLine c.seat y) (sym same) line
    ])

-- ANSWERS
told_more : (c d : Transcript) (l : ScriptLine) (a : Answer) → IsTranscript c → length c.answers.items ≡ length c.lines.items → MayTell l.command a → HasMore c l a d
    → (k : ℕ) (x : ScriptLine) (b : Answer) → slice_get d.lines.items k ≡ Some x → slice_get d.answers.items k ≡ Some b → MayTell x.command b
told_more c d l a ok each tells more k x b at answered =
    let line : slice_get (c.lines.items ++ l ∷ []) k ≡ Some x = subst (λ (ls : List ScriptLine). slice_get ls k ≡ Some x) more.lines at in
    let answer : slice_get (c.answers.items ++ a ∷ []) k ≡ Some b = subst (λ (gs : List Answer). slice_get gs k ≡ Some b) more.answers answered in
    elim (slice_get-push c.lines.items l x k line) [
      | inl before ↦ elim (slice_get-push c.answers.items a b k answer) [
        | inl earlier ↦ ok.told k x b before.1 earlier.1
        | inr last ↦ absurd (omega (arith, before.0, last.0, each))
      ]
      | inr new ↦ elim (slice_get-push c.answers.items a b k answer) [
        | inl earlier ↦ absurd (omega (arith, earlier.0, new.0, each))
        | inr last ↦ subst (λ (y : ScriptLine). MayTell y.command b) new.1 (subst (λ (y : Answer). MayTell l.command y) last.1 tells)
      ]
    ]

pub more_transcript : (c d : Transcript) (l : ScriptLine) (a : Answer) → IsTranscript c → c.standing ≡ standing.Open → IsLine c.seat l → MayTell l.command a → HasMore c l a d → IsTranscript d
more_transcript c d l a ok opened line tells more =
    let each : length c.answers.items ≡ length c.lines.items = open_each c ok opened in
    let now : length d.answers.items ≡ length d.lines.items =
    omega (arith, each, ap (λ (xs : List Answer). length xs) more.answers, ap (λ (xs : List ScriptLine). length xs) more.lines, length-append c.answers.items (a ∷ []), length-append c.lines.items (l ∷ [])) in
    record {
      own = own_more c d l ok line more.seat more.lines;
      each = subst (λ (s : Standing). HasAnswers s (length d.lines.items) (length d.answers.items)) (sym (more.standing_so ∙ opened)) now;
      told = told_more c d l a ok each tells more;
    }

pub ended_transcript : (c d : Transcript) (l : ScriptLine) → IsTranscript c → c.standing ≡ standing.Open → IsLine c.seat l → EndsWith c l d → IsTranscript d
ended_transcript c d l ok opened line ends =
    let each : length c.answers.items ≡ length c.lines.items = open_each c ok opened in
    let now : length d.answers.items + 1 ≡ length d.lines.items =
    omega (arith, each, ap (λ (xs : List Answer). length xs) ends.answers, ap (λ (xs : List ScriptLine). length xs) ends.lines, length-append c.lines.items (l ∷ [])) in
    record {
      own = own_more c d l ok line ends.seat ends.lines;
      each = subst (λ (s : Standing). HasAnswers s (length d.lines.items) (length d.answers.items)) (sym ends.standing_so) now;
      told = λ k x b at answered.
          let answer : slice_get c.answers.items k ≡ Some b = subst (λ (gs : List Answer). slice_get gs k ≡ Some b) ends.answers answered in
          let there : slice_get (c.lines.items ++ l ∷ []) k ≡ Some x = subst (λ (ls : List ScriptLine). slice_get ls k ≡ Some x) ends.lines at in
          elim (slice_get-push c.lines.items l x k there) [
            | inl before ↦ ok.told k x b before.1 answer
            | inr new ↦ absurd (beyond c.answers.items k b answer (omega (arith, new.0, each)))
          ];
    }
  where
    beyond : (xs : List Answer) (k : ℕ) (x : Answer) → slice_get xs k ≡ Some x → k ≡ length xs → ⊥
    beyond [] k x there is = cc
    beyond (y ∷ xs) zero x there is = absurd (omega arith)
    beyond (y ∷ xs) (suc k) x there is = beyond xs k x there (omega arith)

-- nothing more, but for how it stands
pub same_transcript : (c d : Transcript) → IsTranscript c → d.seat ≡ c.seat → d.lines.items ≡ c.lines.items → d.answers.items ≡ c.answers.items
    → HasAnswers d.standing (length c.lines.items) (length c.answers.items) → IsTranscript d
same_transcript c d ok seat lines answers each = record {
  own = λ x there. subst (λ (n : ℕ). IsLine n x) (sym seat) (ok.own x (subst (λ (ls : List ScriptLine). x ∈ ls) lines there));
  each = subst (λ (ls : List ScriptLine). HasAnswers d.standing (length ls) (length d.answers.items)) (sym lines)
      (subst (λ (gs : List Answer). HasAnswers d.standing (length c.lines.items) (length gs)) (sym answers) each);
  told = λ k x b at answered. ok.told k x b (subst (λ (ls : List ScriptLine). slice_get ls k ≡ Some x) lines at) (subst (λ (gs : List Answer). slice_get gs k ≡ Some b) answers answered);
}

-- RUNS
module _ (f v u t : View) (c d : Transcript) where
  now_open : c.standing ≡ standing.Open → HasRun f v c u → RanLines f c.seat c.lines.items c.answers.items v u
  now_open opened ran = subst (λ (s : Standing). RanUpTo s f c.seat c.lines.items c.answers.items v u) opened ran

  pub run_more : (l : ScriptLine) (a : Answer) → IsTranscript c → c.standing ≡ standing.Open → IsLine c.seat l → HasMore c l a d → HasRun f v c u → DidLineBeside f l a u t → HasRun f v d t
  run_more l a ok opened line more ran did =
      let it : RanLines f c.seat (c.lines.items ++ l ∷ []) (c.answers.items ++ a ∷ []) v t =
      more_ran f c.seat c.lines.items c.answers.items l v u t (now_open opened ran) (open_each c ok opened) a line.own line.may.of_session did in
      subst (λ (s : Standing). RanUpTo s f d.seat d.lines.items d.answers.items v t) (sym (more.standing_so ∙ opened))
      (subst (λ (n : ℕ). RanLines f n d.lines.items d.answers.items v t) (sym more.seat)
      (subst (λ (ls : List ScriptLine). RanLines f c.seat ls d.answers.items v t) (sym more.lines)
      (subst (λ (gs : List Answer). RanLines f c.seat (c.lines.items ++ l ∷ []) gs v t) (sym more.answers) it)))

  pub run_ends : (l : ScriptLine) → IsTranscript c → c.standing ≡ standing.Open → IsLine c.seat l → EndsWith c l d → HasRun f v c u → WasLeft f l.session (Some l) u t → HasRun f v d t
  run_ends l ok opened line ends ran left =
      let it : RanLines f c.seat (c.lines.items ++ l ∷ []) c.answers.items v t =
      stopped_ran f c.seat c.lines.items c.answers.items l v u t (now_open opened ran) (open_each c ok opened) (subst (λ (n : ℕ). WasLeft f n (Some l) u t) line.own left) in
      subst (λ (s : Standing). RanUpTo s f d.seat d.lines.items d.answers.items v t) (sym ends.standing_so)
      (subst (λ (n : ℕ). RanLines f n d.lines.items d.answers.items v t) (sym ends.seat)
      (subst (λ (ls : List ScriptLine). RanLines f c.seat ls d.answers.items v t) (sym ends.lines)
      (subst (λ (gs : List Answer). RanLines f c.seat (c.lines.items ++ l ∷ []) gs v t) (sym ends.answers) it)))

  pub run_starves : IsTranscript c → c.standing ≡ standing.Open → Starves c d → (u.tail ≤ f.tail) × (u.flushed ≤ f.flushed) → Grows (u.session c.seat) (t.session c.seat) → HasRun f v c u
      → HasRun f v d t
  run_starves ok opened starves within grown ran =
      let it = now_open opened ran in
      let short : RanStarved f c.seat c.lines.items c.answers.items v t = record {
        last = it.last;
        run = it.run;
        within = subst (λ (x : View). (x.tail ≤ f.tail) × (x.flushed ≤ f.flushed)) (sym (it.whole (open_each c ok opened))) within;
        went = subst (λ (x : View). Grows (x.session c.seat) (t.session c.seat)) (sym (it.whole (open_each c ok opened))) grown;
      } in
      subst (λ (s : Standing). RanUpTo s f d.seat d.lines.items d.answers.items v t) (sym starves.standing_so)
      (subst (λ (n : ℕ). RanUpTo standing.Starved f n d.lines.items d.answers.items v t) (sym starves.seat)
      (subst (λ (ls : List ScriptLine). RanUpTo standing.Starved f c.seat ls d.answers.items v t) (sym starves.lines)
      (subst (λ (gs : List Answer). RanUpTo standing.Starved f c.seat c.lines.items gs v t) (sym starves.answers) short)))

  pub run_same : IsSame c d → HasRun f v c t → HasRun f v d t
  run_same same ran =
      subst (λ (s : Standing). RanUpTo s f d.seat d.lines.items d.answers.items v t) (sym same.standing_so)
      (subst (λ (n : ℕ). RanUpTo c.standing f n d.lines.items d.answers.items v t) (sym same.seat)
      (subst (λ (ls : List ScriptLine). RanUpTo c.standing f c.seat ls d.answers.items v t) (sym same.lines)
      (subst (λ (gs : List Answer). RanUpTo c.standing f c.seat c.lines.items gs v t) (sym same.answers) ran)))

pub new_ran : (f v : View) (seat : ℕ) (c : Transcript) → IsNew seat c → HasRun f v c v
new_ran f v seat c new =
    subst (λ (s : Standing). RanUpTo s f c.seat c.lines.items c.answers.items v v) (sym new.opened)
    (subst (λ (ls : List ScriptLine). RanLines f c.seat ls c.answers.items v v) (sym new.lines)
    (subst (λ (gs : List Answer). RanLines f c.seat [] gs v v) (sym new.answers) (none_ran f c.seat v)))
