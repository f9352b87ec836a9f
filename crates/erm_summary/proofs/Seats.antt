-- What is kept of all sessions, answer by answer.
use Rattle.std.proofs.Common.{◌≡◌, ℕ, zero, suc, ◌+◌, ◌<◌, ◌≤◌, ◌^◌, true, eqb, cond, List, [], ◌∷◌, ◌++◌, length, get_or, take, Option, Some, None, Result, Ok, Err, OnOk, refl, sym, ap, ◌∙◌, subst, arith, append-nil}
use Rattle.std.specs.List.{filter_map, flat_map, range_with_len, slice_get}
use Rattle.std.specs.Option.{option_to_list}
use Rattle.std.proofs.Math.ListN.{set}
use Rattle.std.proofs.lemmas.Bool.{ne_eqb}
use Rattle.std.proofs.lemmas.Bool.Decides.{nat_tests}
use Rattle.std.proofs.lemmas.List.{map-append}
use Rattle.std.proofs.lemmas.List.Sums.{fold-append}
use Rattle.std.proofs.lemmas.List.Elements.{filter_map-append}
use Rattle.erm_report.specs.declared.answer.Answer.{Answer}
use Rattle.erm_script.specs.declared.script.ScriptLine.{ScriptLine}
use Rattle.erm_good_report.specs.GoodReport.{serial_of}
use Rattle.erm_good_report.specs.Transactions.{Said, said_of, Transaction, Progress, ended_as, nothing, heard, progress_of, committed_of, history_of, transactions_of}
use Rattle.erm_summary.specs.declared.hearing.Begun.{Begun}
use Rattle.erm_summary.specs.declared.hearing.Session.{Session}
use Rattle.erm_summary.specs.Told.{Follows, IsCurrent, FollowEach, HaveRoom, committed_as_told, history_told, taken_in}

own : (a b : ℕ) → a ≡ b → eqb a b ≡ true
own a b same = grind (arith, nat_tests)

-- a session's transactions after one more answer
own_answer : (session : ℕ) (said : List Said) (s : Said) → s.session ≡ session → progress_of session (said ++ s ∷ []) ≡ heard session s.asked s.answer (progress_of session said)
own_answer session said s same =
    fold-append (λ p s. cond (eqb s.session session) (heard session s.asked s.answer p) p) nothing said (s ∷ [])
    ∙ ap (λ b. cond b (heard session s.asked s.answer (progress_of session said)) (progress_of session said)) (own s.session session same)

other_answer : (session : ℕ) (said : List Said) (s : Said) → (s.session ≡ session → ⊥) → progress_of session (said ++ s ∷ []) ≡ progress_of session said
other_answer session said s other =
    fold-append (λ p s. cond (eqb s.session session) (heard session s.asked s.answer p) p) nothing said (s ∷ [])
    ∙ ap (λ b. cond b (heard session s.asked s.answer (progress_of session said)) (progress_of session said)) (ne_eqb s.session session other)

module _ (script : List ScriptLine) (answers : List Answer) where
  -- an answer to none of these sessions
  pub other_seats : (said : List Said) (s : Said) (first : ℕ) (sessions : List Session) → (first ≤ s.session → s.session < first + length sessions → ⊥) → FollowEach script answers said first sessions →
      FollowEach script answers (said ++ s ∷ []) first sessions
  other_seats said s first [] out each = tt
  other_seats said s first (x ∷ sessions) out (seat, follows, each) = (
    seat,
    subst (λ p. Follows script answers p x) (sym (other_answer first said s (λ equal. out (omega (arith, equal)) (omega (arith, equal))))) follows,
    other_seats said s (first + 1) sessions (λ low high. out (omega (arith, low)) (omega (arith, high))) each,
  )

  -- an answer to one of them
  pub own_seat : (said : List Said) (s : Said) (first k : ℕ) (sessions : List Session) (old new : Session) → k < length sessions → get_or sessions k old ≡ old → s.session ≡ first + k →
      ((p : Progress) → Follows script answers p old → Follows script answers (heard old.seat s.asked s.answer p) new) → new.seat ≡ old.seat → FollowEach script answers said first sessions →
      FollowEach script answers (said ++ s ∷ []) first (set sessions k new)
  own_seat said s first k [] old new within at own goes same each = absurd (omega (arith, within))
  own_seat said s first zero (x ∷ sessions) old new within at own goes same (seat, follows, each) =
      let at_first : old.seat ≡ first = ap (λ (y : Session). y.seat) (sym at) ∙ seat in
      let before : Follows script answers (progress_of first said) old = subst (Follows script answers (progress_of first said)) at follows in (
        same ∙ at_first,
        subst (λ p. Follows script answers p new) (sym (own_answer first said s (omega (arith, own))))
            (subst (λ n. Follows script answers (heard n s.asked s.answer (progress_of first said)) new) at_first (goes (progress_of first said) before)),
        other_seats said s (first + 1) sessions (λ low high. omega (arith, own, low)) each,
      )
  own_seat said s first (suc k) (x ∷ sessions) old new within at own goes same (seat, follows, each) = (
    seat,
    subst (λ p. Follows script answers p x) (sym (other_answer first said s (λ equal. omega (arith, own, equal)))) follows,
    own_seat said s (first + 1) k sessions old new (omega (arith, within)) at (omega (arith, own)) goes same each,
  )

  -- one more session, which was not answered yet
  pub one_more_seat : (first : ℕ) (sessions : List Session) (s : Session) → s.seat ≡ first + length sessions → Follows script answers nothing s → FollowEach script answers [] first sessions →
      FollowEach script answers [] first (sessions ++ s ∷ [])
  one_more_seat first [] s seat follows each = (omega (arith, seat), follows, tt)
  one_more_seat first (x ∷ sessions) s seat follows (same, before, each) = (same, before, one_more_seat (first + 1) sessions s (omega (arith, seat)) follows each)

  -- the commits of one session, and of all; and so the snapshots that ended
  none_current : (seat : ℕ) (o : Option Transaction) (b : Option Begun) → IsCurrent script answers seat o b → history_of (option_to_list o) ≡ []
  none_current seat None b h = refl
  none_current seat (Some t) None h = absurd h
  none_current seat (Some t) (Some b) h =
      ap (λ e. history_of (record t { ending = e } ∷ [])) h.ending

  one_history : (p : Progress) (s : Session) → Follows script answers p s → history_of (p.over ++ option_to_list p.current) ≡ history_told script answers s.commits.items
  one_history p s f =
      filter_map-append committed_of p.over (option_to_list p.current)
      ∙ ap (λ more. history_of p.over ++ more) (none_current s.seat p.current s.current f.current)
      ∙ append-nil (history_of p.over) ∙ f.commits

  all_histories : (said : List Said) (first : ℕ) (sessions : List Session) → FollowEach script answers said first sessions →
      history_told script answers (flat_map (λ s. s.commits.items) sessions)
      ≡ history_of (flat_map (λ session. (progress_of session said).over ++ option_to_list (progress_of session said).current) (range_with_len first (length sessions)))
  all_histories said first [] each = refl
  all_histories said first (s ∷ sessions) (seat, follows, each) =
      let rest = flat_map (λ session. (progress_of session said).over ++ option_to_list (progress_of session said).current) (range_with_len (first + 1) (length sessions)) in
      let p = progress_of first said in
      map-append (committed_as_told script answers) s.commits.items (flat_map (λ s. s.commits.items) sessions)
      ∙ ap (λ more. history_told script answers s.commits.items ++ more) (all_histories said (first + 1) sessions each)
      ∙ ap (λ more. more ++ history_of rest) (sym (one_history p s follows))
      ∙ sym (filter_map-append committed_of (p.over ++ option_to_list p.current) rest)

  all_ended : (said : List Said) (first : ℕ) (sessions : List Session) → FollowEach script answers said first sessions →
      history_told script answers (flat_map (λ s. s.ended.items) sessions)
      ≡ flat_map (λ session. filter_map (ended_as session) (progress_of session said).snapshots) (range_with_len first (length sessions))
  all_ended said first [] each = refl
  all_ended said first (s ∷ sessions) (seat, follows, each) =
      let rest = flat_map (λ session. filter_map (ended_as session) (progress_of session said).snapshots) (range_with_len (first + 1) (length sessions)) in
      let here : filter_map (ended_as first) (progress_of first said).snapshots ≡ history_told script answers s.ended.items =
      subst (λ (q : ℕ). filter_map (ended_as q) (progress_of first said).snapshots ≡ history_told script answers s.ended.items) seat follows.ended
      in
      map-append (committed_as_told script answers) s.ended.items (flat_map (λ s. s.ended.items) sessions)
      ∙ ap (λ more. history_told script answers s.ended.items ++ more) (all_ended said (first + 1) sessions each)
      ∙ ap (λ more. more ++ rest) (sym here)

  pub all_placed : (said : List Said) (sessions : List Session) → FollowEach script answers said 1 sessions →
      history_told script answers (flat_map (λ s. s.commits.items) sessions ++ flat_map (λ s. s.ended.items) sessions) ≡ serial_of (length sessions) said
  all_placed said sessions each =
      map-append (committed_as_told script answers) (flat_map (λ s. s.commits.items) sessions) (flat_map (λ s. s.ended.items) sessions)
      ∙ ap (λ more. more ++ history_told script answers (flat_map (λ s. s.ended.items) sessions)) (all_histories said 1 sessions each)
      ∙ ap (λ more. history_of (transactions_of (length sessions) said) ++ more) (all_ended said 1 sessions each)

-- room for transactions and snapshots
pub less_room : (n m : ℕ) (sessions : List Session) → n ≤ m → HaveRoom m sessions → HaveRoom n sessions
less_room n m [] less room = tt
less_room n m (s ∷ sessions) less (here, room) = (omega (arith, less, here), less_room n m sessions less room)

pub room_at : (n k : ℕ) (sessions : List Session) (s : Session) → k < length sessions → get_or sessions k s ≡ s → HaveRoom n sessions → taken_in s + n < 2 ^ 32
room_at n k [] s within at room = absurd (omega (arith, within))
room_at n zero (x ∷ sessions) s within at (here, room) = subst (λ (y : Session). taken_in y + n < 2 ^ 32) at here
room_at n (suc k) (x ∷ sessions) s within at (here, room) = room_at n k sessions s (omega (arith, within)) at room

pub room_left : (n k : ℕ) (sessions : List Session) (old new : Session) → k < length sessions → get_or sessions k old ≡ old → taken_in new ≤ taken_in old + 1 → HaveRoom (n + 1) sessions → HaveRoom n (set sessions k new)
room_left n k [] old new within at grows room = absurd (omega (arith, within))
room_left n zero (x ∷ sessions) old new within at grows (here, room) =
    let now : taken_in old + (n + 1) < 2 ^ 32 = subst (λ (y : Session). taken_in y + (n + 1) < 2 ^ 32) at here in
    (omega (arith, now, grows), less_room n (n + 1) sessions (omega arith) room)
room_left n (suc k) (x ∷ sessions) old new within at grows (here, room) = (omega (arith, here), room_left n k sessions old new (omega (arith, within)) at grows room)

pub room_for_one : (n : ℕ) (sessions : List Session) (s : Session) → taken_in s + n < 2 ^ 32 → HaveRoom n sessions → HaveRoom n (sessions ++ s ∷ [])
room_for_one n [] s more room = (more, tt)
room_for_one n (x ∷ sessions) s more (here, room) = (here, room_for_one n sessions s more room)

-- the first places of a script with its answers
pub said_longer : (script : List ScriptLine) (answers : List Answer) (i : ℕ) (l : ScriptLine) (a : Answer) → slice_get script i ≡ Some l → slice_get answers i ≡ Some a →
    take (suc i) (said_of script answers) ≡ take i (said_of script answers) ++ record { session = l.session; asked = Some l.command; answer = a } ∷ []
said_longer [] answers i l a line at = cc
said_longer (x ∷ script) [] i l a line at = cc
said_longer (x ∷ script) (y ∷ answers) zero l a line at =
    let one : x ≡ l = cc in
    let two : y ≡ a = cc in
    ap (λ (v : ScriptLine). record { session = v.session; asked = Some v.command; answer = y } ∷ []) one ∙ ap (λ v. record { session = l.session; asked = Some l.command; answer = v } ∷ []) two
said_longer (x ∷ script) (y ∷ answers) (suc i) l a line at =
    ap (λ more. record { session = x.session; asked = Some x.command; answer = y } ∷ more) (said_longer script answers i l a line at)

pub said_no_longer : (script : List ScriptLine) (answers : List Answer) (i : ℕ) → slice_get answers i ≡ None → take (suc i) (said_of script answers) ≡ take i (said_of script answers)
said_no_longer [] answers zero none = refl
said_no_longer [] answers (suc i) none = refl
said_no_longer (x ∷ script) [] zero none = refl
said_no_longer (x ∷ script) [] (suc i) none = refl
said_no_longer (x ∷ script) (y ∷ answers) zero none = cc
said_no_longer (x ∷ script) (y ∷ answers) (suc i) none =
    ap (λ more. record { session = x.session; asked = Some x.command; answer = y } ∷ more) (said_no_longer script answers i none)

pub said_whole : (script : List ScriptLine) (answers : List Answer) → take (length script) (said_of script answers) ≡ said_of script answers
said_whole [] answers = refl
said_whole (x ∷ script) [] = refl
said_whole (x ∷ script) (y ∷ answers) = ap (λ more. record { session = x.session; asked = Some x.command; answer = y } ∷ more) (said_whole script answers)

-- what is so of a value by two facts of it
pub both_ok : {X E : Type 0} {P Q R : Type 0} (r : Result X E) → (P → Q → R) → OnOk r P → OnOk r Q → OnOk r R
both_ok (Ok x) f p q = f p q
both_ok (Err e) f p q = tt
