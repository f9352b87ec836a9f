-- The sessions that moves close, while they are closed.
use Rattle.std.proofs.Common.{inl, inr, ⊎_elim, ◌≡◌, ◌≢◌, ℕ, ◌+◌, ◌<◌, ◌≤◌, ◌==◌, Bool, true, false, if◌then◌else◌, List, [], ◌∷◌, ◌++◌, slice_set, slice_index_or, Option, Some, None, refl, sym, ap, ◌∙◌, subst, arith, replicate}
use Rattle.std.specs.Prelude.{◌⊎◌}
use Rattle.std.specs.List.{All}
use Rattle.std.proofs.lemmas.Bool.{eq-eqb, ne_eqb}
use Rattle.std.proofs.lemmas.List.{get_or-set_same, get_or-set_other, length-set, length-replicate, get_or-replicate}
use Rattle.std.proofs.lemmas.List.Elements.{All-append}
use Rattle.erm_model.specs.declared.outcome.Phase.TheVariants as phase
use Rattle.erm_model.specs.Member.{◌∈◌}
use Rattle.erm_model.proofs.Members.{none_in_nil}
use Rattle.erm_machine.proofs.Listed.{∈-cons, ∈-either}
use Rattle.erm_node.specs.Sound.{sound_law}
use Rattle.erm_report.specs.declared.answer.Answer.{Answer}
use Rattle.erm_world.specs.Laws.{IsSerializable}
use Rattle.erm_world.specs.World.{Session, View, phase_at, phase_of}
use Rattle.erm_good_report.specs.Phases.{Closed}
use Rattle.erm_lines.specs.Executions.{closed_in, DidEnd, DidFlush, DidMove, IsExecution, IsLast, Move, close, flush, line, log}
use Rattle.erm_log_run.specs.Closing.{IsClosing, end_of}
use Rattle.erm_log_run.proofs.Passing.{Leaves, end_leaves}

-- one move more
pub execution_more : (v t u : View) (moves : List Move) (move : Move) → IsExecution v moves t → DidMove t move u → IsSerializable sound_law u → IsExecution v (moves ++ move ∷ []) u
execution_more v t u [] move is did serial = (u, subst (λ (x : View). DidMove x move u) is did, serial, refl)
execution_more v t u (m ∷ moves) move (x, first, holds, rest) did serial = (x, first, holds, execution_more x t u moves move rest did serial)

pub all_last : (moves : List Move) (move : Move) → All IsLast moves → IsLast move → All IsLast (moves ++ move ∷ [])
all_last moves move all one = All-append IsLast moves (move ∷ []) all single
  where
    single : (k : ℕ) (d : Move) → k < 1 → IsLast (slice_index_or (move ∷ []) k d)
    single k d within = let zero_is : 0 ≡ k = omega (arith, within) in subst (λ (i : ℕ). IsLast (slice_index_or (move ∷ []) i d)) zero_is one

-- a flush closes nobody
end_flush : (moves : List Move) (seat : ℕ) → end_of (moves ++ flush ∷ []) seat ≡ end_of moves seat
end_flush [] seat = refl
end_flush (line l a ∷ moves) seat = end_flush moves seat
end_flush (log l a ∷ moves) seat = end_flush moves seat
end_flush (close other a ∷ moves) seat = ap (λ (o : Option Answer). if other == seat then Some a else o) (end_flush moves seat)
end_flush (flush ∷ moves) seat = end_flush moves seat

-- a close is that of its session, where it wasn't closed before
end_other : (moves : List Move) (seat q : ℕ) (a : Answer) → seat ≢ q → end_of (moves ++ close seat a ∷ []) q ≡ end_of moves q
end_other [] seat q a other = ap (λ (b : Bool). if b then Some a else None) (ne_eqb seat q other)
end_other (line l b ∷ moves) seat q a other = end_other moves seat q a other
end_other (log l b ∷ moves) seat q a other = end_other moves seat q a other
end_other (close p b ∷ moves) seat q a other = ap (λ (o : Option Answer). if p == q then Some b else o) (end_other moves seat q a other)
end_other (flush ∷ moves) seat q a other = end_other moves seat q a other

end_own : (moves : List Move) (seat : ℕ) (a : Answer) → end_of moves seat ≡ None → end_of (moves ++ close seat a ∷ []) seat ≡ Some a
end_own [] seat a none = ap (λ (b : Bool). if b then Some a else None) (eq-eqb seat seat refl)
end_own (line l b ∷ moves) seat a none = end_own moves seat a none
end_own (log l b ∷ moves) seat a none = end_own moves seat a none
end_own (close p b ∷ moves) seat a none = by_test (p == seat) (end_of moves seat) (end_of (moves ++ close seat a ∷ []) seat) none (λ rest. end_own moves seat a rest)
  where
    by_test : (t : Bool) (o e : Option Answer) → (if t then Some b else o) ≡ None → (o ≡ None → e ≡ Some a) → (if t then Some b else e) ≡ Some a
    by_test true o e none own = absurd (let no : Some b ≡ None = none in cc)
    by_test false o e none own = own none
end_own (flush ∷ moves) seat a none = end_own moves seat a none

-- nobody is closed yet
pub none_closed : (v : View) (n : ℕ) → IsClosing v n (replicate n None) v
none_closed v n = record {
  closing = [];
  last = λ k d within. absurd (omega (arith, within));
  closes = refl;
  many = length-replicate n None;
  told = λ d within. absurd (none_in_nil d within);
  noted = λ place few. get_or-replicate n place (let none : Option Answer = None in none) None few;
  idle = λ seat a is. absurd (let no : None ≡ Some a = is in cc);
}

-- what moves close, with one more
closed_more : (moves more : List Move) → closed_in (moves ++ more) ≡ closed_in moves ++ closed_in more
closed_more [] more = refl
closed_more (line l a ∷ moves) more = closed_more moves more
closed_more (log l a ∷ moves) more = closed_more moves more
closed_more (close other a ∷ moves) more = ap (λ (cs : List Closed). record { session = other; answer = a } ∷ cs) (closed_more moves more)
closed_more (flush ∷ moves) more = closed_more moves more

closed_flush : (moves : List Move) (c : Closed) → c ∈ closed_in (moves ++ flush ∷ []) → c ∈ closed_in moves
closed_flush moves c within = ⊎_elim (λ (there : c ∈ closed_in moves). there) (λ none. absurd (none_in_nil c none))
    (∈-either (closed_in moves) [] c (subst (λ (cs : List Closed). c ∈ cs) (closed_more moves (flush ∷ [])) within))

-- the log was flushed
pub flushed_too : (v t u : View) (n : ℕ) (ends : List (Option Answer)) → IsClosing v n ends t → t.opening.sessions ≡ n → DidFlush t u → IsSerializable sound_law u → IsClosing v n ends u
flushed_too v t u n ends is sessions did serial = record {
  closing = is.closing ++ flush ∷ [];
  last = all_last is.closing flush is.last tt;
  closes = execution_more v t u is.closing flush is.closes did serial;
  many = is.many;
  told = λ d within. let before = is.told d (closed_flush is.closing d within) in (end_flush is.closing d.session ∙ before.0, before.1, before.2);
  noted = λ place few. is.noted place few ∙ sym (end_flush is.closing (place + 1));
  idle = λ seat a one within. still seat within (is.idle seat a (sym (end_flush is.closing seat) ∙ one) within);
}
  where
    still : (seat : ℕ) → (0 < seat) × (seat ≤ n) → phase_at t seat ≡ phase.Idle → phase_at u seat ≡ phase.Idle
    still seat within idle = ap (λ (s : Session). phase_of s.stand) (did.session seat (within.0, let few = within.1 in omega (arith, few, sessions))) ∙ idle

-- a session was closed
pub closed_too : (v t u : View) (n place : ℕ) (a : Answer) (ends : List (Option Answer)) → IsClosing v n ends t → place < n
    → (phase_at t (place + 1) ≡ phase.Idle → ⊥) → DidEnd t (place + 1) a u → IsSerializable sound_law u → IsClosing v n (slice_set ends place (Some a)) u
closed_too v t u n place a ends is few busy did serial = record {
  closing = is.closing ++ close seat a ∷ [];
  last = all_last is.closing (close seat a) is.last tt;
  closes = execution_more v t u is.closing (close seat a) is.closes did serial;
  many = length-set ends place (Some a) ∙ is.many;
  told = told;
  noted = λ q within. noted q within;
  idle = λ q b one within. idle q b one within;
}
  where
    seat : ℕ
    seat = place + 1

    before : end_of is.closing seat ≡ None
    before = none_before (end_of is.closing seat) (λ b one. busy (is.idle seat b one (omega arith, omega (arith, few))))
      where
        none_before : (o : Option Answer) → ((b : Answer) → o ≡ Some b → ⊥) → o ≡ None
        none_before None some = refl
        none_before (Some b) some = absurd (some b refl)

    leaves : Leaves t seat u
    leaves = end_leaves t u seat a did

    told : (d : Closed) → d ∈ closed_in (is.closing ++ close seat a ∷ []) → (end_of (is.closing ++ close seat a ∷ []) d.session ≡ Some d.answer) × (0 < d.session) × (d.session ≤ n)
    told d within = ⊎_elim
        (λ (there : d ∈ closed_in is.closing).
        let old = is.told d there in
        let apart : seat ≢ d.session = λ same. (let no : None ≡ Some d.answer = sym before ∙ ap (end_of is.closing) same ∙ old.0 in cc) in
        (end_other is.closing seat d.session a apart ∙ old.0, old.1, old.2))
        (λ (here : d ∈ (record { session = seat; answer = a } ∷ [])). ⊎_elim
        (λ (same : record { session = seat; answer = a } ≡ d).
        subst (λ (x : Closed). (end_of (is.closing ++ close seat a ∷ []) x.session ≡ Some x.answer) × (0 < x.session) × (x.session ≤ n)) same
        (end_own is.closing seat a before, omega arith, omega (arith, few)))
        (λ none. absurd (none_in_nil d none))
        (∈-cons d (record { session = seat; answer = a }) [] here))
        (∈-either (closed_in is.closing) (closed_in (close seat a ∷ [])) d (subst (λ (cs : List Closed). d ∈ cs) (closed_more is.closing (close seat a ∷ [])) within))

    is_or : (p q : ℕ) → (p ≡ q) ⊎ (p ≢ q)
    is_or p q = grind arith

    noted : (q : ℕ) → q < n → slice_index_or (slice_set ends place (Some a)) q None ≡ end_of (is.closing ++ close seat a ∷ []) (q + 1)
    noted q within = elim (is_or q place) [
      | inl same ↦ subst (λ (k : ℕ). slice_index_or (slice_set ends place (Some a)) k None ≡ end_of (is.closing ++ close seat a ∷ []) (k + 1)) (sym same)
          (get_or-set_same ends place (Some a) None (let many = is.many in omega (arith, few, many)) ∙ sym (end_own is.closing seat a before))
      | inr other ↦ get_or-set_other ends place q (Some a) None other ∙ is.noted q within ∙ sym (end_other is.closing seat (q + 1) a (λ same. other (omega (arith, same))))
    ]

    idle : (q : ℕ) (b : Answer) → end_of (is.closing ++ close seat a ∷ []) q ≡ Some b → (0 < q) × (q ≤ n) → phase_at u q ≡ phase.Idle
    idle q b one within = elim (is_or q seat) [
      | inl same ↦ subst (λ (k : ℕ). phase_at u k ≡ phase.Idle) (sym same) leaves.idle
      | inr other ↦ ap (λ (s : Session). phase_of s.stand) (leaves.others q other) ∙ is.idle q b (sym (end_other is.closing seat q a (λ same. other (sym same))) ∙ one) within
    ]
