-- What clients' commits keep, all commits of their script keep.
use Rattle.std.proofs.Common.{◌≡◌, ℕ, zero, suc, ◌==◌, cond, List, [], ◌∷◌, ◌++◌, map, Option, Some, None, inl, inr, sym, subst}
use Rattle.std.proofs.lemmas.List.Sums.{fold-append}
use Rattle.std.specs.List.{flat_map, range_with_len}
use Rattle.std.specs.Option.{option_to_list}
use Rattle.erm_client.proofs.Commits.{from_history}
use Rattle.erm_client.specs.declared.transcript.Standing.TheVariants as standing
use Rattle.erm_client.specs.declared.transcript.Transcript.{Transcript}
use Rattle.erm_client.specs.Dealings.{AllOver}
use Rattle.erm_client.specs.Laws.{AreFrom, answers_of, lines_of}
use Rattle.erm_client_invariant.proofs.Alone.{closes_keep, own_kept, progress_unfinished}
use Rattle.erm_client_invariant.proofs.Unsealed.{all_unsealed, closes_none}
use Rattle.erm_client_invariant.specs.Laws.{AreOfKind, ClientsAreSerial, ClientsAreSerialWithSnapshots, ClientsKeep, CommitsAreOfKind, InvariantLastsForClients}
use Rattle.erm_good_report.specs.GoodReport.{places_of}
use Rattle.erm_good_report.specs.Phases.{Closed, phase_of}
use Rattle.erm_good_report.specs.Transactions.{Commits, Progress, Said, Transaction, heard, nothing, progress_of, said_of, steps_of, transactions_of}
use Rattle.erm_good_report.specs.Transactions as dealt
use Rattle.erm_invariant.specs.Commits.{LastsInOrder}
use Rattle.erm_invariant.specs.Invariant.{Keeps}
use Rattle.erm_lines_at_once.specs.Executions.{IsRunAtOnce}
use Rattle.erm_lines_at_once.specs.Laws.{RunsAtOnceAreSerial, RunsAtOnceAreSerialWithSnapshots, RunsAtOnceCloseSessions}
use Rattle.erm_machine.proofs.Listed.{∈-either}
use Rattle.erm_model.proofs.Members.{none_in_nil}
use Rattle.erm_model.specs.Committed.{Committed, state_after}
use Rattle.erm_model.specs.Database.{Database}
use Rattle.erm_model.specs.declared.outcome.Phase.TheVariants.{Idle, Sealed}
use Rattle.erm_model.specs.Member.{◌∈◌}
use Rattle.erm_model.specs.Run.{Step}
use Rattle.erm_report.specs.declared.answer.Answer.TheVariants as answer
use Rattle.erm_report_invariant.specs.Reports.{CommitsKeep}
use Rattle.erm_world.specs.World.{View}

-- of what lists are put together
in_flat : {X Y : Type 0} (f : X → List Y) (xs : List X) (y : Y) → y ∈ flat_map f xs → (x : X) × (y ∈ f x)
in_flat f [] y there = absurd (none_in_nil y there)
in_flat f (x ∷ xs) y there = elim (∈-either (f x) (flat_map f xs) y there) [
  | inl here ↦ (x, here)
  | inr later ↦ in_flat f xs y later
]

in_option : {X : Type 0} (o : Option X) (x : X) → x ∈ option_to_list o → o ≡ Some x
in_option None x (k, at) = cc
in_option (Some y) x (zero, at) = at
in_option (Some y) x (suc k, at) = cc

module _ (Kind : List Step → Type 0) (all : List Transcript) (closed : List Closed) (kept : AreOfKind Kind all) (unclosed : (c : Closed) (stamp succ pred : ℕ) → c ∈ closed → c.answer ≡ answer.Committed stamp succ pred → ⊥) where
  own : (q : ℕ) → AllOver Kind (progress_of q (places_of (lines_of all) (answers_of all) closed))
  own q =
      let parts = fold-append (λ (p : Progress) (s : Said). cond (s.session == q) (heard q s.asked s.answer p) p) nothing (said_of (lines_of all) (answers_of all)) (map (λ (c : Closed). record { session = c.session; asked = None; answer = c.answer }) closed) in
      subst (λ (x : Progress). AllOver Kind x) (sym parts)
      (closes_keep Kind q (progress_of q (said_of (lines_of all) (answers_of all))) closed unclosed (own_kept Kind q 1 all kept.from_first kept.opened kept.kept))

  pub told_kind : (sessions : ℕ) (t : Transaction) (stamp succ pred : ℕ) → t ∈ transactions_of sessions (places_of (lines_of all) (answers_of all) closed) → t.ending ≡ Commits stamp succ pred
      → Kind (steps_of t)
  told_kind sessions t stamp succ pred there commits =
      let said = places_of (lines_of all) (answers_of all) closed in
      let at = in_flat (λ (q : ℕ). (progress_of q said).over ++ option_to_list (progress_of q said).current) (range_with_len 1 sessions) t there in
      elim (∈-either (progress_of at.0 said).over (option_to_list (progress_of at.0 said).current) t at.1) [
        | inl over ↦ own at.0 t stamp succ pred over commits
        | inr now ↦ absurd (differ (progress_unfinished at.0 said t (in_option (progress_of at.0 said).current t now)))
      ]
    where
      differ : t.ending ≡ dealt.Unfinished → ⊥
      differ unfinished = cc

-- no session's closing commits
closing_commits_none : RunsAtOnceCloseSessions → (v f : View) (all : List Transcript) (closed : List Closed) → IsRunAtOnce v (lines_of all) (answers_of all) closed f → AreFrom 1 all
    → ((c : Transcript) → c ∈ all → c.standing ≡ standing.Open) → (c : Closed) (stamp succ pred : ℕ) → c ∈ closed → c.answer ≡ answer.Committed stamp succ pred → ⊥
closing_commits_none closes v f all closed run are opened c stamp succ pred there is =
    let said = said_of (lines_of all) (answers_of all) in
    let agree = closes v f (lines_of all) (answers_of all) closed run in
    closes_none (phase_of c.session said) c.answer stamp succ pred (all_unsealed c.session 1 all Idle are opened idle) (agree.fits c there) is
  where
    idle : Idle ≡ Sealed → ⊥
    idle same = cc

pub clients_keep : (Invariant : Database → Type 0) → RunsAtOnceCloseSessions → CommitsKeep Invariant → ClientsKeep Invariant
clients_keep Invariant closes keep v f all closed run kept =
    keep (transactions_of v.opening.sessions (places_of (lines_of all) (answers_of all) closed))
    (told_kind (Keeps Invariant) all closed (record { from_first = kept.from_first; opened = kept.opened; kept = kept.kept })
    (closing_commits_none closes v f all closed run kept.from_first kept.opened)
    v.opening.sessions)

pub of_kind : (Kind : List Step → Type 0) → RunsAtOnceCloseSessions → CommitsAreOfKind Kind
of_kind Kind closes v f all closed run kept x there =
    let told = transactions_of v.opening.sessions (places_of (lines_of all) (answers_of all) closed) in
    let one = from_history told x there in
    subst (λ (y : Committed). Kind y.steps) one.same
    (told_kind Kind all closed kept (closing_commits_none closes v f all closed run kept.from_first kept.opened) v.opening.sessions one.of one.stamp one.succ one.pred one.there one.commits)

pub serial : RunsAtOnceAreSerial → ClientsAreSerial
serial are v f all closed opening run is order in_order = are v f (lines_of all) (answers_of all) closed opening run is order in_order

pub serial_with : RunsAtOnceAreSerialWithSnapshots → ClientsAreSerialWithSnapshots
serial_with are v f all closed opening run is few order in_order = are v f (lines_of all) (answers_of all) closed opening run is few order in_order

pub lasts : (Invariant : Database → Type 0) → ClientsKeep Invariant → RunsAtOnceAreSerial → LastsInOrder Invariant → InvariantLastsForClients Invariant
lasts Invariant keep serial last v f all closed opening run is kept begins order in_order =
    last (dealt.history_of (transactions_of v.opening.sessions (places_of (lines_of all) (answers_of all) closed))) order opening.map (state_after order opening.map) begins (keep v f all closed run kept) in_order
    (serial v f (lines_of all) (answers_of all) closed opening run is order in_order)
