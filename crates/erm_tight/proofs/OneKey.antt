-- A key that a commit has put isn't new to a later transaction.
use Rattle.std.proofs.Common.{◌≡◌, ℕ, ◌<◌, ◌≤◌, Bool, true, false, List, [], ◌∷◌, Option, Some, None, inl, inr, refl, sym, ap, ◌∙◌, subst, arith, take}
use Rattle.std.specs.Prelude.{drop}
use Rattle.std.proofs.lemmas.Bool.{false≢true}
use Rattle.erm_good_report.specs.Transactions.{Commits, Said, Transaction, progress_of}
use Rattle.erm_good_report.specs.Windows.{HasKept, PutsKey}
use Rattle.erm_model.specs.declared.operation.Reply.TheVariants as reply
use Rattle.erm_report.specs.declared.answer.Answer.TheVariants as answer
use Rattle.erm_script.specs.declared.script.Command.{Command}
use Rattle.erm_script.specs.declared.script.Command.TheVariants as command
use Rattle.erm_tight.specs.NewKeys.{HaveNewKeys, PutsNewKey, put_once_more}

abbrev is_put : Option Command → Bool
is_put (Some (command.Put table key value)) = true
is_put _ = false

abbrev table_put : Option Command → ℕ
table_put (Some (command.Put table key value)) = table
table_put _ = 0

abbrev key_put : Option Command → ℕ
key_put (Some (command.Put table key value)) = key
key_put _ = 0

abbrev begin_of : Option Transaction → ℕ
begin_of (Some t) = t.begin
begin_of None = 0

-- a line that isn't a put puts no new key
no_put : (before : List Said) (s : Said) → is_put s.asked ≡ false → PutsNewKey 1 before s → ⊥
no_put before s none p = false≢true (sym none ∙ ap is_put p.asks)

-- the transaction that put the key first, and its put
abbrev first : Transaction
first = record {
  session = 1;
  number = 1;
  begin = 13;
  lines = record { asked = command.Put 0 10 []; answer = answer.Replied reply.Done } ∷ [];
  sealed = None;
  ending = Commits 13 13 0;
}

put_first : (table key : ℕ) → 0 ≡ table → 10 ≡ key → HasKept (PutsKey table key) first
put_first table key of_table of_key =
    subst (λ (t : ℕ). HasKept (PutsKey t key) first) of_table (subst (λ (k : ℕ). HasKept (PutsKey 0 k) first) of_key
    (record { asked = command.Put 0 10 []; answer = answer.Replied reply.Done }, (0, refl), (([], refl), (reply.Done, refl))))

-- the last put isn't of a new key
put_again : (s : Said) → s.asked ≡ Some (command.Put 0 10 []) → s.session ≡ 1 → PutsNewKey 1 (take 4 put_once_more) s → ⊥
put_again s asks own p =
    let begins : 38 ≡ p.own.begin = ap begin_of (subst (λ (q : ℕ). (progress_of q (take 4 put_once_more)).current ≡ Some p.own) own p.current) in
    p.new first 13 13 (record { of = (0, refl); pred = 0; ending = refl }) (subst (λ (n : ℕ). 13 < n) begins (omega arith))
    (put_first p.table p.key (ap table_put (sym asks ∙ p.asks)) (ap key_put (sym asks ∙ p.asks)))

-- of the last line alone, which puts no new key
none_last : (n : ℕ) → HaveNewKeys 1 (take 4 put_once_more) (record { session = 1; asked = Some (command.Put 0 10 []); answer = answer.OidsFull 16384 } ∷ []) n → n ≡ 0
none_last n (inl rest) = rest
none_last n (inr new) = absurd (put_again (record { session = 1; asked = Some (command.Put 0 10 []); answer = answer.OidsFull 16384 }) refl refl new.0)

-- behind the first put, none of the lines puts a new key
behind_put : (m : ℕ) → HaveNewKeys 1 (take 2 put_once_more) (drop 2 put_once_more) m → m ≡ 0
behind_put m (inr new) = absurd (no_put (take 2 put_once_more) (record { session = 1; asked = Some command.Commit; answer = answer.Committed 13 13 0 }) refl new.0)
behind_put m (inl (inr new)) = absurd (no_put (take 3 put_once_more) (record { session = 1; asked = Some command.Begin; answer = answer.Began 38 }) refl new.0)
behind_put m (inl (inl last)) = none_last m last

pub new_once : (n : ℕ) → HaveNewKeys 1 [] put_once_more n → n ≤ 1
new_once n (inr new) = absurd (no_put [] (record { session = 1; asked = Some command.Begin; answer = answer.Began 13 }) refl new.0)
new_once n (inl (inl other)) = omega (arith, behind_put n other)
new_once n (inl (inr new)) = omega (arith, new.1.1, behind_put new.1.0 new.1.2)
