use Rattle.std.proofs.Common.{◌≡◌, ◌∙◌, ◌++◌, ◌∷◌, [], ℕ, Option, None, ap, append-nil, sym, subst}
use Rattle.std.specs.Option.{option_map, option_to_list}
use Rattle.erm_good_report.specs.Transactions.{Aborts, ended, with_end}
use Rattle.erm_summary.specs.declared.hearing.Session.{Session}
use Rattle.erm_summary.specs.declared.hearing.Watched.{Watched}
use Rattle.erm_summary.specs.declared.told.ToldCommit.{ToldCommit}
use Rattle.erm_summary.specs.Told.{Follows, given_up}
use Rattle.erm_summary.proofs.Sessions.{ended_told, follows_end, follows_no_end}
use Rattle.erm_summary.proofs.hearing.Session.end_watch.Goals as goal
use Rattle.erm_summary.proofs.hearing.Session.end_watch.Goals.{in-Some+in-Some-begin+in_ok-push, in-Some+in_default-begin, in_default}

pub returns-clause-follows : goal.returns-clause-follows
returns-clause-follows c script answers p f =
    let s = c.args.self.now in
    let Now = λ (x : Session). Follows script answers (ended Aborts (record p { snapshot = option_map with_end p.snapshot })) (given_up x) in
    subst (Follows script answers (ended Aborts (record p { snapshot = option_map with_end p.snapshot }))) (sym c.give_up.ensures)
    (elim c.match-take.branch [
      | in-Some+in-Some-begin+in_ok-push w ↦
          let x = w.in-Some.watched in
          let b = w.in-Some-begin.begin in
          let more : w.push.new.self.items ≡ s.ended.items ++ option_to_list (option_map (ended_told script answers s.seat x) x.begin) =
          w.in_ok-push.ensures.items
          ∙ ap (λ (n : ℕ). let one : ToldCommit = record { session = s.seat; number = x.number; begin = b; stamp = n; succ = b; pred = 0; lines = x.lines } in s.ended.items ++ one ∷ []) w.rank_stamp.ensures
          ∙ sym (ap (λ (o : Option ℕ). s.ended.items ++ option_to_list (option_map (ended_told script answers s.seat x) o)) w.in-Some-begin.is)
          in
          subst Now (sym w.self-is) (follows_end script answers p s x w.push.new.self c.take.new.self (sym w.in-Some.ensures.value) more c.take.ensures.after f)
      | in-Some+in_default-begin w ↦
          let x = w.in-Some.watched in
          let same : s.ended.items ≡ s.ended.items ++ option_to_list (option_map (ended_told script answers s.seat x) x.begin) =
          sym (ap (λ (o : Option ℕ). s.ended.items ++ option_to_list (option_map (ended_told script answers s.seat x) o)) w.in_default-begin.is ∙ append-nil s.ended.items)
          in
          subst Now (sym w.self-is) (follows_end script answers p s x s.ended c.take.new.self (sym w.in-Some.ensures.value) same c.take.ensures.after f)
      | in_default w ↦
          let none : s.watched ≡ None = sym c.take.ensures.value ∙ w.in_default.is in
          subst Now (sym w.self-is) (subst (λ (o : Option Watched). Now (record s { watched = o })) (none ∙ sym c.take.ensures.after) (follows_no_end script answers p s none f))
    ])
