-- What a view has committed is known by what is over in its sessions.
use Rattle.std.proofs.Common.{◌≡◌, ℕ, zero, suc, ◌<◌, ◌≤◌, List, ◌++◌, refl, ap, ◌∙◌, arith}
use Rattle.erm_model.specs.History.{History}
use Rattle.erm_world.specs.World.{Finished, Opening, Session, View, history_of, history_upto}
use Rattle.erm_world.specs.World as world
use Rattle.erm_world.specs.Whole.{KeepsSessions}

pub history_same : (n : ℕ) (s t : ℕ → Session) → ((q : ℕ) → 0 < q → q ≤ n → (t q).over ≡ (s q).over) → history_upto n t ≡ history_upto n s
unfolding history_upto
history_same zero s t same = refl
history_same (suc n) s t same =
    ap (λ (h : History). h ++ world.committed_in (suc n) (t (suc n)).over) (history_same n s t (λ q above within. same q above (omega (arith, within))))
    ∙ ap (λ (over : List Finished). history_upto n s ++ world.committed_in (suc n) over) (same (suc n) (omega arith) (omega arith))

-- calls that keep the sessions keep it
pub history_kept : (v t : View) → KeepsSessions v t → history_of t ≡ history_of v
history_kept v t keeps =
    ap (λ (o : Opening). history_upto o.sessions t.session) keeps.opening
    ∙ history_same v.opening.sessions v.session t.session (λ q above within. ap (λ (s : Session). s.over) (keeps.session q (above, within)))
