-- The receipts of sessions, kept up line by line.
use Rattle.std.proofs.Common.{◌≡◌, ◌≢◌, ℕ, ◌+◌, ◌<◌, List, length, replicate, slice_index_or, slice_set, Bor, Option, None, Some, sym, ap, ◌∙◌, subst, arith, inl, inr}
use Rattle.std.specs.Option.{option_copied}
use Rattle.std.specs.Prelude.{◌⊎◌, MatchOption}
use Rattle.std.proofs.lemmas.List.{get_or-replicate, get_or-set_other, get_or-set_same, length-replicate, length-set}
use Rattle.erm_model.specs.declared.outcome.Receipt.{Receipt}
use Rattle.erm_model.proofs.Members.{none_in_nil}
use Rattle.erm_world.specs.World.{Finished, IsSession, Opening, Session, View}
use Rattle.erm_lines.specs.Answers.{IsReceiptOf}
use Rattle.erm_lines.specs.Executions.{IsOpened}
use Rattle.erm_log_run.specs.Lines.{AreReceipts}

-- no session has committed yet
pub none_received : (v : View) (n : ℕ) (rs : List (Option Receipt)) → IsOpened v → v.opening.sessions ≡ n → rs ≡ replicate n None → AreReceipts v rs
none_received v n rs opened sessions are = subst (AreReceipts v) (sym are) (record {
  many = length-replicate n None ∙ sym sessions;
  each = λ place few. let low : place < n = (let size = length-replicate n (let none : Option Receipt = None in none) in omega (arith, few, size)) in
      subst (IsReceiptOf (v.session (place + 1)).over) (sym (get_or-replicate n place (let none : Option Receipt = None in none) None low))
      (subst (λ (s : Session). IsReceiptOf s.over None) (sym (opened.idle (place + 1) (omega arith, omega (arith, low, sessions)))) (λ f within. absurd (none_in_nil f within)));
})

-- the sessions stay
pub receipts_stay : (v t : View) (rs : List (Option Receipt)) → t.opening ≡ v.opening → ((seat : ℕ) → IsSession v seat → t.session seat ≡ v.session seat) → AreReceipts v rs → AreReceipts t rs
receipts_stay v t rs opening same are = record {
  many = are.many ∙ sym (ap (λ (o : Opening). o.sessions) opening);
  each = λ place few. subst (λ (s : Session). IsReceiptOf s.over (slice_index_or rs place None)) (sym (same (place + 1) (omega arith, (let many = are.many in omega (arith, few, many))))) (are.each place few);
}

-- one session went on, and its receipt was kept up
pub receipts_go_on : (v t : View) (place : ℕ) (rs : List (Option Receipt)) (receipt : Option Receipt) → AreReceipts v rs → place < length rs → t.opening ≡ v.opening
    → ((q : ℕ) → q ≢ place + 1 → t.session q ≡ v.session q) → IsReceiptOf (t.session (place + 1)).over receipt → AreReceipts t (slice_set rs place receipt)
receipts_go_on v t place rs receipt are few opening others own = record {
  many = length-set rs place receipt ∙ are.many ∙ sym (ap (λ (o : Opening). o.sessions) opening);
  each = λ q within. by q (is_or q place) (let size = length-set rs place receipt in omega (arith, within, size));
}
  where
    is_or : (p q : ℕ) → (p ≡ q) ⊎ (p ≢ q)
    is_or p q = grind arith

    by : (q : ℕ) → (q ≡ place) ⊎ (q ≢ place) → q < length rs → IsReceiptOf (t.session (q + 1)).over (slice_index_or (slice_set rs place receipt) q None)
    by q (inl is) within = subst (λ (p : ℕ). IsReceiptOf (t.session (p + 1)).over (slice_index_or (slice_set rs place receipt) p None)) (sym is)
        (subst (IsReceiptOf (t.session (place + 1)).over) (sym (get_or-set_same rs place receipt None few)) own)
    by q (inr other) within = subst (IsReceiptOf (t.session (q + 1)).over) (sym (get_or-set_other rs place q receipt None other))
        (subst (λ (s : Session). IsReceiptOf s.over (slice_index_or rs q None)) (sym (others (q + 1) (λ same. other (omega (arith, same))))) (are.each q within))

-- the receipt that is asked for is the one kept
pub receipt_asked : (over : List Finished) (asked : Option (Bor Receipt)) (kept : Option Receipt) → option_copied asked ≡ kept → IsReceiptOf over kept
    → MatchOption asked (IsReceiptOf over None) (λ r. IsReceiptOf over (Some r.now))
receipt_asked over None kept is own = subst (IsReceiptOf over) (sym is) own
receipt_asked over (Some r) kept is own = subst (IsReceiptOf over) (sym is) own
