-- The operations that a teller's task issues are of its kind.
use Rattle.std.proofs.Common.{◌≡◌, ◌≢◌, ℕ, ◌+◌, ◌≤◌, ◌^◌, List, [], ◌∷◌, Option, Some, refl, ap}
use Rattle.erm_accounts.specs.Accounts.{Account, IsBalance, beside, raised, reads, writes}
use Rattle.erm_tellers.specs.declared.tellers.Holder.{Holder}
use Rattle.erm_tellers.specs.Tellers.{Deposits, Transfers, Withdraws, account_of}

pub withdraws : (holder : Holder) (amount : ℕ) (at : Account) (own other : Option (List ℕ)) (left : List ℕ) → at ≡ beside (account_of holder.side)
    → raised (Some left) + amount ≡ raised own → 2 ^ 64 + amount ≤ raised own + raised other → IsBalance (Some left)
    → Withdraws holder amount (reads (account_of holder.side) holder.customer own ∷ reads at holder.customer other ∷ writes (account_of holder.side) holder.customer left ∷ [])
withdraws holder amount at own other left is lowered covered readable = record {
  is = record {
    customer = holder.customer;
    account = account_of holder.side;
    amount = amount;
    own = own;
    other = other;
    left = left;
    steps_are = ap (λ (x : Account). reads (account_of holder.side) holder.customer own ∷ reads x holder.customer other ∷ writes (account_of holder.side) holder.customer left ∷ []) is;
    covered = covered;
    lowered = lowered;
    readable = readable;
  };
  customer_is = refl;
  account_is = refl;
  amount_is = refl;
}

pub deposits : (holder : Holder) (amount : ℕ) (own : Option (List ℕ)) (left : List ℕ) → raised (Some left) ≡ raised own + amount → IsBalance (Some left)
    → Deposits holder amount (reads (account_of holder.side) holder.customer own ∷ writes (account_of holder.side) holder.customer left ∷ [])
deposits holder amount own left raised_by readable = record {
  is = record {
    customer = holder.customer;
    account = account_of holder.side;
    amount = amount;
    own = own;
    left = left;
    steps_are = refl;
    raised_by = raised_by;
    readable = readable;
  };
  customer_is = refl;
  account_is = refl;
  amount_is = refl;
}

pub transfers : (payer payee : Holder) (amount : ℕ) (at : Account) (own other there : Option (List ℕ)) (left more : List ℕ) → at ≡ beside (account_of payer.side)
    → payer.customer ≢ payee.customer → raised (Some left) + amount ≡ raised own → 2 ^ 64 + amount ≤ raised own + raised other → raised (Some more) ≡ raised there + amount
    → IsBalance (Some left) × IsBalance (Some more)
    → Transfers payer payee amount (reads (account_of payer.side) payer.customer own ∷ reads at payer.customer other ∷ reads (account_of payee.side) payee.customer there
    ∷ writes (account_of payer.side) payer.customer left ∷ writes (account_of payee.side) payee.customer more ∷ [])
transfers payer payee amount at own other there left more is apart lowered covered raised_by readable = record {
  is = record {
    payer = payer.customer;
    payee = payee.customer;
    account = account_of payer.side;
    to = account_of payee.side;
    amount = amount;
    own = own;
    other = other;
    there = there;
    left = left;
    more = more;
    apart = apart;
    steps_are = ap (λ (x : Account). reads (account_of payer.side) payer.customer own ∷ reads x payer.customer other ∷ reads (account_of payee.side) payee.customer there
        ∷ writes (account_of payer.side) payer.customer left ∷ writes (account_of payee.side) payee.customer more ∷ []) is;
    covered = covered;
    lowered = lowered;
    raised_by = raised_by;
    readable = readable;
  };
  payer_is = refl;
  account_is = refl;
  payee_is = refl;
  to_is = refl;
  amount_is = refl;
}
