-- A log that goes on behind another one keeps what both promise, where each new commit's successor stamp is behind the place where it goes on.
use Rattle.std.proofs.Common.{inl, inr, ◌≡◌, ℕ, ◌<◌, ◌≤◌, ◌↔◌, List, ap, arith}
use Rattle.std.proofs.lemmas.Bool.{cases_lt}
use Rattle.erm_model.specs.declared.history.Commit.{Commit}
use Rattle.erm_model.specs.Committed.{Committed}
use Rattle.erm_model.specs.Member.{◌∈◌}
use Rattle.erm_model.specs.SerialOrder.{ComesBefore, rank_of_commit}
use Rattle.erm_block.specs.declared.block.Block.{Block}
use Rattle.erm_block.specs.declared.block.Kind.TheVariants as kind
use Rattle.erm_recover.specs.Lists.{commit_in, commits_of}
use Rattle.erm_told_audit.specs.Audits.{AuditTells}
use Rattle.erm_told_audit.proofs.Audits.{has_block, of_kind, told_by}
use Rattle.erm_shipped.specs.Shipped.{IsShipped}

module _ (commits : List Committed) (place base : ℕ) (low : (c : Committed) → c ∈ commits → place ≤ c.succ) (found blocks : List Block) (shipped : IsShipped found)
    (tells : AuditTells blocks base place commits) (alone : (b : Block) → b ∈ blocks → b.kind ≡ kind.Open → b.stamp ≤ place)
    (older : (b : Block) → b.stamp < place → (b ∈ blocks) ↔ ((b ∈ found) × (base ≤ b.stamp))) where
  -- a commit of before, and so the opening below it
  of_before : (opener : Block) (c : Commit) → opener ∈ blocks → opener.kind ≡ kind.Open → c ∈ commits_of blocks → opener.stamp ≤ c.stamp → c.stamp < place → opener.stamp ≤ c.succ
  of_before opener c there opens m above below =
      let has = has_block blocks c m in
      let is : c ≡ commit_in has.block = of_kind has.block.kind has.block c has.tells in
      let stamp : c.stamp ≡ has.block.stamp = ap (λ (x : Commit). x.stamp) is in
      let by = (older has.block (omega (arith, stamp, below))).0 has.of in
      let opened = (older opener (omega (arith, above, below))).0 there in
      shipped opener c opened.0 opens (told_by found has.block c by.0 has.tells) above

  -- one of the run's own
  of_run : (opener : Block) (c : Commit) → opener ∈ blocks → opener.kind ≡ kind.Open → c ∈ commits_of blocks → place ≤ c.stamp → opener.stamp ≤ c.succ
  of_run opener c there opens m above =
      let of = tells.only c m above in
      let succ : c.succ ≡ of.0.succ = ap (λ (x : Commit). x.succ) of.3 in
      let least = low of.0 of.1 in
      let first = alone opener there opens in
      omega (arith, succ, least, first)

  pub kept : IsShipped blocks
  kept opener c there opens m above = elim (cases_lt c.stamp place) [
    | inl below ↦ of_before opener c there opens m above below
    | inr own ↦ of_run opener c there opens m own
  ]

-- what is below a safe stamp comes first
pub divide : (blocks : List Block) → IsShipped blocks → ((c : Commit) → c ∈ commits_of blocks → c.succ ≤ c.stamp) → (opener : Block) → opener ∈ blocks → opener.kind ≡ kind.Open
    → (c d : Commit) → c ∈ commits_of blocks → d ∈ commits_of blocks → c.stamp < opener.stamp → opener.stamp ≤ d.stamp → ComesBefore (rank_of_commit c) (rank_of_commit d)
divide blocks shipped within opener there opens c d of_c of_d below above =
    let own = within c of_c in
    let later = shipped opener d there opens of_d above in
    inl (omega (arith, own, later, below))
