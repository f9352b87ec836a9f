-- A transaction as it is later: the same one, one that changes, and one after another.
use Rattle.std.proofs.Common.{◌≡◌, ℕ, List, ◌++◌, map, append_assoc, refl, sym, ap, ◌∙◌, subst, arith}
use Rattle.erm_model.specs.declared.history.TransactionRecord.{TransactionRecord}
use Rattle.erm_model.specs.declared.history.VersionRead.{VersionRead}
use Rattle.erm_model.specs.declared.history.VersionWritten.{VersionWritten}
use Rattle.erm_machine.specs.declared.attempt.Attempt.{Attempt}
use Rattle.erm_machine.specs.declared.attempt.Claim.{Claim}
use Rattle.erm_machine.specs.declared.attempt.Decision.TheVariants.{Undecided}
use Rattle.erm_machine.specs.declared.attempt.Read.{Read}
use Rattle.erm_machine.specs.Decided.{read_of, record_of, written_of}
use Rattle.erm_core_stays.specs.Staying.{ClaimStays, Continues, KeepsDecision, KeepsRange}
use Rattle.erm_core_stays.proofs.Growing.{Front, TriesStay, front_same, writes_same}

-- two transactions have the same of all that the history has of a transaction
pub record SameHistory (t u : Attempt) : Type 0 where
  pub number : u.number ≡ t.number
  pub begin : u.begin ≡ t.begin
  pub stamp : u.stamp ≡ t.stamp
  pub succ : u.succ ≡ t.succ
  pub pred : u.pred ≡ t.pred
  pub reads : u.reads ≡ t.reads
  pub writes : map written_of u.writes ≡ map written_of t.writes
  pub made : u.made ≡ t.made

-- a record of these parts
parts : ℕ → (number begin stamp succ pred : ℕ) → List VersionRead → List VersionWritten → List ℕ → TransactionRecord
parts seat number begin stamp succ pred reads writes made =
    record { seat = seat; number = number; begin = begin; stamp = stamp; succ = succ; pred = pred; reads = reads; writes = writes; made = made }

pub record_same : (seat : ℕ) (t u : Attempt) → SameHistory t u → record_of seat u ≡ record_of seat t
unfolding parts
record_same seat t u same =
    let reads : map read_of u.reads ≡ map read_of t.reads = ap (λ (rs : List Read). map read_of rs) same.reads in
    ap (λ n. parts seat n u.begin u.stamp u.succ u.pred (map read_of u.reads) (map written_of u.writes) u.made) same.number
    ∙ ap (λ n. parts seat t.number n u.stamp u.succ u.pred (map read_of u.reads) (map written_of u.writes) u.made) same.begin
    ∙ ap (λ n. parts seat t.number t.begin n u.succ u.pred (map read_of u.reads) (map written_of u.writes) u.made) same.stamp
    ∙ ap (λ n. parts seat t.number t.begin t.stamp n u.pred (map read_of u.reads) (map written_of u.writes) u.made) same.succ
    ∙ ap (λ n. parts seat t.number t.begin t.stamp t.succ n (map read_of u.reads) (map written_of u.writes) u.made) same.pred
    ∙ ap (λ rs. parts seat t.number t.begin t.stamp t.succ t.pred rs (map written_of u.writes) u.made) reads
    ∙ ap (λ ws. parts seat t.number t.begin t.stamp t.succ t.pred (map read_of t.reads) ws u.made) same.writes
    ∙ ap (λ ms. parts seat t.number t.begin t.stamp t.succ t.pred (map read_of t.reads) (map written_of t.writes) ms) same.made

range_same : (t : Attempt) → KeepsRange t t
range_same t = record { stamp = refl; size = refl; reads = refl; writes = refl; made = refl; given_up = refl }

decision_same : (t : Attempt) → KeepsDecision t t
decision_same t = record { decision = refl; record_is = λ seat. refl; header = refl; block = refl }

-- one transaction
continues_itself : (t : Attempt) → Continues t t
continues_itself t =
    let reads = front_same t.reads t.reads refl in
    let made = front_same t.made t.made refl in
    let given = front_same t.given_up t.given_up refl in
    record {
      number = refl;
      begin = refl;
      reads = (reads.more, reads.is);
      made = (made.more, made.is);
      given_up = (given.more, given.is);
      tried = λ oid tried. tried;
      claims = (writes_same t.writes t.writes refl).firm.stay;
      drawn = λ _. range_same t;
      decided = λ _. decision_same t;
    }

pub continues_same : (t u : Attempt) → u ≡ t → Continues t u
continues_same t u e = subst (Continues t) (sym e) (continues_itself t)

-- one that has no range yet, and isn't decided
pub continues_open : (t u : Attempt) → t.stamp ≡ 0 → t.decision ≡ Undecided → u.number ≡ t.number → u.begin ≡ t.begin → Front t.reads u.reads → Front t.made u.made → TriesStay t u → Continues t u
continues_open t u none undecided number begin reads made tries = record {
  number = number;
  begin = begin;
  reads = (reads.more, reads.is);
  made = (made.more, made.is);
  given_up = (tries.given_up.more, tries.given_up.is);
  tried = tries.tried;
  claims = tries.claims.stay;
  drawn = λ some. absurd (omega (arith, some, none));
  decided = λ decided. absurd (decided undecided);
}

-- one that has its range, and isn't decided
pub continues_drawn : (t u : Attempt) → t.decision ≡ Undecided → u.number ≡ t.number → u.begin ≡ t.begin → TriesStay t u → KeepsRange t u → Continues t u
continues_drawn t u undecided number begin tries range =
    let reads = front_same t.reads u.reads range.reads in
    let made = front_same t.made u.made range.made in
    record {
      number = number;
      begin = begin;
      reads = (reads.more, reads.is);
      made = (made.more, made.is);
      given_up = (tries.given_up.more, tries.given_up.is);
      tried = tries.tried;
      claims = tries.claims.stay;
      drawn = λ _. range;
      decided = λ decided. absurd (decided undecided);
    }

-- one that is decided
pub continues_decided : (t u : Attempt) → SameHistory t u → u.size ≡ t.size → u.decision ≡ t.decision → u.header ≡ t.header → u.block ≡ t.block → u.given_up ≡ t.given_up → TriesStay t u → Continues t u
continues_decided t u same size decision header block given tries =
    let reads = front_same t.reads u.reads same.reads in
    let made = front_same t.made u.made same.made in
    record {
      number = same.number;
      begin = same.begin;
      reads = (reads.more, reads.is);
      made = (made.more, made.is);
      given_up = (tries.given_up.more, tries.given_up.is);
      tried = tries.tried;
      claims = tries.claims.stay;
      drawn = λ _. record { stamp = same.stamp; size = size; reads = same.reads; writes = same.writes; made = same.made; given_up = given };
      decided = λ _. record { decision = decision; record_is = λ seat. record_same seat t u same; header = header; block = block };
    }

-- one after another
more_after : {X : Type 0} (xs ys zs m n : List X) → ys ≡ xs ++ m → zs ≡ ys ++ n → zs ≡ xs ++ (m ++ n)
more_after xs ys zs m n e f = f ∙ ap (λ l. l ++ n) e ∙ append_assoc xs m n

claim_after : (place : ℕ) (ws vs us : List Claim) → ClaimStays place ws vs → ClaimStays place vs us → ClaimStays place ws us
claim_after place ws vs us first second = record {
  within = second.within;
  version = second.version ∙ first.version;
  stamp = second.stamp ∙ first.stamp;
  base = second.base ∙ first.base;
  firm = second.firm;
}

range_after : (t u v : Attempt) → KeepsRange t u → KeepsRange u v → KeepsRange t v
range_after t u v first second = record {
  stamp = second.stamp ∙ first.stamp;
  size = second.size ∙ first.size;
  reads = second.reads ∙ first.reads;
  writes = second.writes ∙ first.writes;
  made = second.made ∙ first.made;
  given_up = second.given_up ∙ first.given_up;
}

decision_after : (t u v : Attempt) → KeepsDecision t u → KeepsDecision u v → KeepsDecision t v
decision_after t u v first second = record {
  decision = second.decision ∙ first.decision;
  record_is = λ seat. second.record_is seat ∙ first.record_is seat;
  header = second.header ∙ first.header;
  block = second.block ∙ first.block;
}

pub continues_after : (t u v : Attempt) → Continues t u → Continues u v → Continues t v
continues_after t u v first second = record {
  number = second.number ∙ first.number;
  begin = second.begin ∙ first.begin;
  reads = (first.reads.0 ++ second.reads.0, more_after t.reads u.reads v.reads first.reads.0 second.reads.0 first.reads.1 second.reads.1);
  made = (first.made.0 ++ second.made.0, more_after t.made u.made v.made first.made.0 second.made.0 first.made.1 second.made.1);
  given_up = (first.given_up.0 ++ second.given_up.0, more_after t.given_up u.given_up v.given_up first.given_up.0 second.given_up.0 first.given_up.1 second.given_up.1);
  tried = λ oid tried. second.tried oid (first.tried oid tried);
  claims = λ place within firm.
      let one = first.claims place within firm in claim_after place t.writes u.writes v.writes one (second.claims place one.within one.firm);
  drawn = λ some. let one = first.drawn some in range_after t u v one (second.drawn (let e = one.stamp in omega (arith, some, e)));
  decided = λ decided. let one = first.decided decided in decision_after t u v one (second.decided (λ (none : u.decision ≡ Undecided). decided (sym one.decision ∙ none)));
}
