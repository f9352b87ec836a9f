-- Calls of the tree, one after another: what their events told and read.
use Rattle.std.proofs.Common.{◌≡◌, ℕ, zero, suc, ◌+◌, ◌<◌, ◌≤◌, true, false, List, [], ◌∷◌, ◌++◌, map, cond, refl, sym, subst, inl, inr, arith}
use Rattle.std.specs.Prelude.{◌⊎◌, ◌==◌}
use Rattle.erm_model.specs.declared.row_stop.RowStop.{RowStop}
use Rattle.erm_model.specs.Rows.{Rows}
use Rattle.erm_model.specs.RowTransaction.{Event, did_read, did_claim, did_write, did_make, made_by, made_by_all, Asked, asked_read, asked_claim, asked_make, GoesOn, Law, TellsAll, Agrees, Face, Runs, IsLawful, Does, IsRefused, IsStopped, OnlyReads}
use Rattle.erm_model.proofs.RowCalls.{after_all-OnlyReads, OnlyReads-append, TellsAll-append, Runs-append, Runs-one, Runs-once, Runs-fitted, Saw-on, Saw-lawful}
use Rattle.erm_tree.proofs.Insertion.{Each}
use Rattle.erm_tree.specs.Calls.{AsksReads, IsReady, IsTold, ReadsAre, Reads, SawIn, Ran}

-- events in two parts read these objects where each part does
pub ReadsAre-append : (P : ℕ → Type 0) (es fs : List Event) → ReadsAre P es → ReadsAre P fs → ReadsAre P (es ++ fs)
ReadsAre-append P [] fs a b = b
ReadsAre-append P (did_read oid row ∷ es) fs a b = (a.0, ReadsAre-append P es fs a.1 b)
ReadsAre-append P (did_claim oid ∷ es) fs a b = ReadsAre-append P es fs a b
ReadsAre-append P (did_write oid row ∷ es) fs a b = ReadsAre-append P es fs a b
ReadsAre-append P (did_make oid ∷ es) fs a b = ReadsAre-append P es fs a b

-- what reads these objects reads others that they are among
pub ReadsAre-weaker : (P Q : ℕ → Type 0) (es : List Event) → ((x : ℕ) → P x → Q x) → ReadsAre P es → ReadsAre Q es
ReadsAre-weaker P Q [] among a = tt
ReadsAre-weaker P Q (did_read oid row ∷ es) among a = (among oid a.0, ReadsAre-weaker P Q es among a.1)
ReadsAre-weaker P Q (did_claim oid ∷ es) among a = ReadsAre-weaker P Q es among a
ReadsAre-weaker P Q (did_write oid row ∷ es) among a = ReadsAre-weaker P Q es among a
ReadsAre-weaker P Q (did_make oid ∷ es) among a = ReadsAre-weaker P Q es among a

-- an array that agrees with reads and more agrees with each part
pub Agrees-after_reads : (law : Law) (es fs : List Event) (array : Rows) → OnlyReads es → Agrees law (es ++ fs) array → Agrees law es array × Agrees law fs array
Agrees-after_reads law es fs array only agrees =
    let parts = TellsAll-append law es fs array array agrees in
    (parts.0, subst (λ (seen : Rows). TellsAll law fs array seen) (after_all-OnlyReads es only array) parts.1)

-- reads of these objects are reads of others that they are among
pub Reads-weaker : (law : Law) (P Q : Rows → ℕ → Type 0) (es : List Event) → ((array : Rows) → law.meets array → Agrees law es array → (x : ℕ) → P array x → Q array x) → Reads law P es → Reads law Q es
Reads-weaker law P Q es among a = record {
  only = a.only;
  of = λ array meets agrees. ReadsAre-weaker (P array) (Q array) es (among array meets agrees) (a.of array meets agrees);
}

-- no reads
pub Reads-none : (law : Law) (objects : Rows → ℕ → Type 0) → Reads law objects []
Reads-none law objects = record { only = tt; of = λ array meets agrees. tt }

module _ {S : Type 0} (face : Face S) (goes_on : (a b c : S) → face.follows a b → face.follows b c → face.follows a c) where
  -- before any call
  pub SawIn-start : (objects : Rows → ℕ → Type 0) (s : S) (fact : Rows → Type 0) → IsReady face s → face.follows s s → ((array : Rows) → face.law.meets array → fact array) → SawIn face objects s s fact
  SawIn-start objects s fact ready stands is = record {
    saw = record {
      events = [];
      reads = tt;
      goes_on = record { runs = refl; active = ready.active; possible = ready.possible };
      follows = stands;
      saw = λ array meets agrees. is array meets;
    };
    reads = Reads-none face.law objects;
  }

  -- some array is one on which a fact was seen
  pub SawIn-possible : (objects : Rows → ℕ → Type 0) (s t : S) (fact : Rows → Type 0) → IsLawful face s → SawIn face objects s t fact → (array : Rows) × face.law.meets array × fact array
  SawIn-possible objects s t fact lawful seen =
      let (begun, meets, fits) = seen.saw.goes_on.possible in
      let on = Saw-on face s t fact lawful seen.saw begun meets fits in
      (face.rows s begun, (lawful begun meets (Runs-fitted face seen.saw.events s t seen.saw.goes_on.runs begun fits)).0, on.0)

  -- the transaction may be called on
  pub SawIn-ready : (objects : Rows → ℕ → Type 0) (s t : S) (fact : Rows → Type 0) → IsLawful face s → SawIn face objects s t fact → IsReady face t
  SawIn-ready objects s t fact lawful seen = record {
    active = seen.saw.goes_on.active;
    possible = seen.saw.goes_on.possible;
    lawful = Saw-lawful face s t fact lawful seen.saw;
  }

  -- a fact that follows from what was seen; and the objects read are among others
  pub SawIn-weaker : (P Q : Rows → ℕ → Type 0) (s t : S) (fact next : Rows → Type 0) → ((array : Rows) → face.law.meets array → fact array → next array) → ((array : Rows) → face.law.meets array → fact array → (x : ℕ) → P array x → Q array x) → SawIn face P s t fact → SawIn face Q s t next
  SawIn-weaker P Q s t fact next follows among seen = record {
    saw = record {
      events = seen.saw.events;
      reads = seen.saw.reads;
      goes_on = seen.saw.goes_on;
      follows = seen.saw.follows;
      saw = λ array meets agrees. follows array meets (seen.saw.saw array meets agrees);
    };
    reads = Reads-weaker face.law P Q seen.saw.events (λ array meets agrees. among array meets (seen.saw.saw array meets agrees)) seen.reads;
  }

  -- a read of an object that what was seen before lets be read
  pub SawIn-then_read : (objects : Rows → ℕ → Type 0) (s t u : S) (fact : Rows → Type 0) (oid : ℕ) (row : List ℕ) → SawIn face objects s t fact → Does face t (did_read oid row) u → ((array : Rows) → face.law.meets array → fact array → objects array oid)
      → SawIn face objects s u (λ array. fact array × (array oid ≡ row))
  SawIn-then_read objects s t u fact oid row a does is =
      let es = a.saw.events in
      let fs : List Event = did_read oid row ∷ [] in
      record {
        saw = record {
          events = es ++ fs;
          reads = OnlyReads-append es fs a.saw.reads tt;
          goes_on = record {
            runs = Runs-append face es fs s t u a.saw.goes_on.runs (Runs-one face t u (did_read oid row) does.step);
            active = does.active;
            possible = does.possible;
          };
          follows = goes_on s t u a.saw.follows does.follows;
          saw = λ array meets agrees.
              let parts = Agrees-after_reads face.law es fs array a.saw.reads agrees in
              (a.saw.saw array meets parts.0, parts.1.0);
        };
        reads = record {
          only = OnlyReads-append es fs a.saw.reads tt;
          of = λ array meets agrees.
              let parts = Agrees-after_reads face.law es fs array a.saw.reads agrees in
              ReadsAre-append (objects array) es fs (a.reads.of array meets parts.0) (is array meets (a.saw.saw array meets parts.0), tt);
        };
      }

  -- what was seen in turn, by reads of two kinds of objects that are both of a third
  pub SawIn-both : (P Q R : Rows → ℕ → Type 0) (s t u : S) (fact next : Rows → Type 0) → SawIn face P s t fact → SawIn face Q t u next
      → ((array : Rows) → face.law.meets array → fact array → next array → (x : ℕ) → P array x → R array x) → ((array : Rows) → face.law.meets array → fact array → next array → (x : ℕ) → Q array x → R array x)
      → SawIn face R s u (λ array. fact array × next array)
  SawIn-both P Q R s t u fact next a b first second =
      let es = a.saw.events in
      let fs = b.saw.events in
      record {
        saw = record {
          events = es ++ fs;
          reads = OnlyReads-append es fs a.saw.reads b.saw.reads;
          goes_on = record {
            runs = Runs-append face es fs s t u a.saw.goes_on.runs b.saw.goes_on.runs;
            active = b.saw.goes_on.active;
            possible = b.saw.goes_on.possible;
          };
          follows = goes_on s t u a.saw.follows b.saw.follows;
          saw = λ array meets agrees.
              let parts = Agrees-after_reads face.law es fs array a.saw.reads agrees in
              (a.saw.saw array meets parts.0, b.saw.saw array meets parts.1);
        };
        reads = record {
          only = OnlyReads-append es fs a.saw.reads b.saw.reads;
          of = λ array meets agrees.
              let parts = Agrees-after_reads face.law es fs array a.saw.reads agrees in
              let is = a.saw.saw array meets parts.0 in
              let then_is = b.saw.saw array meets parts.1 in
              ReadsAre-append (R array) es fs
              (ReadsAre-weaker (P array) (R array) es (first array meets is then_is) (a.reads.of array meets parts.0))
              (ReadsAre-weaker (Q array) (R array) fs (second array meets is then_is) (b.reads.of array meets parts.1));
        };
      }

  -- what was seen is so of what the transaction sees now
  pub SawIn-told : (objects : Rows → ℕ → Type 0) (s t : S) (fact : Rows → Type 0) → IsLawful face s → SawIn face objects s t fact → IsTold face t fact
  SawIn-told objects s t fact lawful seen begun meets fits =
      let on = Saw-on face s t fact lawful seen.saw begun meets fits in
      subst fact (sym on.1) on.0

  -- one event more
  pub Ran-more : (s t u : S) (es : List Event) (e : Event) → Ran face s es t → Does face t e u → Ran face s (es ++ e ∷ []) u
  Ran-more s t u es e ran does = record {
    goes_on = record { runs = Runs-append face es (e ∷ []) s t u ran.goes_on.runs (Runs-one face t u e does.step); active = does.active; possible = does.possible };
    follows = goes_on s t u ran.follows does.follows;
  }

  -- events in two parts
  pub Ran-then : (s t u : S) (es fs : List Event) → Ran face s es t → Ran face t fs u → Ran face s (es ++ fs) u
  Ran-then s t u es fs a b = record {
    goes_on = record { runs = Runs-append face es fs s t u a.goes_on.runs b.goes_on.runs; active = b.goes_on.active; possible = b.goes_on.possible };
    follows = goes_on s t u a.follows b.follows;
  }

  -- what was claimed is claimed still
  pub Runs-claims : (es : List Event) (s t : S) → Runs face s es t → (x : ℕ) → face.claims s x → face.claims t x
  Runs-claims [] s t run x claimed = subst (λ (at : S). face.claims at x) (sym run) claimed
  Runs-claims (e ∷ es) s t (u, step, rest) x claimed = Runs-claims es u t rest x ((step.claims x).1 (inl claimed))

  -- all objects that were claimed are
  pub Runs-claimed : (ws : List (ℕ × List ℕ)) (s t : S) → Runs face s (map (λ w. did_claim w.0) ws) t → Each (λ (w : ℕ × List ℕ). face.claims t w.0) ws
  Runs-claimed [] s t run = tt
  Runs-claimed (w ∷ ws) s t (u, step, rest) = (Runs-claims (map (λ v. did_claim v.0) ws) u t rest w.0 ((step.claims w.0).1 (inr refl)), Runs-claimed ws u t rest)

  zero_or_more : (n : ℕ) → (n ≡ 0) ⊎ (0 < n)
  zero_or_more zero = inl refl
  zero_or_more (suc n) = inr (omega arith)

  once_made : (e : Event) (x : ℕ) → made_by e x ≤ 1
  once_made (did_read oid row) x = omega arith
  once_made (did_claim oid) x = omega arith
  once_made (did_write oid row) x = omega arith
  once_made (did_make oid) x = elim (x == oid) as (λ b. cond b 1 0 ≤ 1) [ true ↦ omega arith | false ↦ omega arith ]

  -- no object is made twice
  pub Runs-made_once : (es : List Event) (s t : S) → Runs face s es t → (x : ℕ) → made_by_all es x ≤ 1
  Runs-made_once [] s t run x = omega arith
  Runs-made_once (e ∷ es) s t (u, step, rest) x =
      elim (zero_or_more (made_by_all es x)) as (λ _. made_by e x + made_by_all es x ≤ 1) [
        | inl none ↦ omega (arith, once_made e x)
        | inr more ↦ omega (arith, Runs-made_once es u t rest x, Runs-once face (e ∷ []) es s u t (Runs-one face s u e step) rest x more)
      ]

  -- what one refusal may be, another that has it among its own may be
  pub IsRefused-among : (may then_may : RowStop → Type 0) (s t : S) (asked : Asked) (stop : RowStop) → ((x : RowStop) → may x → then_may x) → IsRefused face may s asked stop t → IsRefused face then_may s asked stop t
  IsRefused-among may then_may s t asked stop among refused = record {
    named = among stop refused.named;
    stopped = refused.stopped;
    follows = refused.follows;
    ended = refused.ended;
    stays = refused.stays;
  }

  -- events, and then a call that was refused
  pub IsStopped-after : (may : RowStop → Type 0) (kind : List Event → Type 0) (asks : List Event → Rows → Asked → Type 0) (s t u : S) (asked : Asked) (stop : RowStop) (es : List Event) → GoesOn face s es t → face.follows s t → kind es
      → ((array : Rows) → face.law.meets array → Agrees face.law es array → asks es array asked) → IsRefused face may t asked stop u → IsStopped face may kind asks s stop u
  IsStopped-after may kind asks s t u asked stop es on follows is so refused = record {
    events = es;
    of_kind = is;
    at = t;
    goes_on = on;
    follows = follows;
    asked = asked;
    asks_so = so;
    refused = refused;
  }

  -- calls that ran to an end, and then calls that were cut off
  pub IsStopped-then : (may : RowStop → Type 0) (then_kind whole : List Event → Type 0) (then_asks asks : List Event → Rows → Asked → Type 0) (s t u : S) (stop : RowStop) (es : List Event) → Runs face s es t → face.follows s t
      → ((fs : List Event) → then_kind fs → whole (es ++ fs))
      → ((fs : List Event) → then_kind fs → (asked : Asked) → ((array : Rows) → face.law.meets array → Agrees face.law fs array → then_asks fs array asked) → (array : Rows) → face.law.meets array → Agrees face.law (es ++ fs) array → asks (es ++ fs) array asked)
      → IsStopped face may then_kind then_asks t stop u → IsStopped face may whole asks s stop u
  IsStopped-then may then_kind whole then_asks asks s t u stop es runs follows both so stopped = record {
    events = es ++ stopped.events;
    of_kind = both stopped.events stopped.of_kind;
    at = stopped.at;
    goes_on = record {
      runs = Runs-append face es stopped.events s t stopped.at runs stopped.goes_on.runs;
      active = stopped.goes_on.active;
      possible = stopped.goes_on.possible;
    };
    follows = goes_on s t stopped.at follows stopped.follows;
    asked = stopped.asked;
    asks_so = so stopped.events stopped.of_kind stopped.asked stopped.asks_so;
    refused = stopped.refused;
  }

  -- what is cut off by some refusals is cut off by others that they are among
  pub IsStopped-among : (may then_may : RowStop → Type 0) (kind then_kind : List Event → Type 0) (asks then_asks : List Event → Rows → Asked → Type 0) (s t : S) (stop : RowStop) → ((x : RowStop) → may x → then_may x) → ((es : List Event) → kind es → then_kind es)
      → ((es : List Event) (array : Rows) (asked : Asked) → kind es → asks es array asked → then_asks es array asked) → IsStopped face may kind asks s stop t → IsStopped face then_may then_kind then_asks s stop t
  IsStopped-among may then_may kind then_kind asks then_asks s t stop among of so stopped = record {
    events = stopped.events;
    of_kind = of stopped.events stopped.of_kind;
    at = stopped.at;
    goes_on = stopped.goes_on;
    follows = stopped.follows;
    asked = stopped.asked;
    asks_so = λ array meets agrees. so stopped.events array stopped.asked stopped.of_kind (stopped.asks_so array meets agrees);
    refused = IsRefused-among may then_may stopped.at t stopped.asked stop among stopped.refused;
  }

  -- what is asked of some objects is asked of others that they are among
  AsksReads-weaker : (P Q : Rows → ℕ → Type 0) (es fs : List Event) (array : Rows) (asked : Asked) → ((x : ℕ) → P array x → Q array x) → AsksReads P es array asked → AsksReads Q fs array asked
  AsksReads-weaker P Q es fs array (asked_read oid) among asks = among oid asks
  AsksReads-weaker P Q es fs array (asked_claim oid) among asks = asks
  AsksReads-weaker P Q es fs array asked_make among asks = asks

  -- reads that were cut off are reads of others that theirs are among
  pub IsStopped-wider : (P Q : Rows → ℕ → Type 0) (may : RowStop → Type 0) (s t : S) (stop : RowStop) → ((array : Rows) (x : ℕ) → P array x → Q array x) → IsStopped face may (Reads face.law P) (AsksReads P) s stop t
      → IsStopped face may (Reads face.law Q) (AsksReads Q) s stop t
  IsStopped-wider P Q may s t stop among stopped =
      IsStopped-among may may (Reads face.law P) (Reads face.law Q) (AsksReads P) (AsksReads Q) s t stop (λ x named. named)
      (λ es is. Reads-weaker face.law P Q es (λ array meets agrees. among array) is) (λ es array asked is asks. AsksReads-weaker P Q es es array asked (among array) asks) stopped

  -- reads of one kind of objects, and then reads of another that were cut off, both of a third
  pub IsStopped-both : (P Q R : Rows → ℕ → Type 0) (may : RowStop → Type 0) (s t u : S) (stop : RowStop) (fact : Rows → Type 0) → SawIn face P s t fact → IsStopped face may (Reads face.law Q) (AsksReads Q) t stop u
      → ((array : Rows) → face.law.meets array → fact array → (x : ℕ) → P array x → R array x) → ((array : Rows) → face.law.meets array → fact array → (x : ℕ) → Q array x → R array x)
      → IsStopped face may (Reads face.law R) (AsksReads R) s stop u
  IsStopped-both P Q R may s t u stop fact seen stopped first second =
      let es = seen.saw.events in
      IsStopped-then may (Reads face.law Q) (Reads face.law R) (AsksReads Q) (AsksReads R) s t u stop es seen.saw.goes_on.runs seen.saw.follows
      (λ fs is. record {
        only = OnlyReads-append es fs seen.saw.reads is.only;
        of = λ array meets agrees.
            let parts = Agrees-after_reads face.law es fs array seen.saw.reads agrees in
            let so = seen.saw.saw array meets parts.0 in
            ReadsAre-append (R array) es fs
            (ReadsAre-weaker (P array) (R array) es (first array meets so) (seen.reads.of array meets parts.0))
            (ReadsAre-weaker (Q array) (R array) fs (second array meets so) (is.of array meets parts.1));
      })
      (λ fs is asked so array meets agrees.
      let parts = Agrees-after_reads face.law es fs array seen.saw.reads agrees in
      AsksReads-weaker Q R fs (es ++ fs) array asked (second array meets (seen.saw.saw array meets parts.0)) (so array meets parts.1))
      stopped

  -- reads, and then a read of one of these objects that was refused
  pub IsStopped-read : (P : Rows → ℕ → Type 0) (may : RowStop → Type 0) (s t u : S) (oid : ℕ) (stop : RowStop) (fact : Rows → Type 0) → ((array : Rows) → face.law.meets array → fact array → P array oid)
      → SawIn face P s t fact → IsRefused face may t (asked_read oid) stop u → IsStopped face may (Reads face.law P) (AsksReads P) s stop u
  IsStopped-read P may s t u oid stop fact among seen refused =
      IsStopped-after may (Reads face.law P) (AsksReads P) s t u (asked_read oid) stop seen.saw.events seen.saw.goes_on seen.saw.follows seen.reads
      (λ array meets agrees. among array meets (seen.saw.saw array meets agrees)) refused

  -- some events, and then a call that was refused
  pub IsStopped-ran : (may : RowStop → Type 0) (kind : List Event → Type 0) (asks : List Event → Rows → Asked → Type 0) (s t u : S) (asked : Asked) (stop : RowStop) (es : List Event) → Ran face s es t → kind es
      → ((array : Rows) → asks es array asked) → IsRefused face may t asked stop u → IsStopped face may kind asks s stop u
  IsStopped-ran may kind asks s t u asked stop es ran is so refused =
      IsStopped-after may kind asks s t u asked stop es ran.goes_on ran.follows is (λ array meets agrees. so array) refused
