-- Turns over logs that others may go on writing: what is known of the log after one.
use Rattle.std.proofs.Common.{◌≡◌, ℕ, ◌+◌, ◌-◌, ◌≤◌, ◌++◌, List, length, take, replicate, Option, IfSome, refl, sym, ap, ◌∙◌, subst, arith}
use Rattle.erm_flush.specs.Over.{Flushes, Gathers, Tries}
use Rattle.erm_flush.specs.Turns.{IsReady}
use Rattle.erm_flush.proofs.Told.{cut_few, lasting, readies, written}
use Rattle.erm_log_disk.specs.Writes.{Lasts, OnlyWrites}
use Rattle.erm_log_view.specs.Views.{SeesBlocks}
use Rattle.erm_model.specs.Rows.{Rows}
use Rattle.erm_model.specs.declared.limits.TheConstants.{RING_WORDS}
use Rattle.erm_outside.specs.Disk.{Step}
use Rattle.erm_record.specs.Stored.{stored_length}
use Rattle.erm_world.specs.Log.{gathered_to, IsLog, Log}

-- what was gathered, with a place of the log flushed by now
module _ {S : Type 0} (stopped : S → ℕ → S → Type 0) (l m : Log) (at count : ℕ) (words : List ℕ) (did : SeesBlocks l m at count words) where
  pub end_at : at + count ≡ gathered_to m
  end_at = let here = did.at_is in let to = did.count_is in omega (arith, here, to)

  gathered_on : (end place : ℕ) (s t : S) → end ≡ at + count → stopped s (at + count) t → Gathers stopped end l (record m { flushed = place }) s t
  gathered_on end place s t end_is stops =
      let here = did.at_is in
      let some = did.some in
      record {
        some = omega (arith, here, some, end_is);
        end_is = end_is ∙ end_at;
        log = subst (λ (x : Log). record x { flushed = place } ≡ record l { tail = x.tail; gathered = x.gathered; flushed = place }) (sym did.gathered) refl;
        more = (did.more.0, ap (λ (x : Log). x.gathered) did.gathered ∙ did.more.1);
        stops = subst (λ (p : ℕ). stopped s p t) (sym end_is) stops;
      }

  module _
      (short : (row : List ℕ) → stored_length row ≤ length row) (whole : (row : List ℕ) → take (stored_length row) row ++ replicate (length row - stored_length row) 0 ≡ row)
      (sound : Rows → Type 0) (now : List ℕ) (before after : Option (List Step)) (same : now ≡ words) (room : length words ≡ RING_WORDS) (ready : IfSome before (IsReady l)) where
    -- some of the words may be written
    pub tried : (s t : S) → IsLog sound m → stopped s (at + count) t → OnlyWrites at (take count now) before after → Tries sound stopped l m s t before after
    tried s t is stops only =
        let flushed : m.flushed ≡ l.flushed = ap (λ (x : Log). x.flushed) did.gathered in
        record {
          gathers = gathered_on (gathered_to m) m.flushed s t (sym end_at) stops;
          flushed = flushed;
          writes = written short whole sound l m did.front did.blocks at (take count now) before after is (ap (λ (x : Log). x.gathered) did.gathered) (ap (λ (x : Log). x.opened) did.gathered)
              did.flushed_is did.at_is (ap (take count) same ∙ did.words_are) (cut_few short whole sound count words now same room) ready only;
        }

    -- they last
    pub flushed : (end : ℕ) (s t : S) → end ≡ at + count → IsLog sound (record m { flushed = end }) → stopped s (at + count) t → OnlyWrites at (take count now) before after
        → Lasts at (take count now) before after → Flushes sound stopped end l (record m { flushed = end }) s t before after
    flushed end s t end_is is stops only lasts =
        let n : Log = record m { flushed = end } in
        let split = ap (λ (x : Log). x.gathered) did.gathered in
        let opening = ap (λ (x : Log). x.opened) did.gathered in
        let words_are = ap (take count) same ∙ did.words_are in
        let all = end_is ∙ end_at in
        record {
          gathers = gathered_on end end s t end_is stops;
          flushed = refl;
          writes = written short whole sound l n did.front did.blocks at (take count now) before after is split opening did.flushed_is did.at_is words_are
              (cut_few short whole sound count words now same room) ready only;
          lasts = lasting short whole sound l n did.front did.blocks at (take count now) before after is split opening did.flushed_is did.at_is words_are ready all lasts;
          ready = readies short whole sound l n did.front did.blocks at (take count now) before after is split opening did.flushed_is did.at_is words_are ready all lasts;
        }
