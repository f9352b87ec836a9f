-- Turns over what states of a log are to somebody: what is so of the states is so of their images.
use Rattle.std.proofs.Common.{ℕ, Bool, List, Option, Result, Ok, Err, ap}
use Rattle.erm_flush.specs.declared.stops.FlushStop.{FlushStop}
use Rattle.erm_flush.specs.declared.stops.FlushStop.TheVariants.{Empty, Unfilled, DiskFault, Failed}
use Rattle.erm_flush.specs.Over.{DidWrite, Gathers, TurnsKnown, TurnsOver}
use Rattle.erm_model.specs.Rows.{Rows}
use Rattle.erm_outside.specs.Disk.{Step}
use Rattle.erm_world.specs.declared.gathered.Gathered.{Gathered}
use Rattle.erm_world.specs.Log.{Log}

module _ {S R : Type 0} (f : S → R) (before after : Option (List Step)) where
  module _ (gathers : R → Gathered → List ℕ → R → Type 0) (flushes : R → ℕ → R → Type 0) where
    abbrev gathers_of : S → Gathered → List ℕ → S → Type 0
    gathers_of s g words t = gathers (f s) g words (f t)

    abbrev flushes_of : S → ℕ → S → Type 0
    flushes_of s end t = flushes (f s) end (f t)

    write_of : (at count : ℕ) (s t : S) → DidWrite gathers_of at count s t before after → DidWrite gathers at count (f s) (f t) before after
    write_of at count s t w = record { words = w.words; room = w.room; looks = w.looks; writes = w.writes }

    pub turns_of : (result : Result ℕ FlushStop) (was now : Bool) (s t : S) → TurnsOver gathers_of flushes_of result was now s t before after
        → TurnsOver gathers flushes result was now (f s) (f t) before after
    turns_of (Ok end) was now s t (fine, still, d) = (
      fine,
      still,
      record {
        at = d.at;
        count = d.count;
        end_is = d.end_is;
        mid = f d.mid;
        write = record { words = d.write.words; room = d.write.room; looks = d.write.looks; writes = d.write.writes };
        lasts = d.lasts;
        stores = d.stores;
      },
    )
    turns_of (Err (Empty at)) was now s t did = did
    turns_of (Err (Unfilled at)) was now s t did = did
    turns_of (Err DiskFault) was now s t (fine, failed, d) = (fine, failed, (d.0, d.1, write_of d.0 d.1 s t d.2))
    turns_of (Err Failed) was now s t (failed, still, same, told) = (failed, still, ap f same, told)

  module _ (sound : Rows → Type 0) (knows awaits : R → Log → Type 0) (ended opened stopped : R → ℕ → R → Type 0) where
    abbrev knows_of : S → Log → Type 0
    knows_of s l = knows (f s) l

    abbrev awaits_of : S → Log → Type 0
    awaits_of s l = awaits (f s) l

    abbrev ended_of : S → ℕ → S → Type 0
    ended_of s place t = ended (f s) place (f t)

    abbrev opened_of : S → ℕ → S → Type 0
    opened_of s place t = opened (f s) place (f t)

    abbrev stopped_of : S → ℕ → S → Type 0
    stopped_of s place t = stopped (f s) place (f t)

    gathered_of : (end : ℕ) (l m : Log) (s t : S) → Gathers stopped_of end l m s t → Gathers stopped end l m (f s) (f t)
    gathered_of end l m s t g = record { some = g.some; end_is = g.end_is; log = g.log; more = g.more; stops = g.stops }

    pub known_of : (result : Result ℕ FlushStop) (l : Log) (s t : S) → TurnsKnown sound knows_of awaits_of ended_of opened_of stopped_of result l s t before after
        → TurnsKnown sound knows awaits ended opened stopped result l (f s) (f t) before after
    known_of (Ok end) l s t (m, know, d) =
        (m, know, record { gathers = gathered_of end l m s t d.gathers; flushed = d.flushed; writes = d.writes; lasts = d.lasts; ready = d.ready })
    known_of (Err (Empty at)) l s t known = known
    known_of (Err (Unfilled at)) l s t known = known
    known_of (Err DiskFault) l s t (m, await, d) =
        (m, await, record { gathers = gathered_of _ l m s t d.gathers; flushed = d.flushed; writes = d.writes })
    known_of (Err Failed) l s t (same, told) = (ap f same, told)
