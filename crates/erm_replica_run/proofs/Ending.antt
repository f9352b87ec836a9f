-- How replicating goes on, and ends.
use Rattle.std.proofs.Common.{◌≡◌, ℕ, ◌+◌, ◌<◌, ◌≤◌, true, false, List, [], ◌++◌, length, take, Option, None, refl, sym, ◌∙◌, arith, length-append, inl, inr, subst}
use Rattle.std.specs.Prelude.{IfSome}
use Rattle.std.proofs.lemmas.Bool.{false≢true}
use Rattle.std.proofs.lemmas.List.{length-take-le}
use Rattle.erm_model.proofs.Members.{none_in_nil}
use Rattle.erm_outside.specs.Faults.{Rose}
use Rattle.erm_outside.specs.Sink.{Puts, PutsFront}
use Rattle.erm_outside.specs.Source.{Takes}
use Rattle.erm_report.specs.Texts.{line_text}
use Rattle.erm_report.specs.declared.line.Line.TheVariants as line
use Rattle.erm_follow_run.specs.Ends.{EndsWith, PrintsStarved, PrintsTo, StarvesAtOnce, TakesAtMost, TookFront, Ways}
use Rattle.erm_follow_run.specs.Texts.{bad_text}
use Rattle.erm_follow_run.proofs.Ending.{took_all, took_more, took_nothing}
use Rattle.erm_replica_rows.specs.Keeping.{Keeps, Replicated, TakesPiece, shown}
use Rattle.erm_replica_rows.specs.Replica.{IsBadAt, IsReplicaOf}
use Rattle.erm_replica_run.specs.Ends.{Finishes, PrintsBad, PrintsNoMemory, ReplicaEnds, Runs, TellsWhole}
use Rattle.erm_replica_run.specs.Texts.{IsGood, IsGoodBut, TellsShown}

-- ---- from one piece to the next

pub runs_first : (left : Option (List ℕ)) (r : Replicated) → Keeps [] r → r.is_bad ≡ false → Runs left left 0 r
runs_first left r keeps good = record {
  bytes = [];
  front = took_nothing left;
  count = refl;
  keeps = keeps;
  good = good;
}

pub runs_more : (first now next : Option (List ℕ)) (taken n : ℕ) (buffer : List ℕ) (r t : Replicated) → Runs first now taken r → n ≤ length buffer → IfSome now (λ left. Takes left n buffer next)
    → TakesPiece r (take n buffer) t → t.is_bad ≡ false → Runs first next (taken + n) t
runs_more first now next taken n buffer r t runs few takes fed good = record {
  bytes = runs.bytes ++ take n buffer;
  front = took_more n runs.bytes buffer first now next runs.front takes;
  count = omega (arith, length-append runs.bytes (take n buffer), length-take-le n buffer few, runs.count);
  keeps = fed runs.bytes runs.keeps;
  good = good;
}

-- ---- how it ends

-- a replica that was fed nothing keeps what no bytes tell
nothing : Replicated
nothing = record {
  kept = record {
    stream = record { place = 0; log = None; rest = [] };
    rows = [];
    since = record { place = 0; log = None; rest = [] };
    safe_rows = [];
    base = 0;
    safe = None;
  };
  is_bad = false;
}

nothing_keeps : Keeps [] nothing
unfolding nothing
nothing_keeps = record {
  taken = [];
  passed = [];
  bytes_are = refl;
  holds = record {
    below = [];
    others = [];
    reads = refl;
    goes_on = refl;
    sound = tt;
    rows = tt;
    safe_rows = tt;
    base_is = λ c m. absurd (none_in_nil _ m);
    safe = λ stamp names. none_in_nil names.part names.there;
    are_below = tt;
    from = tt;
    none = λ e. refl;
  };
  good = λ so. (refl, inl (omega arith));
  bad = λ so. absurd (false≢true so);
}

prints_at : (text : List ℕ) (a b c : Option (List ℕ)) (k m n : ℕ) → b ≡ a → m ≡ k → PrintsTo text b c m n → PrintsTo text a c k n
prints_at text a b c k m n written sound printed = subst (λ (x : Option (List ℕ)). PrintsTo text x c k n) written (subst (λ (x : ℕ). PrintsTo text b c x n) sound printed)

ends_8 : (a : Ways) → TakesAtMost 16777217 a.left_before a.left_after → a.source_after ≡ a.source_before → PrintsNoMemory a → ReplicaEnds 8 a
ends_8 a taken source printed = record {
  known = inr (inr (inr (inl refl)));
  success = λ e. absurd (omega (arith, e));
  read_fault = λ e. absurd (omega (arith, e));
  sink_fault = λ e. absurd (omega (arith, e));
  no_memory = λ e. printed;
  too_long = λ e. absurd (omega (arith, e));
  bad = λ e. absurd (omega (arith, e));
  taken = taken;
  source_sound = λ e. source;
  sink_sound = λ e. absurd (omega (arith, e));
}

ends_0 : (a : Ways) (text : List ℕ) → TakesAtMost 16777217 a.left_before a.left_after → a.source_after ≡ a.source_before → TellsWhole a text → Puts text a.written_before a.written_after → a.sink_after ≡ a.sink_before → ReplicaEnds 0 a
ends_0 a text taken source whole put sink = record {
  known = inl refl;
  success = λ e. (text, whole, put);
  read_fault = λ e. absurd (omega (arith, e));
  sink_fault = λ e. absurd (omega (arith, e));
  no_memory = λ e. absurd (omega (arith, e));
  too_long = λ e. absurd (omega (arith, e));
  bad = λ e. absurd (omega (arith, e));
  taken = taken;
  source_sound = λ e. source;
  sink_sound = λ e. sink;
}

ends_5 : (a : Ways) (text : List ℕ) → TakesAtMost 16777217 a.left_before a.left_after → a.source_after ≡ a.source_before → TellsWhole a text → PutsFront text a.written_before a.written_after → Rose a.sink_before a.sink_after → ReplicaEnds 5 a
ends_5 a text taken source whole put rose = record {
  known = inr (inr (inl refl));
  success = λ e. absurd (omega (arith, e));
  read_fault = λ e. absurd (omega (arith, e));
  sink_fault = λ e. (rose, (text, whole, put));
  no_memory = λ e. absurd (omega (arith, e));
  too_long = λ e. absurd (omega (arith, e));
  bad = λ e. absurd (omega (arith, e));
  taken = taken;
  source_sound = λ e. source;
  sink_sound = λ e. absurd (omega (arith, e));
}

ends_11 : (a : Ways) → TakesAtMost 16777217 a.left_before a.left_after → a.source_after ≡ a.source_before → PrintsBad a → ReplicaEnds 11 a
ends_11 a taken source bad = record {
  known = inr (inr (inr (inr (inr refl))));
  success = λ e. absurd (omega (arith, e));
  read_fault = λ e. absurd (omega (arith, e));
  sink_fault = λ e. absurd (omega (arith, e));
  no_memory = λ e. absurd (omega (arith, e));
  too_long = λ e. absurd (omega (arith, e));
  bad = λ e. bad;
  taken = taken;
  source_sound = λ e. source;
  sink_sound = λ e. absurd (omega (arith, e));
}

module _ (answers : (bytes : List ℕ) (r : Replicated) → Keeps bytes r → IsReplicaOf bytes (shown r)) (bad_at : (bytes : List ℕ) (r : Replicated) → Keeps bytes r → r.is_bad ≡ true → IsBadAt bytes r.kept.stream.place)
    (good_at : (bytes : List ℕ) (r : Replicated) (place : ℕ) → Keeps bytes r → r.is_bad ≡ false → IsBadAt bytes place → ⊥) where
  is_good : (first now : Option (List ℕ)) (taken : ℕ) (r : Replicated) (runs : Runs first now taken r) → IsGood runs.bytes
  is_good first now taken r runs = λ place bad. good_at runs.bytes r place runs.keeps runs.good bad

  -- the source failed
  pub ends_read_fault : (a : Ways) (now b : Option (List ℕ)) (taken m : ℕ) (r : Replicated) → Runs a.left_before now taken r → taken ≤ 16777217 → a.left_after ≡ now → Rose a.source_before a.source_after
      → b ≡ a.written_before → m ≡ a.sink_before → PrintsTo (line_text line.ReadFault) b a.written_after m a.sink_after → ReplicaEnds 4 a
  ends_read_fault a now b taken m r runs few kept rose written sound printed =
      let front : TookFront runs.bytes a.left_before a.left_after = subst (λ (x : Option (List ℕ)). TookFront runs.bytes a.left_before x) (sym kept) runs.front in
      record {
        known = inr (inl refl);
        success = λ e. absurd (omega (arith, e));
        read_fault = λ e. (
          rose,
          (
            runs.bytes,
            record {
              front = front;
              good = is_good a.left_before now taken r runs;
              printed = prints_at (line_text line.ReadFault) a.written_before b a.written_after a.sink_before m a.sink_after written sound printed;
            },
          ),
        );
        sink_fault = λ e. absurd (omega (arith, e));
        no_memory = λ e. absurd (omega (arith, e));
        too_long = λ e. absurd (omega (arith, e));
        bad = λ e. absurd (omega (arith, e));
        taken = (runs.bytes, front, omega (arith, few, runs.count));
        source_sound = λ ne. absurd (ne refl);
        sink_sound = λ e. absurd (omega (arith, e));
      }

  -- there are too many bytes
  pub ends_too_long : (a : Ways) (b : Option (List ℕ)) (taken m : ℕ) (r : Replicated) → Runs a.left_before a.left_after taken r → 16777216 < taken → taken ≤ 16777217 → a.source_after ≡ a.source_before
      → b ≡ a.written_before → m ≡ a.sink_before → PrintsTo (line_text line.TooLong) b a.written_after m a.sink_after → ReplicaEnds 9 a
  ends_too_long a b taken m r runs long few source written sound printed = record {
    known = inr (inr (inr (inr (inl refl))));
    success = λ e. absurd (omega (arith, e));
    read_fault = λ e. absurd (omega (arith, e));
    sink_fault = λ e. absurd (omega (arith, e));
    no_memory = λ e. absurd (omega (arith, e));
    too_long = λ e. (
      runs.bytes,
      omega (arith, long, runs.count),
      record {
        front = runs.front;
        good = is_good a.left_before a.left_after taken r runs;
        printed = prints_at (line_text line.TooLong) a.written_before b a.written_after a.sink_before m a.sink_after written sound printed;
      },
    );
    bad = λ e. absurd (omega (arith, e));
    taken = (runs.bytes, runs.front, omega (arith, few, runs.count));
    source_sound = λ ne. source;
    sink_sound = λ e. absurd (omega (arith, e));
  }

  -- nothing is met in no bytes that is no item
  first_good : IsGood []
  unfolding nothing
  first_good = λ place bad. good_at [] nothing place nothing_keeps refl bad

  -- memory ran out before a byte was taken
  pub ends_starved_first : (a : Ways) (status : ℕ) → status ≡ 8 → StarvesAtOnce a → ReplicaEnds status a
  ends_starved_first a status is starves =
      let front : TookFront [] a.left_before a.left_after = subst (λ (x : Option (List ℕ)). TookFront [] a.left_before x) (sym starves.left) (took_nothing a.left_before) in
      subst (λ (k : ℕ). ReplicaEnds k a) (sym is) (ends_8 a ([], front, omega arith) starves.sound (record {
        bytes = [];
        front = front;
        before = record { earlier = []; last = []; bytes_are = refl; few = omega arith; good = first_good };
        printed = starves.printed;
      }))

  -- so far nothing was met that is no item
  good_so_far : (first now : Option (List ℕ)) (buffer : List ℕ) (taken n : ℕ) (r : Replicated) (runs : Runs first now taken r) → n ≤ length buffer → n ≤ 4096 → IsGoodBut 4096 (runs.bytes ++ take n buffer)
  good_so_far first now buffer taken n r runs few most = record {
    earlier = runs.bytes;
    last = take n buffer;
    bytes_are = refl;
    few = omega (arith, length-take-le n buffer few, most);
    good = is_good first now taken r runs;
  }

  -- a piece that was taken of the source
  took_piece : (a : Ways) (now : Option (List ℕ)) (buffer : List ℕ) (taken n : ℕ) (r : Replicated) (runs : Runs a.left_before now taken r) → n ≤ length buffer → taken + n ≤ 16777217
      → IfSome now (λ left. Takes left n buffer a.left_after) → TakesAtMost 16777217 a.left_before a.left_after
  took_piece a now buffer taken n r runs few room takes = (
    runs.bytes ++ take n buffer,
    took_more n runs.bytes buffer a.left_before now a.left_after runs.front takes,
    omega (arith, length-append runs.bytes (take n buffer), length-take-le n buffer few, runs.count, room),
  )

  -- memory ran out for a piece
  pub ends_starved : (a : Ways) (status : ℕ) (now b : Option (List ℕ)) (buffer : List ℕ) (taken n m : ℕ) (r : Replicated) → Runs a.left_before now taken r → n ≤ length buffer → n ≤ 4096 → taken + n ≤ 16777217
      → IfSome now (λ left. Takes left n buffer a.left_after) → a.source_after ≡ a.source_before → b ≡ a.written_before → m ≡ a.sink_before
      → status ≡ 8 → PrintsStarved b a.written_after m a.sink_after → ReplicaEnds status a
  ends_starved a status now b buffer taken n m r runs few most room takes source written sound is printed =
      subst (λ (k : ℕ). ReplicaEnds k a) (sym is)
      (ends_8 a (took_piece a now buffer taken n r runs few room takes) source (record {
        bytes = runs.bytes ++ take n buffer;
        front = took_more n runs.bytes buffer a.left_before now a.left_after runs.front takes;
        before = good_so_far a.left_before now buffer taken n r runs few most;
        printed = prints_at (line_text line.NoMemory) a.written_before b a.written_after a.sink_before m a.sink_after written sound printed;
      }))

  -- a piece shows what is no item
  pub ends_bad : (a : Ways) (status : ℕ) (now b : Option (List ℕ)) (buffer : List ℕ) (taken n m place : ℕ) (r t : Replicated) → Runs a.left_before now taken r → n ≤ length buffer → n ≤ 4096 → taken + n ≤ 16777217
      → IfSome now (λ left. Takes left n buffer a.left_after) → a.source_after ≡ a.source_before → b ≡ a.written_before → m ≡ a.sink_before
      → t.is_bad ≡ true → place ≡ t.kept.stream.place → TakesPiece r (take n buffer) t → EndsWith 11 (bad_text place) status b a.written_after m a.sink_after → ReplicaEnds status a
  ends_bad a status now b buffer taken n m place r t runs few most room takes source written sound bad place_is fed ends =
      let all = took_piece a now buffer taken n r runs few room takes in
      elim ends [
        | inl own ↦ subst (λ (k : ℕ). ReplicaEnds k a) (sym own.0) (ends_11 a all source (record {
          bytes = runs.bytes ++ take n buffer;
          front = took_more n runs.bytes buffer a.left_before now a.left_after runs.front takes;
          before = good_so_far a.left_before now buffer taken n r runs few most;
          place = place;
          bad = subst (λ (p : ℕ). IsBadAt (runs.bytes ++ take n buffer) p) (sym place_is) (bad_at (runs.bytes ++ take n buffer) t (fed runs.bytes runs.keeps) bad);
          printed = prints_at (bad_text place) a.written_before b a.written_after a.sink_before m a.sink_after written sound own.1;
        }))
        | inr starved ↦ ends_starved a status now b buffer taken n m r runs few most room takes source written sound starved.0 starved.1
      ]

  -- the source came to its end
  pub ends_whole : (a : Ways) (status : ℕ) (now b : Option (List ℕ)) (buffer : List ℕ) (taken m : ℕ) (r : Replicated) → Runs a.left_before now taken r → taken ≤ 16777216
      → IfSome now (λ left. Takes left 0 buffer a.left_after) → a.source_after ≡ a.source_before → b ≡ a.written_before → m ≡ a.sink_before
      → Finishes (shown r) status b a.written_after m a.sink_after → ReplicaEnds status a
  ends_whole a status now b buffer taken m r runs few takes source written sound finishes =
      let all : TakesAtMost 16777217 a.left_before a.left_after = took_piece a now buffer taken 0 r runs (omega arith) (omega (arith, few)) takes in
      let whole : (text : List ℕ) → TellsShown (shown r) text → TellsWhole a text = λ text tells. record {
        bytes = runs.bytes;
        all = took_all runs.bytes buffer a.left_before now a.left_after runs.front takes;
        few = omega (arith, few, runs.count);
        tells = record { shown = shown r; is = answers runs.bytes r runs.keeps; good = is_good a.left_before now taken r runs; tells = tells };
      } in
      elim finishes [
        | inl done ↦ subst (λ (k : ℕ). ReplicaEnds k a) (sym done.0)
            (ends_0 a done.1.0 all source (whole done.1.0 done.1.1) (subst (λ (x : Option (List ℕ)). Puts done.1.0 x a.written_after) written done.1.2) (done.2 ∙ sound))
        | inr others ↦ elim others [
          | inl cut ↦ subst (λ (k : ℕ). ReplicaEnds k a) (sym cut.0)
              (ends_5 a cut.1.0 all source (whole cut.1.0 cut.1.1) (subst (λ (x : Option (List ℕ)). PutsFront cut.1.0 x a.written_after) written cut.1.2) (subst (λ (x : ℕ). Rose x a.sink_after) sound cut.2))
          | inr starved ↦ ends_starved a status now b buffer taken 0 m r runs (omega arith) (omega arith) (omega (arith, few)) takes source written sound starved.0 starved.1
        ]
      ]
