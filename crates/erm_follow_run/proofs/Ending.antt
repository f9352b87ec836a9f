-- How following goes on, and ends.
use Rattle.std.proofs.Common.{◌≡◌, ℕ, ◌+◌, ◌*◌, ◌<◌, ◌≤◌, List, [], ◌++◌, length, take, drop, Option, None, Some, refl, sym, ap, ◌∙◌, arith, append_assoc, append-nil, length-append, inl, inr, subst}
use Rattle.std.specs.Prelude.{◌⊎◌, IfErr, IfSome, Result, Ok, Err}
use Rattle.std.proofs.lemmas.List.{length-take-le, take-append-drop}
use Rattle.erm_model.specs.declared.history.Commit.{Commit}
use Rattle.erm_outside.specs.Faults.{Rose}
use Rattle.erm_outside.specs.Sink.{Puts, PutsFront}
use Rattle.erm_outside.specs.Source.{Takes}
use Rattle.erm_report.specs.Texts.{line_text}
use Rattle.erm_report.specs.declared.line.Line.TheVariants as line
use Rattle.erm_follow.specs.Follow.{Followed, start as follow_start}
use Rattle.erm_follow.specs.Given.{HasGiven}
use Rattle.erm_replica.specs.declared.item.LogPlace.{LogPlace}
use Rattle.erm_replica.specs.Cuts.{Reads}
use Rattle.erm_replica.specs.Stream.{IsShort, Part, StandsFirst, Streamed, fed, part_words, start}
use Rattle.erm_replica.proofs.Cuts.{fed_twice, reads_more}
use Rattle.erm_follow_run.specs.declared.halt.Halt.{Halt}
use Rattle.erm_follow_run.specs.declared.halt.Halt.TheVariants as halt
use Rattle.erm_follow_run.specs.Draining.{AreLines, DrainsTo, HasFront, Leads}
use Rattle.erm_follow_run.specs.Ends.{EndsHalt, EndsPiece, Finishes, FollowEnds, HearsPiece, PrintsStarved, PrintsTo, Runs, TakesAtMost, TellsBad, TellsBroken, TellsCut, TellsFront, TellsSoFar, TellsStarved, TellsWhole, TookAll, TookFront, WasReadBut, Ways, StarvesAtOnce}
use Rattle.erm_follow_run.specs.Following.{Following}
use Rattle.erm_follow_run.specs.Texts.{bad_text, broken_text, end_text, lines_text}
use Rattle.erm_follow_run.proofs.Puts.{prints_join, prints_same, puts_front, puts_join, puts_nothing}
use Rattle.erm_follow_run.proofs.Told.{leads_nothing, lines_more}

-- ---- a piece that was fed

front_of : (h : Halt) (commits : List Commit) (text : List ℕ) → AreLines h commits text → HasFront commits [] text
front_of (halt.NotYet bytes) commits text is = record { front = commits; rest = []; split = sym (append-nil commits); added = is }
front_of (halt.Bad place) commits text is = record { front = commits; rest = []; split = sym (append-nil commits); added = is }
front_of (halt.Broken b) commits text is = record { front = commits; rest = []; split = sym (append-nil commits); added = is }
front_of halt.Memory commits text is = is

pub piece_starved : (s : Streamed) (f : Followed) (status : ℕ) (a b : Option (List ℕ)) (m n : ℕ) → status ≡ 8 → PrintsStarved a b m n → EndsPiece s f status a b m n
piece_starved s f status a b m n is printed = record {
  new = [];
  t = s;
  g = f;
  leads = leads_nothing s f;
  text = [];
  front = record { front = []; rest = []; split = refl; added = refl };
  how = inr (inl (is, printed));
}

pub piece_cut : (s t : Streamed) (f g : Followed) (text : List ℕ) (h : Halt) (a b : Option (List ℕ)) (m n : ℕ) → DrainsTo s f text h t g → PutsFront text a b → Rose m n → EndsPiece s f 5 a b m n
piece_cut s t f g text h a b m n drains cut rose = record {
  new = drains.new;
  t = drains.last_s;
  g = drains.last_f;
  leads = drains.leads;
  text = text;
  front = front_of h drains.new text drains.lines;
  how = inl (refl, cut, rose);
}

pub piece_ends : (h : Halt) (s t : Streamed) (f g : Followed) (text : List ℕ) (status : ℕ) (a b c : Option (List ℕ)) (k m n : ℕ) → DrainsTo s f text h t g → Puts text a b → m ≡ k → EndsHalt h status b c m n → EndsPiece s f status a c k n
piece_ends (halt.NotYet bytes) s t f g text status a b c k m n drains put sound ends = absurd ends
piece_ends (halt.Bad place) s t f g text status a b c k m n drains put sound ends = record {
  new = drains.new;
  t = drains.last_s;
  g = drains.last_f;
  leads = drains.leads;
  text = text;
  front = front_of (halt.Bad place) drains.new text drains.lines;
  how = elim ends [
    | inl own ↦ inr (inr (inl (
      own.0,
      drains.lines,
      drains.halts.0,
      prints_same (text ++ bad_text place) (text ++ bad_text drains.last_s.place) a c k n (ap (λ (p : ℕ). text ++ bad_text p) drains.halts.1) (prints_join text (bad_text place) a b c k m n put sound own.1),
    )))
    | inr starved ↦ inr (inl (starved.0, prints_join text (line_text line.NoMemory) a b c k m n put sound starved.1))
  ];
}
piece_ends (halt.Broken by) s t f g text status a b c k m n drains put sound ends = record {
  new = drains.new;
  t = drains.last_s;
  g = drains.last_f;
  leads = drains.leads;
  text = text;
  front = front_of (halt.Broken by) drains.new text drains.lines;
  how = elim ends [
    | inl own ↦ inr (inr (inr (own.0, drains.lines, (by, drains.halts, prints_join text (broken_text by.safe by.stamp) a b c k m n put sound own.1))))
    | inr starved ↦ inr (inl (starved.0, prints_join text (line_text line.NoMemory) a b c k m n put sound starved.1))
  ];
}
piece_ends halt.Memory s t f g text status a b c k m n drains put sound ends = record {
  new = drains.new;
  t = drains.last_s;
  g = drains.last_f;
  leads = drains.leads;
  text = text;
  front = front_of halt.Memory drains.new text drains.lines;
  how = inr (inl (ends.0, prints_join text (line_text line.NoMemory) a b c k m n put sound ends.1));
}

pub piece_heard : (s t : Streamed) (f g : Followed) (text : List ℕ) (h : Halt) (rest : ℕ) (a b c : Option (List ℕ)) (k m n : ℕ) → DrainsTo s f text h t g → h ≡ halt.NotYet rest → Puts text a b → m ≡ k → c ≡ b → n ≡ m
    → HearsPiece s f rest t g a c k n
piece_heard s t f g text h rest a b c k m n drains is put sound same still =
    heard (subst (λ (x : Halt). DrainsTo s f text x t g) is drains) where
      heard : DrainsTo s f text (halt.NotYet rest) t g → HearsPiece s f rest t g a c k n
      heard d = record {
        new = d.new;
        leads = subst (λ (x : Streamed). Leads s f d.new x g) (sym d.stays.0) (subst (λ (x : Followed). Leads s f d.new d.last_s x) (sym d.stays.1) d.leads);
        short = subst (λ (x : Streamed). IsShort x.log x.rest) (sym d.stays.0) d.halts.0;
        rest_is = d.halts.1 ∙ ap (λ (x : Streamed). length x.rest) (sym d.stays.0);
        put = subst (λ (xs : List ℕ). Puts xs a c) d.lines (same ∙ put);
        sound = still ∙ sound;
      }

pub piece_ends_so : (r : Result ℕ ℕ) (h : Halt) (s t : Streamed) (f g : Followed) (text : List ℕ) (a b c : Option (List ℕ)) (k m n : ℕ) → DrainsTo s f text h t g → Puts text a b → m ≡ k
    → IfErr r (λ status. EndsHalt h status b c m n) → IfErr r (λ status. EndsPiece s f status a c k n)
piece_ends_so (Ok rest) h s t f g text a b c k m n drains put sound ends = tt
piece_ends_so (Err status) h s t f g text a b c k m n drains put sound ends = piece_ends h s t f g text status a b c k m n drains put sound ends

-- ---- from one piece to the next

pub took_nothing : (left : Option (List ℕ)) → TookFront [] left left
took_nothing None = tt
took_nothing (Some bytes) = (bytes, refl, refl)

pub took_more : (n : ℕ) (bytes buffer : List ℕ) (first now next : Option (List ℕ)) → TookFront bytes first now → IfSome now (λ left. Takes left n buffer next) → TookFront (bytes ++ take n buffer) first next
took_more n bytes buffer None now next front takes = tt
took_more n bytes buffer (Some all) now next front takes =
    let here : Takes front.0 n buffer next = subst (λ (x : Option (List ℕ)). IfSome x (λ left. Takes left n buffer next)) front.2 takes in (
      drop n front.0,
      front.1 ∙ ap (λ (xs : List ℕ). bytes ++ xs) (sym (take-append-drop n front.0)) ∙ sym (append_assoc bytes (take n front.0) (drop n front.0))
          ∙ ap (λ (xs : List ℕ). (bytes ++ xs) ++ drop n front.0) (sym here.front),
      here.rest,
    )

pub took_all : (bytes buffer : List ℕ) (first now next : Option (List ℕ)) → TookFront bytes first now → IfSome now (λ left. Takes left 0 buffer next) → TookAll bytes first next
took_all bytes buffer None now next front takes = tt
took_all bytes buffer (Some all) now next front takes =
    let here : Takes front.0 0 buffer next = subst (λ (x : Option (List ℕ)). IfSome x (λ left. Takes left 0 buffer next)) front.2 takes in
    let none : front.0 ≡ [] = here.end refl in (
      front.1 ∙ ap (λ (xs : List ℕ). bytes ++ xs) none ∙ append-nil bytes,
      here.rest ∙ ap Some none,
    )

-- memory ran out
ends_8 : (a : Ways) → TakesAtMost 16777217 a.left_before a.left_after → TellsStarved a → a.source_after ≡ a.source_before → FollowEnds 8 a
ends_8 a taken starved source = record {
  known = inr (inr (inr (inl refl)));
  success = λ e. absurd (omega (arith, e));
  read_fault = λ e. absurd (omega (arith, e));
  sink_fault = λ e. absurd (omega (arith, e));
  no_memory = λ e. starved;
  too_long = λ e. absurd (omega (arith, e));
  bad = λ e. absurd (omega (arith, e));
  broken = λ e. absurd (omega (arith, e));
  taken = taken;
  source_sound = λ e. source;
  sink_sound = λ e. absurd (omega (arith, e));
}

module _ (stays : (log : Option LogPlace) (bytes more : List ℕ) (part : Part) → StandsFirst log bytes part → StandsFirst log (bytes ++ more) part)
    (within : (log : Option LogPlace) (bytes : List ℕ) (part : Part) → StandsFirst log bytes part → 8 * length (part_words part) ≤ length bytes) where
  fed_following : (bytes piece : List ℕ) (s : Streamed) (f : Followed) (lines : List Commit) → Following bytes s f lines → Following (bytes ++ piece) (fed s piece) f lines
  fed_following bytes piece s f lines following = record {
    parts = following.parts;
    reads = subst (λ (x : Streamed). Reads x following.parts (fed s piece)) (fed_twice start bytes piece) (reads_more stays within (fed start bytes) s following.parts piece following.reads);
    given = following.given;
    below = following.below;
  }

  pub runs_more : (first now next a b c : Option (List ℕ)) (taken rest left n k m : ℕ) (buffer : List ℕ) (s t : Streamed) (f g : Followed) → Runs first now a b taken rest s f
      → n ≤ length buffer → IfSome now (λ left. Takes left n buffer next) → HearsPiece (fed s (take n buffer)) f left t g b c k m → Runs first next a c (taken + n) left t g
  runs_more first now next a b c taken rest left n k m buffer s t f g runs few takes hears = record {
    bytes = runs.bytes ++ take n buffer;
    front = took_more n runs.bytes buffer first now next runs.front takes;
    count = omega (arith, length-append runs.bytes (take n buffer), length-take-le n buffer few, runs.count);
    lines = runs.lines ++ hears.new;
    following = hears.leads (runs.bytes ++ take n buffer) runs.lines (fed_following runs.bytes (take n buffer) s f runs.lines runs.following);
    short = hears.short;
    rest_is = hears.rest_is;
    put = subst (λ (text : List ℕ). Puts text a c) (sym (lines_more runs.lines hears.new)) (puts_join (lines_text runs.lines) (lines_text hears.new) a b c runs.put hears.put);
  }

  -- ---- how it ends

  front_more : (lines new : List Commit) (text : List ℕ) → HasFront new [] text → HasFront (lines ++ new) [] (lines_text lines ++ text)
  front_more lines new text front = record {
    front = lines ++ front.front;
    rest = front.rest;
    split = ap (λ (ls : List Commit). lines ++ ls) front.split ∙ sym (append_assoc lines front.front front.rest);
    added = ap (λ (xs : List ℕ). lines_text lines ++ xs) front.added ∙ sym (lines_more lines front.front);
  }

  ends_0 : (a : Ways) (text : List ℕ) → TakesAtMost 16777217 a.left_before a.left_after → TellsWhole a text → Puts text a.written_before a.written_after → a.sink_after ≡ a.sink_before → a.source_after ≡ a.source_before → FollowEnds 0 a
  ends_0 a text taken whole put sink source = record {
    known = inl refl;
    success = λ e. (text, whole, put);
    read_fault = λ e. absurd (omega (arith, e));
    sink_fault = λ e. absurd (omega (arith, e));
    no_memory = λ e. absurd (omega (arith, e));
    too_long = λ e. absurd (omega (arith, e));
    bad = λ e. absurd (omega (arith, e));
    broken = λ e. absurd (omega (arith, e));
    taken = taken;
    source_sound = λ e. source;
    sink_sound = λ e. sink;
  }

  ends_5 : (a : Ways) (text : List ℕ) → TakesAtMost 16777217 a.left_before a.left_after → TellsWhole a text ⊎ TellsCut a text → PutsFront text a.written_before a.written_after → Rose a.sink_before a.sink_after → a.source_after ≡ a.source_before → FollowEnds 5 a
  ends_5 a text taken tells put rose source = record {
    known = inr (inr (inl refl));
    success = λ e. absurd (omega (arith, e));
    read_fault = λ e. absurd (omega (arith, e));
    sink_fault = λ e. (rose, (text, tells, put));
    no_memory = λ e. absurd (omega (arith, e));
    too_long = λ e. absurd (omega (arith, e));
    bad = λ e. absurd (omega (arith, e));
    broken = λ e. absurd (omega (arith, e));
    taken = taken;
    source_sound = λ e. source;
    sink_sound = λ e. absurd (omega (arith, e));
  }

  ends_11 : (a : Ways) → TakesAtMost 16777217 a.left_before a.left_after → TellsBad a → a.source_after ≡ a.source_before → FollowEnds 11 a
  ends_11 a taken bad source = record {
    known = inr (inr (inr (inr (inr (inl refl)))));
    success = λ e. absurd (omega (arith, e));
    read_fault = λ e. absurd (omega (arith, e));
    sink_fault = λ e. absurd (omega (arith, e));
    no_memory = λ e. absurd (omega (arith, e));
    too_long = λ e. absurd (omega (arith, e));
    bad = λ e. bad;
    broken = λ e. absurd (omega (arith, e));
    taken = taken;
    source_sound = λ e. source;
    sink_sound = λ e. absurd (omega (arith, e));
  }

  ends_12 : (a : Ways) → TakesAtMost 16777217 a.left_before a.left_after → TellsBroken a → a.source_after ≡ a.source_before → FollowEnds 12 a
  ends_12 a taken broken source = record {
    known = inr (inr (inr (inr (inr (inr refl)))));
    success = λ e. absurd (omega (arith, e));
    read_fault = λ e. absurd (omega (arith, e));
    sink_fault = λ e. absurd (omega (arith, e));
    no_memory = λ e. absurd (omega (arith, e));
    too_long = λ e. absurd (omega (arith, e));
    bad = λ e. absurd (omega (arith, e));
    broken = λ e. broken;
    taken = taken;
    source_sound = λ e. source;
    sink_sound = λ e. absurd (omega (arith, e));
  }

  took_few : (first now next : Option (List ℕ)) (count : ℕ) (bytes : List ℕ) → TookFront bytes first now → next ≡ now → length bytes ≡ count → count ≤ 16777217 → TakesAtMost 16777217 first next
  took_few first now next count bytes front same is few = (bytes, subst (λ (x : Option (List ℕ)). TookFront bytes first x) (sym same) front, omega (arith, is, few))

  -- so far
  told_so_far : (bytes : List ℕ) (s : Streamed) (f : Followed) (lines : List Commit) → Following bytes s f lines → TellsSoFar bytes s f (lines_text lines)
  told_so_far bytes s f lines following = record { lines = lines; following = following; text_is = refl }

  -- the source failed
  pub ends_read_fault : (a : Ways) (now b : Option (List ℕ)) (count rest m : ℕ) (s : Streamed) (f : Followed) → Runs a.left_before now a.written_before b count rest s f → count ≤ 16777217 → a.left_after ≡ now
      → Rose a.source_before a.source_after → m ≡ a.sink_before → PrintsTo (line_text line.ReadFault) b a.written_after m a.sink_after → FollowEnds 4 a
  ends_read_fault a now b count rest m s f runs few kept rose sound printed = let taken = took_few a.left_before now a.left_after count runs.bytes runs.front kept runs.count few in record {
    known = inr (inl refl);
    success = λ e. absurd (omega (arith, e));
    read_fault = λ e. (
      rose,
      (
        runs.bytes,
        record {
          front = subst (λ (x : Option (List ℕ)). TookFront runs.bytes a.left_before x) (sym kept) runs.front;
          s = s;
          f = f;
          text = lines_text runs.lines;
          told = told_so_far runs.bytes s f runs.lines runs.following;
          short = runs.short;
          printed = prints_join (lines_text runs.lines) (line_text line.ReadFault) a.written_before b a.written_after a.sink_before m a.sink_after runs.put sound printed;
        },
      ),
    );
    sink_fault = λ e. absurd (omega (arith, e));
    no_memory = λ e. absurd (omega (arith, e));
    too_long = λ e. absurd (omega (arith, e));
    bad = λ e. absurd (omega (arith, e));
    broken = λ e. absurd (omega (arith, e));
    taken = taken;
    source_sound = λ ne. absurd (ne refl);
    sink_sound = λ e. absurd (omega (arith, e));
  }

  -- there are too many bytes
  pub ends_too_long : (a : Ways) (b : Option (List ℕ)) (count rest m : ℕ) (s : Streamed) (f : Followed) → Runs a.left_before a.left_after a.written_before b count rest s f → 16777216 < count → count ≤ 16777217
      → a.source_after ≡ a.source_before → m ≡ a.sink_before → PrintsTo (line_text line.TooLong) b a.written_after m a.sink_after → FollowEnds 9 a
  ends_too_long a b count rest m s f runs long few source sound printed = let taken = took_few a.left_before a.left_after a.left_after count runs.bytes runs.front refl runs.count few in record {
    known = inr (inr (inr (inr (inl refl))));
    success = λ e. absurd (omega (arith, e));
    read_fault = λ e. absurd (omega (arith, e));
    sink_fault = λ e. absurd (omega (arith, e));
    no_memory = λ e. absurd (omega (arith, e));
    too_long = λ e. (
      runs.bytes,
      omega (arith, long, runs.count),
      record {
        front = runs.front;
        s = s;
        f = f;
        text = lines_text runs.lines;
        told = told_so_far runs.bytes s f runs.lines runs.following;
        short = runs.short;
        printed = prints_join (lines_text runs.lines) (line_text line.TooLong) a.written_before b a.written_after a.sink_before m a.sink_after runs.put sound printed;
      },
    );
    bad = λ e. absurd (omega (arith, e));
    broken = λ e. absurd (omega (arith, e));
    taken = taken;
    source_sound = λ ne. source;
    sink_sound = λ e. absurd (omega (arith, e));
  }

  -- all items were read of all these bytes
  all_read : (bytes : List ℕ) (s : Streamed) (f : Followed) (lines : List Commit) → Following bytes s f lines → IsShort s.log s.rest → WasReadBut 4096 bytes
  all_read bytes s f lines following short = record {
    earlier = bytes;
    last = [];
    bytes_are = sym (append-nil bytes);
    few = omega arith;
    s = s;
    f = f;
    lines = lines;
    following = following;
    short = short;
  }

  -- the source came to its end
  pub ends_whole : (a : Ways) (status : ℕ) (now b : Option (List ℕ)) (buffer : List ℕ) (taken rest pending m : ℕ) (s : Streamed) (f : Followed) → Runs a.left_before now a.written_before b taken rest s f
      → taken ≤ 16777216 → IfSome now (λ left. Takes left 0 buffer a.left_after) → pending ≡ length f.waiting → a.source_after ≡ a.source_before → m ≡ a.sink_before
      → Finishes (end_text pending rest) status b a.written_after m a.sink_after → FollowEnds status a
  ends_whole a status now b buffer taken rest pending m s f runs few takes waits source sound finishes =
      let told : List ℕ = lines_text runs.lines in
      let text : List ℕ = told ++ end_text pending rest in
      let front : TookFront runs.bytes a.left_before a.left_after = took_end runs.bytes buffer a.left_before now a.left_after runs.front takes in
      let all : TakesAtMost 16777217 a.left_before a.left_after = (runs.bytes, front, omega (arith, few, runs.count)) in
      let whole : TellsWhole a text = record {
        bytes = runs.bytes;
        all = took_all runs.bytes buffer a.left_before now a.left_after runs.front takes;
        few = omega (arith, few, runs.count);
        s = s;
        f = f;
        told = told;
        so_far = told_so_far runs.bytes s f runs.lines runs.following;
        short = runs.short;
        text_is = ap (λ (n : ℕ). told ++ end_text n rest) waits ∙ ap (λ (n : ℕ). told ++ end_text (length f.waiting) n) runs.rest_is;
      } in
      elim finishes [
        | inl done ↦ subst (λ (n : ℕ). FollowEnds n a) (sym done.0) (ends_0 a text all whole (puts_join told (end_text pending rest) a.written_before b a.written_after runs.put done.1) (done.2 ∙ sound) source)
        | inr others ↦ elim others [
          | inl cut ↦ subst (λ (n : ℕ). FollowEnds n a) (sym cut.0) (ends_5 a text all (inl whole) (puts_front told (end_text pending rest) a.written_before b a.written_after runs.put cut.1)
              (subst (λ (x : ℕ). Rose x a.sink_after) sound cut.2) source)
          | inr starved ↦ subst (λ (n : ℕ). FollowEnds n a) (sym starved.0) (ends_8 a all (record {
            bytes = runs.bytes;
            front = front;
            before = all_read runs.bytes s f runs.lines runs.following runs.short;
            text = told;
            told = record { s = s; f = f; lines = runs.lines; following = runs.following; front = record { front = runs.lines; rest = []; split = sym (append-nil runs.lines); added = refl } };
            printed = prints_join told (line_text line.NoMemory) a.written_before b a.written_after a.sink_before m a.sink_after runs.put sound starved.1;
          }) source)
        ]
      ] where
        took_end : (bytes buffer : List ℕ) (first now next : Option (List ℕ)) → TookFront bytes first now → IfSome now (λ left. Takes left 0 buffer next) → TookFront bytes first next
        took_end bytes buffer first now next front takes = subst (λ (xs : List ℕ). TookFront xs first next) (append-nil bytes) (took_more 0 bytes buffer first now next front takes)

  -- a piece ended it
  pub ends_piece : (a : Ways) (status : ℕ) (now b : Option (List ℕ)) (buffer : List ℕ) (taken rest n m : ℕ) (s : Streamed) (f : Followed) → Runs a.left_before now a.written_before b taken rest s f
      → n ≤ length buffer → n ≤ 4096 → taken + n ≤ 16777217 → IfSome now (λ left. Takes left n buffer a.left_after) → a.source_after ≡ a.source_before → m ≡ a.sink_before
      → EndsPiece (fed s (take n buffer)) f status b a.written_after m a.sink_after → FollowEnds status a
  ends_piece a status now b buffer taken rest n m s f runs few most room takes source sound ends =
      let bytes : List ℕ = runs.bytes ++ take n buffer in
      let before : WasReadBut 4096 bytes = record {
        earlier = runs.bytes;
        last = take n buffer;
        bytes_are = refl;
        few = omega (arith, length-take-le n buffer few, most);
        s = s;
        f = f;
        lines = runs.lines;
        following = runs.following;
        short = runs.short;
      } in
      let front : TookFront bytes a.left_before a.left_after = took_more n runs.bytes buffer a.left_before now a.left_after runs.front takes in
      let all : TakesAtMost 16777217 a.left_before a.left_after = (bytes, front, omega (arith, length-append runs.bytes (take n buffer), length-take-le n buffer few, runs.count, room)) in
      let lines : List Commit = runs.lines ++ ends.new in
      let following : Following bytes ends.t ends.g lines = ends.leads bytes runs.lines (fed_following runs.bytes (take n buffer) s f runs.lines runs.following) in
      let first : List ℕ = lines_text runs.lines in
      let text : List ℕ = first ++ ends.text in
      let told : TellsFront bytes text = record { s = ends.t; f = ends.g; lines = lines; following = following; front = front_more runs.lines ends.new ends.text ends.front } in
      let prints : (more : List ℕ) → PrintsTo (ends.text ++ more) b a.written_after m a.sink_after → PrintsTo (text ++ more) a.written_before a.written_after a.sink_before a.sink_after =
      λ more printed. prints_same (first ++ (ends.text ++ more)) (text ++ more) a.written_before a.written_after a.sink_before a.sink_after (sym (append_assoc first ends.text more))
      (prints_join first (ends.text ++ more) a.written_before b a.written_after a.sink_before m a.sink_after runs.put sound printed) in
      let so_far : ends.text ≡ lines_text ends.new → TellsSoFar bytes ends.t ends.g text =
      λ is. record { lines = lines; following = following; text_is = ap (λ (xs : List ℕ). first ++ xs) is ∙ sym (lines_more runs.lines ends.new) } in
      elim ends.how [
        | inl cut ↦ subst (λ (k : ℕ). FollowEnds k a) (sym cut.0) (ends_5 a text all (inr (record { bytes = bytes; front = front; before = before; told = told }))
            (puts_front first ends.text a.written_before b a.written_after runs.put cut.1) (subst (λ (x : ℕ). Rose x a.sink_after) sound cut.2) source)
        | inr others ↦ elim others [
          | inl starved ↦ subst (λ (k : ℕ). FollowEnds k a) (sym starved.0) (ends_8 a all (record { bytes = bytes; front = front; before = before; text = text; told = told; printed = prints (line_text line.NoMemory) starved.1 }) source)
          | inr more ↦ elim more [
            | inl bad ↦ subst (λ (k : ℕ). FollowEnds k a) (sym bad.0) (ends_11 a all (record {
              bytes = bytes;
              front = front;
              before = before;
              s = ends.t;
              f = ends.g;
              text = text;
              told = so_far bad.1;
              bad = bad.2;
              printed = prints (bad_text ends.t.place) bad.3;
            }) source)
            | inr broken ↦ subst (λ (k : ℕ). FollowEnds k a) (sym broken.0) (ends_12 a all (record {
              bytes = bytes;
              front = front;
              before = before;
              s = ends.t;
              f = ends.g;
              text = text;
              told = so_far broken.1;
              by = broken.2.0;
              broken = broken.2.1;
              printed = prints (broken_text broken.2.0.safe broken.2.0.stamp) broken.2.2;
            }) source)
          ]
        ]
      ]

-- at first
pub runs_first : (given : HasGiven 8 [] [] (follow_start 8)) → (left written : Option (List ℕ)) → Runs left left written written 0 0 start (follow_start 8)
runs_first given left written = record {
  bytes = [];
  front = took_nothing left;
  count = refl;
  lines = [];
  following = record { parts = []; reads = refl; given = given; below = tt };
  short = inl (omega arith);
  rest_is = refl;
  put = puts_nothing written;
}

-- no bytes were taken
all_read_first : Following [] start (follow_start 8) [] → WasReadBut 4096 []
all_read_first following = record {
  earlier = [];
  last = [];
  bytes_are = refl;
  few = omega arith;
  s = start;
  f = follow_start 8;
  lines = [];
  following = following;
  short = inl (omega arith);
}

-- and where memory runs out before a byte is taken
pub starved_first : HasGiven 8 [] [] (follow_start 8) → (a : Ways) → StarvesAtOnce a → FollowEnds 8 a
starved_first given a starves =
    let front : TookFront [] a.left_before a.left_after = subst (λ (x : Option (List ℕ)). TookFront [] a.left_before x) (sym starves.left) (took_nothing a.left_before) in
    let following : Following [] start (follow_start 8) [] = record { parts = []; reads = refl; given = given; below = tt } in
    ends_8 a ([], front, omega arith) (record {
      bytes = [];
      front = front;
      before = all_read_first following;
      text = [];
      told = record { s = start; f = follow_start 8; lines = []; following = following; front = record { front = []; rest = []; split = refl; added = refl } };
      printed = starves.printed;
    }) starves.sound
