-- Operations of one transaction, one after another.
use Rattle.std.proofs.Common.{◌≡◌, ℕ, List, [], ◌∷◌, inl, inr, refl, sym, ap, ◌∙◌, subst}
use Rattle.erm_model.specs.declared.operation.Op.{Op}
use Rattle.erm_model.specs.declared.operation.Op.TheVariants.{Get, Put, Del, Next, Scan, Save, Back}
use Rattle.erm_model.specs.declared.operation.Reply.{Reply}
use Rattle.erm_model.specs.declared.operation.Reply.TheVariants as reply
use Rattle.erm_model.specs.declared.row_stop.RowStop.{RowStop}
use Rattle.erm_model.specs.Database.{Database}
use Rattle.erm_model.specs.Rows.{Rows}
use Rattle.erm_model.specs.RowTransaction.{Event, Asked, Face, WritesNothing, IsLawful, SameLaw, GoesOn, Stays, Saw, Did}
use Rattle.erm_model.specs.Run.{IsOnMap, IsReplyOn, RunsOn, change, change_all, ops_of}
use Rattle.erm_model.proofs.RowCalls.{WritesNothing-OnlyReads, after_all-WritesNothing, SameView-itself, SameView-lawful, Runs-fitted, Runs-lawful, Runs-one, Runs-seen, Saw-on, Saw-lawful, Did-on, Did-lawful}
use Rattle.erm_node.specs.Sound.{IsSound, sound_law}
use Rattle.erm_node.specs.TreeMap.{map_of_rows}
use Rattle.erm_tree.specs.Calls.{IsReady, Reads}
use Rattle.erm_tree.specs.Operations.{IsAnswered, Stutters, CutOffsStutter, AnswersStutter, Call, answered, stuttered, answered_steps, AreCalled, AreRunOne}

module _ {S : Type 0} (face : Face S) where
  -- where no row was set, the rows seen are the same
  pub Stutters-seen : (s t : S) → Stutters face s t → (begun : Rows) → face.fits t begun → face.rows t begun ≡ face.rows s begun
  Stutters-seen s t same begun fits =
      same.stays.same.seen begun fits ∙ Runs-seen face same.events s same.at same.runs begun (same.stays.same.fitted begun fits)
      ∙ after_all-WritesNothing same.events same.none (face.rows s begun)

  -- no array fits that didn't before
  pub Stutters-fitted : (s t : S) → Stutters face s t → (begun : Rows) → face.fits t begun → face.fits s begun
  Stutters-fitted s t same begun fits = Runs-fitted face same.events s same.at same.runs begun (same.stays.same.fitted begun fits)

  -- and the transaction is lawful still
  pub Stutters-lawful : (s t : S) → IsLawful face s → Stutters face s t → IsLawful face t
  Stutters-lawful s t lawful same = SameView-lawful face same.at t (Runs-lawful face same.events s same.at lawful same.runs same.none) same.stays.same

  -- after which it may be called on
  pub Stutters-ready : (s t : S) → IsReady face s → Stutters face s t → IsReady face t
  Stutters-ready s t ready same = record { active = same.stays.active; possible = same.stays.possible; lawful = Stutters-lawful s t ready.lawful same }

  Did-ready : (s t : S) (change : Rows → Rows → Type 0) → IsReady face s → Did face s t change → IsReady face t
  Did-ready s t change ready did = record { active = did.goes_on.active; possible = did.goes_on.possible; lawful = Did-lawful face s t change ready.lawful did }

  -- events that set no row, and then a call that left all as it was
  pub Stutters-cut_off : (s at t : S) (events : List Event) → WritesNothing events → GoesOn face s events at → face.follows s at → Stays face at t → face.follows at t → Stutters face s t
  Stutters-cut_off s at t events none before goes refused after = record { events = events; none = none; at = at; runs = before.runs; goes = goes; stays = refused; rests = inr after }

  -- calls that were cut off after events of a kind that sets no row
  pub Stutters-stopped : (may : RowStop → Type 0) (kind : List Event → Type 0) (asks : List Event → Rows → Asked → Type 0) → ((events : List Event) → kind events → WritesNothing events) → CutOffsStutter face may kind asks
  Stutters-stopped may kind asks none s t stop stopped goes =
      Stutters-cut_off s stopped.at t stopped.events (none stopped.events stopped.of_kind) stopped.goes_on stopped.follows (stopped.refused.stays goes) stopped.refused.follows

  -- looks that were cut off
  pub Stutters-look : (may : RowStop → Type 0) (objects : Rows → ℕ → Type 0) (asks : List Event → Rows → Asked → Type 0) → CutOffsStutter face may (Reads face.law objects) asks
  Stutters-look may objects asks = Stutters-stopped may (Reads face.law objects) asks (λ events reads. WritesNothing-OnlyReads events reads.only)

  -- one call that was answered
  pub Stutters-does : (event : Event) → WritesNothing (event ∷ []) → AnswersStutter face event
  Stutters-does event none s t does = record {
    events = event ∷ [];
    none = none;
    at = t;
    runs = Runs-one face s t event does.step;
    goes = does.follows;
    stays = record { same = SameView-itself face t; active = does.active; possible = does.possible };
    rests = inl refl;
  }

  -- calls that saw a fact
  pub Stutters-saw : (s t : S) (fact : Rows → Type 0) → Saw face s t fact → Stutters face s t
  Stutters-saw s t fact saw = record {
    events = saw.events;
    none = WritesNothing-OnlyReads saw.events saw.reads;
    at = t;
    runs = saw.goes_on.runs;
    goes = saw.follows;
    stays = record { same = SameView-itself face t; active = saw.goes_on.active; possible = saw.goes_on.possible };
    rests = inl refl;
  }

  Answered-ready : (s t : S) (op : Op) (r : Reply) → IsReady face s → IsAnswered face s op r t → IsReady face t
  Answered-ready s t (Get table key) r ready (value, is, saw) = Stutters-ready s t ready (Stutters-saw s t _ saw)
  Answered-ready s t (Put table key value) r ready (is, did) = Did-ready s t _ ready did
  Answered-ready s t (Del table key) r ready (is, did) = Did-ready s t _ ready did
  Answered-ready s t (Next table from) r ready (found, is, saw) = Stutters-ready s t ready (Stutters-saw s t _ saw)
  Answered-ready s t (Scan table low high) r ready none = absurd none
  Answered-ready s t Save r ready none = absurd none
  Answered-ready s t (Back n) r ready none = absurd none

  -- after calls in turn the transaction may be called on
  pub Called-ready : (calls : List Call) (s t : S) → IsReady face s → AreCalled face s calls t → IsReady face t
  Called-ready [] s t ready same = subst (λ (u : S). IsReady face u) (sym same) ready
  Called-ready (answered step ∷ calls) s t ready (u, did, rest) = Called-ready calls u t (Answered-ready s u step.op step.reply ready did) rest
  Called-ready (stuttered ∷ calls) s t ready (u, same, rest) = Called-ready calls u t (Stutters-ready s u ready same) rest

module _ {S : Type 0} (face : Face S) (law : SameLaw face.law sound_law) where
  -- one operation
  record IsStep (s : S) (op : Op) (r : Reply) (t : S) : Type 0 where
    fitted : (begun : Rows) → face.fits t begun → face.fits s begun
    on_map : IsOnMap op
    answer : (begun : Rows) → IsSound begun → face.fits t begun → IsReplyOn (map_of_rows (face.rows s begun)) op r
    now : (begun : Rows) → IsSound begun → face.fits t begun → map_of_rows (face.rows t begun) ≡ change op (map_of_rows (face.rows s begun))
    lawful : IsLawful face t

  step_of : (s : S) (op : Op) (r : Reply) (t : S) → IsLawful face s → IsAnswered face s op r t → IsStep s op r t
  step_of s (Get table key) r t lawful (value, is, saw) = record {
    fitted = λ begun fits. Runs-fitted face saw.events s t saw.goes_on.runs begun fits;
    on_map = tt;
    answer = λ begun sound fits. is ∙ ap reply.Value (Saw-on face s t _ lawful saw begun ((law.meets begun).1 sound) fits).0;
    now = λ begun sound fits. ap map_of_rows (Saw-on face s t _ lawful saw begun ((law.meets begun).1 sound) fits).1;
    lawful = Saw-lawful face s t _ lawful saw;
  }
  step_of s (Put table key value) r t lawful (is, did) = record {
    fitted = λ begun fits. Runs-fitted face did.events s t did.goes_on.runs begun fits;
    on_map = tt;
    answer = λ begun sound fits. is;
    now = λ begun sound fits. Did-on face s t _ lawful did begun ((law.meets begun).1 sound) fits;
    lawful = Did-lawful face s t _ lawful did;
  }
  step_of s (Del table key) r t lawful (is, did) = record {
    fitted = λ begun fits. Runs-fitted face did.events s t did.goes_on.runs begun fits;
    on_map = tt;
    answer = λ begun sound fits. is;
    now = λ begun sound fits. Did-on face s t _ lawful did begun ((law.meets begun).1 sound) fits;
    lawful = Did-lawful face s t _ lawful did;
  }
  step_of s (Next table from) r t lawful (found, is, saw) = record {
    fitted = λ begun fits. Runs-fitted face saw.events s t saw.goes_on.runs begun fits;
    on_map = tt;
    answer = λ begun sound fits. (found, is, (Saw-on face s t _ lawful saw begun ((law.meets begun).1 sound) fits).0);
    now = λ begun sound fits. ap map_of_rows (Saw-on face s t _ lawful saw begun ((law.meets begun).1 sound) fits).1;
    lawful = Saw-lawful face s t _ lawful saw;
  }
  step_of s (Scan table low high) r t lawful none = absurd none
  step_of s Save r t lawful none = absurd none
  step_of s (Back n) r t lawful none = absurd none

  record IsAll (s : S) (calls : List Call) (t : S) : Type 0 where
    fitted : (begun : Rows) → face.fits t begun → face.fits s begun
    all : AreRunOne face s (answered_steps calls) t

  all_of : (calls : List Call) (s t : S) → IsLawful face s → AreCalled face s calls t → IsAll s calls t
  all_of [] s t lawful same = record {
    fitted = λ begun fits. subst (λ (u : S). face.fits u begun) same fits;
    all = record {
      on_map = tt;
      run = λ begun sound fits. tt;
      after = λ begun sound fits. ap (λ (u : S). map_of_rows (face.rows u begun)) same;
      lawful = subst (λ (u : S). IsLawful face u) (sym same) lawful;
    };
  }
  all_of (answered step ∷ calls) s t lawful (u, did, rest) =
      let one = step_of s step.op step.reply u lawful did in
      let more = all_of calls u t one.lawful rest in
      let steps = answered_steps calls in
      record {
        fitted = λ begun fits. one.fitted begun (more.fitted begun fits);
        all = record {
          on_map = (one.on_map, more.all.on_map);
          run = λ begun sound fits.
              let here = more.fitted begun fits in
              (one.answer begun sound here, subst (λ (m : Database). RunsOn m steps) (one.now begun sound here) (more.all.run begun sound fits));
          after = λ begun sound fits. more.all.after begun sound fits ∙ ap (change_all (ops_of steps)) (one.now begun sound (more.fitted begun fits));
          lawful = more.all.lawful;
        };
      }
  all_of (stuttered ∷ calls) s t lawful (u, same, rest) =
      let steps = answered_steps calls in
      let more = all_of calls u t (Stutters-lawful face s u lawful same) rest in
      let now = λ (begun : Rows) (fits : face.fits t begun). ap map_of_rows (Stutters-seen face s u same begun (more.fitted begun fits)) in
      record {
        fitted = λ begun fits. Stutters-fitted face s u same begun (more.fitted begun fits);
        all = record {
          on_map = more.all.on_map;
          run = λ begun sound fits. subst (λ (m : Database). RunsOn m steps) (now begun fits) (more.all.run begun sound fits);
          after = λ begun sound fits. more.all.after begun sound fits ∙ ap (change_all (ops_of steps)) (now begun fits);
          lawful = more.all.lawful;
        };
      }

  -- they run on the map
  pub AreRunOne-called : (s t : S) (calls : List Call) → IsLawful face s → AreCalled face s calls t → AreRunOne face s (answered_steps calls) t
  AreRunOne-called s t calls lawful called = (all_of calls s t lawful called).all
