-- A snapshot's look at one session, and at all of them, one after another.
use Rattle.std.proofs.Common.{◌≡◌, ◌≢◌, ⊎_elim, ℕ, ◌+◌, ◌<◌, ◌≤◌, Bool, true, false, eqb, ltb, Option, Some, is_some, refl, sym, ap, ◌∙◌, subst, arith, eq-eqb}
use Rattle.std.specs.Prelude.{if◌then◌else◌, IsSome}
use Rattle.std.proofs.lemmas.Bool.{cases_eq, le-ltb, lt-ltb, ne_eqb}
use Rattle.std.proofs.lemmas.Option.{same_Some}
use Rattle.erm_machine.specs.declared.event.Kind.TheVariants as kind
use Rattle.erm_machine.specs.declared.limits.TheConstants.{SESSIONS}
use Rattle.erm_machine.specs.declared.part.Part.{Part}
use Rattle.erm_machine.specs.declared.task.Task.{Task}
use Rattle.erm_machine.specs.declared.task.Task.TheVariants as task
use Rattle.erm_machine.specs.Core.{Shared, spot_of, word_at}
use Rattle.erm_machine.specs.Life.{after_passed, after_survey, load_begin}
use Rattle.erm_machine.specs.Seat.{is_active, with_task}
use Rattle.erm_machine.specs.Step.{part_after}
use Rattle.erm_machine.specs.Words.{is_session}
use Rattle.erm_machine.proofs.Backs.{session_from, session_within}
use Rattle.erm_model.specs.RowTransaction.{Law}
use Rattle.erm_rule.specs.declared.view.Book.{Book}
use Rattle.erm_rule.specs.declared.view.View.{View}
use Rattle.erm_rule.specs.Books.{IsAfter}
use Rattle.erm_rule.specs.Hands.{IsKnown}
use Rattle.erm_rule.specs.Steps.{Booked, Ready, Told}
use Rattle.erm_rule.specs.Views.{part_in, part_of, with_part}
use Rattle.erm_rule.specs.Went.{IsLoadStep, Went}
use Rattle.erm_rule.proofs.Courses.{seen_after}
use Rattle.erm_rule.proofs.Numbered.{known_after}
use Rattle.erm_rule.proofs.Parts.{with_part-again, with_part-same}
use Rattle.erm_rule.proofs.Telling.{changed_here, held_part, is_held, part_of-changed, ready_by, told_after, told_first}
use Rattle.erm_rule.proofs.Wents.{went_more}
use Rattle.erm_seats.specs.declared.answer.SafeStop.{SafeStop}
use Rattle.erm_seats.specs.declared.answer.SafeStop.TheVariants as stop
use Rattle.erm_seats.specs.Safe.{sees_late, DidNotSurvey, DidPass, DidSurvey, FindsBack, FindsBegin, IsUnsafeBy, TookNoSurvey, TookUnsafe, TookWaitFor, WaitsFor, WasStopMet}
use Rattle.erm_seats.proofs.Raising.{both, when_true}
use Rattle.erm_seats.proofs.Sealing.{not_vacant}

-- ONE SESSION
module _ (v : View) (who seat : ℕ) (active : is_active (part_of v who).place ≡ true) (looks : (part_of v who).task ≡ task.Surveys seat) where
  abbrev x : Part
  x = part_of v who

  has : part_in v who ≡ Some x
  has = held_part v who (not_vacant x.place active)

  pub survey_held : IsSome (part_in v who)
  survey_held = is_held v who x has

  -- its begin word
  after_begin : (found : ℕ) (s : Shared) → part_after who (kind.LoadBegin seat) found s x ≡ Some (with_task (after_survey who x.current.begin found seat) x)
  after_begin found s =
      subst (λ (t : Task). load_begin who seat found x t ≡ Some (with_task (after_survey who x.current.begin found seat) x)) (sym looks)
      (when_true _ (with_task (after_survey who x.current.begin found seat) x) (both (is_active x.place) (eqb seat seat) active (eq-eqb seat seat refl)))

  pub survey_ready : Ready v who (kind.LoadBegin seat)
  survey_ready =
      ready_by v who (kind.LoadBegin seat) x has
      (λ c sound is. ap (λ (o : Option Part). is_some o) (after_begin (word_at c (spot_of who (kind.LoadBegin seat))) c.shared))

  module _ (found : ℕ) (w : View) (told : Told v who (kind.LoadBegin seat) found w) where
    begin_view : w ≡ with_part who (with_task (after_survey who x.current.begin found seat) x) v
    begin_view =
        told_first v who (kind.LoadBegin seat) found w x (with_task (after_survey who x.current.begin found seat) x) has told
        (λ s z e. same_Some z _ (sym e ∙ after_begin found s))

    pub own_passed : seat ≡ who → DidPass v who seat w
    own_passed same = record {
      view_is = begin_view
          ∙ ap (λ (b : Bool). with_part who (with_task (if b then after_passed seat else if sees_late x.current.begin found then task.Behind seat else task.Surveys seat) x) v)
          (eq-eqb seat who same);
      known = known_after v who (kind.LoadBegin seat) found w told;
    }

    module _ (another : seat ≢ who) where
      other_view : w ≡ with_part who (with_task (if sees_late x.current.begin found then task.Behind seat else task.Surveys seat) x) v
      other_view =
          begin_view
          ∙ ap (λ (b : Bool). with_part who (with_task (if b then after_passed seat else if sees_late x.current.begin found then task.Behind seat else task.Surveys seat) x) v)
          (ne_eqb seat who another)

      -- it stands below the begin stamp
      module _ (early : sees_late x.current.begin found ≡ false) where
        stays : w ≡ with_part who (with_task (task.Surveys seat) x) v
        stays = other_view ∙ ap (λ (b : Bool). with_part who (with_task (if b then task.Behind seat else task.Surveys seat) x) v) early

        unchanged : w ≡ v
        unchanged = stays ∙ ap (λ (t : Task). with_part who (with_task t x) v) (sym looks) ∙ with_part-same who x v told.in_order has

        pub waits_for : is_session seat ≡ true → WaitsFor v who seat found w
        waits_for session = record {
          session = session;
          another = another;
          view_is = stays;
          finds =
              subst (λ (u : View). FindsBegin u seat found) (sym unchanged)
              (record { core = told.before; sound = told.sound; is_view = told.is_view; begin_is = told.met });
          early = early;
          known = known_after v who (kind.LoadBegin seat) found w told;
        }

        pub took_wait : (law : Law) (b e : Book) → b.view ≡ v → Went law who IsLoadStep b b → Booked law b who (kind.LoadBegin seat) found e → TookWaitFor law who seat found b e
        took_wait law b e same none booked = record {
          at = b;
          loads = none;
          looks = ap (λ (u : View). (part_of u who).task) same ∙ looks;
          another = another;
          early = ap (λ (u : View). sees_late (part_of u who).current.begin found) same ∙ early;
          step = booked;
        }

      -- it doesn't
      pub behind : sees_late x.current.begin found ≡ true → w ≡ with_part who (with_task (task.Behind seat) x) v
      behind late = other_view ∙ ap (λ (b : Bool). with_part who (with_task (if b then task.Behind seat else task.Surveys seat) x) v) late

  -- its back word
  module _ (u : View) (is : u ≡ with_part who (with_task (task.Behind seat) x) v) where
    abbrev y : Part
    y = with_task (task.Behind seat) x

    has_behind : part_in u who ≡ Some y
    has_behind = changed_here v who u y x has is

    behind_is : part_of u who ≡ y
    behind_is = part_of-changed v who u y x has is

    pub back_held : IsSome (part_in u who)
    back_held = is_held u who y has_behind

    after_back : (found : ℕ) (s : Shared) → part_after who (kind.LoadBack seat) found s y ≡ Some (with_task (if ltb found x.current.begin then after_passed seat else task.Behind seat) x)
    after_back found s =
        when_true _ (with_task (if ltb found x.current.begin then after_passed seat else task.Behind seat) x)
        (both (is_active x.place) (eqb seat seat) active (eq-eqb seat seat refl))

    pub back_ready : Ready u who (kind.LoadBack seat)
    back_ready =
        ready_by u who (kind.LoadBack seat) y has_behind
        (λ c sound at. ap (λ (o : Option Part). is_some o) (after_back (word_at c (spot_of who (kind.LoadBack seat))) c.shared))

    module _ (found : ℕ) (w : View) (told : Told u who (kind.LoadBack seat) found w) where
      back_view : w ≡ with_part who (with_task (if ltb found x.current.begin then after_passed seat else task.Behind seat) x) v
      back_view =
          told_after v who (kind.LoadBack seat) found u w y x (with_task (if ltb found x.current.begin then after_passed seat else task.Behind seat) x) has is told
          (λ s z e. same_Some z _ (sym e ∙ after_back found s))

      pub back_passed : found < x.current.begin → DidPass v who seat w
      back_passed low = record {
        view_is = back_view ∙ ap (λ (b : Bool). with_part who (with_task (if b then after_passed seat else task.Behind seat) x) v) (lt-ltb found x.current.begin low);
        known = known_after u who (kind.LoadBack seat) found w told;
      }

      pub unsafe_by : is_session seat ≡ true → seat ≢ who → x.current.begin ≤ found → IsUnsafeBy v who seat found w
      unsafe_by session another high =
          let stands : w ≡ with_part who (with_task (task.Behind seat) x) v =
          back_view ∙ ap (λ (b : Bool). with_part who (with_task (if b then after_passed seat else task.Behind seat) x) v) (le-ltb found x.current.begin high) in
          record {
            session = session;
            another = another;
            view_is = stands;
            finds =
                subst (λ (t : View). FindsBack t seat found) (is ∙ sym stands)
                (record { core = told.before; sound = told.sound; is_view = told.is_view; back_is = told.met });
            above = high;
            known = known_after u who (kind.LoadBack seat) found w told;
          }

    pub took_unsafe : (law : Law) (b m e : Book) (found : ℕ) → m.view ≡ u → x.current.begin ≤ found → Went law who IsLoadStep b m → Booked law m who (kind.LoadBack seat) found e → TookUnsafe law who seat found b e
    took_unsafe law b m e found same high loads booked = record {
      at = m;
      loads = loads;
      looks = ap (λ (t : View). (part_of t who).task) same ∙ ap (λ (z : Part). z.task) behind_is;
      above = subst (λ (z : Part). z.current.begin ≤ found) (sym (ap (λ (t : View). part_of t who) same ∙ behind_is)) high;
      step = booked;
    }

-- ALL OF THEM. The sessions below this one are passed.
abbrev pub surveyed : ℕ → Task
surveyed next = if ltb SESSIONS next then task.Safe else task.Surveys next

pub record SurveyLoop (v : View) (who next : ℕ) (u : View) : Type 0 where
  pub some : 0 < next
  pub view_is : u ≡ with_part who (with_task (surveyed next) (part_of v who)) v
  pub known : IsKnown u

looks_on : (next : ℕ) → next ≤ SESSIONS → surveyed next ≡ task.Surveys next
looks_on next within = ap (λ (b : Bool). if b then task.Safe else task.Surveys next) (le-ltb SESSIONS next within)

all_passed : (next : ℕ) → SESSIONS < next → surveyed next ≡ task.Safe
all_passed next past = ap (λ (b : Bool). if b then task.Safe else task.Surveys next) (lt-ltb SESSIONS next past)

same_test : (seat : ℕ) → seat ≤ SESSIONS → eqb seat SESSIONS ≡ ltb SESSIONS (seat + 1)
same_test seat within =
    ⊎_elim (λ (last : seat ≡ SESSIONS). eq-eqb seat SESSIONS last ∙ sym (lt-ltb SESSIONS (seat + 1) (omega (arith, last))))
    (λ (other : seat ≡ SESSIONS → ⊥). ne_eqb seat SESSIONS other ∙ sym (le-ltb SESSIONS (seat + 1) (omega (arith, other, within))))
    (cases_eq seat SESSIONS)

passed_one : (seat : ℕ) → seat ≤ SESSIONS → after_passed seat ≡ surveyed (seat + 1)
passed_one seat within = ap (λ (b : Bool). if b then task.Safe else task.Surveys (seat + 1)) (same_test seat within)

-- a change of the seat's part, after another
chain : (v : View) (who : ℕ) (u w : View) (x y : Part) (f : Part → Part) → part_in v who ≡ Some x → u ≡ with_part who y v → w ≡ with_part who (f (part_of u who)) u → w ≡ with_part who (f y) v
chain v who u w x y f has is after =
    after ∙ ap (λ (z : Part). with_part who (f z) u) (part_of-changed v who u y x has is) ∙ ap (λ (t : View). with_part who (f y) t) is ∙ with_part-again who y (f y) v

within_loop : (seat : ℕ) → seat < SESSIONS + 1 → seat ≤ SESSIONS
within_loop seat low = omega (arith, low)

past_loop : (seat : ℕ) → SESSIONS + 1 ≤ seat → SESSIONS < seat
past_loop seat high = omega (arith, high)

next_some : (seat : ℕ) → 0 < seat + 1
next_some seat = omega arith

module _ (v : View) (who from begin : ℕ) (known : IsKnown v) (active : is_active (part_of v who).place ≡ true) (looks : (part_of v who).task ≡ task.Surveys from) (session : is_session from ≡ true)
    (begin_is : (part_of v who).current.begin ≡ begin) where
  abbrev m : Part
  m = part_of v who

  has_mine : part_in v who ≡ Some m
  has_mine = held_part v who (not_vacant m.place active)

  pub survey_starts : SurveyLoop v who from v
  survey_starts =
      let bounds = session_within from session in
      record {
        some = bounds.0;
        view_is = sym (ap (λ (t : Task). with_part who (with_task t m) v) (looks_on from bounds.1 ∙ sym looks) ∙ with_part-same who m v known.in_order has_mine);
        known = known;
      }

  module _ (u : View) (seat : ℕ) (low : seat < SESSIONS + 1) (loop : SurveyLoop v who seat u) where
    abbrev a : Part
    a = with_task (surveyed seat) m

    a_is : part_of u who ≡ a
    a_is = part_of-changed v who u a m has_mine loop.view_is

    pub active_there : is_active (part_of u who).place ≡ true
    active_there = ap (λ (z : Part). is_active z.place) a_is ∙ active

    pub looks_there : (part_of u who).task ≡ task.Surveys seat
    looks_there = ap (λ (z : Part). z.task) a_is ∙ looks_on seat (within_loop seat low)

    pub session_there : is_session seat ≡ true
    session_there = session_from seat loop.some (within_loop seat low)

    pub begin_there : (part_of u who).current.begin ≡ begin
    begin_there = ap (λ (z : Part). z.current.begin) a_is ∙ begin_is

    pub survey_goes_on : (w : View) → DidPass u who seat w → SurveyLoop v who (seat + 1) w
    survey_goes_on w did = record {
      some = next_some seat;
      view_is = chain v who u w m a (λ z. with_task (after_passed seat) z) has_mine loop.view_is did.view_is
          ∙ ap (λ (t : Task). with_part who (with_task t m) v) (passed_one seat (within_loop seat low));
      known = did.known;
    }

    begin_same : (part_of u who).current.begin ≡ m.current.begin
    begin_same = ap (λ (z : Part). z.current.begin) a_is

    pub stops_there : (why : SafeStop) (w : View) → DidNotSurvey u who why w → DidNotSurvey v who why w
    stops_there (stop.NotYet other seen) w did = record {
      session = did.session;
      another = did.another;
      view_is = chain v who u w m a (λ z. with_task (task.Surveys other) z) has_mine loop.view_is did.view_is;
      finds = did.finds;
      early = ap (λ (n : ℕ). sees_late n seen) (sym begin_same) ∙ did.early;
      known = did.known;
    }
    stops_there (stop.Unsafe other stamp) w did = record {
      session = did.session;
      another = did.another;
      view_is = chain v who u w m a (λ z. with_task (task.Behind other) z) has_mine loop.view_is did.view_is;
      finds = did.finds;
      above = subst (λ (n : ℕ). n ≤ stamp) begin_same did.above;
      known = did.known;
    }

  pub did_survey : (u : View) (seat : ℕ) → SESSIONS + 1 ≤ seat → SurveyLoop v who seat u → DidSurvey v who u
  did_survey u seat high loop = record {
    view_is = loop.view_is ∙ ap (λ (t : Task). with_part who (with_task t m) v) (all_passed seat (past_loop seat high));
    known = loop.known;
  }

-- the word that is told was there after other steps too
pub stop_met_after : (b m : Book) (why : SafeStop) (e : Book) → IsAfter b m → WasStopMet m why e → WasStopMet b why e
stop_met_after b m (stop.NotYet seat seen) e goes met = seen_after b m _ e goes met
stop_met_after b m (stop.Unsafe seat stamp) e goes met = seen_after b m _ e goes met

-- and so are the loads before it
pub stop_took_after : (law : Law) (who : ℕ) (why : SafeStop) (b m e : Book) → Went law who IsLoadStep b m → TookNoSurvey law who why m e → TookNoSurvey law who why b e
stop_took_after law who (stop.NotYet seat seen) b m e went took = record {
  at = took.at;
  loads = went_more law who IsLoadStep b m took.at went took.loads;
  looks = took.looks;
  another = took.another;
  early = took.early;
  step = took.step;
}
stop_took_after law who (stop.Unsafe seat stamp) b m e went took = record {
  at = took.at;
  loads = went_more law who IsLoadStep b m took.at went took.loads;
  looks = took.looks;
  above = took.above;
  step = took.step;
}
