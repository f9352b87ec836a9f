use Rattle.std.proofs.Common.{◌≡◌, ℕ, ap, ◌∙◌, sym, subst, arith}
use Rattle.erm_core.specs.Cores.{core_of}
use Rattle.erm_core_steps.specs.Steps.{found_in}
use Rattle.erm_core_steps.proofs.Aborts.{leave_taken}
use Rattle.erm_core_view.specs.Views.{IsQuiet, view_of}
use Rattle.erm_machine.specs.declared.part.Part.{Part}
use Rattle.erm_machine.specs.Words.{begin_of}
use Rattle.erm_world.specs.declared.stops.SafeStop.TheVariants as safe
use Rattle.erm_world.specs.Safe.{DidNotSafe}
use Rattle.erm_lists.specs.Snapshots.{is_late}
use Rattle.erm_lists.specs.Stands.{lists_view}
use Rattle.erm_lists.proofs.SafeLooks.{looks_active, snapshot_cleared}
use Rattle.erm_lists.proofs.SafeSurveys.{back_taken, behind_has, pass_back, pass_behind, pass_own, pass_quiet, pass_waits, survey_seat, survey_taken, unsafe_at, unsafe_over}
use Rattle.erm_lists.proofs.lists.Lists.pass_session.Goals as goal

pub begin_stamp-begin-requires : goal.begin_stamp-begin-requires
begin_stamp-begin-requires g c =
    let n = c.args.self.now.sessions in
    let seat = c.args.seat in
    let next = c.args.next in
    let before = core_of c.args.self.now.state in
    let at = survey_seat n seat next before c.requires.stands.quiet c.requires.session c.requires.at in
    record { session = at.session }

pub go-requires-clause-taken : goal.go-requires-clause-taken
go-requires-clause-taken g c =
    let n = c.args.self.now.sessions in
    let seat = c.args.seat in
    let next = c.args.next in
    let before = core_of c.args.self.now.state in
    let at = survey_seat n seat next before c.requires.stands.quiet c.requires.session c.requires.at in
    survey_taken before seat next at.active c.requires.at

pub returns-then-next-seat-clause-stands : goal.returns-then-next-seat-clause-stands
returns-then-next-seat-clause-stands g c =
    let n = c.args.self.now.sessions in
    let seat = c.args.seat in
    let next = c.args.next in
    let before = core_of c.args.self.now.state in
    let at = survey_seat n seat next before c.requires.stands.quiet c.requires.session c.requires.at in
    let after = core_of c.go.new.self.state in
    let passed = pass_own before after seat next at.active c.requires.at c.if-next-seat.true c.go.ensures.after in
    record { sound = c.go.ensures.sound; quiet = subst (λ (m : ℕ). IsQuiet m after) (sym c.go.ensures.sessions) (pass_quiet n seat next before after c.requires.stands.quiet c.requires.session at.active passed) }

pub returns-then-next-seat-clause-ok : goal.returns-then-next-seat-clause-ok
returns-then-next-seat-clause-ok g c =
    let n = c.args.self.now.sessions in
    let seat = c.args.seat in
    let next = c.args.next in
    let before = core_of c.args.self.now.state in
    let at = survey_seat n seat next before c.requires.stands.quiet c.requires.session c.requires.at in
    let after = core_of c.go.new.self.state in
    let passed = pass_own before after seat next at.active c.requires.at c.if-next-seat.true c.go.ensures.after in
    passed

pub returns-then-not-is_late-clause-stands : goal.returns-then-not-is_late-clause-stands
returns-then-not-is_late-clause-stands g c =
    let n = c.args.self.now.sessions in
    let seat = c.args.seat in
    let next = c.args.next in
    let before = core_of c.args.self.now.state in
    let at = survey_seat n seat next before c.requires.stands.quiet c.requires.session c.requires.at in
    let between = core_of c.go.new.self.state in
    let begin : c.begin_stamp-begin.result ≡ (before.seats seat).current.begin = c.begin_stamp-begin.ensures in
    let seen : c.found-seen.result ≡ begin_of (before.seats next).place = c.found-seen.ensures ∙ ap found_in c.go.ensures.answer in
    let told : is_late (before.seats seat).current.begin (begin_of (before.seats next).place) ≡ c.is_late.result =
    ap (λ (b : ℕ). is_late b (begin_of (before.seats next).place)) (sym begin) ∙ ap (is_late c.begin_stamp-begin.result) (sym seen) ∙ sym c.is_late.ensures
    in
    let waits =
    pass_waits n seat next before between c.requires.stands.sound.sound c.requires.stands.quiet c.requires.session at.active c.requires.at c.if-next-seat.false
    (told ∙ c.if-not-is_late.true) c.go.ensures.after
    in
    record { sound = c.go.ensures.sound; quiet = subst (λ (m : ℕ). IsQuiet m between) (sym c.go.ensures.sessions) waits.quiet }

pub returns-then-not-is_late-clause-err : goal.returns-then-not-is_late-clause-err
returns-then-not-is_late-clause-err g c =
    let n = c.args.self.now.sessions in
    let seat = c.args.seat in
    let next = c.args.next in
    let before = core_of c.args.self.now.state in
    let at = survey_seat n seat next before c.requires.stands.quiet c.requires.session c.requires.at in
    let between = core_of c.go.new.self.state in
    let begin : c.begin_stamp-begin.result ≡ (before.seats seat).current.begin = c.begin_stamp-begin.ensures in
    let seen : c.found-seen.result ≡ begin_of (before.seats next).place = c.found-seen.ensures ∙ ap found_in c.go.ensures.answer in
    let told : is_late (before.seats seat).current.begin (begin_of (before.seats next).place) ≡ c.is_late.result =
    ap (λ (b : ℕ). is_late b (begin_of (before.seats next).place)) (sym begin) ∙ ap (is_late c.begin_stamp-begin.result) (sym seen) ∙ sym c.is_late.ensures
    in
    let waits =
    pass_waits n seat next before between c.requires.stands.sound.sound c.requires.stands.quiet c.requires.session at.active c.requires.at c.if-next-seat.false
    (told ∙ c.if-not-is_late.true) c.go.ensures.after
    in
    let v = lists_view c.args.self.now in
    subst (λ (m : ℕ). DidNotSafe v seat (safe.NotYet next c.found-seen.result) (view_of m between)) (sym c.go.ensures.sessions)
    (subst (λ (w : ℕ). DidNotSafe v seat (safe.NotYet next w) (view_of n between)) (sym seen) waits.says)

pub go-requires-2-clause-taken : goal.go-requires-2-clause-taken
go-requires-2-clause-taken g c =
    let n = c.args.self.now.sessions in
    let seat = c.args.seat in
    let next = c.args.next in
    let before = core_of c.args.self.now.state in
    let at = survey_seat n seat next before c.requires.stands.quiet c.requires.session c.requires.at in
    let between = core_of c.go.new.self.state in
    let begin : c.begin_stamp-begin.result ≡ (before.seats seat).current.begin = c.begin_stamp-begin.ensures in
    let seen : c.found-seen.result ≡ begin_of (before.seats next).place = c.found-seen.ensures ∙ ap found_in c.go.ensures.answer in
    let told : is_late (before.seats seat).current.begin (begin_of (before.seats next).place) ≡ c.is_late.result =
    ap (λ (b : ℕ). is_late b (begin_of (before.seats next).place)) (sym begin) ∙ ap (is_late c.begin_stamp-begin.result) (sym seen) ∙ sym c.is_late.ensures
    in
    let behind = pass_behind before between seat next at.active c.requires.at c.if-next-seat.false (told ∙ c.if-not-is_late.false) c.go.ensures.after in
    back_taken between seat next c.go.ensures.sound.sound (looks_active seat before between behind.looks at.active) behind.task_is

pub returns-then-stamp-begin-clause-stands : goal.returns-then-stamp-begin-clause-stands
returns-then-stamp-begin-clause-stands g c =
    let n = c.args.self.now.sessions in
    let seat = c.args.seat in
    let next = c.args.next in
    let before = core_of c.args.self.now.state in
    let at = survey_seat n seat next before c.requires.stands.quiet c.requires.session c.requires.at in
    let between = core_of c.go.new.self.state in
    let begin : c.begin_stamp-begin.result ≡ (before.seats seat).current.begin = c.begin_stamp-begin.ensures in
    let seen : c.found-seen.result ≡ begin_of (before.seats next).place = c.found-seen.ensures ∙ ap found_in c.go.ensures.answer in
    let told : is_late (before.seats seat).current.begin (begin_of (before.seats next).place) ≡ c.is_late.result =
    ap (λ (b : ℕ). is_late b (begin_of (before.seats next).place)) (sym begin) ∙ ap (is_late c.begin_stamp-begin.result) (sym seen) ∙ sym c.is_late.ensures
    in
    let behind = pass_behind before between seat next at.active c.requires.at c.if-next-seat.false (told ∙ c.if-not-is_late.false) c.go.ensures.after in
    let last = core_of c.go-2.new.self.state in
    let stamp : c.found-stamp.result ≡ (between.seats next).back = c.found-stamp.ensures ∙ ap found_in c.go-2.ensures.answer in
    let two : c.go-2.new.self.sessions ≡ n = c.go-2.ensures.sessions ∙ c.go.ensures.sessions in
    let less = c.if-stamp-begin.true in
    let passed = pass_back before between last seat next c.go.ensures.sound.sound at.active behind (omega (arith, less, stamp, begin)) c.go-2.ensures.after in
    record { sound = c.go-2.ensures.sound; quiet = subst (λ (m : ℕ). IsQuiet m last) (sym two) (pass_quiet n seat next before last c.requires.stands.quiet c.requires.session at.active passed) }

pub returns-then-stamp-begin-clause-ok : goal.returns-then-stamp-begin-clause-ok
returns-then-stamp-begin-clause-ok g c =
    let n = c.args.self.now.sessions in
    let seat = c.args.seat in
    let next = c.args.next in
    let before = core_of c.args.self.now.state in
    let at = survey_seat n seat next before c.requires.stands.quiet c.requires.session c.requires.at in
    let between = core_of c.go.new.self.state in
    let begin : c.begin_stamp-begin.result ≡ (before.seats seat).current.begin = c.begin_stamp-begin.ensures in
    let seen : c.found-seen.result ≡ begin_of (before.seats next).place = c.found-seen.ensures ∙ ap found_in c.go.ensures.answer in
    let told : is_late (before.seats seat).current.begin (begin_of (before.seats next).place) ≡ c.is_late.result =
    ap (λ (b : ℕ). is_late b (begin_of (before.seats next).place)) (sym begin) ∙ ap (is_late c.begin_stamp-begin.result) (sym seen) ∙ sym c.is_late.ensures
    in
    let behind = pass_behind before between seat next at.active c.requires.at c.if-next-seat.false (told ∙ c.if-not-is_late.false) c.go.ensures.after in
    let last = core_of c.go-2.new.self.state in
    let stamp : c.found-stamp.result ≡ (between.seats next).back = c.found-stamp.ensures ∙ ap found_in c.go-2.ensures.answer in
    let two : c.go-2.new.self.sessions ≡ n = c.go-2.ensures.sessions ∙ c.go.ensures.sessions in
    let less = c.if-stamp-begin.true in
    let passed = pass_back before between last seat next c.go.ensures.sound.sound at.active behind (omega (arith, less, stamp, begin)) c.go-2.ensures.after in
    passed

pub go-requires-3-clause-taken : goal.go-requires-3-clause-taken
go-requires-3-clause-taken g c =
    let n = c.args.self.now.sessions in
    let seat = c.args.seat in
    let next = c.args.next in
    let before = core_of c.args.self.now.state in
    let at = survey_seat n seat next before c.requires.stands.quiet c.requires.session c.requires.at in
    let between = core_of c.go.new.self.state in
    let begin : c.begin_stamp-begin.result ≡ (before.seats seat).current.begin = c.begin_stamp-begin.ensures in
    let seen : c.found-seen.result ≡ begin_of (before.seats next).place = c.found-seen.ensures ∙ ap found_in c.go.ensures.answer in
    let told : is_late (before.seats seat).current.begin (begin_of (before.seats next).place) ≡ c.is_late.result =
    ap (λ (b : ℕ). is_late b (begin_of (before.seats next).place)) (sym begin) ∙ ap (is_late c.begin_stamp-begin.result) (sym seen) ∙ sym c.is_late.ensures
    in
    let behind = pass_behind before between seat next at.active c.requires.at c.if-next-seat.false (told ∙ c.if-not-is_late.false) c.go.ensures.after in
    let last = core_of c.go-2.new.self.state in
    let stamp : c.found-stamp.result ≡ (between.seats next).back = c.found-stamp.ensures ∙ ap found_in c.go-2.ensures.answer in
    let two : c.go-2.new.self.sessions ≡ n = c.go-2.ensures.sessions ∙ c.go.ensures.sessions in
    let more = c.if-stamp-begin.false in
    let over =
    unsafe_at before between last seat next c.go.ensures.sound.sound at.session at.active behind (omega (arith, more, stamp, begin)) c.go-2.ensures.after
    in
    leave_taken seat last c.go-2.ensures.sound.sound (snapshot_cleared seat last c.go-2.ensures.sound.sound (behind_has seat next before last at.session at.active over))

pub returns-clause-stands : goal.returns-clause-stands
returns-clause-stands g c =
    let n = c.args.self.now.sessions in
    let seat = c.args.seat in
    let next = c.args.next in
    let before = core_of c.args.self.now.state in
    let at = survey_seat n seat next before c.requires.stands.quiet c.requires.session c.requires.at in
    let between = core_of c.go.new.self.state in
    let begin : c.begin_stamp-begin.result ≡ (before.seats seat).current.begin = c.begin_stamp-begin.ensures in
    let seen : c.found-seen.result ≡ begin_of (before.seats next).place = c.found-seen.ensures ∙ ap found_in c.go.ensures.answer in
    let told : is_late (before.seats seat).current.begin (begin_of (before.seats next).place) ≡ c.is_late.result =
    ap (λ (b : ℕ). is_late b (begin_of (before.seats next).place)) (sym begin) ∙ ap (is_late c.begin_stamp-begin.result) (sym seen) ∙ sym c.is_late.ensures
    in
    let behind = pass_behind before between seat next at.active c.requires.at c.if-next-seat.false (told ∙ c.if-not-is_late.false) c.go.ensures.after in
    let last = core_of c.go-2.new.self.state in
    let stamp : c.found-stamp.result ≡ (between.seats next).back = c.found-stamp.ensures ∙ ap found_in c.go-2.ensures.answer in
    let two : c.go-2.new.self.sessions ≡ n = c.go-2.ensures.sessions ∙ c.go.ensures.sessions in
    let more = c.if-stamp-begin.false in
    let over =
    unsafe_at before between last seat next c.go.ensures.sound.sound at.session at.active behind (omega (arith, more, stamp, begin)) c.go-2.ensures.after
    in
    let after = core_of c.go-3.new.self.state in
    let same : (between.seats next).back ≡ (before.seats next).back = ap (λ (y : Part). y.back) (behind.looks.others next c.if-next-seat.false) in
    let done =
    unsafe_over n seat next before last after c.requires.stands.sound.sound c.go-2.ensures.sound.sound c.requires.stands.quiet c.requires.session at.active c.requires.at
    c.if-next-seat.false over (omega (arith, more, stamp, begin, same)) c.go-3.ensures.after
    in
    let three : c.go-3.new.self.sessions ≡ n = c.go-3.ensures.sessions ∙ two in
    record { sound = c.go-3.ensures.sound; quiet = subst (λ (m : ℕ). IsQuiet m after) (sym three) done.quiet }

pub returns-clause-err : goal.returns-clause-err
returns-clause-err g c =
    let n = c.args.self.now.sessions in
    let seat = c.args.seat in
    let next = c.args.next in
    let before = core_of c.args.self.now.state in
    let at = survey_seat n seat next before c.requires.stands.quiet c.requires.session c.requires.at in
    let between = core_of c.go.new.self.state in
    let begin : c.begin_stamp-begin.result ≡ (before.seats seat).current.begin = c.begin_stamp-begin.ensures in
    let seen : c.found-seen.result ≡ begin_of (before.seats next).place = c.found-seen.ensures ∙ ap found_in c.go.ensures.answer in
    let told : is_late (before.seats seat).current.begin (begin_of (before.seats next).place) ≡ c.is_late.result =
    ap (λ (b : ℕ). is_late b (begin_of (before.seats next).place)) (sym begin) ∙ ap (is_late c.begin_stamp-begin.result) (sym seen) ∙ sym c.is_late.ensures
    in
    let behind = pass_behind before between seat next at.active c.requires.at c.if-next-seat.false (told ∙ c.if-not-is_late.false) c.go.ensures.after in
    let last = core_of c.go-2.new.self.state in
    let stamp : c.found-stamp.result ≡ (between.seats next).back = c.found-stamp.ensures ∙ ap found_in c.go-2.ensures.answer in
    let two : c.go-2.new.self.sessions ≡ n = c.go-2.ensures.sessions ∙ c.go.ensures.sessions in
    let more = c.if-stamp-begin.false in
    let over =
    unsafe_at before between last seat next c.go.ensures.sound.sound at.session at.active behind (omega (arith, more, stamp, begin)) c.go-2.ensures.after
    in
    let after = core_of c.go-3.new.self.state in
    let same : (between.seats next).back ≡ (before.seats next).back = ap (λ (y : Part). y.back) (behind.looks.others next c.if-next-seat.false) in
    let done =
    unsafe_over n seat next before last after c.requires.stands.sound.sound c.go-2.ensures.sound.sound c.requires.stands.quiet c.requires.session at.active c.requires.at
    c.if-next-seat.false over (omega (arith, more, stamp, begin, same)) c.go-3.ensures.after
    in
    let three : c.go-3.new.self.sessions ≡ n = c.go-3.ensures.sessions ∙ two in
    let v = lists_view c.args.self.now in
    subst (λ (m : ℕ). DidNotSafe v seat (safe.Unsafe next c.found-stamp.result) (view_of m after)) (sym three)
    (subst (λ (w : ℕ). DidNotSafe v seat (safe.Unsafe next w) (view_of n after)) (sym (stamp ∙ same)) done.says)
