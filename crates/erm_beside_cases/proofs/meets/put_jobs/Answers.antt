use Rattle.std.proofs.Common.{List, [], ◌∷◌, ◌++◌, sym, ap, ◌∙◌}
use Rattle.std.proofs.lemmas.List.Elements.{All-cons, All-nil, All-same}
use Rattle.erm_node.specs.declared.laws.SoundRows.{SoundRows}
use Rattle.erm_node.specs.Sound.{sound_law}
use Rattle.erm_shared_session.specs.declared.session.TableSession.{TableSession}
use Rattle.erm_shared_session.specs.Stands.{Stands, own_of, seat_of}
use Rattle.erm_threads.specs.declared.job.Job.{Job}
use Rattle.erm_threads.specs.Work.{IsJob}
use Rattle.erm_beside_cases.specs.declared.meeting.Meet.{Meet}
use Rattle.erm_beside_cases.specs.declared.meets.Patience.{Patience}
use Rattle.erm_beside_cases.proofs.OneJob.{first_of, second_of}
use Rattle.erm_beside_cases.proofs.meets.put_jobs.Goals as goal

pub job-requires-clause-new : goal.job-requires-clause-new
job-requires-clause-new c = (c.requires.new.0, c.requires.new.1.each 0 c.in-Some.one (first_of _ _ _ (sym c.into_iter-left.ensures.rest ∙ c.in-Some.ensures.items)))

pub job-requires-2-clause-new : goal.job-requires-2-clause-new
job-requires-2-clause-new c =
    (c.requires.new.0, c.requires.new.1.each 1 c.in-Some-next.other (second_of _ _ _ _ _ (sym c.into_iter-left.ensures.rest ∙ c.in-Some.ensures.items) c.in-Some-next.ensures.items))

pub returns : goal.returns
returns c =
    let is : Job (Meet (TableSession SoundRows)) Patience → Type 0 = λ j. IsJob (λ s. Stands sound_law c.args.table.now s.session) (λ s. seat_of s.session) (λ s. own_of s.session) j in
    let one = c.job.result in
    let other = c.job-2.result in
    All-same is c.push_reserved-2.new.self.items (one ∷ other ∷ [])
    (c.push_reserved-2.ensures.items
    ∙ ap (λ (l : List (Job (Meet (TableSession SoundRows)) Patience)). l ++ other ∷ [])
    (c.push_reserved.ensures.items ∙ ap (λ (l : List (Job (Meet (TableSession SoundRows)) Patience)). l ++ one ∷ []) c.requires.none))
    (All-cons is one (other ∷ []) c.job.ensures (All-cons is other [] c.job-2.ensures (All-nil is)))
