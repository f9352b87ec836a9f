use Rattle.erm_recover.proofs.Replaced.{records_replace}
use Rattle.erm_recover.proofs.sound_rows.SoundTestReplaceTest.may_replace.Goals as goal

pub returns : goal.returns
returns c = records_replace c.nodes_are_read_back.ensures.record c.are_records.result _ _ c.are_records.ensures
