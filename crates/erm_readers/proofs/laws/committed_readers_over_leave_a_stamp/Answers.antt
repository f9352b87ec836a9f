use Rattle.erm_readers.proofs.laws.committed_readers_over_leave_a_stamp.Goals as goal

pub returns : goal.returns
returns c core p t read sound over committed among = (sound.own p).readers.over t read over committed among
