use Rattle.qh_command.proofs.command_line.settings_of.Goals as goal

pub returns : goal.returns
returns c = let value = c.as_slice.ensures.value in let told = c.settings_in.ensures in rw value at told
