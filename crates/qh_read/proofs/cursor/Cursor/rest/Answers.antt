use Rattle.std.proofs.lemmas.List.{take_rest}
use Rattle.qh_read.proofs.cursor.Cursor.rest.Goals as goal

pub returns : goal.returns
returns c = take_rest c.args.self.bytes.now c.args.self.at
