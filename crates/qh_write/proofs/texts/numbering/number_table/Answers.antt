use Rattle.qh_write.proofs.texts.numbering.number_table.Goals as goal
use Rattle.std.proofs.{Common.◌≡◌, Common.◌≤◌, Common.arith, Common.get_or, lemmas.List.get_or_read}
use Rattle.qh_model.proofs.DistinctIds.{rising_least}

pub overflow_cast-number : goal.overflow_cast-number
overflow_cast-number c =
    let ids = c.args.extremes.now in let number = c.loop-number.number in let vertex = c.index-extremes-number.result in
    let read : vertex ≡ get_or ids number 0 = get_or_read ids number vertex c.loop-number-test.true c.index-extremes-number.is 0 in
    let low : number ≤ get_or ids number 0 = rising_least ids c.requires.rising number c.loop-number-test.true in
    omega (arith, read, low, c.number-vertex.ensures, c.number-vertex.type_inv)
