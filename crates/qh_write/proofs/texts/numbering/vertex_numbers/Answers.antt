use Rattle.qh_write.proofs.texts.numbering.vertex_numbers.Goals as goal
use Rattle.qh_write.proofs.TextLemmas.{table_numbers}

pub returns-in_ok-number_table : goal.returns-in_ok-number_table
returns-in_ok-number_table c =
    table_numbers c.args.extremes.now c.args.count c.in_ok-number_table.field-0 c.requires.rising c.requires.within c.in_ok-number_table.ensures
