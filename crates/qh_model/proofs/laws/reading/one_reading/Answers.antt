use Rattle.qh_model.proofs.Readings.{one_list, list_or_fault, never_both}
use Rattle.qh_model.proofs.laws.reading.one_reading.Goals as goal

pub returns : goal.returns
returns c = record { unique = one_list; either = list_or_fault; never_both = never_both }
