use Rattle.qh_model.proofs.texts.RoundTrip.{is_read_as_extreme_points, extreme_points_have_text, is_written_again}
use Rattle.qh_model.proofs.laws.round_trips.off_is_read_back.Goals as goal

pub returns : goal.returns
returns c = record { points = is_read_as_extreme_points; text = extreme_points_have_text; again = is_written_again }
