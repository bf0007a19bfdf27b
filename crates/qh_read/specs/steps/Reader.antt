-- The state of a reader, and its invariant.
use Rattle.{std.specs.Prelude.◌≤◌, std.specs.Prelude.◌+◌, qh_model.specs.declared.limits.TheConstants.BYTE_LIMIT, qh_read.specs.contract.Holding.Reading}
use Rattle.qh_read.specs.{declared.reader.Reader.TheInside.Inside, steps.SmallTokens.IsSmall, steps.Scanning.held, steps.Scanning.HasRoom}

abbrev pub reading_shown : Inside → Reading
reading_shown r = record { held = held r.scanner r.token; count = r.count }

-- the word's magnitude is within the cap, there are no more lines than bytes, no more bytes than the limit, and room for the point that the end of the bytes
-- may complete
pub record IsSound (r : Inside) : Type 0 where
  pub small : IsSmall r.token
  pub lines : r.scanner.line ≤ r.count + 1
  pub fits : r.count ≤ BYTE_LIMIT
  pub room : HasRoom r.scanner r.token 0
