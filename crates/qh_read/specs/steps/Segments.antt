-- Segments of bytes that are parsed in parallel, and batches of them.
use Rattle.std.specs.Prelude.{ℕ, ◌≡◌, ◌≤◌, ◌<◌, ◌+◌, ◌*◌, ◌/◌, ◌++◌, List, Option, drop, take, length, vec_len, slice_index_or}
use Rattle.{std.specs.Io.KnownBytes.Consumes, qh_model.specs.declared.form.Form.Form, qh_model.specs.declared.limits.TheConstants.BYTE_LIMIT}
use Rattle.qh_read.specs.{contract.Holding.Reading, contract.Holding.Fed, declared.batch.Batch.Batch, declared.segment.Segment.Segment, steps.Numbers.ArePoints}

-- the points of these bytes, if a point begins after the first line
pub record IsSegment (s : Segment) (text : List ℕ) : Type 0 where
  pub told : ArePoints 0 (drop s.head text) s.points.items s.lines (drop s.taken text)
  pub room : s.head + 6 * vec_len s.points ≤ s.taken
  pub lines : s.head + s.lines ≤ s.taken
  pub within : s.taken ≤ length text

-- the number of bytes of each segment when bytes are cut into segments; the last ones may have fewer
abbrev pub segment_size : ℕ → ℕ → ℕ
segment_size bytes segments = bytes / segments + 1

-- the bytes of segment i
abbrev pub segment_text : ℕ → List ℕ → ℕ → List ℕ
segment_text size text i = take size (drop (i * size) text)

-- the segments are those of these bytes, in their order
abbrev pub AreSegments : List Segment → List ℕ → Type 0
AreSegments segments text = (i : ℕ) (d : Segment) → i < length segments
    → IsSegment (slice_index_or segments i d) (segment_text (segment_size (length text) (length segments)) text i)

-- the bytes of a batch
abbrev pub batch_text : Batch → List ℕ
batch_text b = take b.count b.bytes.items

-- the segments of the batch, if there are any, are those of its bytes
abbrev pub IsParsed : Batch → Type 0
IsParsed b = AreSegments b.segments.items (batch_text b)

-- the reader was fed the batch, which was then filled with the next bytes of a source; `ahead` bytes were read in between
pub record FedAndFilled (before after : Reading) (old new : Batch) (to_come left : Option (List ℕ)) (ahead : ℕ) : Type 0 where
  pub fed : (form : Form) (bytes : List ℕ) → Fed form before bytes → Fed form after (bytes ++ batch_text old)
  pub count : after.count ≡ before.count + length (batch_text old)
  pub given : Consumes to_come left (batch_text new)
  pub fits : after.count + ahead + length (batch_text new) ≤ BYTE_LIMIT
