-- The progress of the words through the file.
use Rattle.std.specs.Prelude.{ℕ, ℤ, pos, negsuc, Bool, List, [], ◌∷◌, ◌++◌, ◌*◌, ◌&&◌, if◌then◌else◌, nat_le, zero, suc, Option, Some, None}
use Rattle.qh_model.specs.declared.{form.Form.Form, form.Form.TheVariants.Qhull, form.Form.TheVariants.Off, limits.TheConstants.POINT_LIMIT}
use Rattle.qh_model.specs.{declared.read_fault.ReadFault.ReadFault, headline.Limits.is_coordinate, headline.FileFault.is_three}
use Rattle.qh_model.specs.declared.read_fault.ReadFault.TheVariants as faults
use Rattle.qh_read.specs.declared.builder.Trailing.{Trailing, TheVariants.Refused, TheVariants.Ignored}

-- the kind of the next word; `wants` has the treatment of words after the coordinates, the number of coordinates to come and the coordinates so far; the counts
-- of an OFF file have the number of vertices, once it is known
pub data Progress : Type 0 where
  wants_first : Progress
  wants_second : ℤ → Progress
  wants : Trailing → ℕ → List ℤ → Progress
  wants_keyword : Progress
  wants_vertex_count : Progress
  wants_face_count : ℤ → Progress
  wants_edge_count : ℤ → Progress
  fails : ReadFault → Progress

-- no word yet
abbrev pub started : Form → Progress
started Qhull = wants_first
started Off = wants_keyword

-- the coordinates of this number of points are expected
abbrev pub counted : Trailing → ℤ → Progress
counted trailing (pos n) = if nat_le 1 n && nat_le n POINT_LIMIT then wants trailing (3 * n) [] else fails faults.Count
counted trailing (negsuc n) = fails faults.Count

-- 3 is the dimension; if both numbers are 3, the first is
abbrev pub headed : ℤ → ℤ → Progress
headed first second =
    if is_three first then counted Refused second
    else if is_three second then counted Refused first
    else fails faults.NotThree

-- the progress after one more coordinate, if it is in range
abbrev pub took : (List ℤ → Progress) → List ℤ → ℕ → ℤ → Progress
took next taken line z =
    if is_coordinate z then next (taken ++ z ∷ []) else fails (faults.Range line)

-- the progress after one more word after the last coordinate
abbrev pub trailed : Trailing → List ℤ → ℕ → Progress
trailed Refused taken line = fails (faults.Long line)
trailed Ignored taken line = wants Ignored zero taken

-- the progress after a word that has to be a number
abbrev pub after_number : (ℤ → Progress) → Option ℤ → ℕ → Progress
after_number next None line = fails (faults.BadNumber line)
after_number next (Some z) line = next z

-- the progress after one more word, given whether it is `OFF`, and its number, if it has one
abbrev pub after : Progress → Bool → Option ℤ → ℕ → Progress
after wants_first keyword value line = after_number wants_second value line
after (wants_second first) keyword value line = after_number (headed first) value line
after (wants trailing zero taken) keyword value line = trailed trailing taken line
after (wants trailing (suc left) taken) keyword value line = after_number (took (wants trailing left) taken line) value line
after wants_keyword keyword value line = if keyword then wants_vertex_count else fails faults.NotOff
after wants_vertex_count keyword value line = after_number wants_face_count value line
after (wants_face_count vertices) keyword value line = after_number (λ faces. wants_edge_count vertices) value line
after (wants_edge_count vertices) keyword value line = after_number (λ edges. counted Ignored vertices) value line
after (fails fault) keyword value line = fails fault
