-- For any further faces, the first ones are those so far; the others of the count are expected.
use Rattle.qh_read.proofs.faces.list.take_faces.Given as goal
use Rattle.std.proofs.Common.{ℕ, ◌≡◌, ◌-◌, ◌++◌, List, length}
use Rattle.qh_read.specs.contract.{FaceFaults.faces_fault, FaceWords.AreFaces}

abbrev pub invariant-faces : goal.invariant-faces
invariant-faces l = record {
  taken : (more : List (List ℕ)) → AreFaces l.reading.layout l.reading.orientation l.words more
      → AreFaces l.reading.layout l.reading.orientation l.fn.words (l.faces.items ++ more);
  count : length l.faces.items ≡ l.counter;
  passes : faces_fault l.reading.layout l.fn.count l.fn.words ≡ faces_fault l.reading.layout (l.fn.count - l.counter) l.words;
}
