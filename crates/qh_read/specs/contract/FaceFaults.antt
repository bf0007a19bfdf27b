-- The first fault of words that are not faces. The order of the faults is this project's profile.
use Rattle.std.specs.Prelude.{ℕ, ◌==◌, List, [], ◌∷◌, Option, Some, None, if◌then◌else◌, zero, suc}
use Rattle.qh_model.specs.declared.read_fault.ReadFault.{ReadFault, TheVariants.BadNumber, TheVariants.Long, TheVariants.Short}
use Rattle.qh_read.specs.{contract.FaceWords.after_line, declared.numerals.Numeral.Numeral}
use Rattle.qh_read.specs.declared.faces.reading.Layout.{Layout, TheVariants.Lines}

-- the fault of a word that is not a number, or of the words after a number and its line
abbrev pub value_fault : (ℕ → ℕ → List Numeral → Option ReadFault) → Option ℕ → ℕ → List Numeral → Option ReadFault
value_fault after None line ws = Some (BadNumber line)
value_fault after (Some n) line ws = after n line ws

-- the fault if the next word is not a number, else that of the rest
abbrev pub number_fault : (ℕ → ℕ → List Numeral → Option ReadFault) → List Numeral → Option ReadFault
number_fault after [] = Some Short
number_fault after (w ∷ ws) = value_fault after w.number w.line ws

-- the fault if a number of corners is expected after a word on this line, and then that of the rest
abbrev pub corners_fault : (ℕ → List Numeral → Option ReadFault) → ℕ → ℕ → List Numeral → Option ReadFault
corners_fault after zero line ws = after line ws
corners_fault after (suc n) line ws = number_fault (λ corner next rest. corners_fault after n next rest) ws

-- the fault if corners are expected as long as this line continues
abbrev pub line_fault : (List Numeral → Option ReadFault) → ℕ → List Numeral → Option ReadFault
line_fault after line [] = after []
line_fault after line (w ∷ ws) =
    if w.line == line then value_fault (λ corner next rest. line_fault after line ws) w.number w.line ws else after (w ∷ ws)

abbrev pub counted_face_fault : (List Numeral → Option ReadFault) → List Numeral → Option ReadFault
counted_face_fault after ws =
    number_fault (λ count line rest. corners_fault (λ last left. after (after_line last left)) count line rest) ws

abbrev pub line_face_fault : (List Numeral → Option ReadFault) → List Numeral → Option ReadFault
line_face_fault after ws = number_fault (λ corner line rest. line_fault after line rest) ws

-- the fault if a face is expected
abbrev pub face_fault : Layout → (List Numeral → Option ReadFault) → List Numeral → Option ReadFault
face_fault Lines after ws = line_face_fault after ws
face_fault layout after ws = counted_face_fault after ws

-- the fault if a number of faces is expected, and no further word
abbrev pub faces_fault : Layout → ℕ → List Numeral → Option ReadFault
faces_fault layout zero [] = None
faces_fault layout zero (w ∷ ws) = Some (Long w.line)
faces_fault layout (suc n) ws = face_fault layout (λ rest. faces_fault layout n rest) ws

-- the fault if the number of faces is expected, and then the faces
abbrev pub list_fault : Layout → List Numeral → Option ReadFault
list_fault layout ws = number_fault (λ count line rest. faces_fault layout count rest) ws
