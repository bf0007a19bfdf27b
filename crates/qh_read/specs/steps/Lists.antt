-- Lists of faces that are taken from words.
use Rattle.std.specs.Prelude.{ℕ, ◌≡◌, ◌≤◌, ◌<◌, ◌⊎◌, List, [], ◌∷◌, drop, length, Some}
use Rattle.qh_model.specs.declared.{limits.TheConstants.BYTE_LIMIT, read_fault.ReadFault.ReadFault}
use Rattle.qh_model.specs.{declared.read_fault.ReadFault.TheVariants.Big, declared.read_fault.ReadFault.TheVariants.Memory, headline.Vector.Vector}
use Rattle.qh_read.specs.contract.{Numerals.numerals_in, FaceFaults.list_fault, FaceFiles.IsOffList, FaceFiles.IsWholeList, FaceWords.IsList}
use Rattle.qh_read.specs.declared.{faces.reading.Layout.Layout, faces.reading.Reading.Reading, numerals.Numeral.Numeral}

-- the words without the skipped ones, which follow the first word
abbrev pub behind : ℕ → List Numeral → List Numeral
behind skipped [] = []
behind skipped (w ∷ ws) = w ∷ drop skipped ws

-- the faces of an OFF file
abbrev pub AreOffFaces : Reading → List ℕ → List Vector → List (List ℕ) → Type 0
AreOffFaces reading bytes vertices faces =
    (ws : List Numeral) × IsOffList bytes vertices ws × IsList reading.layout reading.orientation ws faces

-- the faces of a file that contains nothing but a list
abbrev pub AreWholeFaces : Reading → List ℕ → List Vector → List (List ℕ) → Type 0
AreWholeFaces reading bytes vertices faces =
    (ws : List Numeral) × IsWholeList bytes vertices ws × IsList reading.layout reading.orientation ws faces

-- an allocation failed, or a list has too many bytes or this fault
abbrev pub IsWholeFault : Layout → List ℕ → ReadFault → Type 0
IsWholeFault layout bytes e =
    (e ≡ Memory) ⊎ ((BYTE_LIMIT < length bytes) × (e ≡ Big)) ⊎ ((length bytes ≤ BYTE_LIMIT) × (list_fault layout (numerals_in bytes) ≡ Some e))
