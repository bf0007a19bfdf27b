-- The faces in a file, and the fault of a file without them.
-- Source: Geomview OFF (the keyword, the numbers of vertices, faces and edges, the vertices, the faces); Qhull's options `i` and `Fv` (the number of faces, the
-- faces).
use Rattle.std.specs.Prelude.{ℕ, ◌≡◌, ◌≤◌, ◌<◌, ◌*◌, ◌⊎◌, List, [], ◌∷◌, ◌++◌, length, Some}
use Rattle.qh_model.specs.declared.limits.TheConstants.{BYTE_LIMIT}
use Rattle.qh_model.specs.declared.form.Form.TheVariants as forms
use Rattle.qh_model.specs.declared.read_fault.ReadFault.{ReadFault, TheVariants.Big, TheVariants.Memory}
use Rattle.qh_model.specs.headline.{Vector.Vector, Forms.ReadsIn, Forms.IsFirstFault}
use Rattle.qh_read.specs.{contract.Numerals.numerals_in, contract.FaceFaults.list_fault, contract.FaceWords.IsList, declared.numerals.Numeral.Numeral}
use Rattle.qh_read.specs.declared.faces.reading.{Reading.Reading, Layout.Layout, Layout.TheVariants.Off}

-- the list of faces of an OFF file with these vertices: its number is the third word, and the faces follow the coordinates
pub record IsOffList (bytes : List ℕ) (vertices : List Vector) (ws : List Numeral) : Type 0 where
  pub before : ReadsIn forms.Off bytes vertices
  pub keyword : Numeral
  pub vertex_count : Numeral
  pub face_count : Numeral
  pub edge_count : Numeral
  pub coordinates : List Numeral
  pub rest : List Numeral
  pub words : numerals_in bytes ≡ keyword ∷ vertex_count ∷ face_count ∷ edge_count ∷ coordinates ++ rest
  pub three : length coordinates ≡ 3 * length vertices
  pub list : ws ≡ face_count ∷ rest

-- the list is the whole file, which has no vertices of its own
pub record IsWholeList (bytes : List ℕ) (vertices : List Vector) (ws : List Numeral) : Type 0 where
  pub small : length bytes ≤ BYTE_LIMIT
  pub none : vertices ≡ []
  pub list : ws ≡ numerals_in bytes

-- the words are the list of faces of the file, which has these vertices
abbrev pub IsListOf : Layout → List ℕ → List Vector → List Numeral → Type 0
IsListOf Off bytes vertices ws = IsOffList bytes vertices ws
IsListOf layout bytes vertices ws = IsWholeList bytes vertices ws

-- the bytes are a file of these vertices and faces
abbrev pub ReadsFaces : Reading → List ℕ → List Vector → List (List ℕ) → Type 0
ReadsFaces reading bytes vertices faces =
    (ws : List Numeral) × IsListOf reading.layout bytes vertices ws × IsList reading.layout reading.orientation ws faces

-- the fault in the words before the list of faces
abbrev pub IsFaultBefore : Layout → List ℕ → ReadFault → Type 0
IsFaultBefore Off bytes e = IsFirstFault forms.Off bytes e
IsFaultBefore layout bytes e = (BYTE_LIMIT < length bytes) × (e ≡ Big)

-- the first fault of the file: one before the list of faces, or else one in the list
abbrev pub IsFileFault : Layout → List ℕ → ReadFault → Type 0
IsFileFault layout bytes e =
    IsFaultBefore layout bytes e
    ⊎ ((vertices : List Vector) × (ws : List Numeral) × IsListOf layout bytes vertices ws × (list_fault layout ws ≡ Some e))

-- an allocation failed, or this is the first fault of the file
abbrev pub IsFaultOfFaces : Layout → List ℕ → ReadFault → Type 0
IsFaultOfFaces layout bytes e = (e ≡ Memory) ⊎ IsFileFault layout bytes e
