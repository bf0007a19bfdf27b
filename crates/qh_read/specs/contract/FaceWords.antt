-- The words of a text that are faces.
-- Source: Geomview OFF (a face is its number of corners, their indices from 0, and an optional colour up to the end of the line); Qhull's options `Fv` (such
-- faces) and `i` (a face is a line of indices, without their number).
use Rattle.std.specs.Prelude.{ℕ, ◌≡◌, ◌==◌, List, [], ◌∷◌, ◌++◌, map, reverse, length, Some, if◌then◌else◌}
use Rattle.qh_read.specs.declared.faces.reading.{Layout.Layout, Layout.TheVariants.Lines, Orientation.Orientation, Orientation.TheVariants.Clockwise}
use Rattle.qh_read.specs.declared.numerals.Numeral.{Numeral}

-- the leading words that are on this line
abbrev pub on_line : ℕ → List Numeral → List Numeral
on_line line [] = []
on_line line (w ∷ ws) = if w.line == line then w ∷ on_line line ws else []

-- the words after these
abbrev pub after_line : ℕ → List Numeral → List Numeral
after_line line [] = []
after_line line (w ∷ ws) = if w.line == line then after_line line ws else w ∷ ws

-- the line of the last word
abbrev pub last_line : ℕ → List Numeral → ℕ
last_line line [] = line
last_line line (w ∷ ws) = last_line w.line ws

-- the words are these numbers
abbrev pub AreNumbers : List Numeral → List ℕ → Type 0
AreNumbers ws ns = map (λ w. w.number) ws ≡ map Some ns

-- first the number of corners, then the corners, and further words on their last line
pub record IsCountedFace (ws : List Numeral) (corners : List ℕ) (rest : List Numeral) : Type 0 where
  pub count : Numeral
  pub own : List Numeral
  pub left : List Numeral
  pub words : ws ≡ count ∷ own ++ left
  pub number : count.number ≡ Some (length corners)
  pub numbers : AreNumbers own corners
  pub after : rest ≡ after_line (last_line count.line own) left

-- first the corners, which are all words of a line
pub record IsLineFace (ws : List Numeral) (corners : List ℕ) (rest : List Numeral) : Type 0 where
  pub first : Numeral
  pub left : List Numeral
  pub words : ws ≡ first ∷ left
  pub numbers : AreNumbers (first ∷ on_line first.line left) corners
  pub after : rest ≡ after_line first.line left

abbrev pub IsFace : Layout → List Numeral → List ℕ → List Numeral → Type 0
IsFace Lines ws corners rest = IsLineFace ws corners rest
IsFace layout ws corners rest = IsCountedFace ws corners rest

-- corners in counterclockwise order
abbrev pub turned : Orientation → List ℕ → List ℕ
turned Clockwise corners = reverse corners
turned orientation corners = corners

-- the words are these faces, one after another, and nothing else
abbrev pub AreFaces : Layout → Orientation → List Numeral → List (List ℕ) → Type 0
AreFaces layout orientation ws [] = ws ≡ []
AreFaces layout orientation ws (f ∷ fs) =
    (corners : List ℕ) × (rest : List Numeral) × IsFace layout ws corners rest × (f ≡ turned orientation corners) × AreFaces layout orientation rest fs

-- the words are the number of faces, and then the faces
pub record IsList (layout : Layout) (orientation : Orientation) (ws : List Numeral) (faces : List (List ℕ)) : Type 0 where
  pub count : Numeral
  pub rest : List Numeral
  pub words : ws ≡ count ∷ rest
  pub number : count.number ≡ Some (length faces)
  pub listed : AreFaces layout orientation rest faces
