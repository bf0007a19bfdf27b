-- Corners of a face that are taken from words.
use Rattle.std.specs.Prelude.{ℕ, ◌≡◌, ◌⊎◌, List, ◌++◌, Option, Some}
use Rattle.qh_model.specs.declared.read_fault.ReadFault.{ReadFault, TheVariants.Memory}
use Rattle.qh_read.specs.contract.FaceWords.{AreNumbers, IsFace, last_line, turned}
use Rattle.qh_read.specs.declared.{faces.reading.Layout.Layout, faces.reading.Orientation.Orientation, numerals.Numeral.Numeral}

-- the corners are the words that were taken, the last of which is on this line
pub record AreTaken (line : ℕ) (old : List Numeral) (corners : List ℕ) (last : ℕ) (new : List Numeral) : Type 0 where
  pub own : List Numeral
  pub words : old ≡ own ++ new
  pub numbers : AreNumbers own corners
  pub ends : last ≡ last_line line own

-- a face was taken, with these corners in counterclockwise order
abbrev pub IsTakenFace : Layout → Orientation → List Numeral → List ℕ → List Numeral → Type 0
IsTakenFace layout orientation old face new = (corners : List ℕ) × IsFace layout old corners new × (face ≡ turned orientation corners)

-- an allocation failed, or this is the fault for any continuation
abbrev pub IsFaultFor : {C : Type 0} → (C → Option ReadFault) → ReadFault → Type 0
IsFaultFor {C} fault e = (e ≡ Memory) ⊎ ((after : C) → fault after ≡ Some e)
