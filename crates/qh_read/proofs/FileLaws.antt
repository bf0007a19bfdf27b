-- The result for a file that is a list of faces, and its fault.
use Rattle.qh_model.proofs.Common.{ℕ, ◌≡◌, ◌⊎◌, [], List, refl, sym, subst, inl, inr, Vector}
use Rattle.qh_model.specs.declared.read_fault.ReadFault.{ReadFault}
use Rattle.qh_read.specs.{contract.Numerals.numerals_in, declared.faces.reading.Layout.TheVariants.Counted, declared.faces.reading.Layout.TheVariants.Lines}
use Rattle.qh_read.specs.contract.FaceFiles.{IsFaultBefore, IsFaultOfFaces, IsListOf, IsWholeList, ReadsFaces}
use Rattle.qh_read.specs.{declared.faces.reading.Layout.Layout, declared.faces.reading.Reading.Reading, steps.Lists.AreWholeFaces, steps.Lists.IsWholeFault}

-- the layout is that of a list
abbrev pub IsWhole : Layout → Type 0
IsWhole layout = (layout ≡ Counted) ⊎ (layout ≡ Lines)

along : (P : Layout → Type 0) (layout : Layout) → IsWhole layout → P Counted → P Lines → P layout
along P layout (inl e) counted lines = subst P (sym e) counted
along P layout (inr e) counted lines = subst P (sym e) lines

pub whole-read : (reading : Reading) (bytes : List ℕ) (vertices : List Vector) (faces : List (List ℕ)) → IsWhole reading.layout
    → AreWholeFaces reading bytes vertices faces → ReadsFaces reading bytes vertices faces
whole-read reading bytes vertices faces h (ws, whole, list) = (ws, along (λ layout. IsListOf layout bytes vertices ws) reading.layout h whole whole, list)

pub whole-fault : (layout : Layout) (bytes : List ℕ) (e : ReadFault) → IsWhole layout → IsWholeFault layout bytes e → IsFaultOfFaces layout bytes e
whole-fault layout bytes e h (inl m) = inl m
whole-fault layout bytes e h (inr (inl big)) = inr (inl (along (λ layout. IsFaultBefore layout bytes e) layout h big big))
whole-fault layout bytes e h (inr (inr (small, fault))) =
    let ws = numerals_in bytes in
    let whole : IsWholeList bytes [] ws = record { small = small; none = refl; list = refl } in
    inr (inr ([], ws, along (λ layout. IsListOf layout bytes [] ws) layout h whole whole, fault))
