-- The faults that prevent a verdict on the bytes of two files. This project's own.
use Rattle.std.specs.Prelude.{ℕ, ◌≡◌, ◌⊎◌, ◌<◌, List, Option, None, Some, IfSome, length}
use Rattle.qh_model.specs.declared.form.Form.TheVariants as forms
use Rattle.qh_model.specs.declared.{limits.TheConstants.BYTE_LIMIT, read_fault.ReadFault.ReadFault}
use Rattle.qh_model.specs.declared.read_fault.ReadFault.TheVariants as reads
use Rattle.qh_model.specs.headline.Forms.{IsFirstFault}
use Rattle.qh_read.specs.{contract.ReadFaults.IsTextFault, contract.FaceFiles.IsFaultOfFaces, declared.faces.reading.Reading.Reading}
use Rattle.qh_read.specs.headline.SourceBytes.{Gives, GivesAll}
use Rattle.hullcheck.specs.{contract.CommandLine.Asked, contract.CommandLine.asked_by, contract.Judging.IsWhole, declared.fault.Fault.Fault}
use Rattle.hullcheck.specs.declared.fault.Fault.TheVariants.{Usage, Memory, Output, Points, Faces}

-- a fault of reading all points: the first fault of all bytes read; or a read failed; or more bytes were read than the input limit
pub record IsPointsFault (old new : Option (List ℕ)) (Failed : Type 0) (e : ReadFault) : Type 0 where
  pub text : IsTextFault e → GivesAll old new (λ bytes. IsFirstFault forms.Qhull bytes e)
  pub device : e ≡ reads.Device → Failed
  pub big : e ≡ reads.Big → Gives old new (λ bytes. BYTE_LIMIT < length bytes)

-- a fault that prevents a verdict on the points of a source and the faces in a text
abbrev pub IsCheckFault : Reading → Option (List ℕ) → Option (List ℕ) → Type 0 → List ℕ → Fault → Type 0
IsCheckFault reading old new Failed faces Usage = ⊥
IsCheckFault reading old new Failed faces Memory = Unit {0}
IsCheckFault reading old new Failed faces Output = ⊥
IsCheckFault reading old new Failed faces (Points e) = IsPointsFault old new Failed e
IsCheckFault reading old new Failed faces (Faces e) = IsFaultOfFaces reading.layout faces e

-- the same for a file of points, whose bytes are either all known or all unknown
pub record IsPointFileFault (content : Option (List ℕ)) (Failed : Type 0) (e : ReadFault) : Type 0 where
  pub text : IsTextFault e → (bytes : List ℕ) × IsWhole content bytes × IsFirstFault forms.Qhull bytes e
  pub device : e ≡ reads.Device → Failed
  pub big : e ≡ reads.Big → IfSome content (λ bytes. BYTE_LIMIT < length bytes)

-- the same for a file of faces, which may also fail to open
abbrev pub IsFaceFileFault : Reading → Option (List ℕ) → Type 0 → ReadFault → Type 0
IsFaceFileFault reading content Failed e = ((e ≡ reads.Device) × Failed)
    ⊎ ((bytes : List ℕ) × IsWhole content bytes × IsFaultOfFaces reading.layout bytes e)

-- a fault that prevents a verdict on the files that words name; `Failed` says of a file whether a call for it failed
abbrev pub IsJudgeFault : List (List ℕ) → (Option (List ℕ) → Option (List ℕ)) → (Option (List ℕ) → Type 0) → Fault → Type 0
IsJudgeFault words contents Failed Usage = asked_by words ≡ None
IsJudgeFault words contents Failed Memory = Unit {0}
IsJudgeFault words contents Failed Output = ⊥
IsJudgeFault words contents Failed (Points e) = (asked : Asked) × (asked_by words ≡ Some asked)
    × IsPointFileFault (contents asked.points) (Failed asked.points) e
IsJudgeFault words contents Failed (Faces e) = (asked : Asked) × (asked_by words ≡ Some asked)
    × IsFaceFileFault asked.reading (contents asked.faces) (Failed asked.faces) e
