-- The bytes that a source read from a file whose bytes are known.
use Rattle.qh_model.proofs.Common.{◌≡◌, ◌∙◌, ℕ, ◌<◌, List, ◌++◌, inr, Option, Some, None, length, IfSome, arith, ap, append-nil, length-append, Consumes}
use Rattle.qh_model.specs.declared.limits.TheConstants.{BYTE_LIMIT}
use Rattle.qh_read.specs.headline.SourceBytes.{Gives, GivesAll}
use Rattle.hullcheck.specs.contract.{Checking.IsCheckFault, Checking.IsJudgeFault, CommandLine.Asked, CommandLine.asked_by}
use Rattle.hullcheck.specs.{contract.Judging.IsWhole, declared.fault.Fault.Fault}
use Rattle.hullcheck.specs.declared.fault.Fault.TheVariants.{Usage, Memory, Output, Points, Faces}

-- all bytes that a source read to its end are those of the file
pub all_of : {P : List ℕ → Type 0} (content remaining new : Option (List ℕ)) → IfSome content (λ known. remaining ≡ Some known)
    → GivesAll remaining new P → (bytes : List ℕ) × IsWhole content bytes × P bytes
all_of None remaining new e gives = (gives.1.0, tt, gives.1.2)
all_of (Some known) remaining (Some rest) e gives =
    let consumed : Consumes (Some known) (Some rest) gives.1.0 = rw e at gives.1.1 in
    (gives.1.0, consumed ∙ ap (λ ys. gives.1.0 ++ ys) gives.0 ∙ append-nil gives.1.0, gives.1.2)
all_of (Some known) remaining None e gives = absurd (rw e at gives.1.1)

-- if too many bytes were read, the file has at least this number of bytes
pub long_of : (content remaining new : Option (List ℕ)) → IfSome content (λ known. remaining ≡ Some known)
    → Gives remaining new (λ bytes. BYTE_LIMIT < length bytes) → IfSome content (λ known. BYTE_LIMIT < length known)
long_of None remaining new e gives = tt
long_of (Some known) remaining (Some rest) e gives =
    let consumed : Consumes (Some known) (Some rest) gives.0 = rw e at gives.1 in
    let counted = ap length consumed ∙ length-append gives.0 rest in
    let many = gives.2 in
    omega arith
long_of (Some known) remaining None e gives = absurd (rw e at gives.1)

-- so a fault that prevents a verdict on the bytes read also prevents one on the files
pub judge_fault : (words : List (List ℕ)) (contents : Option (List ℕ) → Option (List ℕ)) (asked : Asked)
    (Failed : Option (List ℕ) → Type 0) (ReadFailed : Type 0) (remaining new : Option (List ℕ)) (text : List ℕ) (f : Fault) → asked_by words ≡ Some asked
    → IfSome (contents asked.points) (λ known. remaining ≡ Some known) → IsWhole (contents asked.faces) text → (ReadFailed → Failed asked.points)
    → IsCheckFault asked.reading remaining new ReadFailed text f → IsJudgeFault words contents Failed f
judge_fault words contents asked Failed ReadFailed remaining new text Usage e points faces failed h = absurd h
judge_fault words contents asked Failed ReadFailed remaining new text Memory e points faces failed h = tt
judge_fault words contents asked Failed ReadFailed remaining new text Output e points faces failed h = absurd h
judge_fault words contents asked Failed ReadFailed remaining new text (Points fault) e points faces failed h = (
  asked,
  e,
  record {
    text = λ is. all_of (contents asked.points) remaining new points (h.text is);
    device = λ is. failed (h.device is);
    big = λ is. long_of (contents asked.points) remaining new points (h.big is);
  },
)
judge_fault words contents asked Failed ReadFailed remaining new text (Faces fault) e points faces failed h = (asked, e, inr (text, faces, h))
