-- The state of the parts of a builder for the file so far.
use Rattle.std.specs.Prelude.{ℕ, ℤ, ◌≡◌, Bool, true, false, List, [], ◌∷◌, Option, Some, None}
use Rattle.qh_model.specs.declared.read_fault.ReadFault.{ReadFault}
use Rattle.qh_read.specs.contract.Progress.{Progress, wants_first, wants_second, wants, wants_keyword, wants_vertex_count, wants_face_count, wants_edge_count}
use Rattle.qh_read.specs.{contract.Progress.fails, contract.ReadFaults.IsTextFault, declared.builder.Stage.Stage, declared.builder.Pending.Pending}
use Rattle.qh_read.specs.declared.builder.Stage.TheVariants as stages
use Rattle.qh_read.specs.declared.builder.Pending.TheVariants as pendings

-- a stage, with the coordinates so far
abbrev pub stage_shown : Stage → List ℤ → Progress
stage_shown stages.First t = wants_first
stage_shown (stages.Second first) t = wants_second first
stage_shown (stages.Coordinates left trailing) t = wants trailing left t
stage_shown stages.Keyword t = wants_keyword
stage_shown stages.VertexCount t = wants_vertex_count
stage_shown (stages.FaceCount vertices) t = wants_face_count vertices
stage_shown (stages.EdgeCount vertices) t = wants_edge_count vertices
stage_shown (stages.Failed fault) t = fails fault

-- the header or a part of it is still expected
abbrev pub is_header : Stage → Bool
is_header (stages.Coordinates left trailing) = false
is_header (stages.Failed fault) = false
is_header stage = true

-- the fault that was found
abbrev pub stage_fault : Stage → Option ReadFault
stage_fault (stages.Failed fault) = Some fault
stage_fault stage = None

-- the fault of a stage is one of the text
abbrev pub HasTextFault : Stage → Type 0
HasTextFault stage = (fault : ReadFault) → stage_fault stage ≡ Some fault → IsTextFault fault

-- the coordinates of the next point so far
abbrev pub pending_list : Pending → List ℤ
pending_list pendings.Zero = []
pending_list (pendings.One x) = x.value ∷ []
pending_list (pendings.Two x y) = x.value ∷ y.value ∷ []

-- the number of coordinates of the next point so far
abbrev pub pending_count : Pending → ℕ
pending_count pendings.Zero = 0
pending_count (pendings.One x) = 1
pending_count (pendings.Two x y) = 2
