-- Whole numbers that are parsed as a whole.
use Rattle.qh_model.specs.{declared.form.Form.Form, headline.PointFile.coordinates, headline.Vector.Vector}
use Rattle.qh_read.specs.contract.{Holding.Held, Holding.held_by, Holding.next_held, Progress.Progress, Progress.wants, Progress.after, Tokens.signed}
use Rattle.qh_read.specs.declared.{builder.Builder.Builder, builder.Stage.Stage, builder.Trailing.Trailing, token.Token.Token, token.Token.TheVariants.Empty}
use Rattle.qh_read.specs.{declared.token.Token.TheVariants.Digits, steps.Stages.stage_shown, steps.Stages.is_header, steps.Stages.HasTextFault}
use Rattle.std.specs.Prelude.{ℕ, ℤ, ◌≡◌, ◌+◌, ◌*◌, ◌++◌, Bool, false, List, Some, length}
use Rattle.qh_read.specs.declared.builder.Pending.TheVariants as pendings

-- the state outside comments
abbrev pub quiet : Form → Progress → ℕ → Token → Held
quiet form progress line token = record { form = form; progress = progress; token = token; comment = false; line = line }

-- between words, the bytes begin with a number of these digits, followed by this rest
abbrev pub IsBegun : List ℕ → Bool → ℕ → List ℕ → Type 0
IsBegun bytes minus magnitude rest = (form : Form) (p : Progress) (line : ℕ) →
    held_by (quiet form p line Empty) bytes ≡ held_by (quiet form p line (Digits minus magnitude)) rest

-- inside a number, the bytes continue with digits up to this rest
abbrev pub IsContinued : ℕ → List ℕ → ℕ → List ℕ → Type 0
IsContinued magnitude bytes more rest = (form : Form) (p : Progress) (line : ℕ) (minus : Bool) →
    held_by (quiet form p line (Digits minus magnitude)) bytes ≡ held_by (quiet form p line (Digits minus more)) rest

-- a number ends with this byte, after which the line number is this
abbrev pub IsEnd : ℕ → ℕ → ℕ → Type 0
IsEnd line end later = (form : Form) (p : Progress) (base : ℕ) (minus : Bool) (magnitude : ℕ) →
    next_held (quiet form p (base + line) (Digits minus magnitude)) end
    ≡ quiet form (after p false (Some (signed minus magnitude)) (base + line)) (base + later) Empty

-- between words, the bytes are these points, if all of them are expected, followed by this line and this rest
abbrev pub ArePoints : ℕ → List ℕ → List Vector → ℕ → List ℕ → Type 0
ArePoints line bytes points later rest =
    (form : Form) (trailing : Trailing) (left : ℕ) (t : List ℤ) (base : ℕ)
    → held_by (quiet form (wants trailing (3 * length points + left) t) (base + line) Empty) bytes
    ≡ held_by (quiet form (wants trailing left (t ++ coordinates points)) (base + later) Empty) rest

-- a point begins, the coordinates of `count` points are expected, and after them this stage
pub record AwaitsPoints (b : Builder) (count : ℕ) (next : Stage) : Type 0 where
  pub begins : b.pending ≡ pendings.Zero
  pub after_header : is_header next ≡ false
  pub text_fault : HasTextFault next
  pub trailing : Trailing
  pub left : ℕ
  pub before : (t : List ℤ) → stage_shown b.stage t ≡ wants trailing (3 * count + left) t
  pub comes : (t : List ℤ) → stage_shown next t ≡ wants trailing left t
