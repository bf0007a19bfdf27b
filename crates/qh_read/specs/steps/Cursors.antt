-- The bytes that a cursor passes.
use Rattle.std.specs.Prelude.{ℕ, ℤ, ◌≡◌, ◌≤◌, ◌+◌, ◌*◌, ◌++◌, false, List, Some, drop, length}
use Rattle.qh_model.specs.{declared.form.Form.Form, headline.Vector.Vector}
use Rattle.qh_read.specs.{contract.Holding.Held, contract.Holding.held_by, contract.Progress.Progress, contract.Progress.after, declared.cursor.Cursor.Cursor}
use Rattle.qh_read.specs.{declared.numbers.TheConstants.LONGEST, declared.token.Token.TheVariants.Empty, steps.Numbers.quiet, steps.Numbers.ArePoints}

-- the bytes from a cursor on
abbrev pub ahead : Cursor → List ℕ
ahead c = drop c.at c.bytes.now

-- the state after the remaining bytes; lines are counted from any base
abbrev pub held_from : Form → Progress → ℕ → Cursor → Held
held_from form p base c = held_by (quiet form p (base + c.line) Empty) (ahead c)

-- a cursor moved by at least this many bytes, and by no more lines than bytes
pub record IsOn (from to : Cursor) (bytes : ℕ) : Type 0 where
  pub same : to.bytes.now ≡ from.bytes.now
  pub on : from.at + bytes ≤ to.at
  pub lines : to.line + from.at ≤ from.line + to.at

-- the bytes between the cursors separate words
pub record IsParted (from to : Cursor) : Type 0 where
  pub held : (form : Form) (p : Progress) (base : ℕ) → held_from form p base from ≡ held_from form p base to
  pub moved : IsOn from to 0

-- the bytes between the cursors are a number
pub record IsNumber (from : Cursor) (z : ℤ) (to : Cursor) : Type 0 where
  pub held : (form : Form) (p : Progress) (base : ℕ) → (n : ℕ) × (held_from form p base from ≡ held_from form (after p false (Some z) n) base to)
  pub moved : IsOn from to 2
  pub most : to.at ≤ from.at + LONGEST

-- the bytes between the cursors are three numbers
pub record ArePoint (from : Cursor) (x y z : ℤ) (to : Cursor) : Type 0 where
  pub held : (form : Form) (p : Progress) (base : ℕ) → (i j k : ℕ) × (held_from form p base from
      ≡ held_from form (after (after (after p false (Some x) i) false (Some y) j) false (Some z) k) base to)
  pub moved : IsOn from to 6

-- the bytes between the cursors are the pushed points
pub record ArePushed (old new : List Vector) (from to : Cursor) : Type 0 where
  pub more : List Vector
  pub items : new ≡ old ++ more
  pub told : ArePoints from.line (ahead from) more to.line (ahead to)
  pub moved : IsOn from to (6 * length more)
