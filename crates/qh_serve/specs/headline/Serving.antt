-- The state of the devices after `serve`.
use Rattle.std.specs.Prelude.{ℕ, ◌≡◌, ◌+◌, ◌<◌, ◌≤◌, List, Bool, true, Option, length}
use Rattle.std.specs.Io.KnownBytes.{Appends, Keeps}
use Rattle.qh_model.specs.declared.{form.Form.Form, limits.TheConstants.BYTE_LIMIT, out.Out.Out, read_fault.ReadFault.ReadFault}
use Rattle.qh_write.specs.headline.Sinks.{AppendsBeginning}
use Rattle.qh_model.specs.declared.read_fault.ReadFault.TheVariants as reads
use Rattle.qh_read.specs.{declared.whole.TheConstants.PIECE_LENGTH, headline.SourceBytes.Gives, headline.SourceBytes.GivesAll}
use Rattle.qh_model.specs.headline.{Forms.IsFirstFault, Text.IsText}
use Rattle.qh_serve.specs.declared.fault.Fault.{Fault, TheVariants.Read, TheVariants.Send, TheVariants.Usage}
use Rattle.qh_serve.specs.headline.Answers.{ReadsAs}

-- the remaining bytes of the source and the bytes that the sink received, if the devices specify them, the number of failed calls of each, and whether the sink
-- buffers nothing
pub record Devices : Type 0 where
  pub to_come : Option (List ℕ)
  pub went : Option (List ℕ)
  pub source_failures : ℕ
  pub sink_failures : ℕ
  pub flushed : Bool

-- neither device failed
pub record IsQuiet (old new : Devices) : Type 0 where
  pub source : new.source_failures ≡ old.source_failures
  pub sink : new.sink_failures ≡ old.sink_failures

-- nothing was sent, and neither device failed
pub record IsUnsent (old new : Devices) : Type 0 where
  pub went : Keeps old.went new.went
  pub quiet : IsQuiet old new

-- the source was read to its end; its bytes are the text of points, whose text was sent, with nothing buffered
pub record IsServed (form : Form) (outs : List Out) (old new : Devices) : Type 0 where
  pub text : List ℕ
  pub answer : GivesAll old.to_come new.to_come (λ bytes. ReadsAs form bytes (λ pts. IsText pts outs text))
  pub went : Appends old.went new.went text
  pub flushed : new.flushed ≡ true
  pub quiet : IsQuiet old new

-- the source was read to its end; this is the first fault of its bytes; nothing was sent
pub record IsBadText (form : Form) (f : ReadFault) (old new : Devices) : Type 0 where
  pub first : GivesAll old.to_come new.to_come (λ bytes. IsFirstFault form bytes f)
  pub unsent : IsUnsent old new

-- more bytes than the limit were read from the source, by at most one piece; nothing was sent
pub record IsTooBig (old new : Devices) : Type 0 where
  pub big : Gives old.to_come new.to_come (λ bytes. (BYTE_LIMIT < length bytes) × (length bytes ≤ BYTE_LIMIT + PIECE_LENGTH))
  pub unsent : IsUnsent old new

-- the source failed once and was not read again; nothing was sent
pub record IsSourceFailure (old new : Devices) : Type 0 where
  pub source : new.source_failures ≡ old.source_failures + 1
  pub sink : new.sink_failures ≡ old.sink_failures
  pub went : Keeps old.went new.went

-- the source was read to its end and its bytes are the text of points; the sink failed once and was not called again, after a prefix of the text, perhaps all
-- of it
pub record IsSinkFailure (form : Form) (outs : List Out) (old new : Devices) : Type 0 where
  pub text : List ℕ
  pub answer : GivesAll old.to_come new.to_come (λ bytes. ReadsAs form bytes (λ pts. IsText pts outs text))
  pub went : AppendsBeginning old.went new.went text
  pub source : new.source_failures ≡ old.source_failures
  pub sink : new.sink_failures ≡ old.sink_failures + 1

-- each fault, and its condition
abbrev pub IsServeFault : Form → List Out → Devices → Devices → Fault → Type 0
IsServeFault form outs old new (Read reads.NoHeader) = IsBadText form reads.NoHeader old new
IsServeFault form outs old new (Read (reads.BadNumber line)) = IsBadText form (reads.BadNumber line) old new
IsServeFault form outs old new (Read reads.NotThree) = IsBadText form reads.NotThree old new
IsServeFault form outs old new (Read reads.Count) = IsBadText form reads.Count old new
IsServeFault form outs old new (Read (reads.Range line)) = IsBadText form (reads.Range line) old new
IsServeFault form outs old new (Read (reads.Long line)) = IsBadText form (reads.Long line) old new
IsServeFault form outs old new (Read reads.Short) = IsBadText form reads.Short old new
IsServeFault form outs old new (Read reads.NotOff) = IsBadText form reads.NotOff old new
IsServeFault form outs old new (Read reads.Memory) = IsUnsent old new
IsServeFault form outs old new (Read reads.Device) = IsSourceFailure old new
IsServeFault form outs old new (Read reads.Big) = IsTooBig old new
IsServeFault form outs old new Send = IsSinkFailure form outs old new
IsServeFault form outs old new Usage = ⊥
