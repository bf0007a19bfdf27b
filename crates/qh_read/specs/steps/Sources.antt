-- The bytes that a reader takes from a source in a part of the reading, and the reasons why it stops.
use Rattle.qh_model.specs.declared.{form.Form.Form, limits.TheConstants.BYTE_LIMIT, read_fault.ReadFault.ReadFault}
use Rattle.qh_read.specs.contract.{Holding.Reading, Holding.Fed, ReadFaults.IsTextFault}
use Rattle.{qh_read.specs.declared.whole.TheConstants.PIECE_LENGTH, qh_read.specs.headline.SourceBytes.Gives, std.specs.Io.KnownBytes.Consumes}
use Rattle.std.specs.Prelude.{ℕ, ◌≡◌, ◌≢◌, ◌≤◌, ◌<◌, ◌+◌, ◌++◌, List, Option, length}
use Rattle.qh_model.specs.declared.read_fault.ReadFault.TheVariants as faults

-- the reader was fed the bytes that were read from the source
pub record FedOn (before after : Reading) (old new : Option (List ℕ)) : Type 0 where
  pub given : List ℕ
  pub took : Consumes old new given
  pub fed : (form : Form) (bytes : List ℕ) → Fed form before bytes → Fed form after (bytes ++ given)
  pub count : after.count ≡ before.count + length given

-- the reason why reading stops after `before` bytes: the limit, memory or the device, but no fault of the text
pub record Stops (e : ReadFault) (before : ℕ) (old new : Option (List ℕ)) (failures failures_after : ℕ) : Type 0 where
  pub big : e ≡ faults.Big
      → Gives old new (λ bytes. (BYTE_LIMIT < before + length bytes) × (before + length bytes ≤ BYTE_LIMIT + PIECE_LENGTH))
  pub big_first : e ≡ faults.Memory → Gives old new (λ bytes. before + length bytes ≤ BYTE_LIMIT)
  pub device : e ≡ faults.Device → failures_after ≡ failures + 1
  pub no_device : e ≢ faults.Device → failures_after ≡ failures
  pub no_text : IsTextFault e → ⊥
