-- The answer of a call that reads a whole input.
use Rattle.std.specs.Prelude.{ℕ, ◌≡◌, ◌≢◌, ◌≤◌, ◌<◌, ◌+◌, List, Option, Result, Err, Vec, IfOk, IfErr, length}
use Rattle.std.specs.declared.alloc.Global.{Global}
use Rattle.qh_model.specs.declared.{form.Form.Form, limits.TheConstants.BYTE_LIMIT, read_fault.ReadFault.ReadFault}
use Rattle.qh_model.specs.declared.read_fault.ReadFault.TheVariants.{Memory, Device, Big}
use Rattle.qh_model.specs.headline.{Forms.ReadsIn, Forms.IsFirstFault, Vector.Vector}
use Rattle.qh_read.specs.{contract.ReadFaults.IsFaultOf, contract.ReadFaults.IsTextFault, declared.whole.TheConstants.PIECE_LENGTH}
use Rattle.qh_read.specs.headline.SourceBytes.{Gives, GivesAll}

-- the answer to these bytes in this form is their points or their first fault, or `Big` if there are too many
pub record AnswersBytes (form : Form) (bytes : List ℕ) (answer : Result (Vec Vector Global) ReadFault) : Type 0 where
  pub read : IfOk answer (λ points. ReadsIn form bytes points.items)
  pub fault : IfErr answer (IsFaultOf form bytes)
  pub big : BYTE_LIMIT < length bytes → answer ≡ Err Big
  pub no_device : answer ≢ Err Device

-- the answer to the file of this form in a source: the points or the first fault of all its bytes, or the reason why reading stopped; `old` is the source
-- before the call and `new` after it; one read failed exactly if the answer is `Device`
pub record AnswersSource {S : Type 0} (form : Form) (remaining : S → Option (List ℕ)) (failure_count : S → ℕ) (old new : S)
    (answer : Result (Vec Vector Global) ReadFault) : Type 0 where
  pub read : IfOk answer (λ points. GivesAll (remaining old) (remaining new) (λ bytes. ReadsIn form bytes points.items))
  pub text : IfErr answer (λ e. IsTextFault e → GivesAll (remaining old) (remaining new) (λ bytes. IsFirstFault form bytes e))
  pub big : answer ≡ Err Big
      → Gives (remaining old) (remaining new) (λ bytes. (BYTE_LIMIT < length bytes) × (length bytes ≤ BYTE_LIMIT + PIECE_LENGTH))
  pub big_first : answer ≡ Err Memory → Gives (remaining old) (remaining new) (λ bytes. length bytes ≤ BYTE_LIMIT)
  pub device : answer ≡ Err Device → failure_count new ≡ failure_count old + 1
  pub no_device : answer ≢ Err Device → failure_count new ≡ failure_count old
