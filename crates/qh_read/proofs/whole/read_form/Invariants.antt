use Rattle.{qh_model.specs.declared.form.Form.Form, qh_read.specs.contract.Holding.Reading, qh_read.specs.contract.Holding.Fed, std.proofs.Common.◌≡◌}
use Rattle.std.{proofs.Common.◌<◌, proofs.Common.◌++◌, proofs.Common.ℕ, proofs.Common.List, specs.Slice.Iter.chunks_rest, specs.Slice.Iter.chunks_size}
use Rattle.qh_read.proofs.whole.read_form.Given as goal

-- the bytes fed, followed by the remaining bytes, are all bytes
pub record FedSoFar (form : Form) (reader : Reading) (left bytes : List ℕ) : Type 0 where
  pub done : List ℕ
  pub fed : Fed form reader done
  pub whole : done ++ left ≡ bytes

abbrev pub invariant-loop-piece : goal.invariant-loop-piece
invariant-loop-piece l = record { so_far : FedSoFar l.fn.form l.reader (chunks_rest l.piece-iterator) l.bytes; size : 0 < chunks_size l.piece-iterator }
