-- The results of the calls that threads claimed.
use Rattle.std.specs.Prelude.{ℕ, ◌<◌, List, Option, Result, Vec, IfSome, IfOk, length, slice_index_or}
use Rattle.std.specs.{List.All, Fn.FnReturns, declared.alloc.AllocError.AllocError, declared.alloc.Global.Global}
use denote.Param.Members.{Shared}
use Rattle.qh_threads.specs.declared.claimed.Answer.{Answer}

module _ {F X : Type 0} (g : Shared F (ℕ × Unit {0}) X) (f : F) where
  -- the value was returned by the call at its index, which is below n
  abbrev pub IsAnswer : ℕ → Answer X → Type 0
  IsAnswer n a = (a.index < n) × FnReturns g f (a.index, tt) a.value

  -- the answers of a thread, unless it ran out of memory
  abbrev pub AreAnswers : ℕ → Result (Vec (Answer X) Global) AllocError → Type 0
  AreAnswers n r = IfOk r (λ v. All (IsAnswer n) v.items)

  -- the value in a slot was returned by the call at its index
  abbrev pub ArePlaced : List (Option X) → Type 0
  ArePlaced slots = (i : ℕ) (d : Option X) → i < length slots → IfSome (slice_index_or slots i d) (λ x. FnReturns g f (i, tt) x)
