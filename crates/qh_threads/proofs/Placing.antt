-- Slots, one of which is filled.
use Rattle.std.proofs.Common.{◌≡◌, ◌<◌, ◌∙◌, ℕ, List, ◌∷◌, Option, Some, IfSome, All, length, set, get_or, sym, subst}
use Rattle.std.proofs.lemmas.List.{get_or-set_same, get_or-set_other, length-set, Elements.All-head, Elements.All-tail}
use native.Mathlib.Decide.{ℕ_discrete}
use denote.Param.Members.{Shared}
use Rattle.std.specs.Fn.{FnReturns}
use Rattle.qh_threads.specs.{declared.claimed.Answer.Answer, steps.Answers.IsAnswer, steps.Answers.ArePlaced}

-- the result of a call, in the slot of its index
pub placed_set : {F X : Type 0} (g : Shared F (ℕ × Unit {0}) X) (f : F) (slots : List (Option X)) (k : ℕ) (o : Option X)
    → ArePlaced g f slots → IfSome o (λ x. FnReturns g f (k, tt) x) → ArePlaced g f (set slots k o)
placed_set g f slots k o p here i d l = by_decision (ℕ_discrete i k)
  where
    within : i < length slots
    within = subst (λ n. i < n) (length-set slots k o) l

    by_decision : Dec (i ≡ k) → IfSome (get_or (set slots k o) i d) (λ x. FnReturns g f (i, tt) x)
    by_decision (yes e) = subst (λ n. IfSome (get_or (set slots k o) n d) (λ x. FnReturns g f (n, tt) x)) (sym e)
        (subst (λ v. IfSome v (λ x. FnReturns g f (k, tt) x)) (sym (get_or-set_same slots k o d (subst (λ n. n < length slots) e within))) here)
    by_decision (no ne) = subst (λ v. IfSome v (λ x. FnReturns g f (i, tt) x)) (sym (get_or-set_other slots k i o d ne)) (p i d within)

-- the first of some answers, in its slot
pub answer_placed : {F X : Type 0} (g : Shared F (ℕ × Unit {0}) X) (f : F) (n : ℕ) (slots : List (Option X)) (a : Answer X) (rest : List (Answer X))
    → length slots ≡ n → ArePlaced g f slots → All (IsAnswer g f n) (a ∷ rest)
    → (length (set slots a.index (Some a.value)) ≡ n) × ArePlaced g f (set slots a.index (Some a.value)) × All (IsAnswer g f n) rest
answer_placed g f n slots a rest len placed answers = (
  length-set slots a.index (Some a.value) ∙ len,
  placed_set g f slots a.index (Some a.value) placed (All-head (IsAnswer g f n) a rest answers).1,
  All-tail (IsAnswer g f n) a rest answers,
)
