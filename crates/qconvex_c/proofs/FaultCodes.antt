-- A successful call has no fault.
use Rattle.std.proofs.Common.{◌≡◌, ◌↔◌, ℕ, subst, Result, Ok, Err}
use Rattle.qconvex_c.specs.declared.fault.Fault.{Fault}

abbrev is_done : {A : Type 0} → Result A Fault → Type 0
is_done (Ok x) = Unit {0}
is_done (Err f) = ⊥

-- a successful call has no fault
pub no_fault : {A : Type 0} (x : A) (f : Fault) → ¬ (◌≡◌ {A = Result A Fault} (Ok x) (Err f))
no_fault x f e = subst is_done e tt

-- a successful call has no fault that a clause describes
pub not_told : {A B : Type 0} (x : A) (f : Fault) (n m : ℕ) → ¬ (n ≡ m) → (◌≡◌ {A = Result A Fault} (Ok x) (Err f)) ↔ B → (n ≡ m) ↔ B
not_told x f n m other told = (λ e. absurd (other e), λ b. absurd (no_fault x f (told.1 b)))
