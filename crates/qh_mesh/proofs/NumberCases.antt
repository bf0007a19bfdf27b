-- Cases of two numbers, and of the numbers below one.
use Rattle.std.proofs.{Common.ℕ, Common.◌<◌, Common.◌≤◌, Common.inl, Common.inr, lemmas.Bool.cases_lt}
pub use Rattle.std.proofs.lemmas.Bool.{cases_eq as same_or}
pub use borrow.Author.Count.{below_more as below_next}

-- one number is below the other, or not
pub by_le : (P : Type 0) (a b : ℕ) → (a < b → P) → (b ≤ a → P) → P
by_le P a b f g = elim (cases_lt a b) [ inl h ↦ f h | inr h ↦ g h ]
