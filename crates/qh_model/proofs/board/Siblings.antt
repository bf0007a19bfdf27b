-- The numbers of a node, its sibling and its parent.
use Rattle.qh_model.proofs.Common.{arith, eq-eqb, parent, refl, sibling, ℕ, ◌%◌, ◌*◌, ◌+◌, ◌<◌, ◌≡◌, ◌≢◌, ◌⊎◌}

pub sibling_even : (i : ℕ) → i % 2 ≡ 0 → sibling i ≡ i + 1
sibling_even i e = rw (eq-eqb (i % 2) 0 e) refl

-- a node and its sibling are the children of their parent, in one order or the other
abbrev pub ArePair : ℕ → Type 0
ArePair i = ((2 * parent i ≡ i) × (2 * parent i + 1 ≡ sibling i)) ⊎ ((2 * parent i ≡ sibling i) × (2 * parent i + 1 ≡ i))

-- a fact about both children of a node's parent holds for the node
pub of_pair : {X : Type 0} (f : ℕ → X) (x : X) (i : ℕ) → ArePair i → (f (2 * parent i) ≡ x) × (f (2 * parent i + 1) ≡ x) → f i ≡ x
of_pair = grind arith

-- the numbers of a node other than the root, its sibling and its parent
pub record Near (i : ℕ) : Type 0 where
  pub apart : sibling i ≢ i
  pub above : parent i < i
  pub above_sibling : parent i < sibling i
  pub positive : 0 < parent i
  pub back : sibling (sibling i) ≡ i
  pub same : parent (sibling i) ≡ parent i
  pub both : ArePair i

pub near : (i : ℕ) → 1 < i → Near i
near = grind arith
