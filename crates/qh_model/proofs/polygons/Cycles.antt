-- A fact about all neighbours round a list, as one product.
use Rattle.qh_model.proofs.Common.{ℕ, refl, subst, inl, inr, List, [], ◌∷◌, FollowsAlong, Follows, arith}

-- P holds for each pair of neighbours on the path from u along the list to e
abbrev pub AlongPath : (ℕ → ℕ → Type 0) → ℕ → List ℕ → ℕ → Type 0
AlongPath P u [] e = P u e
AlongPath P u (v ∷ r) e = P u v × AlongPath P v r e

-- P holds for each pair of neighbours, including the last and the first
abbrev pub AroundCycle : (ℕ → ℕ → Type 0) → List ℕ → Type 0
AroundCycle P [] = Unit {0}
AroundCycle P (u ∷ r) = AlongPath P u r u

-- a fact about each pair of neighbours on a path
along_holds : (P : ℕ → ℕ → Type 0) (u v t : ℕ) (r : List ℕ) (e : ℕ) → AlongPath P t r e → FollowsAlong u v t r e → P u v
along_holds P u v t [] e h f = subst (λ x. P x v) f.0 (subst (P t) f.1 h)
along_holds P u v t (w ∷ r) e h (inl f) = subst (λ x. P x v) f.0 (subst (P t) f.1 h.0)
along_holds P u v t (w ∷ r) e h (inr f) = along_holds P u v w r e h.1 f

-- a fact about each pair of neighbours round a polygon
pub round_holds : (P : ℕ → ℕ → Type 0) (q : List ℕ) → AroundCycle P q → (u v : ℕ) → Follows u v q → P u v
round_holds = grind (arith, along_holds)

-- the converse on a path
along_told : (P : ℕ → ℕ → Type 0) (u : ℕ) (r : List ℕ) (e : ℕ) → ((a b : ℕ) → FollowsAlong a b u r e → P a b) → AlongPath P u r e
along_told P u [] e f = f u e (refl, refl)
along_told P u (v ∷ r) e f = (f u v (inl (refl, refl)), along_told P v r e (λ a b h. f a b (inr h)))

-- the converse round a polygon
pub round_told : (P : ℕ → ℕ → Type 0) (q : List ℕ) → ((u v : ℕ) → Follows u v q → P u v) → AroundCycle P q
round_told = grind (arith, along_told)

-- a consequence for each pair of neighbours on a path
path_map : (P Q : ℕ → ℕ → Type 0) → ((u v : ℕ) → P u v → Q u v) → (u : ℕ) (r : List ℕ) (e : ℕ) → AlongPath P u r e → AlongPath Q u r e
path_map P Q f u [] e h = f u e h
path_map P Q f u (v ∷ r) e h = (f u v h.0, path_map P Q f v r e h.1)

-- a consequence for each pair of neighbours round a polygon
pub cycle_map : (P Q : ℕ → ℕ → Type 0) → ((u v : ℕ) → P u v → Q u v) → (q : List ℕ) → AroundCycle P q → AroundCycle Q q
cycle_map = grind (arith, path_map)
