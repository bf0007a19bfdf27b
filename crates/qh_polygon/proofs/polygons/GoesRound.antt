-- The list that goes round the extremes, from a rising list and its reverse.
use Rattle.qh_model.proofs.Common.{ℕ, List, [], ◌∷◌, ◌++◌, arith, sym, subst, inl, inr, ⊎_elim, ints, ◌≤ℤ◌, ◌<ℤ◌, ◌↔◌, Extreme, TurnsLeft, In, Once, Vector}
use Rattle.qh_model.proofs.algebra.VectorIdentities.{opposite}
use Rattle.qh_model.proofs.{lists.Joined.in_append, lists.Joined.of_append, lists.Joined.once_append, polygons.Cycles.AroundCycle, polygons.Cycles.cycle_map}
use Rattle.qh_polygon.proofs.polygons.{Chain.chain-good, Cycles.cycle-rotate}
use Rattle.qh_polygon.proofs.polygons.{TurnLaws.RisesBy, TurnLaws.IsChain, Turns.IsFlat, Turns.IsKeyed, Turns.turn_about, Turns.height_of, Turns.turn_laws}
use Rattle.qh_polygon.proofs.polygons.TwoChains.{keyed_opposite, Chains, ring_members, ring_once, ring_round}
use Rattle.qh_polygon.specs.steps.Chains.{chain, turned_onto, joined}

-- q goes once round the extreme ids of A, counterclockwise
pub record GoesRound (n : Vector) (at : ℕ → Vector) (A : ℕ → Type 0) (q : List ℕ) : Type 0 where
  pub members : (i : ℕ) → In i q ↔ Extreme at A i
  pub once : Once q
  pub round : AroundCycle (TurnsLeft at n q) q

-- for a set with two members of different height
module _ (n h : Vector) (at : ℕ → Vector) (A : ℕ → Type 0) (flat : IsFlat n at A) (keyed : IsKeyed h at A) (p q : ℕ) (is_p : A p) (is_q : A q)
    (apart : height_of h at p <ℤ height_of h at q) (turned : height_of (opposite h) at q <ℤ height_of (opposite h) at p) where
  -- the two chains close
  closes : (m : ℕ) (s : List ℕ) (z : ℕ) (r : List ℕ)
      → IsChain (turn_about n at) (height_of h at) A m s → ((x : ℕ) → A x → height_of h at x ≤ℤ height_of h at m)
      → IsChain (turn_about n at) (height_of (opposite h) at) A z r → ((x : ℕ) → A x → height_of (opposite h) at x ≤ℤ height_of (opposite h) at z)
      → GoesRound n at A (turned_onto s (turned_onto r []))
  closes m [] z r g k g' k' = absurd (omega (arith, ints, g.1 p is_p, k q is_q))
  closes m (a ∷ s) z [] g k g' k' = absurd (omega (arith, ints, turned, g'.1 q is_q, k' p is_p))
  closes m (a ∷ s) z (b ∷ r) g k g' k' =
      let c : Chains n h at A m (a ∷ s) z (b ∷ r) = record { flat = flat; keyed = keyed; lower = g; upper = g'; last = k; first = k' } in
      record { members = ring_members n h at A m a s z b r c; once = ring_once n h at A m a s z b r c; round = ring_round n h at A m a s z b r c }

  -- a rising list, and one that rises in the opposite direction, over the same members
  pub goes_round : (x₀ : ℕ) (xs : List ℕ) (y₀ : ℕ) (ys : List ℕ) → ((x : ℕ) → In x (x₀ ∷ xs) ↔ A x) → ((x : ℕ) → In x (y₀ ∷ ys) ↔ A x)
      → RisesBy (height_of h at) x₀ xs → RisesBy (height_of (opposite h) at) y₀ ys
      → GoesRound n at A (joined (chain (turn_about n at) [] (x₀ ∷ xs)) (chain (turn_about n at) [] (y₀ ∷ ys)))
  goes_round x₀ xs y₀ ys i j r r' =
      let back = keyed_opposite h at A keyed in
      let lo = chain-good (turn_about n at) (height_of h at) A (turn_laws n h at A flat keyed) x₀ xs i r in
      let up = chain-good (turn_about n at) (height_of (opposite h) at) A (turn_laws n (opposite h) at A flat back) y₀ ys j r' in
      subst (λ v. GoesRound n at A (joined v (chain (turn_about n at) [] (y₀ ∷ ys)))) (sym lo.is)
      (subst (λ v. GoesRound n at A (joined (lo.top ∷ lo.rest) v)) (sym up.is)
      (closes lo.top lo.rest up.top up.rest lo.good lo.greatest up.good up.greatest))

-- a rotated list has the same members
pub in-rotate : (xs ys : List ℕ) (x : ℕ) → In x (xs ++ ys) → In x (ys ++ xs)
in-rotate xs ys x i = in_append ys xs x (⊎_elim (λ k. inr k) (λ k. inl k) (of_append xs ys x i))

-- parts of a list without repetition
once-parts : (xs ys : List ℕ) → Once (xs ++ ys) → Once xs × (Once ys × ((x : ℕ) → In x xs → In x ys → ⊥))
once-parts [] ys o = (tt, (o, λ x i j. i))
once-parts (x ∷ xs) ys o =
    let k = once-parts xs ys o.1 in
    ((λ i. o.0 (in_append xs ys x (inl i)), k.0), (k.1.0, λ v i j. ⊎_elim (λ e. o.0 (in_append xs ys x (inr (subst (λ t. In t ys) e j)))) (λ l. k.1.1 v l j) i))

-- the same for the rotated list
pub goes_round-rotate : (n : Vector) (at : ℕ → Vector) (A : ℕ → Type 0) (xs ys : List ℕ) → GoesRound n at A (xs ++ ys) → GoesRound n at A (ys ++ xs)
goes_round-rotate n at A xs ys c = record {
  members = λ i. (λ k. (c.members i).0 (in-rotate ys xs i k), λ e. in-rotate xs ys i ((c.members i).1 e));
  once = let k = once-parts xs ys c.once in once_append ys xs k.1.0 k.0 (λ x i j. k.1.1 x j i);
  round = cycle_map (TurnsLeft at n (xs ++ ys)) (TurnsLeft at n (ys ++ xs)) (λ u v f w i. f w (in-rotate ys xs w i))
      (ys ++ xs) (cycle-rotate (TurnsLeft at n (xs ++ ys)) xs ys c.round);
}
