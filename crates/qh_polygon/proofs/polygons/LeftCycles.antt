-- A cycle that turns left at each member is the polygon of its members: each of them is a corner.
use Rattle.qh_model.proofs.Common.{◌≡◌, ◌≢◌, ◌⊎◌, ℕ, List, [], ◌∷◌, inl, inr, arith, refl, sym, ap, subst, ◌∙◌, ints, pos, ◌<ℤ◌, ◌↔◌, dite, ℕ_discrete}
use Rattle.qh_model.proofs.Common.{Extreme, IsPolygon, TurnsLeft, In, Once, BeginsWithLeast, Vector, minus, cross_product}
use Rattle.qh_model.proofs.{algebra.VectorIdentities.left-turn, polygons.Cycles.AlongPath, polygons.Cycles.AroundCycle, polygons.Cycles.round_holds}
use Rattle.qh_model.specs.headline.Predicates.{left}
use Rattle.qh_polygon.proofs.polygons.{Corners.Corner, Corners.corner_eq, Corners.corner_extreme, Turns.left-back, Turns.left-there, Turns.left-swap}

-- the list has a member other than any two numbers
abbrev pub HasThird : List ℕ → Type 0
HasThird q = (p v : ℕ) → (w : ℕ) × In w q × (w ≢ p) × (w ≢ v)

-- three different members suffice
pub third_of : (a b c : ℕ) (r : List ℕ) → a ≢ b → a ≢ c → b ≢ c → HasThird (a ∷ b ∷ c ∷ r)
third_of a b c r ab ac bc p v = dite (ℕ_discrete a p)
    (λ e. dite (ℕ_discrete b v) (λ k. (c, inr (inr (inl refl)), (λ o. omega arith), λ o. omega arith)) (λ k. (b, inr (inl refl), (λ o. omega arith), k)))
    (λ e. dite (ℕ_discrete a v) (λ k. dite (ℕ_discrete b p) (λ m. (c, inr (inr (inl refl)), (λ o. omega arith), λ o. omega arith))
    (λ m. (b, inr (inl refl), m, λ o. omega arith))) (λ k. (a, inl refl, e, k)))

-- the last step of a path
last_way : (P : ℕ → ℕ → Type 0) (u : ℕ) (r : List ℕ) (e : ℕ) → AlongPath P u r e → (p : ℕ) × P p e
last_way P u [] e h = (u, h)
last_way P u (v ∷ r) e h = last_way P v r e h.1

module _ (n : Vector) (at : ℕ → Vector) (A : ℕ → Type 0) (q : List ℕ) (l : (x : ℕ) → A x ↔ In x q) (third : HasThird q) where
  -- the member between two steps
  vertex : (p v s : ℕ) → A v → TurnsLeft at n q p v → TurnsLeft at n q v s → Corner at A v
  vertex p v s av f g = record {
    member = av;
    w = cross_product (minus (at s) (at p)) n;
    beats = λ x ax ne. let e = corner_eq n (at p) (at v) (at s) (at x) in let i = (l x).0 ax in dite (ℕ_discrete x p)
        (λ xp. omega (arith, ints, ap (λ (t : ℕ). left n (at p) (at v) (at t)) xp ∙ left-back n (at p) (at v), g x i ne (λ xs. no_return (sym xp ∙ xs))))
        (λ np. dite (ℕ_discrete x s) (λ xs. omega (arith, ints, f x i np ne, ap (λ (t : ℕ). left n (at v) (at s) (at t)) xs ∙ left-there n (at v) (at s)))
        (λ ns. omega (arith, ints, f x i np ne, g x i ne ns)));
  }
    where
      no_return : p ≢ s
      no_return e = let w = third p v in
          omega (arith, ints, left-swap n (at p) (at v) (at w.0), f w.0 w.1 w.2 w.3, subst (TurnsLeft at n q v) (sym e) g w.0 w.1 w.3 w.2)

  -- each member of a path from u, to which a step from p leads
  corners_along : (p u : ℕ) (r : List ℕ) (e : ℕ) → ((x : ℕ) → In x (u ∷ r) → A x) → TurnsLeft at n q p u
      → AlongPath (TurnsLeft at n q) u r e → (x : ℕ) → In x (u ∷ r) → Corner at A x
  corners_along p u [] e a f h x (inl is) = subst (Corner at A) (sym is) (vertex p u e (a u (inl refl)) f h)
  corners_along p u [] e a f h x (inr m) = absurd m
  corners_along p u (v ∷ r) e a f h x (inl is) = subst (Corner at A) (sym is) (vertex p u v (a u (inl refl)) f h.0)
  corners_along p u (v ∷ r) e a f h x (inr m) = corners_along u v r e (λ y i. a y (inr i)) h.0 h.1 x m

-- the cycle, which begins with its least member, is the polygon of its members
pub cycle_polygon : (n : Vector) (at : ℕ → Vector) (A : ℕ → Type 0) (u : ℕ) (r : List ℕ) → ((x : ℕ) → A x ↔ In x (u ∷ r))
    → HasThird (u ∷ r) → Once (u ∷ r) → BeginsWithLeast (u ∷ r) → AroundCycle (TurnsLeft at n (u ∷ r)) (u ∷ r)
    → IsPolygon at (Extreme at A) n (u ∷ r)
cycle_polygon n at A u r l third once least h =
    let p = last_way (TurnsLeft at n (u ∷ r)) u r u h in
    let corner = corners_along n at A (u ∷ r) l third p.0 u r u (λ x i. (l x).1 i) p.1 h in
    record {
      members = λ x. (λ i. corner_extreme at A x (corner x i), λ e. (l x).0 e.0);
      once = once;
      round = round_holds (TurnsLeft at n (u ∷ r)) (u ∷ r) h;
      least = least;
    }

-- a step from u to v, if all others are the one before u and the one after v
pub side_of : (n : Vector) (at : ℕ → Vector) (q : List ℕ) (p u v s : ℕ) → ((x : ℕ) → In x q → x ≢ u → x ≢ v → (x ≡ p) ⊎ (x ≡ s))
    → pos 0 <ℤ left n (at p) (at u) (at v) → pos 0 <ℤ left n (at u) (at v) (at s) → TurnsLeft at n q u v
side_of = grind (arith, left-turn)
