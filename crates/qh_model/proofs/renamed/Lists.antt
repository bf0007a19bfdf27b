-- Images of lists of ids under a renaming: members once, neighbours, the least id first, and lexicographic order.
use Rattle.qh_model.proofs.Common.{◌≡◌, ℕ, ◌+◌, ◌<◌, refl, List, [], ◌∷◌, length, get_or, map, arith, ap, sym, subst, inl, inr, length-map, get_or-map}
use Rattle.qh_model.proofs.Common.{IsStrictlyIncreasing, FollowsAlong, Follows, ComesBefore, RisesFrom, RiseStrictly, In, BeginsWithLeast}
use Rattle.qh_model.proofs.{Members.In-get_or, lists.Images.of_map}

-- the neighbours whose images are neighbours on the image of a path
record OldNeighbours (f : ℕ → ℕ) (u v t : ℕ) (r : List ℕ) (e : ℕ) : Type 0 where
  a : ℕ
  b : ℕ
  follows : FollowsAlong a b t r e
  first : u ≡ f a
  second : v ≡ f b

-- neighbours on a path have neighbours as images
along_map : (f : ℕ → ℕ) (u v t : ℕ) (r : List ℕ) (e : ℕ) → FollowsAlong u v t r e → FollowsAlong (f u) (f v) (f t) (map f r) (f e)
along_map f u v t [] e h = (ap f h.0, ap f h.1)
along_map f u v t (w ∷ r) e (inl h) = inl (ap f h.0, ap f h.1)
along_map f u v t (w ∷ r) e (inr h) = inr (along_map f u v w r e h)

-- neighbours on the image are images of neighbours
of_along_map : (f : ℕ → ℕ) (u v t : ℕ) (r : List ℕ) (e : ℕ) → FollowsAlong u v (f t) (map f r) (f e) → OldNeighbours f u v t r e
of_along_map f u v t [] e h = record { a = t; b = e; follows = (refl, refl); first = sym h.0; second = sym h.1 }
of_along_map f u v t (w ∷ r) e (inl h) = record { a = t; b = w; follows = inl (refl, refl); first = sym h.0; second = sym h.1 }
of_along_map f u v t (w ∷ r) e (inr h) =
    let s = of_along_map f u v w r e h in
    record { a = s.a; b = s.b; follows = inr s.follows; first = s.first; second = s.second }

-- neighbours round a polygon have neighbours as images
pub follows_map : (f : ℕ → ℕ) (u v : ℕ) (q : List ℕ) → Follows u v q → Follows (f u) (f v) (map f q)
follows_map = grind (arith, along_map)

-- neighbours round the image are images of neighbours
pub of_follows_map : (f : ℕ → ℕ) (u v : ℕ) (q : List ℕ) → Follows u v (map f q) → (a : ℕ) × (b : ℕ) × Follows a b q × (u ≡ f a) × (v ≡ f b)
of_follows_map f u v [] h = absurd h
of_follows_map f u v (t ∷ r) h = let s = of_along_map f u v t r t h in (s.a, s.b, s.follows, s.first, s.second)

-- ---- images under a function that rises on a set
-- each member of each list is one of A
abbrev pub AreWithin : (ℕ → Type 0) → List (List ℕ) → Type 0
AreWithin A qs = (q : List ℕ) → In q qs → (i : ℕ) → In i q → A i

module _ (A : ℕ → Type 0) (f : ℕ → ℕ) (rises : (i j : ℕ) → A i → A j → i < j → f i < f j) where
  -- the least stays first
  pub least_map : (q : List ℕ) → ((i : ℕ) → In i q → A i) → BeginsWithLeast q → BeginsWithLeast (map f q)
  least_map = grind (arith, of_map)

  -- lists keep their order
  pub before_map : (p q : List ℕ) → ((i : ℕ) → In i p → A i) → ((i : ℕ) → In i q → A i) → ComesBefore p q → ComesBefore (map f p) (map f q)
  before_map [] [] a b h = h
  before_map (u ∷ p) [] a b h = h
  before_map [] (v ∷ q) a b h = tt
  before_map (u ∷ p) (v ∷ q) a b (inl h) = inl (rises u v (a u (inl refl)) (b v (inl refl)) h)
  before_map (u ∷ p) (v ∷ q) a b (inr h) = inr (ap f h.0, before_map p q (λ i m. a i (inr m)) (λ i m. b i (inr m)) h.1)

  -- lists keep their order, each with the next
  rises_map : (q : List ℕ) (ps : List (List ℕ)) → ((i : ℕ) → In i q → A i) → AreWithin A ps → RisesFrom q ps → RisesFrom (map f q) (map (map f) ps)
  rises_map q [] a b h = tt
  rises_map q (p ∷ ps) a b h = (before_map q p a (b p (inl refl)) h.0, rises_map p ps (b p (inl refl)) (λ t i. b t (inr i)) h.1)

  -- the images of rising lists of lists rise
  pub rise_map : (qs : List (List ℕ)) → AreWithin A qs → RiseStrictly qs → RiseStrictly (map (map f) qs)
  rise_map = grind (arith, rises_map)

  -- the images of rising lists of numbers rise
  pub rising_map : (xs : List ℕ) → ((i : ℕ) → In i xs → A i) → IsStrictlyIncreasing xs → IsStrictlyIncreasing (map f xs)
  rising_map xs within h k l =
      let inside : k + 1 < length xs = subst (λ n. k + 1 < n) (length-map xs f) l in
      let here : get_or (map f xs) k 0 ≡ f (get_or xs k 0) = get_or-map f xs k 0 0 (omega (arith, inside)) in
      let next : get_or (map f xs) (k + 1) 0 ≡ f (get_or xs (k + 1) 0) = get_or-map f xs (k + 1) 0 0 inside in
      let first = within (get_or xs k 0) (In-get_or xs k 0 (omega (arith, inside))) in
      let second = within (get_or xs (k + 1) 0) (In-get_or xs (k + 1) 0 inside) in
      let up : f (get_or xs k 0) < f (get_or xs (k + 1) 0) = rises (get_or xs k 0) (get_or xs (k + 1) 0) first second (h k inside) in
      omega (arith, here, next, up)
