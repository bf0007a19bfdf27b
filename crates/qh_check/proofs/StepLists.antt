-- The steps round triangles in two lists: the steps in the lists, and the triangles to which they belong.
use Rattle.qh_check.specs.steps.StepKeys.{step_in, turns, goes_up, goes_down, back, AreSteps}
use Rattle.{qh_check.specs.steps.Triangles.IsBelow, qh_laws.specs.contract.LocallyConvex.IsRound}
use Rattle.qh_model.proofs.Common.{◌≡◌, ℕ, suc, ◌<◌, arith, true, List, [], ◌∷◌, get_or, length, map, All, sym, ap, subst, inl, inr, IsPermutation-sym, filter}
use Rattle.qh_model.proofs.{Common.flat_map, Common.In, Common.Triple, Members.All-In, Members.All-of, Members.in_permutation}
use Rattle.qh_model.proofs.lists.{Filters.in_filter, Filters.of_filter, Images.in_map, Images.of_map, Joined.of_flat_map}

-- an element of an image has a position
pub at_position : {Y : Type 0} (f : ℕ → Y) (xs : List ℕ) (y : Y) → In y (map f xs) → (k : ℕ) × (k < length xs) × (f (get_or xs k 0) ≡ y)
at_position f [] y m = absurd m
at_position f (x ∷ xs) y (inl e) = (0, omega arith, sym e)
at_position f (x ∷ xs) y (inr m) = let r = at_position f xs y m in (suc r.0, omega (arith, r.1), r.2)

-- the triangle round which a step goes
pub of_turns : (ts : List Triple) (s : Triple) → In s (flat_map turns ts) → (t : Triple) × In t ts × IsRound t s.i s.j s.k
of_turns ts s m = let r = of_flat_map turns ts s m in (r.0, r.1, round r.0 r.2)
  where
    round : (t : Triple) → In s (turns t) → IsRound t s.i s.j s.k
    round t (inl e) = inl (ap (λ (x : Triple). x.i) (sym e), ap (λ (x : Triple). x.j) (sym e), ap (λ (x : Triple). x.k) (sym e))
    round t (inr (inl e)) = inr (inl (ap (λ (x : Triple). x.i) (sym e), ap (λ (x : Triple). x.j) (sym e), ap (λ (x : Triple). x.k) (sym e)))
    round t (inr (inr (inl e))) = inr (inr (ap (λ (x : Triple). x.i) (sym e), ap (λ (x : Triple). x.j) (sym e), ap (λ (x : Triple). x.k) (sym e)))
    round t (inr (inr (inr x))) = absurd x

-- the corners of this triangle are below the bound of all triangles
pub turns_below : (n : ℕ) (ts : List Triple) → All (IsBelow n) ts → (s : Triple) → In s (flat_map turns ts) → IsBelow n s
turns_below n ts all s m = let r = of_turns ts s m in below_of r.0 r.2 (All-In (IsBelow n) ts r.0 all r.1)
  where
    below_of : (t : Triple) → IsRound t s.i s.j s.k → IsBelow n t → IsBelow n s
    below_of t (inl (p, q, r)) b = record { i = subst (λ (x : ℕ). x < n) p b.i; j = subst (λ (x : ℕ). x < n) q b.j; k = subst (λ (x : ℕ). x < n) r b.k }
    below_of t (inr (inl (p, q, r))) b = record { i = subst (λ (x : ℕ). x < n) p b.j; j = subst (λ (x : ℕ). x < n) q b.k; k = subst (λ (x : ℕ). x < n) r b.i }
    below_of t (inr (inr (p, q, r))) b = record { i = subst (λ (x : ℕ). x < n) p b.k; j = subst (λ (x : ℕ). x < n) q b.i; k = subst (λ (x : ℕ). x < n) r b.j }

module _ (ts : List Triple) (up down : List ℕ) (steps : AreSteps ts up down) where
  abbrev all : List Triple
  all = flat_map turns ts

  -- the steps of the first list go up
  pub of_ups : (s : Triple) → In s (map step_in up) → In s all × (goes_up s ≡ true)
  of_ups s m = of_filter goes_up all s (in_permutation _ _ (IsPermutation-sym _ _ steps.ups) s m)

  pub in_ups : (s : Triple) → In s all → goes_up s ≡ true → In s (map step_in up)
  in_ups s m t = in_permutation _ _ steps.ups s (in_filter goes_up all s m t)

  -- the steps of the second list, reversed, go down
  pub of_downs : (s : Triple) → In s (map step_in down) → In (back s) all × (goes_down (back s) ≡ true)
  of_downs s m = turned_back (of_map back (filter goes_down all) s (in_permutation _ _ (IsPermutation-sym _ _ steps.downs) s m))
    where
      turned_back : (r : Triple) × In r (filter goes_down all) × (s ≡ back r) → In (back s) all × (goes_down (back s) ≡ true)
      turned_back (r, n, e) = subst (λ (x : Triple). In x all × (goes_down x ≡ true)) (ap back (sym e)) (of_filter goes_down all r n)

  pub in_downs : (s : Triple) → In s all → goes_down s ≡ true → In (back s) (map step_in down)
  in_downs s m t = in_permutation _ _ steps.downs (back s) (in_map back (filter goes_down all) s (in_filter goes_down all s m t))

  -- so the ids of the keys are below the bound of the triangles
  pub ups_below : (n : ℕ) → All (IsBelow n) ts → All (λ key. IsBelow n (step_in key)) up
  ups_below n low = All-of (λ key. IsBelow n (step_in key)) up (λ key m. turns_below n ts low (step_in key) (of_ups (step_in key) (in_map step_in up key m)).0)

  pub downs_below : (n : ℕ) → All (IsBelow n) ts → All (λ key. IsBelow n (step_in key)) down
  downs_below n low =
      let turned : (key : ℕ) → IsBelow n (back (step_in key)) → IsBelow n (step_in key) = λ key b. record { i = b.j; j = b.i; k = b.k } in
      All-of (λ key. IsBelow n (step_in key)) down (λ key m.
      turned key (turns_below n ts low (back (step_in key)) (of_downs (step_in key) (in_map step_in down key m)).0))
