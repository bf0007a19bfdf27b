-- Chains of positions: the number of times that a position occurs in them, and the chains after a write to one link.
use Rattle.std.proofs.Common.{◌≡◌, ℕ, zero, suc, ◌+◌, ◌<◌, ◌≤◌, arith, sym, refl, List, [], ◌∷◌, ◌++◌, length, subst, get_or, set, length-set, sum_by, eq-eqb}
use Rattle.{std.proofs.Common.lt-ltb, std.proofs.Common.le-ltb, qh_surface.specs.declared.outside_sets.Ends.Ends}
use Rattle.std.proofs.lemmas.{Grind.common_steps, Bool.Decides.nat_tests, List.Sums.sum_by-cons, List.Sums.get_or-le-sum_by}
use Rattle.qh_surface.specs.steps.PositionChains.{count, chain_from, IsChain, IsLast, IsSet, AreSets, no_sets, one_more}

-- ---- counts
pub count_at : (y x : ℕ) (xs : List ℕ) → y ≡ x → count y (x ∷ xs) ≡ count y xs + 1
count_at y x xs e = rw (eq-eqb y x e) (omega arith)

pub count-append : (x : ℕ) (xs ys : List ℕ) → count x (xs ++ ys) ≡ count x xs + count x ys
count-append x [] ys = omega arith
count-append x (y ∷ xs) ys = let e = count-append x xs ys in omega arith

-- the last of a list is in it
pub last_in : (x : ℕ) (xs : List ℕ) (l : ℕ) → IsLast (x ∷ xs) l → 1 ≤ count l (x ∷ xs)
last_in x [] l e = let a = count_at l x [] e in omega arith
last_in x (y ∷ ys) l e = let a = last_in y ys l e in omega arith

-- ---- chains
-- the last is a position
pub last_within : (links : List ℕ) (p x l : ℕ) (xs : List ℕ) → IsChain links p (x ∷ xs) → IsLast (x ∷ xs) l → l < length links
last_within links p x l [] c e = let h = c.1 in omega (arith, e)
last_within links p x l (y ∷ ys) c e = last_within links (get_or links x 0) y l ys c.2 e

-- the link of the first position leads to the others
pub next : (links : List ℕ) (p p' x : ℕ) (xs : List ℕ) → IsChain links p (x ∷ xs) → p' ≡ get_or links p p' → IsChain links p' xs
next links p p' x xs c r = grind (arith, common_steps, c, r)

-- reading a chain, with enough steps, returns the chain
pub chain_is : (links : List ℕ) (n p : ℕ) (xs : List ℕ) → IsChain links p xs → length xs ≤ n → chain_from links n p ≡ xs
unfolding chain_from
chain_is links zero p [] c h = refl
chain_is links zero p (x ∷ xs) c h = absurd (omega arith)
chain_is links (suc n) p [] c h = rw (le-ltb p (length links) c) refl
chain_is links (suc n) p (x ∷ xs) c h =
    let r = chain_is links n (get_or links x 0) xs c.2 (omega arith) in
    rw (lt-ltb p (length links) (omega (arith, c.0, c.1)), c.0, r) refl

-- after a write to the link of y
module _ (links : List ℕ) (y v : ℕ) where
  -- a chain without y does not change
  pub chain_kept : (p : ℕ) (xs : List ℕ) → count y xs ≡ 0 → IsChain links p xs → IsChain (set links y v) p xs
  chain_kept p [] n c = rw (length-set links y v) c
  chain_kept p (x ∷ xs) n c = grind (arith, common_steps, nat_tests, n, c, chain_kept (get_or links x 0) xs)

  -- y in front of the chain from v
  pub chain_front : (p x : ℕ) (xs : List ℕ) → y ≡ x → p ≡ x → y < length links → count y xs ≡ 0 → IsChain links v xs
      → IsChain (set links y v) p (x ∷ xs)
  chain_front p x xs e q h n c = grind (arith, common_steps, e, q, h, n, c, chain_kept v xs)

  -- the chain from v behind a chain with the last position y
  pub chain_joined : (p x : ℕ) (xs ys : List ℕ) → count y (x ∷ xs) ≤ 1 → IsLast (x ∷ xs) y
      → IsChain links p (x ∷ xs) → IsChain (set links y v) v ys → IsChain (set links y v) p ((x ∷ xs) ++ ys)
  chain_joined p x [] ys o e c d = grind (arith, common_steps, e, c, d)
  chain_joined p x (z ∷ xs) ys o e c d = grind (arith, common_steps, nat_tests, o, e, c, d, last_in z xs y e, chain_joined (get_or links x 0) z xs ys)

-- ---- sets
-- the set of the ends at a place
pub set_at : {links : List ℕ} {es : List Ends} {xss : List (List ℕ)} (f : ℕ) (e : Ends) → f < length xss → e ≡ get_or es f e
    → AreSets links es xss → IsSet links e (get_or xss f [])
set_at f e h r no_sets = absurd (omega arith)
set_at {links} zero e h r (one_more {xs = xs} s k) = subst (λ (t : Ends). IsSet links t xs) (sym r) s
set_at (suc f) e h r (one_more s k) = set_at f e (omega arith) r k

-- new links, which keep each chain without y
module _ {links links' : List ℕ} (y : ℕ) (frame : (p : ℕ) (xs : List ℕ) → count y xs ≡ 0 → IsChain links p xs → IsChain links' p xs) where
  -- sets without y do not change
  pub sets_kept : {es : List Ends} {xss : List (List ℕ)} → sum_by (count y) xss ≡ 0 → AreSets links es xss → AreSets links' es xss
  sets_kept n no_sets = no_sets
  sets_kept n (one_more {e} {xs = xs} {xss} s k) =
      let a = sum_by-cons (count y) xs xss in
      one_more (frame e.first xs (omega arith) s.0, s.1) (sets_kept (omega arith) k)

  -- if y is in at most one set, only this set may change
  pub sets_put : {es : List Ends} {xss : List (List ℕ)} (f : ℕ) (e : Ends) (xs : List ℕ) → f < length xss
      → sum_by (count y) xss ≤ count y (get_or xss f []) → IsSet links' e xs → AreSets links es xss → AreSets links' (set es f e) (set xss f xs)
  sets_put f e xs h n s no_sets = absurd (omega arith)
  sets_put zero e xs h n s (one_more {xs = ys} {xss} t k) = let a = sum_by-cons (count y) ys xss in one_more s (sets_kept (omega arith) k)
  sets_put (suc f) e xs h n s (one_more {e = d} {xs = ys} {xss} t k) =
      let a = sum_by-cons (count y) ys xss in let b = get_or-le-sum_by (count y) xss f [] (omega arith) in
      one_more (frame d.first ys (omega arith) t.0, t.1) (sets_put f e xs (omega arith) (omega arith) s k)
