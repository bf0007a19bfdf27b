-- The keys of consecutive points, extended by one more point or by the points after them.
use Rattle.qh_model.proofs.Common.{◌≡◌, ℕ, ◌+◌, ◌<◌, ◌≤◌, ◌⊎◌, inl, inr, ⊎_elim, List, [], ◌∷◌, ◌++◌, arith, ap₂, sym, subst, ◌∙◌, refl, cases_lt, map-append}
use Rattle.qh_model.proofs.{Common.ℕ_discrete, Common.In, Common.Vector, lists.Joined.in_append, lists.Joined.of_append, lists.Rising.rising_append}
use Rattle.qh_plane.specs.steps.HashedKeys.{Hashes, hash_at, hashed_key_at, AreKeysBetween}

-- no points have no keys
pub no_keys : (pts : List Vector) (some : Hashes) (from : ℕ) → AreKeysBetween pts some from from []
no_keys pts some from = record {
  ids = [];
  rising = λ k l. absurd (omega (arith, l));
  above = λ i m. absurd m;
  below = λ i m. absurd m;
  has = λ i g l. absurd (omega (arith, g, l));
  only = λ i m. absurd m;
  are = refl;
}

module _ (pts : List Vector) (some : Hashes) (from n : ℕ) (keys : List ℕ) (k : AreKeysBetween pts some from n keys) where
  -- a point with another hash has no key
  pub key_left_out : (some (hash_at pts n) → ⊥) → AreKeysBetween pts some from (n + 1) keys
  key_left_out not = record {
    ids = k.ids;
    rising = k.rising;
    above = k.above;
    below = λ i m. let l = k.below i m in omega (arith, l);
    has = λ i g l s. k.has i g (next i l s (ℕ_discrete i n)) s;
    only = k.only;
    are = k.are;
  }
    where
      next : (i : ℕ) → i < n + 1 → some (hash_at pts i) → Dec (i ≡ n) → i < n
      next i l s (yes e) = absurd (not (subst (λ j. some (hash_at pts j)) e s))
      next i l s (no ne) = omega (arith, l, ne)

  -- the keys of the points up to another id follow
  pub keys_joined : (to : ℕ) (more : List ℕ) → from ≤ n → n ≤ to → AreKeysBetween pts some n to more → AreKeysBetween pts some from to (keys ++ more)
  keys_joined to more a b m = record {
    ids = k.ids ++ m.ids;
    rising = rising_append k.ids m.ids k.rising m.rising (λ x y p q. let l = k.below x p in let g = m.above y q in omega (arith, l, g));
    above = λ i p. high i (of_append k.ids m.ids i p);
    below = λ i p. low i (of_append k.ids m.ids i p);
    has = λ i g l s. in_append k.ids m.ids i (⊎_elim (λ u. inl (k.has i g u s)) (λ u. inr (m.has i u l s)) (cases_lt i n));
    only = λ i p. told i (of_append k.ids m.ids i p);
    are = ap₂ (λ (u v : List ℕ). u ++ v) k.are m.are ∙ sym (map-append (hashed_key_at pts) k.ids m.ids);
  }
    where
      high : (i : ℕ) → In i k.ids ⊎ In i m.ids → from ≤ i
      high i (inl p) = k.above i p
      high i (inr p) = omega (arith, a, m.above i p)

      low : (i : ℕ) → In i k.ids ⊎ In i m.ids → i < to
      low i (inl p) = omega (arith, k.below i p, b)
      low i (inr p) = m.below i p

      told : (i : ℕ) → In i k.ids ⊎ In i m.ids → some (hash_at pts i)
      told i (inl p) = k.only i p
      told i (inr p) = m.only i p

  -- the key of a point with one of the hashes is appended
  pub key_added : from ≤ n → some (hash_at pts n) → AreKeysBetween pts some from (n + 1) (keys ++ hashed_key_at pts n ∷ [])
  key_added a here = keys_joined (n + 1) (hashed_key_at pts n ∷ []) a (omega arith) record {
    ids = n ∷ [];
    rising = λ j l. absurd (omega (arith, l));
    above = λ i m. ⊎_elim (λ e. omega (arith, e)) (λ b. absurd b) m;
    below = λ i m. ⊎_elim (λ e. omega (arith, e)) (λ b. absurd b) m;
    has = λ i g l s. inl (omega (arith, g, l));
    only = λ i m. ⊎_elim (λ e. subst (λ j. some (hash_at pts j)) (sym e) here) (λ b. absurd b) m;
    are = refl;
  }
