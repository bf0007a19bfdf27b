-- A walk in a finite list on which a fraction grows at each step ends.
use Rattle.qh_model.proofs.Common.{◌≡◌, ℕ, zero, suc, ◌+◌, ◌<◌, ◌≤◌, refl, sym, ap, ◌∙◌, arith, List, [], ◌∷◌, Bool, true, false, cond, ◌&&◌, ◌⊎◌, inl, inr}
use Rattle.qh_model.proofs.Common.{and_from, and_parts, ints, by_lt_z, ℤ, pos, ◌*ℤ◌, ◌<ℤ◌, int_lt, In}
use Rattle.std.proofs.lemmas.Bool.{and_right}
use Rattle.qh_model.proofs.{algebra.Signs.less_le, algebra.Signs.not_less, closed_surfaces.Sums.count}
use Rattle.qh_laws.proofs.{Greatest.ratio-trans, Signs.above, Signs.above_is, Signs.is_above}

-- ---- tests that differ at a member
-- one more element of both counts
counted : (a b : Bool) (m n : ℕ) → (a ≡ true → b ≡ true) → m ≤ n → cond a 1 0 + m ≤ cond b 1 0 + n
counted false b m n f l = omega arith
counted true true m n f l = omega arith
counted true false m n f l = let e = f refl in cc

-- no more members pass the narrower test
fewer_le : {X : Type 0} (p q : X → Bool) → ((x : X) → q x ≡ true → p x ≡ true) → (xs : List X) → count q xs ≤ count p xs
fewer_le p q h [] = omega arith
fewer_le p q h (x ∷ xs) = counted (q x) (p x) (count q xs) (count p xs) (h x) (fewer_le p q h xs)

-- fewer members pass the narrower test, if some member passes the wider one only
fewer : {X : Type 0} (p q : X → Bool) → ((x : X) → q x ≡ true → p x ≡ true) → (xs : List X) (y : X) → In y xs → p y ≡ true → q y ≡ false
    → count q xs < count p xs
fewer p q h [] y i e f = absurd i
fewer p q h (x ∷ xs) y (inl d) e f = plain (q x) (p x) (count q xs) (count p xs) (ap q (sym d) ∙ f) (ap p (sym d) ∙ e) (fewer_le p q h xs)
  where
    plain : (a b : Bool) (m n : ℕ) → a ≡ false → b ≡ true → m ≤ n → cond a 1 0 + m < cond b 1 0 + n
    plain false true m n f e l = omega arith
    plain true b m n f e l = cc
    plain false false m n f e l = cc
fewer p q h (x ∷ xs) y (inr i) e f = omega (arith, counted (q x) (p x) (suc (count q xs)) (count p xs) (h x) (fewer p q h xs y i e f))

-- ---- the walk, over members with P, to a place D
module _ {X : Type 0} (num den : X → ℤ) (P : X → Type 0) (D : Type 0) (xs : List X) where
  -- true if the fraction of y is greater
  abbrev greater : X → X → Bool
  greater x y = above (den y) && int_lt (num x *ℤ den y) (num y *ℤ den x)

  -- a next member with a greater fraction
  abbrev pub Next : X → Type 0
  Next x = (y : X) × In y xs × P y × ((num x *ℤ den y) <ℤ (num y *ℤ den x))

  -- the converse
  is_less : (a b : ℤ) → a <ℤ b → int_lt a b ≡ true
  is_less a b h = by (int_lt a b) refl
    where
      by : (t : Bool) → int_lt a b ≡ t → int_lt a b ≡ true
      by true e = e
      by false e = absurd (omega (arith, ints))

  -- no number is less than itself
  not_itself : (a : ℤ) → int_lt a a ≡ false
  not_itself a = by (int_lt a a) refl
    where
      by : (t : Bool) → int_lt a a ≡ t → int_lt a a ≡ false
      by false e = e
      by true e = absurd (omega (arith, ints))

  -- fractions are ordered
  greater-trans : (x y z : X) → pos 0 <ℤ den x → pos 0 <ℤ den y → (num x *ℤ den y) <ℤ (num y *ℤ den x) → greater y z ≡ true → greater x z ≡ true
  greater-trans x y z hx hy l e =
      let p = and_parts (above (den z)) (int_lt (num y *ℤ den z) (num z *ℤ den y)) e in
      and_from (above (den z)) (int_lt (num x *ℤ den z) (num z *ℤ den x)) p.0 (is_less _ _ (go (above_is (den z) p.0) (omega (arith, ints, p.1))))
    where
      go : pos 0 <ℤ den z → (num y *ℤ den z) <ℤ (num z *ℤ den y) → (num x *ℤ den z) <ℤ (num z *ℤ den x)
      go hz k =
          by_lt_z (num x *ℤ den z) (num z *ℤ den x) (λ q. q) (λ q. absurd (not_less (num y *ℤ den z) (num z *ℤ den y) k
          (ratio-trans (num z) (num x) (num y) (den z) (den x) (den y) hz hx hy q (less_le _ _ l))))

  -- the walk
  pub ascent : ((x : X) → P x → pos 0 <ℤ den x) → ((x : X) → P x → D ⊎ Next x) → (x : X) → P x → D
  ascent positive step x h = go (suc (count (greater x) xs)) x h (own (count (greater x) xs))
    where
      own : (n : ℕ) → n < suc n
      own n = omega arith

      go : (n : ℕ) (x : X) → P x → count (greater x) xs < n → D
      go zero x h l = absurd (omega arith)
      go (suc n) x h l = pick (λ y k m. go n y k m) (step x h)
        where
          shorter : (a b n : ℕ) → a < b → b < suc n → a < n
          shorter a b n p q = omega arith

          pick : ((y : X) → P y → count (greater y) xs < n → D) → D ⊎ Next x → D
          pick walk (inl d) = d
          pick walk (inr (y, i, k, m)) =
              walk y k (shorter (count (greater y) xs) (count (greater x) xs) n
              (fewer (greater x) (greater y) (λ z e. greater-trans x y z (positive x h) (positive y k) m e) xs y i
              (and_from (above (den y)) (int_lt (num x *ℤ den y) (num y *ℤ den x)) (is_above (den y) (positive y k)) (is_less _ _ m))
              (and_right (above (den y)) (int_lt (num y *ℤ den y) (num y *ℤ den y)) (not_itself (num y *ℤ den y)))) l)
