-- A set in one line: its extreme ids are the first and the last along the line.
use Rattle.{qh_model.proofs.Members.in_at, qh_model.proofs.algebra.Ring.ring, qh_polygon.proofs.ShapeIds.first_two_in}
use Rattle.{qh_block.specs.steps.Segments.IsFirstAlong, qh_polygon.proofs.LinesAndPlanes.same_point, qh_model.proofs.extremes.Directions.square-positive}
use Rattle.qh_model.proofs.{combinations.Alternatives.combination_or_separator, extremes.ExtremeIds.combination_within, extremes.ExtremeIds.greatest_is_extreme}
use Rattle.qh_polygon.specs.contract.Shapes.{IsInLine, Each, AreFirstTwo}
use Rattle.qh_model.proofs.algebra.{Ring.Expr.add, Ring.Expr.sub as less, Ring.Expr.mul, Ring.Expr.neg, Order.le_less, Order.mul-pos, Order.mul-nonneg_nonpos}
use Rattle.qh_model.proofs.algebra.{Order.mul-nonpos_nonneg, Signs.equal_le, Signs.gap_positive, Signs.less_le, Signs.lt_neg, Signs.neg_le, Signs.not_less}
use Rattle.qh_model.proofs.algebra.VectorIdentities.{vec, subE, crossE, dotE, put, combine3, dot-minus}
use Rattle.qh_model.proofs.Common.{◌≡◌, ◌≢◌, ℕ, [], ◌∷◌, ap, arith, inl, inr, refl, sym, subst, ◌∙◌, ◌⊎◌, ⊎_elim, ne_of_lt, ints, by_lt_z, ℤ, pos, ◌-ℤ◌}
use Rattle.qh_model.proofs.Common.{◌*ℤ◌, neg_ℤ, ◌≤ℤ◌, ◌<ℤ◌, ◌↔◌, List, IsIdSet, Extreme, Others, cross, place, In, Members, Vector, minus, cross_product, dot}

-- ---- scalar products along a line
-- the scalar product of any w with a difference of points in a line along d
seen_along : (d w i a b : Vector) → cross_product d (minus a i) ≡ cross_product d (minus b i)
    → dot d d *ℤ (dot w a -ℤ dot w b) ≡ (dot d a -ℤ dot d b) *ℤ dot w d
seen_along d w i a b e =
    let D = vec 0 in let W = vec 1 in let I = vec 2 in let A = vec 3 in let B = vec 4 in
    let N = crossE D W in let P = crossE D (subE A I) in let Q = crossE D (subE B I) in
    let n = cross_product d w in let p = cross_product d (minus a i) in let q = cross_product d (minus b i) in
    combine3 (dot d d *ℤ (dot w a -ℤ dot w b)) ((dot d a -ℤ dot d b) *ℤ dot w d) n.x p.x q.x n.y p.y q.y n.z p.z q.z
    (ring (put d (put w (put i (put a (put b []))))) (less (mul (dotE D D) (less (dotE W A) (dotE W B))) (mul (less (dotE D A) (dotE D B)) (dotE W D)))
    (add (add (mul N.x (less P.x Q.x)) (mul N.y (less P.y Q.y))) (mul N.z (less P.z Q.z))) refl) (ap (λ v. v.x) e) (ap (λ v. v.y) e) (ap (λ v. v.z) e)

-- the scalar product of w with l, between a and b, is not above both others; t is the position and s the square
not_above : (s wa wl wb ta tl tb r : ℤ) → pos 0 <ℤ s → s *ℤ (wl -ℤ wa) ≡ (tl -ℤ ta) *ℤ r → s *ℤ (wl -ℤ wb) ≡ (tl -ℤ tb) *ℤ r
    → ta ≤ℤ tl → tl ≤ℤ tb → wa <ℤ wl → wb <ℤ wl → ⊥
not_above s wa wl wb ta tl tb r h p q ha hb la lb =
    let a : pos 0 <ℤ ((tl -ℤ ta) *ℤ r) = subst (λ v. pos 0 <ℤ v) p (mul-pos s (wl -ℤ wa) h (gap_positive wa wl la)) in
    let b : pos 0 <ℤ ((tl -ℤ tb) *ℤ r) = subst (λ v. pos 0 <ℤ v) q (mul-pos s (wl -ℤ wb) h (gap_positive wb wl lb)) in
    by_lt_z (pos 0) r (λ up. not_less _ _ b (mul-nonpos_nonneg (tl -ℤ tb) r (omega (arith, ints, hb)) (less_le _ _ up)))
    (λ down. not_less _ _ a (mul-nonneg_nonpos (tl -ℤ ta) r (omega (arith, ints, ha)) down))

-- the order of vectors from o is the order of positions
later : (d o p q : Vector) → dot d (minus p o) ≤ℤ dot d (minus q o) → dot d p ≤ℤ dot d q
later d o p q h = omega (arith, ints, dot-minus d p o, dot-minus d q o)

-- a vector forward leads to a position further on
ahead : (d o p : Vector) → pos 0 <ℤ dot d (minus p o) → dot d o <ℤ dot d p
ahead d o p h = omega (arith, ints, dot-minus d p o)

-- the scalar product of the reversed vector is the opposite one
back : (i j p : Vector) → dot (minus i j) p ≡ neg_ℤ (dot (minus j i) p)
back i j p = ring (put i (put j (put p []))) (dotE (subE (vec 0) (vec 1)) (vec 2)) (neg (dotE (subE (vec 1) (vec 0)) (vec 2))) refl

module _ (pts : List Vector) (ids : List ℕ) (i j e g : ℕ) (two : AreFirstTwo ids i j) (line : Each (IsInLine pts i j) ids)
    (first : IsFirstAlong pts ids i j e) (last : IsFirstAlong pts ids j i g) (set : IsIdSet pts ids) where
  abbrev at : ℕ → Vector
  at = place pts

  abbrev IsEnd : ℕ → Type 0
  IsEnd = Extreme at (Members ids)

  has : In i ids × In j ids
  has = first_two_in ids i j two

  in_line : (k : ℕ) → In k ids → IsInLine pts i j k
  in_line k m = let r = in_at ids k m in subst (IsInLine pts i j) r.2 (line r.0 r.1)

  -- the direction of the line, and how far an id is along it
  abbrev way : Vector
  way = minus (at j) (at i)

  abbrev far : ℕ → ℤ
  far k = dot way (at k)

  -- different ids have different points
  apart : (a b : ℕ) → In a ids → In b ids → a ≢ b → pos 0 <ℤ dot (minus (at b) (at a)) (minus (at b) (at a))
  apart a b ma mb n = square-positive (minus (at b) (at a)) (λ h. n (set.distinct a b ma mb (same_point (at a) (at b) h)))

  long : pos 0 <ℤ dot way way
  long = apart i j has.0 has.1 (λ h. ne_of_lt (set.rising 0 two.two) (two.first ∙ h ∙ sym two.second))

  -- w has no greatest value between two other points
  not_between : (w : Vector) (a l b : ℕ) → In a ids → In l ids → In b ids → far a ≤ℤ far l → far l ≤ℤ far b
      → dot w (at a) <ℤ dot w (at l) → dot w (at b) <ℤ dot w (at l) → ⊥
  unfolding cross
  not_between w a l b ma ml mb =
      let see : (k : ℕ) → In k ids → dot way way *ℤ (dot w (at l) -ℤ dot w (at k)) ≡ (far l -ℤ far k) *ℤ dot w way =
      (λ k m. seen_along way w (at i) (at l) (at k) (in_line l ml ∙ sym (in_line k m))) in
      not_above (dot way way) (dot w (at a)) (dot w (at l)) (dot w (at b)) (far a) (far l) (far b) (dot w way) long (see a ma) (see b mb)

  -- different ids are at different distances
  strictly : (a b : ℕ) → In a ids → In b ids → a ≢ b → far a ≤ℤ far b → far a <ℤ far b
  strictly a b ma mb n h =
      let w = minus (at b) (at a) in let up = ahead w (at a) (at b) (apart a b ma mb n) in
      le_less (far a) (far b) h (λ q. not_between w a b a ma mb ma h (equal_le (far b) (far a) (sym q)) up up)

  -- the first has the least distance, and the last the greatest
  least : (k : ℕ) → In k ids → far e ≤ℤ far k
  least k m = later way (at i) (at e) (at k) (first.first k m)

  most : (k : ℕ) → In k ids → far k ≤ℤ far g
  most k m =
      neg_le _ _ (far g) (far k) (back (at i) (at j) (at g)) (back (at i) (at j) (at k)) (later (minus (at i) (at j)) (at j) (at g) (at k) (last.first k m))

  -- the first and the last differ
  pub ends_differ : e ≢ g
  ends_differ h = omega (arith, ints, least i has.0, ahead way (at i) (at j) long, most j has.1, ap far h)

  -- the first and the last are extreme, as the greatest along the line or in the opposite direction
  last_extreme : IsEnd g
  last_extreme = greatest_is_extreme at ids way g last.member (λ a o. inl (strictly a g o.0 last.member o.1 (most a o.0)))

  first_extreme : IsEnd e
  first_extreme = greatest_is_extreme at ids (minus (at i) (at j)) e first.member
      (λ a o. (let up = strictly e a first.member o.0 (λ h. o.1 (sym h)) (least a o.0) in
      inl (lt_neg _ _ (far a) (far e) (back (at i) (at j) (at a)) (back (at i) (at j) (at e)) up)))

  -- no other id is extreme
  only : (l : ℕ) → IsEnd l → (l ≡ e) ⊎ (l ≡ g)
  only l x = grind (arith, neither)
    where
      others : ¬ (l ≡ e) → ¬ (l ≡ g) → (a : ℕ) → In a (e ∷ g ∷ []) → Others (Members ids) l a
      others n k a h = (grind (arith, h, first.member, last.member), λ d. grind (arith, h, d, n, k))

      neither : ¬ (l ≡ e) → ¬ (l ≡ g) → ⊥
      neither n k =
          ⊎_elim (λ c. x.1 (combination_within at (Members (e ∷ g ∷ [])) (Others (Members ids) l) (at l) c (others n k)))
          (λ s. not_between s.w e l g first.member x.0 last.member (least l x.0) (most l x.0) (s.past e (inl refl))
          (s.past g (inr (inl refl)))) (combination_or_separator at (e ∷ g ∷ []) (at l))

  -- the two ends are the extreme ids
  pub two_ends : (l : ℕ) → ((l ≡ e) ⊎ (l ≡ g)) ↔ IsEnd l
  two_ends l = (λ m. ⊎_elim (λ h. rw h first_extreme) (λ h. rw h last_extreme) m, only l)
