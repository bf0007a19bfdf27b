-- A flat set has a polygon: the cycle over two chains of its ids by height, rotated to begin with its least id.
use Rattle.qh_model.proofs.Common.{ℕ, zero, suc, ◌<◌, ◌≤◌, ◌++◌, List, [], ◌∷◌, length, get_or, take, drop, refl, arith, ◌⊎◌, inl, inr, cases_lt, by_lt_z, ◌<ℤ◌}
use Rattle.qh_model.proofs.Common.{HasDistinctPoints, HasSegment, Extreme, IsPolygon, Vector}
use Rattle.qh_model.proofs.{algebra.Order.le_antisym, algebra.VectorIdentities.opposite, algebra.VectorIdentities.dot-opposite, extremes.ExtremeIds.Listed}
use Rattle.qh_model.proofs.algebra.Signs.{lt_neg}
use Rattle.qh_polygon.proofs.polygons.{GoesRound.GoesRound, GoesRound.goes_round, Turns.IsFlat, Turns.IsKeyed, Turns.turn_about, Turns.height_of}
use Rattle.qh_polygon.proofs.polygons.{LeastFirst.polygon_of, TwoChains.keyed_opposite}
use Rattle.qh_polygon.specs.steps.Chains.{chain, joined}
use Rattle.qh_laws.proofs.FoundHeights.{direction, rising}

-- the position of a least number
pub record Least (xs : List ℕ) : Type 0 where
  pub at : ℕ
  pub within : 0 < length xs → at < length xs
  pub least : (k : ℕ) → k < length xs → get_or xs at 0 ≤ get_or xs k 0

-- each list has a least number
pub least : (xs : List ℕ) → Least xs
least [] = record { at = 0; within = λ h. h; least = λ k h. absurd (omega arith) }
least (x ∷ []) = record { at = 0; within = λ h. h; least = here }
  where
    here : (k : ℕ) → k < length (x ∷ []) → x ≤ get_or (x ∷ []) k 0
    here zero h = omega arith
    here (suc k) h = absurd (omega arith)
least (x ∷ y ∷ ys) = with_first (least (y ∷ ys))
  where
    with_first : Least (y ∷ ys) → Least (x ∷ y ∷ ys)
    with_first r = by_cases (cases_lt x (get_or (y ∷ ys) r.at 0))
      where
        by_cases : (x < get_or (y ∷ ys) r.at 0) ⊎ (get_or (y ∷ ys) r.at 0 ≤ x) → Least (x ∷ y ∷ ys)
        by_cases (inl l) = record { at = 0; within = λ h. h; least = here }
          where
            here : (k : ℕ) → k < length (x ∷ y ∷ ys) → x ≤ get_or (x ∷ y ∷ ys) k 0
            here zero h = omega arith
            here (suc k) h = let m : get_or (y ∷ ys) r.at 0 ≤ get_or (y ∷ ys) k 0 = r.least k (omega arith) in omega (arith, l, m)
        by_cases (inr g) = record { at = suc r.at; within = λ h. within; least = later }
          where
            within : suc r.at < length (x ∷ y ∷ ys)
            within = let m : r.at < length (y ∷ ys) = r.within (omega arith) in omega (arith, m)

            later : (k : ℕ) → k < length (x ∷ y ∷ ys) → get_or (y ∷ ys) r.at 0 ≤ get_or (x ∷ y ∷ ys) k 0
            later zero h = g
            later (suc k) h = r.least k (omega arith)

module _ (n : Vector) (at : ℕ → Vector) (A : ℕ → Type 0) (xs : List ℕ) (listed : Listed A xs) (distinct : HasDistinctPoints at A)
    (flat : IsFlat n at A) where
  -- two chains over ids that differ in height go round the extreme ids
  cycle : (h : Vector) → IsKeyed h at A → (p q : ℕ) → A p → A q → height_of h at p <ℤ height_of h at q → (c : List ℕ) × GoesRound n at A c
  cycle h keyed p q a b l =
      let up = rising h at A xs listed keyed p a in
      let down = rising (opposite h) at A xs listed (keyed_opposite h at A keyed) p a in (
        joined (chain (turn_about n at) [] (up.first ∷ up.rest)) (chain (turn_about n at) [] (down.first ∷ down.rest)),
        goes_round n h at A flat keyed p q a b l (lt_neg _ _ _ _ (dot-opposite h (at q)) (dot-opposite h (at p)) l)
            up.first up.rest down.first down.rest up.members down.members up.rises down.rises,
      )

  -- so a cycle goes round the extreme ids of a flat set with two members
  cycle_of : HasSegment A → (c : List ℕ) × GoesRound n at A c
  cycle_of s = from_witness (direction at A xs listed distinct)
    where
      from_witness : (h : Vector) × IsKeyed h at A → (c : List ℕ) × GoesRound n at A c
      from_witness (h, keyed) =
          by_lt_z (height_of h at s.i) (height_of h at s.j) (λ l. cycle h keyed s.i s.j s.has_i s.has_j l)
          (λ l. by_lt_z (height_of h at s.j) (height_of h at s.i) (λ m. cycle h keyed s.j s.i s.has_j s.has_i m)
          (λ m. absurd (s.differ (keyed.same s.i s.j s.has_i s.has_j (le_antisym _ _ m l)))))

  -- so there is a polygon
  pub polygon_found : HasSegment A → (q : List ℕ) × IsPolygon at (Extreme at A) n q
  polygon_found s =
      let c = cycle_of s in
      let m = least c.0 in
      (drop m.at c.0 ++ take m.at c.0, polygon_of n at A c.0 m.at (drop m.at c.0 ++ take m.at c.0) c.1 m.within m.least refl)
