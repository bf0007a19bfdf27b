-- The number of edges of one polygon: 0 for a point, 1 for a segment, otherwise 1 for each member.
use Rattle.qh_bodies.specs.contract.ApartPolygons.{HasThree, HasThree.three}
use Rattle.qh_model.proofs.Common.{◌≡◌, ◌≢◌, ℕ, suc, ◌<◌, [], ◌∷◌, ◌++◌, List, length, arith}
use Rattle.qh_model.proofs.Common.{inl, false, max, min, subst, sym, ◌⊎◌, common_steps, list_any, ◌==◌, ◌&&◌, edge_count, pairs_along, IsEdgeCount, In, Once}
use Rattle.qh_model.{proofs.polygons.EdgeCounts.edges_are_counted, specs.headline.Fan.count_pairs}

-- a pair with an id that is not on the path is not a pair of the path
unlisted : (x u v t : ℕ) (r : List ℕ) (e : ℕ) → (u ≡ x) ⊎ (v ≡ x) → ¬ (In x (t ∷ r)) → x ≢ e
    → list_any (λ p. (p.0 == u) && (p.1 == v)) (pairs_along t r e ++ []) ≡ false
unlisted x u v t [] e h n d = grind (arith, common_steps, h, n, d)
unlisted x u v t (w ∷ r) e h n d = grind (arith, common_steps, h, n, d, unlisted x u v w r e h)

-- the lower or the higher of two ids is the first or the second
lower_or_higher : (a b : ℕ) → ((min a b ≡ a) ⊎ (max a b ≡ a)) × ((min a b ≡ b) ⊎ (max a b ≡ b))
lower_or_higher a b = grind arith

-- on a path to an id that is not on it, all pairs are counted
way_count : (t : ℕ) (r : List ℕ) (e : ℕ) → Once (t ∷ r) → ¬ (In e (t ∷ r)) → count_pairs (pairs_along t r e ++ []) ≡ suc (length r)
way_count t [] e o n = grind (arith, common_steps, n)
way_count t (w ∷ r) e o n =
    let rest = unlisted t _ _ w r e (lower_or_higher t w).0 o.0 (λ q. n (inl (sym q))) in
    grind (arith, common_steps, o, n, rest, way_count w r e)

counted : (q : List ℕ) (n : ℕ) → edge_count (q ∷ []) ≡ n → IsEdgeCount (q ∷ []) n
counted q n e = subst (IsEdgeCount (q ∷ [])) e (edges_are_counted (q ∷ []))

-- the number of edges for one id, for two, and for at least three
pub no_edges : (i : ℕ) → IsEdgeCount ((i ∷ []) ∷ []) 0
no_edges i = counted (i ∷ []) 0 (grind (arith, common_steps))

pub one_edge : (i j : ℕ) → i < j → IsEdgeCount ((i ∷ j ∷ []) ∷ []) 1
one_edge i j h = counted (i ∷ j ∷ []) 1 (grind (arith, common_steps, h))

pub edges_round : (q : List ℕ) → HasThree q → Once q → IsEdgeCount (q ∷ []) (length q)
edges_round _ (three t w z r) o =
    let rest = unlisted w _ _ z r t (lower_or_higher t w).1 o.1.0 (λ q. o.0 (inl (sym q))) in
    counted (t ∷ w ∷ z ∷ r) (length (t ∷ w ∷ z ∷ r)) (grind (arith, common_steps, o, rest, way_count w (z ∷ r) t o.1 o.0))
