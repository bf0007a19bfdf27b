-- A polygon depends on its set and on the direction of its normal alone.
use Rattle.qh_model.proofs.Common.{ℕ, List, ◌↔◌, IsPolygon, Members, Vector, IsAlong}
use Rattle.qh_model.specs.laws.PolygonLaws.{PolygonByDirection}
use Rattle.qh_model.proofs.extremes.Directions.{positive_along, left_along}

-- the same set and direction in another form
pub polygon_as : (at : ℕ → Vector) (X Y : ℕ → Type 0) (n m : Vector) (q : List ℕ) → ((i : ℕ) → X i ↔ Y i) → IsAlong n m
    → IsPolygon at X n q → IsPolygon at Y m q
polygon_as at X Y n m q f h p = record {
  members = λ i. (λ j. (f i).0 ((p.members i).0 j), λ y. (p.members i).1 ((f i).1 y));
  once = p.once;
  round = λ u v f w i a b. positive_along h.s h.t _ _ h.some_s h.some_t (left_along n m h (at u) (at v) (at w)) (p.round u v f w i a b);
  least = p.least;
}

-- proof of the law `PolygonByDirection`
pub polygon_by_direction : PolygonByDirection
polygon_by_direction at ids n m q h p = polygon_as at (Members ids) (Members ids) n m q (λ i. (λ j. j, λ j. j)) h p
