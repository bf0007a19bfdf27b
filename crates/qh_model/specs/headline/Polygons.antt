-- The faces of a hull, as polygons, and its edges.
-- Source: Geomview OFF (a face is the list of its vertices, counterclockwise from outside).
use Rattle.std.specs.Prelude.{◌≡◌, ℕ, ◌<◌, ◌⊎◌, ◌↔◌, List, [], ◌∷◌, length, pos, ◌<ℤ◌}
use Rattle.qh_model.specs.headline.{Vector.Vector, Predicates.cross, Sets.In, Sets.Once, Extreme.Extreme}
use Rattle.qh_model.specs.headline.{SupportingPlane.IsSupportingTriple, SupportingPlane.OnPlane, Polygon.Follows, Polygon.IsPolygon}

-- lexicographic order of lists: at the first difference p has the lower number, or p ends there
abbrev pub ComesBefore : List ℕ → List ℕ → Type 0
ComesBefore p [] = ⊥
ComesBefore [] (v ∷ q) = Unit {0}
ComesBefore (u ∷ p) (v ∷ q) = (u < v) ⊎ ((u ≡ v) × ComesBefore p q)

-- each list comes before the next
abbrev pub RisesFrom : List ℕ → List (List ℕ) → Type 0
RisesFrom q [] = Unit {0}
RisesFrom q (p ∷ ps) = ComesBefore q p × RisesFrom p ps

abbrev pub RiseStrictly : List (List ℕ) → Type 0
RiseStrictly [] = Unit {0}
RiseStrictly (q ∷ qs) = RisesFrom q qs

-- q is the polygon of the supporting plane through i, j, k: the extreme ids in it, seen from outside
abbrev pub IsFacePolygon : (ℕ → Vector) → (ℕ → Type 0) → ℕ → ℕ → ℕ → List ℕ → Type 0
IsFacePolygon at A i j k q = IsPolygon at (OnPlane at (Extreme at A) i j k) (cross (at i) (at j) (at k)) q

-- dimension 3: exactly the polygons of the supporting triples, in rising order
pub record AreFaces (at : ℕ → Vector) (A : ℕ → Type 0) (qs : List (List ℕ)) : Type 0 where
  pub rising : RiseStrictly qs
  pub each : (i j k : ℕ) → IsSupportingTriple at A i j k → (q : List ℕ) × In q qs × IsFacePolygon at A i j k q
  pub only : (q : List ℕ) → In q qs → (i j k : ℕ) × IsSupportingTriple at A i j k × IsFacePolygon at A i j k q

-- the first component that is not 0 is above 0
abbrev pub PointsForward : Vector → Type 0
PointsForward n = (pos 0 <ℤ n.x) ⊎ ((n.x ≡ pos 0) × ((pos 0 <ℤ n.y) ⊎ ((n.y ≡ pos 0) × (pos 0 <ℤ n.z))))

-- dimension 2: one polygon of all extreme ids, seen from the side of a normal that points forward
pub record IsFlatFace (at : ℕ → Vector) (A : ℕ → Type 0) (q : List ℕ) : Type 0 where
  pub i : ℕ
  pub j : ℕ
  pub k : ℕ
  pub has_i : A i
  pub has_j : A j
  pub has_k : A k
  pub forward : PointsForward (cross (at i) (at j) (at k))
  pub polygon : IsPolygon at (Extreme at A) (cross (at i) (at j) (at k)) q

-- dimension 1: the two extreme ids, the lower first
pub record IsSegmentFace (at : ℕ → Vector) (A : ℕ → Type 0) (q : List ℕ) : Type 0 where
  pub i : ℕ
  pub j : ℕ
  pub members : (l : ℕ) → ((l ≡ i) ⊎ (l ≡ j)) ↔ Extreme at A l
  pub lower : i < j
  pub is : q ≡ i ∷ j ∷ []

-- dimension 0: the only id
pub record IsPointFace (A : ℕ → Type 0) (q : List ℕ) : Type 0 where
  pub i : ℕ
  pub has_i : A i
  pub is : q ≡ i ∷ []

-- the polygons of a set of this dimension
abbrev pub ArePolygons : (ℕ → Vector) → (ℕ → Type 0) → ℕ → List (List ℕ) → Type 0
ArePolygons at A dim qs =
    ((dim ≡ 3) × AreFaces at A qs)
    ⊎ ((dim ≡ 2) × ((q : List ℕ) × IsFlatFace at A q × (qs ≡ q ∷ [])))
    ⊎ ((dim ≡ 1) × ((q : List ℕ) × IsSegmentFace at A q × (qs ≡ q ∷ [])))
    ⊎ ((dim ≡ 0) × ((q : List ℕ) × IsPointFace A q × (qs ≡ q ∷ [])))

-- u and v are neighbours in one of the polygons, u the lower
abbrev pub IsEdge : List (List ℕ) → ℕ → ℕ → Type 0
IsEdge qs u v = (u < v) × ((q : List ℕ) × In q qs × (Follows u v q ⊎ Follows v u q))

-- the number of edges: the length of a list that has exactly the edges, each once
pub record IsEdgeCount (qs : List (List ℕ)) (edges : ℕ) : Type 0 where
  pub list : List (ℕ × ℕ)
  pub once : Once list
  pub all : (u v : ℕ) → In (u, v) list ↔ IsEdge qs u v
  pub count : length list ≡ edges
