-- Triangles as data of the program, and their polygons.
use Rattle.std.specs.Prelude.{ℕ, ◌≡◌, ◌<◌, List, [], ◌∷◌, All, length, map, refl}
use Rattle.std.specs.Coded.{Coded, code_by, coded×, coded_ℕ}
use Rattle.qh_model.specs.{contract.ClosedSurface.Triple, headline.Vector.Vector}

-- three ids in order, as data of the program
abbrev pub triple_code : Coded Triple
triple_code = code_by (ℕ × (ℕ × ℕ)) (coded× coded_ℕ (coded× coded_ℕ coded_ℕ)) (λ t. (t.i, (t.j, t.k)))
    (λ s. record { i = s.0; j = s.1.0; k = s.1.1 }) (λ _. refl)

-- the corners of a triangle in order
abbrev pub corners : Triple → List ℕ
corners t = t.i ∷ t.j ∷ t.k ∷ []

-- each corner is below a number
pub record IsBelow (count : ℕ) (t : Triple) : Type 0 where
  pub i : t.i < count
  pub j : t.j < count
  pub k : t.k < count

-- each polygon is one of the triangles, in order, and each corner is the index of a point
pub record AreTriangles (pts : List Vector) (qs : List (List ℕ)) (ts : List Triple) : Type 0 where
  pub polygons : qs ≡ map corners ts
  pub indices : All (IsBelow (length pts)) ts
