-- Computed examples: a square, its halves, their areas and a cone over it; spots inside it, on its border, outside and above it.
use Rattle.qh_model.proofs.Common.{◌≡◌, ℕ, arith, refl, List, [], ◌∷◌, true, false, ℤ, pos, negsuc, count_by, cross, vol, place, Vector}
use Rattle.qh_laws_surface.specs.contract.Measures.{doubled_area, doubled_areas, cone_volume}
use Rattle.qh_laws_surface.specs.contract.Covering.{Spot, spot_height, spot_turn, covers, reaches}

abbrev point : ℤ → ℤ → ℤ → Vector
point x y z = record { x = x; y = y; z = z }

-- the square from 0 to 2, at the height 0
unfoldable square : ℕ → Vector
square i = place (point (pos 0) (pos 0) (pos 0) ∷ point (pos 2) (pos 0) (pos 0) ∷ point (pos 2) (pos 2) (pos 0) ∷ point (pos 0) (pos 2) (pos 0) ∷ []) i

abbrev whole : List ℕ
whole = 0 ∷ 1 ∷ 2 ∷ 3 ∷ []

abbrev halves : List (List ℕ)
halves = (0 ∷ 1 ∷ 2 ∷ []) ∷ (0 ∷ 2 ∷ 3 ∷ []) ∷ []

-- twice the area is 8, upwards, and so is that of both halves
area : doubled_area square whole ≡ point (pos 0) (pos 0) (pos 8)
unfolding square place cross
area = refl

area_of_halves : doubled_areas square halves ≡ point (pos 0) (pos 0) (pos 8)
unfolding square place cross
area_of_halves = refl

-- six times the volume of the cone to (0, 0, -3), which lies below
cone : cone_volume square (point (pos 0) (pos 0) (negsuc 2)) whole ≡ negsuc 23
unfolding square place cross vol
cone = refl

-- the spot (1/2, 1, 0)
abbrev inside : Spot
inside = record { point = point (pos 1) (pos 2) (pos 0); scale = 2; some = omega arith }

-- on a side: (2, 1, 0); outside: (3, 1, 0); above: (1, 1, 1)
abbrev border : Spot
border = record { point = point (pos 2) (pos 1) (pos 0); scale = 1; some = omega arith }

abbrev outside : Spot
outside = record { point = point (pos 3) (pos 1) (pos 0); scale = 1; some = omega arith }

abbrev above : Spot
above = record { point = point (pos 1) (pos 1) (pos 1); scale = 1; some = omega arith }

inside_covered : covers square inside whole ≡ true
unfolding square place cross spot_height spot_turn
inside_covered = refl

-- only one of the halves covers it
inside_once : ◌≡◌ {A = ℕ} (count_by (covers square inside) halves) 1
unfolding square place cross spot_height spot_turn
inside_once = refl

border_not_covered : covers square border whole ≡ false
unfolding square place cross spot_height spot_turn
border_not_covered = refl

border_reached : reaches square border whole ≡ true
unfolding square place cross spot_height spot_turn
border_reached = refl

outside_not_reached : reaches square outside whole ≡ false
unfolding square place cross spot_height spot_turn
outside_not_reached = refl

above_not_reached : reaches square above whole ≡ false
unfolding square place cross spot_height spot_turn
above_not_reached = refl
