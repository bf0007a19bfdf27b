-- The text of a square with another point in it: written, read, and written again.
use Rattle.qh_model.proofs.Common.{◌≡◌, ℕ, refl, List, [], ◌∷◌, ◌++◌, arith, pos, codes, HullValue, ReadsOff, place, line, hull_text, Vector, on_line}
use Rattle.std.specs.Fmt.{digits}
use Rattle.qh_model.specs.declared.out.Out.TheVariants.{Off}
use Rattle.qh_laws.proofs.Texts.{point, square_corners, square}

-- the text of the square: the point in the middle has no line, so vertex 0 is point 1
abbrev text : List ℕ
text =
    line (codes "OFF") ++ line (codes "4 1 4")
    ++ line (codes "5 0 0") ++ line (codes "5 2 0") ++ line (codes "5 2 2") ++ line (codes "5 0 2")
    ++ line (codes "4 0 1 2 3")

pub written : hull_text square square_corners (Off ∷ []) ≡ text
unfolding digits place
written = refl

-- the four corners alone
abbrev four : List Vector
four = point 5 0 0 ∷ point 5 2 0 ∷ point 5 2 2 ∷ point 5 0 2 ∷ []

-- reading the text returns these corners
pub read : ReadsOff text four
read = record {
  small = omega arith;
  keyword = record { text = codes "OFF"; line = 1 };
  numbered =
      on_line 2 (codes "4" ∷ codes "1" ∷ codes "4" ∷ [])
      ++ on_line 3 (codes "5" ∷ codes "0" ∷ codes "0" ∷ [])
      ++ on_line 4 (codes "5" ∷ codes "2" ∷ codes "0" ∷ [])
      ++ on_line 5 (codes "5" ∷ codes "2" ∷ codes "2" ∷ [])
      ++ on_line 6 (codes "5" ∷ codes "0" ∷ codes "2" ∷ []);
  rest = on_line 7 (codes "4" ∷ codes "0" ∷ codes "1" ∷ codes "2" ∷ codes "3" ∷ []);
  words = refl;
  is_off = refl;
  faces = pos 1;
  edges = pos 4;
  numbers = refl;
  some = omega arith;
  few = omega arith;
  limit = search arith;
}

-- the hull of the corners has the same text
abbrev again : HullValue
again = record { given = 4; distinct = 4; body = record { dim = 2; extremes = 0 ∷ 1 ∷ 2 ∷ 3 ∷ []; polygons = (0 ∷ 1 ∷ 2 ∷ 3 ∷ []) ∷ []; edges = 4 } }

pub written_again : hull_text again four (Off ∷ []) ≡ text
unfolding digits place
written_again = refl
