-- The points of a byte string that is read as an OFF file.
-- Source: Geomview OFF: the keyword, the numbers of vertices, faces and edges, the vertices, the faces. This project's profile: the keyword is required, a
-- comment begins at any byte `#`, and faces are not read.
use Rattle.std.specs.Prelude.{ℕ, ℤ, pos, List, [], ◌∷◌, ◌++◌, ◌≡◌, ◌≤◌, ◌==◌, if◌then◌else◌, map, length, codes, Some}
use Rattle.std.specs.List.{AllByRecursion}
use Rattle.qh_model.specs.{declared.limits.TheConstants.POINT_LIMIT, declared.limits.TheConstants.BYTE_LIMIT, headline.Vector.Vector}
use Rattle.qh_model.specs.headline.Limits.{IsCoordinate}
use Rattle.qh_model.specs.headline.Words.{Word, lines_of, words_of, words_from}
use Rattle.qh_model.specs.headline.{Numbers.number_of, PointFile.coordinates}

-- a comment begins at the first byte `#`, and runs to the end of the line
abbrev pub before_hash : List ℕ → List ℕ
before_hash [] = []
before_hash (c ∷ cs) = if c == 35 then [] else c ∷ before_hash cs

-- all words outside comments, in order over the whole file
abbrev pub off_words : List ℕ → List Word
off_words bytes = words_from (λ line. words_of (before_hash line)) 1 (lines_of bytes)

-- the bytes are an OFF file of these vertices, whatever its faces are
pub record ReadsOff (bytes : List ℕ) (points : List Vector) : Type 0 where
  pub small : length bytes ≤ BYTE_LIMIT
  pub keyword : Word
  pub numbered : List Word
  pub rest : List Word
  pub words : off_words bytes ≡ keyword ∷ numbered ++ rest
  pub is_off : keyword.text ≡ codes "OFF"
  pub faces : ℤ
  pub edges : ℤ
  pub numbers : map (λ w. number_of w.text) numbered ≡ map Some (pos (length points) ∷ faces ∷ edges ∷ coordinates points)
  pub some : 1 ≤ length points
  pub few : length points ≤ POINT_LIMIT
  pub limit : AllByRecursion IsCoordinate (coordinates points)
