-- The text of vertices and faces, read as an OFF file.
use Rattle.qh_model.proofs.Common.{◌≡◌, ℕ, ◌+◌, ◌≤◌, refl, List, [], ◌∷◌, ◌++◌, length, map, append_assoc, arith, ap, ◌∙◌, decimal, BYTE_LIMIT}
use Rattle.qh_model.proofs.Common.{IsCoordinate, read_digits, number_of, before_hash, off_words, ReadsOff, coordinates, line, spaced, vertex_text, Vector, Word}
use Rattle.qh_model.proofs.Common.{lines_of, words_of, on_line, words_from, CanBeRead}
use Rattle.std.specs.{Fmt.signed_decimal, List.AllByRecursion as Every, List.flat_map, Prelude.ℤ, Prelude.pos, Prelude.codes, Prelude.Some}
use Rattle.qh_model.proofs.texts.Decimals.{decimal_digits, number_of_digits, number_of_decimal, number_of_signed, decimal_word, signed_word}
use Rattle.qh_model.proofs.texts.Lines.{Clear, ends_line, first_line, joined_lines, words_from-append, three, three_in_line, three_words}

-- the words of a line outside comments
abbrev parts : List ℕ → List (List ℕ)
parts l = words_of (before_hash l)

-- ---- lines
-- the line of a vertex
abbrev vertex_line : Vector → List ℕ
vertex_line p = three (signed_decimal p.x) (signed_decimal p.y) (signed_decimal p.z)

-- the words of this line
vertex_words : (p : Vector) → parts (vertex_line p) ≡ signed_decimal p.x ∷ signed_decimal p.y ∷ signed_decimal p.z ∷ []
vertex_words p = three_words _ _ _ (signed_word p.x) (signed_word p.y) (signed_word p.z)

-- the line of the counts
abbrev counts_line : ℕ → ℕ → ℕ → List ℕ
counts_line m f e = decimal m ++ spaced f ++ spaced e

counts_words : (m f e : ℕ) → parts (counts_line m f e) ≡ decimal m ∷ decimal f ∷ decimal e ∷ []
counts_words m f e = three_words _ _ _ (decimal_word m) (decimal_word f) (decimal_word e)

-- the text of vertices and of faces, of which only the number matters
abbrev pub surface_text : List Vector → ℕ → ℕ → List ℕ → List ℕ
surface_text ps faces edges rest = line (codes "OFF") ++ line (counts_line (length ps) faces edges) ++ flat_map vertex_text ps ++ rest

-- the lines of this text
lines_of_surface : (ps : List Vector) (faces edges : ℕ) (rest : List ℕ) → lines_of (surface_text ps faces edges rest)
    ≡ codes "OFF" ∷ counts_line (length ps) faces edges ∷ (map vertex_line ps ++ lines_of rest)
lines_of_surface ps faces edges rest =
    ap lines_of (append_assoc (keyword ++ line counts) vertices rest ∙ append_assoc keyword (line counts) (vertices ++ rest))
    ∙ first_line (codes "OFF") (line counts ++ (vertices ++ rest)) (refl, (refl, (refl, tt)))
    ∙ ap (λ (t : List (List ℕ)). codes "OFF" ∷ t) (first_line counts (vertices ++ rest) counted ∙ ap (λ (t : List (List ℕ)). counts ∷ t) others)
  where
    keyword : List ℕ
    keyword = line (codes "OFF")

    counts : List ℕ
    counts = counts_line (length ps) faces edges

    vertices : List ℕ
    vertices = flat_map vertex_text ps

    counted : Clear ends_line counts
    counted = three_in_line _ _ _ (decimal_word (length ps)) (decimal_word faces) (decimal_word edges)

    others : lines_of (vertices ++ rest) ≡ map vertex_line ps ++ lines_of rest
    others = joined_lines vertex_line ps rest (λ p. three_in_line _ _ _ (signed_word p.x) (signed_word p.y) (signed_word p.z))

-- ---- words
-- the first three numbers
abbrev count_words : List Vector → ℕ → ℕ → List (List ℕ)
count_words ps faces edges = decimal (length ps) ∷ decimal faces ∷ decimal edges ∷ []

-- these numbers, and those of the vertices
abbrev numbered_words : List Vector → ℕ → ℕ → List Word
numbered_words ps faces edges = on_line 2 (count_words ps faces edges) ++ words_from parts 3 (map vertex_line ps)

-- the words after these numbers
abbrev other_words : List Vector → List ℕ → List Word
other_words ps rest = words_from parts (3 + length (map vertex_line ps)) (lines_of rest)

-- the words of the text
words_of_surface : (ps : List Vector) (faces edges : ℕ) (rest : List ℕ) → off_words (surface_text ps faces edges rest)
    ≡ record { text = codes "OFF"; line = 1 } ∷ numbered_words ps faces edges ++ other_words ps rest
words_of_surface = grind (arith, lines_of_surface, counts_words, words_from-append)

-- ---- numbers
-- a coordinate is within the limit of decimals
number_of_coordinate : (z : ℤ) → IsCoordinate z → number_of (signed_decimal z) ≡ Some z
number_of_coordinate z h = number_of_signed z (omega (arith, h))

-- the words of the vertices are their coordinates
vertex_numbers : (ps : List Vector) (n : ℕ) → Every IsCoordinate (coordinates ps)
    → map (λ w. number_of w.text) (words_from parts n (map vertex_line ps)) ≡ map Some (coordinates ps)
vertex_numbers [] n h = refl
vertex_numbers (p ∷ ps) n h =
    let x = number_of_coordinate p.x h.0 in
    let y = number_of_coordinate p.y h.1.0 in
    let z = number_of_coordinate p.z h.1.1.0 in
    let rest = vertex_numbers ps (n + 1) h.1.1.1 in
    let others : List Word = words_from parts (n + 1) (map vertex_line ps) in
    ap (λ (t : List (List ℕ)). map (λ (w : Word). number_of w.text) (on_line n t ++ others)) (vertex_words p) ∙ cc (x, y, z, rest)

-- ---- the reading
-- the text of vertices that can be read is an OFF file of them, for any faces
pub reads_surface : (ps : List Vector) (faces edges : ℕ) (rest : List ℕ) → CanBeRead ps
    → length (surface_text ps faces edges rest) ≤ BYTE_LIMIT → ReadsOff (surface_text ps faces edges rest) ps
reads_surface ps faces edges rest can small =
    let first = number_of_decimal (length ps) (omega (arith, can.few)) in
    let second = number_of_digits (decimal faces) (decimal_digits faces) in
    let third = number_of_digits (decimal edges) (decimal_digits edges) in
    let vertices = vertex_numbers ps 3 can.limit in
    record {
      small = small;
      keyword = record { text = codes "OFF"; line = 1 };
      numbered = numbered_words ps faces edges;
      rest = other_words ps rest;
      words = words_of_surface ps faces edges rest;
      is_off = refl;
      faces = pos (read_digits 0 (decimal faces));
      edges = pos (read_digits 0 (decimal edges));
      numbers = cc (first, second, third, vertices);
      some = can.some;
      few = can.few;
      limit = can.limit;
    }
