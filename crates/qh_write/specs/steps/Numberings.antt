-- The numbers of vertices, as the writer finds them: in a table with an entry for each id, or by a search among the extreme ids.
use Rattle.std.specs.Prelude.{ℕ, suc, ◌≡◌, ◌<◌, List, [], ◌∷◌, ◌++◌, All, length, set, slice_index, decimal}
use Rattle.std.specs.List.{flat_map, Sorted.IsStrictlyIncreasing}
use Rattle.qh_model.specs.headline.{Sets.In, Text.line, Text.spaced, Text.vertex_number}
use Rattle.qh_write.specs.declared.texts.numbering.VertexNumbers.{VertexNumbers, TheVariants.Table, TheVariants.Search}

-- the table with the numbers from n on, set at the ids in turn
abbrev pub numbered : List ℕ → ℕ → List ℕ → List ℕ
numbered table n [] = table
numbered table n (e ∷ es) = numbered (set table e n) (suc n) es

-- the number that an id gets
abbrev pub number_in : VertexNumbers → ℕ → ℕ
number_in (Table table) i = slice_index table.items i
number_in (Search extremes) i = vertex_number extremes.now i

-- an id gets a number
abbrev pub HasNumber : VertexNumbers → ℕ → Type 0
HasNumber (Table table) i = i < length table.items
HasNumber (Search extremes) i = IsStrictlyIncreasing extremes.now × In i extremes.now

-- each id of a face gets a number
abbrev pub AreNumbered : VertexNumbers → List ℕ → Type 0
AreNumbered numbers face = All (HasNumber numbers) face

-- a face, each vertex by its number
abbrev pub face_by_numbers : VertexNumbers → List ℕ → List ℕ
face_by_numbers numbers q = line (decimal (length q) ++ flat_map (λ i. spaced (number_in numbers i)) q)

-- each extreme id gets its vertex number
pub record NumberExtremes (extremes : List ℕ) (numbers : VertexNumbers) : Type 0 where
  pub has : (i : ℕ) → In i extremes → HasNumber numbers i
  pub is : (i : ℕ) → In i extremes → number_in numbers i ≡ vertex_number extremes i
