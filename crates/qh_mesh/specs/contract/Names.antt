-- New names for the corners of a mesh, given by a list.
use Rattle.std.specs.Prelude.{ℕ, List, slice_index_or}

-- the name of position l in a list: its entry there, or l itself past its end
abbrev pub name_in : List ℕ → ℕ → ℕ
name_in ids l = slice_index_or ids l l
