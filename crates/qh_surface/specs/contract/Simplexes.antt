-- Initial simplexes of runs.
-- Source: Barber, Dobkin and Huhdanpaa 1996.
use Rattle.std.specs.Prelude.{◌≢◌, ℕ, pos, List}
use Rattle.qh_model.specs.headline.{Vector.Vector, Predicates.place, Predicates.vol, Sets.Members}
use Rattle.qh_surface.specs.declared.starts.initial_simplex.Simplex.{Simplex}

-- four of the ids, with points that are not in one plane
pub record IsSimplexOf (pts : List Vector) (ids : List ℕ) (s : Simplex) : Type 0 where
  pub has_i : Members ids s.i
  pub has_j : Members ids s.j
  pub has_k : Members ids s.k
  pub has_l : Members ids s.l
  pub volume : vol (place pts s.i) (place pts s.j) (place pts s.k) (place pts s.l) ≢ pos 0
