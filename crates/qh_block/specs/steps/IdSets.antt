-- The right results for a set of ids of a list of points, if the ids rise and have distinct points.
use Rattle.{std.specs.Prelude.ℕ, std.specs.Prelude.List, qh_model.specs.contract.IdSets.IsIdSet, qh_block.specs.declared.regions.id_set.IdSet.IdSet}
use Rattle.qh_model.specs.headline.{Hull.AreExtremes, Hull.BodyValue, Hull.IsBody, Predicates.place, Sets.Members}

-- the extreme ids of the set
abbrev pub AreExtremesOf : IdSet → List ℕ → Type 0
AreExtremesOf s es = IsIdSet s.pts.now s.ids.now → AreExtremes (place s.pts.now) (Members s.ids.now) es

-- the hull of the set
abbrev pub IsHullOf : IdSet → BodyValue → Type 0
IsHullOf s b = IsIdSet s.pts.now s.ids.now → IsBody (place s.pts.now) (Members s.ids.now) b
