-- An example: the law requires a point, since the empty list has no hull.
use Rattle.qh_model.proofs.Common.{ℕ, [], arith, inl, inr, IsDimension, HullValue, IsHull, ArePolygons, place, In, Members}

-- no hull is right for no points
pub none_of_nothing : (h : HullValue) → ¬ (IsHull [] h)
none_of_nothing h r = no_hull r.body.dim r.body.polygons
  where
    empty : (i : ℕ) → ¬ (In i r.ids)
    empty i m = let l = ((r.distinct_ids.members i).0 m).0 in omega (arith, l)

    no_hull : IsDimension (place []) (Members r.ids) h.body.dim → ArePolygons (place []) (Members r.ids) h.body.dim h.body.polygons → ⊥
    no_hull (inl (e, t)) p = empty t.i t.has_i
    no_hull (inr (inl (e, t, n))) p = empty t.i t.has_i
    no_hull (inr (inr (inl (e, s, n)))) p = empty s.i s.has_i
    no_hull (inr (inr (inr (e, n)))) (inl (f, p)) = omega (arith, e, f)
    no_hull (inr (inr (inr (e, n)))) (inr (inl (f, p))) = omega (arith, e, f)
    no_hull (inr (inr (inr (e, n)))) (inr (inr (inl (f, p)))) = omega (arith, e, f)
    no_hull (inr (inr (inr (e, n)))) (inr (inr (inr (f, (q, p, d))))) = empty p.i p.has_i
