-- The laws of surfaces, from their proofs.
use Rattle.qh_model.proofs.Common.{[], above, cross, inl, inr, pos, refl, rise, vol, ℕ}
use Rattle.qh_model.proofs.{Decisions.holds, Decisions.less_or_not, Decisions.told, algebra.Ring.ring, algebra.Ring.Expr.con, algebra.VectorIdentities.VE}
use Rattle.qh_model.proofs.{algebra.VectorIdentities.put, algebra.VectorIdentities.vec, algebra.VectorIdentities.volE, surfaces.Connected.cert}
use Rattle.qh_model.proofs.surfaces.{Connected.connected, Determinants.QE, Determinants.aboveE, Horizon.edge_known_by_end, Horizon.edge_known_by_start}
use Rattle.qh_model.proofs.surfaces.{Horizon.edge_next, Horizon.edge_prev, Rewired.replaced, Unseen.apex_settled, Unseen.settled_kept}
use Rattle.qh_model.specs.laws.SurfaceLaws.{AddedIsSettled, CornersAreSettled, HorizonGoesOn, HorizonIsKnown, RiseIsVol, SettledStayUnseen, WalkFindsAll}

-- a point with weight 1, as expressions
abbrev weightedE : VE → QE
weightedE p = record { w = con (pos 1); x = p.x; y = p.y; z = p.z }

-- proof of the law `RiseIsVol`
pub rise_is_vol : RiseIsVol
unfolding above vol cross
rise_is_vol a b c p =
    let P : ℕ → QE = λ i. weightedE (vec i) in
    ring (put a (put b (put c (put p [])))) (aboveE (P 0) (P 1) (P 2) (P 3)) (volE (vec 0) (vec 1) (vec 2) (vec 3)) refl

-- proof of the law `WalkFindsAll`
pub walk_finds_all : WalkFindsAll
walk_finds_all m home o w z p c g = connected m home o w z p c (record {
  f0 = g.f0;
  live = g.live;
  sees_p = told (less_or_not (pos 0) (rise m home g.f0 p)) g.seen;
  has = g.has;
  grows = λ f i s a b. g.grows f i s a (holds (less_or_not (pos 0) (rise m home (m.over f s) p)) b);
})

-- proof of the law `SettledStayUnseen`
pub settled_stay_unseen : SettledStayUnseen
settled_stay_unseen m m' home o p w z r = settled_kept (replaced m m' home p r) o w z

-- proof of the law `HorizonGoesOn`
pub horizon_goes_on : HorizonGoesOn
horizon_goes_on m home o w z p f s e = (edge_next m home o w z p f s e, edge_prev m home o w z p f s e)

-- proof of the law `HorizonIsKnown`
pub horizon_is_known : HorizonIsKnown
horizon_is_known m home o w z p f g s t a b (inl e) = edge_known_by_start m home o w z p f g s t a b e
horizon_is_known m home o w z p f g s t a b (inr e) = edge_known_by_end m home o w z p f g s t a b e

-- proof of the law `CornersAreSettled`
pub corners_are_settled : CornersAreSettled
corners_are_settled m home o z f g i j l c = cert m home o z.lifted f g i j l c

-- proof of the law `AddedIsSettled`
pub added_is_settled : AddedIsSettled
added_is_settled m m' home p r = apex_settled (replaced m m' home p r)
