-- Volumes and turns of points in one plane.
use Rattle.qh_model.proofs.Common.{◌≡◌, refl, sym, ap, subst, ◌∙◌, [], pos, ◌*ℤ◌, ◌<ℤ◌, cross, vol, AreInLine, Vector, minus, dot, IsAlong}
use Rattle.qh_model.specs.headline.Predicates.{left}
use Rattle.qh_model.proofs.algebra.Ring.{ring, Expr.add, Expr.sub as less, Expr.mul}
use Rattle.qh_model.proofs.algebra.VectorIdentities.{vec, put, dotE, combine3, vol-dot, left-dot, dot_comm}
use Rattle.qh_model.proofs.extremes.Directions.{Parallel, parallel_normal, along_by, square-positive, from_plane}

-- the scalar products with parallel vectors are proportional
pub parallel_dot : (n r q : Vector) → Parallel n r → dot n n *ℤ dot r q ≡ dot n r *ℤ dot n q
parallel_dot n r q h =
    combine3 (dot n n *ℤ dot r q) (dot n r *ℤ dot n q)
    q.x (dot n n *ℤ r.x) (dot n r *ℤ n.x)
    q.y (dot n n *ℤ r.y) (dot n r *ℤ n.y)
    q.z (dot n n *ℤ r.z) (dot n r *ℤ n.z)
    (
    let N = vec 0 in let R = vec 1 in let Q = vec 2 in let S = dotE N N in let T = dotE N R in
    ring (put n (put r (put q []))) (less (mul S (dotE R Q)) (mul T (dotE N Q)))
    (add (add (mul Q.x (less (mul S R.x) (mul T N.x))) (mul Q.y (less (mul S R.y) (mul T N.y)))) (mul Q.z (less (mul S R.z) (mul T N.z)))) refl) h.x h.y h.z

-- the triangle of three points of a plane is parallel to it
pub level_parallel : (a b c u v l : Vector) → vol a b c u ≡ pos 0 → vol a b c v ≡ pos 0 → vol a b c l ≡ pos 0 → Parallel (cross a b c) (cross u v l)
level_parallel a b c u v l hu hv hl = parallel_normal (cross a b c) u v l (from_plane a b c u v hu ∙ hv) (from_plane a b c u l hu ∙ hl)

-- the volume over three points of a plane, from their turn and the height of the fourth point
pub level_volume : (a b c u v l w : Vector) → vol a b c u ≡ pos 0 → vol a b c v ≡ pos 0 → vol a b c l ≡ pos 0
    → dot (cross a b c) (cross a b c) *ℤ vol u v l w ≡ left (cross a b c) u v l *ℤ vol a b c w
level_volume a b c u v l w hu hv hl =
    let n = cross a b c in
    ap (λ x. dot n n *ℤ x) (vol-dot u v l w) ∙ parallel_dot n (cross u v l) (minus w u) (level_parallel a b c u v l hu hv hl)
    ∙ ap (λ x. x *ℤ dot n (minus w u)) (dot_comm n (cross u v l) ∙ sym (left-dot n u v l)) ∙ ap (λ x. left n u v l *ℤ x) (from_plane a b c u w hu)

-- three points of a plane that turn left have the direction of the plane
pub level_along : (a b c u v l : Vector) → ¬ (AreInLine a b c) → vol a b c u ≡ pos 0 → vol a b c v ≡ pos 0
    → vol a b c l ≡ pos 0 → pos 0 <ℤ left (cross a b c) u v l → IsAlong (cross a b c) (cross u v l)
level_along a b c u v l area hu hv hl h =
    let n = cross a b c in let e = level_parallel a b c u v l hu hv hl in
    along_by n (cross u v l) (dot n (cross u v l)) (dot n n)
    (subst (λ x. pos 0 <ℤ x) (left-dot n u v l ∙ dot_comm (cross u v l) n) h) (square-positive n area) (sym e.x) (sym e.y) (sym e.z)
