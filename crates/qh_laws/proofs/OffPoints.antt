-- Points near a given one that are off the planes through z and the edges of a surface.
use Rattle.qh_model.proofs.Common.{◌≡◌, ℕ, refl, sym, ap, subst, ◌∙◌, arith, List, [], ◌∷◌, ◌++◌, map, ◌⊎◌, inl, inr, true, ints, ℤ, pos, ◌+ℤ◌, ◌-ℤ◌, neg_ℤ}
use Rattle.qh_model.proofs.Common.{◌<ℤ◌, Triple, edges, cross, vol, AreInLine, In, Vector, origin, minus, dot}
use Rattle.qh_model.proofs.{algebra.Signs.opposite_zero, lists.Images.in_map, lists.Images.of_map, lists.Joined.in_append, lists.Joined.of_append}
use Rattle.qh_model.proofs.algebra.VectorIdentities.{vector_path, vol-dot, in_line-vol, vol-swap_last}
use Rattle.qh_laws.proofs.Directions.{IsOffEdges}
use Rattle.qh_laws.proofs.{Perturbed.AllUp, Perturbed.Perturbed, Perturbed.perturbed, Rounds.vol-round, Rounds.vol-outwards, Signs.above, Signs.is_above}

-- z + y
abbrev pub plus : Vector → Vector → Vector
plus z y = record { x = z.x +ℤ y.x; y = z.y +ℤ y.y; z = z.z +ℤ y.z }

-- seen from z, z + y is y
pub minus-plus : (z y : Vector) → minus (plus z y) z ≡ y
minus-plus z y = vector_path (minus (plus z y) z) y (back z.x y.x) (back z.y y.y) (back z.z y.z)
  where
    back : (a b : ℤ) → a +ℤ b -ℤ a ≡ b
    back a b = omega (arith, ints)

-- a volume with z and z + y
pub vol-plus : (z a b y : Vector) → vol z a b (plus z y) ≡ dot (cross z a b) y
vol-plus z a b y = vol-dot z a b (plus z y) ∙ ap (dot (cross z a b)) (minus-plus z y)

-- so z + y is above the plane through z and an edge if y has the direction of its normal
pub edge_above : (z y a b : Vector) → pos 0 <ℤ dot (cross z a b) y → above (vol z a b (plus z y)) ≡ true
edge_above z y a b h = is_above (vol z a b (plus z y)) (subst (λ v. pos 0 <ℤ v) (sym (vol-plus z a b y)) h)

-- no edge of triangles with z below them is in line with z
pub edge_spans : (at : ℕ → Vector) (z : Vector) (ts : List Triple) → ((t : Triple) → In t ts → vol (at t.i) (at t.j) (at t.k) z <ℤ pos 0)
    → (e : ℕ × ℕ) → In e (edges ts) → ¬ (AreInLine z (at e.0) (at e.1))
edge_spans at z [] h e i = absurd i
edge_spans at z (t ∷ ts) h e i = pick (edge_spans at z ts (λ s j. h s (inr j)) e) i
  where
    inside : vol (at t.i) (at t.j) (at t.k) z <ℤ pos 0
    inside = h t (inl refl)

    clash : (v w : ℤ) → v ≡ neg_ℤ w → w <ℤ pos 0 → v ≡ pos 0 → ⊥
    clash v w e h f = omega (arith, ints)

    outwards : vol z (at t.i) (at t.j) (at t.k) ≡ pos 0 → ⊥
    outwards = clash (vol z (at t.i) (at t.j) (at t.k)) (vol (at t.i) (at t.j) (at t.k) z) (vol-outwards z (at t.i) (at t.j) (at t.k)) inside

    first : ¬ (AreInLine z (at t.i) (at t.j))
    first l = outwards (in_line-vol z (at t.i) (at t.j) (at t.k) l)

    second : ¬ (AreInLine z (at t.j) (at t.k))
    second l = outwards (vol-round z (at t.i) (at t.j) (at t.k) ∙ in_line-vol z (at t.j) (at t.k) (at t.i) l)

    third : ¬ (AreInLine z (at t.k) (at t.i))
    third l = outwards (vol-round z (at t.i) (at t.j) (at t.k) ∙ vol-round z (at t.j) (at t.k) (at t.i) ∙ in_line-vol z (at t.k) (at t.i) (at t.j) l)

    pick : (In e (edges ts) → ¬ (AreInLine z (at e.0) (at e.1))) → In e (edges (t ∷ ts)) → ¬ (AreInLine z (at e.0) (at e.1))
    pick r (inl f) = subst (λ (g : ℕ × ℕ). ¬ (AreInLine z (at g.0) (at g.1))) (sym f) first
    pick r (inr (inl f)) = subst (λ (g : ℕ × ℕ). ¬ (AreInLine z (at g.0) (at g.1))) (sym f) second
    pick r (inr (inr (inl f))) = subst (λ (g : ℕ × ℕ). ¬ (AreInLine z (at g.0) (at g.1))) (sym f) third
    pick r (inr (inr (inr j))) = r j

module _ (at : ℕ → Vector) (z : Vector) (ts : List Triple) (inside : (t : Triple) → In t ts → vol (at t.i) (at t.j) (at t.k) z <ℤ pos 0) where
  -- no first corner of an edge is in one plane with z, d and x
  abbrev pub IsOffCorners : Vector → Vector → Type 0
  IsOffCorners d x = (e : ℕ × ℕ) → In e (edges ts) → ¬ (vol z (at e.0) d x ≡ pos 0)

  -- the normals of the planes through z and an edge
  abbrev edge_normal : (ℕ × ℕ) → Vector
  edge_normal e = cross z (at e.0) (at e.1)

  -- the normals of the planes through z, the first corner of an edge, and d
  abbrev corner_normal : Vector → (ℕ × ℕ) → Vector
  corner_normal d e = cross z (at e.0) d

  -- a point at which the same forms are positive, off the edges
  abbrev pub PointOffEdges : List Vector → Type 0
  PointOffEdges ps = (y : Vector) × AllUp ps y × IsOffEdges at ts z (plus z y)

  pub off_edges : (ps : List Vector) (x : Vector) → AllUp ps x → PointOffEdges ps
  off_edges ps x h = let (y, up, off) = perturbed (map edge_normal (edges ts)) ps x none h in
      (y, up, λ e i f. off (edge_normal e) (in_map edge_normal (edges ts) e i) (sym (vol-plus z (at e.0) (at e.1) y) ∙ f))
    where
      none : (l : Vector) → In l (map edge_normal (edges ts)) → ¬ (l ≡ origin)
      none l i = let r = of_map edge_normal (edges ts) l i in
          (λ f. edge_spans at z ts inside r.0 r.1 (sym r.2 ∙ f))

  -- the same, off the planes with the corners, too
  abbrev pub PointOff : Vector → List Vector → Type 0
  PointOff d ps = (y : Vector) × AllUp ps y × IsOffEdges at ts z (plus z y) × IsOffCorners d (plus z y)

  pub off_all : (d : Vector) → IsOffEdges at ts z d → (ps : List Vector) (x : Vector) → AllUp ps x → PointOff d ps
  off_all d apart ps x h = go (perturbed (map edge_normal (edges ts) ++ map (corner_normal d) (edges ts)) ps x none h)
    where
      with_corner : (e : ℕ × ℕ) → In e (edges ts) → ¬ (corner_normal d e ≡ origin)
      with_corner e i f =
          apart e i (opposite_zero (vol z (at e.0) (at e.1) d) (vol z (at e.0) d (at e.1)) (vol-swap_last z (at e.0) (at e.1) d)
          (in_line-vol z (at e.0) d (at e.1) f))

      none : (l : Vector) → In l (map edge_normal (edges ts) ++ map (corner_normal d) (edges ts)) → ¬ (l ≡ origin)
      none l i = pick (of_append (map edge_normal (edges ts)) (map (corner_normal d) (edges ts)) l i)
        where
          pick : In l (map edge_normal (edges ts)) ⊎ In l (map (corner_normal d) (edges ts)) → ¬ (l ≡ origin)
          pick (inl j) = let r = of_map edge_normal (edges ts) l j in (λ f. edge_spans at z ts inside r.0 r.1 (sym r.2 ∙ f))
          pick (inr j) = let r = of_map (corner_normal d) (edges ts) l j in (λ f. with_corner r.0 r.1 (sym r.2 ∙ f))

      go : Perturbed (map edge_normal (edges ts) ++ map (corner_normal d) (edges ts)) ps → PointOff d ps
      go (y, up, off) = (y, up, edge, corner)
        where
          edge : IsOffEdges at ts z (plus z y)
          edge e i f =
              off (edge_normal e) (in_append (map edge_normal (edges ts)) (map (corner_normal d) (edges ts)) (edge_normal e)
              (inl (in_map edge_normal (edges ts) e i))) (sym (vol-plus z (at e.0) (at e.1) y) ∙ f)

          corner : IsOffCorners d (plus z y)
          corner e i f =
              off (corner_normal d e) (in_append (map edge_normal (edges ts)) (map (corner_normal d) (edges ts)) (corner_normal d e)
              (inr (in_map (corner_normal d) (edges ts) e i))) (sym (vol-plus z (at e.0) d y) ∙ f)
