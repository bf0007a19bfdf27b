-- The results of the tests of each edge and each hidden id show that the triangles are all faces of a solid.
use Rattle.qh_model.proofs.Common.{◌≡◌, ◌≢◌, ℕ, ◌<◌, ◌≤◌, ◌⊎◌, arith, List, [], ◌∷◌, get_or, length, map, refl, sym, ap, subst, ◌∙◌, inl, inr, cases_lt, pos}
use Rattle.qh_model.proofs.Common.{count_by, ◌≤ℤ◌, ◌<ℤ◌, Vector, vol, In, Members, IsDimension, Triple, IsClosed, is_edge, HasDistinctPoints, IsCornerOf}
use Rattle.std.proofs.lemmas.List.Sums.{count_by-le-length}
use Rattle.qh_model.proofs.{Members.In-get_or, algebra.Signs.less_differ, lists.Images.in_map, lists.Images.of_map}
use Rattle.qh_laws.specs.contract.LocallyConvex.{is_met, IsRound, IsSharpAround, IsLocallyConvex, IsUnder, HasAllUnder}
use Rattle.qh_laws.proofs.{Convex.local_supports, TriangleFaces.sharp_is_face, Highest.vol-turn}
use Rattle.qh_check.specs.{contract.SharpSurface.IsTriangleFace, contract.SharpSurface.IsSharpSurface, steps.Hidden.IsUnderOne, steps.Hidden.IsUnderStep}
use Rattle.qh_check.specs.steps.{Sharp.AreSharp, StepKeys.step_in, Triangles.corners}
use Rattle.qh_check.proofs.SharpTriangles.{ends_differ, sharp_around}
use Rattle.qh_check.proofs.{StepCounts.edges_are, StepCounts.steps_are, StepCounts.closes, StepCounts.once, StepLists.of_turns, StepLists.of_ups}

-- a triangle with three corners, beginning with the least
least_first : (t : Triple) → t.i ≢ t.j → t.j ≢ t.k → t.k ≢ t.i → (u v w : ℕ) × IsRound t u v w × (u < v) × (u < w)
least_first t p q r = elim (cases_lt t.i t.j) [
  | inl a ↦ elim (cases_lt t.i t.k) [
    | inl b ↦ (t.i, t.j, t.k, inl (refl, refl, refl), a, b)
    | inr b ↦ (t.k, t.i, t.j, inr (inr (refl, refl, refl)), omega (arith, b, r), omega (arith, a, b, r))
  ]
  | inr a ↦ elim (cases_lt t.j t.k) [
    | inl b ↦ (t.j, t.k, t.i, inr (inl (refl, refl, refl)), b, omega (arith, a, p))
    | inr b ↦ (t.k, t.i, t.j, inr (inr (refl, refl, refl)), omega (arith, a, b, p, q), omega (arith, b, q))
  ]
]

-- a point under the triangle of a step is under any triangle with its corners
module _ (at : ℕ → Vector) (z p : Vector) where
  -- the same step, beginning with its next corner
  abbrev turned : Triple → Triple
  turned s = record { i = s.j; j = s.k; k = s.i }

  under_turned : (s : Triple) → IsUnderStep at z s p → IsUnderStep at z (turned s) p
  under_turned s h = record {
    first = h.second;
    second = h.third;
    third = h.first;
    below = subst (λ v. v ≤ℤ pos 0) (vol-turn (at s.i) (at s.j) (at s.k) p) h.below;
  }

  module _ (ts : List Triple) (t : Triple) (m : In t ts) where
    under_same : (s : Triple) → t.i ≡ s.i → t.j ≡ s.j → t.k ≡ s.k → IsUnderStep at z s p → IsUnder at ts z p
    under_same s e f g h = record {
      t = t;
      there = m;
      first = rw (e, f) h.first;
      second = rw (f, g) h.second;
      third = rw (g, e) h.third;
      below = rw (e, f, g) h.below;
    }

    under_round : (s : Triple) → IsRound t s.i s.j s.k → IsUnderStep at z s p → IsUnder at ts z p
    under_round s (inl (e, f, g)) h = under_same s e f g h
    under_round s (inr (inl (e, f, g))) h = under_same (turned (turned s)) g e f (under_turned (turned s) (under_turned s h))
    under_round s (inr (inr (e, f, g))) h = under_same (turned s) f g e (under_turned s h)

module _ (at : ℕ → Vector) (ids : List ℕ) (ts : List Triple) (s : AreSharp at ids ts) where
  sharp : (t : Triple) → In t ts → IsSharpAround at ts t
  sharp t m = sharp_around at ts s.up s.down s.steps s.pairs t m s.z (s.met.inside t m)

  closed : IsClosed ts
  closed u v =
      ap (count_by (is_edge (u, v))) (edges_are ts) ∙ closes ts s.up s.down s.steps at s.pairs u v ∙ ap (count_by (is_edge (v, u))) (sym (edges_are ts))

  convex : IsLocallyConvex at ts s.z s.d
  convex = record { closed = closed; inside = s.met.inside; convex = λ t m. (sharp t m).around; told = s.met.told; once = s.met.once }

  -- the step at a position of the first list
  abbrev step : ℕ → Triple
  step k = step_in (get_or s.up k 0)

  under : (l : ℕ) → IsUnderOne at s.up s.z (at l) → IsUnder at ts s.z (at l)
  under l (k, h, u) =
      under_one (of_turns ts (step k) (of_ups ts s.up s.down s.steps (step k) (in_map step_in s.up (get_or s.up k 0) (In-get_or s.up k 0 h))).0)
    where
      under_one : (t : Triple) × In t ts × IsRound t (step k).i (step k).j (step k).k → IsUnder at ts s.z (at l)
      under_one (t, m, r) = under_round at s.z (at l) ts t m (step k) r u

  all_under : HasAllUnder at ids ts s.z
  all_under = record { corners = s.corners.listed; others = λ l m. corner_or_under l (s.corners.others l m) }
    where
      corner_or_under : (l : ℕ) → IsCornerOf ts l ⊎ In l s.hidden → IsCornerOf ts l ⊎ IsUnder at ts s.z (at l)
      corner_or_under l (inl c) = inl c
      corner_or_under l (inr h) = inr (under l (s.under l h))

  -- there is a triangle
  some : 0 < length ts
  some = omega (arith, count_by-le-length (is_met at s.z s.d) ts, s.met.once)

  -- the triangle and its neighbour span the space
  solid : IsDimension at (Members ids) 3
  solid = spanned ts (λ t m. m) some
    where
      spanned : (xs : List Triple) → ((t : Triple) → In t xs → In t ts) → 0 < length xs → IsDimension at (Members ids) 3
      spanned [] f l = absurd (omega (arith, l))
      spanned (t ∷ xs) f l = spans t (f t (inl refl))
        where
          last : (r : Triple) (u v w : ℕ) → IsRound r u v w → In w (corners r)
          last r u v w (inl e) = inr (inr (inl (sym e.2)))
          last r u v w (inr (inl e)) = inl (sym e.2)
          last r u v w (inr (inr e)) = inr (inl (sym e.2))

          spans : (t : Triple) → In t ts → IsDimension at (Members ids) 3
          spans t m = let a = sharp t m in let n = a.around.over_ij in inl (
            refl,
            record {
              i = t.i;
              j = t.j;
              k = t.k;
              l = n.third;
              has_i = s.corners.listed t.i (t, m, inl refl);
              has_j = s.corners.listed t.j (t, m, inr (inl refl));
              has_k = s.corners.listed t.k (t, m, inr (inr (inl refl)));
              has_l = s.corners.listed n.third (n.next, n.there, last n.next t.j t.i n.third n.round);
              volume = less_differ _ _ a.over_ij;
            },
          )

  module _ (distinct : HasDistinctPoints at (Members ids)) where
    -- each triangle is a face
    face : (t : Triple) → In t ts → IsTriangleFace at (Members ids) (corners t)
    face t m = face_from (least_first t (ends_differ at s.z t.i t.j t.k inside) (ends_differ at s.z t.j t.k t.i (turned t.i t.j t.k inside))
        (ends_differ at s.z t.k t.i t.j (turned t.j t.k t.i (turned t.i t.j t.k inside))))
      where
        inside : vol (at t.i) (at t.j) (at t.k) s.z <ℤ pos 0
        inside = s.met.inside t m

        turned : (u v w : ℕ) → vol (at u) (at v) (at w) s.z <ℤ pos 0 → vol (at v) (at w) (at u) s.z <ℤ pos 0
        turned u v w h = subst (λ x. x <ℤ pos 0) (vol-turn (at u) (at v) (at w) s.z) h

        face_from : (u v w : ℕ) × IsRound t u v w × (u < v) × (u < w) → IsTriangleFace at (Members ids) (corners t)
        face_from (u, v, w, r, a, b) = record {
          t = t;
          corners = refl;
          supports = (local_supports at ids ts s.z s.d convex all_under).1 t m;
          u = u;
          v = v;
          w = w;
          round = r;
          face = sharp_is_face at ids ts s.z s.d convex all_under distinct t m (sharp t m) u v w r a b;
        }

    -- so the polygons of the triangles are a sharp surface
    pub sharp_surface : (qs : List (List ℕ)) → qs ≡ map corners ts → IsSharpSurface at (Members ids) qs
    sharp_surface qs e = subst (IsSharpSurface at (Members ids)) (sym e) (record {
      solid = solid;
      some = same_size ts some;
      faces = λ q m. of (of_map corners ts q m);
      closed = λ u v. ap (count_by (is_edge (u, v))) (steps_are ts) ∙ closes ts s.up s.down s.steps at s.pairs u v
          ∙ ap (count_by (is_edge (v, u))) (sym (steps_are ts));
      once = λ u v l. subst (λ (es : List (ℕ × ℕ)). count_by (is_edge (u, v)) es ≤ 1) (sym (steps_are ts)) (once ts s.up s.down s.steps s.rise u v l);
    })
      where
        same_size : (xs : List Triple) → 0 < length xs → 0 < length (map corners xs)
        same_size [] l = absurd (omega (arith, l))
        same_size (x ∷ xs) l = omega arith

        of : {q : List ℕ} → (t : Triple) × In t ts × (q ≡ corners t) → IsTriangleFace at (Members ids) q
        of (t, m, e) = subst (IsTriangleFace at (Members ids)) (sym e) (face t m)
