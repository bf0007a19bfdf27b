-- A spot that lies strictly inside a polygon lies in exactly one triangle of its fan, and any other spot in no triangle.
use Rattle.qh_model.proofs.Common.{◌≡◌, ◌≢◌, ℕ, arith, refl, sym, ap, ◌∙◌, inl, inr, ◌⊎◌, List, [], ◌∷◌, Bool, true, false, not, ◌&&◌, false_from_ne_true}
use Rattle.qh_model.proofs.Common.{cases_Bool, and_parts, ints, list_all, ℤ, pos, ◌+ℤ◌, ◌*ℤ◌, ◌≤ℤ◌, ◌<ℤ◌, steps_along, steps_round, FollowsAlong, In, Vector}
use Rattle.std.proofs.Math.Bool.{and-false}
use Rattle.qh_model.specs.headline.Predicates.{left}
use Rattle.qh_model.proofs.{closed_surfaces.Sums.sum_z, algebra.Order.mul-pos, algebra.Order.mul-nonneg, algebra.Order.cancel-pos, algebra.Order.positive_le}
use Rattle.qh_model.proofs.{lists.Ordered.Ordered, polygons.Neighbours.along_members}
use Rattle.qh_laws.proofs.{Crossings.number, Signs.above, Signs.is_above, Signs.above_is}
use Rattle.qh_laws_surface.proofs.{PlanePieces.all_pass, PlanePieces.pass_all, StepCounts.Has, StepCounts.way_follows}
use Rattle.qh_laws_surface.proofs.ConvexLists.{AllTurn, Turn, Next, next_members, next_ordered, side_left, turned, first_two, not_first, not_second, none_back}
use Rattle.qh_laws_surface.proofs.ConvexLists.{not_right}
use Rattle.qh_laws_surface.proofs.SpotTurns.{spot_turn-back, spot_turns-add, scale-positive, turns_mixed}
use Rattle.qh_laws_surface.proofs.SpotTriangles.{all_three, OffLines, tri, tri_parts, over, over-odd, not_both, one_of}
use Rattle.qh_laws_surface.specs.contract.Covering.{Spot, spot_turn}

module _ (n : Vector) (at : ℕ → Vector) (s : Spot) where
  abbrev T : ℕ → ℕ → ℤ
  T u v = spot_turn n at u v s

  abbrev L : ℕ → ℕ → ℕ → ℤ
  L x y z = left n (at x) (at y) (at z)

  -- true if the spot lies to the left of the line from u to v
  abbrev p : ℕ → ℕ → Bool
  p u v = above (T u v)

  abbrev pub Off : (ℕ → Type 0) → Type 0
  Off X = OffLines n at s X

  -- ---- fans
  -- the number of triangles of a and two neighbours each in which the spot lies
  abbrev pub covered_along : ℕ → ℕ → List ℕ → ℤ
  covered_along a u [] = pos 0
  covered_along a u (w ∷ r) = tri n at s a u w +ℤ covered_along a w r

  abbrev pub covered : List ℕ → ℤ
  covered [] = pos 0
  covered (a ∷ []) = pos 0
  covered (a ∷ u ∷ r) = covered_along a u r

  -- this number is the sum of `over` along the steps round the polygon
  module _ (X : ℕ → Type 0) (off : Off X) (c : ℕ) (hc : X c) where
    along_over : (a u : ℕ) (r : List ℕ) → X a → ((x : ℕ) → In x (u ∷ r) → X x) → Ordered (Turn n at a) (u ∷ r)
        → sum_z (over n at s c) (steps_along u r a) +ℤ over n at s c (a, u) ≡ covered_along a u r
    along_over a u [] ha h o = omega (arith, ints, over-odd n at s c (a, u))
    along_over a u (w ∷ r) ha h o = omega (
      arith,
      ints,
      along_over a w r ha (λ x m. h x (inr m)) o.1,
      tri_parts n at s X off c a u w hc ha (h u (inl refl)) (h w (inr (inl refl))) (o.0 w (inl refl)),
      over-odd n at s c (a, w),
    )

    pub round_over : (q : List ℕ) → ((x : ℕ) → In x q → X x) → AllTurn n at q → sum_z (over n at s c) (steps_round q) ≡ covered q
    round_over [] h t = refl
    round_over (a ∷ []) h t = omega (arith, ints, over-odd n at s c (a, a))
    round_over (a ∷ u ∷ r) h t = let k = along_over a u r (h a (inl refl)) (λ x m. h x (inr m)) t.0 in omega (arith, ints, k)

  -- true if the spot lies to the left of each step
  abbrev pub all_left : List (ℕ × ℕ) → Bool
  all_left es = list_all (λ e. p e.0 e.1) es

  left_of : (es : List (ℕ × ℕ)) → all_left es ≡ true → (x y : ℕ) → Has x y es → p x y ≡ true
  left_of es h x y m = all_pass (λ e. p e.0 e.1) es h (x, y) m

  -- ---- a polygon a, u, w, r
  module _ (X : ℕ → Type 0) (off : Off X) (a u w : ℕ) (r : List ℕ) (in_X : (x : ℕ) → In x (a ∷ u ∷ w ∷ r) → X x)
      (t : AllTurn n at (a ∷ u ∷ w ∷ r)) where
    auw : pos 0 <ℤ L a u w
    auw = t.0.0 w (inl refl)

    -- corners behind u differ from a, and from u
    not_a : (x : ℕ) → In x (w ∷ r) → x ≢ a
    not_a x m = not_first n at a u x (t.0.0 x m)

    not_u : (x : ℕ) → In x (w ∷ r) → x ≢ u
    not_u x m = not_second n at a u x (t.0.0 x m)

    -- the spot lies in no reversed triangle
    not_negative : all_three (p u a) (p w u) (p a w) ≡ false
    not_negative = false_from_ne_true (all_three (p u a) (p w u) (p a w)) (λ e.
        let one = and_parts (p u a) (p w u && p a w) e in
        let two = and_parts (p w u) (p a w) one.1 in
        let area = mul-pos (pos s.scale) (L a u w) (scale-positive s) auw in
        let ua = above_is (T u a) one.0 in let wu = above_is (T w u) two.0 in let aw = above_is (T a w) two.1 in
        omega (arith, ints, area, ua, wu, aw, spot_turns-add n at a u w s, spot_turn-back n at a u s, spot_turn-back n at u w s, spot_turn-back n at w a s))

    -- a positive product of areas
    weigh : (l x f g h i j k : ℤ) → pos 0 <ℤ l → l *ℤ x ≡ f *ℤ g +ℤ (h *ℤ i +ℤ j *ℤ k) → pos 0 ≤ℤ (f *ℤ g) → pos 0 ≤ℤ (h *ℤ i) → pos 0 <ℤ (j *ℤ k) → pos 0 <ℤ x
    weigh l x f g h i j k hl e a b c = cancel-pos l x hl (omega (arith, ints, e, a, b, c))

    -- ---- a spot in the first triangle lies inside the polygon
    module _ (h₁ : p a u ≡ true) (h₂ : p u w ≡ true) (h₃ : p w a ≡ true) where
      to_right : (x y : ℕ) → FollowsAlong x y w r a → (z : ℕ) → In z (a ∷ u ∷ w ∷ r) → pos 0 ≤ℤ L x y z
      to_right x y f z m = not_right n at (a ∷ u ∷ w ∷ r) t x y (inr (inr f)) z m

      u_left : (x y : ℕ) → FollowsAlong x y w r a → pos 0 <ℤ L x y u
      u_left x y f = side_left n at (a ∷ u ∷ w ∷ r) t x y (inr (inr f)) u (inr (inl refl)) (λ e. not_u x m.0 (sym e)) (by m.1)
        where
          m : In x (w ∷ r) × ((y ≡ a) ⊎ In y r)
          m = along_members x y w r a f

          by : (y ≡ a) ⊎ In y r → u ≢ y
          by (inl e) g = first_two n at a u w auw (sym e ∙ sym g)
          by (inr i) g = not_u y (inr i) (sym g)

      inner_left : (x y : ℕ) → FollowsAlong x y w r a → p x y ≡ true
      inner_left x y f = is_above (T x y) (weigh (L a u w) (T x y) (T u w) (L x y a) (T a u) (L x y w) (T w a) (L x y u) auw
          (omega (arith, ints, turns_mixed n at s a u w x y))
          (mul-nonneg (T u w) (L x y a) (positive_le _ (above_is (T u w) h₂)) (to_right x y f a (inl refl)))
          (mul-nonneg (T a u) (L x y w) (positive_le _ (above_is (T a u) h₁)) (to_right x y f w (inr (inr (inl refl)))))
          (mul-pos (T w a) (L x y u) (above_is (T w a) h₃) (u_left x y f)))

      first_inside : all_left (steps_along w r a) ≡ true
      first_inside = pass_all (λ e. p e.0 e.1) (steps_along w r a) (λ e m. inner_left e.0 e.1 (way_follows e.0 e.1 w r a m))

    -- ---- a spot inside the rest lies in a triangle of the rest
    record Found : Type 0 where
      v : ℕ
      x : ℕ
      next : Next v x (w ∷ r)
      av : p a v ≡ true
      vx : p v x ≡ true
      xa : p x a ≡ true

    find : (v : ℕ) (l : List ℕ) → p a v ≡ true → all_left (steps_along v l a) ≡ true → ((z : ℕ) → In z (v ∷ l) → In z (w ∷ r))
        → ((y z : ℕ) → Next y z (v ∷ l) → Next y z (w ∷ r)) → Found
    find v [] h k m g = let e = not_both n at s a v h in let f = and_parts (p v a) true k in absurd (cc)
    find v (y ∷ l) h k m g =
        let parts = and_parts (p v y) (all_left (steps_along y l a)) k in
        by parts.0 (λ e. find y l e parts.1 (λ z i. m z (inr i)) (λ b c i. g b c (inr i))) (cases_Bool (p y a))
      where
        by : p v y ≡ true → (p a y ≡ true → Found) → (p y a ≡ true) ⊎ (p y a ≡ false) → Found
        by vy more (inl e) = record { v = v; x = y; next = g v y (inl (refl, refl)); av = h; vx = vy; xa = e }
        by vy more (inr e) =
            more (one_of n at s X off y a (in_X y (inr (inr (m y (inr (inl refl)))))) (in_X a (inl refl)) (not_a y (m y (inr (inl refl)))) ∙ ap not e)

    -- so the spot lies to the left of both sides of the first triangle
    module _ (h : p a w ≡ true) (k : all_left (steps_along w r a) ≡ true) where
      f : Found
      f = find w r h k (λ z i. i) (λ y z i. i)

      fv : In f.v (w ∷ r)
      fv = (next_members f.v f.x (w ∷ r) f.next).0

      fx : In f.x (w ∷ r)
      fx = (next_members f.v f.x (w ∷ r) f.next).1

      area : pos 0 <ℤ L a f.v f.x
      area = next_ordered (Turn n at a) f.v f.x (w ∷ r) f.next t.0.1

      first_left : p a u ≡ true
      first_left = is_above (T a u) (weigh (L a f.v f.x) (T a u) (T f.v f.x) (L a u a) (T f.x a) (L a u f.v) (T a f.v) (L a u f.x) area
          (turns_mixed n at s a f.v f.x a u)
          (mul-nonneg (T f.v f.x) (L a u a) (positive_le _ (above_is (T f.v f.x) f.vx)) (omega (arith, ints, none_back n at a u)))
          (mul-nonneg (T f.x a) (L a u f.v) (positive_le _ (above_is (T f.x a) f.xa)) (positive_le _ (t.0.0 f.v fv)))
          (mul-pos (T a f.v) (L a u f.x) (above_is (T a f.v) f.av) (t.0.0 f.x fx)))

      next_left : p u w ≡ true
      next_left = is_above (T u w) (weigh (L a f.v f.x) (T u w) (T f.x a) (L u w f.v) (T a f.v) (L u w f.x) (T f.v f.x) (L u w a) area
          (omega (arith, ints, turns_mixed n at s a f.v f.x u w))
          (mul-nonneg (T f.x a) (L u w f.v) (positive_le _ (above_is (T f.x a) f.xa)) (right_of f.v fv))
          (mul-nonneg (T a f.v) (L u w f.x) (positive_le _ (above_is (T a f.v) f.av)) (right_of f.x fx))
          (mul-pos (T f.v f.x) (L u w a) (above_is (T f.v f.x) f.vx) (turned n at a u w auw)))
        where
          right_of : (z : ℕ) → In z (w ∷ r) → pos 0 ≤ℤ L u w z
          right_of z m = not_right n at (a ∷ u ∷ w ∷ r) t u w (inr (inl (refl, refl))) z (inr (inr m))

    -- so the first triangle adds one if the spot lies in it, and otherwise the rest has the same number as the whole
    first_triangle : tri n at s a u w +ℤ pos (number (p a w && all_left (steps_along w r a)))
        ≡ pos (number (p a u && (p u w && all_left (steps_along w r a))))
    first_triangle = by (cases_Bool (p a w))
      where
        rest : Bool
        rest = all_left (steps_along w r a)

        by : (p a w ≡ true) ⊎ (p a w ≡ false) → tri n at s a u w +ℤ pos (number (p a w && rest)) ≡ pos (number (p a u && (p u w && rest)))
        by (inl e) = by_rest (cases_Bool rest)
          where
            none : tri n at s a u w ≡ pos 0
            none = rw (not_negative, not_both n at s a w e, and-false (p u w), and-false (p a u)) refl

            by_rest : (rest ≡ true) ⊎ (rest ≡ false) → tri n at s a u w +ℤ pos (number (p a w && rest)) ≡ pos (number (p a u && (p u w && rest)))
            by_rest (inl g) = rw (none, e, g, first_left e g, next_left e g) refl
            by_rest (inr g) = rw (none, g, and-false (p a w), and-false (p u w), and-false (p a u)) refl
        by (inr e) = by_sides (cases_Bool (p a u)) (cases_Bool (p u w))
          where
            wa : p w a ≡ true
            wa = one_of n at s X off a w (in_X a (inl refl)) (in_X w (inr (inr (inl refl)))) (λ f. not_a w (inl refl) (sym f)) ∙ ap not e

            alone : tri n at s a u w ≡ pos (number (p a u && (p u w && true)))
            alone = rw (not_negative, wa) (omega (arith, ints))

            by_sides : (p a u ≡ true) ⊎ (p a u ≡ false) → (p u w ≡ true) ⊎ (p u w ≡ false)
                → tri n at s a u w +ℤ pos (number (p a w && rest)) ≡ pos (number (p a u && (p u w && rest)))
            by_sides (inl g) (inl h) = rw (alone, e, g, h, first_inside g h wa) refl
            by_sides (inl g) (inr h) = rw (alone, e, g, h) refl
            by_sides (inr g) q = rw (alone, e, g) refl

  -- a spot lies in one triangle of the fan if it lies inside the polygon, and otherwise in none
  pub covers_along : (X : ℕ → Type 0) → Off X → (a u : ℕ) (r : List ℕ) → ((x : ℕ) → In x (a ∷ u ∷ r) → X x) → AllTurn n at (a ∷ u ∷ r)
      → covered_along a u r ≡ pos (number (p a u && all_left (steps_along u r a)))
  covers_along X off a u [] h t = by (cases_Bool (p a u))
    where
      by : (p a u ≡ true) ⊎ (p a u ≡ false) → pos 0 ≡ pos (number (p a u && (p u a && true)))
      by (inl e) = rw (e, not_both n at s a u e) refl
      by (inr e) = rw e refl
  covers_along X off a u (w ∷ r) h t =
      ap (λ z. tri n at s a u w +ℤ z) (covers_along X off a w r (λ x m. h x (behind x m)) (t.0.1, t.1.1)) ∙ first_triangle X off a u w r h t
    where
      behind : (x : ℕ) → In x (a ∷ w ∷ r) → In x (a ∷ u ∷ w ∷ r)
      behind x (inl e) = inl e
      behind x (inr m) = inr (inr m)

  -- a triangle of a polygon inside which the spot lies
  pub record InTriangle (q : List ℕ) : Type 0 where
    pub a : ℕ
    pub v : ℕ
    pub w : ℕ
    pub has_a : In a q
    pub has_v : In v q
    pub has_w : In w q
    pub turns : Turn n at a v w
    pub av : pos 0 <ℤ T a v
    pub vw : pos 0 <ℤ T v w
    pub wa : pos 0 <ℤ T w a

  pub in_triangle : (X : ℕ → Type 0) → Off X → (a u w : ℕ) (r : List ℕ) → ((x : ℕ) → In x (a ∷ u ∷ w ∷ r) → X x) → AllTurn n at (a ∷ u ∷ w ∷ r)
      → all_left (steps_round (a ∷ u ∷ w ∷ r)) ≡ true → InTriangle (a ∷ u ∷ w ∷ r)
  in_triangle X off a u w r h t e = by (cases_Bool (p w a))
    where
      one : (p a u ≡ true) × ((p u w && all_left (steps_along w r a)) ≡ true)
      one = and_parts (p a u) (p u w && all_left (steps_along w r a)) e

      two : (p u w ≡ true) × (all_left (steps_along w r a) ≡ true)
      two = and_parts (p u w) (all_left (steps_along w r a)) one.1

      by : (p w a ≡ true) ⊎ (p w a ≡ false) → InTriangle (a ∷ u ∷ w ∷ r)
      by (inl g) = record {
        a = a;
        v = u;
        w = w;
        has_a = inl refl;
        has_v = inr (inl refl);
        has_w = inr (inr (inl refl));
        turns = t.0.0 w (inl refl);
        av = above_is (T a u) one.0;
        vw = above_is (T u w) two.0;
        wa = above_is (T w a) g;
      }
      by (inr g) =
          let aw = one_of n at s X off w a (h w (inr (inr (inl refl)))) (h a (inl refl)) (not_a X off a u w r h t w (inl refl)) ∙ ap not g in
          let f = find X off a u w r h t w r aw two.1 (λ z i. i) (λ y z i. i) in
          let m = next_members f.v f.x (w ∷ r) f.next in
          record {
            a = a;
            v = f.v;
            w = f.x;
            has_a = inl refl;
            has_v = inr (inr m.0);
            has_w = inr (inr m.1);
            turns = next_ordered (Turn n at a) f.v f.x (w ∷ r) f.next t.0.1;
            av = above_is (T a f.v) f.av;
            vw = above_is (T f.v f.x) f.vx;
            wa = above_is (T f.x a) f.xa;
          }
