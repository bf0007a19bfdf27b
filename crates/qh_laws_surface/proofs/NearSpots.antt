-- A spot in the plane of a polygon, moved slightly within the plane, off all lines through two corners.
use Rattle.qh_model.proofs.Common.{◌≡◌, ◌≢◌, ℕ, zero, suc, ◌<◌, arith, refl, sym, ap, subst, ◌∙◌, inl, inr, ⊎_elim, ◌⊎◌, List, [], ◌∷◌, ◌++◌, map, ints}
use Rattle.qh_model.proofs.Common.{flat_map, filter, ℤ, pos, negsuc, ◌+ℤ◌, ◌≤ℤ◌, ◌<ℤ◌, cross, In, Vector, origin, minus, dot, cross_product}
use Rattle.qh_model.specs.headline.Predicates.{left}
use Rattle.qh_model.proofs.{extremes.Directions.square-positive, lists.Ordered.Ordered, algebra.Ring.ring, algebra.Ring.Expr.add}
use Rattle.qh_model.proofs.{lists.Filters.in_filter, lists.Filters.of_filter, algebra.Order.mul-pos, algebra.Order.mul-nonneg, algebra.Order.positive_le}
use Rattle.qh_model.proofs.lists.{Images.in_map, Images.of_map, Joined.in_append, Joined.of_append, Joined.in_flat_map}
use Rattle.qh_model.proofs.Decisions.{Decided, test, told, holds, contrary, same_id, less_or_not, both, in_or_not}
use Rattle.qh_model.proofs.algebra.VectorIdentities.{vec, put, dotE, crossE, subE, leftE, dot-minus, left-flip}
use Rattle.qh_laws.proofs.Perturbed.{Rises, AllUp, AllOff, risen, perturbed}
use Rattle.qh_laws_surface.proofs.{ConvexLists.AllTurn, ConvexLists.Turn, ConvexLists.turned, ConvexLists.one_apart, SpotTurns.scale-positive}
use Rattle.qh_laws_surface.proofs.PlaneSpots.{triple, turn_form, height_form, spot_at, numbers, turn_at, height_at, level_at, turn_of}
use Rattle.qh_laws_surface.specs.contract.Covering.{Spot, spot_height, spot_turn}

-- ---- three corners of a list of which each three, in order, turn left
ordered_two : (R : ℕ → ℕ → Type 0) (q : List ℕ) → Ordered R q → (x y : ℕ) → In x q → In y q → x ≢ y → R x y ⊎ R y x
ordered_two R [] o x y m n ne = absurd m
ordered_two R (a ∷ l) o x y (inl e) (inl f) ne = absurd (ne (e ∙ sym f))
ordered_two R (a ∷ l) o x y (inl e) (inr n) ne = inl (subst (λ t. R t y) (sym e) (o.0 y n))
ordered_two R (a ∷ l) o x y (inr m) (inl f) ne = inr (subst (λ t. R t x) (sym f) (o.0 x m))
ordered_two R (a ∷ l) o x y (inr m) (inr n) ne = ordered_two R l o.1 x y m n ne

pub three_turn : (n : Vector) (at : ℕ → Vector) (q : List ℕ) → AllTurn n at q → (x y z : ℕ) → In x q → In y q → In z q → x ≢ y → y ≢ z → x ≢ z
    → Turn n at x y z ⊎ Turn n at x z y
three_turn n at [] t x y z m k l xy yz xz = absurd m
three_turn n at (a ∷ q) t x y z (inl e) (inl f) l xy yz xz = absurd (xy (e ∙ sym f))
three_turn n at (a ∷ q) t x y z (inl e) (inr k) (inl g) xy yz xz = absurd (xz (e ∙ sym g))
three_turn n at (a ∷ q) t x y z (inr m) (inl f) (inl g) xy yz xz = absurd (yz (f ∙ sym g))
three_turn n at (a ∷ q) t x y z (inl e) (inr k) (inr l) xy yz xz =
    subst (λ s. Turn n at s y z ⊎ Turn n at s z y) (sym e) (ordered_two (Turn n at a) q t.0 y z k l yz)
three_turn n at (a ∷ q) t x y z (inr m) (inl f) (inr l) xy yz xz =
    subst (λ s. Turn n at x s z ⊎ Turn n at x z s) (sym f)
    (⊎_elim (λ h. inr (turned n at a x z h)) (λ h. inl (turned n at z x a (turned n at a z x h))) (ordered_two (Turn n at a) q t.0 x z m l xz))
three_turn n at (a ∷ q) t x y z (inr m) (inr k) (inl g) xy yz xz =
    subst (λ s. Turn n at x y s ⊎ Turn n at x s y) (sym g)
    (⊎_elim (λ h. inl (turned n at a x y h)) (λ h. inr (turned n at y x a (turned n at a y x h))) (ordered_two (Turn n at a) q t.0 x y m k xy))
three_turn n at (a ∷ q) t x y z (inr m) (inr k) (inr l) xy yz xz = three_turn n at q t.1 x y z m k l xy yz xz

-- ---- lists of values chosen from pairs
module _ (P : (ℕ × ℕ) → Type 0) (dec : (e : ℕ × ℕ) → Decided (P e)) (g : (ℕ × ℕ) → Vector) where
  abbrev pub chosen : List (ℕ × ℕ) → List Vector
  chosen es = map g (filter (λ e. test (dec e)) es)

  pub in_chosen : (e : ℕ × ℕ) (es : List (ℕ × ℕ)) → In e es → P e → In (g e) (chosen es)
  in_chosen e es m p = in_map g (filter (λ e. test (dec e)) es) e (in_filter (λ e. test (dec e)) es e m (told (dec e) p))

  pub of_chosen : (v : Vector) (es : List (ℕ × ℕ)) → In v (chosen es) → (e : ℕ × ℕ) × In e es × P e × (v ≡ g e)
  of_chosen v es m =
      let r = of_map g (filter (λ e. test (dec e)) es) v m in
      let k = of_filter (λ e. test (dec e)) es r.0 r.1 in (r.0, k.0, holds (dec r.0) k.1, r.2)

-- all pairs of two members
abbrev pub pairs : List ℕ → List (ℕ × ℕ)
pairs q = flat_map (λ u. map (λ v. (u, v)) q) q

pub in_pairs : (u v : ℕ) (q : List ℕ) → In u q → In v q → In {X = ℕ × ℕ} (u, v) (pairs q)
in_pairs u v q mu mv = in_flat_map (λ x. map (λ y. (x, y)) q) q u (u, v) mu (in_map (λ y. (u, y)) q v mv)

pub natural : (x : ℤ) → pos 0 <ℤ x → (c : ℕ) × (0 < c) × (x ≡ pos c)
natural (pos zero) h = absurd (omega (arith, ints))
natural (pos (suc c)) h = (suc c, omega arith, refl)
natural (negsuc c) h = absurd (omega (arith, ints))

left_from : (n x u v l : Vector) → left n u v l ≡ dot (cross_product n (minus v u)) (minus x u) +ℤ dot (cross_product n (minus v u)) (minus l x)
unfolding left cross
left_from n x u v l =
    let M = crossE (vec 0) (subE (vec 3) (vec 2)) in
    ring (put n (put x (put u (put v (put l []))))) (leftE (vec 0) (vec 2) (vec 3) (vec 4))
    (add (dotE M (subE (vec 1) (vec 2))) (dotE M (subE (vec 4) (vec 1)))) refl

module _ (at : ℕ → Vector) (i j k : ℕ) (r : List ℕ) (t : AllTurn (cross (at i) (at j) (at k)) at (i ∷ j ∷ k ∷ r)) where
  abbrev F : List ℕ
  F = i ∷ j ∷ k ∷ r

  abbrev n : Vector
  n = cross (at i) (at j) (at k)

  first : pos 0 <ℤ left n (at i) (at j) (at k)
  first = t.0.0 k (inl refl)

  -- the turn about two corners is not 0 everywhere
  pub form_some : (u v : ℕ) → In u F → In v F → u ≢ v → turn_form at i j k u v ≢ origin
  unfolding turn_form
  form_some u v mu mv ne e = ⊎_elim (λ h. h (flat i (dot-minus m (at i) (at i) ∙ omega (arith, ints))))
      (λ o. ⊎_elim (λ h. h (flat j (ap (λ (x : Vector). x.y) e))) (λ h. h (flat k (ap (λ (x : Vector). x.z) e))) o)
      (one_apart n at (λ w. ¬ (left n (at u) (at v) (at w) ≡ pos 0)) i j k first u v (λ w o wu wv z.
      ⊎_elim (λ h. omega (arith, ints, h, z)) (λ h. omega (arith, ints, h, z, left-flip n (at u) (at v) (at w)))
      (three_turn n at F t u v w mu mv (in_append (i ∷ j ∷ k ∷ []) r w (inl o)) ne (λ f. wv (sym f)) (λ f. wu (sym f)))))
    where
      m : Vector
      m = cross_product n (minus (at v) (at u))

      flat : (l : ℕ) → dot m (minus (at l) (at i)) ≡ pos 0 → left n (at u) (at v) (at l) ≡ pos 0
      flat l h = left_from n (at i) (at u) (at v) (at l) ∙ omega (arith, ints, ap (λ (x : Vector). x.x) e, h)

  abbrev form : (ℕ × ℕ) → Vector
  form e = turn_form at i j k e.0 e.1

  abbrev IsLine : (ℕ × ℕ) → Type 0
  IsLine e = (e.0 ≢ e.1) × (In e.0 F × In e.1 F)

  line_or_not : (e : ℕ × ℕ) → Decided (IsLine e)
  line_or_not e = both (e.0 ≢ e.1) (In e.0 F × In e.1 F) (contrary (e.0 ≡ e.1) (same_id e.0 e.1))
      (both (In e.0 F) (In e.1 F) (in_or_not e.0 F) (in_or_not e.1 F))

  lines : List Vector
  lines = chosen IsLine line_or_not form (pairs F)

  module _ (s : Spot) (in_plane : spot_height at i j k s ≡ pos 0) where
    -- a turn that is not below 0 has a form that is not below 0
    pub form_level : (u v : ℕ) → pos 0 ≤ℤ spot_turn n at u v s → pos 0 ≤ℤ dot (turn_form at i j k u v) (numbers at i j k s)
    form_level u v h = let p = mul-nonneg (left n (at i) (at j) (at k)) (spot_turn n at u v s) (positive_le _ first) h in
        omega (arith, ints, p, turn_of at i j k s in_plane u v)

    abbrev IsLeft : (ℕ × ℕ) → Type 0
    IsLeft e = pos 0 <ℤ spot_turn n at e.0 e.1 s

    left_or_not : (e : ℕ × ℕ) → Decided (IsLeft e)
    left_or_not e = less_or_not (pos 0) (spot_turn n at e.0 e.1 s)

    ups : List Vector
    ups = chosen IsLeft left_or_not form (pairs F)

    -- a spot near it, off all lines, at which turns above 0 stay above 0, and more forms are above 0
    pub record Near (extra : List Vector) : Type 0 where
      pub spot : Spot
      pub level : spot_height at i j k spot ≡ pos 0
      pub off : (u v : ℕ) → In u F → In v F → u ≢ v → ¬ (spot_turn n at u v spot ≡ pos 0)
      pub keeps : (u v : ℕ) → In u F → In v F → pos 0 <ℤ spot_turn n at u v s → pos 0 <ℤ spot_turn n at u v spot
      pub more : (u v : ℕ) → In (turn_form at i j k u v) extra → pos 0 <ℤ spot_turn n at u v spot
      pub higher : (x y z : ℕ) → In (height_form at i j k x y z) extra → pos 0 <ℤ spot_height at x y z spot

    module _ (extra : List Vector) (v₀ : Vector) (rise : (p : Vector) → In p extra → Rises p (numbers at i j k s) v₀) where
      all_forms : List Vector
      all_forms = triple (pos 1) (pos 0) (pos 0) ∷ (ups ++ extra)

      rises : (p : Vector) → In p all_forms → Rises p (numbers at i j k s) v₀
      unfolding all_forms ups numbers
      rises p (inl e) = subst (λ q. Rises q (numbers at i j k s) v₀) (sym e) (inl first_number)
        where
          first_number : pos 0 <ℤ dot (triple (pos 1) (pos 0) (pos 0)) (numbers at i j k s)
          first_number = let m = mul-pos (left n (at i) (at j) (at k)) (pos s.scale) first (scale-positive s) in omega (arith, ints, m)
      rises p (inr m) = ⊎_elim (λ h. old (of_chosen IsLeft left_or_not form p (pairs F) h)) (λ h. rise p h)
          (of_append (chosen IsLeft left_or_not form (pairs F)) extra p m)
        where
          old : (e : ℕ × ℕ) × In e (pairs F) × IsLeft e × (p ≡ form e) → Rises p (numbers at i j k s) v₀
          old (e, m, h, q) = subst (λ x. Rises x (numbers at i j k s) v₀) (sym q) (inl (
              let up = mul-pos (left n (at i) (at j) (at k)) (spot_turn n at e.0 e.1 s) first h in
              omega (arith, ints, up, turn_of at i j k s in_plane e.0 e.1)))

      found : (y : Vector) × AllUp all_forms y × AllOff lines y
      unfolding lines
      found = let a = risen all_forms (numbers at i j k s) v₀ rises in perturbed lines all_forms a.0 some_lines a.1
        where
          some_lines : (l : Vector) → In l lines → ¬ (l ≡ origin)
          some_lines l m = by (of_chosen IsLine line_or_not form l (pairs F) m)
            where
              by : (e : ℕ × ℕ) × In e (pairs F) × IsLine e × (l ≡ form e) → ¬ (l ≡ origin)
              by (e, o, (ne, (mu, mv)), q) = λ z. form_some e.0 e.1 mu mv ne (sym q ∙ z)

      pub near : Near extra
      unfolding all_forms lines ups
      near = by found
        where
          by : (y : Vector) × AllUp all_forms y × AllOff lines y → Near extra
          by (y, up, off) = made (natural y.x (let h = up (triple (pos 1) (pos 0) (pos 0)) (inl refl) in omega (arith, ints, h)))
            where
              made : (c : ℕ) × (0 < c) × (y.x ≡ pos c) → Near extra
              made (c, h, e) = record {
                spot = spot_at at i j k c h y.y y.z;
                level = level_at at i j k c h y.y y.z;
                off = λ u v mu mv ne o. off (turn_form at i j k u v) (in_chosen IsLine line_or_not form (u, v) (pairs F) (in_pairs u v F mu mv) (ne, (mu, mv)))
                    (turn u v ∙ o);
                keeps = λ u v mu mv p. subst (λ x. pos 0 <ℤ x) (turn u v) (up (turn_form at i j k u v) (inr (
                    in_append ups extra (turn_form at i j k u v) (inl (in_chosen IsLeft left_or_not form (u, v) (pairs F) (in_pairs u v F mu mv) p)))));
                more = λ u v m. subst (λ x. pos 0 <ℤ x) (turn u v) (up (turn_form at i j k u v) (inr (in_append ups extra (turn_form at i j k u v) (inr m))));
                higher = λ u v w m. subst (λ x. pos 0 <ℤ x) (height u v w)
                    (up (height_form at i j k u v w) (inr (in_append ups extra (height_form at i j k u v w) (inr m))));
              }
                where
                  value : (p : Vector) → dot p y ≡ dot p (triple (pos c) y.y y.z)
                  value p = ap (λ x. dot p (triple x y.y y.z)) e

                  turn : (u v : ℕ) → dot (turn_form at i j k u v) y ≡ spot_turn n at u v (spot_at at i j k c h y.y y.z)
                  turn u v = value (turn_form at i j k u v) ∙ sym (turn_at at i j k c h y.y y.z u v)

                  height : (u v w : ℕ) → dot (height_form at i j k u v w) y ≡ spot_height at u v w (spot_at at i j k c h y.y y.z)
                  height u v w = value (height_form at i j k u v w) ∙ sym (height_at at i j k c h y.y y.z u v w)

    -- a spot near it, at which a form is above 0
    pub near_one : (f : Vector) → f ≢ origin → pos 0 ≤ℤ dot f (numbers at i j k s) → Near (f ∷ [])
    near_one f some h = near (f ∷ []) f rise
      where
        rise : (p : Vector) → In p (f ∷ []) → Rises p (numbers at i j k s) f
        rise p (inl e) = subst (λ q. Rises q (numbers at i j k s) f) (sym e) (inr (h, square-positive f some))
        rise p (inr m) = absurd m
