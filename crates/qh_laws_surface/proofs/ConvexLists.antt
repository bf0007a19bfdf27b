-- Lists of corners of which each three, in order, turn left. Polygons are lists of this kind, beginning at any of their corners, and so are lists that go round
-- some of their corners.
use Rattle.qh_model.proofs.Common.{◌≡◌, ℕ, arith, refl, [], ◌≢◌, ◌+◌, sym, ap, subst, ◌∙◌, inl, inr, ⊎_elim, ◌⊎◌, List, ◌∷◌, ◌++◌, take, drop, append_assoc}
use Rattle.qh_model.proofs.Common.{append-nil, ints, take-append-drop, drop_more, pos, ◌+ℤ◌, ◌*ℤ◌, ◌≤ℤ◌, ◌<ℤ◌, ℕ_discrete, cross, In, Once, Vector, minus}
use Rattle.qh_model.proofs.Common.{FollowsAlong, Follows, TurnsLeft, IsPolygon}
use Rattle.qh_model.specs.headline.Predicates.{left}
use Rattle.qh_model.proofs.{Decisions.Decided, Decisions.same_id, algebra.Ring.ring, algebra.Ring.Expr, algebra.Ring.Expr.add, algebra.Ring.Expr.mul}
use Rattle.qh_model.proofs.{lists.Joined.in_append, lists.Joined.of_append, polygons.Cycles.AlongPath, polygons.Cycles.AroundCycle, polygons.Cycles.round_told}
use Rattle.qh_model.proofs.{lists.Ordered.Ordered, algebra.Order.mul-pos, algebra.Order.mul-nonneg, algebra.Order.cancel-pos, algebra.Order.positive_le}
use Rattle.qh_model.proofs.algebra.VectorIdentities.{vec, put, dotE, crossE, left-turn, left-flip, in_line-left, in_line-last}
use Rattle.qh_check.specs.contract.Pieces.{IsMetAlong, IsMetRound}

-- the turn of two differences
abbrev turnE : ℕ → ℕ → Expr
turnE i j = dotE (crossE (vec i) (vec j)) (vec 0)

-- one of the products of turns about a is the sum of the two others
turn_products : (n a b u v w : Vector) → left n a b v *ℤ left n a u w ≡ left n a b u *ℤ left n a v w +ℤ left n a b w *ℤ left n a u v
unfolding left cross
turn_products n a b u v w =
    ring (put n (put (minus b a) (put (minus u a) (put (minus v a) (put (minus w a) [])))))
    (mul (turnE 1 3) (turnE 2 4)) (add (mul (turnE 1 2) (turnE 3 4)) (mul (turnE 1 4) (turnE 2 3))) refl

-- u before v before w, all to the left of the line from a to b, or u on it
turn_on : (n a b u v w : Vector) → pos 0 ≤ℤ left n a b u → pos 0 <ℤ left n a b v → pos 0 <ℤ left n a b w
    → pos 0 <ℤ left n a u v → pos 0 <ℤ left n a v w → pos 0 <ℤ left n a u w
turn_on n a b u v w hu hv hw uv vw =
    cancel-pos (left n a b v) (left n a u w) hv (omega (
      arith,
      ints,
      turn_products n a b u v w,
      mul-nonneg (left n a b u) (left n a v w) hu (positive_le _ vw),
      mul-pos (left n a b w) (left n a u v) hw uv,
    ))

-- ---- lists that are met along others
-- a fact about all members of a list holds for those of a list that is met along it
along_all : (P : ℕ → Type 0) (p q : List ℕ) → IsMetAlong p q → ((x : ℕ) → In x q → P x) → (x : ℕ) → In x p → P x
along_all P [] q h a x m = absurd m
along_all P (u ∷ p) [] h a x m = absurd h
along_all P (u ∷ p) (v ∷ q) (inl h) a x (inl e) = subst P (sym (e ∙ h.0)) (a v (inl refl))
along_all P (u ∷ p) (v ∷ q) (inl h) a x (inr m) = along_all P p q h.1 (λ y o. a y (inr o)) x m
along_all P (u ∷ p) (v ∷ q) (inr h) a x m = along_all P (u ∷ p) q h (λ y o. a y (inr o)) x m

-- a list that is met along an ordered list is ordered
along_ordered : (R : ℕ → ℕ → Type 0) (p q : List ℕ) → IsMetAlong p q → Ordered R q → Ordered R p
along_ordered R [] q h o = tt
along_ordered R (u ∷ p) [] h o = absurd h
along_ordered R (u ∷ p) (v ∷ q) (inl h) o =
    ((λ y m. subst (λ t. R t y) (sym h.0) (along_all (R v) p q h.1 o.0 y m)), along_ordered R p q h.1 o.1)
along_ordered R (u ∷ p) (v ∷ q) (inr h) o = along_ordered R (u ∷ p) q h o.1

-- an ordered list with one more member at its end
ordered_last : (R : ℕ → ℕ → Type 0) (x : ℕ) (ys : List ℕ) → ((z : ℕ) → In z ys → R z x) → Ordered R ys → Ordered R (ys ++ x ∷ [])
ordered_last R x [] h o = ((λ z m. absurd m), tt)
ordered_last R x (y ∷ ys) h o = (
  (λ z m. ⊎_elim (λ i. o.0 z i) (λ k. ⊎_elim (λ e. subst (R y) (sym e) (h y (inl refl))) (λ n. absurd n) k) (of_append ys (x ∷ []) z m)),
  ordered_last R x ys (λ z m. h z (inr m)) o.1,
)

-- y comes next after x
abbrev pub Next : ℕ → ℕ → List ℕ → Type 0
Next x y [] = ⊥
Next x y (t ∷ []) = ⊥
Next x y (t ∷ w ∷ r) = ((t ≡ x) × (w ≡ y)) ⊎ Next x y (w ∷ r)

-- x is the last member
abbrev Last : ℕ → List ℕ → Type 0
Last x [] = ⊥
Last x (t ∷ []) = t ≡ x
Last x (t ∷ w ∷ r) = Last x (w ∷ r)

pub next_members : (x y : ℕ) (q : List ℕ) → Next x y q → In x q × In y q
next_members x y [] h = absurd h
next_members x y (t ∷ []) h = absurd h
next_members x y (t ∷ w ∷ r) (inl h) = (inl (sym h.0), inr (inl (sym h.1)))
next_members x y (t ∷ w ∷ r) (inr h) = let m = next_members x y (w ∷ r) h in (inr m.0, inr m.1)

pub next_ordered : (R : ℕ → ℕ → Type 0) (x y : ℕ) (q : List ℕ) → Next x y q → Ordered R q → R x y
next_ordered R x y [] h o = absurd h
next_ordered R x y (t ∷ []) h o = absurd h
next_ordered R x y (t ∷ w ∷ r) (inl h) o = subst (λ a. R a y) h.0 (subst (λ b. R t b) h.1 (o.0 w (inl refl)))
next_ordered R x y (t ∷ w ∷ r) (inr h) o = next_ordered R x y (w ∷ r) h o.1

last_member : (x : ℕ) (q : List ℕ) → Last x q → In x q
last_member x [] h = absurd h
last_member x (t ∷ []) h = inl (sym h)
last_member x (t ∷ w ∷ r) h = inr (last_member x (w ∷ r) h)

last_ordered : (R : ℕ → ℕ → Type 0) (x w : ℕ) (q : List ℕ) → Last x q → In w q → w ≢ x → Ordered R q → R w x
last_ordered R x w [] h m n o = absurd h
last_ordered R x w (t ∷ []) h (inl e) n o = absurd (n (e ∙ h))
last_ordered R x w (t ∷ []) h (inr m) n o = absurd m
last_ordered R x w (t ∷ v ∷ r) h (inl e) n o = subst (λ a. R a x) (sym e) (o.0 x (last_member x (v ∷ r) h))
last_ordered R x w (t ∷ v ∷ r) h (inr m) n o = last_ordered R x w (v ∷ r) h m n o.1

-- if a step goes from x to y, y comes next after x, or x is the last member and y the end
next_or_last : (x y t : ℕ) (r : List ℕ) (e : ℕ) → FollowsAlong x y t r e → Next x y (t ∷ r) ⊎ (Last x (t ∷ r) × (e ≡ y))
next_or_last x y t [] e h = inr h
next_or_last x y t (w ∷ r) e (inl h) = inl (inl h)
next_or_last x y t (w ∷ r) e (inr h) = ⊎_elim (λ k. inl (inr k)) (λ k. inr k) (next_or_last x y w r e h)

-- ---- turns
module _ (n : Vector) (at : ℕ → Vector) where
  -- x, y and z turn left
  abbrev pub Turn : ℕ → ℕ → ℕ → Type 0
  Turn x y z = pos 0 <ℤ left n (at x) (at y) (at z)

  -- each three members, in order, turn left
  abbrev pub AllTurn : List ℕ → Type 0
  AllTurn [] = Unit {0}
  AllTurn (x ∷ xs) = Ordered (Turn x) xs × AllTurn xs

  -- three corners turn left, whichever of them is first
  pub turned : (x y z : ℕ) → Turn x y z → Turn y z x
  turned x y z h = subst (λ v. pos 0 <ℤ v) (left-turn n (at x) (at y) (at z)) h

  -- the corners of a turn are different
  pub none_twice : (x y : ℕ) → left n (at x) (at y) (at y) ≡ pos 0
  none_twice x y = in_line-left n (at x) (at y) (at y) (in_line-last (at x) (at y))

  pub none_back : (x y : ℕ) → left n (at x) (at y) (at x) ≡ pos 0
  none_back x y = left-turn n (at x) (at y) (at x) ∙ none_twice y x

  pub not_second : (x y z : ℕ) → Turn x y z → z ≢ y
  not_second x y z h e = omega (arith, ints, subst (Turn x y) e h, none_twice x y)

  pub not_first : (x y z : ℕ) → Turn x y z → z ≢ x
  not_first x y z h e = omega (arith, ints, subst (Turn x y) e h, none_back x y)

  pub first_two : (x y z : ℕ) → Turn x y z → x ≢ y
  first_two x y z h e = not_first y z x (turned x y z h) e

  pub no_back : (x y z : ℕ) → Turn x y z → ¬ (Turn x z y)
  no_back x y z h k = omega (arith, ints, left-flip n (at x) (at y) (at z))

  -- of three corners that turn left, one is neither of two ids, so a fact about every corner that is neither holds for one of them
  pub one_apart : (P : ℕ → Type 0) (x y z : ℕ) → Turn x y z → (u v : ℕ) → ((w : ℕ) → In w (x ∷ y ∷ z ∷ []) → w ≢ u → w ≢ v → P w) → P x ⊎ (P y ⊎ P z)
  one_apart P x y z t u v h = by (ℕ_discrete x u) (ℕ_discrete x v) (ℕ_discrete y u) (ℕ_discrete y v)
    where
      last : z ≢ u → z ≢ v → P x ⊎ (P y ⊎ P z)
      last a b = inr (inr (h z (inr (inr (inl refl))) a b))

      by : Dec (x ≡ u) → Dec (x ≡ v) → Dec (y ≡ u) → Dec (y ≡ v) → P x ⊎ (P y ⊎ P z)
      by (no a) (no b) c e = inl (h x (inl refl) a b)
      by a b (no c) (no e) = inr (inl (h y (inr (inl refl)) c e))
      by (yes a) b (yes c) e = absurd (first_two x y z t (a ∙ sym c))
      by a (yes b) c (yes e) = absurd (first_two x y z t (b ∙ sym e))
      by (yes a) (no b) (no c) (yes e) = last (λ f. not_first x y z t (f ∙ sym a)) (λ f. not_second x y z t (f ∙ sym e))
      by (no a) (yes b) (yes c) (no e) = last (λ f. not_second x y z t (f ∙ sym c)) (λ f. not_first x y z t (f ∙ sym b))

  pub third_corner : (i j k : ℕ) (r : List ℕ) → AllTurn (i ∷ j ∷ k ∷ r) → (u v : ℕ) → (w : ℕ) × In w (i ∷ j ∷ k ∷ r) × (w ≢ u) × (w ≢ v)
  third_corner i j k r t u v = ⊎_elim (λ p. (i, p.0, p.1, p.2)) (λ o. ⊎_elim (λ p. (j, p.0, p.1, p.2)) (λ p. (k, p.0, p.1, p.2)) o)
      (one_apart (λ w. In w (i ∷ j ∷ k ∷ r) × (w ≢ u) × (w ≢ v)) i j k (t.0.0 k (inl refl)) u v (λ w m a b. (in_append (i ∷ j ∷ k ∷ []) r w (inl m), a, b)))

  -- a step of a list: two of its members with a third to the left
  pub record IsTurn (q : List ℕ) (u v : ℕ) : Type 0 where
    pub has_u : In u q
    pub has_v : In v q
    pub w : ℕ
    pub has_w : In w q
    pub turns : Turn u v w

  -- a list that is met along a list with left turns has left turns
  along_turn : (p q : List ℕ) → IsMetAlong p q → AllTurn q → AllTurn p
  along_turn [] q h t = tt
  along_turn (u ∷ p) [] h t = absurd h
  along_turn (u ∷ p) (v ∷ q) (inl h) t =
      (subst (λ x. Ordered (Turn x) p) (sym h.0) (along_ordered (Turn v) p q h.1 t.0), along_turn p q h.1 t.1)
  along_turn (u ∷ p) (v ∷ q) (inr h) t = along_turn (u ∷ p) q h t.1

  -- P holds for each two consecutive members
  abbrev Along : (ℕ → ℕ → Type 0) → ℕ → List ℕ → Type 0
  Along P u [] = Unit {0}
  Along P u (v ∷ r) = P u v × Along P v r

  -- round x, to the left of the line from x to b, each comes before all later ones
  fan_ordered : (x b u : ℕ) (l : List ℕ) → pos 0 ≤ℤ left n (at x) (at b) (at u) → ((z : ℕ) → In z l → Turn x b z)
      → Along (Turn x) u l → Ordered (Turn x) (u ∷ l)
  fan_ordered x b u [] hu hl a = ((λ y m. absurd m), tt)
  fan_ordered x b u (v ∷ l) hu hl a =
      let r = fan_ordered x b v l (let h = hl v (inl refl) in omega (arith, ints, h)) (λ z m. hl z (inr m)) a.1 in (
        (λ z. elim [
          | inl e ↦ subst (λ t. Turn x u t) (sym e) a.0
          | inr m ↦ turn_on n (at x) (at b) (at u) (at v) (at z) hu (hl v (inl refl)) (hl z (inr m)) a.0 (r.0 z m)
        ]),
        r,
      )

  -- the rest of a polygon, beginning at any of its corners
  module _ (q : List ℕ) where
    seen : (x v : ℕ) (l : List ℕ) (e : ℕ) → ¬ (In x (v ∷ l)) → In x q → AlongPath (TurnsLeft at n q) v l e → Along (Turn x) v l
    seen x v [] e out m p = tt
    seen x v (w ∷ l) e out m p =
        (turned w x v (turned v w x (p.0 x m (λ i. out (inl i)) (λ i. out (inr (inl i))))), seen x w l e (λ i. out (inr i)) m p.1)

    rest_turns : (x : ℕ) (l : List ℕ) (e : ℕ) → AlongPath (TurnsLeft at n q) x l e → Once (x ∷ l) → ((y : ℕ) → In y (x ∷ l) → In y q) → AllTurn (x ∷ l)
    rest_turns x [] e p o m = (tt, tt)
    rest_turns x (v ∷ l) e p o m = (
      fan_ordered x v v l (omega (arith, ints, in_line-left n (at x) (at v) (at v) (in_line-last (at x) (at v))))
          (λ z i. p.0 z (m z (inr (inr i))) (λ f. o.0 (inr (subst (λ t. In t l) f i))) (λ f. o.1.0 (subst (λ t. In t l) f i)))
          (seen x v l e o.0 (m x (inl refl)) p.1),
      rest_turns v l e p.1 o.1 (λ y i. m y (inr i)),
    )

  -- a polygon is a list of this kind
  round_turns : (q : List ℕ) → Once q → AroundCycle (TurnsLeft at n q) q → AllTurn q
  round_turns [] o c = tt
  round_turns (x ∷ l) o c = rest_turns (x ∷ l) x l x c o (λ y i. i)

  pub polygon_turns : {X : ℕ → Type 0} {q : List ℕ} → IsPolygon at X n q → AllTurn q
  polygon_turns {X} {q} p = round_turns q p.once (round_told (TurnsLeft at n q) q p.round)

  -- the list that begins at another corner is of this kind
  first_last : (x : ℕ) (xs : List ℕ) → Ordered (Turn x) xs → AllTurn xs → AllTurn (xs ++ x ∷ [])
  first_last x [] o t = (tt, tt)
  first_last x (y ∷ ys) o t =
      (ordered_last (Turn y) x ys (λ z m. turned x y z (o.0 z m)) t.0, first_last x ys o.1 t.1)

  rotated : (xs ys : List ℕ) → AllTurn (xs ++ ys) → AllTurn (ys ++ xs)
  rotated [] ys t = subst AllTurn (sym (append-nil ys)) t
  rotated (x ∷ xs) ys t = subst AllTurn (append_assoc ys (x ∷ []) xs)
      (rotated xs (ys ++ x ∷ []) (subst AllTurn (append_assoc xs ys (x ∷ [])) (first_last x (xs ++ ys) t.0 t.1)))

  -- a list that goes round some corners of a polygon is of this kind
  pub met_turns : {X : ℕ → Type 0} {face : List ℕ} → IsPolygon at X n face → (q : List ℕ) → IsMetRound q face → AllTurn q
  met_turns p [] h = absurd h
  met_turns {X} {face} p (u ∷ l) (k, (in_face, here, along)) =
      let turns = rotated (take k face) (drop k face) (subst AllTurn (sym (take-append-drop k face)) (polygon_turns p)) in
      let first : drop k face ≡ u ∷ drop (k + 1) face = drop_more face k 0 in_face ∙ ap (λ t. t ∷ drop (k + 1) face) here in
      let t : AllTurn (u ∷ (drop (k + 1) face ++ take k face)) = subst (λ f. AllTurn (f ++ take k face)) first turns in
      (along_ordered (Turn u) l (drop (k + 1) face ++ take k face) along t.0, along_turn l (drop (k + 1) face ++ take k face) along t.1)

  -- ---- sides
  next_left : (x y w : ℕ) (q : List ℕ) → AllTurn q → Next x y q → In w q → w ≢ x → w ≢ y → Turn x y w
  next_left x y w [] t h m nx ny = absurd h
  next_left x y w (a ∷ []) t h m nx ny = absurd h
  next_left x y w (a ∷ b ∷ r) t (inl h) (inl e) nx ny = absurd (nx (e ∙ h.0))
  next_left x y w (a ∷ b ∷ r) t (inl h) (inr (inl e)) nx ny = absurd (ny (e ∙ h.1))
  next_left x y w (a ∷ b ∷ r) t (inl h) (inr (inr m)) nx ny =
      subst (λ s. Turn s y w) h.0 (subst (λ s. Turn a s w) h.1 (t.0.0 w m))
  next_left x y w (a ∷ b ∷ r) t (inr h) (inl e) nx ny =
      subst (λ s. Turn x y s) (sym e) (turned a x y (next_ordered (Turn a) x y (b ∷ r) h t.0))
  next_left x y w (a ∷ b ∷ r) t (inr h) (inr m) nx ny = next_left x y w (b ∷ r) t.1 h m nx ny

  -- each other corner lies to the left of a side
  pub side_left : (q : List ℕ) → AllTurn q → (x y : ℕ) → Follows x y q → (w : ℕ) → In w q → w ≢ x → w ≢ y → Turn x y w
  side_left [] t x y f w m nx ny = absurd f
  side_left (a ∷ l) t x y f w m nx ny = ⊎_elim (λ h. next_left x y w (a ∷ l) t h m nx ny) (λ h. closing l t h m) (next_or_last x y a l a f)
    where
      closing : (l : List ℕ) → AllTurn (a ∷ l) → Last x (a ∷ l) × (a ≡ y) → In w (a ∷ l) → Turn x y w
      closing [] t h (inl e) = absurd (nx (e ∙ h.0))
      closing [] t h (inr m) = absurd m
      closing (b ∷ r) t h (inl e) = absurd (ny (e ∙ h.1))
      closing (b ∷ r) t h (inr m) =
          subst (λ s. Turn x s w) h.1 (turned w x a (turned a w x (last_ordered (Turn a) x w (b ∷ r) h.0 m nx t.0)))

  -- and no corner lies to the right
  pub not_right : (q : List ℕ) → AllTurn q → (x y : ℕ) → Follows x y q → (w : ℕ) → In w q → pos 0 ≤ℤ left n (at x) (at y) (at w)
  not_right q t x y f w m = by (same_id w x) (same_id w y)
    where
      by : Decided (w ≡ x) → Decided (w ≡ y) → pos 0 ≤ℤ left n (at x) (at y) (at w)
      by (inl e) p = omega (arith, ints, ap (λ c. left n (at x) (at y) (at c)) e ∙ none_back x y)
      by (inr a) (inl e) = omega (arith, ints, ap (λ c. left n (at x) (at y) (at c)) e ∙ none_twice x y)
      by (inr a) (inr b) = positive_le _ (side_left q t x y f w m a b)
