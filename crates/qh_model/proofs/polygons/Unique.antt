-- Only one list goes round a set and begins with its least id.
use Rattle.qh_model.proofs.Common.{◌≡◌, ℕ, refl, List, [], ◌∷◌, arith, sym, subst, inl, inr, ⊎_elim, ints, ℕ_discrete, ◌↔◌, TurnsLeft, IsPolygon, In, Once}
use Rattle.qh_model.proofs.Common.{BeginsWithLeast, Members, Vector}
use Rattle.qh_model.specs.laws.PolygonLaws.{PolygonIsUnique}
use Rattle.qh_model.proofs.{algebra.VectorIdentities.left-flip, polygons.Cycles.AlongPath, polygons.Cycles.round_told}

-- the rests of two walks from u are equal
follow : (n : Vector) (at : ℕ → Vector) (q p : List ℕ) → ((x : ℕ) → In x q ↔ In x p) → (u : ℕ) (r s : List ℕ) (e : ℕ)
    → ((x : ℕ) → In x (u ∷ r) → In x q) → ((x : ℕ) → In x (u ∷ s) → In x p) → ((x : ℕ) → In x (u ∷ r) ↔ In x (u ∷ s))
    → Once (u ∷ r) → Once (u ∷ s) → AlongPath (TurnsLeft at n q) u r e → AlongPath (TurnsLeft at n p) u s e → r ≡ s
follow n at q p m u [] [] e f g i o k a b = refl
follow n at q p m u [] (w ∷ s) e f g i o k a b = absurd (⊎_elim (λ d. k.0 (inl (sym d))) (λ d. d) ((i w).1 (inr (inl refl))))
follow n at q p m u (v ∷ r) [] e f g i o k a b = absurd (⊎_elim (λ d. o.0 (inl (sym d))) (λ d. d) ((i v).0 (inr (inl refl))))
follow n at q p m u (v ∷ r) (w ∷ s) e f g i o k a b = with_rest (λ f' g' i' k' b'. follow n at q p m v r s e f' g' i' o.1 k' a.1 b') (ℕ_discrete v w)
  where
    forth : (x : ℕ) → In x (v ∷ r) → In x (w ∷ s)
    forth x j = ⊎_elim (λ d. absurd (o.0 (subst (λ t. In t (v ∷ r)) d j))) (λ l. l) ((i x).0 (inr j))

    back : (x : ℕ) → In x (w ∷ s) → In x (v ∷ r)
    back x j = ⊎_elim (λ d. absurd (k.0 (subst (λ t. In t (w ∷ s)) d j))) (λ l. l) ((i x).1 (inr j))

    tails : ((f : (x : ℕ) → In x (v ∷ r) → In x q) → ((x : ℕ) → In x (v ∷ s) → In x p)
        → ((x : ℕ) → In x (v ∷ r) ↔ In x (v ∷ s)) → Once (v ∷ s) → AlongPath (TurnsLeft at n p) v s e → r ≡ s) → (w ≡ v)
        → r ≡ s
    tails more d =
        more (λ x j. f x (inr j)) (λ x j. g x (inr (subst (λ t. In x (t ∷ s)) (sym d) j)))
        (λ x. (λ j. subst (λ t. In x (t ∷ s)) d (forth x j), λ j. back x (subst (λ t. In x (t ∷ s)) (sym d) j)))
        (subst (λ t. Once (t ∷ s)) d k.1) (subst (λ t. AlongPath (TurnsLeft at n p) t s e) d b.1)

    with_rest : (((x : ℕ) → In x (v ∷ r) → In x q) → ((x : ℕ) → In x (v ∷ s) → In x p)
        → ((x : ℕ) → In x (v ∷ r) ↔ In x (v ∷ s)) → Once (v ∷ s) → AlongPath (TurnsLeft at n p) v s e → r ≡ s)
        → Dec (v ≡ w) → (v ∷ r) ≡ (w ∷ s)
    with_rest more (yes d) = let t : r ≡ s = tails more (sym d) in cc
    with_rest more (no ne) =
        let ahead = a.0 w ((m w).1 (g w (inr (inl refl)))) (λ d. k.0 (inl (sym d))) (λ d. ne (sym d)) in
        absurd (omega (arith, ints, ahead, left-flip n (at u) (at v) (at w), b.0 v ((m v).0 (f v (inr (inl refl)))) (λ d. o.0 (inl (sym d))) ne))

-- heads that are least in lists with the same members are equal
heads : (u v : ℕ) (us vs : List ℕ) → BeginsWithLeast (u ∷ us) → BeginsWithLeast (v ∷ vs) → In v (u ∷ us) → In u (v ∷ vs) → u ≡ v
heads = grind arith

-- a set and a normal have at most one polygon
pub one_polygon : (at : ℕ → Vector) (X : ℕ → Type 0) (n : Vector) (p q : List ℕ) → IsPolygon at X n p → IsPolygon at X n q → p ≡ q
one_polygon at X n [] [] a b = refl
one_polygon at X n [] (v ∷ q) a b = absurd ((a.members v).1 ((b.members v).0 (inl refl)))
one_polygon at X n (u ∷ p) [] a b = absurd ((b.members u).1 ((a.members u).0 (inl refl)))
one_polygon at X n (u ∷ p) (v ∷ q) a b = finish (heads u v p q a.least b.least ((m v).1 (inl refl)) ((m u).0 (inl refl)))
  where
    m : (x : ℕ) → In x (u ∷ p) ↔ In x (v ∷ q)
    m x = (λ i. (b.members x).1 ((a.members x).0 i), λ i. (a.members x).1 ((b.members x).0 i))

    finish : u ≡ v → (u ∷ p) ≡ (v ∷ q)
    finish e =
        let t : p ≡ q = follow n at (u ∷ p) (v ∷ q) m u p q u (λ x i. i) (λ x i. subst (λ t. In x (t ∷ q)) e i)
        (λ x. (λ i. subst (λ t. In x (t ∷ q)) (sym e) ((m x).0 i), λ i. (m x).1 (subst (λ t. In x (t ∷ q)) e i))) a.once
        (subst (λ t. Once (t ∷ q)) (sym e) b.once) (round_told (TurnsLeft at n (u ∷ p)) (u ∷ p) a.round)
        (subst (λ t. AlongPath (TurnsLeft at n (v ∷ q)) t q t) (sym e) (round_told (TurnsLeft at n (v ∷ q)) (v ∷ q) b.round)) in
        cc

-- proof of the law `PolygonIsUnique`
pub polygon_is_unique : PolygonIsUnique
polygon_is_unique at ids n p q a b = one_polygon at (Members ids) n p q a b
