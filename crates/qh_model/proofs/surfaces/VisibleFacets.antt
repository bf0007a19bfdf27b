-- The facets that see a point are connected: no group of them is separated from a first one.
use Rattle.qh_model.proofs.Common.{Weighted, above, weighted_dot, In, ◌≡◌, refl, List, [], ◌∷◌, arith, ap, sym, ◌∙◌, Bool, true, false, ◌⊎◌, inl, inr, ⊎_elim}
use Rattle.qh_model.proofs.Common.{subst, ints, by_lt_z, ℤ, pos, ◌+ℤ◌, ◌-ℤ◌, ◌*ℤ◌, neg_ℤ, ◌≤ℤ◌, ◌<ℤ◌}
use Rattle.qh_model.proofs.Members.{each_more}
use Rattle.qh_model.proofs.algebra.Order.{mul-nonpos, mul-pos, cancel-pos, mul-neg_pos, neg-positive, product_zero}
use Rattle.qh_model.proofs.surfaces.{CramersRule.cramer, CramersRule.line_product, Determinants.above-turn, Determinants.above-flip}
use Rattle.qh_model.proofs.algebra.{Ring.ring, Ring.Expr.var, Ring.Expr.add, Ring.Expr.sub as less, Ring.Expr.mul, Ring.Expr.neg, Signs.not_less}

-- three corners
pub record Corners : Type 0 where
  pub a : Weighted
  pub b : Weighted
  pub c : Weighted

-- the height of a point above the facet
abbrev pub over : Corners → Weighted → ℤ
over t y = above t.a t.b t.c y

-- ---- one facet
-- the line from y to p leaves the triangle across one of its sides
pub leaves : (n : Weighted) (t : Corners) (y p : Weighted) → over t y <ℤ pos 0 → pos 0 <ℤ weighted_dot n p → weighted_dot n y ≡ pos 0
    → weighted_dot n t.a ≤ℤ pos 0 → weighted_dot n t.b ≤ℤ pos 0 → weighted_dot n t.c ≤ℤ pos 0
    → (pos 0 <ℤ above t.a t.b p y) ⊎ (pos 0 <ℤ above t.b t.c p y) ⊎ (pos 0 <ℤ above t.c t.a p y)
leaves n t y p h hp hy ha hb hc =
    by_lt_z (pos 0) (above t.a t.b p y) inl (λ c1.
    by_lt_z (pos 0) (above t.b t.c p y) (λ q. inr (inl q)) (λ c2.
    by_lt_z (pos 0) (above t.c t.a p y) (λ q. inr (inr q)) (λ c3. absurd (never c1 c2 c3))))
  where
    never : above t.a t.b p y ≤ℤ pos 0 → above t.b t.c p y ≤ℤ pos 0 → above t.c t.a p y ≤ℤ pos 0 → ⊥
    never c1 c2 c3 =
        let sum = cramer n t.a t.b t.c y p in let low = mul-neg_pos (over t y) (weighted_dot n p) h hp in
        let a = mul-nonpos (above p t.b t.c y) (weighted_dot n t.a) (subst (λ v. v ≤ℤ pos 0) (sym (above-turn p t.b t.c y)) c2) ha in
        let turned = above-turn t.a p t.c y ∙ above-turn p t.c t.a y in
        let b = mul-nonpos (above t.a p t.c y) (weighted_dot n t.b) (subst (λ v. v ≤ℤ pos 0) (sym turned) c3) hb in
        let c = mul-nonpos (above t.a t.b p y) (weighted_dot n t.c) c1 hc in
        let d = product_zero (above t.a t.b t.c p) (weighted_dot n y) hy in omega (arith, ints, sum, low, a, b, c, d)

-- f comes after g on the line from y to p (both see p)
abbrev pub after : (f g : Corners) (y p : Weighted) → ℤ
after f g y p = over f p *ℤ over g y -ℤ over f y *ℤ over g p

-- the neighbour across a side that p is beyond is met earlier
pub crosses : (u v a b y p : Weighted) → above u v a b <ℤ pos 0 → pos 0 <ℤ above u v p y
    → pos 0 <ℤ (above u v a p *ℤ above v u b y -ℤ above u v a y *ℤ above v u b p)
crosses u v a b y p h k = subst (λ z. pos 0 <ℤ z) (sym product) (neg-positive _ (mul-neg_pos (above u v a b) (above u v p y) h k))
  where
    turned : (a b c d : ℤ) → a *ℤ neg_ℤ b -ℤ c *ℤ neg_ℤ d ≡ neg_ℤ (a *ℤ b -ℤ c *ℤ d)
    turned a b c d =
        ring (a ∷ b ∷ c ∷ d ∷ []) (less (mul (var 0) (neg (var 1))) (mul (var 2) (neg (var 3)))) (neg (less (mul (var 0) (var 1)) (mul (var 2) (var 3)))) refl

    product : above u v a p *ℤ above v u b y -ℤ above u v a y *ℤ above v u b p ≡ neg_ℤ (above u v a b *ℤ above u v p y)
    product =
        rw (above-flip u v b y, above-flip u v b p)
        (turned (above u v a p) (above u v b y) (above u v a y) (above u v b p) ∙ ap neg_ℤ (line_product u v a b p y))

-- ---- a least element by cross products
-- a marked member that no marked one precedes
pub record Least {X : Type 0} (W : X → Bool) (P Q : X → ℤ) (xs : List X) : Type 0 where
  pub m : X
  pub there : In m xs
  pub marked : W m ≡ true
  pub least : (g : X) → In g xs → W g ≡ true → pos 0 <ℤ (P m *ℤ Q g -ℤ Q m *ℤ P g) → ⊥

-- if m comes after x and x after g, m comes after g
chain : (pm qm px qx pg qg : ℤ) → pos 0 <ℤ pm → pos 0 <ℤ px → pos 0 <ℤ pg → pos 0 <ℤ (pm *ℤ qx -ℤ qm *ℤ px)
    → pos 0 <ℤ (px *ℤ qg -ℤ qx *ℤ pg) → pos 0 <ℤ (pm *ℤ qg -ℤ qm *ℤ pg)
chain pm qm px qx pg qg hm hx hg h k =
    let a = mul-pos pm (px *ℤ qg -ℤ qx *ℤ pg) hm k in let b = mul-pos pg (pm *ℤ qx -ℤ qm *ℤ px) hg h in
    cancel-pos px (pm *ℤ qg -ℤ qm *ℤ pg) hx (omega (arith, ints, same, a, b))
  where
    same : px *ℤ (pm *ℤ qg -ℤ qm *ℤ pg) ≡ pm *ℤ (px *ℤ qg -ℤ qx *ℤ pg) +ℤ pg *ℤ (pm *ℤ qx -ℤ qm *ℤ px)
    same =
        ring (pm ∷ qm ∷ px ∷ qx ∷ pg ∷ qg ∷ []) (mul (var 2) (less (mul (var 0) (var 5)) (mul (var 1) (var 4))))
        (add (mul (var 0) (less (mul (var 2) (var 5)) (mul (var 3) (var 4)))) (mul (var 4) (less (mul (var 0) (var 3)) (mul (var 1) (var 2))))) refl

-- a marked member with no marked one before it, or no marked member
pub least : {X : Type 0} (W : X → Bool) (P Q : X → ℤ) (xs : List X) → ((g : X) → In g xs → W g ≡ true → pos 0 <ℤ P g)
    → ((g : X) → In g xs → W g ≡ true → ⊥) ⊎ Least W P Q xs
least W P Q [] h = inl (λ g i e. i)
least {X} W P Q (x ∷ xs) h = split (W x) refl (least W P Q xs (λ g i e. h g (inr i) e))
  where
    -- g is not marked, or m is not after it
    NotAfter : X → X → Type 0
    NotAfter m g = W g ≡ true → pos 0 <ℤ (P m *ℤ Q g -ℤ Q m *ℤ P g) → ⊥

    kept : (l : Least W P Q xs) → NotAfter l.m x → Least W P Q (x ∷ xs)
    kept l n = record { m = l.m; there = inr l.there; marked = l.marked; least = each_more (NotAfter l.m) x xs n l.least }

    new : W x ≡ true → ((g : X) → In g xs → NotAfter x g) → Least W P Q (x ∷ xs)
    new e n = record { m = x; there = inl refl; marked = e; least = each_more (NotAfter x) x xs (λ w k. omega (arith, ints, k)) n }

    split : (b : Bool) → W x ≡ b → ((g : X) → In g xs → W g ≡ true → ⊥) ⊎ Least W P Q xs → ((g : X) → In g (x ∷ xs) → W g ≡ true → ⊥) ⊎ Least W P Q (x ∷ xs)
    split false e (inl n) = inl (each_more (λ g. W g ≡ true → ⊥) x xs (λ w. cc) n)
    split false e (inr l) = inr (kept l (λ w. cc))
    split true e (inl n) = inr (new e (λ g i w k. n g i w))
    split true e (inr l) =
        inr (by_lt_z (pos 0) (P l.m *ℤ Q x -ℤ Q l.m *ℤ P x) (λ n. new e (λ g i w k. l.least g i w
        (chain (P l.m) (Q l.m) (P x) (Q x) (P g) (Q g) (h l.m (inr l.there) l.marked) (h x (inl refl) e) (h g (inr i) w) n k)))
        (λ k. kept l (λ w q. not_less _ _ q k)))

-- ---- the theorem, over weighted points
-- across the side u v of f (third corner t) lies g, which is marked or does not see p, with its third corner b below f
pub record Over {X : Type 0} (at : X → Corners) (live : List X) (W : X → Bool) (y p : Weighted) (f : X) (u v t : Weighted) : Type 0 where
  pub g : X
  pub b : Weighted
  pub live_g : In g live
  pub at_f : (z : Weighted) → over (at f) z ≡ above u v t z
  pub at_g : (z : Weighted) → over (at g) z ≡ above v u b z
  pub bends : above u v t b <ℤ pos 0
  pub under : over (at g) y ≤ℤ pos 0
  pub joined : pos 0 <ℤ over (at g) p → W g ≡ true

-- the property of a marked facet if a group is separated
pub record Cut {X : Type 0} (at : X → Corners) (live : List X) (W : X → Bool) (n y p : Weighted) (f : X) : Type 0 where
  pub sees : pos 0 <ℤ over (at f) p
  pub below : over (at f) y <ℤ pos 0
  pub under_a : weighted_dot n (at f).a ≤ℤ pos 0
  pub under_b : weighted_dot n (at f).b ≤ℤ pos 0
  pub under_c : weighted_dot n (at f).c ≤ℤ pos 0
  pub ab : Over at live W y p f (at f).a (at f).b (at f).c
  pub bc : Over at live W y p f (at f).b (at f).c (at f).a
  pub ca : Over at live W y p f (at f).c (at f).a (at f).b

-- a marked facet that is met earlier
pub record Earlier {X : Type 0} (at : X → Corners) (live : List X) (W : X → Bool) (y p : Weighted) (f : X) : Type 0 where
  pub g : X
  pub live_g : In g live
  pub marked : W g ≡ true
  pub earlier : pos 0 <ℤ after (at f) (at g) y p

-- the neighbour that is met earlier sees p as well
sees_too : (fp gy fy gp : ℤ) → pos 0 <ℤ (fp *ℤ gy -ℤ fy *ℤ gp) → pos 0 <ℤ fp → fy <ℤ pos 0 → gy ≤ℤ pos 0 → pos 0 <ℤ gp
sees_too = grind arith

module _ {X : Type 0} (at : X → Corners) (live : List X) (W : X → Bool) (n y p : Weighted) (hp : pos 0 <ℤ weighted_dot n p)
    (hy : weighted_dot n y ≡ pos 0) where
  -- each marked facet has a marked one that is met earlier
  earlier_one : (f : X) → Cut at live W n y p f → Earlier at live W y p f
  earlier_one f c =
      ⊎_elim (λ k. over_side (at f).a (at f).b (at f).c c.ab k) (λ t. ⊎_elim (λ k. over_side (at f).b (at f).c (at f).a c.bc k)
      (λ k. over_side (at f).c (at f).a (at f).b c.ca k) t) (leaves n (at f) y p c.below hp hy c.under_a c.under_b c.under_c)
    where
      -- across a side that p is beyond
      over_side : (u v t : Weighted) (o : Over at live W y p f u v t) → pos 0 <ℤ above u v p y → Earlier at live W y p f
      over_side u v t o k =
          let e : pos 0 <ℤ after (at f) (at o.g) y p = rw (o.at_f p, o.at_f y, o.at_g y, o.at_g p) (crosses u v t o.b y p o.bends k) in
          record { g = o.g; live_g = o.live_g; marked = o.joined (sees_too _ _ _ (over (at o.g) p) e c.sees c.below o.under); earlier = e }

  -- no facet is marked
  pub none_cut_off : ((f : X) → In f live → W f ≡ true → Cut at live W n y p f) → (f : X) → In f live → W f ≡ true → ⊥
  none_cut_off h f i w =
      ⊎_elim (λ k. k f i w) (λ l. let e = earlier_one l.m (h l.m l.there l.marked) in l.least e.g e.live_g e.marked e.earlier)
      (least W (λ f. over (at f) p) (λ f. over (at f) y) live (λ g i w. (h g i w).sees))
