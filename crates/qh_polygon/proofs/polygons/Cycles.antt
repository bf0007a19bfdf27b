-- Cyclic lists: made from two stacks, and rotated.
use Rattle.qh_model.proofs.Common.{◌≡◌, ℕ, refl, List, [], ◌∷◌, ◌++◌, sym, subst, ◌⊎◌, inl, inr, append-nil, In, Once}
use Rattle.qh_model.proofs.polygons.Cycles.{AlongPath, AroundCycle}
use Rattle.qh_polygon.specs.steps.Chains.{turned_onto}
use Rattle.qh_polygon.proofs.polygons.Sides.{Down}

-- the last element of the stack with top t
abbrev pub bottom : ℕ → List ℕ → ℕ
bottom t [] = t
bottom t (r ∷ s) = bottom r s

-- a reversed stack begins with its last element, and a property down the stack holds along the rest
turned_path : (P : ℕ → ℕ → Type 0) (t : ℕ) (s acc : List ℕ) (e : ℕ) → Down P t s → AlongPath P t acc e
    → (rest : List ℕ) × (turned_onto s (t ∷ acc) ≡ bottom t s ∷ rest) × AlongPath P (bottom t s) rest e
turned_path P t [] acc e d p = (acc, refl, p)
turned_path P t (r ∷ s) acc e d p = turned_path P r s (t ∷ acc) e d.1 (d.0, p)

-- the two chains m, s, .., z and z, r, .., m, each without its top, from the bottom up
pub cycle-of : (P : ℕ → ℕ → Type 0) (m a : ℕ) (s : List ℕ) (z b : ℕ) (r : List ℕ) → Down P m (a ∷ s) → Down P z (b ∷ r)
    → bottom a s ≡ z → bottom b r ≡ m → AroundCycle P (turned_onto (a ∷ s) (turned_onto (b ∷ r) []))
cycle-of P m a s z b r d u e f =
    let back = turned_path P b r [] z u.1 u.0 in
    let there = turned_path P a s (turned_onto r (b ∷ [])) z d.1 (rw back.1 (subst (P a) (sym f) d.0, back.2)) in
    rw there.1 (subst (AlongPath P (bottom a s) there.0) (sym e) there.2)

-- ---- members
-- the members of a reversed list followed by another list
pub in-turned_onto : (s acc : List ℕ) (x : ℕ) → In x s ⊎ In x acc → In x (turned_onto s acc)
in-turned_onto [] acc x (inl i) = absurd i
in-turned_onto [] acc x (inr i) = i
in-turned_onto (y ∷ s) acc x (inl (inl e)) = in-turned_onto s (y ∷ acc) x (inr (inl e))
in-turned_onto (y ∷ s) acc x (inl (inr i)) = in-turned_onto s (y ∷ acc) x (inl i)
in-turned_onto (y ∷ s) acc x (inr i) = in-turned_onto s (y ∷ acc) x (inr (inr i))

-- and no others
pub turned_onto-in : (s acc : List ℕ) (x : ℕ) → In x (turned_onto s acc) → In x s ⊎ In x acc
turned_onto-in [] acc x i = inr i
turned_onto-in (y ∷ s) acc x i = elim (turned_onto-in s (y ∷ acc) x i) [ inl m ↦ inl (inr m) | inr (inl e) ↦ inl (inl e) | inr (inr m) ↦ inr m ]

-- each occurs once if each occurred once, and in one of them only
pub once-turned_onto : (s acc : List ℕ) → Once s → Once acc → ((x : ℕ) → In x s → In x acc → ⊥) → Once (turned_onto s acc)
once-turned_onto [] acc o p h = p
once-turned_onto (y ∷ s) acc o p h = once-turned_onto s (y ∷ acc) o.1 (λ i. h y (inl refl) i, p)
    (λ x i. elim [ inl e ↦ o.0 (subst (λ v. In v s) e i) | inr j ↦ h x (inr i) j ])

-- the last element is a member
pub bottom-in : (t : ℕ) (s : List ℕ) → In (bottom t s) (t ∷ s)
bottom-in t [] = inl refl
bottom-in t (r ∷ s) = inr (bottom-in r s)

-- ---- rotation
-- a path through v is a path to v and one from v
path-split : (P : ℕ → ℕ → Type 0) (u : ℕ) (xs : List ℕ) (v : ℕ) (ys : List ℕ) (e : ℕ) → AlongPath P u (xs ++ v ∷ ys) e → AlongPath P u xs v × AlongPath P v ys e
path-split P u [] v ys e p = p
path-split P u (x ∷ xs) v ys e p = let k = path-split P x xs v ys e p.1 in ((p.0, k.0), k.1)

-- and conversely
path-join : (P : ℕ → ℕ → Type 0) (u : ℕ) (xs : List ℕ) (v : ℕ) (ys : List ℕ) (e : ℕ) → AlongPath P u xs v → AlongPath P v ys e → AlongPath P u (xs ++ v ∷ ys) e
path-join P u [] v ys e p q = (p, q)
path-join P u (x ∷ xs) v ys e p q = (p.0, path-join P x xs v ys e p.1 q)

-- a property around a cycle holds around the rotated cycle
pub cycle-rotate : (P : ℕ → ℕ → Type 0) (xs ys : List ℕ) → AroundCycle P (xs ++ ys) → AroundCycle P (ys ++ xs)
cycle-rotate P [] ys p = subst (λ v. AroundCycle P v) (sym (append-nil ys)) p
cycle-rotate P (x ∷ xs) [] p = subst (λ v. AroundCycle P v) (append-nil (x ∷ xs)) p
cycle-rotate P (x ∷ xs) (y ∷ ys) p = let k = path-split P x xs y ys x p in path-join P y ys x xs y k.1 k.0
