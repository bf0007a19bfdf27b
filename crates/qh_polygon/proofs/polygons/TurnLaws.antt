-- The laws of the sign of a turn, and stacks that have all processed ids on their left.
use Rattle.qh_model.proofs.Common.{◌≡◌, ℕ, List, [], ◌∷◌, ◌⊎◌, ℤ, pos, neg_ℤ, ◌≤ℤ◌, ◌<ℤ◌}

-- the keys rise from t along the list
abbrev pub RisesBy : (ℕ → ℤ) → ℕ → List ℕ → Type 0
RisesBy key t [] = Unit {0}
RisesBy key t (y ∷ ys) = (key t <ℤ key y) × RisesBy key y ys

-- the laws of the sign of a turn, for the members of a set that is ordered by a key
pub record TurnLaws (turn : ℕ → ℕ → ℕ → ℤ) (key : ℕ → ℤ) (A : ℕ → Type 0) : Type 0 where
  -- about t: if c is not to the left of y, and x not to the right of c, x is not to the right of y
  pub about : (t c x y : ℕ) → A t → A c → A x → A y → key t <ℤ key c → key t <ℤ key x → key t <ℤ key y
      → turn t c y ≤ℤ pos 0 → pos 0 ≤ℤ turn t c x → pos 0 ≤ℤ turn t y x
  -- a left turn at v and one that is not right at w: the path from v on turns left
  pub onward : (u v w y : ℕ) → A u → A v → A w → A y → key u <ℤ key v → key v <ℤ key w → key v <ℤ key y
      → pos 0 <ℤ turn u v w → pos 0 ≤ℤ turn v w y → pos 0 <ℤ turn u v y
  -- x is not to the right of the edge into t, and there is no right turn at t: x is not to the right of the next edge
  pub behind : (r t x y : ℕ) → A r → A t → A x → A y → key x <ℤ key t → key r <ℤ key t → key t <ℤ key y
      → pos 0 ≤ℤ turn r t x → pos 0 ≤ℤ turn r t y → pos 0 ≤ℤ turn t y x
  -- the turn in the opposite direction
  pub swap : (t y x : ℕ) → turn t y x ≡ neg_ℤ (turn y t x)
  -- there and back
  pub back : (t y : ℕ) → turn t y t ≡ pos 0
  -- staying
  pub there : (t y : ℕ) → turn t y y ≡ pos 0
  -- ids with the same key are equal
  pub same : (x y : ℕ) → A x → A y → key x ≡ key y → x ≡ y

-- the path over the stack turns left at its top t before y
abbrev pub TurnsAt : (ℕ → ℕ → ℕ → ℤ) → ℕ → ℕ → List ℕ → Type 0
TurnsAt turn y t [] = Unit {0}
TurnsAt turn y t (r ∷ s) = pos 0 <ℤ turn r t y

-- no member of D lies to the right of the path from r to t
abbrev pub HasOnLeft : (ℕ → ℕ → ℕ → ℤ) → (ℕ → Type 0) → ℕ → ℕ → Type 0
HasOnLeft turn D r t = (x : ℕ) → D x → pos 0 ≤ℤ turn r t x

-- a chain, its last id first, after D was processed
abbrev pub IsChain : (ℕ → ℕ → ℕ → ℤ) → (ℕ → ℤ) → (ℕ → Type 0) → ℕ → List ℕ → Type 0
IsChain turn key D t [] = D t × ((x : ℕ) → D x → key t ≤ℤ key x)
IsChain turn key D t (r ∷ s) = D t × (key r <ℤ key t) × HasOnLeft turn D r t × TurnsAt turn t r s × IsChain turn key D r s

-- D and one more id
abbrev pub Added : (ℕ → Type 0) → ℕ → ℕ → Type 0
Added D y x = (x ≡ y) ⊎ D x

-- the top was processed
pub chain_top : (turn : ℕ → ℕ → ℕ → ℤ) (key : ℕ → ℤ) (D : ℕ → Type 0) (t : ℕ) (s : List ℕ) → IsChain turn key D t s → D t
chain_top turn key D t [] g = g.0
chain_top turn key D t (r ∷ s) g = g.0
