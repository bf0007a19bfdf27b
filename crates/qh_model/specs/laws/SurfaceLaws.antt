-- Laws of sound surfaces: the facets that a walk finds, and the facts that stay true if a cone replaces the facets that see a point.
use Rattle.std.specs.Prelude.{◌≡◌, ℕ, ◌⊎◌, Bool, true, pos, ◌≤ℤ◌, ◌<ℤ◌}
use Rattle.qh_model.specs.contract.{Rewired.IsHorizonSide, Rewired.IsRewired, SoundSurface.IsInner, SoundSurface.IsSound}
use Rattle.qh_model.specs.contract.Surface.{Side, Surface, start, end, IsCorner, IsWhole, Sees, IsBlindTo}
use Rattle.qh_model.specs.contract.Weighted.{Weighted, weighted, middle_of, above}
use Rattle.qh_model.specs.headline.{Predicates.vol, Sets.In, Vector.Vector}
use Rattle.qh_model.specs.laws.Horizons.{IsWalked, HasHorizonSide, IsConeUnseen}
use Rattle.qh_model.specs.laws.{SimplexSurface.IsSimplexBoundary, SimplexSurface.simplex_surface, UnseenPoints.IsUnseen}

-- for points of space `above` is their volume
abbrev pub RiseIsVol : Type 0
RiseIsVol = (a b c p : Vector) → above (weighted a) (weighted b) (weighted c) (weighted p) ≡ vol a b c p

-- the boundary of a simplex is sound
abbrev pub SimplexBoundaryIsSound : Type 0
SimplexBoundaryIsSound = (m : Surface) (home : ℕ → Weighted) (o : Weighted) → IsInner m home o → IsSimplexBoundary m home → IsSound m home o

-- the four facets of a tetrahedron are a whole and sound surface around its middle
abbrev pub SimplexIsSound : Type 0
SimplexIsSound = (home : ℕ → Weighted) (a b c d : ℕ) → above (home a) (home b) (home c) (home d) <ℤ pos 0
    → IsWhole (simplex_surface a b c d) × IsSound (simplex_surface a b c d) home (middle_of (home a) (home b) (home c) (home d))

-- a plane with no corner of the tetrahedron beyond it, and with some point off it, has the middle strictly below it
abbrev pub MiddleIsBelow : Type 0
MiddleIsBelow = (a b c s t u v p : Weighted) → above s t u v <ℤ pos 0
    → above a b c s ≤ℤ pos 0 → above a b c t ≤ℤ pos 0 → above a b c u ≤ℤ pos 0 → above a b c v ≤ℤ pos 0
    → ¬ (above a b c p ≡ pos 0) → above a b c (middle_of s t u v) <ℤ pos 0

-- a walk over twins from one facet that p sees finds every facet that p sees
abbrev pub WalkFindsAll : Type 0
WalkFindsAll = (m : Surface) (home : ℕ → Weighted) (o : Weighted) → IsWhole m → IsSound m home o
    → (p : Weighted) (c : ℕ → Bool) → IsWalked m home p c
    → (f : ℕ) → In f m.live → Sees m home f p → c f ≡ true

-- at the end of a horizon side another one starts, and at its start another one ends
abbrev pub HorizonGoesOn : Type 0
HorizonGoesOn = (m : Surface) (home : ℕ → Weighted) (o : Weighted) → IsWhole m → IsSound m home o
    → (p : Weighted) (f : ℕ) (s : Side) → IsHorizonSide m home p f s
    → HasHorizonSide m home p (λ g t. start m g t ≡ end m f s) × HasHorizonSide m home p (λ g t. end m g t ≡ start m f s)

-- a horizon side is determined by its start, and by its end
abbrev pub HorizonIsKnown : Type 0
HorizonIsKnown = (m : Surface) (home : ℕ → Weighted) (o : Weighted) → IsWhole m → IsSound m home o
    → (p : Weighted) (f g : ℕ) (s t : Side) → IsHorizonSide m home p f s → IsHorizonSide m home p g t
    → (start m f s ≡ start m g t) ⊎ (end m f s ≡ end m g t) → (f ≡ g) × (s ≡ t)

-- the step keeps a surface whole and sound
abbrev pub ReplaceKeeps : Type 0
ReplaceKeeps = (m m' : Surface) (home : ℕ → Weighted) (o : Weighted) (p : ℕ) → IsWhole m → IsSound m home o
    → IsRewired m m' home p → IsWhole m' × IsSound m' home o

-- no facet sees a corner of the surface
abbrev pub CornersAreSettled : Type 0
CornersAreSettled = (m : Surface) (home : ℕ → Weighted) (o : Weighted) → IsSound m home o
    → (f g : ℕ) → In f m.live → In g m.live → (l : ℕ) → IsCorner m g l → IsBlindTo m home f (home l)

-- no facet sees the point that was added
abbrev pub AddedIsSettled : Type 0
AddedIsSettled = (m m' : Surface) (home : ℕ → Weighted) (p : ℕ) → IsRewired m m' home p → IsUnseen m' home (home p)

-- a point that no facet sees is seen by no facet after the step
abbrev pub SettledStayUnseen : Type 0
SettledStayUnseen = (m m' : Surface) (home : ℕ → Weighted) (o : Weighted) (p : ℕ) → IsWhole m → IsSound m home o → IsRewired m m' home p
    → (y : Weighted) → IsUnseen m home y → IsUnseen m' home y

-- a point that saw a removed facet and sees no facet of the cone sees no kept facet
abbrev pub DroppedStayUnseen : Type 0
DroppedStayUnseen = (m : Surface) (home : ℕ → Weighted) (o : Weighted) → IsWhole m → IsSound m home o
    → (p q : Weighted) (f0 : ℕ) → In f0 m.live → Sees m home f0 p → Sees m home f0 q → IsConeUnseen m home p q
    → (f : ℕ) → In f m.live → IsBlindTo m home f p → IsBlindTo m home f q
