-- A replacement decreases the signed volume: at the apex the contribution of a remaining facet is unchanged, that of a facet of the cone is 0, and that of a
-- removed facet was above 0.
use Rattle.qh_mesh.proofs.{ListedFacets.in_listed, ListedFacets.listed_live, Rewiring.IsStep, SoundMeshes.closed_of, SoundMeshes.step_is_closed}
use Rattle.qh_mesh.specs.contract.{Replacement.IsKept, Replacement.is_listed, SoundMesh.AreVisible, SoundMesh.IsSoundMesh, SoundMesh.facet_vol}
use Rattle.qh_model.proofs.Common.{In, List, StoredFacet, Surface, Vector, [], ap, arith, both_ways, cases_Bool, cond, facet_at, false, ints, live_from}
use Rattle.qh_model.proofs.Common.{middle_at, pos, refl, signed_volume, slice_index, suc, surface_of, triples_from, triples_of, true, vol, zero, zero-add, ℕ, ℤ}
use Rattle.qh_model.proofs.{Common.◌+ℤ◌, Common.◌+◌, Common.◌<ℤ◌, Common.◌∙◌, Common.◌∷◌, Common.◌≡◌, Common.◌≤ℤ◌, Members.In-get_or, Members.in_at}
use Rattle.qh_model.proofs.{algebra.Signs.equal_le, algebra.Signs.less_le, algebra.VectorIdentities.vol-third, closed_surfaces.SignedVolume.volume_is_constant}

-- ---- sums over live places
-- the sum of the contributions of the live places of a list
abbrev live_sum : (ℕ → ℤ) → List StoredFacet → ℤ
live_sum v [] = pos 0
live_sum v (f ∷ fs) = cond f.live (v 0) (pos 0) +ℤ live_sum (λ k. v (suc k)) fs

-- the contribution of one place
abbrev part : (ℕ → ℤ) → List StoredFacet → ℕ → ℤ
part v fs f = cond (facet_at fs f).live (v f) (pos 0)

-- if no contribution increases, the sum does not, and if one decreases, the sum does
sums : (v w : ℕ → ℤ) (fs gs : List StoredFacet) → ((f : ℕ) → part w gs f ≤ℤ part v fs f)
    → (live_sum w gs ≤ℤ live_sum v fs) × ((f : ℕ) → part w gs f <ℤ part v fs f → live_sum w gs <ℤ live_sum v fs)
sums v w [] [] h = (omega (arith, ints), λ f l. absurd (omega (arith, ints, l)))
sums v w [] (g ∷ gs) h =
    let a = h 0 in let r = sums (λ k. v (suc k)) (λ k. w (suc k)) [] gs (λ k. h (suc k)) in let b = r.0 in
    (omega (arith, ints), elim [ zero ↦ λ l. omega (arith, ints) | suc n ↦ λ l. let c = r.1 n l in omega (arith, ints) ])
sums v w (f ∷ fs) [] h =
    let a = h 0 in let r = sums (λ k. v (suc k)) (λ k. w (suc k)) fs [] (λ k. h (suc k)) in let b = r.0 in
    (omega (arith, ints), elim [ zero ↦ λ l. omega (arith, ints) | suc n ↦ λ l. let c = r.1 n l in omega (arith, ints) ])
sums v w (f ∷ fs) (g ∷ gs) h =
    let a = h 0 in let r = sums (λ k. v (suc k)) (λ k. w (suc k)) fs gs (λ k. h (suc k)) in let b = r.0 in
    (omega (arith, ints), elim [ zero ↦ λ l. omega (arith, ints) | suc n ↦ λ l. let c = r.1 n l in omega (arith, ints) ])

-- the signed volume of a stored surface is the sum over its live facets, counted from n
volume_is : (at : ℕ → Vector) (m : Surface) (q : Vector) (n : ℕ) (fs : List StoredFacet) → signed_volume at (triples_from m (live_from n fs)) q
    ≡ live_sum (λ k. vol (at (m.i (n + k))) (at (m.j (n + k))) (at (m.k (n + k))) q) fs
volume_is at m q n [] = refl
volume_is at m q n (f ∷ fs) =
    let value : ℕ → ℤ = (λ g. vol (at (m.i g)) (at (m.j g)) (at (m.k g)) q) in
    let here : n ≡ n + 0 = omega arith in let shift : (k : ℕ) → n + 1 + k ≡ n + suc k = (λ k. omega arith) in
    elim f.live as (λ b. signed_volume at (triples_from m (cond b (n ∷ live_from (n + 1) fs) (live_from (n + 1) fs))) q
    ≡ cond b (value n) (pos 0) +ℤ signed_volume at (triples_from m (live_from (n + 1) fs)) q) [ true ↦ refl | false ↦ (omega (arith, ints)) ]
    ∙ (λ i. cond f.live (value (here i)) (pos 0) +ℤ (volume_is at m q (n + 1) fs ∙ ap (λ v. live_sum v fs) (λ j k. value (shift k j))) i)

-- the same from the first place
volume_is_sum : (at : ℕ → Vector) (fs : List StoredFacet) (q : Vector)
    → signed_volume at (triples_of (surface_of fs)) q ≡ live_sum (λ f. facet_vol at fs f q) fs
volume_is_sum at fs q = volume_is at (surface_of fs) q 0 fs ∙ ap (λ v. live_sum v fs) (λ i f. facet_vol at fs (zero-add f i) q)

-- ---- a step
module _ (old new : List StoredFacet) (vs : List ℕ) (p : ℕ) (made : List ℕ) (d : IsStep old new vs p made) (at : ℕ → Vector) where
  -- the contributions of a place at the apex, before and after the step
  abbrev before : ℕ → ℤ
  before f = part (λ g. facet_vol at old g (at p)) old f

  abbrev after : ℕ → ℤ
  after f = part (λ g. facet_vol at new g (at p)) new f

  -- a facet of the cone has the apex as a corner
  cone_part : (f : ℕ) → In f made → facet_vol at new f (at p) ≡ pos 0
  cone_part = grind (arith, in_at, vol-third)

  -- so a place without a remaining facet contributes 0
  other_part : (f : ℕ) → ¬ (IsKept old vs f) → after f ≡ pos 0
  other_part = grind (arith, cases_Bool, cone_part)

  module _ (visible : AreVisible at old vs p) where
    -- a removed facet contributed more
    gone_part : (f : ℕ) → is_listed vs f ≡ true → after f <ℤ before f
    gone_part = grind (arith, listed_live, other_part, both_ways)

    -- no contribution increases: that of a remaining facet is unchanged
    no_more : (f : ℕ) → after f ≤ℤ before f
    no_more = grind (arith, cases_Bool, less_le, gone_part, equal_le, other_part, both_ways)

    -- so the volume with the apex falls
    falls_at_apex : signed_volume at (triples_of (surface_of new)) (at p) <ℤ signed_volume at (triples_of (surface_of old)) (at p)
    falls_at_apex =
        let f = slice_index vs 0 in let e = in_listed vs f (In-get_or vs 0 0 visible.some) in
        rw (volume_is_sum at new (at p), volume_is_sum at old (at p))
        ((sums (λ g. facet_vol at old g (at p)) (λ g. facet_vol at new g (at p)) old new no_more).1 f (gone_part f e))

    -- and with each point, if the meshes are closed
    pub step_falls : (s t u v : ℕ) → IsSoundMesh at old (middle_at at s t u v) → (x : Vector)
        → signed_volume at (triples_of (surface_of new)) x <ℤ signed_volume at (triples_of (surface_of old)) x
    step_falls s t u v z x =
        let f = slice_index vs 0 in
        let was = (closed_of at old s t u v f (d.facets.live 0 0 visible.some) z).surface in
        let is = (step_is_closed old new vs p made d at s t u v z visible).surface in
        let e = volume_is_constant at (triples_of (surface_of old)) was (at p) x in
        let g = volume_is_constant at (triples_of (surface_of new)) is (at p) x in
        rw (← e, ← g) falls_at_apex
