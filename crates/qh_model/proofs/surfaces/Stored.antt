-- The live facets of a stored surface.
use Rattle.qh_model.proofs.Common.{StoredFacet, facet_at, live_from, In, Once, ◌≡◌, ℕ, zero, suc, ◌+◌, ◌<◌, length, refl, sym, ◌∙◌, subst, arith}
use Rattle.qh_model.proofs.Common.{List, [], ◌∷◌, inl, inr, Bool, true, false, cond, both_ways, cases_lt, get_or_past, sum_by-cons, count_by}
use Rattle.qh_model.specs.laws.LiveFacets.{LiveIsMarked, LiveIsListedOnce}

-- g is the live facet k places after n
abbrev IsMarked : ℕ → List StoredFacet → ℕ → Type 0
IsMarked n fs g = (k : ℕ) × (g ≡ n + k) × ((facet_at fs k).live ≡ true)

-- a live number is that of a marked place
marked_of : (n : ℕ) (fs : List StoredFacet) (g : ℕ) → In g (live_from n fs) → IsMarked n fs g
marked_of n [] g i = absurd i
marked_of n (f ∷ fs) g i = split f.live refl i (marked_of (n + 1) fs g)
  where
    split : (b : Bool) → f.live ≡ b → In g (cond b (n ∷ live_from (n + 1) fs) (live_from (n + 1) fs))
        → (In g (live_from (n + 1) fs) → IsMarked (n + 1) fs g) → IsMarked n (f ∷ fs) g
    split true e (inl q) later = (zero, q ∙ sym (omega arith), e)
    split true e (inr j) later = let r = later j in (suc r.0, r.1 ∙ (omega arith), r.2)
    split false e j later = let r = later j in (suc r.0, r.1 ∙ (omega arith), r.2)

-- a marked place has a live number
live_of : (n : ℕ) (fs : List StoredFacet) (k : ℕ) → (facet_at fs k).live ≡ true → In (n + k) (live_from n fs)
live_of n [] k e = absurd (both_ways false refl e)
live_of n (f ∷ fs) zero e = subst (λ b. In (n + zero) (cond b (n ∷ live_from (n + 1) fs) (live_from (n + 1) fs))) (sym e) (inl (omega arith))
live_of n (f ∷ fs) (suc k) e =
    let j : In (n + suc k) (live_from (n + 1) fs) = subst (λ g. In g (live_from (n + 1) fs)) (omega arith) (live_of (n + 1) fs k e) in
    elim f.live as (λ b. In (n + suc k) (cond b (n ∷ live_from (n + 1) fs) (live_from (n + 1) fs))) [ true ↦ inr j | false ↦ j ]

-- proof of the law `LiveIsMarked`
pub live_is_marked : LiveIsMarked
live_is_marked = grind (arith, marked_of, live_of)

-- a facet of the surface is live
pub live_in : (fs : List StoredFacet) (f : ℕ) → In f (live_from 0 fs) → (facet_at fs f).live ≡ true
live_in fs f = (live_is_marked fs f).0

-- a live facet is a facet of the surface
pub in_live : (fs : List StoredFacet) (f : ℕ) → (facet_at fs f).live ≡ true → In f (live_from 0 fs)
in_live fs f = (live_is_marked fs f).1

-- each live number is listed once
live_once : (n : ℕ) (fs : List StoredFacet) → Once (live_from n fs)
live_once n [] = tt
live_once n (f ∷ fs) = by_mark f.live (live_once (n + 1) fs)
  where
    by_mark : (b : Bool) → Once (live_from (n + 1) fs) → Once (cond b (n ∷ live_from (n + 1) fs) (live_from (n + 1) fs))
    by_mark true o = ((λ i. let r = marked_of (n + 1) fs n i in absurd (omega (arith, r.1))), o)
    by_mark false o = o

-- proof of the law `LiveIsListedOnce`
pub live_is_listed_once : LiveIsListedOnce
live_is_listed_once fs = live_once 0 fs

-- a live facet has a place
pub live_inside : (fs : List StoredFacet) (f : ℕ) → (facet_at fs f).live ≡ true → f < length fs
live_inside = grind (arith, cases_lt, both_ways, get_or_past)

-- the number of live places listed is the number of facets marked live
pub live_len : (n : ℕ) (fs : List StoredFacet) → length (live_from n fs) ≡ count_by (λ t. t.live) fs
live_len n [] = refl
live_len n (t ∷ fs) =
    let h = live_len (n + 1) fs in let ns = live_from (n + 1) fs in let m = count_by (λ (t : StoredFacet). t.live) fs in
    elim t.live as (λ b. length (cond b (n ∷ ns) ns) ≡ cond b 1 0 + m) [ true ↦ omega arith | false ↦ omega arith ]
    ∙ sym (sum_by-cons (λ t. cond t.live 1 0) t fs)
