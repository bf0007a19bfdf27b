-- The free places, as they are allocated and freed.
use Rattle.qh_model.proofs.Common.{◌≡◌, ◌≢◌, ℕ, ◌<◌, ◌≤◌, inl, inr, max, arith, ap, sym, ◌∙◌, Bool, true, false, cond, List, [], ◌∷◌, ◌++◌, length}
use Rattle.qh_model.proofs.Common.{reverse, set, both_ways, cases_lt, get_or_append_left, get_or_push, length_push, length-set, get_or-set_same}
use Rattle.qh_model.proofs.Common.{get_or-set_other, append_assoc, reverse-append, append-nil, sum_by-set, StoredFacet, facet_at, no_facet, surface_of}
use Rattle.std.proofs.lemmas.List.{length-reverse, Sums.sum_by_push}
use Rattle.qh_model.proofs.{lists.Joined.of_append, lists.Joined.once_append, surfaces.Stored.live_inside, surfaces.Stored.live_len}
use Rattle.qh_mesh.specs.{contract.Replacement.IsLive, steps.Kept.is_live, steps.Places.IsPool, steps.Places.IsVacant, steps.Places.live_count}

-- the contribution of a mark to the number of live facets
abbrev one : Bool → ℕ
one b = cond b 1 0

-- a write elsewhere leaves a free place free
vacant_set : (fs : List StoredFacet) (v : ℕ) (t : StoredFacet) (w : ℕ) → w ≢ v → IsVacant fs w → IsVacant (set fs v t) w
vacant_set fs v t w n h = (rw (length-set fs v t) h.0, ap is_live (get_or-set_other fs v w t no_facet n) ∙ h.1)

module _ (fs : List StoredFacet) (places : List ℕ) (v : ℕ) (t : StoredFacet) where
  -- the place of a removed facet becomes free
  pub pool_more : IsPool fs places → IsLive fs v → t.live ≡ false → IsPool (set fs v t) (v ∷ places)
  pool_more = grind (arith, live_inside, length-set, both_ways, get_or-set_same, vacant_set, sum_by-set)

  -- a new facet takes one place
  pub pool_less : IsPool fs (v ∷ places) → t.live ≡ true → IsPool (set fs v t) places
  pool_less = grind (arith, length-set, vacant_set, sum_by-set)

-- facets with the same marks have the same free places
pub pool_same : (fs gs : List StoredFacet) (places : List ℕ) → length gs ≡ length fs
    → ((f : ℕ) → (facet_at gs f).live ≡ (facet_at fs f).live) → live_count gs ≡ live_count fs → IsPool fs places → IsPool gs places
pool_same = grind arith

-- the number of free places is at most the number of places
pub few_free : (fs : List StoredFacet) (free : List ℕ) → IsPool fs (reverse free) → length free ≤ length fs
few_free fs free q = let c = q.count in let e = length-reverse free in omega arith

-- allocating a free place leaves a pool
pub pool_pops : (fs : List StoredFacet) (made free : List ℕ) (p : ℕ) → IsPool fs (made ++ reverse (free ++ p ∷ []))
    → IsPool fs ((made ++ p ∷ []) ++ reverse free)
pool_pops = grind (arith, reverse-append, append_assoc)

-- so does allocating one more place at the end
pub pool_grows : (fs : List StoredFacet) (made : List ℕ) (p : ℕ) → p ≡ length fs → IsPool fs (made ++ [])
    → IsPool (fs ++ no_facet ∷ []) ((made ++ p ∷ []) ++ [])
pool_grows fs made p e r =
    let q = rw append-nil at r in let n = length_push fs no_facet in let m = length_push made p in
    let same : (v : ℕ) → v ≡ p → v ≡ length fs = λ v k. k ∙ e in
    rw (append-nil (made ++ p ∷ [])) (record {
      once = once_append made (p ∷ []) q.once ((λ i. i), tt)
          (λ v i. elim [ inl k ↦ (let h = (q.vacant v i).0 in let d = same v k in omega arith) | inr j ↦ j ]);
      vacant = λ v i. elim (of_append made (p ∷ []) v i) [
        | inl j ↦ (let l = (q.vacant v j).0 in
            (omega arith, ap is_live (get_or_append_left fs (no_facet ∷ []) no_facet v l) ∙ (q.vacant v j).1))
        | inr (inl k) ↦ (let d = same v k in (omega arith, ap is_live (get_or_push fs no_facet no_facet v (sym d))))
        | inr (inr j) ↦ absurd j
      ];
      count = let c = sum_by_push (λ t. one t.live) fs no_facet in let d = q.count in omega arith;
    })

-- free places are allocated before the list grows
pub places_are : (fs : List StoredFacet) (free : List ℕ) (n : ℕ) → IsPool fs (reverse free) → n ≤ length fs
    → (0 < length free → length fs ≡ n) → length fs ≡ max n (length (surface_of fs).live)
places_are = grind (arith, live_len, length-reverse, cases_lt)
