-- The steps of a walk over twins.
use Rattle.qh_model.proofs.Common.{◌≡◌, ◌≢◌, ℕ, ◌+◌, ◌<◌, ◌≤◌, ◌∙◌, ◌∷◌, ◌++◌, arith, ap, sym, refl, Bool}
use Rattle.qh_model.proofs.Common.{true, false, inl, inr, List, [], length, subst, set, length-set, get_or-set_same, get_or-set_other, slice_index, ◌↔◌, ◌||◌}
use Rattle.qh_model.proofs.Common.{IsTrue, cases_Bool, cases_eq, cases_lt, get_or_append_left, length_push, All-push, All-weaker, StoredFacet, surface_of, In}
use Rattle.qh_model.proofs.{Members.All-In, Members.In-get_or, Members.in_at, lists.Joined.in_append, lists.Ranges.pigeon}
use Rattle.qh_mesh.{specs.contract.Replacement.IsLive, specs.contract.Replacement.AreFacets, proofs.ListedFacets.once_apart, proofs.ListedFacets.once_push}
use Rattle.qh_surface.specs.contract.Walks.{mark_at, IsMarked, IsWalk, IsCrossed, AreCrossed, IsFurther}
use Rattle.qh_surface.proofs.LiveFacets.{live_below}

-- the number of found facets is at most the number of places
pub facets_fit : (fs : List StoredFacet) (vs : List ℕ) → AreFacets fs vs → length vs ≤ length fs
facets_fit fs vs a = pigeon (length fs) (length vs) (slice_index vs) (λ i h. live_below fs (slice_index vs i) (a.live i 0 h)) (once_apart vs a.once)

-- ---- the steps
module _ (P : ℕ → Type 0) (fs : List StoredFacet) where
  -- a facet that passes is marked and found
  module _ (marks : List Bool) (vs : List ℕ) (g : ℕ) (w : IsWalk P fs marks vs) (room : length fs ≤ length marks)
      (l : IsLive fs g) (new : mark_at marks g ≡ false) (p : P g) where
    abbrev next : List Bool
    next = set marks g true

    other : (f : ℕ) → f ≢ g → mark_at next f ≡ mark_at marks f
    other f n = get_or-set_other marks g f true false n

    apart : (f : ℕ) → IsMarked marks f → f ≢ g
    apart f h e = let t = ap (mark_at marks) e in cc

    kept : (f : ℕ) → IsMarked marks f → IsMarked next f
    kept f h = other f (apart f h) ∙ h

    pub joined : IsWalk P fs next (vs ++ g ∷ [])
    joined = record {
      facets = record {
        live = All-push (IsLive fs) vs g w.facets.live l;
        once = once_push vs g w.facets.once (λ i. apart g (All-In (IsMarked marks) vs g w.marked i) refl);
      };
      passes = All-push P vs g w.passes p;
      marked = All-push (IsMarked next) vs g (All-weaker (IsMarked marks) (IsMarked next) kept vs w.marked)
          (get_or-set_same marks g true false (let h = live_below fs g l in omega arith));
    }

    pub joined_further : IsFurther marks next vs (vs ++ g ∷ [])
    joined_further = record {
      len = length-set marks g true;
      kept = kept;
      only = λ f h. elim (cases_eq f g) [ inl e ↦ inr (in_append vs (g ∷ []) f (inr (inl e))) | inr n ↦ inl (sym (other f n) ∙ h) ];
      longer = (let c = length_push vs g in omega arith);
      same = get_or_append_left vs (g ∷ []) 0;
    }

-- ---- a facet that is tested
-- after the test a facet that passes has a mark, whether it is entered or not
pub met : (P : Type 0) (marks : List Bool) (g : ℕ) (entered : Bool) → g < length marks
    → (IsTrue entered ↔ ((mark_at marks g ≡ false) × P)) → P → IsMarked (set marks g (mark_at marks g || entered)) g
met P marks g entered l e p = get_or-set_same marks g (mark_at marks g || entered) false l ∙ elim (cases_Bool (mark_at marks g)) [
  | inl h ↦ ap (λ b. b || entered) h
  | inr h ↦ rw (h, e.1 (h, p)) refl
]

-- ---- steps one after the other
module _ (a b : List Bool) (us vs : List ℕ) (p : IsFurther a b us vs) where
  -- found facets stay found
  pub found_further : (f : ℕ) → In f us → In f vs
  found_further f h = let r = in_at us f h in let l = p.longer in
      subst (λ g. In g vs) (p.same r.0 r.1 ∙ r.2) (In-get_or vs r.0 0 (omega arith))

  -- crossed facets stay crossed, and one more facet is crossed
  pub crossed_more : (P : ℕ → Type 0) (fs : List StoredFacet) (n : ℕ) → n < length us → AreCrossed P fs a us n
      → IsCrossed P fs b (slice_index us n) → AreCrossed P fs b vs (n + 1)
  crossed_more P fs n h old new j k = subst (IsCrossed P fs b) (sym (p.same j (omega arith))) (elim (cases_lt j n) [
    | inl l ↦ λ s x. p.kept ((surface_of fs).over (slice_index us j) s) (old j l s x)
    | inr l ↦ (let i : n ≡ j = omega arith in subst (λ t. IsCrossed P fs b (slice_index us t)) i new)
  ])

pub further_trans : (a b c : List Bool) (us vs ws : List ℕ) → IsFurther a b us vs → IsFurther b c vs ws → IsFurther a c us ws
further_trans a b c us vs ws p q = record {
  len = q.len ∙ p.len;
  kept = λ f h. q.kept f (p.kept f h);
  only = λ f h. elim (q.only f h) [ inl m ↦ elim (p.only f m) [ inl o ↦ inl o | inr i ↦ inr (found_further b c vs ws q f i) ] | inr i ↦ inr i ];
  longer = (let l = p.longer in let m = q.longer in omega arith);
  same = λ j h. q.same j (let l = p.longer in omega arith) ∙ p.same j h;
}
