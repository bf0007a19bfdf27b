-- How orphans are released and settled.
use Rattle.qh_model.proofs.Common.{All, ◌≡◌, ℕ, ◌<◌, ap, sym, refl, ◌⊎◌, inl, inr, List, [], ◌∷◌, ◌++◌}
use Rattle.qh_model.proofs.Common.{length, drop, subst, slice_set, slice_index, slice_index_or, pos, ◌<ℤ◌, cases_eq, StoredFacet, Vector, origin, place, In}
use Rattle.qh_model.proofs.{Members.All-In, lists.Joined.of_append, lists.Joined.in_append}
use Rattle.{qh_pred.specs.contract.Planes.PlaneValue, qh_pred.specs.contract.Planes.height, qh_mesh.specs.contract.Replacement.IsLive}
use Rattle.qh_surface.specs.contract.OutsideSets.{OutsideValue, set_of, joined}
use Rattle.qh_surface.specs.steps.{Planes.plane_at, Planes.ArePlanes, Runs.height_at, Runs.IsDone, Runs.IsOutside, Runs.IsSettling}
use Rattle.qh_surface.specs.steps.Settling.{IsDropped, IsAssigned, IsOneSettled, AreReleased}
use Rattle.qh_surface.proofs.runs.SetWrites.{of_write, write_keeps, write_empty, of_join, join_has, join_keeps}

-- ---- released
-- the points of no facet are released
pub none_released : (v : OutsideValue) → AreReleased v v []
none_released v = record { emptied = λ f n. absurd n; kept = λ f p i. i; moved = λ f p i. inl i; orphans = λ p i. inl i }

-- the points of one more facet are released
pub more_released : {v0 v w : OutsideValue} {vs : List ℕ} (x : ℕ) → AreReleased v0 v vs
    → w.orphans ≡ set_of v x ++ v.orphans → w.sets ≡ slice_set v.sets x [] → AreReleased v0 w (vs ++ x ∷ [])
more_released {v0} {v} {w} {vs} x r o s = record {
  emptied = λ f n. rw s (write_empty v.sets x f
      (elim (of_append vs (x ∷ []) f n) [ inl m ↦ inr (r.emptied f m) | inr (inl e) ↦ inl e | inr (inr h) ↦ absurd h ]));
  kept = λ f p i. r.kept f p (elim (of_write v.sets x [] f p (rw s at i)) [ inl h ↦ absurd h.1 | inr h ↦ h ]);
  moved = λ f p i. elim (r.moved f p i) [ inl h ↦ moved f p h | inr h ↦ inr (rw o (in_append (set_of v x) v.orphans p (inr h))) ];
  orphans = λ p i. orphans p (of_append (set_of v x) v.orphans p (rw o at i));
}
  where
    moved : (f p : ℕ) → In p (set_of v f) → In p (set_of w f) ⊎ In p w.orphans
    moved f p i = elim (cases_eq f x) [
      | inl e ↦ inr (rw o (in_append (set_of v x) v.orphans p (inl (rw e at i))))
      | inr n ↦ inl (rw s (write_keeps v.sets x [] f p n i))
    ]

    orphans : (p : ℕ) → In p (set_of v x) ⊎ In p v.orphans → In p v0.orphans ⊎ ((f : ℕ) × In f (vs ++ x ∷ []) × In p (set_of v0 f))
    orphans p (inl i) = inr (x, in_append vs (x ∷ []) x (inr (inl refl)), r.kept x p i)
    orphans p (inr i) = elim (r.orphans p i) [ inl h ↦ inl h | inr h ↦ inr (h.0, in_append vs (x ∷ []) h.0 (inl h.1), h.2) ]

-- ---- settled
-- the sets keep their points and gain points above new facets; an orphan stays one, joins a set, or is seen by no facet
settled_by : {pts : List Vector} {fs : List StoredFacet} {v w : OutsideValue} {pending made : List ℕ} → IsSettling pts fs v pending made
    → ((f p : ℕ) → In p (set_of w f) → In p (set_of v f) ⊎ (IsLive fs f × (pos 0 <ℤ height_at pts fs f p) × In f made))
    → ((p : ℕ) → In p w.orphans → In p v.orphans) → ((f p : ℕ) → In p (set_of v f) → In p (set_of w f))
    → ((p : ℕ) → In p v.orphans → In p w.orphans ⊎ IsOutside w p ⊎ IsDone pts fs p) → IsSettling pts fs w pending made
settled_by k held rest still placed = record {
  outside = λ f p i. elim (held f p i) [ inl h ↦ k.outside f p h | inr h ↦ (h.0, h.1) ];
  waits = λ f p i. elim (held f p i) [ inl h ↦ k.waits f p h | inr h ↦ inr h.2 ];
  all = λ p l. elim (k.all p l) [ inl i ↦ placed p i | inr (inl i) ↦ inr (inl (i.0, still i.0 p i.1)) | inr (inr d) ↦ inr (inr d) ];
  drops = λ p i. k.drops p (rest p i);
}

-- the same sets and orphans in another value
pub same_settling : {pts : List Vector} {fs : List StoredFacet} {v w : OutsideValue} {pending made : List ℕ}
    → ((f : ℕ) → set_of w f ≡ set_of v f) → w.orphans ≡ v.orphans → IsSettling pts fs v pending made → IsSettling pts fs w pending made
same_settling s o k = settled_by k (λ f p i. inl (rw (s f) at i)) (λ p i. rw o at i) (λ f p i. rw (s f) i) (λ p i. inl (rw o i))

-- the height of a position's point above a live facet, from its plane
plane_height : (pts : List Vector) (fs : List StoredFacet) (ps : List PlaneValue) (f p : ℕ)
    → ArePlanes (place pts) fs ps → IsLive fs f → height (plane_at ps f) (slice_index_or pts p origin) ≡ height_at pts fs f p
unfolding place
plane_height pts fs ps f p h l = h.right f l (place pts p)

-- one orphan is settled
pub one_settled : {pts : List Vector} {fs : List StoredFacet} {ps : List PlaneValue} {v w : OutsideValue} {pending made : List ℕ} {o : ℕ}
    → All (IsLive fs) made → ArePlanes (place pts) fs ps → All (λ f. f < length v.sets) made → v.orphans ≡ o ∷ drop 1 v.orphans
    → IsOneSettled ps pts made v w → IsSettling pts fs v pending made → IsSettling pts fs w pending made
one_settled {pts} {fs} {ps} {v} {w} {pending} {made} {o} live planes within first one k =
    elim one.fate [ inl d ↦ dropped d | inr a ↦ assigned a ]
  where
    first-is : slice_index v.orphans 0 ≡ o
    first-is = ap (λ (xs : List ℕ). slice_index xs 0) first

    rest : (p : ℕ) → In p w.orphans → In p v.orphans
    rest p i = subst (In p) (sym first) (inr (rw one.orphans at i))

    placed : IsOutside w o ⊎ IsDone pts fs o → (p : ℕ) → In p v.orphans → In p w.orphans ⊎ IsOutside w p ⊎ IsDone pts fs p
    placed h p i = elim (subst (In p) first i) [ inl e ↦ inr (rw e h) | inr j ↦ inl (rw one.orphans j) ]

    dropped : IsDropped ps pts made v w → IsSettling pts fs w pending made
    dropped d = settled_by k (λ f p i. inl (rw (d.sets) at i)) rest (λ f p i. rw (d.sets) i) (placed (inr (k.drops o
        (subst (In o) (sym first) (inl refl)) (λ j x h. rw (first-is, plane_height pts fs ps _ o planes (live j x h)) at (d.unseen j x h)))))

    assigned : IsAssigned ps pts made v w → IsSettling pts fs w pending made
    assigned a =
        let room : a.facet < length v.sets = All-In (λ f. f < length v.sets) made a.facet within a.named in
        settled_by k held rest (λ f p i. rw sets (join_keeps v.sets a.facet a.in_front o f p room i))
        (placed (inl (a.facet, rw sets (join_has v.sets a.facet a.in_front o room))))
      where
        sets : w.sets ≡ slice_set v.sets a.facet (joined a.in_front o (set_of v a.facet))
        sets = rw first-is at a.sets

        here : IsLive fs a.facet
        here = All-In (IsLive fs) made a.facet live a.named

        held : (f p : ℕ) → In p (set_of w f) → In p (set_of v f) ⊎ (IsLive fs f × (pos 0 <ℤ height_at pts fs f p) × In f made)
        held f p i = elim (of_join v.sets a.facet a.in_front o f p (rw sets at i)) [
          | inl h ↦ inr (rw (h.0, h.1) (here, rw (first-is, plane_height pts fs ps a.facet o planes here) at a.seen, a.named))
          | inr h ↦ inl h
        ]
