-- The new facets with an outside set wait to be processed.
use Rattle.qh_model.proofs.Common.{All, ◌≡◌, ℕ, ◌<◌, ap, ◌∙◌, inl, inr, List, [], ◌∷◌, ◌++◌, length, subst, All-push, In}
use Rattle.qh_model.proofs.lists.Joined.{in_append, of_append}
use Rattle.qh_surface.specs.contract.OutsideSets.{OutsideValue, set_of}

-- the facets that waited, and the new facets with an outside set
pub record AreQueued (v : OutsideValue) (old new made : List ℕ) : Type 0 where
  pub within : All (λ f. f < length v.sets) old → All (λ f. f < length v.sets) new
  pub kept : (f : ℕ) → In f old → In f new
  pub added : (f p : ℕ) → In f made → In p (set_of v f) → In f new

module _ (v : OutsideValue) (old new made : List ℕ) (x : ℕ) where
  -- a new facet with an outside set waits
  pub more_queued : x < length v.sets → AreQueued v old new made → AreQueued v old (new ++ x ∷ []) (made ++ x ∷ [])
  more_queued l q = record {
    within = λ h. All-push (λ f. f < length v.sets) new x (q.within h) l;
    kept = λ f n. in_append new (x ∷ []) f (inl (q.kept f n));
    added = λ f p n i. in_append new (x ∷ []) f (elim (of_append made (x ∷ []) f n) [ inl m ↦ inl (q.added f p m i) | inr e ↦ inr e ]);
  }

  -- a new facet without an outside set need not wait
  pub more_idle : set_of v x ≡ [] → AreQueued v old new made → AreQueued v old new (made ++ x ∷ [])
  more_idle e q = record {
    within = q.within;
    kept = q.kept;
    added = λ f p n i. elim (of_append made (x ∷ []) f n) [
      | inl m ↦ q.added f p m i
      | inr (inl h) ↦ absurd (subst (In p) (ap (set_of v) h ∙ e) i)
      | inr (inr h) ↦ absurd h
    ];
  }
