-- The facets of a ring, gathered one by one, and the planes of facets.
use Rattle.qh_model.proofs.Common.{◌≡◌, ℕ, ◌⊎◌, inl, inr, List, [], ◌∷◌, ◌++◌, map, sym, subst, refl, Surface, Vector, In}
use Rattle.{qh_model.proofs.lists.Joined.in_append, qh_model.proofs.lists.Joined.of_append, qh_pred.specs.contract.Planes.PlaneValue}
use Rattle.qh_parts.specs.steps.Witnesses.{IsPlaneOf, HasPlane}
use Rattle.qh_parts_join.proofs.Asked.{AreAsked, asking_starts, asking_goes, next_live}

-- the facets for which Q holds among the live facets that were tested, and only live ones
pub record AreRing (Q : ℕ → Type 0) (live left found : List ℕ) : Type 0 where
  pub all : AreAsked (λ f. Q f → In f found) live left
  pub only : (f : ℕ) → In f found → In f live

-- at the start there is no facet
pub ring_starts : (Q : ℕ → Type 0) (live left found : List ℕ) → left ≡ live → found ≡ [] → AreRing Q live left found
ring_starts Q live left found e none = record { all = asking_starts _ live left e; only = λ f i. absurd (subst (In f) none i) }

module _ (Q : ℕ → Type 0) (live all left found : List ℕ) (f : ℕ) (a : AreRing Q live all found) (is : all ≡ f ∷ left) where
  -- one more facet of the ring
  pub one_found : AreRing Q live left (found ++ f ∷ [])
  one_found = record {
    all = asking_goes _ live all left f wider is (λ q. in_append found (f ∷ []) f (inr (inl refl)));
    only = λ g i. elim (of_append found (f ∷ []) g i) [
      | inl o ↦ a.only g o
      | inr (inl e) ↦ subst (λ h. In h live) (sym e) (next_live _ live all left f a.all is)
      | inr (inr n) ↦ absurd n
    ];
  }
    where
      wider : AreAsked (λ g. Q g → In g (found ++ f ∷ [])) live all
      wider = record {
        live_left = a.all.live_left;
        asked = λ g i. elim (a.all.asked g i) [ inl k ↦ inl k | inr h ↦ inr (λ q. in_append found (f ∷ []) g (inl (h q))) ];
      }

  -- one more facet that is not in the ring
  pub none_found : (Q f → ⊥) → AreRing Q live left found
  none_found out = record { all = asking_goes _ live all left f a.all is (λ q. absurd (out q)); only = a.only }

-- one more facet, by its key
pub ring_goes : (Q : ℕ → Type 0) (live all left : List ℕ) (g : ℕ → ℕ) (keys more : List ℕ) (f : ℕ) → AreRing Q live all (map g keys)
    → all ≡ f ∷ left → (map g more ≡ map g keys ++ f ∷ []) ⊎ ((Q f → ⊥) × (more ≡ keys)) → AreRing Q live left (map g more)
ring_goes Q live all left g keys more f a is (inl new) = subst (AreRing Q live left) (sym new) (one_found Q live all left (map g keys) f a is)
ring_goes Q live all left g keys more f a is (inr (out, same)) =
    subst (λ v. AreRing Q live left (map g v)) (sym same) (none_found Q live all left (map g keys) f a is out)

-- a plane in a list is in a longer list
pub plane_among_more : (at : ℕ → Vector) (m : Surface) (planes : List PlaneValue) (plane : PlaneValue) (f : ℕ) → HasPlane at m planes f
    → HasPlane at m (planes ++ plane ∷ []) f
plane_among_more at m planes plane f (own, i, is) = (own, in_append planes (plane ∷ []) own (inl i), is)

-- the last plane of a list is in it
pub plane_at_end : (at : ℕ → Vector) (m : Surface) (planes : List PlaneValue) (plane : PlaneValue) (f : ℕ) → IsPlaneOf at m f plane
    → HasPlane at m (planes ++ plane ∷ []) f
plane_at_end at m planes plane f is = (plane, in_append planes (plane ∷ []) plane (inr (inl refl)), is)
