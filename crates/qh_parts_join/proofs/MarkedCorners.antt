-- Marks of the corners of facets, which a loop sets facet by facet.
use Rattle.qh_model.proofs.Common.{◌≡◌, ℕ, inl, inr, List, Bool, [], ◌∷◌, length, true, Surface, IsCorner, In}
use Rattle.qh_surface.specs.contract.Walks.{mark_at}
use Rattle.qh_parts_join.proofs.Asked.{AreAsked, asking_starts, asking_goes}

-- there are n marks, and those of the corners of the live facets that were tested are set
pub record AreMarked (m : Surface) (n : ℕ) (left : List ℕ) (marks : List Bool) : Type 0 where
  pub len : length marks ≡ n
  pub set : AreAsked (λ f. (l : ℕ) → IsCorner m f l → mark_at marks l ≡ true) m.live left

-- at the start all facets remain
pub none_marked : (m : Surface) (n : ℕ) (left : List ℕ) (marks : List Bool) → length marks ≡ n → left ≡ m.live → AreMarked m n left marks
none_marked m n left marks len all = record { len = len; set = asking_starts _ m.live left all }

-- the corners of a facet, in a list
pub listed : (m : Surface) (f l : ℕ) → IsCorner m f l → In l (m.i f ∷ m.j f ∷ m.k f ∷ [])
listed m f l (inl e) = inl e
listed m f l (inr (inl e)) = inr (inl e)
listed m f l (inr (inr e)) = inr (inr (inl e))

pub corner : (m : Surface) (f l : ℕ) → In l (m.i f ∷ m.j f ∷ m.k f ∷ []) → IsCorner m f l
corner m f l (inl e) = inl e
corner m f l (inr (inl e)) = inr (inl e)
corner m f l (inr (inr (inl e))) = inr (inr e)
corner m f l (inr (inr (inr n))) = absurd n

-- the marks of one more facet's corners are set
pub one_more : (m : Surface) (n : ℕ) (all left : List ℕ) (f : ℕ) (marks more : List Bool) → AreMarked m n all marks → all ≡ f ∷ left
    → length more ≡ length marks → ((l : ℕ) → In l (m.i f ∷ m.j f ∷ m.k f ∷ []) → mark_at more l ≡ true)
    → ((l : ℕ) → mark_at marks l ≡ true → mark_at more l ≡ true) → AreMarked m n left more
one_more m n all left f marks more a is len set kept = record {
  len = rw a.len at len;
  set = asking_goes _ m.live all left f wider is (λ l k. set l (listed m f l k));
}
  where
    wider : AreAsked (λ g. (l : ℕ) → IsCorner m g l → mark_at more l ≡ true) m.live all
    wider = record {
      live_left = a.set.live_left;
      asked = λ g i. elim (a.set.asked g i) [ inl k ↦ inl k | inr h ↦ inr (λ l c. kept l (h l c)) ];
    }
