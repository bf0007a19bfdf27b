-- Neighbours round a polygon.
use Rattle.qh_model.proofs.Common.{◌≡◌, ℕ, refl, sym, ◌⊎◌, inl, inr, List, [], ◌∷◌, ⊎_elim, FollowsAlong, Follows, In, arith}

-- neighbours on a path are members of it
pub along_members : (u v t : ℕ) (r : List ℕ) (e : ℕ) → FollowsAlong u v t r e → In u (t ∷ r) × ((v ≡ e) ⊎ In v r)
along_members u v t [] e f = (inl (sym f.0), inl (sym f.1))
along_members u v t (w ∷ r) e (inl f) = (inl (sym f.0), inr (inl (sym f.1)))
along_members u v t (w ∷ r) e (inr f) = let g = along_members u v w r e f in (inr g.0, ⊎_elim (λ h. inl h) (λ h. inr (inr h)) g.1)

-- neighbours are members
pub follows_members : (u v : ℕ) (q : List ℕ) → Follows u v q → In u q × In v q
follows_members = grind (arith, along_members)

-- each id on a path has a successor
pub along_next : (u t : ℕ) (r : List ℕ) (e : ℕ) → In u (t ∷ r) → (v : ℕ) × FollowsAlong u v t r e
along_next u t [] e (inl h) = (e, (sym h, refl))
along_next u t [] e (inr h) = absurd h
along_next u t (w ∷ r) e (inl h) = (w, inl (sym h, refl))
along_next u t (w ∷ r) e (inr h) = let g = along_next u w r e h in (g.0, inr g.1)

-- each member of a polygon has a successor
pub next_member : (u : ℕ) (q : List ℕ) → In u q → (v : ℕ) × Follows u v q
next_member u [] i = absurd i
next_member u (t ∷ r) i = along_next u t r t i
