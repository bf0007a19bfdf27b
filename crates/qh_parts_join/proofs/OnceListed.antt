-- A list whose different ids are at least the number of its items has each once.
use Rattle.qh_model.proofs.Common.{ℕ, ◌+◌, ◌≤◌, inl, inr, List, [], ◌∷◌, ◌++◌, length, arith, sym, subst, length-append, ◌↔◌, IsFinished, Surface, Vector, In}
use Rattle.qh_model.proofs.{Common.Once, lists.Joined.in_append, lists.Joined.of_append, lists.OnceEach.once_within, surfaces.Inside.finished_over}

module _ {X : Type 0} (each : List X) (once : Once each) where
  -- if the members of `each` are in two lists that together are no longer, the second list has each of its members once
  behind : (before xs : List X) → ((x : X) → In x each → In x (before ++ xs)) → length before + length xs ≤ length each → Once xs
  behind before [] all short = tt
  behind before (x ∷ xs) all short = (again, behind (before ++ x ∷ []) xs moved (omega (arith, short, length-append before (x ∷ []))))
    where
      -- if x occurred twice, it could be omitted
      again : In x xs → ⊥
      again m =
          omega (arith, once_within each (before ++ xs) once left_out, length-append before xs, short)
        where
          left_out : (y : X) → In y each → In y (before ++ xs)
          left_out y h = in_append before xs y (elim (of_append before (x ∷ xs) y (all y h)) [
            | inl b ↦ inl b
            | inr (inl e) ↦ inr (subst (λ z. In z xs) (sym e) m)
            | inr (inr r) ↦ inr r
          ])

      moved : (y : X) → In y each → In y ((before ++ x ∷ []) ++ xs)
      moved y h = in_append (before ++ x ∷ []) xs y (elim (of_append before (x ∷ xs) y (all y h)) [
        | inl b ↦ inl (in_append before (x ∷ []) y (inl b))
        | inr (inl e) ↦ inl (in_append before (x ∷ []) y (inr (inl e)))
        | inr (inr r) ↦ inr r
      ])

  pub once_by_length : (xs : List X) → ((x : X) → In x each → In x xs) → length xs ≤ length each → Once xs
  once_by_length xs all short = behind [] xs all (omega (arith, short))

-- a surface is finished for the same ids in another list
pub finished_for : (at : ℕ → Vector) (a b : List ℕ) (m : Surface) → IsFinished at a m → ((l : ℕ) → In l a ↔ In l b) → IsFinished at b m
finished_for at a b m z same = finished_over at a b m z (λ l. (same l).0) (λ f i l k. z.unseen f i l ((same l).1 k))
