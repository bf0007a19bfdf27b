-- Lists that are met behind a position of a polygon, by the positions of their members.
use Rattle.std.proofs.Common.{ℕ, zero, suc, ◌≡◌, ◌+◌, ◌-◌, ◌<◌, ◌≤◌, arith, ap, sym, subst, ◌∙◌, inl, inr, List, [], ◌∷◌, ◌++◌, length, get_or, drop, take}
use Rattle.std.proofs.lemmas.List.{get_or-append_right, get_or_append_left, get_or-take, get_or-drop, length-append, length-drop, length-take, drop_more}
use Rattle.{std.proofs.lemmas.List.drop-drop, qh_model.specs.headline.Sets.In, qh_model.proofs.Members.In-get_or, qh_model.proofs.lists.Joined.of_append}
use Rattle.qh_places.proofs.ListMembers.{in_back, in_front}
use Rattle.qh_check.specs.{contract.Pieces.IsMetAlong, contract.Pieces.IsMetRound, steps.Rounds.IsBehind, steps.Rounds.way_behind}

-- ---- from an earlier place
-- a list that is met from a position is met from the position before it
met_more : (p q : List ℕ) (v : ℕ) → IsMetAlong p q → IsMetAlong p (v ∷ q)
met_more [] q v h = tt
met_more (u ∷ p) q v h = inr h

-- a list that is met from a position is met from the first
met_from_first : (p q : List ℕ) (n : ℕ) → IsMetAlong p (drop n q) → IsMetAlong p q
met_from_first p q zero h = h
met_from_first p [] (suc n) h = h
met_from_first p (v ∷ q) (suc n) h = met_more p q v (met_from_first p q n h)

-- a list that is met from a position is met from any earlier position
pub met_earlier : (p q : List ℕ) (m n : ℕ) → m ≤ n → IsMetAlong p (drop n q) → IsMetAlong p (drop m q)
met_earlier p q m n le h = met_from_first p (drop m q) (n - m) (rw (drop-drop (n - m) m q) (subst (λ k. IsMetAlong p (drop k q)) (omega (arith, le)) h))

-- one more member, at a position before that of the next
pub met_before : (p q : List ℕ) (k m n : ℕ) → k < length p → m < length q → m < n → get_or p k 0 ≡ get_or q m 0
    → IsMetAlong (drop (k + 1) p) (drop n q) → IsMetAlong (drop k p) (drop m q)
met_before p q k m n in_p in_q less e h =
    rw (drop_more p k 0 in_p) (rw (drop_more q m 0 in_q) (inl (e, met_earlier (drop (k + 1) p) q (m + 1) n (omega (arith, less)) h)))

-- ---- the way round from behind a position
module _ (face : List ℕ) (from : ℕ) (there : from < length face) where
  pub length-way : length (way_behind face from) + 1 ≡ length face
  length-way = omega (arith, length-append (drop (from + 1) face) (take from face), length-drop (from + 1) face, length-take from face, there)

  -- the corner at the other position comes after this number of steps
  pub behind : (to steps : ℕ) → to < length face → steps + 1 < length face → IsBehind from to (length face) steps
      → get_or (way_behind face from) steps 0 ≡ get_or face to 0
  behind to steps l short (inl (less, e)) =
      get_or_append_left (drop (from + 1) face) (take from face) 0 steps (omega (arith, length-drop (from + 1) face, e, l, there))
      ∙ get_or-drop (from + 1) face steps 0 ∙ ap (λ k. get_or face k 0) e
  behind to steps l short (inr (le, e)) =
      let same : steps - (length face - (from + 1)) ≡ to = omega (arith, e, le, there) in
      get_or-append_right (drop (from + 1) face) (take from face) (length face - (from + 1)) steps 0 (length-drop (from + 1) face) (omega (arith, e, l, there))
      ∙ ap (λ k. get_or (take from face) k 0) (same) ∙ get_or-take from face to 0 (omega (arith, le, e, short))

-- ---- members
along_has : (p q : List ℕ) → IsMetAlong p q → (x : ℕ) → In x p → In x q
along_has [] q h x m = absurd m
along_has (u ∷ p) [] h x m = absurd h
along_has (u ∷ p) (v ∷ q) (inl h) x (inl e) = inl (e ∙ h.0)
along_has (u ∷ p) (v ∷ q) (inl h) x (inr m) = inr (along_has p q h.1 x m)
along_has (u ∷ p) (v ∷ q) (inr h) x m = inr (along_has (u ∷ p) q h x m)

-- an id that is met round a polygon is one of its corners
pub round_has : (q face : List ℕ) → IsMetRound q face → (x : ℕ) → In x q → In x face
round_has [] face h x m = absurd m
round_has (u ∷ p) face (k, (l, at, along)) x (inl e) = subst (λ y. In y face) (at ∙ sym e) (In-get_or face k 0 l)
round_has (u ∷ p) face (k, (l, at, along)) x (inr m) =
    elim (of_append (drop (k + 1) face) (take k face) x (along_has p (drop (k + 1) face ++ take k face) along x m)) [
      | inl d ↦ in_back (k + 1) face x d
      | inr t ↦ in_front k face x t
    ]
