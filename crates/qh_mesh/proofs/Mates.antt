-- The order of the sides of a horizon: each has one mate at either end, and is the mate of its mate.
use Rattle.std.proofs.Common.{◌≡◌, ℕ, ◌<◌, ◌≤◌, inl, inr, arith, ap, sym, ◌∙◌, refl, subst, Bool, nat_eq, List, length}
use Rattle.std.proofs.lemmas.{Bool.cases_lt, Bool.eq-eqb, Bool.eqb-true, List.take_all}
use Rattle.std.specs.Prelude.{count_by}
use Rattle.qh_model.proofs.lists.Counts.{counted, counted_apart, counted_at}
use Rattle.qh_mesh.specs.declared.{facets.FacetSide.FacetSide, slots.End.End, slots.End.TheVariants.Start, slots.End.TheVariants.Finish, slots.Slot.Slot}
use Rattle.qh_mesh.specs.steps.Horizons.{side_at, no_side, corner, other, rank, noted, IsBalanced, IsMate, AreNoted}

-- true if the corner at this end is l
abbrev pub meets : End → ℕ → FacetSide → Bool
meets end l h = nat_eq (corner end h) l

module _ (hs : List FacetSide) where
  -- the rank of a side is less than the number of sides that meet it
  pub rank_below : IsBalanced hs → (end : End) (j i l : ℕ) → j < length hs → l ≡ corner end (side_at hs j) → length hs ≤ i
      → rank hs end l j < rank hs (other end) l i
  rank_below b end j i l h q n =
      let c = counted (meets end l) no_side hs j h (eq-eqb (corner end (side_at hs j)) l (sym q)) in
      let e = b end l in let a = ap (count_by (meets (other end) l)) (take_all i hs n) in omega arith

  -- so each side has a mate
  pub has_mate : IsBalanced hs → (end : End) (j : ℕ) → (i : ℕ) × (j < length hs → IsMate hs end j i)
  has_mate b end j = elim (cases_lt j (length hs)) [
    | inl l ↦ (let c = corner end (side_at hs j) in
        let r = counted_at (meets (other end) c) no_side hs (rank hs end c j) (length hs) (omega arith)
        (rank_below b end j (length hs) c l refl (omega arith)) in
        (r.0, λ _. record { inside = r.1; meets = eqb-true (corner (other end) (side_at hs r.0)) c r.2; rank = r.3 }))
    | inr h ↦ (0, λ l. absurd (omega arith))
  ]

  -- and no other one
  pub mate_only : (end : End) (j i i' : ℕ) → IsMate hs end j i → IsMate hs end j i' → i ≡ i'
  mate_only = grind (arith, counted_apart, eq-eqb)

  -- each side is the mate of its mate
  mate_back : (end : End) (j i : ℕ) → j < length hs → IsMate hs end j i → IsMate hs (other end) i j
  mate_back Start j i l m = record { inside = l; meets = sym m.meets; rank = rw m.meets (sym m.rank) }
  mate_back Finish j i l m = record { inside = l; meets = sym m.meets; rank = rw m.meets (sym m.rank) }

  pub mate_twice : (b : IsBalanced hs) (end : End) (j : ℕ) → j < length hs → (has_mate b (other end) (has_mate b end j).0).0 ≡ j
  mate_twice b end j l =
      let i = (has_mate b end j).0 in let m = (has_mate b end j).1 l in let k = has_mate b (other end) i in
      mate_only (other end) i k.0 j (k.1 m.inside) (mate_back end j i l m)

  -- the table has the mate
  pub mate_noted : (ss : List Slot) → IsBalanced hs → AreNoted ss hs → (end : End) (j l : ℕ) → j < length hs
      → l ≡ corner end (side_at hs j) → IsMate hs end j (noted ss (other end) l)
  mate_noted ss b n end j l i q =
      let m = has_mate b end j in let h = m.1 i in
      subst (IsMate hs end j) (sym (n (other end) m.0 h.inside).1 ∙ ap (noted ss (other end)) (h.meets ∙ sym q)) h
