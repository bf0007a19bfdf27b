-- The result is an order of the four that turns left at each.
use Rattle.qh_model.proofs.Common.{◌≡◌, ◌⊎◌, inl, inr, ℕ, [], ◌∷◌, refl, sym, ◌∙◌, arith, common_steps, ◌↔◌, In}
use Rattle.qh_polygon.proofs.planar.quadrilateral.Goals.{then-turns_left, else-turns_left}
use Rattle.qh_polygon.proofs.planar.quadrilateral.Goals as goal

-- two ids in one order or the other
abbrev IsPair : ℕ × ℕ → ℕ → ℕ → Type 0
IsPair p j k = (p ≡ (j, k)) ⊎ (p ≡ (k, j))

-- the other id may be at any position
module _ (p : ℕ × ℕ) (j k l : ℕ) (o : IsPair p j k) where
  last : (z : ℕ) → In z (j ∷ k ∷ l ∷ []) ↔ In z (p.0 ∷ p.1 ∷ l ∷ [])
  last z = elim o [ inl e ↦ rw e (λ m. m, λ m. m) | inr e ↦ rw e (λ m. grind (arith, common_steps, m), λ m. grind (arith, common_steps, m)) ]

  middle : (z : ℕ) → In z (j ∷ k ∷ l ∷ []) ↔ In z (p.0 ∷ l ∷ p.1 ∷ [])
  middle z = let f = last z in (λ m. grind (arith, common_steps, f.0 m), λ m. f.1 (grind (arith, common_steps, m)))

  front : (z : ℕ) → In z (j ∷ k ∷ l ∷ []) ↔ In z (l ∷ p.0 ∷ p.1 ∷ [])
  front z = let f = last z in (λ m. grind (arith, common_steps, f.0 m), λ m. f.1 (grind (arith, common_steps, m)))

pub returns-then-goes_left : goal.returns-then-goes_left
returns-then-goes_left c = (
  c.if-turns_left.j.0,
  c.if-turns_left.j.1,
  c.args.l,
  refl,
  sym c.goes_left.ensures ∙ c.if-goes_left.true,
  last _ _ _ c.args.l (elim c.if-turns_left.branch [ then-turns_left w ↦ inl w.j-is | else-turns_left w ↦ inr w.j-is ]),
)

pub returns-then-goes_left-2 : goal.returns-then-goes_left-2
returns-then-goes_left-2 c = (
  c.if-turns_left.j.0,
  c.args.l,
  c.if-turns_left.j.1,
  refl,
  sym c.goes_left-else-goes_left.ensures ∙ c.if-goes_left-2.true,
  middle _ _ _ c.args.l (elim c.if-turns_left.branch [ then-turns_left w ↦ inl w.j-is | else-turns_left w ↦ inr w.j-is ]),
)

pub returns-then-goes_left-3 : goal.returns-then-goes_left-3
returns-then-goes_left-3 c = (
  c.args.l,
  c.if-turns_left.j.0,
  c.if-turns_left.j.1,
  refl,
  sym c.goes_left-else-goes_left-2.ensures ∙ c.if-goes_left-3.true,
  front _ _ _ c.args.l (elim c.if-turns_left.branch [ then-turns_left w ↦ inl w.j-is | else-turns_left w ↦ inr w.j-is ]),
)
