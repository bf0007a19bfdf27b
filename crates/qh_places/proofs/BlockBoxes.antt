-- Blocks of points over consecutive blocks of positions.
use Rattle.qh_model.proofs.Common.{◌≡◌, ℕ, ◌+◌, ◌-◌, ◌*◌, ◌<◌, ◌≤◌, arith, sym, ap, subst, ◌∙◌, inl, inr, List, [], ◌∷◌, ◌++◌, length, get_or, take, drop, min}
use Rattle.qh_model.proofs.Common.{length-append, length-drop, get_or-append_seam, length-take, get_or-take, get_or-drop, get_or_append_left, cases_lt, Vector}
use Rattle.{qh_model.proofs.Common.origin, qh_places.specs.declared.slabs.Block.Block}
use Rattle.qh_places.specs.steps.{Slabs.IsInBlock, Slabs.IsBlockOf, Levels.AreBlocks, Levels.HasBlocks}

-- no blocks yet
pub blocks_start : (points : List Vector) (size : ℕ) → HasBlocks points points size []
blocks_start points size = record {
  blocks = λ n b h. absurd (omega arith);
  len = omega arith;
  same = λ k h. ap (λ n. get_or points n origin) (omega arith);
}

-- one more block
module _ (points rest : List Vector) (size m : ℕ) (bs : List Block) (b : Block) (some : 0 < size)
    (h : HasBlocks points rest size bs) (e : m ≡ min size (length rest))
    (box : IsBlockOf (take m rest) 0 (length (take m rest)) b) where
  more : length (bs ++ b ∷ []) ≡ length bs + 1
  more = length-append bs (b ∷ [])

  front : length (take m rest) ≡ m
  front = length-take m rest ∙ (let r : min m (length rest) ≡ m = omega arith in r)

  back : length (drop m rest) ≡ length rest - m
  back = length-drop m rest

  lens : length (drop m rest) ≡ length points - length (bs ++ b ∷ []) * size
  lens =
      back ∙ (let l = h.len in let r : length rest - m ≡ length points - (length bs + 1) * size = omega arith in r)
      ∙ ap (λ n. length points - n * size) (sym more)

  same : (k : ℕ) → k < length (drop m rest)
      → get_or (drop m rest) k origin ≡ get_or points (length (bs ++ b ∷ []) * size + k) origin
  same k l =
      let inside : k < length rest - m = subst (λ n. k < n) back l in
      let r : length bs * size + (m + k) ≡ (length bs + 1) * size + k = omega arith in
      get_or-drop m rest k origin ∙ h.same (m + k) (omega arith) ∙ ap (λ n. get_or points n origin) (r ∙ ap (λ n. n * size + k) (sym more))

  -- the points of the new block
  own : (k : ℕ) → length bs * size ≤ k → k < length bs * size + size → k < length points
      → IsInBlock b (get_or points k origin)
  own k from to l =
      let len = h.len in let j : ℕ = k - length bs * size in
      let inside : j < m = omega arith in
      let here : j < length rest = omega arith in
      let there : length bs * size + j ≡ k = omega arith in
      let l : j < length (take m rest) = subst (λ n. j < n) (sym front) inside in
      subst (IsInBlock b) (get_or-take m rest j origin inside ∙ h.same j here ∙ ap (λ n. get_or points n origin) there) (box j (omega arith) l l)

  each : AreBlocks points size (bs ++ b ∷ [])
  each n c l e k from to inside = elim (cases_lt n (length bs)) [
    | inl x ↦ h.blocks n c x (e ∙ get_or_append_left bs (b ∷ []) c n x) k from to inside
    | inr x ↦ (
        let last : length bs ≡ n = omega (arith, more, l, x) in
        let is : c ≡ b = e ∙ ap (λ i. get_or (bs ++ b ∷ []) i c) (sym last) ∙ get_or-append_seam bs b [] c in
        rw is (own k (subst (λ i. i * size ≤ k) (sym last) from) (subst (λ i. k < i * size + size) (sym last) to) inside)
        )
  ]

  pub blocks_grow : HasBlocks points (drop m rest) size (bs ++ b ∷ [])
  blocks_grow = record { blocks = each; len = lens; same = same }
