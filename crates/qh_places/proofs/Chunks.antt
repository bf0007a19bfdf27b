-- A property of each element of all chunks holds for each element of the list.
use Rattle.qh_model.proofs.Common.{◌≡◌, ℕ, ◌+◌, ◌*◌, ◌/◌, ◌%◌, ◌<◌, ◌≤◌, arith, subst, ◌∙◌, ap, inl, inr, List, length, get_or, min, All, mul-le-mul_left}
use Rattle.qh_model.proofs.Common.{cases_lt, IsChunk}

-- a position lies in one of the chunks
chunk_of : (i n size : ℕ) → 0 < size → i < n → i / size < n / size + min 1 (n % size)
chunk_of i n size s l = elim (cases_lt (i / size) (n / size)) [
  | inl h ↦ omega arith
  | inr h ↦ (
      let low : size * (n / size) ≤ size * (i / size) = mul-le-mul_left size h in
      elim (cases_lt (n / size) (i / size)) [
        | inl more ↦ (
            let next : n / size + 1 ≤ i / size = omega arith in
            let high : size * (n / size + 1) ≤ size * (i / size) = mul-le-mul_left size next in absurd (omega arith)
            )
        | inr same ↦ omega arith
      ]
      )
]

pub chunk_all : {X : Type 0} (P : X → Type 0) (xs : List X) (size : ℕ) → 0 < size
    → ((n : ℕ) → n < length xs / size + min 1 (length xs % size) → (ys : List X) × IsChunk xs size (n * size) ys × All P ys) → All P xs
chunk_all {X} P xs size s f i d l = go (f (i / size) (chunk_of i (length xs) size s l))
  where
    go : (ys : List X) × IsChunk xs size (i / size * size) ys × All P ys → P (get_or xs i d)
    go (ys, c, all) =
        let split : i / size * size + i % size ≡ i = omega (arith, s) in
        let here : i % size < length ys = omega (arith, s, split, c.len, l) in
        subst P (c.elements (i % size) d here ∙ ap (λ k. get_or xs k d) split) (all (i % size) d here)
