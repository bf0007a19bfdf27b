-- The chunks of a list: their first positions, and their number.
use Rattle.std.proofs.Common.{◌≡◌, ◌+◌, ◌*◌, ◌/◌, ◌%◌, ◌<◌, ◌≤◌, ℕ, min, List, length, drop, arith, refl, ◌∙◌, subst, ⊎_elim}
use Rattle.std.proofs.lemmas.List.{length-drop, length-take, get_or-take, get_or-drop}
use Rattle.std.proofs.lemmas.{Bool.cases_lt, Nat.div-add-mod', Nat.mod-mul-add}
use native.Mathlib.Nat.{add-mul, one-mul, mul-le-mul_right}
use Rattle.std.specs.Fork.{slice_chunk, IsChunk}

-- an earlier chunk ends at or before the start of a later one
ends_below : (n h size : ℕ) → n < h → n * size + size ≤ h * size
ends_below n h size l =
    let up : n + 1 ≤ h = omega arith in
    omega (arith, mul-le-mul_right size up, add-mul n 1 size, one-mul size)

below_half : (n h size : ℕ) → n * size < h * size → n < h
below_half n h size l = ⊎_elim (λ a. a) (λ b. omega (arith, mul-le-mul_right size b)) (cases_lt n h)

-- the chunks of a list reach its end, and the last one begins before it
pub starts_inside : (n count len size : ℕ) → 0 < size → count ≡ len / size + min 1 (len % size) → n < count → n * size < len
starts_inside n count len size p is l =
    let q = len / size in let r = len % size in
    let a : q * size + r ≡ len = div-add-mod' len size in
    ⊎_elim
    (λ h. let e : n + 1 ≤ q + 1 = omega arith in let w = mul-le-mul_right size e in let o = one-mul size in omega (arith, add-mul n 1 size, add-mul q 1 size))
    (λ h. omega (arith, ends_below n q size (omega arith)))
    (cases_lt 0 r)

pub is_chunk : {X : Type 0} (xs : List X) (size n : ℕ) → 0 < size → n * size < length xs → IsChunk xs size (n * size) (slice_chunk xs size n)
is_chunk xs size n p l =
    let a = length-take size (drop (n * size) xs) in let b = length-drop (n * size) xs in
    record {
      value = refl;
      start_is_multiple = subst (λ k. k % size ≡ 0) {x = n * size + 0} (omega arith) (mod-mul-add n size 0 p);
      len = omega arith;
      full_size = λ z. let q = length xs / size in
          let e : q * size ≡ length xs = omega (arith, div-add-mod' (length xs) size) in
          omega (arith, ends_below n q size (below_half n q size (omega arith)));
      nonempty = omega arith;
      at_most_size = omega arith;
      in_bounds = omega arith;
      elements = λ k d h. get_or-take size (drop (n * size) xs) k d (omega arith) ∙ get_or-drop (n * size) xs k d;
    }
