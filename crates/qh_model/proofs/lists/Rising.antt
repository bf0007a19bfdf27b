-- Rising lists of numbers by position, their parts, and two rising lists joined.
use Rattle.qh_model.proofs.Common.{ℕ, ◌≡◌, ◌+◌, ◌-◌, ◌≤◌, ◌<◌, List, ◌++◌, length, get_or, take, drop, arith, get_or-append_right, common_steps}
use Rattle.qh_model.proofs.Common.{get_or_append_left, get_or-range_with_len, length-range_with_len, range_with_len, IsStrictlyIncreasing, In}
use Rattle.qh_model.proofs.{Cuts.bounds_order, Members.In-get_or}

-- a later position has a greater number
pub rising_between : (xs : List ℕ) (p q : ℕ) → IsStrictlyIncreasing xs → p < q → q < length xs → get_or xs p 0 < get_or xs q 0
rising_between xs p q h l m =
    let step : get_or xs p 0 < get_or xs (p + 1) 0 = h p (grind (arith, l, m)) in
    let rest : get_or xs (p + 1) 0 ≤ get_or xs q 0 =
    bounds_order (λ k. get_or xs k 0) (length xs - 1) (p + 1) q (λ k n. h k (grind (arith, n))) (grind (arith, l)) (grind (arith, m)) in
    grind (arith, step, rest)

-- the number at a position of a part
pub part_at : (xs : List ℕ) (f n k : ℕ) → k < length (take n (drop f xs)) → get_or (take n (drop f xs)) k 0 ≡ get_or xs (f + k) 0
part_at xs f n k h = grind (arith, common_steps)

-- a part of a rising list rises
pub rising_part : (xs : List ℕ) (f n : ℕ) → IsStrictlyIncreasing xs → IsStrictlyIncreasing (take n (drop f xs))
rising_part xs f n h k l =
    let a = part_at xs f n k (grind (arith, l)) in
    let b = part_at xs f n (k + 1) l in
    let next : get_or xs (f + k) 0 < get_or xs (f + k + 1) 0 = h (f + k) (grind (arith, common_steps, l)) in
    grind (arith, a, b, next)

-- the front of a rising list rises
pub rising_front : (xs ys : List ℕ) → IsStrictlyIncreasing (xs ++ ys) → IsStrictlyIncreasing xs
rising_front xs ys h k l =
    grind (arith, common_steps, h k (grind (arith, common_steps, l)), get_or_append_left xs ys 0 k, get_or_append_left xs ys 0 (k + 1), l)

-- the back of a rising list rises
pub rising_back : (xs ys : List ℕ) → IsStrictlyIncreasing (xs ++ ys) → IsStrictlyIncreasing ys
rising_back xs ys h k l =
    let next : get_or (xs ++ ys) (length xs + k) 0 < get_or (xs ++ ys) (length xs + k + 1) 0 = h (length xs + k) (grind (arith, common_steps, l)) in
    grind (arith, common_steps, next, get_or-append_right xs ys (length xs + k) 0, get_or-append_right xs ys (length xs + k + 1) 0, l)

-- the numbers below a count rise
pub range_rises : (n : ℕ) → IsStrictlyIncreasing (range_with_len 0 n)
range_rises = grind (arith, length-range_with_len, get_or-range_with_len)

-- two rising lists, the second above the first, joined rise
pub rising_append : (xs ys : List ℕ) → IsStrictlyIncreasing xs → IsStrictlyIncreasing ys
    → ((x y : ℕ) → In x xs → In y ys → x < y) → IsStrictlyIncreasing (xs ++ ys)
rising_append xs ys f g below k l =
    let first : k + 1 < length xs → get_or (xs ++ ys) k 0 < get_or (xs ++ ys) (k + 1) 0 =
    (λ h. grind (arith, f k h, get_or_append_left xs ys 0 k, get_or_append_left xs ys 0 (k + 1))) in
    let seam : k + 1 ≡ length xs → get_or (xs ++ ys) k 0 < get_or (xs ++ ys) (k + 1) 0 =
    (λ h. grind (
      arith,
      h,
      l,
      common_steps,
      below (get_or xs k 0) (get_or ys 0 0) (In-get_or xs k 0 (grind (arith, h)))
          (In-get_or ys 0 0 (grind (arith, common_steps, h, l))),
      get_or_append_left xs ys 0 k,
      get_or-append_right xs ys (k + 1) 0,
    )) in
    let second : length xs ≤ k → get_or (xs ++ ys) k 0 < get_or (xs ++ ys) (k + 1) 0 =
    (λ h. grind (arith, h, g (k - length xs) (grind (arith, common_steps, h, l)), get_or-append_right xs ys k 0, get_or-append_right xs ys (k + 1) 0)) in
    grind (arith, first, seam, second)
