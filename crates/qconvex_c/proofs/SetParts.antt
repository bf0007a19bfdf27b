-- Parts of buffers: a write to a part leaves the others unchanged.
use Rattle.{qconvex_c.specs.contract.Sets.AreKeptBetween, std.proofs.lemmas.List.take-take, std.proofs.lemmas.List.drop-take}
use borrow.Rule.Slice.PartMut.{put_mid, take_put, drop_put}
use Rattle.qh_model.proofs.Common.{◌≡◌, ℕ, ◌+◌, ◌-◌, ◌≤◌, List, length, take, drop, arith, ap, sym, ◌∙◌, drop-drop, length-take-le, length-drop, slice_range}

-- the length of a part
length-part : (a e : ℕ) (xs : List ℕ) → e ≤ length xs → length (slice_range xs a e) ≡ e - a
length-part a e xs h = length-take-le (e - a) (drop a xs) (omega (arith, length-drop a xs))

-- a write to the part from a to before e
pub kept_between : (a e : ℕ) (xs ys : List ℕ) → a ≤ e → e ≤ length xs
    → length ys ≡ length (slice_range xs a e) → AreKeptBetween a e xs (put_mid a (e - a) xs ys)
kept_between a e xs ys h k l = record { front = take_put a (e - a) xs ys (omega arith); rest = drop_put a e xs ys h k (l ∙ length-part a e xs k) }

module _ {X : Type 0} (xs ys : List X) where
  -- lists with a common prefix have each shorter prefix in common
  pub same_front : (m n : ℕ) → take n ys ≡ take n xs → m ≤ n → take m ys ≡ take m xs
  same_front m n same h = sym (take-take m n ys h) ∙ ap (take m) same ∙ take-take m n xs h

  -- lists with a common prefix have the same parts in it
  pub same_part : (a e n : ℕ) → take n ys ≡ take n xs → a ≤ e → e ≤ n → slice_range ys a e ≡ slice_range xs a e
  same_part a e n same h k =
      let whole : (a + (e - a)) ≡ e = omega arith in
      let first = same_front (a + (e - a)) n same (omega arith) in
      sym (drop-take a (e - a) ys) ∙ ap (drop a) first ∙ drop-take a (e - a) xs

  -- lists with a common suffix have each shorter suffix in common
  pub same_end : (m n : ℕ) → drop m ys ≡ drop m xs → m ≤ n → drop n ys ≡ drop n xs
  same_end m n same h =
      let whole : m + (n - m) ≡ n = omega arith in
      ap (λ k. drop k ys) (sym whole) ∙ sym (drop-drop (n - m) m ys) ∙ ap (drop (n - m)) same ∙ drop-drop (n - m) m xs ∙ ap (λ k. drop k xs) whole

-- a write to a part that is adjacent to the parts written before
pub kept_longer : (a b e : ℕ) (xs ys zs : List ℕ)
    → AreKeptBetween a b xs ys → AreKeptBetween b e ys zs → a ≤ b → b ≤ e → AreKeptBetween a e xs zs
kept_longer a b e xs ys zs before now h k = record {
  front = same_front ys zs a b now.front h ∙ before.front;
  rest = now.rest ∙ same_end xs ys b e before.rest k;
}
