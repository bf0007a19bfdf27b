-- The number of times that polygons take a step: list by list, and in any order.
use Rattle.qh_model.proofs.Common.{◌≡◌, ◌∙◌, ℕ, ◌+◌, List, [], ◌∷◌, ◌++◌, IsPermutation, ap, arith, cond, refl, sym, flat_map-append, sum_by-IsPermutation}
use Rattle.qh_model.proofs.Common.{sum_by-append, sum_by-cons, count_by, flat_map, sum_by, AreClosed, steps_round, step_count, is_edge}

module _ (u v : ℕ) where
  abbrev is_step : ℕ × ℕ → ℕ
  is_step e = cond (is_edge (u, v) e) 1 0

  -- the count for one polygon
  abbrev round_count : List ℕ → ℕ
  round_count q = count_by (is_edge (u, v)) (steps_round q)

  -- the count for two lists of polygons
  pub steps_of_both : (ps qs : List (List ℕ)) → step_count (ps ++ qs) u v ≡ step_count ps u v + step_count qs u v
  steps_of_both = grind (arith, flat_map-append, sum_by-append)

  -- the count polygon by polygon
  by_polygon : (qs : List (List ℕ)) → step_count qs u v ≡ sum_by round_count qs
  by_polygon [] = refl
  by_polygon (q ∷ qs) =
      sum_by-append is_step (steps_round q) (flat_map steps_round qs) ∙ ap (λ n. round_count q + n) (by_polygon qs)
      ∙ sym (sum_by-cons round_count q qs)

  -- the count for another order
  pub steps_permuted : (ps qs : List (List ℕ)) → IsPermutation ps qs → step_count qs u v ≡ step_count ps u v
  steps_permuted ps qs same = by_polygon qs ∙ sum_by-IsPermutation round_count ps qs same ∙ sym (by_polygon ps)

-- polygons that close up do so in any order
pub closed_permuted : (ps qs : List (List ℕ)) → IsPermutation ps qs → AreClosed ps → AreClosed qs
closed_permuted ps qs same closed u v = steps_permuted u v ps qs same ∙ closed u v ∙ sym (steps_permuted v u ps qs same)

-- a list that closes up with some polygons, and one that closes up with others, together close up with all of these
pub closed_of_both : (ps gone qs left all : List (List ℕ)) → IsPermutation (ps ++ qs) all → AreClosed (ps ++ gone) → AreClosed (qs ++ left)
    → AreClosed (all ++ (gone ++ left))
closed_of_both ps gone qs left all same first second u v =
    let a = first u v in let b = second u v in let there = taken u v in let back = taken v u in omega (arith, a, b, there, back)
  where
    taken : (u v : ℕ) → step_count (all ++ (gone ++ left)) u v ≡ step_count (ps ++ gone) u v + step_count (qs ++ left) u v
    taken u v =
        let all_of = steps_of_both u v all (gone ++ left) in let rest = steps_of_both u v gone left in
        let own = steps_permuted u v (ps ++ qs) all same in let both = steps_of_both u v ps qs in
        let one = steps_of_both u v ps gone in let other = steps_of_both u v qs left in
        omega (arith, all_of, rest, own, both, one, other)
