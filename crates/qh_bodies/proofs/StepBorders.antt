-- Sorted keys of steps and of reversed steps: polygons with the same keys have the same border, and close up with the same polygons.
use Rattle.qh_model.proofs.Common.{◌≡◌, ◌∙◌, ℕ, ◌+◌, Bool, List, ◌++◌, IsPermutation, ap, arith, cond, map, sym, sum_by-IsPermutation, sum_by-append, count_by}
use Rattle.qh_model.proofs.Common.{flat_map, halves, high_of, low_of, AreClosed, steps_round, step_count, is_edge}
use Rattle.qh_model.proofs.{closed_surfaces.SignedVolume.is_edge-back, lists.Counts.count-map}
use Rattle.qh_bodies.proofs.{StepCounts.steps_of_both, Steps.key_counts}
use Rattle.qh_bodies.specs.{contract.Borders.HaveOneBorder, steps.StepKeys.back, steps.StepKeys.AreStepsAndBack, steps.StepKeys.CountOtherwise}

-- the keys of one list of polygons and the reversed keys of the other, in any order
pub steps_and_back : (ps qs : List (List ℕ)) (keys others turned sorted : List ℕ) → map halves keys ≡ flat_map steps_round ps
    → map halves others ≡ flat_map steps_round qs → map halves turned ≡ map back (map halves others)
    → IsPermutation (keys ++ turned) sorted → AreStepsAndBack ps qs sorted
steps_and_back ps qs keys others turned sorted steps other_steps turns same u v =
    sum_by-IsPermutation (λ key. cond (on key) 1 0) (keys ++ turned) sorted same ∙ sum_by-append (λ key. cond (on key) 1 0) keys turned
    ∙ ap (λ n. n + count_by on turned) own ∙ ap (λ n. step_count ps u v + n) turned_back
  where
    on : ℕ → Bool
    on key = is_edge (u, v) (halves key)

    own : count_by on keys ≡ step_count ps u v
    own = sym (count-map halves (is_edge (u, v)) keys) ∙ ap (count_by (is_edge (u, v))) steps

    turned_back : count_by on turned ≡ step_count qs v u
    turned_back =
        sym (count-map halves (is_edge (u, v)) turned) ∙ ap (count_by (is_edge (u, v))) turns
        ∙ count-map back (is_edge (u, v)) (map halves others)
        ∙ ap (λ (f : ℕ × ℕ → Bool). count_by f (map halves others)) (λ i s. is_edge-back (u, v) s i)
        ∙ ap (count_by (is_edge (v, u))) other_steps

-- the case that the keys are the same for both
pub one_border : (ps qs : List (List ℕ)) (keys others : List ℕ) → AreStepsAndBack ps qs keys → AreStepsAndBack qs ps others
    → keys ≡ others → HaveOneBorder ps qs
one_border ps qs keys others f g same u v =
    let e = f u v in let d = g u v in
    let one = ap (count_by (λ key. is_edge (u, v) (halves key))) same in omega (arith, e, d, one)

-- if one has a key more often, the borders differ
pub other_border : (ps qs : List (List ℕ)) (keys others : List ℕ) (z : ℕ) → AreStepsAndBack ps qs keys
    → AreStepsAndBack qs ps others → CountOtherwise keys others z → HaveOneBorder ps qs → ⊥
other_border ps qs keys others z f g otherwise border =
    let e = f (high_of z) (low_of z) in let d = g (high_of z) (low_of z) in let b = border (high_of z) (low_of z) in
    let k = key_counts z keys in let l = key_counts z others in otherwise (omega (arith, e, d, b, k, l))

-- polygons that close up with one list close up with the other
pub closed_by_border : (rest ps qs : List (List ℕ)) → AreClosed (rest ++ ps) → HaveOneBorder ps qs → AreClosed (rest ++ qs)
closed_by_border rest ps qs closed border u v =
    let c = closed u v in let b = border u v in
    let there = steps_of_both u v rest ps in let back = steps_of_both v u rest ps in
    let to = steps_of_both u v rest qs in let fro = steps_of_both v u rest qs in omega (arith, c, b, there, back, to, fro)
