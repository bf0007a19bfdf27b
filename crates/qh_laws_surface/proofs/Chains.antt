-- Closed paths over the corners of a polygon. If they take no reversed side, and each other step as often as the step back, they take all sides equally often.
use Rattle.qh_model.proofs.Common.{◌≡◌, ℕ, ◌≤◌, arith, refl, sym, subst, ◌∙◌, inl, inr, ⊎_elim, List, [], ◌∷◌, false, cond, eqb, cases_Bool, eqb-true, ints}
use Rattle.qh_model.proofs.Common.{flat_map, ℤ, pos, ◌+ℤ◌, ◌-ℤ◌, FollowsAlong, Follows, steps_along, steps_round, is_edge}
use Rattle.qh_model.proofs.{Decisions.Decided, closed_surfaces.SignedVolume.edge_tests, closed_surfaces.SignedVolume.eqb-refl, closed_surfaces.Sums.sum_z}
use Rattle.qh_laws_surface.proofs.StepCounts.{alike_tests, times, pair_ends, Beside, follows_or_not, IsOdd, sum-append, sum_off, lead, lead-odd}

-- 1 for a step that ends at u, and -1 for a step that begins at u
abbrev pub arrival : ℕ → (ℕ × ℕ) → ℤ
arrival u e = pos (cond (eqb e.1 u) 1 0) -ℤ pos (cond (eqb e.0 u) 1 0)

along_arrivals : (u t : ℕ) (r : List ℕ) (e : ℕ) → sum_z (arrival u) (steps_along t r e) ≡ pos (cond (eqb e u) 1 0) -ℤ pos (cond (eqb t u) 1 0)
along_arrivals u t [] e = omega (arith, ints)
along_arrivals u t (w ∷ r) e = omega (arith, ints, along_arrivals u w r e)

round_arrivals : (u : ℕ) (q : List ℕ) → sum_z (arrival u) (steps_round q) ≡ pos 0
round_arrivals u [] = refl
round_arrivals u (t ∷ r) = omega (arith, ints, along_arrivals u t r t)

pub all_arrivals : (u : ℕ) (qs : List (List ℕ)) → sum_z (arrival u) (flat_map steps_round qs) ≡ pos 0
all_arrivals u [] = refl
all_arrivals u (q ∷ qs) =
    sum-append (arrival u) (steps_round q) (flat_map steps_round qs) ∙ omega (arith, ints, round_arrivals u q, all_arrivals u qs)

-- the steps of closed paths of this kind
pub record AreWays (F : List ℕ) (es : List (ℕ × ℕ)) : Type 0 where
  pub apart : (u v : ℕ) → ¬ (Beside F u v) → times u v es ≡ times v u es
  pub one_way : (u v : ℕ) → Follows u v F → times v u es ≡ 0
  pub once : (u v : ℕ) → Follows u v F → times u v es ≤ 1
  pub arrive : (u : ℕ) → sum_z (arrival u) es ≡ pos 0
  pub one_before : (x y u : ℕ) → Follows x u F → Follows y u F → x ≡ y
  pub one_after : (u x y : ℕ) → Follows u x F → Follows u y F → x ≡ y

module _ (F : List ℕ) (es : List (ℕ × ℕ)) (ways : AreWays F es) where
  -- on sides, a step to u begins at the previous corner, and a step from u ends at the next corner
  module _ (p u s : ℕ) (hp : Follows p u F) (hs : Follows u s F) where
    abbrev rest : (ℕ × ℕ) → ℤ
    rest e = arrival u e +ℤ (lead u s e -ℤ lead p u e)

    rest-odd : IsOdd rest
    rest-odd e = omega (arith, ints, lead-odd u s e, lead-odd p u e)

    rest_sum : (fs : List (ℕ × ℕ)) → sum_z rest fs
        ≡ sum_z (arrival u) fs +ℤ ((pos (times u s fs) -ℤ pos (times s u fs)) -ℤ (pos (times p u fs) -ℤ pos (times u p fs)))
    rest_sum [] = refl
    rest_sum (e ∷ fs) = omega (arith, ints, rest_sum fs)

    on_side : (x y : ℕ) → Follows x y F → ¬ (Follows y x F) → rest (x, y) ≡ pos 0
    on_side x y f nf = rw (
      arrives,
      leaves,
      is_not u p x y (λ q. nf (subst (λ a. Follows a x F) (pair_ends q).1 (subst (λ b. Follows p b F) (pair_ends q).0 hp))),
      is_not s u x y (λ q. nf (subst (λ a. Follows a x F) (pair_ends q).1 (subst (λ b. Follows u b F) (pair_ends q).0 hs))),
    ) (omega (arith, ints))
      where
        is_not : (a b c f : ℕ) → ¬ (◌≡◌ {A = ℕ × ℕ} (a, b) (c, f)) → is_edge (a, b) (c, f) ≡ false
        is_not a b c f h = elim (cases_Bool (is_edge (a, b) (c, f))) [ inl t ↦ absurd (h (edge_tests.same (a, b) (c, f) t)) | inr t ↦ t ]

        arrives : eqb y u ≡ is_edge (p, u) (x, y)
        arrives = alike_tests (eqb y u) (is_edge (p, u) (x, y)) (
          λ t. let e = eqb-true y u t in rw (← ways.one_before p x u hp (subst (λ t. Follows x t F) e f), e) (edge_tests.itself (p, u)),
          λ t. rw (← (pair_ends (edge_tests.same (p, u) (x, y) t)).1) (eqb-refl u),
        )

        leaves : eqb x u ≡ is_edge (u, s) (x, y)
        leaves = alike_tests (eqb x u) (is_edge (u, s) (x, y)) (
          λ t. let e = eqb-true x u t in rw (e, ← ways.one_after u s y hs (subst (λ t. Follows t y F) e f)) (edge_tests.itself (u, s)),
          λ t. rw (← (pair_ends (edge_tests.same (u, s) (x, y) t)).0) (eqb-refl u),
        )

    balanced : (x y : ℕ) → ¬ (rest (x, y) ≡ pos 0) → times x y es ≡ times y x es
    balanced x y h = by (follows_or_not F x y) (follows_or_not F y x)
      where
        by : Decided (Follows x y F) → Decided (Follows y x F) → times x y es ≡ times y x es
        by (inl f) (inl g) = ways.one_way y x g ∙ sym (ways.one_way x y f)
        by (inl f) (inr n) = absurd (h (on_side x y f n))
        by (inr n) (inl g) = absurd (h (let o = rest-odd (y, x) in let z = on_side y x g n in omega (arith, ints, o, z)))
        by (inr n) (inr k) = ways.apart x y (λ b. ⊎_elim n k b)

    -- so both sides at a corner are taken equally often
    goes_on : times p u es ≡ times u s es
    goes_on = omega (arith, ints, sum_off rest rest-odd es balanced, rest_sum es, ways.arrive u, ways.one_way p u hp, ways.one_way u s hs)

  along_same : (p t : ℕ) (r : List ℕ) (e : ℕ) (k : ℕ) → Follows p t F → times p t es ≡ k → ((x y : ℕ) → FollowsAlong x y t r e → Follows x y F)
      → (x y : ℕ) → FollowsAlong x y t r e → times x y es ≡ k
  along_same p t [] e k f h all x y g =
      subst (λ a. times a y es ≡ k) g.0 (subst (λ b. times t b es ≡ k) g.1 (sym (goes_on p t e f (all t e (refl, refl))) ∙ h))
  along_same p t (w ∷ r) e k f h all x y (inl g) =
      subst (λ a. times a y es ≡ k) g.0 (subst (λ b. times t b es ≡ k) g.1 (sym (goes_on p t w f (all t w (inl (refl, refl)))) ∙ h))
  along_same p t (w ∷ r) e k f h all x y (inr g) =
      along_same t w r e k (all t w (inl (refl, refl))) (sym (goes_on p t w f (all t w (inl (refl, refl)))) ∙ h) (λ a b i. all a b (inr i)) x y g

closing : (t : ℕ) (r : List ℕ) (e : ℕ) → (p : ℕ) × FollowsAlong p e t r e
closing t [] e = (t, (refl, refl))
closing t (w ∷ r) e = let c = closing w r e in (c.0, inr c.1)

-- all sides are taken equally often
pub equally_often : (F : List ℕ) (es : List (ℕ × ℕ)) → AreWays F es → (u v x y : ℕ) → Follows u v F → Follows x y F → times u v es ≡ times x y es
equally_often [] es w u v x y f g = absurd f
equally_often (t ∷ r) es w u v x y f g =
    let p = closing t r t in
    let all = along_same (t ∷ r) es w p.0 t r t (times p.0 t es) p.1 refl (λ a b i. i) in
    all u v f ∙ sym (all x y g)
