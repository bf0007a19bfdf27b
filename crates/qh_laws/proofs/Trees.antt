-- Any tree over the parts of a list of points results in the extreme ids of the list, and their hull is that of all points.
use Rattle.qh_model.proofs.Common.{◌≡◌, ◌≢◌, ℕ, ◌<◌, List, length, arith, sym, subst, ◌∙◌, ◌⊎◌, inl, inr, IsStrictlyIncreasing, Combination, AreDistinctIds}
use Rattle.qh_model.proofs.Common.{Extreme, Others, AreExtremes, place, In, Members, Vector}
use Rattle.qh_model.proofs.{Decisions.Decided, Decisions.in_or_not, DistinctIds.distinct_apart, hulls.Unique.rising_list_is_unique, hulls.Unique.body_is_unique}
use Rattle.qh_model.proofs.{combinations.OtherNames.combination_by_names, extremes.ExtremeIds.combination_within, extremes.ExtremeIds.members_are_combinations}
use Rattle.qh_model.proofs.hulls.SameSets.{body_of_part}
use Rattle.qh_laws.specs.laws.TreeLaws.{Tree, part, join, extremes, IsGiven, IsUnion, ComesOut, AnyTreeOfUnions, HullOfAnyTree}
use Rattle.qh_laws.proofs.{Answers.IsLowest, Answers.answer_is, Lowest.lowest_id}

-- the result of a tree consists of ids of it, and includes all extreme ids of the whole list that are in the tree
record IsKept (pts : List Vector) (ids : List ℕ) (t : Tree) (xs : List ℕ) : Type 0 where
  rising : IsStrictlyIncreasing xs
  within : (i : ℕ) → In i xs → IsGiven t i
  has : (i : ℕ) → Extreme (place pts) (Members ids) i → IsGiven t i → In i xs

module _ (pts : List Vector) (ids : List ℕ) (d : AreDistinctIds pts ids) where
  -- an extreme id of the whole list is extreme among any ids that include it
  extreme_among : (ys : List ℕ) → ((j : ℕ) → In j ys → j < length pts) → (i : ℕ) → Extreme (place pts) (Members ids) i → In i ys
      → Extreme (place pts) (IsLowest pts ys) i
  extreme_among ys inside i e m = (record { member = m; lowest = λ j h n. first j h }, λ c. e.1 (in_whole c))
    where
      first : (j : ℕ) → j < i → place pts j ≢ place pts i
      first = ((d.members i).0 e.0).1

      lowest : ℕ → ℕ
      lowest j = (lowest_id pts j).id

      -- the id is the only lowest id of its point
      alone : (j : ℕ) → IsLowest pts ys j → place pts j ≡ place pts i → j ≡ i
      alone j o q =
          let below : j < i → ⊥ = λ h. first j h q in
          let above : i < j → ⊥ = λ h. o.lowest i h m (sym q) in
          grind (arith, below, above)

      other : (j : ℕ) → Others (IsLowest pts ys) i j → Others (Members ids) i (lowest j)
      other j o =
          let f = lowest_id pts j in
          let low = f.below in
          let end = inside j o.0.member in (
            (d.members (lowest j)).1 (omega (arith, low, end), λ k h q. f.first k h (q ∙ f.holds)),
            λ q. o.1 (alone j o.0 (sym f.holds ∙ (λ z. place pts (q z)))),
          )

      in_whole : Combination (place pts) (Others (IsLowest pts ys) i) (place pts i) → Combination (place pts) (Others (Members ids) i) (place pts i)
      in_whole =
          combination_by_names (place pts) (place pts) (Others (IsLowest pts ys) i) (Others (Members ids) i) lowest other
          (λ j o. (lowest_id pts j).holds) (place pts i)

  -- an id that is extreme among ids that include all extreme ids of the whole list is one of these
  extreme_of : (ys es : List ℕ) → AreExtremes (place pts) (Members ids) es → ((j : ℕ) → In j ys → j < length pts)
      → ((j : ℕ) → Extreme (place pts) (Members ids) j → In j ys) → (i : ℕ) → Extreme (place pts) (IsLowest pts ys) i → In i es
  extreme_of ys es listed inside has i x = by_cases (in_or_not i es)
    where
      k : ℕ
      k = (lowest_id pts i).id

      same : place pts k ≡ place pts i
      same = (lowest_id pts i).holds

      member : In k ids
      member =
          let f = lowest_id pts i in
          let low = f.below in
          let end = inside i x.0.member in
          (d.members k).1 (omega (arith, low, end), λ j h q. f.first j h (q ∙ f.holds))

      mixed : Combination (place pts) (Extreme (place pts) (Members ids)) (place pts i)
      mixed = subst (Combination (place pts) (Extreme (place pts) (Members ids))) same
          (members_are_combinations (place pts) ids (distinct_apart pts ids d) k member)

      by_cases : Decided (In i es) → In i es
      by_cases (inl m) = m
      by_cases (inr n) = absurd (x.1 (combination_within (place pts) (Extreme (place pts) (Members ids)) (Others (IsLowest pts ys) i) (place pts i) mixed
          (λ j e. ((extreme_among ys inside j e (has j e)).0, λ q. n (subst (λ t. In t es) q ((listed.members j).1 e))))))

  -- by induction over the tree
  kept : (t : Tree) (xs : List ℕ) → ((i : ℕ) → IsGiven t i → i < length pts) → ComesOut pts t xs → IsKept pts ids t xs
  kept (part given) xs inside (rises, e) = record {
    rising = subst IsStrictlyIncreasing (sym e) rises;
    within = λ i m. subst (λ l. In i l) e m;
    has = λ i x g. subst (λ l. In i l) (sym e) g;
  }
  kept (join s t) xs inside (ys, zs, f, g, u) = joined s t ys zs xs u (kept s ys (λ i m. inside i (inl m)) f) (kept t zs (λ i m. inside i (inr m)) g)
    where
      joined : (s t : Tree) (ys zs xs : List ℕ) → IsUnion ys zs xs → IsKept pts ids s ys → IsKept pts ids t zs → IsKept pts ids (join s t) xs
      joined s t ys zs xs u a b = record { rising = u.rising; within = λ i m. from i ((u.members i).0 m); has = λ i e g. (u.members i).1 (into i e g) }
        where
          from : (i : ℕ) → In i ys ⊎ In i zs → IsGiven (join s t) i
          from i (inl m) = inl (a.within i m)
          from i (inr m) = inr (b.within i m)

          into : (i : ℕ) → Extreme (place pts) (Members ids) i → IsGiven s i ⊎ IsGiven t i → In i ys ⊎ In i zs
          into i e (inl g) = inl (a.has i e g)
          into i e (inr g) = inr (b.has i e g)
  kept (extremes t) xs inside (ys, f, answer) = answered t ys xs inside (kept t ys inside f) (λ r. answer_is pts ys xs r answer)
    where
      answered : (t : Tree) (ys xs : List ℕ) → ((i : ℕ) → IsGiven t i → i < length pts) → IsKept pts ids t ys
          → (IsStrictlyIncreasing ys → AreExtremes (place pts) (IsLowest pts ys) xs) → IsKept pts ids (extremes t) xs
      answered t ys xs inside a is = let x = is a.rising in record {
        rising = x.rising;
        within = λ i m. a.within i ((x.members i).0 m).0.member;
        has = λ i e g. (x.members i).1 (extreme_among ys (λ j m. inside j (a.within j m)) i e (a.has i e g));
      }

-- proof of the law `AnyTreeOfUnions`
pub any_tree_of_unions : AnyTreeOfUnions
any_tree_of_unions pts t xs h whole (ys, f, answer) s = rising_list_is_unique xs h.body.extremes x.rising s.body.extremes.rising (λ i. (down i, up i))
  where
    a : IsKept pts s.ids t ys
    a = kept pts s.ids s.distinct_ids t ys (λ i. (whole i).0) f

    x : AreExtremes (place pts) (IsLowest pts ys) xs
    x = answer_is pts ys xs a.rising answer

    inside : (j : ℕ) → In j ys → j < length pts
    inside j m = (whole j).0 (a.within j m)

    has : (j : ℕ) → Extreme (place pts) (Members s.ids) j → In j ys
    has j e = a.has j e ((whole j).1 ((s.distinct_ids.members j).0 e.0).0)

    down : (i : ℕ) → In i xs → In i h.body.extremes
    down i m = extreme_of pts s.ids s.distinct_ids ys h.body.extremes s.body.extremes inside has i ((x.members i).0 m)

    up : (i : ℕ) → In i h.body.extremes → In i xs
    up i m =
        let e = (s.body.extremes.members i).0 m in
        (x.members i).1 (extreme_among pts s.ids s.distinct_ids ys inside i e (has i e))

-- proof of the law `HullOfAnyTree`
pub hull_of_any_tree : HullOfAnyTree
hull_of_any_tree pts t xs b h whole out body s =
    body_is_unique (place pts) s.ids b h.body (body_of_part (place pts) s.ids xs b (distinct_apart pts s.ids s.distinct_ids) within has body)
    s.body
  where
    same : xs ≡ h.body.extremes
    same = any_tree_of_unions pts t xs h whole out s

    within : (i : ℕ) → In i xs → In i s.ids
    within i m = ((s.body.extremes.members i).0 (subst (λ l. In i l) same m)).0

    has : (i : ℕ) → Extreme (place pts) (Members s.ids) i → In i xs
    has i e = subst (λ l. In i l) (sym same) ((s.body.extremes.members i).1 e)
