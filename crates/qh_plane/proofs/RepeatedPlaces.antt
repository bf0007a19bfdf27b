-- Keys that are related to the key before, found one by one.
use Rattle.qh_model.proofs.Common.{◌≡◌, ℕ, ◌+◌, ◌-◌, ◌%◌, ◌<◌, ◌≤◌, ◌⊎◌, inl, inr, List, [], ◌∷◌, ◌++◌, length, get_or, arith, ap, subst, ◌∙◌, ℕ_discrete, In}
use Rattle.{qh_model.proofs.lists.Joined.in_append, qh_model.proofs.lists.Joined.of_append, qh_plane.specs.steps.PlaceKeys.AreRelatedIds}

module _ (Related : ℕ → ℕ → Type 0) (room : ℕ) (keys : List ℕ) where
  abbrev key : ℕ → ℕ
  key k = get_or keys k 0

  -- the first key has no key before it
  pub none_related : AreRelatedIds Related room keys 1 []
  none_related = record { has = λ j l. absurd (omega (arith, l)); only = λ i m. absurd m }

  -- in the end all keys are decided
  pub all_related : (n : ℕ) (ids : List ℕ) → length keys ≤ n → AreRelatedIds Related room keys n ids → AreRelatedIds Related room keys (length keys) ids
  all_related n ids h told = record { has = λ j l w. told.has j (omega (arith, h, w)) w; only = told.only }

  module _ (j : ℕ) (ids : List ℕ) (some : 1 ≤ j) (told : AreRelatedIds Related room keys j ids) where
    -- a key that is related to the key before is listed
    pub one_related : j < length keys → Related (key (j - 1)) (key j) → AreRelatedIds Related room keys (j + 1) (ids ++ key j % room ∷ [])
    one_related within here = record {
      has = λ i l w r. in_append ids (key j % room ∷ []) (key (i + 1) % room) (has i l w r (ℕ_discrete (i + 1) j));
      only = λ i m. only i (of_append ids (key j % room ∷ []) i m);
    }
      where
        has : (i : ℕ) → i + 1 < j + 1 → i + 1 < length keys → Related (key i) (key (i + 1)) → Dec (i + 1 ≡ j)
            → In (key (i + 1) % room) ids ⊎ In (key (i + 1) % room) (key j % room ∷ [])
        has i l w r (yes q) = inr (inl (ap (λ m. key m % room) q))
        has i l w r (no ne) = inl (told.has i (omega (arith, l, ne)) w r)

        only : (i : ℕ) → In i ids ⊎ In i (key j % room ∷ [])
            → (k : ℕ) × (k + 1 < length keys) × Related (key k) (key (k + 1)) × (i ≡ key (k + 1) % room)
        only i (inl m) = told.only i m
        only i (inr (inl e)) =
            let next : j ≡ j - 1 + 1 = omega (arith, some) in (
              j - 1,
              subst (λ m. m < length keys) next within,
              subst (λ m. Related (key (j - 1)) (key m)) next here,
              e ∙ ap (λ m. key m % room) next,
            )
        only i (inr (inr a)) = absurd a

    -- a key that is not is left out
    pub none_more : (Related (key (j - 1)) (key j) → ⊥) → AreRelatedIds Related room keys (j + 1) ids
    none_more new = record { has = λ i l w r. has i l w r (ℕ_discrete (i + 1) j); only = told.only }
      where
        has : (i : ℕ) → i + 1 < j + 1 → i + 1 < length keys → Related (key i) (key (i + 1)) → Dec (i + 1 ≡ j) → In (key (i + 1) % room) ids
        has i l w r (yes q) =
            let before : i ≡ j - 1 = omega (arith, q) in
            absurd (new (subst (λ m. Related (key (j - 1)) (key m)) q (subst (λ m. Related (key m) (key (i + 1))) before r)))
        has i l w r (no ne) = told.has i (omega (arith, l, ne)) w r
