-- If all outputs are the rank, three numbers determine the text, and the hull need not be computed.
use Rattle.qh_model.proofs.Common.{◌≡◌, ◌∙◌, ℕ, suc, ◌<◌, ◌++◌, List, [], ◌∷◌, length, refl, ap, sym, arith, All, decimal, IsDimension, AreDistinctIds}
use Rattle.qh_model.proofs.Common.{HullValue, place, Members, line, spaced, output_text, hull_text, IsText, Vector}
use Rattle.qh_model.specs.{declared.out.Out.Out, declared.out.Out.TheVariants.Rank, headline.Text.rank_text}
use Rattle.qh_laws.proofs.FoundHulls.{HullOf, rank_is_text}

-- the three numbers of a hull determine its rank
rank_same : (a b : HullValue) → a.given ≡ b.given → a.distinct ≡ b.distinct → a.body.dim ≡ b.body.dim → rank_text a ≡ rank_text b
rank_same a b e f g = λ i. line (decimal (e i) ++ spaced (f i) ++ spaced (g i))

-- the number of points, the number of distinct ids and the dimension determine the text of outputs that are all the rank
pub ranks_are_text : (pts : List Vector) (ids : List ℕ) (k : ℕ) → AreDistinctIds pts ids → 0 < length pts → IsDimension (place pts) (Members ids) k
    → (h : HullValue) → h.given ≡ length pts → h.distinct ≡ length ids → h.body.dim ≡ k
    → (outs : List Out) → All (λ o. o ≡ Rank) outs → IsText pts outs (hull_text h pts outs)
ranks_are_text pts ids k a some d h given distinct dim outs all = record { hull = f.hull; right = f.right; is = same outs all }
  where
    f : HullOf pts ids k
    f = rank_is_text pts ids k a some d

    same : (os : List Out) → All (λ o. o ≡ Rank) os → hull_text h pts os ≡ hull_text f.hull pts os
    same [] r = refl
    same (o ∷ os) r =
        let is_rank : o ≡ Rank = r 0 o (omega arith) in
        let first : output_text h pts o ≡ output_text f.hull pts o =
        ap (output_text h pts) is_rank
        ∙ (rank_same h f.hull (given ∙ sym f.given) (distinct ∙ sym f.distinct) (dim ∙ sym f.dim) ∙ ap (output_text f.hull pts) (sym is_rank)) in
        let rest = same os (λ n p l. r (suc n) p (omega arith)) in
        λ i. first i ++ rest i
