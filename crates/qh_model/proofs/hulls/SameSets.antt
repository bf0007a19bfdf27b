-- Sets with the same members have the same hull, and a part of a set with all its extreme ids has its hull.
use Rattle.qh_model.proofs.Common.{ℕ, ◌≡◌, List, map, refl, ap, subst, ◌∙◌, ◌↔◌, HasDistinctPoints, Extreme, BodyValue, IsBody, Members, Vector}
use Rattle.std.proofs.lemmas.List.{map-id}
use Rattle.qh_model.specs.laws.HullLaws.{ExtremesOfPart, BodyOfPart}
use Rattle.qh_model.proofs.{extremes.ExtremeIds.listed_itself, extremes.ExtremeIds.extremes_between, renamed.Bodies.renamed_body, renamed.Bodies.body_renamed}
use Rattle.qh_model.proofs.{hulls.OfExtremes.body_of_extremes, renamed.Renaming.IsRenaming, renamed.Renaming.renaming_back, renamed.Renaming.extreme_renamed}

-- two sets have the same members
abbrev pub Same : (ℕ → Type 0) → (ℕ → Type 0) → Type 0
Same A B = (i : ℕ) → A i ↔ B i

-- each id named by itself
own_names : (at : ℕ → Vector) (A B : ℕ → Type 0) → Same A B → IsRenaming at at A B (λ i. i) (λ i. i)
own_names at A B s = record { to = λ i. (s i).0; from = λ i. (s i).1; over = λ i a. refl; under = λ i b. refl; point = λ i a. refl; rises = λ i j a b h. h }

-- sets with the same members have the same extremes
pub extreme_as : (at : ℕ → Vector) (A B : ℕ → Type 0) → Same A B → Same (Extreme at A) (Extreme at B)
extreme_as at A B s i = (extreme_renamed (own_names at A B s) i, extreme_renamed (renaming_back (own_names at A B s)) i)

-- sets with the same members have the same hull
body_as : (at : ℕ → Vector) (A B : ℕ → Type 0) (b : BodyValue) → Same A B → IsBody at A b → IsBody at B b
body_as at A B b s f = subst (IsBody at B) same (body_renamed (own_names at A B s) b f)
  where
    polygons : map (map (λ i. i)) b.polygons ≡ b.polygons
    polygons = ap (λ (f : List ℕ → List ℕ). map f b.polygons) (λ j q. map-id q j) ∙ map-id b.polygons

    same : renamed_body (λ i. i) b ≡ b
    same = λ i. record b { extremes = map-id b.extremes i; polygons = polygons i }

-- proof of the law `ExtremesOfPart`
pub extremes_of_part : ExtremesOfPart
extremes_of_part at ids part d sub sup = extremes_between at (Members ids) (Members part) ids (listed_itself ids) d sub sup

-- proof of the law `BodyOfPart`
pub body_of_part : BodyOfPart
body_of_part at ids part b d sub sup f =
    let apart : HasDistinctPoints at (Members part) = (λ i j h k e. d i j (sub i h) (sub j k) e) in
    let same : Same (Extreme at (Members part)) (Extreme at (Members ids)) = extremes_of_part at ids part d sub sup in
    (body_of_extremes at ids b d).0 (body_as at (Extreme at (Members part)) (Extreme at (Members ids)) b same ((body_of_extremes at part b apart).1 f))
