-- Four times the height of the middle is the sum of four volumes.
use Rattle.qh_model.proofs.Common.{rules, ◌≡◌, ◌∙◌, to_z-of_z, ℤ, pos, ◌+ℤ◌, ◌≤ℤ◌, w128, SFits}
use Rattle.qh_parts.proofs.seam.triangles.Four.is_behind.Goals as goal

same_sum : (a b c d x y z w : ℤ) → a ≡ x → b ≡ y → c ≡ z → d ≡ w → (a +ℤ b +ℤ c +ℤ d) ≤ℤ pos 0 → (x +ℤ y +ℤ z +ℤ w) ≤ℤ pos 0
same_sum a b c d x y z w p q r s low = rw (p, q, r, s) at low

pub returns : goal.returns
returns c t =
    let fs : SFits w128 c.height-s.result = search rules in
    let ft : SFits w128 c.height-t.result = search rules in
    let fu : SFits w128 c.height-u.result = search rules in
    let fv : SFits w128 c.height-v.result = search rules in
    let low = simp to_z-of_z at (c.is_low.ensures t) in
    same_sum _ _ _ _ _ _ _ _ (c.height-s.ensures ∙ c.through-plane.ensures _) (c.height-t.ensures ∙ c.through-plane.ensures _)
    (c.height-u.ensures ∙ c.through-plane.ensures _) (c.height-v.ensures ∙ c.through-plane.ensures _) low
