-- The first of some ids and one more is the earlier of the two.
use Rattle.qh_model.proofs.Common.{◌≡◌, ◌∙◌, ◌<◌, ◌+◌, ℕ, List, length, get_or, arith, subst, sym, ◌⊎◌, ⊎_elim, get_or_default_zero, ints, ℤ, ◌≤ℤ◌, In}
use Rattle.{qh_model.proofs.Members.In-get_or, qh_model.proofs.Members.All-In, qh_model.proofs.Members.in_at, qh_block.specs.steps.Segments.position}
use Rattle.qh_block.proofs.segment.first_along.Goals as goal

lowest : (f : ℕ → ℤ) (ids : List ℕ) (i s k r : ℕ) → i < length ids → k ≡ get_or ids i k → (r ≡ k) ⊎ (r ≡ s) → f r ≤ℤ f k → f r ≤ℤ f s
    → In s ids → ((m : ℕ) → m < i → f s ≤ℤ f (get_or ids m 0)) → In r ids × ((m : ℕ) → m < i + 1 → f r ≤ℤ f (get_or ids m 0))
lowest f ids i s k r l e one a b ms low =
    let is = e ∙ get_or_default_zero ids i k l in (
      ⊎_elim (λ q. subst (λ v. In v ids) (sym (q ∙ is)) (In-get_or ids i 0 l)) (λ q. subst (λ v. In v ids) (sym q) ms) one,
      λ m n. grind (arith, ints, low, n, is, a, b),
    )

pub loop-id-preserved : goal.loop-id-preserved
loop-id-preserved c =
    let pts = c.args.set.pts.now in let ids = c.args.set.ids.now in let e = c.earlier-first.ensures in
    let kept = lowest (position pts c.args.a c.args.b) ids _ _ _ c.earlier-first.result c.loop-id-test.true c.id-item.is
    e.one e.not_k e.not_l c.loop-id.invariant.1 c.loop-id.invariant.2 in
    (All-In (λ v. v < length pts) ids c.earlier-first.result c.args.set.indices kept.0, kept.0, kept.1)

pub returns : goal.returns
returns c =
    let at = position c.args.set.pts.now c.args.a c.args.b in
    record {
      member = c.loop-id.invariant.1;
      first = λ k m. let r = in_at c.args.set.ids.now k m in
          subst (λ v. at c.loop-id.first ≤ℤ at v) r.2 (c.loop-id.invariant.2 r.0 (omega (arith, r.1, c.loop-id-test.false)));
    }
