-- The keys have the ids.
use Rattle.qh_model.proofs.Common.{ℕ, ◌<◌, List, subst, sym, length, IsPermutation-sym, In, place}
use Rattle.qh_model.proofs.{Members.All-In, Members.All-of, Members.in_permutation, lists.Images.in_map, lists.Images.of_map}
use Rattle.qh_check.specs.steps.Hidden.{id_in, IsUnderOne}
use Rattle.qh_check.proofs.convex.hidden.Surroundings.has_under.Goals as goal

pub are_under-requires : goal.are_under-requires
are_under-requires c =
    rw c.deref.ensures.value (All-of (λ key. id_in key < length c.args.self.now.pts.now) c.in_ok-keys.keys.items (λ key m.
    All-In (λ i. i < length c.args.self.now.pts.now) c.args.ids.now (id_in key) c.requires
    (in_permutation _ _ (IsPermutation-sym _ _ c.in_ok-keys.ensures) (id_in key) (in_map id_in c.in_ok-keys.keys.items key m))))

pub returns : goal.returns
returns c = λ t l m.
    (let s = c.args.self.now in
    let r = of_map id_in c.in_ok-keys.keys.items l (in_permutation _ _ c.in_ok-keys.ensures l m) in
    subst (λ (i : ℕ). IsUnderOne (place s.pts.now) s.up.now s.middle (place s.pts.now i)) (sym r.2)
    (c.are_under.ensures t r.0 (subst (λ (ks : List ℕ). In r.0 ks) (sym c.deref.ensures.value) r.1)))
