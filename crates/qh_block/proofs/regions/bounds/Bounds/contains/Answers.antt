-- The conjunction of the three tests.
use Rattle.qh_model.proofs.Common.{◌≡◌, Bool, IsTrue, ℤ, ◌↔◌}
use Rattle.{qh_pred.specs.contract.Ranges.IsBetween, qh_block.proofs.Tests.both, qh_pred.proofs.Coordinates.read_is}
use Rattle.qh_block.proofs.regions.bounds.Bounds.contains.Goals as goal

same : (b : Bool) (l n h l' n' h' : ℤ) → l' ≡ l → n' ≡ n → h' ≡ h → (IsTrue b ↔ IsBetween l' n' h') → IsTrue b ↔ IsBetween l n h
same b l n h l' n' h' p q r f = rw (p, q, r) at f

pub returns-clause-within : goal.returns-clause-within
returns-clause-within c =
    let low = c.args.self.now.low in let high = c.args.self.now.high in let p = c.args.p in
    let x = same _ low.x p.x high.x _ _ _ (read_is c.x.result low.x c.x.type_inv c.x.ensures.value)
    (read_is c.x-2.result p.x c.x-2.type_inv c.x-2.ensures.value) (read_is c.x-3.result high.x c.x-3.type_inv c.x-3.ensures.value) c.is_between.ensures in
    let y = same _ low.y p.y high.y _ _ _ (read_is c.y.result low.y c.y.type_inv c.y.ensures.value)
    (read_is c.y-2.result p.y c.y-2.type_inv c.y-2.ensures.value) (read_is c.y-3.result high.y c.y-3.type_inv c.y-3.ensures.value) c.is_between-2.ensures in
    let z = same _ low.z p.z high.z _ _ _ (read_is c.z.result low.z c.z.type_inv c.z.ensures.value)
    (read_is c.z-2.result p.z c.z-2.type_inv c.z-2.ensures.value) (read_is c.z-3.result high.z c.z-3.type_inv c.z-3.ensures.value) c.is_between-3.ensures in
    let all = both _ _ (both _ _ x y) z in
    (λ t. (let k = all.0 t in record { x = k.0.0; y = k.0.1; z = k.1 }), λ w. all.1 ((w.x, w.y), w.z))
