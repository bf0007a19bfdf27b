-- A multiple of the plane is within the spans and deep enough.
use Rattle.qh_model.proofs.Common.{rules, sym, ◌∙◌, to_z-of_z, w128, SFits}
use Rattle.qh_places.proofs.BundleSlabs.{of_bundle}
use Rattle.qh_places.proofs.bundles.Bundle.has.Goals.{then-has, else-has, then-has-2, else-has-2}
use Rattle.qh_places.proofs.bundles.Bundle.has.Goals as goal

pub returns-then-has-3 : goal.returns-then-has-3
returns-then-has-3 c t = elim c.if-has-2.branch [
  | else-has-2 v ↦ absurd (let p = c.if-has-3.true in let q = v.value-is in let r = v.if-has-2.false in cc)
  | then-has-2 v ↦ elim c.if-has.branch [
    | else-has w ↦ absurd (let p = v.if-has-2.true in let q = w.value-is in let r = w.if-has.false in cc)
    | then-has w ↦ (
        let fx : SFits w128 c.x.result = record { sfits = c.x.type_inv } in
        let fy : SFits w128 w.y.result = record { sfits = w.y.type_inv } in
        let fz : SFits w128 v.z.result = record { sfits = v.z.type_inv } in
        let gx : SFits w128 c.scaled.result = record { sfits = c.scaled.type_inv } in
        let gy : SFits w128 w.scaled-then-has.result = record { sfits = w.scaled-then-has.type_inv } in
        let gz : SFits w128 v.scaled-then-has-2.result = record { sfits = v.scaled-then-has-2.type_inv } in
        let gh : SFits w128 c.height.result = record { sfits = c.height.type_inv } in
        let gd : SFits w128 c.args.self.now.depth = search rules in
        let hx = rw c.x.ensures.value at (simp to_z-of_z at c.scaled.ensures) in
        let hy = rw w.y.ensures.value at (simp to_z-of_z at w.scaled-then-has.ensures) in
        let hz = rw v.z.ensures.value at (simp to_z-of_z at v.scaled-then-has-2.ensures) in
        let bx = simp to_z-of_z at (c.has.ensures w.if-has.true) in
        let by_y = simp to_z-of_z at (w.has-then-has.ensures (sym w.value-is ∙ v.if-has-2.true)) in
        let bz = simp to_z-of_z at (v.has-then-has-2.ensures (sym v.value-is ∙ c.if-has-3.true)) in
        let deep = simp to_z-of_z at (c.is_deep.ensures t) in
        of_bundle c.args.self.now c.args.plane.now c.normal-normal.result c.scale_of-times.result c.height.result
        c.scaled.result w.scaled-then-has.result v.scaled-then-has-2.result c.normal-normal.ensures c.scale_of-times.ensures.some
        hx hy hz bx by_y bz c.height.ensures deep
        )
  ]
]
