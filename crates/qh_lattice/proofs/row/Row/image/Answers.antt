use Rattle.{std.proofs.lemmas.Option.IfSome_then, qh_lattice.proofs.Rows.offset_scaled}
use Rattle.qh_lattice.proofs.row.Row.image.Goals as goal

pub returns-then-unsigned_abs-from : goal.returns-then-unsigned_abs-from
returns-then-unsigned_abs-from c =
    let row = c.args.self.now in
    IfSome_then c.scaled.result c.scaled.ensures
    (λ x p. (offset_scaled c.reach.result _ row.centre row.scale x c.reach.ensures.limit row.near row.small c.reach.ensures.value p.0, p.1))
