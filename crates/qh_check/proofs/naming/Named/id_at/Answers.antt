-- The point of the id at the position is at the place.
use Rattle.qh_model.proofs.{Common.◌≡◌, Common.◌∙◌, Common.ap, Common.get_or, Common.sym, Common.get_or_default, Common.place, Members.In-get_or}
use Rattle.qh_check.proofs.naming.Named.id_at.Goals as goal

pub returns-then-are_same : goal.returns-then-are_same
returns-then-are_same c =
    let ids = c.args.self.ids.now in let k = c.args.position in let l = c.if-position-self.true in
    let other = c.index-self-position.result in let own = c.index-self-position-then-are_same.result in
    let here : get_or ids k own ≡ get_or ids k other = get_or_default ids k own other l in (
      In-get_or ids k own l,
      ap (place c.args.self.pts.now) here ∙ sym c.point_at.ensures ∙ c.are_same.ensures.0 c.if-are_same.true,
    )
