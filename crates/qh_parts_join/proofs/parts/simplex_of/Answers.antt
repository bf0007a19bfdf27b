-- The first four shared ids do not lie in one plane.
use Rattle.qh_model.proofs.{Common.refl, Common.sym, Common.subst, Common.arith, Common.In, Members.In-get_or}
use Rattle.qh_parts_join.proofs.parts.simplex_of.Goals as goal

pub returns : goal.returns
returns c = λ ids inside.
    let shared = c.args.shared.now in let long = c.in-len4-up.len_at_least in record {
      has_i = inside _ (subst (λ x. In x shared) (sym c.i-item.is) (In-get_or shared 0 c.i-item.result (omega (arith, long))));
      has_j = inside _ (subst (λ x. In x shared) (sym c.j-item.is) (In-get_or shared 1 c.j-item.result (omega (arith, long))));
      has_k = inside _ (subst (λ x. In x shared) (sym c.k-item.is) (In-get_or shared 2 c.k-item.result (omega (arith, long))));
      has_l = inside _ (subst (λ x. In x shared) (sym c.l-item.is) (In-get_or shared 3 c.l-item.result (omega (arith, long))));
      volume = λ e. c.if-vol-eq0.false (rw (c.vol.ensures, c.point_at-a.ensures, c.point_at-b.ensures, c.point_at-c.ensures, c.point_at-d.ensures, e) refl);
    }
