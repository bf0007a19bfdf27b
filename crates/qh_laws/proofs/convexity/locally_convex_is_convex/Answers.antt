use Rattle.qh_laws.proofs.Convex.{local_is_convex, under_triangle_is_below, local_supports}
use Rattle.qh_laws.proofs.convexity.locally_convex_is_convex.Goals as goal

pub returns : goal.returns
returns c = record { corners = local_is_convex; below = under_triangle_is_below; support = local_supports }
