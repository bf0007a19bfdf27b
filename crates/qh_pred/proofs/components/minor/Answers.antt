use Rattle.qh_model.proofs.Common.{◌*ℤ◌, ◌-ℤ◌, FitsSigned, lit<, to_z-of_z, w64}
use Rattle.qh_pred.proofs.components.minor.Goals as goal
use Rattle.qh_pred.specs.contract.Bounds.{difference_limit}
use Rattle.qh_pred.proofs.Bounds.{minor_fits}

pub overflow_sub-result : goal.overflow_sub-result
overflow_sub-result c =
    let fa : FitsSigned w64 c.args.a = c.ranges.a in
    let fb : FitsSigned w64 c.args.b = c.ranges.b in
    let fc : FitsSigned w64 c.args.c = c.ranges.c in
    let fd : FitsSigned w64 c.args.d = c.ranges.d in
    let f = minor_fits difference_limit c.args.a c.args.b c.args.c c.args.d
    (lit< tt) c.requires.a_within c.requires.b_within c.requires.c_within c.requires.d_within c.requires.wide
    c.requires.high in
    let f1 : FitsSigned w64 (c.args.a *ℤ c.args.b) = f.first in
    let f2 : FitsSigned w64 (c.args.c *ℤ c.args.d) = f.second in
    simp to_z-of_z f.whole

pub returns : goal.returns
returns c =
    let fa : FitsSigned w64 c.args.a = c.ranges.a in
    let fb : FitsSigned w64 c.args.b = c.ranges.b in
    let fc : FitsSigned w64 c.args.c = c.ranges.c in
    let fd : FitsSigned w64 c.args.d = c.ranges.d in
    let f = minor_fits difference_limit c.args.a c.args.b c.args.c c.args.d
    (lit< tt) c.requires.a_within c.requires.b_within c.requires.c_within c.requires.d_within c.requires.wide
    c.requires.high in
    let f1 : FitsSigned w64 (c.args.a *ℤ c.args.b) = f.first in
    let f2 : FitsSigned w64 (c.args.c *ℤ c.args.d) = f.second in
    let f3 : FitsSigned w64 (c.args.a *ℤ c.args.b -ℤ c.args.c *ℤ c.args.d) = f.whole in
    record { value = simp to_z-of_z; limit = simp to_z-of_z f.bound }
