use Rattle.qconvex_c.proofs.FanLists.{fans_filled, fans_rest, fans_short}
use Rattle.qconvex_c.proofs.exported.qconvex_fans.Goals as goal

pub returns-then-fill_fans-clause-done : goal.returns-then-fill_fans-clause-done
returns-then-fill_fans-clause-done c e = let d = c.fill_fans.ensures.done c.if-fill_fans.true in fans_filled _ _ _ _ c.in-Ok.ensures _ _ d.0 d.1

pub returns-then-fill_fans-clause-triangles_rest : goal.returns-then-fill_fans-clause-triangles_rest
returns-then-fill_fans-clause-triangles_rest c e = (fans_rest _ _ _ _ c.in-Ok.ensures _ _ _ _ (c.fill_fans.ensures.rest c.if-fill_fans.true)).0

pub returns-then-fill_fans-clause-normals_rest : goal.returns-then-fill_fans-clause-normals_rest
returns-then-fill_fans-clause-normals_rest c e = (fans_rest _ _ _ _ c.in-Ok.ensures _ _ _ _ (c.fill_fans.ensures.rest c.if-fill_fans.true)).1

pub returns-clause-room : goal.returns-clause-room
returns-clause-room c e = fans_short _ _ _ _ c.in-Ok.ensures _ _ (c.fill_fans.ensures.short c.if-fill_fans.false)
