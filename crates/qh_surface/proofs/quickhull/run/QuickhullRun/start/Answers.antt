-- The initial simplex, with all points orphans.
use Rattle.qh_model.proofs.Common.{◌∙◌, ap, range_with_len}
use Rattle.qh_surface.proofs.runs.FirstSimplexes.{IsFirst, first_remade}
use Rattle.qh_surface.proofs.quickhull.run.QuickhullRun.start.Goals as goal

-- the mesh is that of an initial simplex of the points
first : (c : goal.After-settle-arg-2-1)
    → IsFirst c.args.points.items c.in_ok-mesh.mesh c.args.first.i c.args.first.j c.args.first.k c.args.first.l
first c = record {
  i_in = c.requires.i_in;
  j_in = c.requires.j_in;
  k_in = c.requires.k_in;
  l_in = c.requires.l_in;
  volume = c.requires.volume;
  up = rw (c.deref.ensures.value) at c.in_ok-mesh.ensures.up;
  down = rw (c.deref.ensures.value) at c.in_ok-mesh.ensures.down;
  sound = rw (c.deref.ensures.value) at c.in_ok-mesh.ensures.sound;
  closed = rw (c.deref.ensures.value) at c.in_ok-mesh.ensures.closed;
}

pub settle-requires-clause-remade : goal.settle-requires-clause-remade
settle-requires-clause-remade c =
    let count = c.in-Ok.ensures.1 ∙ c.len.ensures ∙ c.args.points.ok.0 in let v = c.in_ok-sets.sets in let s = c.args.first in
    let ps = c.room_for.result.items in let pending = c.room_for-2.result.items in
    rw (c.ask_for_room.ensures, c.ask_for_room-2.ensures, c.new-4.ensures, c.new-5.ensures, c.new-6.ensures, c.new-7.ensures)
    (first_remade (record { points = c.args.points.items; mesh = c.in_ok-mesh.mesh; planes = ps; sets = v; pending = pending }) s.i s.j s.k s.l (first c)
    (c.in_ok-sets.ensures.positions ∙ count) (c.in_ok-sets.ensures.orphans ∙ ap (range_with_len 0) count) c.in_ok-sets.ensures.sets
    c.room_for-2.ensures)
