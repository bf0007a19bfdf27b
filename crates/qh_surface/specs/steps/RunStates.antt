-- The state of a run that the definitions use.
use Rattle.qh_surface.specs.{declared.quickhull.run.QuickhullRun.QuickhullRun, steps.Runs.RunState}

-- the lists of a run, without those that are used within one round only
abbrev pub state_of : QuickhullRun → RunState
state_of r =
    record { points = r.points.items; mesh = r.mesh; planes = r.planes.items; sets = r.sets; pending = r.pending.items }
