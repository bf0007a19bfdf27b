-- The polygons so far are found to be pieces.
use Rattle.{std.proofs.Common.ℕ, std.proofs.Common.◌<◌, std.proofs.Common.[], std.proofs.Common.get_or, qh_check.specs.steps.Findings.IsSeen}
use Rattle.qh_check.proofs.search.fault_among.Given as goal

abbrev pub invariant-loop-position : goal.invariant-loop-position
invariant-loop-position l = (k : ℕ) → k < l.position → IsSeen l.claim.pts.now l.claim.ids.now l.faces (get_or l.claim.polygons.now k [])
