-- The polygons so far are those of the faces.
use Rattle.std.proofs.Common.{ℕ, ◌≡◌, ◌<◌, [], get_or, length}
use Rattle.qh_check.specs.contract.Naming.{AreNamed}
use Rattle.qh_check.proofs.naming.Named.all_renamed.Given as goal

abbrev pub invariant-loop-position : goal.invariant-loop-position
invariant-loop-position l = (length l.polygons.items ≡ l.position)
    × ((k : ℕ) → k < l.position → AreNamed l.self.pts.now l.self.ids.now l.self.list.now (get_or l.faces k []) (get_or l.polygons.items k []))
